-- What holds of one container in every run, by its records at the servers: one server has the accepted updates, and every other has an older record, or none.
-- What each change of a record does to that.
use Rattle.st_lemmas.proofs.Words
use Words.{◌≡◌, ◌≢◌, ℕ, ◌+◌, ◌≤◌, ◌⊎◌, Bool, true, false, List, Option, Some, None, refl, sym, ap, ◌∙◌, subst, inl, inr, arith, ServerId}
use Words.Lists.{Has}
use Words.Lookups.{some_is}
use Words.Tables.{same_or_not}
use Rattle.st_move.specs.declared.record.ContainerRecord.{ContainerRecord}
use Rattle.st_move.specs.declared.record.MoveMessage.{MoveMessage}
use Rattle.st_move.specs.declared.record.MoveMessage.TheVariants.{Image, Taken}
use Rattle.st_move.specs.declared.record.ContainerState.{ContainerState}
use Rattle.st_move.specs.declared.record.ContainerState.TheVariants.{Holding, Leaving, Sent, Gone}
use Rattle.st_move.specs.declared.world.SentMove.{SentMove}
use Rattle.st_move.specs.Law.{is_held}

-- the record of a container at each server
abbrev pub Records : Type 0
Records = ℕ → Option ContainerRecord

-- the server has a record of this version or a later one
abbrev pub IsPast : Option ContainerRecord → ℕ → Type 0
IsPast None v = ⊥
IsPast (Some r) v = v ≤ r.version

-- the record with the accepted updates: held in the greatest version, or sent in the next one
abbrev pub IsNewest : ℕ → ℕ → (ℕ → Bool) → ContainerRecord → ContainerState → Type 0
IsNewest holder top row r Holding = r.version ≡ top
IsNewest holder top row r (Leaving to) = (r.version ≡ top) × (to.0 ≢ holder)
IsNewest holder top row r (Sent to) = (r.version ≡ top + 1) × (to.0 ≢ holder) × (row holder ≡ false)
IsNewest holder top row r (Gone to) = ⊥

-- every other record is of a container that was sent, and that the server to which it was sent has taken
abbrev pub IsOlder : Records → ℕ → ContainerRecord → ContainerState → Type 0
IsOlder rec top r Holding = ⊥
IsOlder rec top r (Leaving to) = ⊥
IsOlder rec top r (Sent to) = (r.version ≤ top) × IsPast (rec to.0) r.version
IsOlder rec top r (Gone to) = r.version ≤ top

-- an image was taken already, or is of the container that was sent last; an answer is of no version above the greatest
abbrev pub IsReceived : ℕ → Records → ℕ → List (List ℕ) → ContainerState → ServerId → MoveMessage → Type 0
IsReceived c rec top accepted kept to (Image d v us) = d ≡ c → (IsPast (rec to.0) v × (v ≤ top)) ⊎ ((kept ≡ Sent to) × (v ≡ top + 1) × (us ≡ accepted))
IsReceived c rec top accepted kept to (Taken d v) = d ≡ c → v ≤ top

-- one server has the container
pub record Token (c : ℕ) (rec : Records) (row : ℕ → Bool) (accepted : List (List ℕ)) (ms : List SentMove) : Type 0 where
  pub holder : ℕ
  pub top : ℕ
  pub kept : ContainerRecord
  pub here : rec holder ≡ Some kept
  pub updates : kept.updates ≡ accepted
  pub newest : IsNewest holder top row kept kept.state
  pub older : (s : ℕ) (r : ContainerRecord) → s ≢ holder → rec s ≡ Some r → IsOlder rec top r r.state
  pub rows : (s : ℕ) → s ≢ holder → row s ≡ false
  pub received : (m : SentMove) → Has m ms → IsReceived c rec top accepted kept.state m.to m.message

pub held_not_sent : {to : ServerId} → Holding ≡ Sent to → ⊥
held_not_sent e = cc

-- a server that holds the container is the one
held_older : (rec : Records) (top : ℕ) (r : ContainerRecord) (st : ContainerState) → IsOlder rec top r st → is_held st ≡ true → ⊥
held_older rec top r Holding o h = o
held_older rec top r (Leaving to) o h = o
held_older rec top r (Sent to) o h = cc
held_older rec top r (Gone to) o h = cc

module _ {c : ℕ} {rec : Records} {row : ℕ → Bool} {accepted : List (List ℕ)} {ms : List SentMove} where
  pub held_here : (t : Token c rec row accepted ms) (s : ℕ) (r : ContainerRecord) → rec s ≡ Some r → is_held r.state ≡ true → s ≡ t.holder
  held_here t s r e h = go (same_or_not s t.holder)
    where
      go : (s ≡ t.holder) ⊎ (s ≢ t.holder) → s ≡ t.holder
      go (inl i) = i
      go (inr n) = absurd (held_older rec t.top r r.state (t.older s r n e) h)

  pub kept_is : (t : Token c rec row accepted ms) (s : ℕ) (r : ContainerRecord) → rec s ≡ Some r → s ≡ t.holder → r ≡ t.kept
  kept_is t s r e h = some_is (sym e ∙ ap rec h ∙ t.here)

-- records that grow
abbrev pub Grow : Records → Records → Type 0
Grow rec new = (s v : ℕ) → IsPast (rec s) v → IsPast (new s) v

pub grow_at : (rec new : Records) (s : ℕ) → ((v : ℕ) → IsPast (rec s) v → IsPast (new s) v) → ((x : ℕ) → x ≢ s → new x ≡ rec x) → Grow rec new
grow_at rec new s own other x v p = go (same_or_not x s)
  where
    go : (x ≡ s) ⊎ (x ≢ s) → IsPast (new x) v
    go (inl e) = subst (λ y. IsPast (new y) v) (sym e) (own v (subst (λ y. IsPast (rec y) v) e p))
    go (inr n) = subst (λ o. IsPast o v) (sym (other x n)) p

same_grow : (rec new : Records) → ((s : ℕ) → new s ≡ rec s) → Grow rec new
same_grow rec new e s v p = subst (λ o. IsPast o v) (sym (e s)) p

older_grows : (rec new : Records) (top more : ℕ) (r : ContainerRecord) (st : ContainerState) → Grow rec new → top ≤ more → IsOlder rec top r st → IsOlder new more r st
older_grows rec new top more r Holding g l o = o
older_grows rec new top more r (Leaving to) g l o = o
older_grows rec new top more r (Sent to) g l o = let a : r.version ≤ top = o.0 in (omega arith, g to.0 r.version o.1)
older_grows rec new top more r (Gone to) g l o = let a : r.version ≤ top = o in omega arith

received_grows : (c : ℕ) (rec new : Records) (top : ℕ) (accepted after : List (List ℕ)) (kept next : ContainerState) (to : ServerId) (message : MoveMessage) → Grow rec new
    → ((x : ServerId) → kept ≡ Sent x → (next ≡ Sent x) × (after ≡ accepted)) → IsReceived c rec top accepted kept to message → IsReceived c new top after next to message
received_grows c rec new top accepted after kept next to (Taken d v) g way h = h
received_grows c rec new top accepted after kept next to (Image d v us) g way h = λ e. go (h e)
  where
    go : (IsPast (rec to.0) v × (v ≤ top)) ⊎ ((kept ≡ Sent to) × (v ≡ top + 1) × (us ≡ accepted)) → (IsPast (new to.0) v × (v ≤ top)) ⊎ ((next ≡ Sent to) × (v ≡ top + 1) × (us ≡ after))
    go (inl p) = inl (g to.0 v p.0, p.1)
    go (inr q) = let w : (next ≡ Sent to) × (after ≡ accepted) = way to q.0 in inr (w.0, q.1, q.2 ∙ sym w.1)

-- what must hold of a change after which the same server has the container, in the same greatest version
pub record Keeps {c : ℕ} {rec : Records} {row : ℕ → Bool} {accepted : List (List ℕ)} {ms : List SentMove} (t : Token c rec row accepted ms) (new : Records) (lock : ℕ → Bool) (after : List (List ℕ)) (sent : List SentMove) : Type 0 where
  pub kept : ContainerRecord
  pub here : new t.holder ≡ Some kept
  pub updates : kept.updates ≡ after
  pub newest : IsNewest t.holder t.top lock kept kept.state
  pub grows : Grow rec new
  pub older : (s : ℕ) (r : ContainerRecord) → s ≢ t.holder → new s ≡ Some r → (rec s ≡ Some r) ⊎ IsOlder new t.top r r.state
  pub rows : (s : ℕ) → s ≢ t.holder → lock s ≡ false
  pub received : (m : SentMove) → Has m sent → Has m ms ⊎ IsReceived c new t.top after kept.state m.to m.message
  pub way : (to : ServerId) → t.kept.state ≡ Sent to → (kept.state ≡ Sent to) × (after ≡ accepted)

module _ {c : ℕ} {rec : Records} {row : ℕ → Bool} {accepted : List (List ℕ)} {ms : List SentMove} (t : Token c rec row accepted ms) (new : Records) (lock : ℕ → Bool) (after : List (List ℕ)) (sent : List SentMove) where
  pub keep : Keeps t new lock after sent → Token c new lock after sent
  keep k = record {
    holder = t.holder;
    top = t.top;
    kept = k.kept;
    here = k.here;
    updates = k.updates;
    newest = k.newest;
    older = older;
    rows = k.rows;
    received = received;
  }
    where
      older : (s : ℕ) (r : ContainerRecord) → s ≢ t.holder → new s ≡ Some r → IsOlder new t.top r r.state
      older s r n e = go (k.older s r n e)
        where
          go : (rec s ≡ Some r) ⊎ IsOlder new t.top r r.state → IsOlder new t.top r r.state
          go (inl o) = older_grows rec new t.top t.top r r.state k.grows (omega arith) (t.older s r n o)
          go (inr o) = o

      received : (m : SentMove) → Has m sent → IsReceived c new t.top after k.kept.state m.to m.message
      received m i = go (k.received m i)
        where
          go : Has m ms ⊎ IsReceived c new t.top after k.kept.state m.to m.message → IsReceived c new t.top after k.kept.state m.to m.message
          go (inl o) = received_grows c rec new t.top accepted after t.kept.state k.kept.state m.to m.message k.grows k.way (t.received m o)
          go (inr o) = o

-- fewer lock rows
newest_unlocked : (holder top : ℕ) (row lock : ℕ → Bool) (r : ContainerRecord) (st : ContainerState) → (row holder ≡ false → lock holder ≡ false) → IsNewest holder top row r st → IsNewest holder top lock r st
newest_unlocked holder top row lock r Holding h n = n
newest_unlocked holder top row lock r (Leaving to) h n = n
newest_unlocked holder top row lock r (Sent to) h n = (n.0, n.1, h n.2)
newest_unlocked holder top row lock r (Gone to) h n = n

module _ {c : ℕ} {rec : Records} {row : ℕ → Bool} {accepted : List (List ℕ)} {ms : List SentMove} (t : Token c rec row accepted ms) where
  -- no record changes, there are no more lock rows, and what is sent is received
  pub same : (new : Records) (lock : ℕ → Bool) (sent : List SentMove) → ((s : ℕ) → new s ≡ rec s) → ((s : ℕ) → row s ≡ false → lock s ≡ false)
      → ((m : SentMove) → Has m sent → Has m ms ⊎ IsReceived c rec t.top accepted t.kept.state m.to m.message) → Token c new lock accepted sent
  same new lock sent e l h = keep t new lock accepted sent (record {
    kept = t.kept;
    here = e t.holder ∙ t.here;
    updates = t.updates;
    newest = newest_unlocked t.holder t.top row lock t.kept t.kept.state (l t.holder) t.newest;
    grows = same_grow rec new e;
    older = λ s r n i. inl (sym (e s) ∙ i);
    rows = λ s n. l s (t.rows s n);
    received = received;
    way = λ to i. (i, refl);
  })
    where
      received : (m : SentMove) → Has m sent → Has m ms ⊎ IsReceived c new t.top accepted t.kept.state m.to m.message
      received m i = go (h m i)
        where
          go : Has m ms ⊎ IsReceived c rec t.top accepted t.kept.state m.to m.message → Has m ms ⊎ IsReceived c new t.top accepted t.kept.state m.to m.message
          go (inl o) = inl o
          go (inr o) = inr (received_grows c rec new t.top accepted accepted t.kept.state t.kept.state m.to m.message (same_grow rec new e) (λ x i. (i, refl)) o)

  -- client 1 gets a lock if the container is served
  pub locks : (lock : ℕ → Bool) (s : ℕ) (r : ContainerRecord) → rec s ≡ Some r → r.state ≡ Holding → ((x : ℕ) → x ≢ s → row x ≡ false → lock x ≡ false) → Token c rec lock accepted ms
  locks lock s r e h other = keep t rec lock accepted ms (record {
    kept = t.kept;
    here = t.here;
    updates = t.updates;
    newest = newest;
    grows = λ x v p. p;
    older = λ x q n i. inl i;
    rows = λ x n. other x (λ i. n (i ∙ here)) (t.rows x n);
    received = λ m i. inl i;
    way = λ to i. (i, refl);
  })
    where
      here : s ≡ t.holder
      here = held_here t s r e (ap is_held h)

      same_kept : r ≡ t.kept
      same_kept = kept_is t s r e here

      newest : IsNewest t.holder t.top lock t.kept t.kept.state
      newest = subst (IsNewest t.holder t.top lock t.kept) (sym h ∙ ap (λ k. k.state) same_kept) (subst (IsNewest t.holder t.top row t.kept) (ap (λ k. k.state) (sym same_kept) ∙ h) t.newest)

-- where a held container may go
abbrev pub IsGoing : ℕ → ContainerState → Type 0
IsGoing s Holding = Unit {0}
IsGoing s (Leaving to) = to.0 ≢ s
IsGoing s (Sent to) = ⊥
IsGoing s (Gone to) = ⊥

going_newest : (holder top : ℕ) (row : ℕ → Bool) (r : ContainerRecord) (st : ContainerState) → IsGoing holder st → r.version ≡ top → IsNewest holder top row r st
going_newest holder top row r Holding g e = e
going_newest holder top row r (Leaving to) g e = (e, g)
going_newest holder top row r (Sent to) g e = absurd g
going_newest holder top row r (Gone to) g e = absurd g

module _ {c : ℕ} {rec : Records} {row : ℕ → Bool} {accepted : List (List ℕ)} {ms : List SentMove} (t : Token c rec row accepted ms) where
  -- a held record is changed: by a put, or by an order
  pub changes : (new : Records) (after : List (List ℕ)) (s : ℕ) (r q : ContainerRecord) → rec s ≡ Some r → r.state ≡ Holding → new s ≡ Some q → ((x : ℕ) → x ≢ s → new x ≡ rec x)
      → q.version ≡ r.version → IsGoing s q.state → (r.updates ≡ accepted → q.updates ≡ after) → Token c new row after ms
  changes new after s r q e h own other v g u = keep t new row after ms (record {
    kept = q;
    here = ap new (sym here) ∙ own;
    updates = u (ap (λ k. k.updates) same_kept ∙ t.updates);
    newest = newest;
    grows = grow_at rec new s grow other;
    older = λ x p n i. inl (sym (other x (λ j. n (j ∙ here))) ∙ i);
    rows = t.rows;
    received = λ m i. inl i;
    way = way;
  })
    where
      here : s ≡ t.holder
      here = held_here t s r e (ap is_held h)

      same_kept : r ≡ t.kept
      same_kept = kept_is t s r e here

      kept_held : t.kept.state ≡ Holding
      kept_held = ap (λ k. k.state) (sym same_kept) ∙ h

      kept_top : t.kept.version ≡ t.top
      kept_top = subst (IsNewest t.holder t.top row t.kept) kept_held t.newest

      newest : IsNewest t.holder t.top row q q.state
      newest = going_newest t.holder t.top row q q.state (subst (λ x. IsGoing x q.state) here g) (v ∙ ap (λ k. k.version) same_kept ∙ kept_top)

      grow : (w : ℕ) → IsPast (rec s) w → IsPast (new s) w
      grow w p = subst (λ o. IsPast o w) (sym own) (subst (λ n. w ≤ n) (sym v) (subst (λ o. IsPast o w) e p))

      way : (to : ServerId) → t.kept.state ≡ Sent to → (q.state ≡ Sent to) × (after ≡ accepted)
      way to i = absurd (held_not_sent (sym kept_held ∙ i))
