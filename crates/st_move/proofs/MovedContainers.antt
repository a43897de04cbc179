-- What holds of one container through ticks and messages.
use Rattle.st_lemmas.proofs.Words
use Words.{◌≡◌, ◌≢◌, ℕ, ◌+◌, ◌≤◌, ◌<◌, ◌⊎◌, Bool, true, false, List, Option, Some, None, refl, sym, ap, ◌∙◌, subst, inl, inr, arith, eqb, lt-ltb, le-ltb}
use Words.{if◌then◌else◌, ◌&&◌, not, ◌==◌, nat_lt, ServerId}
use Words.Lists.{Has}
use Words.Lookups.{some_is}
use Words.Tables.{same_or_not, cond_true, cond_false}
use Rattle.std.proofs.lemmas.Bool.Decides.{eqb_tells}
use Rattle.st_move.specs.declared.record.ContainerRecord.{ContainerRecord}
use Rattle.st_move.specs.declared.record.MoveMessage.{MoveMessage}
use Rattle.st_move.specs.declared.record.MoveMessage.TheVariants.{Image, Taken}
use Rattle.st_move.specs.declared.record.ContainerState.{ContainerState}
use Rattle.st_move.specs.declared.record.ContainerState.TheVariants.{Holding, Leaving, Sent, Gone}
use Rattle.st_move.specs.declared.world.SentMove.{SentMove}
use Rattle.st_move.specs.Containers.{answered, gone_by, is_leaving, recorded, sent_if, sent_on, with_image}
use Rattle.st_move.proofs.Token.{Grow, IsReceived, IsNewest, IsOlder, IsPast, Records, Token, grow_at, keep, same}

-- the message is the image of this record of the container
abbrev pub IsImageOf : ℕ → Option ContainerRecord → ServerId → MoveMessage → Type 0
IsImageOf c o to (Taken d v) = ⊥
IsImageOf c o to (Image d v us) = d ≡ c → (r : ContainerRecord) × (o ≡ Some r) × (r.state ≡ Sent to) × (v ≡ r.version) × (us ≡ r.updates)

-- what is sent on a tick
abbrev pub Sends : ℕ → Option ContainerRecord → List SentMove → List SentMove → Type 0
Sends c o ms sent = (m : SentMove) → Has m sent → Has m ms ⊎ IsImageOf c o m.to m.message

leaving_not_sent : {to x : ServerId} → Leaving to ≡ Sent x → ⊥
leaving_not_sent e = cc

pub stays : (o : Option ContainerRecord) → sent_if false o ≡ o
unfolding sent_if
stays None = refl
stays (Some r) = refl

pub goes : (r : ContainerRecord) (to : ServerId) → r.state ≡ Leaving to → sent_if true (Some r) ≡ Some (recorded (r.version + 1) (Sent to) r.updates)
unfolding sent_if sent_on
goes r to e = ap (λ st. Some (sent_on r st)) e

module _ {c : ℕ} {rec : Records} {row : ℕ → Bool} {accepted : List (List ℕ)} {ms : List SentMove} (t : Token c rec row accepted ms) where
  image_kept : (s : ℕ) (to : ServerId) (v : ℕ) (us : List (List ℕ)) → (r : ContainerRecord) × (rec s ≡ Some r) × (r.state ≡ Sent to) × (v ≡ r.version) × (us ≡ r.updates)
      → (IsPast (rec to.0) v × (v ≤ t.top)) ⊎ ((t.kept.state ≡ Sent to) × (v ≡ t.top + 1) × (us ≡ accepted))
  image_kept s to v us q = go (same_or_not s t.holder)
    where
      go : (s ≡ t.holder) ⊎ (s ≢ t.holder) → (IsPast (rec to.0) v × (v ≤ t.top)) ⊎ ((t.kept.state ≡ Sent to) × (v ≡ t.top + 1) × (us ≡ accepted))
      go (inl h) =
          let k : q.0 ≡ t.kept = some_is (sym q.1 ∙ ap rec h ∙ t.here) in
          let st : t.kept.state ≡ Sent to = ap (λ (x : ContainerRecord). x.state) (sym k) ∙ q.2 in
          let n : IsNewest t.holder t.top row t.kept (Sent to) = subst (IsNewest t.holder t.top row t.kept) st t.newest in
          inr (st, q.3 ∙ ap (λ (x : ContainerRecord). x.version) k ∙ n.0, q.4 ∙ ap (λ (x : ContainerRecord). x.updates) k ∙ t.updates)
      go (inr n) =
          let o : IsOlder rec t.top q.0 (Sent to) = subst (IsOlder rec t.top q.0) q.2 (t.older s q.0 n q.1) in
          inl (subst (IsPast (rec to.0)) (sym q.3) o.1, subst (λ x. x ≤ t.top) (sym q.3) o.0)

  -- the image of a record that was sent is received
  image_received : (s : ℕ) (to : ServerId) (message : MoveMessage) → IsImageOf c (rec s) to message → IsReceived c rec t.top accepted t.kept.state to message
  image_received s to (Taken d v) i = absurd i
  image_received s to (Image d v us) i = λ e. image_kept s to v us (i e)

  -- no record changes, and images of what was sent are sent again
  pub resends : (new : Records) (sent : List SentMove) (s : ℕ) → ((x : ℕ) → new x ≡ rec x) → Sends c (rec s) ms sent → Token c new row accepted sent
  resends new sent s e h = same t new row sent e (λ x i. i) received
    where
      received : (m : SentMove) → Has m sent → Has m ms ⊎ IsReceived c rec t.top accepted t.kept.state m.to m.message
      received m i = go (h m i)
        where
          go : Has m ms ⊎ IsImageOf c (rec s) m.to m.message → Has m ms ⊎ IsReceived c rec t.top accepted t.kept.state m.to m.message
          go (inl o) = inl o
          go (inr o) = inr (image_received s m.to m.message o)

  -- a container that leaves is sent
  pub leaves_now : (new : Records) (sent : List SentMove) (s : ℕ) (r : ContainerRecord) (to : ServerId) → rec s ≡ Some r → r.state ≡ Leaving to → row s ≡ false
      → new s ≡ Some (recorded (r.version + 1) (Sent to) r.updates) → ((x : ℕ) → x ≢ s → new x ≡ rec x) → Sends c (new s) ms sent → Token c new row accepted sent
  leaves_now new sent s r to e h free own other send = keep t new row accepted sent (record {
    kept = recorded (r.version + 1) (Sent to) r.updates;
    here = ap new (sym here) ∙ own;
    updates = ap (λ k. k.updates) same_kept ∙ t.updates;
    newest = (ap (λ n. n + 1) version, goal, ap row (sym here) ∙ free);
    grows = grow_at rec new s grow other;
    older = λ x q n i. inl (sym (other x (λ j. n (j ∙ here))) ∙ i);
    rows = t.rows;
    received = received;
    way = λ x i. absurd (leaving_not_sent (sym kept_leaves ∙ i));
  })
    where
      at : (s ≡ t.holder) ⊎ (s ≢ t.holder) → s ≡ t.holder
      at (inl i) = i
      at (inr n) = absurd (subst (IsOlder rec t.top r) h (t.older s r n e))

      here : s ≡ t.holder
      here = at (same_or_not s t.holder)

      same_kept : r ≡ t.kept
      same_kept = some_is (sym e ∙ ap rec here ∙ t.here)

      kept_leaves : t.kept.state ≡ Leaving to
      kept_leaves = ap (λ k. k.state) (sym same_kept) ∙ h

      newest : IsNewest t.holder t.top row t.kept (Leaving to)
      newest = subst (IsNewest t.holder t.top row t.kept) kept_leaves t.newest

      version : r.version ≡ t.top
      version = ap (λ k. k.version) same_kept ∙ newest.0

      goal : to.0 ≢ t.holder
      goal = newest.1

      grow : (w : ℕ) → IsPast (rec s) w → IsPast (new s) w
      grow w p = let q : w ≤ r.version = subst (λ o. IsPast o w) e p in let l : w ≤ r.version + 1 = omega arith in subst (λ o. IsPast o w) (sym own) l

      received : (m : SentMove) → Has m sent → Has m ms ⊎ IsReceived c new t.top accepted (Sent to) m.to m.message
      received m i = go (send m i)
        where
          by : (message : MoveMessage) → IsImageOf c (new s) m.to message → IsReceived c new t.top accepted (Sent to) m.to message
          by (Taken d v) o = absurd o
          by (Image d v us) o = λ same_container.
              let q : (q : ContainerRecord) × (new s ≡ Some q) × (q.state ≡ Sent m.to) × (v ≡ q.version) × (us ≡ q.updates) = o same_container in
              let k : recorded (r.version + 1) (Sent to) r.updates ≡ q.0 = some_is (sym own ∙ q.1) in
              let goes_to : Sent to ≡ Sent m.to = ap (λ x. x.state) k ∙ q.2 in
              let v_is : v ≡ r.version + 1 = q.3 ∙ sym (ap (λ x. x.version) k) in
              let us_are : us ≡ r.updates = q.4 ∙ sym (ap (λ x. x.updates) k) in
              inr (goes_to, v_is ∙ ap (λ n. n + 1) version, us_are ∙ ap (λ x. x.updates) same_kept ∙ t.updates)

          go : Has m ms ⊎ IsImageOf c (new s) m.to m.message → Has m ms ⊎ IsReceived c new t.top accepted (Sent to) m.to m.message
          go (inl o) = inl o
          go (inr o) = inr (by m.message o)

-- whether a record leaves, by whether the container is locked
abbrev pub leaves_if : Bool → Option ContainerRecord → Bool
leaves_if locked None = false
leaves_if locked (Some r) = is_leaving r.state && not locked

module _ {c : ℕ} {rec : Records} {row : ℕ → Bool} {accepted : List (List ℕ)} {ms : List SentMove} (t : Token c rec row accepted ms) where
  -- a tick of a server
  pub ticks : (new : Records) (sent : List SentMove) (s : ℕ) (locked : Bool) → row s ≡ locked → new s ≡ sent_if (leaves_if locked (rec s)) (rec s)
      → ((x : ℕ) → x ≢ s → new x ≡ rec x) → Sends c (new s) ms sent → Token c new row accepted sent
  ticks new sent s locked free own other send = go (rec s) refl
    where
      unchanged : new s ≡ rec s → Token c new row accepted sent
      unchanged e = resends t new sent s all (subst (λ o. Sends c o ms sent) e send)
        where
          all : (x : ℕ) → new x ≡ rec x
          all x = at (same_or_not x s)
            where
              at : (x ≡ s) ⊎ (x ≢ s) → new x ≡ rec x
              at (inl i) = ap new i ∙ e ∙ ap rec (sym i)
              at (inr n) = other x n

      still : leaves_if locked (rec s) ≡ false → Token c new row accepted sent
      still f = unchanged (own ∙ ap (λ b. sent_if b (rec s)) f ∙ stays (rec s))

      go : (o : Option ContainerRecord) → rec s ≡ o → Token c new row accepted sent
      go None e = still (ap (leaves_if locked) e)
      go (Some r) e = by r.state locked refl refl
        where
          by : (st : ContainerState) (b : Bool) → r.state ≡ st → locked ≡ b → Token c new row accepted sent
          by (Leaving to) false h f =
              leaves_now t new sent s r to e h (free ∙ f)
              (own ∙ ap (λ o. sent_if (leaves_if locked o) o) e ∙ ap (λ b. sent_if b (Some r)) (ap (λ st. is_leaving st && not locked) h ∙ ap (λ b. true && not b) f) ∙ goes r to h)
              other send
          by (Leaving to) true h f = still (ap (leaves_if locked) e ∙ ap (λ st. is_leaving st && not locked) h ∙ ap (λ b. true && not b) f)
          by Holding b h f = still (ap (leaves_if locked) e ∙ ap (λ st. is_leaving st && not locked) h)
          by (Sent to) b h f = still (ap (leaves_if locked) e ∙ ap (λ st. is_leaving st && not locked) h)
          by (Gone to) b h f = still (ap (leaves_if locked) e ∙ ap (λ st. is_leaving st && not locked) h)

-- an image that was taken already changes nothing
pub image_past : (v : ℕ) (us : List (List ℕ)) (o : Option ContainerRecord) → IsPast o v → with_image v us o ≡ o
unfolding with_image
image_past v us None p = absurd p
image_past v us (Some r) p = cond_false (nat_lt r.version v) _ _ (le-ltb r.version v p)

-- one above the record, or without one, is kept
pub image_new : (v : ℕ) (us : List (List ℕ)) (o : Option ContainerRecord) → ((r : ContainerRecord) → o ≡ Some r → r.version < v) → with_image v us o ≡ Some (recorded v Holding us)
unfolding with_image
image_new v us None h = refl
image_new v us (Some r) h = cond_true (nat_lt r.version v) _ _ (lt-ltb r.version v (h r refl))

module _ {c : ℕ} {rec : Records} {row : ℕ → Bool} {accepted : List (List ℕ)} {ms : List SentMove} (t : Token c rec row accepted ms) where
  -- the container that was sent last is taken
  pub taken_on : (new : Records) (sent : List SentMove) (to : ServerId) (v : ℕ) (us : List (List ℕ)) → t.kept.state ≡ Sent to → v ≡ t.top + 1 → us ≡ accepted
      → new to.0 ≡ with_image v us (rec to.0) → ((x : ℕ) → x ≢ to.0 → new x ≡ rec x) → ((m : SentMove) → Has m sent → Has m ms ⊎ (m.message ≡ Taken c v)) → Token c new row accepted sent
  taken_on new sent to v us st version updates own other send = record {
    holder = to.0;
    top = v;
    kept = recorded v Holding us;
    here = made;
    updates = updates;
    newest = refl;
    older = older;
    rows = rows;
    received = received;
  }
    where
      newest : IsNewest t.holder t.top row t.kept (Sent to)
      newest = subst (IsNewest t.holder t.top row t.kept) st t.newest

      version_older : (r : ContainerRecord) (q : ContainerState) → IsOlder rec t.top r q → r.version ≤ t.top
      version_older r Holding o = absurd o
      version_older r (Leaving x) o = absurd o
      version_older r (Sent x) o = o.0
      version_older r (Gone x) o = o

      below : (r : ContainerRecord) → rec to.0 ≡ Some r → r.version < v
      below r e = let l : r.version ≤ t.top = version_older r r.state (t.older to.0 r newest.1 e) in omega arith

      made : new to.0 ≡ Some (recorded v Holding us)
      made = own ∙ image_new v us (rec to.0) below

      grow : (w : ℕ) → IsPast (rec to.0) w → IsPast (new to.0) w
      grow w p = go (rec to.0) refl p
        where
          go : (o : Option ContainerRecord) → rec to.0 ≡ o → IsPast o w → IsPast (new to.0) w
          go None e q = absurd q
          go (Some r) e q = let l : r.version < v = below r e in let m : w ≤ v = omega arith in subst (λ o. IsPast o w) (sym made) m

      grows : Grow rec new
      grows = grow_at rec new to.0 grow other

      above : t.top ≤ v
      above = omega arith

      older : (s : ℕ) (r : ContainerRecord) → s ≢ to.0 → new s ≡ Some r → IsOlder new v r r.state
      older s r n e = go (same_or_not s t.holder)
        where
          was : rec s ≡ Some r
          was = sym (other s n) ∙ e

          go : (s ≡ t.holder) ⊎ (s ≢ t.holder) → IsOlder new v r r.state
          go (inl i) =
              let k : r ≡ t.kept = some_is (sym was ∙ ap rec i ∙ t.here) in
              let q : r.state ≡ Sent to = ap (λ x. x.state) k ∙ st in
              let l : r.version ≤ v = subst (λ x. x ≤ v) (sym (ap (λ x. x.version) k ∙ newest.0)) (subst (λ x. t.top + 1 ≤ x) (sym version) (omega arith)) in
              subst (IsOlder new v r) (sym q) (l, subst (λ o. IsPast o r.version) (sym made) l)
          go (inr j) = older_more r r.state (t.older s r j was)
            where
              older_more : (r : ContainerRecord) (q : ContainerState) → IsOlder rec t.top r q → IsOlder new v r q
              older_more r Holding o = o
              older_more r (Leaving x) o = o
              older_more r (Sent x) o = let a : r.version ≤ t.top = o.0 in (omega arith, grows x.0 r.version o.1)
              older_more r (Gone x) o = let a : r.version ≤ t.top = o in omega arith

      rows : (s : ℕ) → s ≢ to.0 → row s ≡ false
      rows s n = go (same_or_not s t.holder)
        where
          go : (s ≡ t.holder) ⊎ (s ≢ t.holder) → row s ≡ false
          go (inl i) = ap row i ∙ newest.2
          go (inr j) = t.rows s j

      received : (m : SentMove) → Has m sent → IsReceived c new v accepted Holding m.to m.message
      received m i = go (send m i)
        where
          old : (message : MoveMessage) → IsReceived c rec t.top accepted t.kept.state m.to message → IsReceived c new v accepted Holding m.to message
          old (Taken d w) h = λ e. let a : w ≤ t.top = h e in omega arith
          old (Image d w xs) h = λ e. by (h e)
            where
              by : (IsPast (rec m.to.0) w × (w ≤ t.top)) ⊎ ((t.kept.state ≡ Sent m.to) × (w ≡ t.top + 1) × (xs ≡ accepted)) → (IsPast (new m.to.0) w × (w ≤ v)) ⊎ ((Holding ≡ Sent m.to) × (w ≡ v + 1) × (xs ≡ accepted))
              by (inl p) = let a : w ≤ t.top = p.1 in inl (grows m.to.0 w p.0, omega arith)
              by (inr q) =
                  let z : to ≡ m.to = cc in
                  let l : w ≤ v = subst (λ x. x ≤ v) (sym q.1) (subst (λ x. t.top + 1 ≤ x) (sym version) (omega arith)) in
                  inl (subst (λ o. IsPast o w) (sym (ap (λ x. new x.0) (sym z) ∙ made)) l, l)

          go : Has m ms ⊎ (m.message ≡ Taken c v) → IsReceived c new v accepted Holding m.to m.message
          go (inl o) = old m.message (t.received m o)
          go (inr e) = let f : c ≡ c → v ≤ v = λ x. omega arith in subst (IsReceived c new v accepted Holding m.to) (sym e) f

  -- an image comes
  pub images_come : (new : Records) (sent : List SentMove) (to : ServerId) (v : ℕ) (us : List (List ℕ)) → IsReceived c rec t.top accepted t.kept.state to (Image c v us)
      → new to.0 ≡ with_image v us (rec to.0) → ((x : ℕ) → x ≢ to.0 → new x ≡ rec x) → ((m : SentMove) → Has m sent → Has m ms ⊎ (m.message ≡ Taken c v)) → Token c new row accepted sent
  images_come new sent to v us h own other send = go (h refl)
    where
      go : (IsPast (rec to.0) v × (v ≤ t.top)) ⊎ ((t.kept.state ≡ Sent to) × (v ≡ t.top + 1) × (us ≡ accepted)) → Token c new row accepted sent
      go (inr q) = taken_on new sent to v us q.0 q.1 q.2 own other send
      go (inl p) = same t new row sent all (λ x i. i) received
        where
          all : (x : ℕ) → new x ≡ rec x
          all x = at (same_or_not x to.0)
            where
              at : (x ≡ to.0) ⊎ (x ≢ to.0) → new x ≡ rec x
              at (inl i) = ap new i ∙ own ∙ image_past v us (rec to.0) p.0 ∙ ap rec (sym i)
              at (inr n) = other x n

          received : (m : SentMove) → Has m sent → Has m ms ⊎ IsReceived c rec t.top accepted t.kept.state m.to m.message
          received m i = by (send m i)
            where
              by : Has m ms ⊎ (m.message ≡ Taken c v) → Has m ms ⊎ IsReceived c rec t.top accepted t.kept.state m.to m.message
              by (inl o) = inl o
              by (inr e) = let f : c ≡ c → v ≤ t.top = λ x. p.1 in inr (subst (IsReceived c rec t.top accepted t.kept.state m.to) (sym e) f)

-- an answer of another version changes nothing, nor does one to a container that was not sent
answer_still : (v : ℕ) (r : ContainerRecord) → ((to : ServerId) → r.state ≡ Sent to → r.version ≢ v) → answered v (Some r) ≡ Some r
unfolding answered gone_by
answer_still v r h = go (eqb_tells r.version v)
  where
    still : (st : ContainerState) → r.state ≡ st → r.version ≡ v → Some (gone_by r st) ≡ Some r
    still Holding e f = refl
    still (Leaving to) e f = refl
    still (Gone to) e f = refl
    still (Sent to) e f = absurd (h to e f)

    go : ((eqb r.version v ≡ true) × (r.version ≡ v)) ⊎ ((eqb r.version v ≡ false) × (r.version ≢ v)) → Some (if r.version == v then gone_by r r.state else r) ≡ Some r
    go (inl i) = ap Some (cond_true (r.version == v) _ _ i.0) ∙ still r.state refl i.1
    go (inr i) = ap Some (cond_false (r.version == v) _ _ i.0)

-- an older record stays one
answer_older : (rec new : Records) (top v : ℕ) (r q : ContainerRecord) → Grow rec new → IsOlder rec top r r.state → answered v (Some r) ≡ Some q → IsOlder new top q q.state
unfolding answered gone_by
answer_older rec new top v r q g o e = go (r.version == v) r.state refl o e
  where
    own : (st : ContainerState) → IsOlder rec top r st → IsOlder new top r st
    own Holding i = i
    own (Leaving to) i = i
    own (Sent to) i = (i.0, g to.0 r.version i.1)
    own (Gone to) i = i

    go : (b : Bool) (st : ContainerState) → r.state ≡ st → IsOlder rec top r st → Some (if b then gone_by r st else r) ≡ Some q → IsOlder new top q q.state
    go false st f i h = subst (λ x. IsOlder new top x x.state) (some_is h) (subst (IsOlder new top r) (sym f) (own st i))
    go true Holding f i h = absurd i
    go true (Leaving to) f i h = absurd i
    go true (Gone to) f i h = subst (λ x. IsOlder new top x x.state) (some_is h) (subst (IsOlder new top r) (sym f) i)
    go true (Sent to) f i h = subst (λ x. IsOlder new top x x.state) (some_is h) i.0

answer_grows : (v w : ℕ) (o : Option ContainerRecord) → IsPast o w → IsPast (answered v o) w
unfolding answered gone_by
answer_grows v w None p = p
answer_grows v w (Some r) p = go (r.version == v) r.state
  where
    go : (b : Bool) (st : ContainerState) → w ≤ (if b then gone_by r st else r).version
    go false st = p
    go true Holding = p
    go true (Leaving to) = p
    go true (Sent to) = p
    go true (Gone to) = p

module _ {c : ℕ} {rec : Records} {row : ℕ → Bool} {accepted : List (List ℕ)} {ms : List SentMove} (t : Token c rec row accepted ms) where
  -- an answer comes
  pub answers_come : (new : Records) (s v : ℕ) → v ≤ t.top → new s ≡ answered v (rec s) → ((x : ℕ) → x ≢ s → new x ≡ rec x) → Token c new row accepted ms
  unfolding answered
  answers_come new s v l own other = go (same_or_not s t.holder)
    where
      grows : Grow rec new
      grows = grow_at rec new s (λ w p. subst (λ o. IsPast o w) (sym own) (answer_grows v w (rec s) p)) other

      newest_not : (st : ContainerState) → IsNewest t.holder t.top row t.kept st → (to : ServerId) → st ≡ Sent to → t.kept.version ≢ v
      newest_not Holding n to e = cc
      newest_not (Leaving x) n to e = cc
      newest_not (Gone x) n to e = absurd n
      newest_not (Sent x) n to e = λ f. let a : t.kept.version ≡ t.top + 1 = n.0 in absurd (omega arith)

      go : (s ≡ t.holder) ⊎ (s ≢ t.holder) → Token c new row accepted ms
      go (inl i) = same t new row ms all (λ x j. j) (λ m j. inl j)
        where
          still : new s ≡ rec s
          still = own ∙ ap (answered v) (ap rec i ∙ t.here) ∙ answer_still v t.kept (newest_not t.kept.state t.newest) ∙ sym (ap rec i ∙ t.here)

          all : (x : ℕ) → new x ≡ rec x
          all x = at (same_or_not x s)
            where
              at : (x ≡ s) ⊎ (x ≢ s) → new x ≡ rec x
              at (inl j) = ap new j ∙ still ∙ ap rec (sym j)
              at (inr n) = other x n
      go (inr i) = keep t new row accepted ms (record {
        kept = t.kept;
        here = other t.holder (λ j. i (sym j)) ∙ t.here;
        updates = t.updates;
        newest = t.newest;
        grows = grows;
        older = older;
        rows = t.rows;
        received = λ m j. inl j;
        way = λ to j. (j, refl);
      })
        where
          older : (x : ℕ) (q : ContainerRecord) → x ≢ t.holder → new x ≡ Some q → (rec x ≡ Some q) ⊎ IsOlder new t.top q q.state
          older x q n e = at (same_or_not x s)
            where
              found : (o : Option ContainerRecord) → rec s ≡ o → answered v o ≡ Some q → IsOlder new t.top q q.state
              found None f h = cc
              found (Some r) f h = answer_older rec new t.top v r q grows (t.older s r i f) h

              at : (x ≡ s) ⊎ (x ≢ s) → (rec x ≡ Some q) ⊎ IsOlder new t.top q q.state
              at (inl j) = inr (found (rec s) refl (sym own ∙ ap new (sym j) ∙ e))
              at (inr m) = inl (sym (other x m) ∙ e)
