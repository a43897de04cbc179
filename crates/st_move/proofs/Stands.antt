-- What holds of every container in every run, event by event.
use Rattle.st_lemmas.proofs.Words
use Words.{◌≡◌, ◌≢◌, ℕ, suc, ◌≤◌, ◌⊎◌, Bool, true, false, List, [], ◌∷◌, ◌++◌, length, map, Option, Some, None, refl, sym, ap, ◌∙◌, subst, inl, inr, arith, eqb}
use Words.{zero, ◌==◌, ServerId}
use Words.Locks.{Locks}
use Words.World.{numbered, with_numbered}
use Words.Lists.{Has}
use Words.Lookups.{some_is}
use Words.Numbers.{get_there, numbered_below, numbered_other, numbered_own, set_length}
use Words.Tables.{cond_true, cond_false, has_append, has_map, same_or_not}
use Rattle.std.proofs.lemmas.Bool.Decides.{eqb_tells}
use Rattle.st_move.specs.declared.record.ContainerRecord.{ContainerRecord}
use Rattle.st_move.specs.declared.record.MoveMessage.{MoveMessage}
use Rattle.st_move.specs.declared.record.MoveMessage.TheVariants.{Image, Taken}
use Rattle.st_move.specs.declared.world.SentMove.{SentMove}
use Rattle.st_move.specs.declared.site.MoveSite.{MoveSite}
use Rattle.st_move.specs.Containers.{Containers, after_take, after_tick, answer_to, container_of, images, is_locked, sent_if, taken_at, taken_in}
use Rattle.st_move.specs.Law.{MoveHistory, accepts, has_row, known, locked_in, record_at, record_in}
use Rattle.st_move.specs.World.{MoveWorld, answer_sent, locked, sent_move, unlocked}
use Rattle.st_move.proofs.MovedContainers.{IsImageOf, Sends, answers_come, images_come, leaves_if, ticks}
use Rattle.st_move.proofs.CallAnswers.{IsHeldAt, IsImageAt, images_at, locked_other, sent_known, sent_length, unlocked_any, with_changed}
use Rattle.st_move.proofs.Token.{IsGoing, IsReceived, Records, Token, changes, locks, same}

-- the container exists
pub record IsContainer (containers c : ℕ) : Type 0 where
  pub some : 1 ≤ c
  pub known : c ≤ containers

-- a server has as many records as there are containers, and knows its own number
pub record IsSite (containers s : ℕ) (x : MoveSite) : Type 0 where
  pub whole : length x.containers.records ≡ containers
  pub own : x.containers.server.0 ≡ s

-- one container in a world
abbrev pub TokenOf : MoveWorld → ℕ → List (List ℕ) → Type 0
TokenOf w c accepted = Token c (record_at w c) (has_row w c) accepted w.sent

pub record Stands (containers : ℕ) (h : MoveHistory) : Type 0 where
  pub sites : (s : ℕ) (x : MoveSite) → numbered h.world.sites s ≡ Some x → IsSite containers s x
  pub tokens : (c : ℕ) → IsContainer containers c → TokenOf h.world c (h.accepted c)
  pub rows : (c s : ℕ) → has_row h.world c s ≡ true → IsContainer containers c

pub bool_true : (a b : Bool) → (a ≡ false → b ≡ false) → b ≡ true → a ≡ true
bool_true true b h e = refl
bool_true false b h e = cc (h refl)

-- a world after a change of one server
abbrev pub world_with : MoveWorld → ℕ → MoveSite → List SentMove → MoveWorld
world_with w s y ms = record { sites = with_numbered s y w.sites; sent = ms }

-- a server with other containers, or with another lock table
abbrev pub site_with : MoveSite → Containers → MoveSite
site_with x m = record { containers = m; locks = x.locks }

abbrev pub site_locked : MoveSite → Locks → MoveSite
site_locked x l = record { containers = x.containers; locks = l }

module _ (w : MoveWorld) (s : ℕ) (x y : MoveSite) (ms : List SentMove) (e : numbered w.sites s ≡ Some x) where
  abbrev changed_world : MoveWorld
  changed_world = world_with w s y ms

  at_own : numbered changed_world.sites s ≡ Some y
  at_own = numbered_own w.sites s y x e

  at_other : (z : ℕ) → z ≢ s → numbered changed_world.sites z ≡ numbered w.sites z
  at_other z n = numbered_other w.sites s z y (numbered_below w.sites s x e).0 n

  pub record_own : (c : ℕ) → record_at changed_world c s ≡ known (numbered y.containers.records c)
  record_own c = ap (λ o. record_in o c) at_own

  pub record_was : (c : ℕ) → record_at w c s ≡ known (numbered x.containers.records c)
  record_was c = ap (λ o. record_in o c) e

  pub record_other : (c z : ℕ) → z ≢ s → record_at changed_world c z ≡ record_at w c z
  record_other c z n = ap (λ o. record_in o c) (at_other z n)

  pub record_still : (c : ℕ) → known (numbered y.containers.records c) ≡ known (numbered x.containers.records c) → (z : ℕ) → record_at changed_world c z ≡ record_at w c z
  record_still c f z = go (same_or_not z s)
    where
      go : (z ≡ s) ⊎ (z ≢ s) → record_at changed_world c z ≡ record_at w c z
      go (inl i) = subst (λ k. record_at changed_world c k ≡ record_at w c k) (sym i) (record_own c ∙ f ∙ sym (record_was c))
      go (inr n) = record_other c z n

  pub row_other : (c z : ℕ) → z ≢ s → has_row w c z ≡ false → has_row changed_world c z ≡ false
  row_other c z n f = ap (λ o. locked_in o c) (at_other z n) ∙ f

  pub row_still : (c : ℕ) → (is_locked x.locks c ≡ false → is_locked y.locks c ≡ false) → (z : ℕ) → has_row w c z ≡ false → has_row changed_world c z ≡ false
  row_still c f z h = go (same_or_not z s)
    where
      go : (z ≡ s) ⊎ (z ≢ s) → has_row changed_world c z ≡ false
      go (inl i) = subst (λ k. has_row changed_world c k ≡ false) (sym i) (ap (λ o. locked_in o c) at_own ∙ f (sym (ap (λ o. locked_in o c) e) ∙ subst (λ k. has_row w c k ≡ false) i h))
      go (inr n) = row_other c z n h

  pub sites_after : (containers : ℕ) → ((z : ℕ) (a : MoveSite) → numbered w.sites z ≡ Some a → IsSite containers z a) → length y.containers.records ≡ length x.containers.records → y.containers.server ≡ x.containers.server
      → (z : ℕ) (a : MoveSite) → numbered changed_world.sites z ≡ Some a → IsSite containers z a
  sites_after containers all l q z a f = go (same_or_not z s)
    where
      go : (z ≡ s) ⊎ (z ≢ s) → IsSite containers z a
      go (inr n) = all z a (sym (at_other z n) ∙ f)
      go (inl i) =
          let k : y ≡ a = some_is (sym at_own ∙ ap (λ j. numbered changed_world.sites j) (sym i) ∙ f) in
          let old : IsSite containers s x = all s x e in
          subst (IsSite containers z) k (record { whole = l ∙ old.whole; own = ap (λ v. v.0) q ∙ old.own ∙ sym i })

-- the accepted updates of this container, and of another
pub accepts_own : (accepted : ℕ → List (List ℕ)) (c : ℕ) (u : List ℕ) → accepts accepted c u c ≡ accepted c ++ u ∷ []
accepts_own accepted c u = go (eqb_tells c c)
  where
    go : ((eqb c c ≡ true) × (c ≡ c)) ⊎ ((eqb c c ≡ false) × (c ≢ c)) → accepts accepted c u c ≡ accepted c ++ u ∷ []
    go (inl i) = cond_true (c == c) _ _ i.0
    go (inr i) = absurd (i.1 refl)

pub accepts_other : (accepted : ℕ → List (List ℕ)) (c d : ℕ) (u : List ℕ) → d ≢ c → accepts accepted c u d ≡ accepted d
accepts_other accepted c d u n = go (eqb_tells d c)
  where
    go : ((eqb d c ≡ true) × (d ≡ c)) ⊎ ((eqb d c ≡ false) × (d ≢ c)) → accepts accepted c u d ≡ accepted d
    go (inl i) = absurd (n i.1)
    go (inr i) = cond_false (d == c) _ _ i.0

-- a held record is replaced
module _ (containers : ℕ) (h : MoveHistory) (st : Stands containers h) (s : ℕ) (x : MoveSite) (e : numbered h.world.sites s ≡ Some x) (after : ℕ → List (List ℕ)) (c : ℕ) (r q : ContainerRecord)
    (at : IsHeldAt x.containers.records c r) (v : q.version ≡ r.version) (going : IsGoing s q.state) (ups : r.updates ≡ h.accepted c → q.updates ≡ after c) (others : (d : ℕ) → d ≢ c → after d ≡ h.accepted d) where
  abbrev site_replaced : MoveSite
  site_replaced = site_with x (with_changed x.containers c q)

  abbrev world_replaced : MoveWorld
  world_replaced = world_with h.world s site_replaced h.world.sent

  container_replaced : IsContainer containers c
  container_replaced =
      let b : (1 ≤ c) × (c ≤ length x.containers.records) = numbered_below x.containers.records c (Some r) at.0 in
      record { some = b.0; known = subst (λ n. c ≤ n) (st.sites s x e).whole b.1 }

  own_replaced : TokenOf world_replaced c (after c)
  own_replaced = same
      (changes (st.tokens c container_replaced) (record_at world_replaced c) (after c) s r q (record_was h.world s x site_replaced h.world.sent e c ∙ ap known at.0) at.1
      (record_own h.world s x site_replaced h.world.sent e c ∙ ap known (numbered_own x.containers.records c (Some q) (Some r) at.0)) (record_other h.world s x site_replaced h.world.sent e c) v going ups)
      (record_at world_replaced c) (has_row world_replaced c) h.world.sent (λ z. refl) (row_still h.world s x site_replaced h.world.sent e c (λ j. j)) (λ m i. inl i)

  other_replaced : (d : ℕ) → d ≢ c → IsContainer containers d → TokenOf world_replaced d (after d)
  other_replaced d n i = subst (TokenOf world_replaced d) (sym (others d n))
      (same (st.tokens d i) (record_at world_replaced d) (has_row world_replaced d) h.world.sent (record_still h.world s x site_replaced h.world.sent e d (ap known (numbered_other x.containers.records c d (Some q) container_replaced.some n)))
      (row_still h.world s x site_replaced h.world.sent e d (λ j. j)) (λ m j. inl j))

  pub replaced : Stands containers (record { world = world_replaced; accepted = after })
  replaced = record {
    sites = sites_after h.world s x site_replaced h.world.sent e containers st.sites (set_length x.containers.records _ _) refl;
    tokens = tokens;
    rows = λ d z i. st.rows d z (bool_true _ _ (row_still h.world s x site_replaced h.world.sent e d (λ j. j) z) i);
  }
    where
      tokens : (d : ℕ) → IsContainer containers d → TokenOf world_replaced d (after d)
      tokens d i = go (same_or_not d c)
        where
          go : (d ≡ c) ⊎ (d ≢ c) → TokenOf world_replaced d (after d)
          go (inl j) = subst (λ k. TokenOf world_replaced k (after k)) (sym j) own_replaced
          go (inr n) = other_replaced d n i

-- nothing changes but messages that are received
pub received_more : (containers : ℕ) (h : MoveHistory) → Stands containers h → (sent : List SentMove)
    → ((m : SentMove) → Has m sent → Has m h.world.sent ⊎ ((k : SentMove) × Has k h.world.sent × (m.to ≡ k.to) × (m.message ≡ k.message)))
    → Stands containers (record { world = record { sites = h.world.sites; sent = sent }; accepted = h.accepted })
received_more containers h st sent from = record { sites = st.sites; tokens = tokens; rows = st.rows }
  where
    tokens : (c : ℕ) → IsContainer containers c → Token c (record_at h.world c) (has_row h.world c) (h.accepted c) sent
    tokens c i = same (st.tokens c i) (record_at h.world c) (has_row h.world c) sent (λ z. refl) (λ z f. f) received
      where
        received : (m : SentMove) → Has m sent → Has m h.world.sent ⊎ IsReceived c (record_at h.world c) (st.tokens c i).top (h.accepted c) (st.tokens c i).kept.state m.to m.message
        received m j = go (from m j)
          where
            go : Has m h.world.sent ⊎ ((k : SentMove) × Has k h.world.sent × (m.to ≡ k.to) × (m.message ≡ k.message))
                → Has m h.world.sent ⊎ IsReceived c (record_at h.world c) (st.tokens c i).top (h.accepted c) (st.tokens c i).kept.state m.to m.message
            go (inl o) = inl o
            go (inr o) = inr (subst (λ a. IsReceived c (record_at h.world c) (st.tokens c i).top (h.accepted c) (st.tokens c i).kept.state a m.message) (sym o.2)
                (subst (IsReceived c (record_at h.world c) (st.tokens c i).top (h.accepted c) (st.tokens c i).kept.state o.0.to) (sym o.3) ((st.tokens c i).received o.0 o.1)))

-- the lock table of a server changes
pub relocked : (containers : ℕ) (h : MoveHistory) → Stands containers h → (s : ℕ) (x : MoveSite) (e : numbered h.world.sites s ≡ Some x) (l : Locks)
    → ((c : ℕ) → IsContainer containers c → TokenOf (world_with h.world s (site_locked x l) h.world.sent) c (h.accepted c))
    → ((c : ℕ) → is_locked l c ≡ true → IsContainer containers c)
    → Stands containers (record { world = world_with h.world s (site_locked x l) h.world.sent; accepted = h.accepted })
relocked containers h st s x e l tokens known_rows = record {
  sites = sites_after h.world s x (site_locked x l) h.world.sent e containers st.sites refl refl;
  tokens = tokens;
  rows = rows;
}
  where
    rows : (c z : ℕ) → has_row (world_with h.world s (site_locked x l) h.world.sent) c z ≡ true → IsContainer containers c
    rows c z i = go (same_or_not z s)
      where
        go : (z ≡ s) ⊎ (z ≢ s) → IsContainer containers c
        go (inl j) = known_rows c (sym (ap (λ o. locked_in o c) (numbered_own h.world.sites s (site_locked x l) x e)) ∙ subst (λ k. has_row (world_with h.world s (site_locked x l) h.world.sent) c k ≡ true) j i)
        go (inr n) = st.rows c z (bool_true _ _ (row_other h.world s x (site_locked x l) h.world.sent e c z n) i)

-- a container is locked by client 1 if it is served
pub lock_stands : (containers : ℕ) (h : MoveHistory) → Stands containers h → (s : ℕ) (x : MoveSite) → numbered h.world.sites s ≡ Some x → (c : ℕ) (r : ContainerRecord) → IsHeldAt x.containers.records c r
    → Stands containers (record { world = world_with h.world s (site_locked x (locked x.locks c)) h.world.sent; accepted = h.accepted })
lock_stands containers h st s x e c r at = relocked containers h st s x e (locked x.locks c) tokens rows
  where
    is_container : IsContainer containers c
    is_container =
        let b : (1 ≤ c) × (c ≤ length x.containers.records) = numbered_below x.containers.records c (Some r) at.0 in
        record { some = b.0; known = subst (λ n. c ≤ n) (st.sites s x e).whole b.1 }

    own : TokenOf (world_with h.world s (site_locked x (locked x.locks c)) h.world.sent) c (h.accepted c)
    own = same
        (locks (st.tokens c is_container) (has_row (world_with h.world s (site_locked x (locked x.locks c)) h.world.sent) c) s r (record_was h.world s x (site_locked x (locked x.locks c)) h.world.sent e c ∙ ap known at.0) at.1
        (λ z n f. row_other h.world s x (site_locked x (locked x.locks c)) h.world.sent e c z n f))
        (record_at (world_with h.world s (site_locked x (locked x.locks c)) h.world.sent) c) (has_row (world_with h.world s (site_locked x (locked x.locks c)) h.world.sent) c) h.world.sent
        (record_still h.world s x (site_locked x (locked x.locks c)) h.world.sent e c refl) (λ z f. f) (λ m i. inl i)

    another : (d : ℕ) → d ≢ c → IsContainer containers d → TokenOf (world_with h.world s (site_locked x (locked x.locks c)) h.world.sent) d (h.accepted d)
    another d n i = same (st.tokens d i) (record_at (world_with h.world s (site_locked x (locked x.locks c)) h.world.sent) d) (has_row (world_with h.world s (site_locked x (locked x.locks c)) h.world.sent) d) h.world.sent
        (record_still h.world s x (site_locked x (locked x.locks c)) h.world.sent e d refl) (row_still h.world s x (site_locked x (locked x.locks c)) h.world.sent e d (locked_other x.locks c d n)) (λ m j. inl j)

    tokens : (d : ℕ) → IsContainer containers d → TokenOf (world_with h.world s (site_locked x (locked x.locks c)) h.world.sent) d (h.accepted d)
    tokens d i = go (same_or_not d c)
      where
        go : (d ≡ c) ⊎ (d ≢ c) → TokenOf (world_with h.world s (site_locked x (locked x.locks c)) h.world.sent) d (h.accepted d)
        go (inl j) = subst (λ k. TokenOf (world_with h.world s (site_locked x (locked x.locks c)) h.world.sent) k (h.accepted k)) (sym j) own
        go (inr n) = another d n i

    rows : (d : ℕ) → is_locked (locked x.locks c) d ≡ true → IsContainer containers d
    rows d i = go (same_or_not d c)
      where
        go : (d ≡ c) ⊎ (d ≢ c) → IsContainer containers d
        go (inl j) = subst (IsContainer containers) (sym j) is_container
        go (inr n) = st.rows d s (ap (λ o. locked_in o d) e ∙ bool_true _ _ (locked_other x.locks c d n) i)

-- a lock is released
pub unlock_stands : (containers : ℕ) (h : MoveHistory) → Stands containers h → (s : ℕ) (x : MoveSite) → numbered h.world.sites s ≡ Some x → (c : ℕ)
    → Stands containers (record { world = world_with h.world s (site_locked x (unlocked x.locks c)) h.world.sent; accepted = h.accepted })
unlock_stands containers h st s x e c = relocked containers h st s x e (unlocked x.locks c)
    (λ d i. same (st.tokens d i) (record_at (world_with h.world s (site_locked x (unlocked x.locks c)) h.world.sent) d) (has_row (world_with h.world s (site_locked x (unlocked x.locks c)) h.world.sent) d) h.world.sent
    (record_still h.world s x (site_locked x (unlocked x.locks c)) h.world.sent e d refl) (row_still h.world s x (site_locked x (unlocked x.locks c)) h.world.sent e d (unlocked_any x.locks c d)) (λ m j. inl j))
    (λ d i. st.rows d s (ap (λ o. locked_in o d) e ∙ bool_true _ _ (unlocked_any x.locks c d) i))

-- an image that is of a record is that of the container
image_of_record : (c : ℕ) (rs : List (Option ContainerRecord)) (to : ServerId) (message : MoveMessage) → IsImageAt 0 rs to message → IsImageOf c (known (numbered rs c)) to message
image_of_record c rs to (Taken d v) h = h
image_of_record c rs to (Image d v us) h = λ e.
    let f : c ≡ suc h.0 = sym e ∙ h.1 ∙ omega arith in
    (h.2, ap (λ k. known (numbered rs k)) f ∙ ap known h.3, h.4, h.5, h.6)

-- a tick
module _ (containers : ℕ) (h : MoveHistory) (st : Stands containers h) (from : ServerId) (x : MoveSite) (e : numbered h.world.sites from.0 ≡ Some x) where
  abbrev ticked_containers : Containers
  ticked_containers = after_tick x.containers x.locks

  abbrev sent_ticked : List SentMove
  sent_ticked = h.world.sent ++ map (sent_move from) (images ticked_containers)

  abbrev world_ticked : MoveWorld
  world_ticked = world_with h.world from.0 (site_with x ticked_containers) sent_ticked

  tick_sends : (c : ℕ) → Sends c (record_at world_ticked c from.0) h.world.sent sent_ticked
  tick_sends c k i = go (has_append h.world.sent (map (sent_move from) (images ticked_containers)) k i)
    where
      by : (z : ServerId × MoveMessage) × Has z (images ticked_containers) × (k ≡ sent_move from z) → IsImageOf c (record_at world_ticked c from.0) k.to k.message
      by f =
          let g : IsImageOf c (known (numbered ticked_containers.records c)) f.0.0 f.0.1 = image_of_record c ticked_containers.records f.0.0 f.0.1 (images_at 0 ticked_containers.records f.0 f.1) in
          subst (λ (q : SentMove). IsImageOf c (record_at world_ticked c from.0) q.to q.message) (sym f.2)
          (subst (λ o. IsImageOf c o f.0.0 f.0.1) (sym (record_own h.world from.0 x (site_with x ticked_containers) sent_ticked e c)) g)

      go : Has k h.world.sent ⊎ Has k (map (sent_move from) (images ticked_containers)) → Has k h.world.sent ⊎ IsImageOf c (record_at world_ticked c from.0) k.to k.message
      go (inl j) = inl j
      go (inr j) = inr (by (has_map (sent_move from) (images ticked_containers) k j))

  tick_token : (c : ℕ) → IsContainer containers c → TokenOf world_ticked c (h.accepted c)
  tick_token c i = same
      (ticks (st.tokens c i) (record_at world_ticked c) sent_ticked from.0 (is_locked x.locks c) (ap (λ o. locked_in o c) e)
      (record_own h.world from.0 x (site_with x ticked_containers) sent_ticked e c ∙ sent_known x.locks x.containers.records c ∙ ap (λ o. sent_if (leaves_if (is_locked x.locks c) o) o) (sym (record_was h.world from.0 x (site_with x ticked_containers) sent_ticked e c)))
      (record_other h.world from.0 x (site_with x ticked_containers) sent_ticked e c) (tick_sends c))
      (record_at world_ticked c) (has_row world_ticked c) sent_ticked (λ z. refl) (row_still h.world from.0 x (site_with x ticked_containers) sent_ticked e c (λ j. j)) (λ k j. inl j)

  pub tick_stands : Stands containers (record { world = world_ticked; accepted = h.accepted })
  tick_stands = record {
    sites = sites_after h.world from.0 x (site_with x ticked_containers) sent_ticked e containers st.sites (sent_length x.locks 0 x.containers.records) refl;
    tokens = tick_token;
    rows = λ d z i. st.rows d z (bool_true _ _ (row_still h.world from.0 x (site_with x ticked_containers) sent_ticked e d (λ j. j) z) i);
  }

-- the same messages
no_more : {c : ℕ} {rec : Records} {row : ℕ → Bool} {accepted : List (List ℕ)} {ms : List SentMove} → Token c rec row accepted ms → (lock : ℕ → Bool) (sent : List SentMove)
    → ((s : ℕ) → row s ≡ false → lock s ≡ false) → ((m : SentMove) → Has m sent → Has m ms) → Token c rec lock accepted sent
no_more {rec = rec} t lock sent l f = same t rec lock sent (λ z. refl) l (λ m i. inl (f m i))

taken_image : {d v n w : ℕ} {us : List (List ℕ)} → Taken d v ≡ Image n w us → ⊥
taken_image e = cc

image_version : {a b y z : ℕ} {us vs : List (List ℕ)} → Image a y us ≡ Image b z vs → y ≡ z
image_version e = cc

-- a message comes
take_length : (message : MoveMessage) (o : Option (Option ContainerRecord)) (rs : List (Option ContainerRecord)) → length (taken_at message o rs) ≡ length rs
unfolding taken_at
take_length message None rs = refl
take_length message (Some r) rs = set_length rs _ _

take_other : (message : MoveMessage) (o : Option (Option ContainerRecord)) (rs : List (Option ContainerRecord)) (c : ℕ) → numbered rs (container_of message) ≡ o → c ≢ container_of message → numbered (taken_at message o rs) c ≡ numbered rs c
unfolding taken_at
take_other message None rs c e n = refl
take_other message (Some r) rs c e n = numbered_other rs (container_of message) c _ (numbered_below rs (container_of message) r e).0 n

take_own : (message : MoveMessage) (r : Option ContainerRecord) (rs : List (Option ContainerRecord)) → numbered rs (container_of message) ≡ Some r → numbered (taken_at message (numbered rs (container_of message)) rs) (container_of message) ≡ Some (taken_in message r)
unfolding taken_at
take_own message r rs e = ap (λ o. numbered (taken_at message o rs) (container_of message)) e ∙ numbered_own rs (container_of message) (taken_in message r) r e

there_is : (rs : List (Option ContainerRecord)) (c : ℕ) → 1 ≤ c → c ≤ length rs → (r : Option ContainerRecord) × (numbered rs c ≡ Some r)
there_is rs zero l b = absurd (omega arith)
there_is rs (suc n) l b = get_there rs n (omega arith)

module _ (containers : ℕ) (h : MoveHistory) (st : Stands containers h) (k : SentMove) (i : Has k h.world.sent) (x : MoveSite) (e : numbered h.world.sites k.to.0 ≡ Some x) where
  abbrev taken_containers : Containers
  taken_containers = after_take x.containers k.message

  abbrev sent_more : List SentMove
  sent_more = answer_sent k (answer_to k.message)

  abbrev all_sent : List SentMove
  all_sent = h.world.sent ++ sent_more

  abbrev after_world : MoveWorld
  after_world = world_with h.world k.to.0 (site_with x taken_containers) all_sent

  -- what is also sent is an answer of the container and the version
  answer_is : (message : MoveMessage) (q : SentMove) → Has q (answer_sent k (answer_to message)) → (v : ℕ) × (us : List (List ℕ)) × (message ≡ Image (container_of message) v us) × (q.message ≡ Taken (container_of message) v)
  unfolding answer_sent
  answer_is (Taken d v) q j = absurd j
  answer_is (Image d v us) q (inl j) = (v, us, refl, ap (λ (z : SentMove). z.message) j)
  answer_is (Image d v us) q (inr j) = absurd j

  others_token : (c : ℕ) → IsContainer containers c → c ≢ container_of k.message → TokenOf after_world c (h.accepted c)
  others_token c j n = same (st.tokens c j) (record_at after_world c) (has_row after_world c) all_sent
      (record_still h.world k.to.0 x (site_with x taken_containers) all_sent e c (ap known (take_other k.message (numbered x.containers.records (container_of k.message)) x.containers.records c refl n)))
      (row_still h.world k.to.0 x (site_with x taken_containers) all_sent e c (λ f. f)) received
    where
      received : (q : SentMove) → Has q all_sent → Has q h.world.sent ⊎ IsReceived c (record_at h.world c) (st.tokens c j).top (h.accepted c) (st.tokens c j).kept.state q.to q.message
      received q g = go (has_append h.world.sent sent_more q g)
        where
          go : Has q h.world.sent ⊎ Has q sent_more → Has q h.world.sent ⊎ IsReceived c (record_at h.world c) (st.tokens c j).top (h.accepted c) (st.tokens c j).kept.state q.to q.message
          go (inl o) = inl o
          go (inr o) =
              let a : (v : ℕ) × (us : List (List ℕ)) × (k.message ≡ Image (container_of k.message) v us) × (q.message ≡ Taken (container_of k.message) v) = answer_is k.message q o in
              let b : IsReceived c (record_at h.world c) (st.tokens c j).top (h.accepted c) (st.tokens c j).kept.state q.to (Taken (container_of k.message) a.0) = λ z. absurd (n (sym z)) in
              inr (subst (IsReceived c (record_at h.world c) (st.tokens c j).top (h.accepted c) (st.tokens c j).kept.state q.to) (sym a.3) b)

  own_token : (message : MoveMessage) → k.message ≡ message → (c : ℕ) → IsContainer containers c → c ≡ container_of message → TokenOf after_world c (h.accepted c)
  own_token message f c j g = go (there_is x.containers.records c j.some (subst (λ n. c ≤ n) (sym (st.sites k.to.0 x e).whole) j.known))
    where
      record_after : (r : Option ContainerRecord) → numbered x.containers.records c ≡ Some r → (b : MoveMessage) → k.message ≡ b → c ≡ container_of b → record_at after_world c k.to.0 ≡ taken_in b (record_at h.world c k.to.0)
      record_after r a b p q =
          let z : c ≡ container_of k.message = q ∙ ap container_of (sym p) in
          record_own h.world k.to.0 x (site_with x taken_containers) all_sent e c
          ∙ ap (λ d. known (numbered taken_containers.records d)) z
          ∙ ap known (take_own k.message r x.containers.records (ap (numbered x.containers.records) (sym z) ∙ a))
          ∙ ap (λ b. taken_in b r) p
          ∙ ap (taken_in b) (sym (record_was h.world k.to.0 x (site_with x taken_containers) all_sent e c ∙ ap known a))

      row_after : (z : ℕ) → has_row h.world c z ≡ false → has_row after_world c z ≡ false
      row_after = row_still h.world k.to.0 x (site_with x taken_containers) all_sent e c (λ f. f)

      received_k : (b : MoveMessage) → k.message ≡ b → IsReceived c (record_at h.world c) (st.tokens c j).top (h.accepted c) (st.tokens c j).kept.state k.to b
      received_k b p = subst (IsReceived c (record_at h.world c) (st.tokens c j).top (h.accepted c) (st.tokens c j).kept.state k.to) p ((st.tokens c j).received k i)

      go : (r : Option ContainerRecord) × (numbered x.containers.records c ≡ Some r) → TokenOf after_world c (h.accepted c)
      go a = by message f g
        where
          by : (b : MoveMessage) → k.message ≡ b → c ≡ container_of b → TokenOf after_world c (h.accepted c)
          by (Image d v us) p q = same
              (images_come (st.tokens c j) (record_at after_world c) all_sent k.to v us (subst (λ n. IsReceived c (record_at h.world c) (st.tokens c j).top (h.accepted c) (st.tokens c j).kept.state k.to (Image n v us)) (sym q) (received_k (Image d v us) p))
              (record_after a.0 a.1 (Image d v us) p q) (record_other h.world k.to.0 x (site_with x taken_containers) all_sent e c) sends)
              (record_at after_world c) (has_row after_world c) all_sent (λ z. refl) row_after (λ z o. inl o)
            where
              sends : (z : SentMove) → Has z all_sent → Has z h.world.sent ⊎ (z.message ≡ Taken c v)
              sends z o = pick (has_append h.world.sent sent_more z o)
                where
                  pick : Has z h.world.sent ⊎ Has z sent_more → Has z h.world.sent ⊎ (z.message ≡ Taken c v)
                  pick (inl u) = inl u
                  pick (inr u) =
                      let t : (w : ℕ) × (xs : List (List ℕ)) × (k.message ≡ Image (container_of k.message) w xs) × (z.message ≡ Taken (container_of k.message) w) = answer_is k.message z u in
                      let same_container : container_of k.message ≡ c = ap container_of p ∙ sym q in
                      let version : t.0 ≡ v = image_version (sym t.2 ∙ p) in
                      inr (t.3 ∙ ap (λ n. Taken n t.0) same_container ∙ ap (Taken c) version)
          by (Taken d v) p q = no_more
              (answers_come (st.tokens c j) (record_at after_world c) k.to.0 v (received_k (Taken d v) p (sym q)) (record_after a.0 a.1 (Taken d v) p q) (record_other h.world k.to.0 x (site_with x taken_containers) all_sent e c))
              (has_row after_world c) all_sent row_after sends
            where
              sends : (z : SentMove) → Has z all_sent → Has z h.world.sent
              sends z o = pick (has_append h.world.sent sent_more z o)
                where
                  pick : Has z h.world.sent ⊎ Has z sent_more → Has z h.world.sent
                  pick (inl u) = u
                  pick (inr u) = absurd (taken_image (sym p ∙ (answer_is k.message z u).2))

  pub take_stands : Stands containers (record { world = after_world; accepted = h.accepted })
  take_stands = record {
    sites = sites_after h.world k.to.0 x (site_with x taken_containers) all_sent e containers st.sites (take_length k.message (numbered x.containers.records (container_of k.message)) x.containers.records) refl;
    tokens = tokens;
    rows = λ d z j. st.rows d z (bool_true _ _ (row_still h.world k.to.0 x (site_with x taken_containers) all_sent e d (λ f. f) z) j);
  }
    where
      tokens : (c : ℕ) → IsContainer containers c → TokenOf after_world c (h.accepted c)
      tokens c j = go (same_or_not c (container_of k.message))
        where
          go : (c ≡ container_of k.message) ⊎ (c ≢ container_of k.message) → TokenOf after_world c (h.accepted c)
          go (inl o) = own_token k.message refl c j o
          go (inr n) = others_token c j n
