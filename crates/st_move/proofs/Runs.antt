-- Every list of events keeps the invariant, and from that follows the law.
use Rattle.st_lemmas.proofs.Words
use Words.{◌≡◌, ◌≢◌, ℕ, suc, ◌+◌, ◌%◌, ◌≤◌, ◌<◌, ◌⊎◌, Bool, true, false, List, [], ◌∷◌, ◌++◌, length, Option, Some, None, refl, sym, ap, ◌∙◌, subst, inl, inr}
use Words.{arith, eqb, true≢false, zero, if◌then◌else◌, slice_get, Result, Ok, Err, ServerId}
use Words.World.{numbered, with_numbered}
use Words.Lists.{Has}
use Words.Lookups.{some_is}
use Words.Numbers.{get_below, numbered_below, numbered_has}
use Words.Tables.{cond_true, cond_false, same_or_not}
use Rattle.std.proofs.lemmas.Bool.Decides.{eqb_tells}
use Rattle.st_move.specs.declared.record.ContainerRecord.{ContainerRecord}
use Rattle.st_move.specs.declared.record.ContainerState.{ContainerState}
use Rattle.st_move.specs.declared.record.ContainerState.TheVariants.{Holding, Leaving, Sent, Gone}
use Rattle.st_move.specs.declared.refusal.MoveRefusal.{MoveRefusal}
use Rattle.st_move.specs.declared.world.MoveEvent.{MoveEvent}
use Rattle.st_move.specs.declared.world.MoveEvent.TheVariants as events
use Rattle.st_move.specs.declared.world.SentMove.{SentMove}
use Rattle.st_move.specs.declared.site.MoveSite.{MoveSite}
use Rattle.st_move.specs.declared.world.MoveAnswer.{MoveAnswer}
use Rattle.st_move.specs.declared.world.MoveAnswer.TheVariants.{Done, Listed, LostMessage, NoLock}
use Rattle.st_move.specs.Containers.{after_order, after_put, beginning, beginnings, begins_at, held, listed, recorded, with_state, with_updates}
use Rattle.st_move.specs.Law.{IsKeptBy, MoveHistory, NoUpdateIsLost, OneHolder, accepts, fresh_history, has_row, holds, holds_by, is_held, known, locked_in}
use Rattle.st_move.specs.Law.{noted, record_at, record_in, run_moves}
use Rattle.st_move.specs.World.{MoveWorld, deliver_at, fresh_site, fresh_world, happens, has_lock, list_at, list_told, lock_at, lock_told, lose_at, lost_move}
use Rattle.st_move.specs.World.{order_at, order_for, order_told, put_at, put_told, server, sites_behind, taken_by, tick_at, ticked, told, unlock_at, unlocked}
use Rattle.st_move.specs.World.{with_locks, with_lost}
use Rattle.st_move.proofs.CallAnswers.{IsHeldAt, held_says, listed_says, numbered_set_has, order_says, put_says, with_changed}
use Rattle.st_move.proofs.Stands.{IsContainer, IsSite, Stands, TokenOf, accepts_other, accepts_own, received_more, lock_stands, replaced, take_stands}
use Rattle.st_move.proofs.Stands.{tick_stands, unlock_stands}
use Rattle.st_move.proofs.Token.{IsGoing, IsNewest, IsOlder, held_here}

module _ (containers : ℕ) (h : MoveHistory) (st : Stands containers h) where
  put_event : (s : ServerId) (c : ℕ) (u : List ℕ) (o : Option MoveSite) → numbered h.world.sites s.0 ≡ o → Stands containers (noted h (events.Put s c u) (put_at h.world s c u o))
  unfolding put_at put_told
  put_event s c u None e = st
  put_event s c u (Some x) e = go (put_says x.containers c u)
    where
      go : ((r : ContainerRecord) × IsHeldAt x.containers.records c r × (after_put x.containers c u ≡ Ok (with_changed x.containers c (with_updates r (r.updates ++ u ∷ []))))) ⊎ ((f : MoveRefusal) × (after_put x.containers c u ≡ Err f))
          → Stands containers (noted h (events.Put s c u) (put_told h.world s x c (after_put x.containers c u)))
      go (inr f) = subst (λ z. Stands containers (noted h (events.Put s c u) (put_told h.world s x c z))) (sym f.1) st
      go (inl f) = subst (λ z. Stands containers (noted h (events.Put s c u) (put_told h.world s x c z))) (sym f.2)
          (replaced containers h st s.0 x e (accepts h.accepted c u) c f.0 (with_updates f.0 (f.0.updates ++ u ∷ [])) f.1 refl
          (subst (IsGoing s.0) (sym f.1.1) tt) (λ z. ap (λ us. us ++ u ∷ []) z ∙ sym (accepts_own h.accepted c u)) (λ d n. accepts_other h.accepted c d u n))

  order_event : (s : ServerId) (c : ℕ) (to : ServerId) (x : MoveSite) → numbered h.world.sites s.0 ≡ Some x → (o : Option MoveSite) → Stands containers (noted h (events.Order s c to) (order_for h.world s x c to o))
  unfolding order_for order_told
  order_event s c to x e None = st
  order_event s c to x e (Some y) = go (order_says x.containers c to)
    where
      go : ((r : ContainerRecord) × IsHeldAt x.containers.records c r × (to.0 ≢ x.containers.server.0) × (after_order x.containers c to ≡ Ok (with_changed x.containers c (with_state r (Leaving to))))) ⊎ ((f : MoveRefusal) × (after_order x.containers c to ≡ Err f))
          → Stands containers (noted h (events.Order s c to) (order_told h.world s x (after_order x.containers c to)))
      go (inr f) = subst (λ z. Stands containers (noted h (events.Order s c to) (order_told h.world s x z))) (sym f.1) st
      go (inl f) = subst (λ z. Stands containers (noted h (events.Order s c to) (order_told h.world s x z))) (sym f.3)
          (replaced containers h st s.0 x e h.accepted c f.0 (with_state f.0 (Leaving to)) f.1 refl (λ i. f.2 (i ∙ sym (st.sites s.0 x e).own)) (λ z. z) (λ d n. refl))

  list_event : (s : ServerId) (c : ℕ) (o : Option MoveSite) → Stands containers (noted h (events.List s c) (list_at h.world s c o))
  unfolding list_at list_told
  list_event s c None = st
  list_event s c (Some x) = go (listed x.containers c)
    where
      go : (r : Result (List (List ℕ)) MoveRefusal) → Stands containers (noted h (events.List s c) (list_told h.world r))
      go (Ok us) = st
      go (Err f) = st

  lock_event : (s : ServerId) (c : ℕ) (o : Option MoveSite) → numbered h.world.sites s.0 ≡ o → Stands containers (noted h (events.Lock s c) (lock_at h.world s c o))
  unfolding lock_at lock_told
  lock_event s c None e = st
  lock_event s c (Some x) e = go (held_says x.containers c)
    where
      go : ((r : ContainerRecord) × IsHeldAt x.containers.records c r × (held x.containers c ≡ Ok r)) ⊎ ((f : MoveRefusal) × (held x.containers c ≡ Err f))
          → Stands containers (noted h (events.Lock s c) (lock_told h.world s x c (held x.containers c)))
      go (inr f) = subst (λ z. Stands containers (noted h (events.Lock s c) (lock_told h.world s x c z))) (sym f.1) st
      go (inl f) = subst (λ z. Stands containers (noted h (events.Lock s c) (lock_told h.world s x c z))) (sym f.2) (lock_stands containers h st s.0 x e c f.0 f.1)

  unlock_event : (s : ServerId) (c : ℕ) (o : Option MoveSite) → numbered h.world.sites s.0 ≡ o → Stands containers (noted h (events.Unlock s c) (unlock_at h.world s c o))
  unfolding unlock_at
  unlock_event s c None e = st
  unlock_event s c (Some x) e = go (has_lock x.locks c)
    where
      go : (b : Bool) → Stands containers (noted h (events.Unlock s c) (if b then told (with_locks s x (unlocked x.locks c) h.world) Done else told h.world NoLock))
      go true = unlock_stands containers h st s.0 x e c
      go false = st

  tick_event : (s : ServerId) (o : Option MoveSite) → numbered h.world.sites s.0 ≡ o → Stands containers (noted h (events.Tick s) (tick_at h.world s o))
  unfolding tick_at ticked
  tick_event s None e = st
  tick_event s (Some x) e = tick_stands containers h st s x e

  take_event : (k : ℕ) (m : SentMove) → Has m h.world.sent → (o : Option MoveSite) → numbered h.world.sites m.to.0 ≡ o → Stands containers (noted h (events.Deliver k) (taken_by h.world m o))
  unfolding taken_by
  take_event k m i None e = st
  take_event k m i (Some x) e = take_stands containers h st m i x e

  deliver_event : (k : ℕ) (o : Option SentMove) → numbered h.world.sent k ≡ o → Stands containers (noted h (events.Deliver k) (deliver_at h.world k o))
  unfolding deliver_at
  deliver_event k None e = st
  deliver_event k (Some m) e = go m.lost
    where
      go : (b : Bool) → Stands containers (noted h (events.Deliver k) (if b then told h.world (LostMessage k) else taken_by h.world m (numbered h.world.sites m.to.0)))
      go true = st
      go false = take_event k m (numbered_has h.world.sent k m e) (numbered h.world.sites m.to.0) refl

  lose_event : (k : ℕ) (o : Option SentMove) → numbered h.world.sent k ≡ o → Stands containers (noted h (events.Lose k) (lose_at h.world k o))
  unfolding lose_at
  lose_event k None e = st
  lose_event k (Some m) e = go m.lost
    where
      from : (z : SentMove) → Has z (with_numbered k (lost_move m) h.world.sent) → Has z h.world.sent ⊎ ((q : SentMove) × Has q h.world.sent × (z.to ≡ q.to) × (z.message ≡ q.message))
      from z i = by (numbered_set_has h.world.sent k (lost_move m) z i)
        where
          by : (z ≡ lost_move m) ⊎ Has z h.world.sent → Has z h.world.sent ⊎ ((q : SentMove) × Has q h.world.sent × (z.to ≡ q.to) × (z.message ≡ q.message))
          by (inr j) = inl j
          by (inl j) = inr (m, numbered_has h.world.sent k m e, ap (λ (a : SentMove). a.to) j, ap (λ (a : SentMove). a.message) j)

      go : (b : Bool) → Stands containers (noted h (events.Lose k) (if b then told h.world (LostMessage k) else record { world = with_lost k m h.world; answers = [] }))
      go true = st
      go false = received_more containers h st (with_numbered k (lost_move m) h.world.sent) from

  event_stands : (e : MoveEvent) → Stands containers (noted h e (happens h.world e))
  unfolding happens order_at
  event_stands (events.Put s c u) = put_event s c u (numbered h.world.sites s.0) refl
  event_stands (events.List s c) = list_event s c (numbered h.world.sites s.0)
  event_stands (events.Lock s c) = lock_event s c (numbered h.world.sites s.0) refl
  event_stands (events.Unlock s c) = unlock_event s c (numbered h.world.sites s.0) refl
  event_stands (events.Tick s) = tick_event s (numbered h.world.sites s.0) refl
  event_stands (events.Deliver k) = deliver_event k (numbered h.world.sent k) refl
  event_stands (events.Lose k) = lose_event k (numbered h.world.sent k) refl
  event_stands (events.Order s c to) = go (numbered h.world.sites s.0) refl
    where
      go : (o : Option MoveSite) → numbered h.world.sites s.0 ≡ o → Stands containers (noted h (events.Order s c to) (order_at h.world s c to o))
      go None e = st
      go (Some x) e = order_event s c to x e (numbered h.world.sites to.0)

pub run_stands : (containers : ℕ) (es : List MoveEvent) (h : MoveHistory) → Stands containers h → Stands containers (run_moves h es)
run_stands containers [] h st = st
run_stands containers (e ∷ es) h st = run_stands containers es (noted h e (happens h.world e)) (event_stands containers h st e)

-- The beginning.
sites_get : (servers containers p k i : ℕ) → i < k → slice_get (sites_behind servers containers p k) i ≡ Some (fresh_site servers containers (p + suc i))
unfolding sites_behind
sites_get servers containers p zero i l = absurd (omega arith)
sites_get servers containers p (suc k) zero l = let e : p + 1 ≡ p + suc zero = omega arith in ap (λ n. Some (fresh_site servers containers n)) e
sites_get servers containers p (suc k) (suc i) l =
    let e : p + 1 + suc i ≡ p + suc (suc i) = omega arith in sites_get servers containers (p + 1) k i (omega arith) ∙ ap (λ n. Some (fresh_site servers containers n)) e

sites_length : (servers containers p k : ℕ) → length (sites_behind servers containers p k) ≡ k
unfolding sites_behind
sites_length servers containers p zero = refl
sites_length servers containers p (suc k) = ap suc (sites_length servers containers (p + 1) k)

beginnings_get : (s : ServerId) (servers p k i : ℕ) → i < k → slice_get (beginnings s servers p k) i ≡ Some (beginning s servers (p + i))
unfolding beginnings
beginnings_get s servers p zero i l = absurd (omega arith)
beginnings_get s servers p (suc k) zero l = let e : p ≡ p + zero = omega arith in ap (λ n. Some (beginning s servers n)) e
beginnings_get s servers p (suc k) (suc i) l =
    let e : p + 1 + i ≡ p + suc i = omega arith in beginnings_get s servers (p + 1) k i (omega arith) ∙ ap (λ n. Some (beginning s servers n)) e

beginnings_length : (s : ServerId) (servers p k : ℕ) → length (beginnings s servers p k) ≡ k
unfolding beginnings
beginnings_length s servers p zero = refl
beginnings_length s servers p (suc k) = ap suc (beginnings_length s servers (p + 1) k)

-- a server that is there is a fresh one
module _ (servers containers : ℕ) (some : 1 ≤ servers) where
  abbrev start : MoveWorld
  start = fresh_world servers containers

  fresh_is : (s : ℕ) (x : MoveSite) → numbered start.sites s ≡ Some x → x ≡ fresh_site servers containers s
  fresh_is zero x e = cc
  fresh_is (suc i) x e =
      let l : i < servers = subst (λ n. i < n) (sites_length servers containers 0 servers) (get_below (sites_behind servers containers 0 servers) i x e) in
      let z : 0 + suc i ≡ suc i = omega arith in
      some_is (sym e ∙ sites_get servers containers 0 servers i l ∙ ap (λ n. Some (fresh_site servers containers n)) z)

  fresh_there : (s : ℕ) → 1 ≤ s → s ≤ servers → numbered start.sites s ≡ Some (fresh_site servers containers s)
  fresh_there zero l b = absurd (omega arith)
  fresh_there (suc i) l b = let z : 0 + suc i ≡ suc i = omega arith in sites_get servers containers 0 servers i (omega arith) ∙ ap (λ n. Some (fresh_site servers containers n)) z

  fresh_site_is : (s : ℕ) (x : MoveSite) → numbered start.sites s ≡ Some x → IsSite containers s x
  fresh_site_is s x e = subst (IsSite containers s) (sym (fresh_is s x e)) (record { whole = beginnings_length (server s) servers 0 containers; own = refl })

  no_rows : (c s : ℕ) → has_row start c s ≡ false
  no_rows c s = go (numbered start.sites s) refl
    where
      go : (o : Option MoveSite) → numbered start.sites s ≡ o → locked_in o c ≡ false
      go None e = refl
      go (Some x) e = ap (λ (y : MoveSite). locked_in (Some y) c) (fresh_is s x e)

  module _ (i : ℕ) (within : i < containers) where
    abbrev first : ℕ
    first = i % servers + 1

    record_of_first : known (numbered (beginnings (server first) servers 0 containers) (suc i)) ≡ Some (recorded 1 Holding [])
    unfolding beginning
    record_of_first =
        ap known (beginnings_get (server first) servers 0 containers i within) ∙ let z : 0 + i ≡ i = omega arith in ap (beginning (server first) servers) z ∙ go (eqb_tells (i % servers + 1) first)
      where
        go : ((eqb (i % servers + 1) first ≡ true) × (i % servers + 1 ≡ first)) ⊎ ((eqb (i % servers + 1) first ≡ false) × (i % servers + 1 ≢ first)) → beginning (server first) servers i ≡ Some (recorded 1 Holding [])
        go (inl e) = cond_true (begins_at (server first) servers i) _ _ e.0
        go (inr e) = absurd (e.1 refl)

    record_of_other : (s : ℕ) → s ≢ first → known (numbered (beginnings (server s) servers 0 containers) (suc i)) ≡ None
    unfolding beginning
    record_of_other s n =
        ap known (beginnings_get (server s) servers 0 containers i within) ∙ let z : 0 + i ≡ i = omega arith in ap (beginning (server s) servers) z ∙ go (eqb_tells (i % servers + 1) s)
      where
        go : ((eqb (i % servers + 1) s ≡ true) × (i % servers + 1 ≡ s)) ⊎ ((eqb (i % servers + 1) s ≡ false) × (i % servers + 1 ≢ s)) → beginning (server s) servers i ≡ None
        go (inl e) = absurd (n (sym e.1))
        go (inr e) = cond_false (begins_at (server s) servers i) _ _ e.0

    fresh_token : TokenOf start (suc i) []
    fresh_token = record {
      holder = first;
      top = 1;
      kept = recorded 1 Holding [];
      here = ap (λ o. record_in o (suc i)) (fresh_there first (omega arith) (omega arith)) ∙ record_of_first;
      updates = refl;
      newest = refl;
      older = older;
      rows = λ s n. no_rows (suc i) s;
      received = λ m j. absurd j;
    }
      where
        older : (s : ℕ) (r : ContainerRecord) → s ≢ first → record_at start (suc i) s ≡ Some r → IsOlder (record_at start (suc i)) 1 r r.state
        older s r n e = absurd (go (numbered start.sites s) refl e)
          where
            go : (o : Option MoveSite) → numbered start.sites s ≡ o → record_in o (suc i) ≡ Some r → ⊥
            go None f g = cc
            go (Some x) f g =
                let k : record_in (Some (fresh_site servers containers s)) (suc i) ≡ Some r = subst (λ (y : MoveSite). record_in (Some y) (suc i) ≡ Some r) (fresh_is s x f) g in
                let l : None ≡ Some r = sym (record_of_other s n) ∙ k in
                cc

  fresh_stands : Stands containers (fresh_history servers containers)
  fresh_stands = record { sites = fresh_site_is; tokens = tokens; rows = λ c s e. absurd (true≢false (sym e ∙ no_rows c s)) }
    where
      tokens : (c : ℕ) → IsContainer containers c → TokenOf start c []
      tokens zero i = let l : 1 ≤ zero = i.some in absurd (omega arith)
      tokens (suc n) i = let l : suc n ≤ containers = i.known in fresh_token n (omega arith)

-- The law follows from the invariant.
module _ (containers : ℕ) (h : MoveHistory) (st : Stands containers h) where
  record_known : (c s : ℕ) (r : ContainerRecord) → record_at h.world c s ≡ Some r → IsContainer containers c
  record_known c s r e = go (numbered h.world.sites s) refl e
    where
      by : (x : MoveSite) (o : Option (Option ContainerRecord)) → numbered h.world.sites s ≡ Some x → numbered x.containers.records c ≡ o → known o ≡ Some r → IsContainer containers c
      by x None f g k = cc
      by x (Some o) f g k =
          let b : (1 ≤ c) × (c ≤ length x.containers.records) = numbered_below x.containers.records c o g in
          record { some = b.0; known = subst (λ n. c ≤ n) (st.sites s x f).whole b.1 }

      go : (o : Option MoveSite) → numbered h.world.sites s ≡ o → record_in o c ≡ Some r → IsContainer containers c
      go None f g = cc
      go (Some x) f g = by x (numbered x.containers.records c) f refl g

  holder_of : (c s : ℕ) → holds h.world c s ≡ true → (i : IsContainer containers c) × (s ≡ (st.tokens c i).holder)
  holder_of c s e = go (record_at h.world c s) refl e
    where
      go : (o : Option ContainerRecord) → record_at h.world c s ≡ o → holds_by o ≡ true → (i : IsContainer containers c) × (s ≡ (st.tokens c i).holder)
      go None f g = cc
      go (Some r) f g = let i : IsContainer containers c = record_known c s r f in (i, held_here (st.tokens c i) s r f g)

  one_holder : (c s t : ℕ) → holds h.world c s ≡ true → holds h.world c t ≡ true → s ≡ t
  one_holder c s t e f = go (record_at h.world c s) (record_at h.world c t) refl refl e f
    where
      go : (o p : Option ContainerRecord) → record_at h.world c s ≡ o → record_at h.world c t ≡ p → holds_by o ≡ true → holds_by p ≡ true → s ≡ t
      go None p a b i j = cc
      go (Some r) None a b i j = cc
      go (Some r) (Some q) a b i j =
          let k : IsContainer containers c = record_known c s r a in
          held_here (st.tokens c k) s r a i ∙ sym (held_here (st.tokens c k) t q b j)

  listed_is : (s : ServerId) (c : ℕ) (us : List (List ℕ)) → (happens h.world (events.List s c)).answers ≡ Listed us ∷ [] → us ≡ h.accepted c
  unfolding happens list_at list_told
  listed_is s c us e = go (numbered h.world.sites s.0) refl e
    where
      first_is : (a b : List (List ℕ)) (rest : List MoveAnswer) → Listed a ∷ rest ≡ Listed b ∷ rest → a ≡ b
      first_is a b rest f = cc

      by : (x : MoveSite) → numbered h.world.sites s.0 ≡ Some x
          → ((r : ContainerRecord) × (numbered x.containers.records c ≡ Some (Some r)) × (is_held r.state ≡ true) × (listed x.containers c ≡ Ok r.updates)) ⊎ ((f : MoveRefusal) × (listed x.containers c ≡ Err f))
          → (list_told h.world (listed x.containers c)).answers ≡ Listed us ∷ [] → us ≡ h.accepted c
      by x a (inr f) g = let k : (list_told h.world (Err f.0)).answers ≡ Listed us ∷ [] = subst (λ z. (list_told h.world z).answers ≡ Listed us ∷ []) f.1 g in cc
      by x a (inl f) g =
          let k : (list_told h.world (Ok f.0.updates)).answers ≡ Listed us ∷ [] = subst (λ z. (list_told h.world z).answers ≡ Listed us ∷ []) f.3 g in
          let r : record_at h.world c s.0 ≡ Some f.0 = ap (λ o. record_in o c) a ∙ ap known f.1 in
          let i : IsContainer containers c = record_known c s.0 f.0 r in
          let z : f.0 ≡ (st.tokens c i).kept = some_is (sym r ∙ ap (record_at h.world c) (held_here (st.tokens c i) s.0 f.0 r f.2) ∙ (st.tokens c i).here) in
          sym (first_is f.0.updates us [] k) ∙ ap (λ (q : ContainerRecord). q.updates) z ∙ (st.tokens c i).updates

      go : (o : Option MoveSite) → numbered h.world.sites s.0 ≡ o → (list_at h.world s c o).answers ≡ Listed us ∷ [] → us ≡ h.accepted c
      go None a f = cc
      go (Some x) a f = by x a (listed_says x.containers c) f

  locked_holds : (c s : ℕ) → has_row h.world c s ≡ true → holds h.world c s ≡ true
  locked_holds c s e = go (same_or_not s (st.tokens c i).holder)
    where
      i : IsContainer containers c
      i = st.rows c s e

      by : (k : IsContainer containers c) (q : ContainerState) → (st.tokens c k).kept.state ≡ q → IsNewest (st.tokens c k).holder (st.tokens c k).top (has_row h.world c) (st.tokens c k).kept q → s ≡ (st.tokens c k).holder → is_held q ≡ true
      by k Holding f n j = refl
      by k (Leaving to) f n j = refl
      by k (Sent to) f n j = absurd (true≢false (sym e ∙ ap (has_row h.world c) j ∙ n.2))
      by k (Gone to) f n j = absurd n

      go : (s ≡ (st.tokens c i).holder) ⊎ (s ≢ (st.tokens c i).holder) → holds h.world c s ≡ true
      go (inr n) = absurd (true≢false (sym e ∙ (st.tokens c i).rows s n))
      go (inl j) = ap holds_by (ap (record_at h.world c) j ∙ (st.tokens c i).here) ∙ by i (st.tokens c i).kept.state refl (st.tokens c i).newest j

  pub one_holder_in_every_run : OneHolder containers h
  one_holder_in_every_run = record {
    one = one_holder;
    listed = listed_is;
    locked = locked_holds;
    alone = λ c s t e f. one_holder c s t (locked_holds c s e) f;
    kept = λ c a b. kept c (record { some = a; known = b });
  }
    where
      kept : (c : ℕ) → IsContainer containers c → (s : ℕ) × IsKeptBy (record_at h.world c s) (h.accepted c)
      kept c i = ((st.tokens c i).holder, subst (λ o. IsKeptBy o (h.accepted c)) (sym (st.tokens c i).here) (st.tokens c i).updates)

pub no_update_is_lost : NoUpdateIsLost
no_update_is_lost servers containers es some = one_holder_in_every_run containers (run_moves (fresh_history servers containers) es)
    (run_stands containers es (fresh_history servers containers) (fresh_stands servers containers some))
