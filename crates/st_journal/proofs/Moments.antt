-- How a run of calls of a store goes on.
use Rattle.std.proofs.Common.{inl, inr, ⊎_elim, ℕ, List, arith}
use Rattle.st_store.specs.Store.{Elapses, IsWithin, LeavesOnly, Rests}

module _ {D : Type 0} (moment : D → ℕ) (left_since : D → ℕ → List ℕ → Type 0) where
  -- before the first call
  pub started : (old : D) (P : List ℕ → Type 0) → ((c : List ℕ) → left_since old (moment old) c → P c) → LeavesOnly moment left_since old old P
  started old P here = record { later = omega arith; each = here; before = λ t c le left. inl left }

  -- one call more, after which a crash leaves what has P
  pub goes_on : (old mid new : D) (P may_leave : List ℕ → Type 0) → LeavesOnly moment left_since old mid P → Elapses (moment mid) (moment new) (left_since mid) (left_since new) may_leave
      → ((c : List ℕ) → may_leave c → P c) → LeavesOnly moment left_since old new P
  goes_on old mid new P may_leave so_far time here = record {
    later = omega (arith, so_far.later, time.later);
    each = λ c left. ⊎_elim (so_far.each c) (here c) (time.nothing_else (moment old) c so_far.later left);
    before = λ t c le left. ⊎_elim (so_far.before t c le) (λ now. inr (here c now)) (time.nothing_else t c (omega (arith, le, so_far.later)) left);
  }

  -- some calls more, during which it did
  pub goes_through : (old mid new : D) (P Q : List ℕ → Type 0) → LeavesOnly moment left_since old mid P → LeavesOnly moment left_since mid new Q
      → ((c : List ℕ) → Q c → P c) → LeavesOnly moment left_since old new P
  goes_through old mid new P Q so_far after here = record {
    later = omega (arith, so_far.later, after.later);
    each = λ c left. ⊎_elim (so_far.each c) (here c) (after.before (moment old) c so_far.later left);
    before = λ t c le left. ⊎_elim (so_far.before t c le) (λ now. inr (here c now)) (after.before t c (omega (arith, le, so_far.later)) left);
  }

  -- the same, of more
  pub weaker : (old new : D) (P Q : List ℕ → Type 0) → LeavesOnly moment left_since old new P → ((c : List ℕ) → P c → Q c) → LeavesOnly moment left_since old new Q
  weaker old new P Q h f = record {
    later = h.later;
    each = λ c left. f c (h.each c left);
    before = λ t c le left. ⊎_elim (λ past. inl past) (λ now. inr (f c now)) (h.before t c le left);
  }

  module _ (keeps : D → D → Type 0) (may_leave : D → List ℕ → Type 0) where
    -- nothing was called
    pub rests : (s : D) → keeps s s → ((c : List ℕ) → left_since s (moment s) c → may_leave s c) → Rests keeps may_leave moment left_since s s
    rests s kept now = record { any_moment = started s (may_leave s) now; crash = λ c left. left; kept = kept }

    -- a call that writes nothing
    pub rested : (old new : D) → ((c : List ℕ) → left_since old (moment old) c → may_leave old c) → Elapses (moment old) (moment new) (left_since old) (left_since new) (may_leave new)
        → IsWithin (may_leave old) (may_leave new) → keeps old new → Rests keeps may_leave moment left_since old new
    rested old new now time within kept = record { any_moment = goes_on old old new (may_leave old) (may_leave new) (started old (may_leave old) now) time within; crash = within; kept = kept }

    -- and others after it
    pub rests_then : ((a b c : D) → keeps a b → keeps b c → keeps a c) → (old mid new : D) → Rests keeps may_leave moment left_since old mid → Rests keeps may_leave moment left_since mid new → Rests keeps may_leave moment left_since old new
    rests_then on old mid new p q = record {
      any_moment = goes_through old mid new (may_leave old) (may_leave mid) p.any_moment q.any_moment p.crash;
      crash = λ c left. p.crash c (q.crash c left);
      kept = on old mid new p.kept q.kept;
    }
