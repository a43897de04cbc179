-- A range that is written and then synced, over a store's words.
use Rattle.std.proofs.Common.{ℕ, List, refl, sym, subst}
use Rattle.st_store.specs.Store.{Torn, Follows, IsWithin, Only, Elapses, LeavesOnly}
use Rattle.st_journal.proofs.Moments.{started, goes_on}

pub not_torn : (at count : ℕ) (bytes : List ℕ) → Torn at count bytes bytes
not_torn at count bytes = record { size = refl; others = λ i e. refl }

module _ {D : Type 0} (may_leave : D → List ℕ → Type 0) (moment : D → ℕ) (left_since : D → ℕ → List ℕ → Type 0) (at count : ℕ) (seen : List ℕ) (old mid : D)
    (now : (c : List ℕ) → left_since old (moment old) c → may_leave old c) (only : Only seen (may_leave old))
    (crash : Follows (Torn at count) (may_leave old) (may_leave mid)) (time : Elapses (moment old) (moment mid) (left_since old) (left_since mid) (may_leave mid)) where
  pub torn_now : (c : List ℕ) → may_leave mid c → Torn at count seen c
  torn_now c left = let from = crash c left in subst (λ (d : List ℕ). Torn at count d c) (only from.0 from.1) from.2

  pub write_moments : LeavesOnly moment left_since old mid (Torn at count seen)
  write_moments =
      goes_on moment left_since old old mid (Torn at count seen) (may_leave mid)
      (started moment left_since old (Torn at count seen) (λ c left. subst (λ (d : List ℕ). Torn at count seen d) (sym (only c (now c left))) (not_torn at count seen))) time torn_now

  pub sync_moments : (new : D) → IsWithin (may_leave mid) (may_leave new) → Elapses (moment mid) (moment new) (left_since mid) (left_since new) (may_leave new) → LeavesOnly moment left_since old new (Torn at count seen)
  sync_moments new within later = goes_on moment left_since old mid new (Torn at count seen) (may_leave new) write_moments later (λ c left. torn_now c (within c left))
