-- The rows of a reassertion are locks of different files.
use Rattle.st_lemmas.proofs.Words
use Words.{◌≡◌, ℕ, ◌+◌, ◌<◌, ◌≤◌, true, false, ◌==◌, List, [], ◌∷◌, refl, arith, AllByRecursion, list_all, leb-true, and_parts, and_from, ne_eqb, GrantNo, Mode}
use Words.modes
use Words.Ranges.{are_locks, are_rows, after_lock, is_lock_row, is_mode}
use Rattle.std.specs.List.{IsDistinct}
use Rattle.st_locks.specs.Calls.{is_lock, same_file}
use Rattle.st_locks.specs.Calls as locks

low : (least : ℕ) (r : ℕ × GrantNo × Mode) → is_lock_row least r ≡ true → least ≤ r.0
low least r e = leb-true least r.0 (and_parts _ _ (and_parts _ _ e).0).0

above : (m least : ℕ) (rs : List (ℕ × GrantNo × Mode)) → m < least → are_rows is_lock_row after_lock least rs ≡ true → AllByRecursion (λ y. (m == y.0) ≡ false) rs
above m least [] below e = tt
above m least (r ∷ rs) below e =
    let p = and_parts (is_lock_row least r) (are_rows is_lock_row after_lock (r.0 + 1) rs) e in
    let l : least ≤ r.0 = low least r p.0 in
    (ne_eqb m r.0 (λ (q : m ≡ r.0). omega (arith, q, l, below)), above m (r.0 + 1) rs (omega (arith, l, below)) p.1)

apart : (least : ℕ) (rs : List (ℕ × GrantNo × Mode)) → are_rows is_lock_row after_lock least rs ≡ true → IsDistinct same_file rs
unfolding IsDistinct
apart least [] e = tt
apart least (r ∷ rs) e =
    let p = and_parts (is_lock_row least r) (are_rows is_lock_row after_lock (r.0 + 1) rs) e in
    (above r.0 (r.0 + 1) rs (omega arith) p.1, apart (r.0 + 1) rs p.1)

pub distinct : (rs : List (ℕ × GrantNo × Mode)) → are_locks rs ≡ true → IsDistinct same_file rs
unfolding are_locks
distinct rs e = apart 1 rs (and_parts _ _ e).1

-- a mode that is held is a lock's
pub lock_mode : (m : Mode) → is_mode 1 2 m ≡ true → is_lock m ≡ true
lock_mode modes.S e = refl
lock_mode modes.X e = refl
lock_mode modes.None e = cc

modes_of : (least : ℕ) (rs : List (ℕ × GrantNo × Mode)) → are_rows is_lock_row after_lock least rs ≡ true → list_all locks.is_lock_row rs ≡ true
modes_of least [] e = refl
modes_of least (r ∷ rs) e =
    let p = and_parts (is_lock_row least r) (are_rows is_lock_row after_lock (r.0 + 1) rs) e in
    and_from (is_lock r.2) _ (lock_mode r.2 (and_parts _ (is_mode 1 2 r.2) (and_parts _ _ p.0).1).1) (modes_of (r.0 + 1) rs p.1)

-- the rows of a reassertion are locks
pub lock_modes : (rs : List (ℕ × GrantNo × Mode)) → are_locks rs ≡ true → list_all locks.is_lock_row rs ≡ true
unfolding are_locks
lock_modes rs e = modes_of 1 rs (and_parts _ _ e).1
