-- Rows of different files.
use Rattle.std.proofs.Common.{ℕ, ◌≡◌, ◌<◌, ◌==◌, false, [], ◌∷◌, arith}
use Rattle.std.specs.List.{IsDistinct}
use Rattle.st_base.specs.declared.ids.GrantNo.{GrantNo}
use Rattle.st_base.specs.declared.mode.Mode.{Mode}
use Rattle.st_locks.specs.Calls.{same_file}

below : (m n : ℕ) → m < n → (m == n) ≡ false
below m n lt = grind arith

far : (m n o : ℕ) → m < n → n < o → (m == o) ≡ false
far m n o lt gt = grind arith

pub three_files : (a b c : ℕ × GrantNo × Mode) → a.0 < b.0 → b.0 < c.0 → IsDistinct same_file (a ∷ b ∷ c ∷ [])
unfolding IsDistinct
three_files a b c low high = ((below a.0 b.0 low, (far a.0 b.0 c.0 low high, tt)), ((below b.0 c.0 high, tt), (tt, tt)))
