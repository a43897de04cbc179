-- Pages of different bytes are different.
use Rattle.std.proofs.Common.{◌≡◌, ℕ, suc, List, [], ◌∷◌, replicate, ap, arith}
use Rattle.st_base.specs.Page.{filled}

abbrev first : List ℕ → ℕ
first [] = 0
first (x ∷ xs) = x

same_first : (n a b : ℕ) → replicate (suc n) a ≡ replicate (suc n) b → a ≡ b
same_first n a b e = ap first e

pub zeros_differ : filled 0 ≡ filled 77 → ⊥
unfolding filled
zeros_differ e = let z : 0 ≡ 77 = same_first 4095 0 77 e in omega (arith, z)
