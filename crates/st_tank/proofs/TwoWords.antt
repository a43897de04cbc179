-- No job has two words.
use Rattle.std.proofs.Common.{◌≡◌, ℕ, List, [], ◌∷◌, length, refl, arith}
use Rattle.std.specs.Prelude.{None, map}
use Rattle.st_tank.specs.Words.{job_in}

pub two_words : {A : Type 0} (bytes : A → List ℕ) (words : List A) → length words ≡ 2 → None ≡ job_in (map bytes words)
two_words bytes [] two = absurd (omega (arith, two))
two_words bytes (a ∷ []) two = absurd (omega (arith, two))
two_words bytes (a ∷ (b ∷ [])) two = refl
two_words bytes (a ∷ (b ∷ (c ∷ words))) two = absurd (omega (arith, two))
