-- Bytes that are written over as many zeros.
use Rattle.st_lemmas.proofs.Words
use Words.{◌≡◌, ℕ, List, [], ◌∷◌, length, refl, ap}
use Rattle.st_store.specs.InMemory.{zeros}
use Rattle.st_store.specs.Store.{written}

pub all_written : (bytes : List ℕ) → written (zeros (length bytes)) 0 bytes ≡ bytes
unfolding zeros
all_written [] = refl
all_written (b ∷ bytes) = ap (λ (xs : List ℕ). b ∷ xs) (all_written bytes)
