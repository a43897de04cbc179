-- Rows that fit one after another: each of them fits.
use Rattle.std.proofs.Common.{◌≡◌, ℕ, Bool, true, List, [], ◌∷◌, All}
use Rattle.std.proofs.lemmas.Bool.{and_parts}
use Rattle.std.proofs.lemmas.List.Elements.{All-nil, All-cons}
use Rattle.st_messages.specs.Ranges.{are_rows}

pub each_fits : {R : Type 0} (is_row : ℕ → R → Bool) (next : R → ℕ) (least : ℕ) (rs : List R) → are_rows is_row next least rs ≡ true → All (λ r. (x : ℕ) × (is_row x r ≡ true)) rs
each_fits is_row next least [] e = All-nil (λ r. (x : ℕ) × (is_row x r ≡ true))
each_fits is_row next least (r ∷ rs) e =
    let h = and_parts (is_row least r) (are_rows is_row next (next r) rs) e in
    All-cons (λ r. (x : ℕ) × (is_row x r ≡ true)) r rs (least, h.0) (each_fits is_row next (next r) rs h.1)
