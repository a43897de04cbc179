-- How many bytes updates have.
use Rattle.st_lemmas.proofs.Words
use Words.{◌≡◌, ℕ, ◌+◌, ◌≤◌, true, List, [], ◌∷◌, length, ap, ◌∙◌, arith, leb-true, nat_le, list_all}
use Words.Tables.{and_true}
use Rattle.std.proofs.lemmas.List.Sums.{sum_by-append}
use Rattle.st_move.specs.Updates.{bytes_of, is_update}

bytes_one : (u : List ℕ) → bytes_of (u ∷ []) ≡ length u
bytes_one u = omega arith

bytes_cons : (u : List ℕ) (us : List (List ℕ)) → bytes_of (u ∷ us) ≡ length u + bytes_of us
bytes_cons u us = sum_by-append length (u ∷ []) us ∙ ap (λ n. n + bytes_of us) (bytes_one u)

-- each update has a byte at least
pub count_few : (us : List (List ℕ)) → list_all is_update us ≡ true → length us ≤ bytes_of us
count_few [] e = omega arith
count_few (u ∷ us) e =
    let g = and_true (is_update u) (list_all is_update us) e in
    let k = and_true (nat_le 1 (length u)) (nat_le (length u) 139) g.0 in
    let l : 1 ≤ length u = leb-true 1 (length u) k.0 in
    let i = count_few us g.1 in
    let f = bytes_cons u us in
    omega arith
