-- The bytes of a change, in its record of a journal of the old layout.
use Rattle.std.proofs.Common.{◌≡◌, ℕ, ◌+◌, ◌-◌, ◌≤◌, List, [], ◌∷◌, ◌++◌, length, take, drop, refl, sym, ap, ◌∙◌, append_assoc, arith}
use Rattle.std.specs.Prelude.{IfOk, Result, Ok, Err}
use Rattle.std.proofs.lemmas.List.{drop_at, length-append, take_at}
use Rattle.st_journal.specs.Changes.{bytes_of, word32}
use Rattle.st_journal.specs.Journal.{framed}
use Rattle.st_journal.specs.declared.change.Change.{Change}

length-word : (n : ℕ) → length (word32 n) ≡ 4
unfolding word32
length-word n = refl

framed_is : (x : Change) (r : List ℕ) → framed x ++ r ≡ (word32 (length (bytes_of x)) ++ bytes_of x) ++ r
unfolding framed
framed_is x r = refl

pub long_enough : (x : Change) (bytes : List ℕ) (n : ℕ) → bytes ≡ framed x ++ 0 ∷ [] → n ≡ length (bytes_of x) → n + 4 ≤ length bytes
long_enough x bytes n e size =
    omega (
      arith,
      ap length (e ∙ framed_is x (0 ∷ [])),
      length-append (word32 (length (bytes_of x)) ++ bytes_of x) (0 ∷ []),
      length-append (word32 (length (bytes_of x))) (bytes_of x),
      length-word (length (bytes_of x)),
      size,
    )

-- four bytes of length, the change, and more
pub cut_out : (x : Change) (bytes front more first rest : List ℕ) (n : ℕ) → bytes ≡ framed x ++ 0 ∷ [] → n ≡ length (bytes_of x) → bytes ≡ front ++ more →
    length front ≡ n + 4 →
    front ≡ first ++ rest → length first ≡ 4 → rest ≡ bytes_of x
cut_out x bytes front more first rest n e size parts long split four =
    let number = word32 (length (bytes_of x)) in
    let whole : (number ++ bytes_of x) ++ 0 ∷ [] ≡ front ++ more = sym (framed_is x (0 ∷ [])) ∙ (sym e ∙ parts) in
    let many : length (number ++ bytes_of x) ≡ length front = omega (arith, length-append number (bytes_of x), length-word (length (bytes_of x)), size, long) in
    let same : number ++ bytes_of x ≡ front =
    sym (take_at (number ++ bytes_of x) (0 ∷ []) (length front) many) ∙
    (ap (λ (l : List ℕ). take (length front) l) whole ∙ take_at front more (length front) refl) in
    sym (drop_at first rest 4 four) ∙ (ap (λ (l : List ℕ). drop 4 l) (sym (same ∙ split)) ∙ drop_at number (bytes_of x) 4 (length-word (length (bytes_of x))))
