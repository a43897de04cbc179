-- Reading rows one after another, as a loop does.
use Rattle.std.proofs.Common.{◌≡◌, ℕ, suc, ◌-◌, ◌+◌, ◌≤◌, ◌<◌, List, [], ◌∷◌, ◌++◌, Ok, Err, refl, sym, ap, ◌∙◌, append_assoc, arith}
use Rattle.std.proofs.lemmas.List.{append-nil}
use Rattle.st_codec_fields.specs.declared.fault.ReadError.{ReadError}
use Rattle.st_codec_fields.specs.declared.fault.ReadError.TheVariants as errors
use Rattle.st_codec_fields.specs.Decoder.{Read, Reader, ◌>>=◌, Fails, rows_at}

-- what was read before, and what is still read
abbrev pub with_front : {R : Type 0} → List R → Read (List R) → Read (List R)
with_front front read = read >>= λ x. Ok (front ++ x.0, x.1)

regroup : {R : Type 0} (front : List R) (r : R) (read : Read (List R)) → with_front front (read >>= λ x. Ok (r ∷ x.0, x.1)) ≡ with_front (front ++ r ∷ []) read
regroup {R} front r (Ok x) = ap (λ (rs : List R). Ok (rs, x.1)) (simp append_assoc)
regroup front r (Err f) = refl

pub goes_on : {R : Type 0} (row : ℕ → Reader R) (next : R → ℕ) (front : List R) (count i least : ℕ) (bytes : List ℕ) (r : R) (after : List ℕ) (total : Read (List R)) → i < count → row least bytes ≡ Ok (r, after)
    → with_front front (rows_at row next (count - i) least bytes) ≡ total → with_front (front ++ r ∷ []) (rows_at row next (count - (i + 1)) (next r) after) ≡ total
unfolding rows_at
goes_on row next front count i least bytes r after total lt h so_far =
    let k : count - i ≡ suc (count - (i + 1)) = omega arith in
    let one : with_front front (rows_at row next (count - i) least bytes) ≡ with_front (front ++ r ∷ []) (rows_at row next (count - (i + 1)) (next r) after) = rw (k, h) (regroup front r (rows_at row next (count - (i + 1)) (next r) after)) in
    sym one ∙ so_far

pub ends : {R : Type 0} (e : ReadError) (row : ℕ → Reader R) (next : R → ℕ) (front : List R) (count i least : ℕ) (bytes : List ℕ) (total : Read (List R)) → i < count → Fails e (row least bytes)
    → with_front front (rows_at row next (count - i) least bytes) ≡ total → Fails e total
unfolding rows_at
ends errors.Memory row next front count i least bytes total lt h so_far = tt
ends (errors.Fault f) row next front count i least bytes total lt h so_far =
    let k : count - i ≡ suc (count - (i + 1)) = omega arith in
    let one : with_front front (rows_at row next (count - i) least bytes) ≡ Err f = rw (k, h) refl in
    sym so_far ∙ one

pub is_done : {R : Type 0} (row : ℕ → Reader R) (next : R → ℕ) (front : List R) (count i least : ℕ) (bytes : List ℕ) (total : Read (List R)) → count ≤ i → with_front front (rows_at row next (count - i) least bytes) ≡ total → total ≡ Ok (front, bytes)
unfolding rows_at
is_done {R} row next front count i least bytes total le so_far =
    let k : count - i ≡ 0 = omega arith in
    let one : with_front front (rows_at row next (count - i) least bytes) ≡ Ok (front, bytes) = rw k (ap (λ (rs : List R). Ok (rs, bytes)) (append-nil front)) in
    sym so_far ∙ one
