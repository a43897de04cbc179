-- Increments, one after another, as a loop reads them.
use Rattle.std.proofs.Common.{◌≡◌, ℕ, suc, ◌-◌, ◌+◌, ◌≤◌, ◌<◌, List, [], ◌∷◌, ◌++◌, length, refl, sym, ap, ◌∙◌, append_assoc, arith}
use Rattle.std.specs.Prelude.{Ok, Err}
use Rattle.std.proofs.lemmas.List.{append-nil}
use Rattle.st_schedule.specs.declared.fault.ReadError.{ReadError}
use Rattle.st_schedule.specs.declared.fault.ReadError.TheVariants as errors
use Rattle.st_schedule_words.specs.Words.{words_behind, MOST_NUMBER}
use Rattle.st_schedule.specs.Parser.{◌>>=◌, Read, Fails, number_at, steps_at, steps_of}
use Rattle.st_schedule_words.proofs.Words.{split-some}

-- what was read before, and what is still read
abbrev pub with_front : List ℕ → Read (List ℕ) → Read (List ℕ)
with_front front read = read >>= λ x. Ok (front ++ x.0, x.1)

regroup : (front : List ℕ) (d : ℕ) (read : Read (List ℕ)) → with_front front (read >>= λ x. Ok (d ∷ x.0, x.1)) ≡ with_front (front ++ d ∷ []) read
regroup front d (Ok x) = ap (λ (ds : List ℕ). Ok (ds, x.1)) (simp append_assoc)
regroup front d (Err f) = refl

pub goes_on : (front : List ℕ) (least count i : ℕ) (ws : List (List ℕ)) (d : ℕ) (after : List (List ℕ)) (total : Read (List ℕ)) → i < count → number_at least MOST_NUMBER ws ≡ Ok (d, after)
    → with_front front (steps_at least (count - i) ws) ≡ total → with_front (front ++ d ∷ []) (steps_at least (count - (i + 1)) after) ≡ total
unfolding steps_at
goes_on front least count i ws d after total lt h so_far =
    let k : count - i ≡ suc (count - (i + 1)) = omega arith in
    let one : with_front front (steps_at least (count - i) ws) ≡ with_front (front ++ d ∷ []) (steps_at least (count - (i + 1)) after) = rw (k, h) (regroup front d (steps_at least (count - (i + 1)) after)) in
    sym one ∙ so_far

pub stops : (e : ReadError) (front : List ℕ) (least count i : ℕ) (ws : List (List ℕ)) (total : Read (List ℕ)) → i < count → Fails e (number_at least MOST_NUMBER ws)
    → with_front front (steps_at least (count - i) ws) ≡ total → Fails e total
unfolding steps_at
stops errors.Memory front least count i ws total lt h so_far = tt
stops (errors.Fault f) front least count i ws total lt h so_far =
    let k : count - i ≡ suc (count - (i + 1)) = omega arith in
    let one : with_front front (steps_at least (count - i) ws) ≡ Err f = rw (k, h) refl in
    sym so_far ∙ one

pub is_done : (front : List ℕ) (least count i : ℕ) (ws : List (List ℕ)) (total : Read (List ℕ)) → count ≤ i → with_front front (steps_at least (count - i) ws) ≡ total → total ≡ Ok (front, ws)
unfolding steps_at
is_done front least count i ws total le so_far =
    let k : count - i ≡ 0 = omega arith in
    let one : with_front front (steps_at least (count - i) ws) ≡ Ok (front, ws) = rw k (ap (λ (ds : List ℕ). Ok (ds, ws)) (append-nil front)) in
    sym so_far ∙ one

steps_go_on : (least nodes d : ℕ) (ws rest : List (List ℕ)) → 0 < length rest → steps_of least nodes d ws rest ≡ steps_at least nodes ws
unfolding steps_of
steps_go_on least nodes d ws [] h = absurd (omega arith)
steps_go_on least nodes d ws (w ∷ rest) h = refl

-- if bytes follow the first increment, there are more words
pub more_words : (least nodes d : ℕ) (ws : List (List ℕ)) (rest : List ℕ) → 0 < length rest → steps_of least nodes d ws (words_behind rest) ≡ steps_at least nodes ws
more_words least nodes d ws [] h = absurd (omega arith)
more_words least nodes d ws (b ∷ bs) h = steps_go_on least nodes d ws _ (split-some bs)
