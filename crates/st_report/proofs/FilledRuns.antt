-- The text of a page of one byte repeated.
use Rattle.std.proofs.Common.{◌≡◌, ℕ, zero, suc, ◌+◌, List, [], ◌∷◌, ◌++◌, replicate, Result, Ok, Err, OnOk, refl, sym, ◌∙◌, ap, arith}
use Rattle.std.proofs.lemmas.List.{append_assoc}
use Rattle.std.specs.Prelude.{codes}
use Rattle.std.proofs.lemmas.Bool.{eq-eqb}
use Rattle.st_base.specs.Page.{filled}
use Rattle.st_rules.specs.Report.{one_run, runs_from, runs}

-- more bytes of the same run
runs_from_same : (n count b : ℕ) → runs_from count b (replicate n b) ≡ one_run (count + n) b
runs_from_same zero count b =
    let same : count ≡ count + 0 = omega arith in
    ap (λ k. one_run k b) same
runs_from_same (suc n) count b =
    let next : count + 1 + n ≡ count + suc n = omega arith in
    rw (eq-eqb b b refl) (runs_from_same n (count + 1) b ∙ ap (λ k. one_run k b) next)

runs_same : (n b : ℕ) → runs (replicate (suc n) b) ≡ codes " " ++ one_run (suc n) b
unfolding runs
runs_same n b =
    let all : 1 + n ≡ suc n = omega arith in
    ap (λ text. codes " " ++ text) (runs_from_same n 1 b ∙ ap (λ k. one_run k b) all)

-- a page of one byte repeated is one run
pub runs_filled : (b : ℕ) → runs (filled b) ≡ codes " " ++ one_run 4096 b
unfolding filled
runs_filled b = runs_same 4095 b

-- a space and one run after a text are the runs of the page
pub runs_behind : (new mid old : List ℕ) (b : ℕ) → mid ≡ old ++ 32 ∷ [] → new ≡ mid ++ one_run 4096 b → new ≡ old ++ runs (filled b)
runs_behind new mid old b space run =
    run ∙ ap (λ t. t ++ one_run 4096 b) space ∙ append_assoc old (32 ∷ []) (one_run 4096 b) ∙ ap (λ t. old ++ t) (sym (runs_filled b))

-- the same, unless the run was not written
pub written_behind :
    {A E : Type 0} → (r : Result A E) (new mid old : List ℕ) (b : ℕ) →
    mid ≡ old ++ 32 ∷ [] → OnOk r (new ≡ mid ++ one_run 4096 b) → OnOk r (new ≡ old ++ runs (filled b))
written_behind (Ok x) new mid old b space run = runs_behind new mid old b space run
written_behind (Err e) new mid old b space run = run
