use Rattle.std.proofs.Common.{◌≡◌, ℕ, ◌<◌, suc, List, [], ◌∷◌, length, Result, Ok, Err, refl, ap, arith, ◌∙◌}
use Rattle.std.specs.Prelude.{IfOk}
use Rattle.st_rules.specs.Keys.{rising, with_key}
use Rattle.st_locks.proofs.touched_files.TouchedFiles.rising.Goals as goal

-- a list of at most one key rises
few_rise : (ks : List ℕ) → length ks < 2 → ks ≡ rising ks
unfolding rising with_key
few_rise [] h = refl
few_rise (k ∷ []) h = refl
few_rise (k ∷ (j ∷ ks)) h = absurd (omega arith)

map_ok : {A E : Type 0} (r : Result A E) (P Q : A → Type 0) → ((x : A) → P x → Q x) → IfOk r P → IfOk r Q
map_ok (Ok x) P Q f h = f x h
map_ok (Err e) P Q f h = tt

pub returns-then-len-lt2 : goal.returns-then-len-lt2
returns-then-len-lt2 c =
    let files = c.self.inside.files.items in
    let few : length files < 2 = omega (arith, c.if-len-lt2.true, c.len.ensures, c.self.inside.files.ok.0) in
    map_ok c.same.result _ _ (λ v e. e ∙ c.as_slice.ensures.value ∙ few_rise files few ∙ ap (λ m. rising m.files) c.self.view_is) c.same.ensures
