use Rattle.std.proofs.Common.{◌≡◌, ◌+◌, ◌<◌, ◌≤◌, ◌++◌, ◌∷◌, [], ℕ, get_or, length, take, arith, refl, sym, ap, ◌∙◌, rules}
use Rattle.std.proofs.lemmas.List.{get_or_read, take_all, take_more}
use Rattle.st_rules.specs.declared.names.NameEntry.{NameEntry}
use Rattle.st_kept_opening.proofs.begun.are_same_entries.Goals as goal

pub loop-place-preserved : goal.loop-place-preserved
loop-place-preserved c =
    let a = c.args.entries.now in
    let b = c.args.others.now in
    let i = c.loop-place.place in
    let x = c.index-entries-place.result in
    let y = c.index-others-place.result in
    let same : x ≡ y = search rules in
    let in_a : i < length a = omega (arith, c.loop-place-test.true) in
    let in_b : i < length b = omega (arith, in_a, c.if-entries-others.false) in
    let more_a : take (i + 1) a ≡ take i a ++ x ∷ [] =
    take_more a i x in_a ∙ ap (λ e. take i a ++ e ∷ []) (sym (get_or_read a i x in_a c.index-entries-place.is x)) in
    let more_b : take (i + 1) b ≡ take i b ++ y ∷ [] =
    take_more b i y in_b ∙ ap (λ e. take i b ++ e ∷ []) (sym (get_or_read b i y in_b c.index-others-place.is y)) in
    more_a ∙ (ap (λ l. l ++ x ∷ []) c.loop-place.invariant ∙ (ap (λ e. take i b ++ e ∷ []) same ∙ sym more_b))
