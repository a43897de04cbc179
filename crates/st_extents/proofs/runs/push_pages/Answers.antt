use Rattle.std.proofs.Common.{◌≡◌, ◌++◌, ◌∷◌, [], map, ap, append-nil, append_assoc, arith, sym, ◌∙◌}
use Rattle.st_rules.specs.Extents.{numbers}
use Rattle.st_extents.specs.Runs.{extent_in, RunKey}
use Rattle.st_extents.specs.declared.run_map.Run.{Run}
use Rattle.st_extents.proofs.RunsInOrder.{no_pages, pages_more}
use Rattle.st_extents.proofs.runs.push_pages.Goals as goal

pub loop-place-init : goal.loop-place-init
loop-place-init c = no_pages c.args.rows.now.items (c.args.key, c.args.whole)

pub loop-place-preserved : goal.loop-place-preserved
loop-place-preserved c =
    let e : RunKey × Run = (c.args.key, c.args.whole) in
    c.in_ok-push.ensures.items ∙ (λ i. c.loop-place.invariant i ++ c.extent_in.ensures i ∷ [])
    ∙ append_assoc c.args.rows.now.items (map (λ i. extent_in i e) (numbers 0 c.loop-place.place)) (extent_in c.loop-place.place e ∷ [])
    ∙ ap (λ l. c.args.rows.now.items ++ l) (sym (pages_more e c.loop-place.place))

pub returns : goal.returns
returns c =
    let all : c.loop-place.place ≡ c.args.whole.length = omega (arith, c.loop-place.auto.place-end, c.loop-place-test.false) in
    c.loop-place.invariant ∙ ap (λ n. c.args.rows.now.items ++ map (λ i. extent_in i (c.args.key, c.args.whole)) (numbers 0 n)) all
