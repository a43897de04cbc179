use Rattle.std.proofs.Common.{◌+◌, ◌++◌, ap, arith, get_or, sym, take, ◌∙◌}
use Rattle.std.specs.List.{flat_map}
use Rattle.std.proofs.lemmas.List.{take_all}
use Rattle.st_extents.specs.Runs.{pages_of, RunKey}
use Rattle.st_extents.specs.declared.run_map.Run.{Run}
use Rattle.st_extents.proofs.RunsInOrder.{one_run_more}
use Rattle.st_extents.proofs.runs.rows_of.Goals as goal

abbrev nothing : RunKey × Run
nothing = ((record { server = record { 0 = 0 }; ino = 0 }, record { 0 = 0 }), record { length = 0; at = record { disk = record { 0 = 0 }; block = 0 }; birth = 0 })

pub push_pages-requires-clause-page : goal.push_pages-requires-clause-page
push_pages-requires-clause-page c = (c.requires c.loop-place.place nothing (omega (arith, c.loop-place-test.true))).page

pub push_pages-requires-clause-block : goal.push_pages-requires-clause-block
push_pages-requires-clause-block c = (c.requires c.loop-place.place nothing (omega (arith, c.loop-place-test.true))).block

pub push_pages-requires-clause-birth : goal.push_pages-requires-clause-birth
push_pages-requires-clause-birth c = (c.requires c.loop-place.place nothing (omega (arith, c.loop-place-test.true))).birth

pub loop-place-preserved : goal.loop-place-preserved
loop-place-preserved c =
    c.in_ok-push_pages.ensures ∙ ap (λ l. l ++ pages_of (get_or c.args.order.now c.loop-place.place nothing)) c.loop-place.invariant
    ∙ sym (one_run_more c.args.order.now c.loop-place.place nothing (omega (arith, c.loop-place-test.true)))

pub returns : goal.returns
returns c = c.loop-place.invariant ∙ ap (flat_map pages_of) (take_all c.loop-place.place c.args.order.now (omega (arith, c.loop-place-test.false)))
