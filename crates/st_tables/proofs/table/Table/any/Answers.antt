use Rattle.std.proofs.Common.{◌≡◌, ◌∙◌, sym, ap, arith, take}
use Rattle.std.specs.Prelude.{◌||◌}
use Rattle.std.specs.List.{list_any}
use Rattle.std.specs.Map.{values_of}
use Rattle.std.proofs.lemmas.List.{length-map, take_all}
use Rattle.st_tables.proofs.Entries.{any_value}
use Rattle.st_tables.proofs.Seconds.{any_next}
use Rattle.st_tables.proofs.table.Table.any.Goals as goal

pub loop-i-preserved : goal.loop-i-preserved
loop-i-preserved g c =
    c.either-found.ensures ∙ (λ j. c.loop-i.invariant j || c.test.ensures j)
    ∙ sym (any_next (g.T.Test.passes c.args.test.now) (values_of c.self.inside.rows.entries) c.loop-i.i c.index.result.now c.index.ensures)

pub returns : goal.returns
returns g c =
    let all : take c.loop-i.i (values_of c.self.inside.rows.entries) ≡ values_of c.self.inside.rows.entries = take_all c.loop-i.i (values_of c.self.inside.rows.entries) (omega (arith, length-map c.self.inside.rows.entries (λ e. e.1), c.len-i-end.ensures.len, c.loop-i-test.false)) in
    c.loop-i.invariant ∙ ap (list_any (g.T.Test.passes c.args.test.now)) all
    ∙ sym (any_value (g.T.Test.passes c.args.test.now) c.self.inside.next c.self.inside.rows.entries c.len-i-end.ensures.unique (λ i v e. (c.self.invariant.placed i v e).0))
    ∙ ap (list_any (g.T.Test.passes c.args.test.now)) c.self.view_is
