use Rattle.std.proofs.Common.{◌≡◌, ◌∙◌, List, ℕ, ap, subst, arith, map, filter, take}
use Rattle.std.specs.Prelude.{IfOk}
use Rattle.std.specs.Map.{values_of}
use Rattle.std.proofs.lemmas.List.{length-map, take_all}
use Rattle.st_rules.specs.Keys.{rising}
use Rattle.st_tables.specs.Tables.{second_of}
use Rattle.st_tables.proofs.Seconds.{AreSeconds, seconds_more, seconds_are}
use Rattle.st_tables.proofs.table.Table.seconds.Goals as goal

pub loop-i-preserved : goal.loop-i-preserved
loop-i-preserved g c =
    seconds_more g.V.Row.key_of (g.T.Test.passes c.args.test.now) c.loop-i.found.items c.push_second.new.found.items (values_of c.self.inside.rows.entries) c.loop-i.i c.index.result.now c.index.ensures c.in_ok-push_second.ensures c.loop-i.invariant

pub returns : goal.returns
returns g c =
    let all : take c.loop-i.i (values_of c.self.inside.rows.entries) ≡ values_of c.self.inside.rows.entries = take_all c.loop-i.i (values_of c.self.inside.rows.entries) (omega (arith, length-map c.self.inside.rows.entries (λ e. e.1), c.len-i-end.ensures.len, c.loop-i-test.false)) in
    subst (λ (l : List ℕ). IfOk c.rising.result (λ ks. ks.items ≡ l))
    (ap rising c.as_slice.ensures.value
    ∙ seconds_are g.V.Row.key_of (g.T.Test.passes c.args.test.now) c.loop-i.found.items c.self.inside.next c.self.inside.rows.entries c.len-i-end.ensures.unique (λ i v e. (c.self.invariant.placed i v e).0)
    (subst (AreSeconds g.V.Row.key_of (g.T.Test.passes c.args.test.now) c.loop-i.found.items) all c.loop-i.invariant)
    ∙ ap (λ rows. rising (map (second_of g.V.Row.key_of) (filter (g.T.Test.passes c.args.test.now) rows))) c.self.view_is)
    c.rising.ensures
