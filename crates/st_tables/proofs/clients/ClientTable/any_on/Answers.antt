use Rattle.std.proofs.Common.{◌≡◌, ◌∙◌, [], drop, sym, ap}
use Rattle.std.specs.Prelude.{◌||◌}
use Rattle.std.specs.List.{list_any}
use Rattle.std.proofs.lemmas.List.{drop_all}
use Rattle.st_tables.specs.Tables.{is_among}
use Rattle.st_tables.proofs.Indexes.{any_seen, or_none, seen}
use Rattle.st_tables.proofs.clients.ClientTable.any_on.Goals as goal

pub returns : goal.returns
returns g c =
    let look = seen g.V.Row.key_of c.args.second (g.T.Test.passes c.args.test.now) c.self.inside.table in
    let all : drop c.loop-first.first-index c.queue-waiting.result.now ≡ [] = drop_all c.loop-first.first-index c.queue-waiting.result.now c.loop-first-test.false in
    sym (or_none c.loop-first.found) ∙ ap (λ l. c.loop-first.found || list_any look l) (sym all) ∙ c.loop-first.invariant
    ∙ ap (list_any look) (c.queue-waiting.ensures ∙ c.self.invariant.queued c.args.second)
    ∙ any_seen g.V.Row.key_of c.args.second (g.T.Test.passes c.args.test.now) c.self.inside.table
    ∙ ap (list_any (is_among g.V.Row.key_of c.args.second (g.T.Test.passes c.args.test.now))) c.self.view_is
