use Rattle.std.proofs.Common.{◌≡◌, ◌∙◌, [], drop, sym, ap}
use Rattle.std.specs.Prelude.{◌||◌, ◌&&◌}
use Rattle.std.specs.List.{list_any}
use Rattle.std.proofs.lemmas.List.{drop_all}
use Rattle.st_tables.specs.Indexes.{numbers_in}
use Rattle.st_tables.specs.Tables.{is_first}
use Rattle.st_tables.proofs.Indexes.{any_met, met, or_none}
use Rattle.st_tables.proofs.clients.ClientTable.any_of.Goals as goal

pub returns : goal.returns
returns g c =
    let look = met g.V.Row.key_of c.args.client.0 (g.T.Test.passes c.args.test.now) c.self.inside.table in
    let all : drop c.loop-second.second-index c.numbers-seconds.result.now ≡ [] = drop_all c.loop-second.second-index c.numbers-seconds.result.now c.loop-second-test.false in
    sym (or_none c.loop-second.found) ∙ ap (λ l. c.loop-second.found || list_any look l) (sym all) ∙ c.loop-second.invariant
    ∙ ap (list_any look) c.numbers-seconds.ensures
    ∙ any_met g.V.Row.key_of c.args.client.0 (g.T.Test.passes c.args.test.now) c.self.inside.table (numbers_in c.self.inside.owned.items c.args.client.0) (λ s. c.self.invariant.owned c.args.client.0 s)
    ∙ ap (list_any (λ v. is_first g.V.Row.key_of c.args.client.0 v && g.T.Test.passes c.args.test.now v)) c.self.view_is
