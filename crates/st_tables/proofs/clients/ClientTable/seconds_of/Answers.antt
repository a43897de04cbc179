use Rattle.std.proofs.Common.{◌≡◌, ◌∙◌, List, ℕ, ap, subst, map, filter}
use Rattle.std.specs.Prelude.{IfOk}
use Rattle.st_rules.specs.Keys.{rising}
use Rattle.st_tables.specs.Indexes.{numbers_in}
use Rattle.st_tables.specs.Tables.{is_first, second_of}
use Rattle.st_tables.proofs.Indexes.{rising_owned}
use Rattle.st_tables.proofs.clients.ClientTable.seconds_of.Goals as goal

pub returns : goal.returns
returns g c =
    subst (λ (l : List ℕ). IfOk c.rising.result (λ ks. ks.items ≡ l))
    (ap rising c.numbers.ensures ∙ rising_owned g.V.Row.key_of c.args.client.0 c.self.inside.table (numbers_in c.self.inside.owned.items c.args.client.0) (λ s. c.self.invariant.owned c.args.client.0 s)
    ∙ ap (λ rows. rising (map (second_of g.V.Row.key_of) (filter (is_first g.V.Row.key_of c.args.client.0) rows))) c.self.view_is)
    c.rising.ensures
