use Rattle.std.proofs.Common.{◌∙◌, sym, ap}
use Rattle.std.specs.Prelude.{◌==◌}
use Rattle.std.specs.List.{list_any}
use Rattle.st_tables.proofs.Indexes.{unseen}
use Rattle.st_tables.proofs.clients.ClientTable.has_in.Goals as goal

pub returns-else-is_in : goal.returns-else-is_in
returns-else-is_in g c =
    c.if-is_in.false
    ∙ sym (unseen g.V.Row.key_of c.args.key.second (g.T.Test.passes c.args.test.now) c.args.self.now c.args.key.first (ap (list_any (λ k. k == c.args.key.first)) (sym c.requires) ∙ sym c.is_in.ensures ∙ c.if-is_in.false))
