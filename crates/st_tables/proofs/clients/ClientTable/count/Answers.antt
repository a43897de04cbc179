use Rattle.std.proofs.Common.{◌≡◌, subst, filter, length}
use Rattle.st_tables.specs.Tables.{is_first}
use Rattle.st_tables.proofs.ClientRows.{none_counted}
use Rattle.st_tables.proofs.clients.ClientTable.count.Goals as goal

pub returns-else-client-lt17 : goal.returns-else-client-lt17
returns-else-client-lt17 g c = subst (λ l. 0 ≡ length (filter (is_first g.V.Row.key_of c.args.client.0) l)) c.self.view_is (none_counted g.V.Row.key_of c.args.client.0 c.self.inside.table c.self.invariant.counts.clients c.if-client-lt17.false)
