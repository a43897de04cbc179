use Rattle.st_tables.proofs.ClientRows.{counted_written}
use Rattle.st_tables.proofs.Indexes.{owned_map, queued_map, written_key}
use Rattle.st_tables.specs.Indexes.{IsIndexed, numbers_in, queue_in}
use Rattle.st_tables.specs.Tables.{has_key}
use Rattle.std.proofs.Common.{◌≡◌, subst, sym, find, map, if◌then◌else◌}
use Rattle.std.specs.Prelude.{Some}
use Rattle.st_tables.proofs.clients.ClientTable.change.Goals as goal

pub invariant_of-self : goal.invariant_of-self
invariant_of-self g c =
    subst (λ l. IsIndexed g.V.Row.key_of l c.self.inside.counts c.self.inside.queues.entries c.self.inside.owned.items) (sym c.change.ensures.written) (record {
      counts = counted_written g.V.Row.key_of c.self.inside.table c.self.inside.counts c.args.row c.self.invariant.counts;
      queued = queued_map g.V.Row.key_of c.self.inside.table (queue_in c.self.inside.queues.entries) (λ r. if has_key g.V.Row.key_of (g.V.Row.key_of c.args.row) r then c.args.row else r) (written_key g.V.Row.key_of c.args.row) c.self.invariant.queued;
      owned = owned_map g.V.Row.key_of c.self.inside.table (numbers_in c.self.inside.owned.items) (λ r. if has_key g.V.Row.key_of (g.V.Row.key_of c.args.row) r then c.args.row else r) (written_key g.V.Row.key_of c.args.row) c.self.invariant.owned;
    })

pub returns-clause-changed : goal.returns-clause-changed
returns-clause-changed g c = λ f v found same.
    subst (λ l. c.change.new.self ≡ map (λ r. if has_key g.V.Row.key_of (g.V.Row.key_of c.args.row) r then f r else r) l) c.self.view_is
    (c.change.ensures.changed f v (subst (λ l. find (has_key g.V.Row.key_of (g.V.Row.key_of c.args.row)) l ≡ Some v) (sym c.self.view_is) found) same)
