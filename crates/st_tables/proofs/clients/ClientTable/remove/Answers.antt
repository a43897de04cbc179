use Rattle.std.proofs.Common.{◌≡◌, ◌∙◌, sym, subst, refl, true, false, true≢false, filter, find, Bool}
use Rattle.std.specs.Prelude.{Option, Some, None, is_some, not}
use Rattle.st_tables.specs.Indexes.{IsIndexed, numbers_in, queue_in}
use Rattle.st_tables.specs.Tables.{has_key}
use Rattle.st_tables.proofs.Indexes.{owned_gone, queued_gone}
use Rattle.st_tables.proofs.RowLists.{none_of}
use Rattle.st_tables.proofs.ClientRows.{counted_gone, one_at_least}
use Rattle.st_tables.proofs.clients.ClientTable.remove.Goals as goal

nothing : {A : Type 0} (o : Option A) (b : Bool) → b ≡ is_some o → b ≡ false → o ≡ None
nothing None b e f = refl
nothing (Some x) b e f = let z : true ≡ false = sym e ∙ f in absurd (true≢false z)

pub count_down-requires : goal.count_down-requires
count_down-requires g c =
    one_at_least g.V.Row.key_of c.self.inside.table c.self.inside.counts c.args.key (find (has_key g.V.Row.key_of c.args.key) c.self.inside.table) refl (sym c.holds.ensures ∙ c.if-holds.true) c.len-len.ensures.distinct c.self.invariant.counts

pub invariant_of-self : goal.invariant_of-self
invariant_of-self g c =
    subst (λ l. IsIndexed g.V.Row.key_of l c.count_down.new.counts c.leave.new.queues.entries c.lose.new.owned.items) (sym c.remove.ensures) (record {
      counts = counted_gone g.V.Row.key_of c.self.inside.table c.self.inside.counts c.count_down.new.counts c.args.key (find (has_key g.V.Row.key_of c.args.key) c.self.inside.table) refl (sym c.holds.ensures ∙ c.if-holds.true) c.len-len.ensures.distinct c.self.invariant.counts c.count_down.ensures;
      queued = queued_gone g.V.Row.key_of c.self.inside.table (queue_in c.self.inside.queues.entries) (queue_in c.leave.new.queues.entries) c.args.key c.self.invariant.queued c.leave.ensures;
      owned = owned_gone g.V.Row.key_of c.self.inside.table (numbers_in c.self.inside.owned.items) (numbers_in c.lose.new.owned.items) c.args.key c.self.invariant.owned c.lose.ensures;
    })

pub returns-else-holds : goal.returns-else-holds
returns-else-holds g c =
    subst (λ l. l ≡ filter (λ v. not (has_key g.V.Row.key_of c.args.key v)) l) c.self.view_is
    (sym (none_of (has_key g.V.Row.key_of c.args.key) c.self.inside.table (nothing (find (has_key g.V.Row.key_of c.args.key) c.self.inside.table) c.holds.result c.holds.ensures c.if-holds.false)))
