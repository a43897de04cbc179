use Rattle.std.proofs.Common.{◌≡◌, ◌∙◌, sym, subst, find, true, false, Bool, refl, true≢false}
use Rattle.std.specs.Prelude.{Option, Some, None, is_some}
use Rattle.st_rules.specs.Keys.{put}
use Rattle.st_tables.specs.Indexes.{IsIndexed, numbers_in, queue_in}
use Rattle.st_tables.specs.Tables.{has_key}
use Rattle.st_tables.proofs.ClientRows.{counted_over}
use Rattle.st_tables.proofs.Indexes.{either_way, owned_over, queued_over}
use Rattle.st_tables.proofs.clients.ClientTable.put.Goals as goal

nothing : {A : Type 0} (o : Option A) (b : Bool) → b ≡ is_some o → b ≡ false → o ≡ None
nothing None b e f = refl
nothing (Some x) b e f = let z : true ≡ false = sym e ∙ f in absurd (true≢false z)

pub put_new-requires-clause-none : goal.put_new-requires-clause-none
put_new-requires-clause-none g c =
    subst (λ l. find (has_key g.V.Row.key_of c.key-key.result) l ≡ None) c.self.view_is
    (nothing (find (has_key g.V.Row.key_of c.key-key.result) c.self.inside.table) c.holds.result c.holds.ensures c.if-holds.false)

pub invariant_of-self : goal.invariant_of-self
invariant_of-self g c =
    either_way (λ l. IsIndexed g.V.Row.key_of l c.self.inside.counts c.self.inside.queues.entries c.self.inside.owned.items) c.put.result c.put.new.self c.self.inside.table (put (has_key g.V.Row.key_of (g.V.Row.key_of c.args.row)) c.args.row c.self.inside.table) c.put.ensures.ok c.put.ensures.err
    (record {
      counts = counted_over g.V.Row.key_of c.self.inside.table c.self.inside.counts c.args.row c.key-key.result c.key-key.ensures c.self.invariant.counts (sym c.holds.ensures ∙ c.if-holds.true) c.requires;
      queued = queued_over g.V.Row.key_of c.self.inside.table (queue_in c.self.inside.queues.entries) c.args.row c.key-key.result c.key-key.ensures c.self.invariant.queued (sym c.holds.ensures ∙ c.if-holds.true);
      owned = owned_over g.V.Row.key_of c.self.inside.table (numbers_in c.self.inside.owned.items) c.args.row c.key-key.result c.key-key.ensures c.self.invariant.owned (sym c.holds.ensures ∙ c.if-holds.true);
    })
    c.self.invariant
