use Rattle.std.proofs.Common.{◌≡◌, ◌∙◌, sym, ap, subst, filter}
use Rattle.std.specs.Prelude.{not}
use Rattle.st_tables.specs.Indexes.{AreOwned, numbers_in}
use Rattle.st_tables.specs.Tables.{IsCounted, is_first}
use Rattle.st_tables.proofs.ClientRows.{counted_forgotten}
use Rattle.st_tables.proofs.Indexes.{all_told, is_gone, owned_forgotten}
use Rattle.st_tables.proofs.clients.ClientTable.forget.Goals as goal

gone : (g : _) (c : goal.After-count_none g) → c.remove_all.new.table ≡ filter (λ v. not (is_first g.V.Row.key_of c.args.client.0 v)) c.self.inside.table
gone g c =
    c.remove_all.ensures.rows ∙ ap (λ ss. filter (λ v. not (is_gone g.V.Row.key_of c.args.client.0 ss v)) c.self.inside.table) c.numbers.ensures
    ∙ all_told g.V.Row.key_of c.args.client.0 (numbers_in c.self.inside.owned.items c.args.client.0) c.self.inside.table (λ s. c.self.invariant.owned c.args.client.0 s)

pub invariant_of-self : goal.invariant_of-self
invariant_of-self g c = record {
  counts = subst (λ l. IsCounted g.V.Row.key_of l c.count_none.new.counts) (sym (gone g c)) (counted_forgotten g.V.Row.key_of c.self.inside.table c.self.inside.counts c.count_none.new.counts c.args.client.0 c.self.invariant.counts c.count_none.ensures);
  queued = c.remove_all.ensures.queued;
  owned = subst (λ l. AreOwned g.V.Row.key_of l (numbers_in c.forget.new.owned.items)) (sym (gone g c)) (owned_forgotten g.V.Row.key_of c.self.inside.table (numbers_in c.self.inside.owned.items) (numbers_in c.forget.new.owned.items) c.args.client.0 c.self.invariant.owned c.forget.ensures);
}

pub returns : goal.returns
returns g c = gone g c ∙ ap (filter (λ v. not (is_first g.V.Row.key_of c.args.client.0 v))) c.self.view_is
