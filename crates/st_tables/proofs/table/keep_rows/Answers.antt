use Rattle.std.proofs.Common.{◌≡◌, ◌∙◌, rules, filter, ap}
use Rattle.std.specs.Cmp.{nat_eq_equiv}
use Rattle.std.proofs.lemmas.Map.Entries.{lookup-filter-values}
use Rattle.indexmap.proofs.CallerLemmas.{filter-RetainsPairs}
use Rattle.st_tables.specs.Tables.{row_at}
use Rattle.st_tables.proofs.Filters.{filter_kept}
use Rattle.st_tables.proofs.table.keep_rows.Goals as goal

entries : (g : _) (c : goal.After-retain g) → c.retain.new.self.entries ≡ filter (λ e. g.T.Test.passes c.args.test.now e.1) c.args.rows.now.entries
entries g c = filter-RetainsPairs _ (λ e. g.T.Test.passes c.args.test.now e.1) _ (λ k v b w f call. search rules) _ _ c.retain.ensures.filtered

pub returns : goal.returns
returns g c = λ q. ap (λ es. row_at es q) (entries g c) ∙ lookup-filter-values nat_eq_equiv (g.T.Test.passes c.args.test.now) q c.args.rows.now.entries c.len-len.ensures.unique ∙ filter_kept (g.T.Test.passes c.args.test.now) (row_at c.args.rows.now.entries q)
