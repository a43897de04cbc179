use Rattle.std.proofs.Common.{◌≡◌, ◌∙◌, rules, filter, ap}
use Rattle.std.specs.Prelude.{is_some}
use Rattle.std.proofs.lemmas.Map.Entries.{lookup-filter-values}
use Rattle.indexmap.proofs.CallerLemmas.{filter-RetainsPairs}
use Rattle.st_tables.specs.Tables.{row_at, place_of}
use Rattle.st_tables.proofs.Entries.{key_equality}
use Rattle.st_tables.proofs.Filters.{filter_kept}
use Rattle.st_tables.proofs.table.keep_places.Goals as goal

entries : (g : _) (c : goal.After-retain g) → c.retain.new.self.entries ≡ filter (λ e. is_some (row_at c.args.rows.now.entries e.1)) c.args.places.now.entries
entries g c = filter-RetainsPairs _ (λ e. is_some (row_at c.args.rows.now.entries e.1)) _ (λ k v b w f call. search rules) _ _ c.retain.ensures.filtered

pub returns : goal.returns
returns g c = λ q. ap (λ es. place_of es q) (entries g c) ∙ lookup-filter-values key_equality (λ i. is_some (row_at c.args.rows.now.entries i)) q c.args.places.now.entries c.len-len.ensures.unique ∙ filter_kept (λ i. is_some (row_at c.args.rows.now.entries i)) (place_of c.args.places.now.entries q)
