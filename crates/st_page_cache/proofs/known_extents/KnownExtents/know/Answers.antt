use Rattle.st_lemmas.proofs.Words
use Words.{◌≡◌, ◌∙◌, ap}
use Rattle.std.specs.Map.{values_of}
use Rattle.indexmap.specs.IndexMap.{insert_entry}
use Rattle.st_page_cache.specs.KeyedPages.{known_key, same_key}
use Rattle.st_page_cache.proofs.KnownRows.{known_put, table_known}
use Rattle.st_page_cache.proofs.known_extents.KnownExtents.know.Goals as goal

entries : (c : goal.After-store) → c.store.new.rows.entries ≡ insert_entry same_key c.self.inside.rows.entries (known_key c.args.extent) c.args.extent
entries c = c.store.ensures.entries ∙ ap (λ es. insert_entry same_key es (known_key c.args.extent) c.args.extent) c.in_ok-reserve.ensures.entries

pub invariant_of-self-2 : goal.invariant_of-self-2
invariant_of-self-2 c = rw (entries c) (table_known c.args.extent c.self.inside.rows.entries c.self.invariant (rw (entries c) at c.store.ensures.unique))

pub returns-clause-ok : goal.returns-clause-ok
returns-clause-ok c = rw (← c.self.view_is) (ap values_of (entries c) ∙ known_put c.args.extent c.self.inside.rows.entries c.self.invariant)
