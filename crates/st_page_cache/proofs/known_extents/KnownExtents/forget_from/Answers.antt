use Rattle.st_lemmas.proofs.Words
use Words.{◌≡◌, ◌∙◌, ap, filter, rules, not}
use Words.ClientPages.{is_known_behind}
use Rattle.std.specs.Map.{values_of}
use Rattle.indexmap.proofs.CallerLemmas.{filter-RetainsPairs}
use Rattle.st_page_cache.proofs.KnownRows.{keyed_kept, values_kept}
use Rattle.st_page_cache.proofs.known_extents.KnownExtents.forget_from.Goals as goal

entries : (c : goal.After-retain) → c.retain.new.self.entries ≡ filter (λ e. not (is_known_behind c.args.ino c.args.page e.1)) c.self.inside.rows.entries
entries c = filter-RetainsPairs _ (λ e. not (is_known_behind c.args.ino c.args.page e.1)) _ (λ k v b w f call. search rules) _ _ c.retain.ensures.filtered

pub invariant_of-self : goal.invariant_of-self
invariant_of-self c =
    rw (entries c)
    (record {
      keyed = keyed_kept (λ e. not (is_known_behind c.args.ino c.args.page e)) c.self.inside.rows.entries c.self.invariant.keyed;
      distinct = rw (entries c) at c.retain.ensures.unique;
    })

pub returns : goal.returns
returns c = rw (← c.self.view_is) (ap values_of (entries c) ∙ values_kept (λ e. not (is_known_behind c.args.ino c.args.page e)) c.self.inside.rows.entries)
