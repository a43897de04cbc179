use Rattle.st_lemmas.proofs.Words
use Words.{◌<◌, ◌∙◌, ap, sym, subst, length, filter, not}
use Words.ClientPages.{is_clean_behind}
use Rattle.st_page_cache.proofs.Dropping.{key_fewer, key_none, key_step}
use Rattle.st_page_cache.proofs.clean_pages.CleanPages.drop_from.Goals as goal

pub loop-at-smaller : goal.loop-at-smaller
loop-at-smaller c = subst (λ l. length l < length c.loop-at.self) (sym c.remove.ensures) (key_fewer c.args.ino c.args.page c.loop-at.self c.in-Some.at c.in-Some.ensures)

pub loop-at-preserved : goal.loop-at-preserved
loop-at-preserved c =
    ap (filter (λ x. not (is_clean_behind c.args.ino c.args.page x))) c.remove.ensures
    ∙ key_step c.args.ino c.args.page c.loop-at.self c.in-Some.at c.in-Some.ensures
    ∙ c.loop-at.invariant

pub returns : goal.returns
returns c = key_none c.args.ino c.args.page c.loop-at.self c.in_default.ensures ∙ c.loop-at.invariant
