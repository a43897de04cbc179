use Rattle.st_lemmas.proofs.Words
use Words.{◌≡◌, ◌∙◌, refl, sym, ap, rules, find, option_map, ◌&&◌, ◌==◌, nat_le, CleanPage}
use Words.ClientPages.{is_clean_behind}
use Rattle.std.specs.Map.Iter.{deref_pair}
use Rattle.std.proofs.Common.{tests}
use Rattle.std.proofs.lemmas.Iterator.Consumers.{YieldsList-from_rest}
use Rattle.std.proofs.lemmas.Iterator.Search.{find_from_yields_List}
use Rattle.st_page_cache.specs.declared.key.PageKey.{PageKey}
use Rattle.st_page_cache.proofs.CleanRows.{first_key}
use Rattle.st_page_cache.proofs.clean_pages.CleanPages.first_behind.Goals as goal

pub returns-in-Some : goal.returns-in-Some
returns-in-Some c =
    let found : option_map deref_pair c.find-found.result ≡ find (λ (e : PageKey × CleanPage). (e.0.ino == c.args.ino) && nat_le c.args.page.0 e.0.page) c.self.inside.pages.entries =
    find_from_yields_List (λ (e : PageKey × CleanPage). (e.0.ino == c.args.ino) && nat_le c.args.page.0 e.0.page) _ _ c.find-found.result c.find-found.ensures.ran (YieldsList-from_rest _ c.iter.ensures.rest) (λ x b q k. search (rules, tests)) in
    rw (← c.self.view_is)
    (sym (ap (λ r. option_map (λ (e : PageKey × CleanPage). e.0) (option_map deref_pair r)) c.in-Some.is)
    ∙ ap (option_map (λ (e : PageKey × CleanPage). e.0)) found
    ∙ first_key (λ k. (k.ino == c.args.ino) && nat_le c.args.page.0 k.page) (is_clean_behind c.args.ino c.args.page) (λ x. refl) c.self.inside.pages.entries c.self.invariant.keyed)

pub returns-in-None : goal.returns-in-None
returns-in-None c =
    let found : option_map deref_pair c.find-found.result ≡ find (λ (e : PageKey × CleanPage). (e.0.ino == c.args.ino) && nat_le c.args.page.0 e.0.page) c.self.inside.pages.entries =
    find_from_yields_List (λ (e : PageKey × CleanPage). (e.0.ino == c.args.ino) && nat_le c.args.page.0 e.0.page) _ _ c.find-found.result c.find-found.ensures.ran (YieldsList-from_rest _ c.iter.ensures.rest) (λ x b q k. search (rules, tests)) in
    rw (← c.self.view_is)
    (sym (ap (λ r. option_map (λ (e : PageKey × CleanPage). e.0) (option_map deref_pair r)) c.in-None.is)
    ∙ ap (option_map (λ (e : PageKey × CleanPage). e.0)) found
    ∙ first_key (λ k. (k.ino == c.args.ino) && nat_le c.args.page.0 k.page) (is_clean_behind c.args.ino c.args.page) (λ x. refl) c.self.inside.pages.entries c.self.invariant.keyed)
