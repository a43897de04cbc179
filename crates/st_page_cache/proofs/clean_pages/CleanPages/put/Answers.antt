use Rattle.st_lemmas.proofs.Words
use Words.{◌≡◌, ◌≤◌, ◌∙◌, ap, refl, length, arith}
use Rattle.std.specs.Map.{values_of, lookup_entry}
use Rattle.st_page_cache.specs.KeyedPages.{same_key}
use Rattle.st_page_cache.proofs.CleanRows.{page_put, keyed_put}
use Rattle.st_page_cache.proofs.clean_pages.CleanPages.put.Goals as goal

pub invariant_of-self-2 : goal.invariant_of-self-2
invariant_of-self-2 c =
    let cap : c.put.new.self.cap ≡ 256 = ap (λ x. x.cap) c.in_ok-_old.ensures.entries ∙ c.self.invariant.cap in
    let few : length c.put.new.self.entries ≤ 256 = omega (arith, c.len-len.ensures.valid.1, cap) in
    record {
      cap = cap;
      few = few;
      keyed = rw c.in_ok-_old.ensures.entries (keyed_put c.args.page c.key-at.result c.key-at.ensures c.self.inside.pages c.self.invariant (lookup_entry (same_key c.key-at.result) c.self.inside.pages.entries) refl);
      distinct = c.len-len.ensures.valid.0;
    }

pub returns-clause-ok : goal.returns-clause-ok
returns-clause-ok c =
    rw (← c.self.view_is)
    (ap (λ x. values_of x.entries) c.in_ok-_old.ensures.entries
    ∙ page_put c.args.page.ino c.args.page.page c.key-at.result c.key-at.ensures c.args.page c.self.inside.pages c.self.invariant (lookup_entry (same_key c.key-at.result) c.self.inside.pages.entries) refl)
