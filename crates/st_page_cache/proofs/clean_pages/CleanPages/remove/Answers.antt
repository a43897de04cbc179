use Rattle.st_lemmas.proofs.Words
use Words.{◌≡◌, ◌≤◌, ◌∙◌, ap, length, arith}
use Rattle.std.specs.Map.{values_of}
use Rattle.st_page_cache.specs.KeyedPages.{clean_key, same_key}
use Rattle.st_page_cache.proofs.Keyed.{keyed_remove}
use Rattle.st_page_cache.proofs.CleanRows.{page_removed}
use Rattle.st_page_cache.proofs.clean_pages.CleanPages.remove.Goals as goal

pub invariant_of-self : goal.invariant_of-self
invariant_of-self c =
    let cap : c.pop-old.new.self.cap ≡ 256 = ap (λ x. x.cap) c.pop-old.ensures.entries ∙ c.self.invariant.cap in
    let few : length c.pop-old.new.self.entries ≤ 256 = omega (arith, c.len-len.ensures.valid.1, cap) in
    record {
      cap = cap;
      few = few;
      keyed = rw c.pop-old.ensures.entries (keyed_remove clean_key (same_key c.key.result) c.self.inside.pages.entries c.self.invariant.keyed);
      distinct = c.len-len.ensures.valid.0;
    }

pub returns : goal.returns
returns c = rw (← c.self.view_is) (ap (λ x. values_of x.entries) c.pop-old.ensures.entries ∙ page_removed c.args.ino c.args.page c.key.result c.key.ensures c.self.inside.pages.entries c.self.invariant.keyed c.self.invariant.distinct)
