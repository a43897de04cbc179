use Rattle.st_lemmas.proofs.Words
use Words.{◌≡◌, ◌≤◌, ◌∙◌, ap, length, arith}
use Rattle.std.specs.Map.{values_of}
use Rattle.st_page_cache.proofs.CleanRows.{keyed_touched, page_touched}
use Rattle.st_page_cache.proofs.clean_pages.CleanPages.touch.Goals as goal

pub invariant_of-self : goal.invariant_of-self
invariant_of-self c =
    let cap : c.promote-found.new.self.cap ≡ 256 = ap (λ x. x.cap) c.promote-found.ensures.entries ∙ c.self.invariant.cap in
    let few : length c.promote-found.new.self.entries ≤ 256 = omega (arith, c.len-len.ensures.valid.1, cap) in
    record {
      cap = cap;
      few = few;
      keyed = rw c.promote-found.ensures.entries (keyed_touched c.key.result c.self.inside.pages.entries c.self.invariant.keyed);
      distinct = c.len-len.ensures.valid.0;
    }

pub returns : goal.returns
returns c = rw (← c.self.view_is) (ap (λ x. values_of x.entries) c.promote-found.ensures.entries ∙ page_touched c.args.ino c.args.page c.key.result c.key.ensures c.self.inside.pages c.self.invariant)
