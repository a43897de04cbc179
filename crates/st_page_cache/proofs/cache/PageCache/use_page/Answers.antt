use Rattle.st_lemmas.proofs.Words
use Words.{refl, find}
use Words.ClientPages.{is_clean_of}
use Rattle.st_page_cache.proofs.Changes.{sound_touched}
use Rattle.st_page_cache.proofs.cache.PageCache.use_page.Goals as goal

pub invariant_of-self : goal.invariant_of-self
invariant_of-self c =
    rw c.touch.ensures (sound_touched c.self.inside.clean c.self.inside.dirty c.self.inside.next_version c.self.invariant (is_clean_of c.args.ino c.args.page) (find (is_clean_of c.args.ino c.args.page) c.self.inside.clean) refl)
