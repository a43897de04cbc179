use Rattle.st_lemmas.proofs.Words
use Words.{not}
use Words.ClientPages.{is_clean_behind}
use Rattle.st_page_cache.proofs.Changes.{sound_dropped}
use Rattle.st_page_cache.proofs.cache.PageCache.drop_from.Goals as goal

pub invariant_of-self : goal.invariant_of-self
invariant_of-self c =
    rw c.drop_from.ensures (sound_dropped c.self.inside.clean c.self.inside.dirty c.self.inside.next_version c.self.invariant (λ p. not (is_clean_behind c.args.ino c.args.page p)))
