use Rattle.st_lemmas.proofs.Words
use Words.{◌≤◌, length, arith}
use Rattle.st_page_cache.proofs.Changes.{sound_written}
use Rattle.st_page_cache.proofs.cache.PageCache.change.Goals as goal

pub invariant_of-self-2 : goal.invariant_of-self-2
invariant_of-self-2 c =
    let few = rw (← c.self.view_is) at c.requires.few in
    let most : length c.put.new.self ≤ 64 = omega (arith, few, c.in_ok-put.ensures.few) in
    rw c.remove.ensures (sound_written c.self.inside.clean c.self.inside.dirty c.self.inside.next_version c.self.invariant c.args.ino c.args.page c.in_ok-bytes.bytes c.put.new.self c.in_ok-put.ensures.ok most)
