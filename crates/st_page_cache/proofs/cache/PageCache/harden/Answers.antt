use Rattle.st_lemmas.proofs.Words
use Words.{◌≡◌, ◌∙◌, refl, sym}
use Words.ClientPages.{clean_page, harden, with_newest, without_dirty}
use Rattle.st_page_cache.specs.Caches.{pages_of}
use Rattle.st_page_cache.proofs.Changes.{sound_hardened, harden_found}
use Rattle.st_page_cache.proofs.cache.PageCache.harden.Goals as goal

pub invariant_of-self-in-Some : goal.invariant_of-self-in-Some
invariant_of-self-in-Some c =
    rw (c.remove.ensures, c.in_ok-put-in-Some.ensures.ok) (sound_hardened c.self.inside.clean c.self.inside.dirty c.self.inside.next_version c.self.invariant (record { ino = c.args.ino; page = c.args.page; bytes = c.in_ok-bytes-in-Some.bytes }) c.args.ino c.args.page refl refl)

pub returns-in_ok-put-in-Some-clause-ok : goal.returns-in_ok-put-in-Some-clause-ok
returns-in_ok-put-in-Some-clause-ok c =
    let found = harden_found (pages_of c.self.inside.clean c.self.inside.dirty c.self.inside.next_version) c.args.ino c.args.page c.in-Some.old.now (sym c.in-Some.ensures) in
    let done : pages_of (with_newest 256 (clean_page c.args.ino c.args.page c.in_ok-bytes-in-Some.bytes) c.self.inside.clean) (without_dirty c.args.ino c.args.page c.self.inside.dirty) c.self.inside.next_version ≡ harden (pages_of c.self.inside.clean c.self.inside.dirty c.self.inside.next_version) c.args.ino c.args.page =
    (λ j. pages_of (with_newest 256 (clean_page c.args.ino c.args.page (c.in_ok-bytes-in-Some.ensures j)) c.self.inside.clean) (without_dirty c.args.ino c.args.page c.self.inside.dirty) c.self.inside.next_version) ∙ sym found in
    rw (← c.self.view_is, c.remove.ensures, c.in_ok-put-in-Some.ensures.ok) (λ j. record { server = c.self.inside.server; pages = done j })
