use Rattle.st_lemmas.proofs.Words
use Words.{◌∙◌, ap, refl}
use Words.ClientPages.{cached}
use Rattle.st_page_cache.specs.Caches.{ServerPages}
use Rattle.st_page_cache.proofs.Used.{cached_used}
use Rattle.st_page_cache.proofs.cache.PageCache.read.Goals as goal

pub returns-in-Some : goal.returns-in-Some
returns-in-Some c =
    ((refl, (λ _. tt), c.use_page.ensures.used), record { used = tt; value = c.in-Some.ensures ∙ ap (λ (s : ServerPages). cached s.pages c.args.ino c.args.page) c.use_page.ensures.used ∙ cached_used c.args.self.now.pages c.args.ino c.args.page c.use_page.ensures.most })

pub returns-in-None : goal.returns-in-None
returns-in-None c =
    ((refl, (λ _. tt), c.use_page.ensures.used), record { used = tt; value = c.in-None.ensures ∙ ap (λ (s : ServerPages). cached s.pages c.args.ino c.args.page) c.use_page.ensures.used ∙ cached_used c.args.self.now.pages c.args.ino c.args.page c.use_page.ensures.most })
