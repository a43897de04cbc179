use Rattle.st_lemmas.proofs.Words
use Words.{◌∙◌, ap}
use Rattle.st_store.specs.InMemory.{InMemory, held}
use Rattle.st_store.specs.Store.{written}
use Rattle.st_embed.proofs.Zeros.{all_written}
use Rattle.st_embed.proofs.journal_image.store_of.Goals as goal

pub returns-in-Ok-write : goal.returns-in-Ok-write
returns-in-Ok-write c =
    c.in-Ok-write.ensures.bytes ∙ ap (λ (s : InMemory). written (held s.contents).seen 0 c.args.bytes.now) c.in-Ok.ensures ∙ all_written c.args.bytes.now
