use Rattle.st_lemmas.proofs.Words
use Words.{◌≡◌, ◌∙◌, sym}
use Rattle.st_client_store.proofs.Matching.{matched_written}
use Rattle.st_client_store.proofs.store.Store.change.Goals as goal

pub invariant_of-self : goal.invariant_of-self
invariant_of-self c =
    rw c.forget_read.ensures (
      c.self.invariant.0 ∙ sym c.in-Ok.ensures.server,
      matched_written c.self.inside.pages.pages c.write.new.self.pages c.args.ino c.args.page c.args.bytes.now c.self.inside.commands.commands c.in-Ok.ensures.written c.self.invariant.1,
    )
