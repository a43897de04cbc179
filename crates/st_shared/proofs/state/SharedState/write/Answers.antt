use Rattle.st_lemmas.proofs.Words
use Words.{sym, ◌∙◌}
use Words.commands
use Rattle.st_shared.specs.Shared.{block_of, tag_of}
use Rattle.st_shared.proofs.Refusing.{submit_refused}
use Rattle.st_shared.proofs.state.SharedState.write.Goals as goal

pub returns-in-Err : goal.returns-in-Err
returns-in-Err c =
    submit_refused c.args.self.now c.args.client c.args.page (commands.Write (block_of c.args.page) (tag_of c.args.page) c.args.bytes.now) c.in-Err.refusal (sym c.check_submit.ensures ∙ c.in-Err.is)
