use Rattle.st_lemmas.proofs.Words
use Words.{ap, sym, ◌∙◌, Ok}
use Rattle.st_move.specs.Network.{Refuses}
use Rattle.st_move.proofs.Networks.{each_ok, list_err, list_ok}
use Rattle.st_move.proofs.site.MoveSite.list.Goals as goal

pub returns-in_ok-copy-in-Ok : goal.returns-in_ok-copy-in-Ok
returns-in_ok-copy-in-Ok c = list_ok c.args.self.now c.args.c c.in_ok-copy-in-Ok.field-0 (c.in-Ok.ensures.ok ∙ ap Ok (sym c.in_ok-copy-in-Ok.ensures))

pub returns-in-Err : goal.returns-in-Err
returns-in-Err c = each_ok (Refuses c.in-Err.refusal) _ c.refused.result (λ a r. list_err c.args.self.now c.args.c c.in-Err.refusal a c.in-Err.ensures.err r) c.refused.ensures
