use Rattle.st_lemmas.proofs.Words
use Words.{ap, sym, ◌∙◌}
use Rattle.st_move.specs.Network.{turned}
use Rattle.st_move.proofs.Networks.{each_ok, tick_nowhere}
use Rattle.st_move.proofs.parts.MoveWorld.tick.Goals as goal

pub returns-in-None : goal.returns-in-None
returns-in-None c = each_ok _ _ c.one.result (λ v e. tick_nowhere c.args.self.now c.args.s c.in-None.ensures ∙ ap (turned c.args.self.now) (sym e)) c.one.ensures
