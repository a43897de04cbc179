use Rattle.st_lemmas.proofs.Words
use Words.{ap, sym, ◌∙◌}
use Rattle.st_move.specs.Network.{turned}
use Rattle.st_move.proofs.Networks.{each_ok, numbered_at, take_nowhere}
use Rattle.st_move.proofs.parts.MoveWorld.take.Goals as goal

pub take_at-requires-clause-known : goal.take_at-requires-clause-known
take_at-requires-clause-known c = λ x e. c.requires.known c.args.message.now.to.0 x (numbered_at c.args.self.now.sites c.args.message.now.to.0 c.in-Some.at x c.in-Some.ensures.0 e)

pub returns-in-None : goal.returns-in-None
returns-in-None c = each_ok _ _ c.one.result (λ v e. take_nowhere c.args.self.now c.args.message.now c.in-None.ensures ∙ ap (turned c.args.self.now) (sym e)) c.one.ensures
