use Rattle.st_lemmas.proofs.Words
use Words.{sym, subst}
use Rattle.st_move.specs.Network.{IsReached}
use Rattle.st_move.specs.World.{MoveWorld}
use Rattle.st_move.proofs.Networks.{are_kept, reached_fresh}
use Rattle.st_move.proofs.network.MoveNetwork.new.Goals as goal

pub invariant_of-result : goal.invariant_of-result
invariant_of-result c =
    λ e. subst (λ (w : MoveWorld). IsReached (record { world = w; events = 0 })) (sym c.in_ok-parts.ensures) (reached_fresh c.args.servers c.args.containers c.requires.some c.requires.few)

pub returns-clause-reached : goal.returns-clause-reached
returns-clause-reached c =
    subst (λ (w : MoveWorld). IsReached (record { world = w; events = 0 })) (sym c.in_ok-parts.ensures) (reached_fresh c.args.servers c.args.containers c.requires.some c.requires.few)

pub returns-clause-kept : goal.returns-clause-kept
returns-clause-kept c = are_kept (record { world = c.in_ok-parts.parts; events = 0 })
