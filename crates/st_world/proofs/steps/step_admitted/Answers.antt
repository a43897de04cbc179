use Rattle.st_lemmas.proofs.Words
use Words.{subst, sym}
use Words.Events.{WorldTurn}
use Rattle.st_world_events.specs.Readiness.{IsMet, IsReady}
use Rattle.st_world.proofs.Admitted.{met, ready}
use Rattle.st_world.proofs.steps.step_admitted.Goals as goal

pub happen-happened-requires-clause-ready : goal.happen-happened-requires-clause-ready
happen-happened-requires-clause-ready c =
    subst (λ (s : WorldTurn). IsReady s.world) (sym c.count_event.ensures) (ready c.args.machine.now.world c.requires.laid c.requires.counters)

pub happen-happened-requires-clause-met : goal.happen-happened-requires-clause-met
happen-happened-requires-clause-met c =
    subst (λ (s : WorldTurn). IsMet s.world c.args.event.now) (sym c.count_event.ensures)
    (met c.args.machine.now.world c.args.event.now c.requires.laid c.requires.event c.requires.admitted)
