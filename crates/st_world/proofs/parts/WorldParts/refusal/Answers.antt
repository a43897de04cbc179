use Rattle.st_lemmas.proofs.Words
use Words.{◌≡◌, true, length, ap, sym, subst, arith}
use Words.Safety.{is_event}
use Words.World.{World}
use Rattle.st_world.proofs.Admitted.{timed_any}
use Rattle.st_world.proofs.Shaped.{laid}
use Rattle.st_world.proofs.parts.WorldParts.refusal.Goals as goal

pub refusal-requires-clause-clients : goal.refusal-requires-clause-clients
refusal-requires-clause-clients c =
    (laid c.self.inside.machine.world c.self.invariant.0.reached (omega (arith, ap (λ (w : World). w.tally.events) c.self.view_is, c.requires.room))).clients

pub refusal-requires-clause-servers : goal.refusal-requires-clause-servers
refusal-requires-clause-servers c =
    (laid c.self.inside.machine.world c.self.invariant.0.reached (omega (arith, ap (λ (w : World). w.tally.events) c.self.view_is, c.requires.room))).few

pub refusal-requires-clause-timed : goal.refusal-requires-clause-timed
refusal-requires-clause-timed c =
    timed_any c.self.inside.machine.world c.args.event.now
    (laid c.self.inside.machine.world c.self.invariant.0.reached (omega (arith, ap (λ (w : World). w.tally.events) c.self.view_is, c.requires.room)))
    (subst (λ (w : World). is_event (length w.clocks) c.args.event.now ≡ true) (sym c.self.view_is) c.requires.event)
