use Rattle.st_lemmas.proofs.Words
use Words.{◌≡◌, ◌+◌, true, length, ap, sym, subst, ◌∙◌, arith}
use Words.Safety.{is_event}
use Words.World.{World}
use Rattle.st_world.specs.Counters.{CountersHaveRoom}
use Rattle.st_world.proofs.Goes.{quiet_after}
use Rattle.st_world.proofs.Shaped.{laid}
use Rattle.st_world.proofs.Stepped.{stepped}
use Rattle.st_world.proofs.parts.WorldParts.run.Goals as goal

pub step_admitted-requires-clause-laid : goal.step_admitted-requires-clause-laid
step_admitted-requires-clause-laid c =
    laid c.self.inside.machine.world c.self.invariant.0.reached (omega (arith, ap (λ (w : World). w.tally.events) c.self.view_is, c.requires.room))

pub step_admitted-requires-clause-counters : goal.step_admitted-requires-clause-counters
step_admitted-requires-clause-counters c = subst CountersHaveRoom (sym c.self.view_is) c.requires.counters

pub invariant_of-self : goal.invariant_of-self
invariant_of-self c = (
  quiet_after c.runs_go_on_in_parts.ensures c.self.inside.machine c.step_admitted.new.machine c.args.event.now c.in-Ok.seen.items c.self.invariant.0
      (subst (λ (w : World). is_event (length w.clocks) c.args.event.now ≡ true) (sym c.self.view_is) c.requires.event)
      c.in-Ok.ensures.machine c.in-Ok.ensures.ends,
  c.self.invariant.1,
)

pub returns-in-Ok-clause-events : goal.returns-in-Ok-clause-events
returns-in-Ok-clause-events c =
    let w = c.self.inside.machine.world in
    let l = laid w c.self.invariant.0.reached (omega (arith, ap (λ (w : World). w.tally.events) c.self.view_is, c.requires.room)) in
    let i = subst (λ (w : World). is_event (length w.clocks) c.args.event.now ≡ true) (sym c.self.view_is) c.requires.event in
    (stepped w c.step_admitted.new.machine.world c.args.event.now c.in-Ok.seen.items l i c.in-Ok.ensures.machine).events ∙ ap (λ (w : World). w.tally.events + 1) c.self.view_is

pub returns-in-Ok-clause-clocks : goal.returns-in-Ok-clause-clocks
returns-in-Ok-clause-clocks c =
    let w = c.self.inside.machine.world in
    let l = laid w c.self.invariant.0.reached (omega (arith, ap (λ (w : World). w.tally.events) c.self.view_is, c.requires.room)) in
    let i = subst (λ (w : World). is_event (length w.clocks) c.args.event.now ≡ true) (sym c.self.view_is) c.requires.event in
    (stepped w c.step_admitted.new.machine.world c.args.event.now c.in-Ok.seen.items l i c.in-Ok.ensures.machine).clocks ∙ ap (λ (w : World). length w.clocks) c.self.view_is
