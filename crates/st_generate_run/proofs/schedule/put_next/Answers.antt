use Rattle.st_generate_run.proofs.Fronts.{on_both}
use Rattle.st_generate_run.proofs.Turning.{chosen_fits, chosen_passes, ready_next}
use Rattle.st_generate_run.proofs.schedule.put_next.Goals as goal

pub run_event-requires-clause-event : goal.run_event-requires-clause-event
run_event-requires-clause-event c = chosen_fits c.args.world.now c.args.draws.now c.choose.new.event c.choose.new.draws c.requires.ready c.in_ok-choose.ensures

pub run_event-requires-clause-admissible : goal.run_event-requires-clause-admissible
run_event-requires-clause-admissible c = chosen_passes c.args.world.now c.args.draws.now c.choose.new.event c.choose.new.draws c.requires.ready
    c.in_ok-choose.ensures

pub returns-clause-ready : goal.returns-clause-ready
returns-clause-ready c =
    on_both c.run_event.result _ _ _ (λ l k. ready_next c.args.world.now c.choose.new.event c.run_event.new.world c.requires.ready l k)
    c.run_event.ensures.leads c.run_event.ensures.clocks
