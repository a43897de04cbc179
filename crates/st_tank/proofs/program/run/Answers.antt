use Rattle.std.proofs.Common.{◌∙◌, refl, subst}
use Rattle.st_replay.proofs.VolumeRuns.{known_runs_in_the_volume}
use Rattle.st_runs.proofs.Known.{if_known}
use Rattle.st_tank.specs.Jobs.{Does}
use Rattle.st_tank.specs.Uses.{clock_use, link_use, stream_use}
use Rattle.st_tank.specs.Words.{name_of}
use Rattle.st_tank.proofs.Made.{made}
use Rattle.st_tank.proofs.Statuses.{replayed}
use Rattle.st_tank.proofs.program.run.Goals as goal

pub returns-in-Some-Replay-clause-does : goal.returns-in-Some-Replay-clause-does
returns-in-Some-Replay-clause-does g c =
    let input = stream_use g.I.Source.left g.I.Source.faults c.args.input.now c.replay-ended.new.input in
    let out = stream_use g.O.Sink.written g.O.Sink.faults c.args.out.now c.replay-ended.new.out in
    let err = stream_use g.E.Sink.written g.E.Sink.faults c.args.err.now c.explained.new.err in
    let link = link_use g.L.Source.left g.L.Sink.written g.L.Link.attached g.L.Source.faults c.args.link.now c.args.link.now in
    let clock = clock_use g.C.Clock.readings c.args.clock.now c.args.clock.now in
    subst (λ job. Does job (name_of c.args.words.now) c.explained.result input out err link clock)
    (rw c.in-Some-Replay.field-0-is at c.in-Some-Replay.ensures.exact) (
      replayed c.replay-ended.result c.explained.result input out (c.explained.ensures.same ∙ c.status_of_replay.ensures)
          c.replay-ended.ensures.report c.replay-ended.ensures.through c.replay-ended.ensures.read c.replay-ended.ensures.causes,
      c.explained.ensures.explained,
      (refl, refl),
    )

pub returns-in-Some-Generate-clause-does : goal.returns-in-Some-Generate-clause-does
returns-in-Some-Generate-clause-does g c =
    let input = stream_use g.I.Source.left g.I.Source.faults c.args.input.now c.args.input.now in
    let out = stream_use g.O.Sink.written g.O.Sink.faults c.args.out.now c.generate.new.out in
    let err = stream_use g.E.Sink.written g.E.Sink.faults c.args.err.now c.explained-in-Some-Generate.new.err in
    let link = link_use g.L.Source.left g.L.Sink.written g.L.Link.attached g.L.Source.faults c.args.link.now c.args.link.now in
    let clock = clock_use g.C.Clock.readings c.args.clock.now c.args.clock.now in
    subst (λ job. Does job (name_of c.args.words.now) c.explained-in-Some-Generate.result input out err link clock)
    (rw c.in-Some-Generate.field-0-is at c.in-Some-Generate.ensures.exact) (
      made c.generate.result c.explained-in-Some-Generate.result input out _ (c.explained-in-Some-Generate.ensures.same ∙ c.status_of_made.ensures)
          c.generate.ensures.text c.generate.ensures.front c.generate.ensures.causes refl,
      c.explained-in-Some-Generate.ensures.explained,
      (refl, refl),
    )

pub returns-in-Some-Work-clause-does : goal.returns-in-Some-Work-clause-does
returns-in-Some-Work-clause-does g c =
    let input = stream_use g.I.Source.left g.I.Source.faults c.args.input.now c.args.input.now in
    let out = stream_use g.O.Sink.written g.O.Sink.faults c.args.out.now c.put_work.new.out in
    let err = stream_use g.E.Sink.written g.E.Sink.faults c.args.err.now c.explained-in-Some-Work.new.err in
    let link = link_use g.L.Source.left g.L.Sink.written g.L.Link.attached g.L.Source.faults c.args.link.now c.args.link.now in
    let clock = clock_use g.C.Clock.readings c.args.clock.now c.args.clock.now in
    subst (λ job. Does job (name_of c.args.words.now) c.explained-in-Some-Work.result input out err link clock)
    (rw c.in-Some-Work.field-0-is at c.in-Some-Work.ensures.exact) (
      made c.put_work.result c.explained-in-Some-Work.result input out _ (c.explained-in-Some-Work.ensures.same ∙ c.status_of_made-in-Some-Work.ensures)
          c.put_work.ensures.text c.put_work.ensures.front c.put_work.ensures.causes refl,
      c.explained-in-Some-Work.ensures.explained,
      (refl, refl),
    )

pub returns-in-None-clause-safe : goal.returns-in-None-clause-safe
returns-in-None-clause-safe g c = if_known (g.I.Source.left c.args.input.now) c.schedules_run_safely.ensures

pub returns-in-None-clause-volume : goal.returns-in-None-clause-volume
returns-in-None-clause-volume g c = known_runs_in_the_volume (g.I.Source.left c.args.input.now) c.schedules_run_in_the_volume.ensures

pub returns-in-Some-Replay-clause-safe : goal.returns-in-Some-Replay-clause-safe
returns-in-Some-Replay-clause-safe g c = if_known (g.I.Source.left c.args.input.now) c.schedules_run_safely.ensures

pub returns-in-Some-Replay-clause-volume : goal.returns-in-Some-Replay-clause-volume
returns-in-Some-Replay-clause-volume g c = known_runs_in_the_volume (g.I.Source.left c.args.input.now) c.schedules_run_in_the_volume.ensures

pub returns-in-Some-Script-clause-safe : goal.returns-in-Some-Script-clause-safe
returns-in-Some-Script-clause-safe g c = if_known (g.I.Source.left c.args.input.now) c.schedules_run_safely.ensures

pub returns-in-Some-Script-clause-volume : goal.returns-in-Some-Script-clause-volume
returns-in-Some-Script-clause-volume g c = known_runs_in_the_volume (g.I.Source.left c.args.input.now) c.schedules_run_in_the_volume.ensures

pub returns-in-Some-Generate-clause-safe : goal.returns-in-Some-Generate-clause-safe
returns-in-Some-Generate-clause-safe g c = if_known (g.I.Source.left c.args.input.now) c.schedules_run_safely.ensures

pub returns-in-Some-Generate-clause-volume : goal.returns-in-Some-Generate-clause-volume
returns-in-Some-Generate-clause-volume g c = known_runs_in_the_volume (g.I.Source.left c.args.input.now) c.schedules_run_in_the_volume.ensures

pub returns-in-Some-Work-clause-safe : goal.returns-in-Some-Work-clause-safe
returns-in-Some-Work-clause-safe g c = if_known (g.I.Source.left c.args.input.now) c.schedules_run_safely.ensures

pub returns-in-Some-Work-clause-volume : goal.returns-in-Some-Work-clause-volume
returns-in-Some-Work-clause-volume g c = known_runs_in_the_volume (g.I.Source.left c.args.input.now) c.schedules_run_in_the_volume.ensures

pub returns-in-Some-Node-clause-safe : goal.returns-in-Some-Node-clause-safe
returns-in-Some-Node-clause-safe g c = if_known (g.I.Source.left c.args.input.now) c.schedules_run_safely.ensures

pub returns-in-Some-Node-clause-volume : goal.returns-in-Some-Node-clause-volume
returns-in-Some-Node-clause-volume g c = known_runs_in_the_volume (g.I.Source.left c.args.input.now) c.schedules_run_in_the_volume.ensures
