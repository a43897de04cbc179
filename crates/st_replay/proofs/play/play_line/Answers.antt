use Rattle.st_schedule.specs.declared.reader.Line.TheVariants as said
use Rattle.st_replay.proofs.Room.{takes}
use Rattle.st_replay.proofs.Steps.{event_fits, has_nodes, ran, on_ok, end_read, stop_line}
use Rattle.st_replay.proofs.play.play_line.Goals as goal

pub play_event-requires-clause-event : goal.play_event-requires-clause-event
play_event-requires-clause-event c =
    event_fits c.args.world.now c.args.reader.now c.args.line c.args.bytes.now c.in-Ok-Event.event c.requires.playing
    (rw c.in-Ok-Event.field-0-is at c.in-Ok-Event.ensures.spelled (has_nodes c.args.world.now c.args.reader.now c.args.line c.requires.playing))

pub returns-in-Ok-Event-clause-playing : goal.returns-in-Ok-Event-clause-playing
returns-in-Ok-Event-clause-playing c =
    ran c.play_event.result c.args.world.now c.play_event.new.world c.args.reader.now c.read.new.reader c.args.line c.args.bytes.now c.in-Ok-Event.event
    c.requires.playing
    (rw c.in-Ok-Event.field-0-is at c.in-Ok-Event.ensures.exact) c.play_event.ensures.events c.play_event.ensures.clocks

pub returns-in-Ok-Event-clause-room : goal.returns-in-Ok-Event-clause-room
returns-in-Ok-Event-clause-room c =
    on_ok c.play_event.result _ (takes c.args.reader.now c.args.bytes.now (said.Event c.in-Ok-Event.event, c.read.new.reader)
    (rw c.in-Ok-Event.field-0-is at c.in-Ok-Event.ensures.exact))

pub returns-in-Ok-End-clause-playing : goal.returns-in-Ok-End-clause-playing
returns-in-Ok-End-clause-playing c =
    end_read c.args.world.now c.args.reader.now c.read.new.reader c.args.line c.args.bytes.now c.requires.playing
    (rw c.in-Ok-End.field-0-is at c.in-Ok-End.ensures.exact)

pub returns-in-Ok-End-clause-room : goal.returns-in-Ok-End-clause-room
returns-in-Ok-End-clause-room c =
    takes c.args.reader.now c.args.bytes.now (said.End, c.read.new.reader) (rw c.in-Ok-End.field-0-is at c.in-Ok-End.ensures.exact)

pub returns-in-Err-clause-stops : goal.returns-in-Err-clause-stops
returns-in-Err-clause-stops c = stop_line c.in-Err.stop c.args.text.now.items c.args.line c.args.world.now c.args.reader.now c.args.bytes.now
    c.in-Err.ensures.stops
