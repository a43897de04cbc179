use Rattle.st_schedule.specs.declared.reader.Line.TheVariants as said
use Rattle.st_replay.proofs.First.{made_goes, made_playing, made_room, no_stop, stop_first, read_first}
use Rattle.st_replay.proofs.play.play_head.Goals as goal

pub returns-in-Ok-Head-clause-goes : goal.returns-in-Ok-Head-clause-goes
returns-in-Ok-Head-clause-goes c =
    made_goes c.open.result c.args.text.now.items c.open.new.text.items c.args.bytes.now c.in-Ok-Head.config c.in-Ok-Head.counts c.in-Ok-Head.form
    c.read.new.reader
    (read_first c.args.reader.now c.args.bytes.now
    (said.Head c.in-Ok-Head.config c.in-Ok-Head.counts c.in-Ok-Head.form, c.read.new.reader) c.requires.first
    (rw c.in-Ok-Head.field-0-is at c.in-Ok-Head.ensures.exact))
    c.open.ensures.world c.open.ensures.opening

pub returns-in-Ok-Head-clause-stops : goal.returns-in-Ok-Head-clause-stops
returns-in-Ok-Head-clause-stops c = no_stop c.open.result _ c.open.ensures.unread

pub returns-in-Ok-Head-clause-playing : goal.returns-in-Ok-Head-clause-playing
returns-in-Ok-Head-clause-playing c =
    made_playing c.open.result c.args.bytes.now c.in-Ok-Head.config c.in-Ok-Head.counts c.in-Ok-Head.form c.read.new.reader
    (read_first c.args.reader.now c.args.bytes.now
    (said.Head c.in-Ok-Head.config c.in-Ok-Head.counts c.in-Ok-Head.form, c.read.new.reader) c.requires.first
    (rw c.in-Ok-Head.field-0-is at c.in-Ok-Head.ensures.exact))
    c.open.ensures.world

pub returns-in-Ok-Head-clause-room : goal.returns-in-Ok-Head-clause-room
returns-in-Ok-Head-clause-room c =
    made_room c.open.result c.args.bytes.now c.in-Ok-Head.config c.in-Ok-Head.counts c.in-Ok-Head.form c.read.new.reader
    (read_first c.args.reader.now c.args.bytes.now
    (said.Head c.in-Ok-Head.config c.in-Ok-Head.counts c.in-Ok-Head.form, c.read.new.reader) c.requires.first
    (rw c.in-Ok-Head.field-0-is at c.in-Ok-Head.ensures.exact))

pub returns-clause-stops : goal.returns-clause-stops
returns-clause-stops c = stop_first c.in-Err.stop c.args.text.now.items c.args.reader.now c.args.bytes.now c.requires.first c.in-Err.ensures.stops
