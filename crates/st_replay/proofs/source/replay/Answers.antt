use Rattle.std.proofs.Common.{rules, ◌∙◌, [], Err, refl, take, subst}
use Rattle.std.specs.Io.KnownBytes.{Consumes, IsAtEnd}
use Rattle.st_runs.proofs.Known.{if_known}
use Rattle.st_replay.proofs.Reported.{all_completes, refused_everywhere, reported}
use Rattle.st_replay.proofs.Streams.{cut_off, cut_short, halted, nothing_begun, nothing_taken, piece_more, so_far, text_written}
use Rattle.st_replay.proofs.VolumeRuns.{known_runs_in_the_volume}
use Rattle.st_replay.proofs.source.replay.Goals as goal

-- nothing was read

pub pieces-init : goal.pieces-init
pieces-init g c = record {
  streams = nothing_begun (g.I.Source.left c.args.input.now) (g.O.Sink.written c.args.out.now) c.new-player.result.text.items
      c.new-player.result.world c.new-player.result.reader c.new-player.result.line c.new-held.result.items c.new-player.ensures.text
      c.new-player.ensures.world c.new-player.ensures.reader c.new-player.ensures.line c.new-held.ensures.items;
  empty = c.new-player.ensures.text;
  reads = refl;
  writes = refl;
}

-- a read failed

pub returns-in_default-clause-report : goal.returns-in_default-clause-report
returns-in_default-clause-report g c =
    so_far (g.I.Source.left c.args.input.now) (g.I.Source.left c.pieces.input) (g.O.Sink.written c.args.out.now)
    (g.O.Sink.written c.pieces.out) _ _ _ _ _ c.pieces.invariant.streams

pub returns-in_default-clause-read : goal.returns-in_default-clause-read
returns-in_default-clause-read g c =
    cut_off (g.I.Source.left c.args.input.now) (g.I.Source.left c.pieces.input) (g.I.Source.left c.take.new.self)
    (g.O.Sink.written c.args.out.now) (g.O.Sink.written c.pieces.out) _ _ _ _ _
    c.pieces.invariant.streams c.pieces.invariant.empty c.in_default.ensures.bytes

pub returns-in_default-clause-safe : goal.returns-in_default-clause-safe
returns-in_default-clause-safe g c = if_known (g.I.Source.left c.args.input.now) c.schedules_run_safely.ensures

pub returns-in_default-clause-volume : goal.returns-in_default-clause-volume
returns-in_default-clause-volume g c = known_runs_in_the_volume (g.I.Source.left c.args.input.now) c.schedules_run_in_the_volume.ensures

-- the source is at its end

pub returns-then-n-eq0-clause-report : goal.returns-then-n-eq0-clause-report
returns-then-n-eq0-clause-report g c =
    let none : Consumes (g.I.Source.left c.pieces.input)
    (g.I.Source.left c.take.new.self) [] = subst (λ n. Consumes (g.I.Source.left c.pieces.input)
    (g.I.Source.left c.take.new.self) (take n c.take.new.room)) c.if-n-eq0.true c.in-Ok.ensures.bytes.0 in
    let ended : IsAtEnd (g.I.Source.left c.take.new.self) = search rules in
    reported c.finish.result (g.I.Source.left c.args.input.now) (g.I.Source.left c.take.new.self)
    (g.O.Sink.written c.args.out.now) (g.O.Sink.written c.pieces.out) (g.O.Sink.written c.finish.new.out)
    c.pieces.player.text.items c.pieces.player.world c.pieces.player.reader c.pieces.player.line c.pieces.held.items
    (nothing_taken (g.I.Source.left c.args.input.now) (g.I.Source.left c.pieces.input) (g.I.Source.left c.take.new.self)
    (g.O.Sink.written c.args.out.now) (g.O.Sink.written c.pieces.out)
    c.pieces.player.text.items c.pieces.player.world c.pieces.player.reader c.pieces.player.line c.pieces.held.items c.pieces.invariant.streams none)
    ended (rw c.as_slice.ensures.value at c.finish.ensures.exact)

pub returns-then-n-eq0-clause-complete : goal.returns-then-n-eq0-clause-complete
returns-then-n-eq0-clause-complete g c =
    all_completes c.finish.result (g.I.Source.left c.args.input.now) (g.O.Sink.written c.args.out.now)
    (g.O.Sink.written c.finish.new.out) (returns-then-n-eq0-clause-report g c)

pub returns-then-n-eq0-clause-safe : goal.returns-then-n-eq0-clause-safe
returns-then-n-eq0-clause-safe g c = if_known (g.I.Source.left c.args.input.now) c.schedules_run_safely.ensures

pub returns-then-n-eq0-clause-volume : goal.returns-then-n-eq0-clause-volume
returns-then-n-eq0-clause-volume g c = known_runs_in_the_volume (g.I.Source.left c.args.input.now) c.schedules_run_in_the_volume.ensures

-- a line was refused

pub returns-in-Err-clause-report : goal.returns-in-Err-clause-report
returns-in-Err-clause-report g c =
    refused_everywhere c.refuse.result c.in-Err.stop (g.I.Source.left c.args.input.now) (g.O.Sink.written c.args.out.now)
    (g.O.Sink.written c.pieces.out) (g.O.Sink.written c.refuse.new.out) c.feed.new.player.text.items
    (halted c.in-Err.stop (g.I.Source.left c.args.input.now) (g.I.Source.left c.pieces.input)
    (g.I.Source.left c.take.new.self) (g.O.Sink.written c.args.out.now) (g.O.Sink.written c.pieces.out)
    c.pieces.player.text.items c.pieces.player.world c.pieces.player.reader c.pieces.player.line c.pieces.held.items
    (take c.in-Ok.n c.take.new.room)
    c.feed.new.player.text.items c.pieces.invariant.streams c.in-Ok.ensures.bytes.0 c.in-Err.ensures.stops)
    c.refuse.ensures.exact

pub returns-in-Err-clause-complete : goal.returns-in-Err-clause-complete
returns-in-Err-clause-complete g c =
    all_completes (Err c.refuse.result) (g.I.Source.left c.args.input.now) (g.O.Sink.written c.args.out.now) (g.O.Sink.written c.refuse.new.out)
    (returns-in-Err-clause-report g c)

pub returns-in-Err-clause-safe : goal.returns-in-Err-clause-safe
returns-in-Err-clause-safe g c = if_known (g.I.Source.left c.args.input.now) c.schedules_run_safely.ensures

pub returns-in-Err-clause-volume : goal.returns-in-Err-clause-volume
returns-in-Err-clause-volume g c = known_runs_in_the_volume (g.I.Source.left c.args.input.now) c.schedules_run_in_the_volume.ensures

-- a write failed

pub returns-in-Err-flush-clause-report : goal.returns-in-Err-flush-clause-report
returns-in-Err-flush-clause-report g c =
    cut_short (g.I.Source.left c.args.input.now) (g.I.Source.left c.take.new.self) (g.O.Sink.written c.args.out.now)
    (g.O.Sink.written c.pieces.out) (g.O.Sink.written c.flush.new.out)
    c.feed.new.player.text.items c.feed.new.player.world c.feed.new.player.reader c.feed.new.player.line c.feed.new.held.items
    (piece_more (g.I.Source.left c.args.input.now) (g.I.Source.left c.pieces.input) (g.I.Source.left c.take.new.self)
    (g.O.Sink.written c.args.out.now) (g.O.Sink.written c.pieces.out)
    c.pieces.player.text.items c.pieces.player.world c.pieces.player.reader c.pieces.player.line c.pieces.held.items (take c.in-Ok.n c.take.new.room)
    c.feed.new.player.text.items c.feed.new.player.world c.feed.new.player.reader c.feed.new.player.line c.feed.new.held.items
    c.pieces.invariant.streams c.in-Ok.ensures.bytes.0 c.in-Ok-feed.ensures.fed)
    c.in-Err-flush.ensures.failed

pub returns-in-Err-flush-clause-safe : goal.returns-in-Err-flush-clause-safe
returns-in-Err-flush-clause-safe g c = if_known (g.I.Source.left c.args.input.now) c.schedules_run_safely.ensures

pub returns-in-Err-flush-clause-volume : goal.returns-in-Err-flush-clause-volume
returns-in-Err-flush-clause-volume g c = known_runs_in_the_volume (g.I.Source.left c.args.input.now) c.schedules_run_in_the_volume.ensures

-- a piece more was played, and its text written

pub pieces-preserved : goal.pieces-preserved
pieces-preserved g c = record {
  streams = text_written (g.I.Source.left c.args.input.now) (g.I.Source.left c.take.new.self)
      (g.O.Sink.written c.args.out.now) (g.O.Sink.written c.pieces.out) (g.O.Sink.written c.flush.new.out)
      c.feed.new.player.text.items c.flush.new.text.items c.feed.new.player.world c.feed.new.player.reader c.feed.new.player.line c.feed.new.held.items
      (piece_more (g.I.Source.left c.args.input.now) (g.I.Source.left c.pieces.input) (g.I.Source.left c.take.new.self)
      (g.O.Sink.written c.args.out.now) (g.O.Sink.written c.pieces.out)
      c.pieces.player.text.items c.pieces.player.world c.pieces.player.reader c.pieces.player.line c.pieces.held.items (take c.in-Ok.n c.take.new.room)
      c.feed.new.player.text.items c.feed.new.player.world c.feed.new.player.reader c.feed.new.player.line c.feed.new.held.items
      c.pieces.invariant.streams c.in-Ok.ensures.bytes.0 c.in-Ok-feed.ensures.fed)
      c.in-Ok-flush.ensures.ok c.in-Ok-flush.ensures.empty;
  empty = c.in-Ok-flush.ensures.empty;
  reads = c.in-Ok.ensures.cause.still ∙ c.pieces.invariant.reads;
  writes = c.in-Ok-flush.ensures.cause.still ∙ c.pieces.invariant.writes;
}
