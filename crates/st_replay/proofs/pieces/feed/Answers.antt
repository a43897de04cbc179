use Rattle.std.proofs.Common.{◌+◌, drop, refl}
use Rattle.st_replay.proofs.Newlines.{split_there, none_there}
use Rattle.st_replay.proofs.Feeding.{one_played, stop_played, held_stops}
use Rattle.st_replay.proofs.pieces.feed.Goals as goal

pub loop-at-preserved : goal.loop-at-preserved
loop-at-preserved c =
    one_played _ _ _ _ _ _ c.loop-at.player.text.items c.loop-at.player.world c.loop-at.player.reader c.loop-at.player.line c.loop-at.held.items
    c.loop-at.rest.now
    c.play_whole.new.player.text.items c.play_whole.new.player.world c.play_whole.new.player.reader c.play_whole.new.player.line
    c.before-in-Some.result.now c.after-rest.result.now c.play_whole.new.held.items
    c.loop-at.invariant
    (split_there c.loop-at.rest.now c.before-in-Some.result.now c.after-rest.result.now c.in-Some.at c.in-Some.ensures c.before-in-Some.ensures
    c.after-rest.ensures.exact)
    (none_there c.loop-at.rest.now c.before-in-Some.result.now c.in-Some.at c.in-Some.ensures c.before-in-Some.ensures)
    c.in-Ok.ensures.goes c.in-Ok.ensures.number c.in-Ok.ensures.here c.in-Ok.ensures.room c.in-Ok.ensures.empty

pub returns-in-Err-clause-stops : goal.returns-in-Err-clause-stops
returns-in-Err-clause-stops c =
    stop_played c.in-Err.stop _ _ _ _ _ _ c.loop-at.player.text.items c.loop-at.player.world c.loop-at.player.reader c.loop-at.player.line
    c.loop-at.held.items c.loop-at.rest.now
    c.play_whole.new.player.text.items c.before-in-Some.result.now (drop (c.in-Some.at + 1) c.loop-at.rest.now) c.loop-at.invariant
    (split_there c.loop-at.rest.now c.before-in-Some.result.now (drop
    (c.in-Some.at + 1) c.loop-at.rest.now) c.in-Some.at c.in-Some.ensures c.before-in-Some.ensures refl)
    (none_there c.loop-at.rest.now c.before-in-Some.result.now c.in-Some.at c.in-Some.ensures c.before-in-Some.ensures)
    c.in-Err.ensures.stops

pub returns-clause-stops : goal.returns-clause-stops
returns-clause-stops c =
    held_stops c.hold.result _ _ _ _ _ _ c.loop-at.player.text.items c.loop-at.player.world c.loop-at.player.reader c.loop-at.player.line
    c.loop-at.held.items c.loop-at.rest.now
    c.loop-at.invariant c.in_default.ensures c.hold.ensures.stops
