use Rattle.std.proofs.Common.{length}
use Rattle.st_replay.proofs.Feeding.{Going}
use Rattle.st_replay.proofs.pieces.feed.Given as goal

abbrev pub invariant-loop-at : goal.invariant-loop-at
invariant-loop-at l =
    Going l.fn.player.text.items l.fn.player.world l.fn.player.reader l.fn.player.line l.fn.held.items l.piece
    l.player.text.items l.player.world l.player.reader l.player.line l.held.items l.rest

abbrev pub decreases-loop-at : goal.decreases-loop-at
decreases-loop-at l = length l.rest
