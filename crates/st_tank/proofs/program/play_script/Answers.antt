use Rattle.st_script.specs.Scripts.{script_of}
use Rattle.st_script_containers.specs.MoveScripts as moves
use Rattle.st_script_containers.specs.SnapScripts as snaps
use Rattle.st_script_shared.specs.SharedScripts as shares
use Rattle.st_tank.specs.Scripts.{played}
use Rattle.st_tank.specs.Uses.{stream_use}
use Rattle.st_tank.proofs.Played.{is_played}
use Rattle.st_tank.proofs.program.play_script.Goals as goal

pub returns-in-Move : goal.returns-in-Move
unfolding played
returns-in-Move g c =
    rw c.in-Move.is
    (is_played _ c.move_containers.result c.status_of_script.result (stream_use g.I.Source.left g.I.Source.faults c.args.input.now c.move_containers.new.input)
    (stream_use g.O.Sink.written g.O.Sink.faults c.args.out.now c.move_containers.new.out) (λ bytes. script_of moves.head moves.move_rules bytes)
    c.status_of_script.ensures c.move_containers.ensures.report c.move_containers.ensures.through c.move_containers.ensures.causes)

pub returns-in-Snap : goal.returns-in-Snap
unfolding played
returns-in-Snap g c =
    rw c.in-Snap.is
    (is_played _ c.snap.result c.status_of_script-in-Snap.result (stream_use g.I.Source.left g.I.Source.faults c.args.input.now c.snap.new.input)
    (stream_use g.O.Sink.written g.O.Sink.faults c.args.out.now c.snap.new.out) (λ bytes. script_of snaps.head snaps.snap_rules bytes)
    c.status_of_script-in-Snap.ensures c.snap.ensures.report c.snap.ensures.through c.snap.ensures.causes)

pub returns-in-Shared : goal.returns-in-Shared
unfolding played
returns-in-Shared g c =
    rw c.in-Shared.is
    (is_played _ c.shared.result c.status_of_script-in-Shared.result (stream_use g.I.Source.left g.I.Source.faults c.args.input.now c.shared.new.input)
    (stream_use g.O.Sink.written g.O.Sink.faults c.args.out.now c.shared.new.out) (λ bytes. script_of shares.head shares.shared_rules bytes)
    c.status_of_script-in-Shared.ensures c.shared.ensures.report c.shared.ensures.through c.shared.ensures.causes)
