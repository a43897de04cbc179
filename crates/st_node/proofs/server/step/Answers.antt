use Rattle.st_lemmas.proofs.Words
use Words.{subst}
use Rattle.st_node.specs.Room.{HasRoomFor, ServerHasRoom}
use Rattle.st_node.specs.Runs.{server_stepped}
use Rattle.st_node.proofs.Room.{room_stepped}
use Rattle.st_node.proofs.Turns.{on_ok}
use Rattle.st_node.proofs.server.step.Goals as goal

pub returns-in-Ok-clause-room : goal.returns-in-Ok-clause-room
returns-in-Ok-clause-room c = λ k r.
    on_ok c.put_outputs.result (ServerHasRoom k c.step.new.self)
    (subst (λ x. HasRoomFor k (server_stepped c.args.server.now x).node) c.in-Ok.ensures.exact
    (room_stepped k c.args.server.now c.args.now c.args.input c.running-running.ensures.sound c.requires.time c.requires.fits r))
