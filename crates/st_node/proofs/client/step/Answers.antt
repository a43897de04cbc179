use Rattle.st_lemmas.proofs.Words
use Words.{subst}
use Rattle.st_node.specs.Room.{ClientHasRoom, HasRoomFor}
use Rattle.st_node.specs.Runs.{client_stepped}
use Rattle.st_node.proofs.ClientRoom.{client_now, client_stepped_room}
use Rattle.st_node.proofs.Turns.{on_ok}
use Rattle.st_node.proofs.client.step.Goals as goal

pub step-requires-clause-room : goal.step-requires-clause-room
step-requires-clause-room c = client_now 1 c.args.client.now c.requires.room

pub returns-in-Ok-clause-room : goal.returns-in-Ok-clause-room
returns-in-Ok-clause-room c = λ k r.
    on_ok c.put_outputs.result (ClientHasRoom k c.step.new.self)
    (subst (λ x. HasRoomFor k (client_stepped c.args.client.now x).node) c.in-Ok.ensures.exact
    (client_stepped_room c.client_steps_raise_little.ensures.steps k c.args.client.now c.args.now c.args.input r))
