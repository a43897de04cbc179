use Rattle.st_lemmas.proofs.Words
use Words.{sym, subst}
use Rattle.st_node.specs.Room.{ClientHasRoom}
use Rattle.st_node.specs.Runs.{MOST}
use Rattle.st_node.proofs.ClientRoom.{fresh_client_room}
use Rattle.st_node.proofs.node.Node.client.Goals as goal

pub returns-clause-room : goal.returns-clause-room
returns-clause-room c =
    subst (ClientHasRoom MOST) (sym c.in_ok-client.ensures)
    (fresh_client_room c.client_steps_raise_little.ensures.fresh c.args.id c.args.config.now c.args.servers c.requires.servers)
