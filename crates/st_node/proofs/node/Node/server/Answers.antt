use Rattle.st_lemmas.proofs.Words
use Words.{sym, subst}
use Rattle.st_node.specs.Room.{ServerHasRoom}
use Rattle.st_node.specs.Runs.{MOST}
use Rattle.st_node.proofs.Room.{fresh_room}
use Rattle.st_node.proofs.node.Node.server.Goals as goal

pub returns-clause-room : goal.returns-clause-room
returns-clause-room c =
    subst (ServerHasRoom MOST) (sym c.in_ok-server.ensures) (fresh_room c.args.id c.args.config.now c.args.servers c.args.disks c.args.blocks)
