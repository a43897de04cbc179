use Rattle.st_lemmas.proofs.Words
use Words.{subst, IsTrue, ◌↔◌}
use Words.Server.{ServerNode}
use Rattle.st_server.specs.Room.{HasRoom}
use Rattle.st_server.proofs.Counters.{room_is}
use Rattle.st_server.proofs.node.ServerNode.has_room.Goals as goal

pub returns : goal.returns
returns c =
    subst (λ (n : ServerNode). IsTrue c.has_room.result ↔ HasRoom n.state) c.self.view_is (room_is c.self.inside.machine.state c.has_room.result c.has_room.ensures)
