use Rattle.st_lemmas.proofs.Words
use Words.{ap, sym, subst, ◌∙◌, IsTrue, ◌↔◌, list_all}
use Words.Client.{ClientNode}
use Words.ClientState.{ClientState}
use Rattle.st_client.proofs.Crashing.{room_there}
use Rattle.st_client.proofs.Resting.{room_is}
use Rattle.st_client.specs.Nodes.{crashed_client, is_low, state_of}
use Rattle.st_client.specs.Room.{HasRoom}
use Rattle.st_client.proofs.node.ClientNode.has_room.Goals as goal

pub returns-in-None : goal.returns-in-None
returns-in-None c =
    let e = ap (λ o. state_of c.self.inside.id c.self.inside.config c.self.inside.servers.items c.self.inside.lives.items o) (sym c.in-None.is) ∙ ap (λ (n : ClientNode). n.state) c.self.view_is in
    subst (λ (s : ClientState). IsTrue c.are_low.result ↔ HasRoom s) e
    (room_is (crashed_client c.self.inside.id c.self.inside.config c.self.inside.servers.items c.self.inside.lives.items) c.are_low.result
    (c.are_low.ensures ∙ ap (list_all is_low) c.as_slice.ensures.value ∙ sym (room_there c.self.inside.id c.self.inside.config c.self.inside.servers.items c.self.inside.lives.items c.self.invariant.count)))
