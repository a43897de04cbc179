use Rattle.st_lemmas.proofs.Words
use Words.{◌≡◌, List, refl, ap, sym, ◌∙◌, Option, Some, None, Config, ClientId, Life, ServerId}
use Words.Client.{ClientNode}
use Words.ClientState.{ClientState}
use Rattle.st_client.specs.Nodes.{RunsAs, state_of}
use Rattle.st_client.proofs.node.ClientNode.id.Goals as goal

id_is : (id : ClientId) (config : Config) (servers : List ServerId) (lives : List Life) (o : Option ClientState) → RunsAs id config servers lives o → (state_of id config servers lives o).id ≡ id
id_is id config servers lives None r = refl
id_is id config servers lives (Some c) r = r.id

pub returns : goal.returns
returns c =
    sym (id_is c.self.inside.id c.self.inside.config c.self.inside.servers.items c.self.inside.lives.items c.self.inside.state c.self.invariant.runs)
    ∙ ap (λ (n : ClientNode). n.state.id) c.self.view_is
