-- The association at which a client's message was sent.
use Rattle.st_lemmas.proofs.Words
use Words.{◌≡◌, ◌≤◌, List, [], ◌∷◌, refl, inl, inr, ClientId, Message}
use Words.ClientState.{Association}
use Words.Keys.{server_node}
use Words.Lists.{Has}
use Rattle.st_laws_third.specs.Living.{IsOfOne}

-- The message is from the client to this association's server, in a life up to the association's.
pub record IsSigned (id : ClientId) (b : Association) (m : Message) : Type 0 where
  pub from : m.header.from ≡ id.0
  pub to : m.header.to ≡ server_node b.server
  pub life : m.header.life ≤ b.life.0

-- it is at one of the associations after the step
pub signed : (id : ClientId) (as_ bs : List Association) (m : Message) → IsOfOne id as_ bs m → (b : Association) × (Has b bs × IsSigned id b m)
signed id [] bs m z = absurd z
signed id (a ∷ as_) [] m z = absurd z
signed id (a ∷ as_) (b ∷ bs) m (inl i) = (b, (inl refl, record { from = i.from; to = i.to; life = i.life }))
signed id (a ∷ as_) (b ∷ bs) m (inr z) = let x = signed id as_ bs m z in (x.0, (inr x.1.0, x.1.1))
