-- What lives on of a client's sessions in a step, and which messages the step sends.
use Rattle.std.specs.Prelude.{◌≡◌, ◌≤◌, ◌⊎◌, List, [], ◌∷◌, Some, None}
use Rattle.st_base.specs.declared.ids.ClientId.{ClientId}
use Rattle.st_base.specs.declared.ids.Stamp.{Stamp}
use Rattle.st_messages.specs.declared.message.Body.TheVariants as bodies
use Rattle.st_messages.specs.declared.message.Message.{Message}
use Rattle.st_messages.specs.declared.output.Note.TheVariants as notes
use Rattle.st_messages.specs.declared.output.Output.TheVariants as outputs
use Rattle.st_rules.specs.declared.client.ClientInput.TheVariants as inputs
use Rattle.st_rules.specs.ClientState.{Association, ClientSession}
use Rattle.st_rules.specs.Keys.{server_node}
use Rattle.st_lemmas.specs.Lists.{Has}
use Rattle.st_laws_steps.specs.Client.Losses.{Fit}
use Rattle.st_laws_steps.specs.Lives.Lives.{Pairwise}
use Rattle.st_third.specs.declared.event.ThirdInput.{ThirdInput}
use Rattle.st_third.specs.declared.event.ThirdInput.TheVariants as takes
use Rattle.st_third.specs.declared.limits.Limits.{Limits}
use Rattle.st_third.specs.declared.output.ThirdOutput.{ThirdOutput}
use Rattle.st_third.specs.declared.output.ThirdOutput.TheVariants as says
use Rattle.st_third.specs.Client.{client_step}
use Rattle.st_third.specs.State.{ThirdClient}
use Rattle.st_laws_third.specs.Changes.{GoesOnBy, Heard, HeardLeave, HeardMessage}
use Rattle.st_laws_third.specs.Pairs.{IsPaired}

-- there is a session
abbrev pub HasSession : Association → Type 0
HasSession a = (s : ClientSession) × (a.session ≡ Some s)

-- An association lives on if its life stays: a session goes on, and what is new about the session was heard.
pub record LivesOn (got : Heard) (a b : Association) : Type 0 where
  pub server : b.server ≡ a.server
  pub life : a.life.0 ≤ b.life.0
  pub stays : b.life.0 ≡ a.life.0 → HasSession a → HasSession b
  pub heard : b.life.0 ≡ a.life.0 → (u : ClientSession) → b.session ≡ Some u → GoesOnBy got a a.session u

-- A message of a client at an association, before and after the step: it goes to the server, in a life from the one before to the
-- one after. In the life after, all but a greeting has a session.
pub record IsOf (id : ClientId) (a b : Association) (m : Message) : Type 0 where
  pub from : m.header.from ≡ id.0
  pub to : m.header.to ≡ server_node b.server
  pub since : a.life.0 ≤ m.header.life
  pub life : m.header.life ≤ b.life.0
  pub asks : m.header.life ≡ b.life.0 → (m.body ≡ bodies.Hello) ⊎ HasSession b

-- so it is at one of these associations
abbrev pub IsOfOne : ClientId → List Association → List Association → Message → Type 0
IsOfOne id [] bs m = ⊥
IsOfOne id (a ∷ as_) [] m = ⊥
IsOfOne id (a ∷ as_) (b ∷ bs) m = (IsOf id a b m) ⊎ (IsOfOne id as_ bs m)

-- The end of an association's life is told: its lease is lost, or its client left.
abbrev pub EndIsTold : Association → List ThirdOutput → Type 0
EndIsTold a os = Has (says.Plain (outputs.Note (notes.Lost a.server a.life))) os ⊎ ((end : Stamp) × Has (says.Ended a.server a.life end) os)

-- a life goes on, unless its end is told
abbrev pub LastsUnlessTold : List ThirdOutput → Association → Association → Type 0
LastsUnlessTold os a b = (b.life ≡ a.life) ⊎ (EndIsTold a os)

-- a client after a step, and what it said
pub record ClientLivesOn (got : Heard) (c d : ThirdClient) (out : List ThirdOutput) : Type 0 where
  pub id : d.plain.id ≡ c.plain.id
  pub associations : Pairwise (LivesOn got) c.plain.associations d.plain.associations
  pub sent : (m : Message) → Has (says.Plain (outputs.Send m)) out → IsOfOne d.plain.id c.plain.associations d.plain.associations m
  pub lasts : Pairwise (LastsUnlessTold out) c.plain.associations d.plain.associations

-- what is heard with an input
abbrev pub heard_in : ThirdInput → Heard
heard_in (takes.Plain (inputs.Control m)) = Some (HeardMessage m)
heard_in (takes.Leave op s) = Some (HeardLeave (record { op = op; server = s }))
heard_in input = None

-- So it is in each step of a client.
abbrev pub ClientsLiveOn : Type 0
ClientsLiveOn =
    (m : Limits) (c : ThirdClient) (now : Stamp) (input : ThirdInput) → IsPaired c → ((a : Association) → Has a c.plain.associations → Fit a) →
    ClientLivesOn (heard_in input) c (client_step m c now input).client (client_step m c now input).out
