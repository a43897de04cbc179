-- A client's step in the world: what its outputs add, and what it leaves of its own association and of all others.
use Rattle.std.specs.Prelude.{◌≡◌, ◌≢◌, ℕ, ◌≤◌, false, List, [], ◌∷◌, ◌++◌, Ok}
use Rattle.st_base.specs.declared.ids.ClientId.{ClientId}
use Rattle.st_base.specs.declared.ids.ServerId.{ServerId}
use Rattle.st_base.specs.declared.ids.Life.{Life}
use Rattle.st_messages.specs.declared.output.Note.{Note}
use Rattle.st_messages.specs.declared.output.Note.TheVariants as notes
use Rattle.st_messages.specs.declared.output.Output.{Output}
use Rattle.st_messages.specs.declared.output.Output.TheVariants as outputs
use Rattle.st_rules.specs.declared.log.LogEntry.{LogEntry}
use Rattle.st_rules.specs.declared.world.SentMessage.{SentMessage}
use Rattle.st_rules.specs.FlatLog as log
use Rattle.st_base.specs.declared.ids.NodeId.TheVariants as nodes
use Rattle.st_rules.specs.declared.client.ClientInput.{ClientInput}
use Rattle.st_rules.specs.declared.world.LeaseLife.{LeaseLife}
use Rattle.st_rules.specs.Client as cl
use Rattle.st_rules.specs.ClientState.{Association, ClientState, ClientTurn}
use Rattle.st_rules.specs.World.{World, WorldClient, clock_of, site_of, with_numbered}
use Rattle.st_rules.specs.Events as ev
use Rattle.st_rules.specs.Events.{present_life}
use Rattle.st_protocol.specs.Assoc.{Config, Msg, Moves}
use Rattle.st_laws_refine.specs.Views.Halves.{client_of}
use Rattle.st_laws_refine.specs.Client.Invariants.{Beside, Kept, Lasts, Said}
use Rattle.st_laws_refine.specs.Client.Law.{Comes, LifeEnds, Place}

-- the log after an output of a client: an accepted write or patch joins it, under the client's life at the file's server
abbrev pub logged_note : ClientId → (ServerId → Life) → Note → List LogEntry → List LogEntry
logged_note c lives (notes.Accepted f p bytes) es = log.accept es c (lives f.server) f p bytes
logged_note c lives (notes.Patched f p at bytes) es = log.patch es c (lives f.server) f p at bytes
logged_note c lives n es = es

-- the log after one output
abbrev pub logged_one : ClientId → (ServerId → Life) → Output → List LogEntry → List LogEntry
logged_one c lives (outputs.Note n) es = logged_note c lives n es
logged_one c lives o es = es

-- the log after outputs
abbrev pub logged : ClientId → (ServerId → Life) → List Output → List LogEntry → List LogEntry
logged c lives [] es = es
logged c lives (o ∷ os) es = logged c lives os (logged_one c lives o es)

-- the messages of outputs
abbrev pub sent : List Output → List SentMessage
sent [] = []
sent (outputs.Send m ∷ os) = record { message = m; lost = false } ∷ sent os
sent (outputs.Submit c a w ∷ os) = sent os
sent (outputs.Answer o a ∷ os) = sent os
sent (outputs.Note n ∷ os) = sent os

-- what a client says leaves the nodes, and adds its messages and its changes
pub record Told (c : ClientId) (os : List Output) (v w : World) : Type 0 where
  pub clients : w.clients ≡ v.clients
  pub servers : w.servers ≡ v.servers
  pub clocks : w.clocks ≡ v.clocks
  pub messages : w.net.messages ≡ v.net.messages ++ sent os
  pub log : w.log ≡ logged c (present_life v c) os v.log

-- the lives that a note says to be lost, with the lease ends that they had
abbrev pub lost_life : ClientId → ClientState → Note → List LeaseLife
lost_life c before (notes.Lost s life) = ev.life_over c s life (cl.lease_end_with before s) ∷ []
lost_life c before n = []

-- the lives that outputs say to be lost
abbrev pub lost_lives : ClientId → ClientState → List Output → List LeaseLife
lost_lives c before [] = []
lost_lives c before (outputs.Send m ∷ os) = lost_lives c before os
lost_lives c before (outputs.Submit n a w ∷ os) = lost_lives c before os
lost_lives c before (outputs.Answer o a ∷ os) = lost_lives c before os
lost_lives c before (outputs.Note n ∷ os) = lost_life c before n ++ lost_lives c before os

-- What holds between events of a client of the world at one server: it has its number, the lease time of the machine, one association with the server in a life
-- above 0, and what holds of that association with the messages of the two.
pub record Sim (k : Config) (c : ClientId) (own : ServerId) (site : WorldClient) (a : Association) (N : List Msg) : Type 0 where
  pub id_ : site.node.state.id.0 ≡ c.0
  pub terms : site.node.state.config.lease ≡ k.lease
  pub place : Place own site.node.state.associations a
  pub born : 1 ≤ a.life.0
  pub kept : Kept a.life.0 a.store a.session N

-- a step of the client's machine, at the client's clock
abbrev pub stepped : World → ClientId → WorldClient → ClientInput → ClientTurn
stepped w c site input = cl.client_step site.node.state (clock_of w (nodes.Client c)) input

-- the client as the step leaves it
abbrev pub site_left : World → ClientId → WorldClient → ClientInput → WorldClient
site_left w c site input = ev.at_node (cl.node_turn site.node (stepped w c site input)).node site

-- the world as the step leaves it
abbrev pub world_left : World → ClientId → WorldClient → ClientInput → World
world_left w c site input = (ev.client_took w c site (Ok (cl.node_turn site.node (stepped w c site input)))).world

-- What a client's step leaves of the world: the client itself is changed, its messages are after the others, and the lives that it lost are among those that
-- ended.
pub record WorldLeft (w : World) (c : ClientId) (site : WorldClient) (input : ClientInput) : Type 0 where
  pub clients : (world_left w c site input).clients ≡ with_numbered c.0 (site_left w c site input) w.clients
  pub servers : (world_left w c site input).servers ≡ w.servers
  pub clocks : (world_left w c site input).clocks ≡ w.clocks
  pub config : (world_left w c site input).config ≡ w.config
  pub messages : (world_left w c site input).net.messages ≡ w.net.messages ++ sent (stepped w c site input).out
  pub ended : (world_left w c site input).ended ≡ w.ended ++ lost_lives c site.node.state (stepped w c site input).out

-- What a client's step makes of its association with one server: moves, and what held of it holds again, with the messages that it said; and a lease that is
-- held then lasts.
pub record OwnMoves (k : Config) (b : Beside) (w : World) (c : ClientId) (site : WorldClient) (input : ClientInput) (own : ServerId)
    (a : Association) (N : List Msg) : Type 0 where
  pub ended : ℕ → ℕ
  pub last : Association
  pub ends : LifeEnds k (clock_of w (nodes.Client c)).0 a last.life.0 b.ended ended
  pub net : List Msg
  pub moves :
      Moves k (record { c = client_of b.ended (clock_of w (nodes.Client c)).0 a; s = b.s; net = N })
      (record { c = client_of ended (clock_of w (nodes.Client c)).0 last; s = b.s; net = net })
  pub sim : Sim k c own (site_left w c site input) last net
  pub said : Said c.0 own (stepped w c site input).out net
  pub lasts : Lasts k.lease (clock_of w (nodes.Client c)).0 last.session

-- In the world a client's step is moves of its association with each server.
abbrev pub OwnAssociationsMove : Type 0
OwnAssociationsMove =
    (k : Config) (b : Beside) (w : World) (c : ClientId) (site : WorldClient) (input : ClientInput) (own : ServerId) (a : Association) (N : List Msg) →
    Sim k c own site a N → Comes own c.0 input N → OwnMoves k b w c site input own a N

-- It leaves every other client as it was.
pub record OthersAsBefore (w : World) (c : ClientId) (site : WorldClient) (input : ClientInput) : Type 0 where
  pub world : WorldLeft w c site input
  pub others : (d : ClientId) → 1 ≤ c.0 → d.0 ≢ c.0 → site_of (world_left w c site input) d ≡ site_of w d

-- In the world a client's step leaves every other client as it was.
abbrev pub OtherAssociationsStay : Type 0
OtherAssociationsStay = (w : World) (c : ClientId) (site : WorldClient) (input : ClientInput) → OthersAsBefore w c site input
