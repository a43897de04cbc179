-- The law of a client's step: for each server, a list of moves of the association.
use Rattle.std.specs.Prelude.{◌≡◌, Some, ◌+◌, ◌<◌, ◌≤◌, ◌⊎◌, ℕ, List, [], ◌∷◌, ◌++◌}
use Rattle.st_base.specs.declared.ids.ServerId.{ServerId}
use Rattle.st_base.specs.declared.ids.Life.{Life}
use Rattle.st_base.specs.declared.ids.Stamp.{Stamp}
use Rattle.st_rules.specs.declared.client.ClientInput.{ClientInput}
use Rattle.st_rules.specs.declared.client.ClientInput.TheVariants as inputs
use Rattle.st_rules.specs.ClientState.{ClientTurn, ClientSession, ClientState, Association, enter}
use Rattle.st_rules.specs.Keys.{server_node}
use Rattle.st_messages.specs.declared.event.Event.{Event}
use Rattle.st_rules.specs.History.{Traced}
use Rattle.st_rules.specs.Safety.{Throughout, HardStaysHard, steps}
use Rattle.st_rules.specs.Client as cl
use Rattle.st_protocol.specs.Assoc.{Config, Msg, In, Moves, upd, end_now}
use Rattle.st_laws_refine.specs.Views.Messages.{Fine, shown, Shows}
use Rattle.st_laws_refine.specs.Views.Halves.{client_of}
use Rattle.st_lemmas.specs.Lists.{Has}
use Rattle.st_laws_refine.specs.Client.Invariants.{Beside, Lasts, Kept, Losses, Ready}

-- associations with other servers
abbrev pub Apart : ServerId → List Association → Type 0
Apart own [] = Unit {0}
Apart own (x ∷ xs) = record { one : server_node own ≡ server_node x.server → ⊥; rest : Apart own xs }

-- the association with this server, among those with others
pub record Place (own : ServerId) (list : List Association) (a : Association) : Type 0 where
  pub before : List Association
  pub after : List Association
  pub is : list ≡ before ++ a ∷ after
  pub here : a.server ≡ own
  pub apart_before : Apart own before
  pub apart_after : Apart own after

-- a client's turn, seen from one association; what holds beside it changes if a life ended
pub record ClientResult (k : Config) (b d : Beside) (now : ℕ) (hs : List Msg) (own : ServerId) (a : Association) (U : ClientTurn) (N : List Msg) : Type 0 where
  pub last : Association
  pub net : List Msg
  pub moves : Moves k (record { c = client_of b.ended now a; s = b.s; net = N }) (record { c = client_of d.ended now last; s = d.s; net = net })
  pub place : Place own U.state.associations last
  pub ready : Ready k now hs (enter U last) net

-- no life ended and the lease lasts, or the present life ended and a later one began
abbrev pub LifeEnds : Config → ℕ → Association → ℕ → (ℕ → ℕ) → (ℕ → ℕ) → Type 0
LifeEnds k now a last e f =
    record { lasts : Lasts k.lease now a.session; same : f ≡ e; life : a.life.0 ≤ last } ⊎
    record { ended : f ≡ upd e a.life.0 (end_now k (client_of e now a)); life : a.life.0 < last }

-- a whole step: the lives that are over have their ends
pub record ClientStep (k : Config) (b : Beside) (now : ℕ) (hs : List Msg) (own : ServerId) (a : Association) (U : ClientTurn) (N : List Msg) : Type 0 where
  pub ended : ℕ → ℕ
  pub result : ClientResult k b (record { s = b.s; ended = ended }) now hs own a U N
  pub ends : LifeEnds k now a result.last.life.0 b.ended ended

-- what any server says has modes
abbrev pub ReceivedOf : ClientInput → Type 0
-- what any server says has modes
ReceivedOf (inputs.Control m) = (x : ServerId) → m.header.from ≡ server_node x → Fine m.body
ReceivedOf input = Unit {0}

-- what an input brings to a client from this server
abbrev pub Comes : ServerId → ℕ → ClientInput → List Msg → Type 0
Comes own id (inputs.Control m) hs =
    record {
      shows : m.header.from ≡ server_node own → m.header.to ≡ id → Shows m.header.life m.header.epoch m.header.stamp (shown m.header.number m.body) hs;
      fine : (x : ServerId) → m.header.from ≡ server_node x → Fine m.body;
    }
Comes own id input hs = Unit {0}

-- a step of a client, whatever comes, is for its association with a server a list of moves, and what held before it holds after it
abbrev pub ClientStepsAreMoves : Type 0
ClientStepsAreMoves =
    (k : Config) (b : Beside) (now : Stamp) (hs : List Msg) (own : ServerId) (s : ClientState) (input : ClientInput) (a : Association) (N : List Msg) →
    s.config.lease ≡ k.lease → Place own s.associations a → 1 ≤ a.life.0 → Kept a.life.0 a.store a.session N →
    Comes own s.id.0 input hs → ((m : Msg) → In m hs → In m N) → ClientStep k b now.0 hs own a (cl.client_step s now input) N

-- The client has an association with this server, in this life, whose lease is over.
pub record IsOver (now : Stamp) (s : ClientState) (v : ServerId) (life : Life) : Type 0 where
  pub association : Association
  pub session : ClientSession
  pub listed : Has association s.associations
  pub there : association.server ≡ v
  pub alive : association.life ≡ life
  pub held : association.session ≡ Some session
  pub over : session.lease.date.0 + s.config.lease ≤ now.0

-- A step loses only lives whose leases are over.
abbrev pub LostLeasesAreOver : Type 0
LostLeasesAreOver = (now : Stamp) (s : ClientState) (input : ClientInput) → ReceivedOf input → Losses (IsOver now s) (cl.client_step s now input).out

-- an entry that is hard stays hard, over every run
abbrev pub RunsKeepHard : Type 0
RunsKeepHard = (es : List Event) (t : Traced) → Throughout HardStaysHard [] (steps es t)
