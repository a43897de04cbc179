-- What holds of a client at one server, and within a step.
use Rattle.std.specs.Prelude.{ℕ, ◌+◌, ◌<◌, ◌≤◌, ◌≡◌, Bool, true, false, List, [], ◌∷◌, Option, Some, None}
use Rattle.st_base.specs.declared.ids.ServerId.{ServerId}
use Rattle.st_base.specs.declared.ids.Life.{Life}
use Rattle.st_messages.specs.declared.output.Note.{Note}
use Rattle.st_messages.specs.declared.output.Note.TheVariants as notes
use Rattle.st_base.specs.declared.config.Config as base
use Rattle.st_base.specs.Mode.{number_of}
use Rattle.st_messages.specs.declared.message.Body.{Body}
use Rattle.st_messages.specs.declared.message.Body.TheVariants as bodies
use Rattle.st_messages.specs.declared.output.Output.{Output}
use Rattle.st_messages.specs.declared.output.Output.TheVariants as outputs
use Rattle.st_rules.specs.declared.client.HeldLock.{HeldLock}
use Rattle.st_rules.specs.declared.client.DemandedFile.{DemandedFile}
use Rattle.st_rules.specs.declared.client.Release.{Release}
use Rattle.st_rules.specs.declared.client.Request.{Request}
use Rattle.st_rules.specs.ClientPages.{Store}
use Rattle.st_rules.specs.ClientState.{ClientSession, Turn, reasserts}
use Rattle.st_rules.specs.Keys.{server_node}
use Rattle.st_protocol.specs.Assoc.{Config, Msg, msg, Server, Assoc, In, Moves}
use Rattle.st_protocol.specs.Assoc as net
use Rattle.st_laws_refine.specs.Views.Messages.{released_to, shown, Shows, Wishes, Received}
use Rattle.st_laws_refine.specs.Views.Halves.{busy_in, client_of}

-- what a step of the client leaves: the server, and the ends of lives that are over
pub record Beside : Type 0 where
  pub s : Server
  pub ended : ℕ → ℕ

-- the association, of a turn and what holds beside it
abbrev pub at : Beside → ℕ → Turn → List Msg → Assoc
at b now t N = record { c = client_of b.ended now t.here; s = b.s; net = N }

-- a request, which a client may repeat
abbrev pub is_request : Body → Bool
is_request bodies.KeepAlive = true
is_request (bodies.Acquire ino mode) = true
is_request (bodies.Released ino g to) = true
is_request (bodies.Map ino g p) = true
is_request (bodies.Allocate ino g p count) = true
is_request (bodies.Cut ino g from) = true
is_request (bodies.Name op) = true
is_request (bodies.Reassert rows) = true
is_request b = false

-- every message that was put out is from this client, and is shown if it goes to this server
abbrev pub Said : ℕ → ServerId → List Output → List Msg → Type 0
Said id sv [] N = Unit {0}
Said id sv (outputs.Send m ∷ os) N = record { from : m.header.from ≡ id; one : m.header.to ≡ server_node sv → Received m.header m.body N; rest : Said id sv os N }
Said id sv (outputs.Submit c a w ∷ os) N = Said id sv os N
Said id sv (outputs.Answer o a ∷ os) N = Said id sv os N
Said id sv (outputs.Note n ∷ os) N = Said id sv os N

-- a note that a life was lost owes its fact
abbrev pub LostNote : (ServerId → Life → Type 0) → Note → Type 0 → Type 0
LostNote P (notes.Lost s life) R = record { one : P s life; rest : R }
LostNote P n R = R

-- each life that was lost has this fact
abbrev pub Losses : (ServerId → Life → Type 0) → List Output → Type 0
Losses P [] = Unit {0}
Losses P (outputs.Send m ∷ os) = Losses P os
Losses P (outputs.Submit c a w ∷ os) = Losses P os
Losses P (outputs.Answer o a ∷ os) = Losses P os
Losses P (outputs.Note n ∷ os) = LostNote P n (Losses P os)

-- releases that wait are in the network
abbrev pub Waiting : ℕ → ℕ → List Release → List Msg → Type 0
Waiting life epoch [] N = Unit {0}
Waiting life epoch (r ∷ rs) N = record { one : In (msg life epoch 0 (net.Released r.ino r.g.0 (released_to r.to))) N; rest : Waiting life epoch rs N }

-- a demand that was sent is in the network
pub record Told (life epoch : ℕ) (d : DemandedFile) (N : List Msg) : Type 0 where
  pub stamp : ℕ
  pub g : ℕ
  pub to : ℕ
  pub is : In (msg life epoch stamp (net.Demand d.ino g to)) N

-- all demands that were told
abbrev pub AllTold : ℕ → ℕ → List DemandedFile → List Msg → Type 0
AllTold life epoch [] N = Unit {0}
AllTold life epoch (d ∷ ds) N = record { one : Told life epoch d N; rest : AllTold life epoch ds N }

-- every listed lock has a mode
abbrev pub HaveModes : List HeldLock → Type 0
HaveModes [] = Unit {0}
-- every listed lock has a mode
HaveModes (l ∷ ls) = record { one : 1 ≤ number_of l.mode; rest : HaveModes ls }

-- an outstanding request was sent once
pub record Standing (life epoch : ℕ) (due : Bool) (q : Request) (N : List Msg) : Type 0 where
  pub stamp : ℕ
  pub before : Shows life epoch stamp (shown q.number q.body) N
  pub request : is_request q.body ≡ true
  pub wishes : Wishes q.body
  pub settled : reasserts q.body ≡ false → due ≡ false

-- the outstanding request, if there is one
abbrev pub Outstanding : ℕ → ℕ → Bool → Option Request → List Msg → Type 0
Outstanding life epoch due None N = Unit {0}
Outstanding life epoch due (Some q) N = Standing life epoch due q N

-- nothing is written if a cut is out
abbrev pub Quiet : Store → Option ℕ → Type 0
Quiet st None = Unit {0}
Quiet st (Some ino) = busy_in st ino ≡ false

-- what holds between two steps, with a session
pub record KeptIn (life : ℕ) (st : Store) (s : ClientSession) (N : List Msg) : Type 0 where
  pub queue : Waiting life s.epoch.0 s.releases N
  pub asked : Outstanding life s.epoch.0 s.due s.requests.asked N
  pub told : AllTold life s.epoch.0 s.locks.demanded N
  pub modes : HaveModes s.locks.rows
  pub quiet : Quiet st s.cutting

-- what holds between two steps
abbrev pub Kept : ℕ → Store → Option ClientSession → List Msg → Type 0
Kept life st None N = Unit {0}
Kept life st (Some s) N = KeptIn life st s N

-- a lease that is held lasts
abbrev pub Lasts : ℕ → ℕ → Option ClientSession → Type 0
Lasts lease now None = Unit {0}
Lasts lease now (Some s) = now < s.lease.date.0 + lease

-- what holds within a step: the lease lasts, and all that is sent, queued, outstanding or received is in the network
pub record Ready (k : Config) (now : ℕ) (hs : List Msg) (t : Turn) (N : List Msg) : Type 0 where
  pub terms : t.config.lease ≡ k.lease
  pub born : 1 ≤ t.here.life.0
  pub lasts : Lasts k.lease now t.here.session
  pub said : Said t.id.0 t.here.server t.out N
  pub kept : Kept t.here.life.0 t.here.store t.here.session N
  pub received : (m : Msg) → In m hs → In m N

-- what a rule makes of an association
pub record Result (k : Config) (b d : Beside) (now : ℕ) (hs : List Msg) (t u : Turn) (N : List Msg) : Type 0 where
  pub net : List Msg
  pub moves : Moves k (at b now t N) (at d now u net)
  pub ready : Ready k now hs u net

-- what a rule at one server leaves: its server, the settings, and what other servers were told
pub record Leaves (id id2 : ℕ) (sv sv2 : ServerId) (c c2 : base.Config) (os os2 : List Output) : Type 0 where
  pub id_ : id2 ≡ id
  pub server : sv2 ≡ sv
  pub config : c2 ≡ c
  pub said : (x : ServerId) (M : List Msg) → (server_node x ≡ server_node sv → ⊥) → Said id x os M → Said id2 x os2 M

-- the same, and no life is lost
pub record Frame (id id2 : ℕ) (sv sv2 : ServerId) (c c2 : base.Config) (os os2 : List Output) : Type 1 where
  pub id_ : id2 ≡ id
  pub server : sv2 ≡ sv
  pub config : c2 ≡ c
  pub said : (x : ServerId) (M : List Msg) → (server_node x ≡ server_node sv → ⊥) → Said id x os M → Said id2 x os2 M
  pub lost : (P : ServerId → Life → Type 0) → Losses P os → Losses P os2

-- a rule takes one turn to the other by moves
pub record Goes (k : Config) (b : Beside) (now : ℕ) (hs : List Msg) (t u : Turn) : Type 1 where
  pub frame : Frame t.id.0 u.id.0 t.here.server u.here.server t.config u.config t.out u.out
  pub go : (N : List Msg) → Ready k now hs t N → Result k b b now hs t u N
