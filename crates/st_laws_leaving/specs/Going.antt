-- What becomes of a client's session with a server in a step, and what the client says to the server.
use Rattle.std.specs.Prelude.{◌≡◌, ◌≢◌, ◌<◌, ◌≤◌, ◌⊎◌, ℕ, false, List, [], ◌∷◌, ◌++◌, Some, None, Option}
use Rattle.st_base.specs.declared.ids.ServerId.{ServerId}
use Rattle.st_base.specs.declared.ids.Stamp.{Stamp}
use Rattle.st_messages.specs.declared.message.Body.TheVariants as bodies
use Rattle.st_messages.specs.declared.message.Message.{Message}
use Rattle.st_messages.specs.declared.output.Output.TheVariants as outputs
use Rattle.st_rules.specs.declared.client.Request.{Request}
use Rattle.st_rules.specs.ClientState.{Association, ClientSession}
use Rattle.st_rules.specs.Keys.{server_node}
use Rattle.st_lemmas.specs.Lists.{Has}
use Rattle.st_laws_steps.specs.Client.Losses.{Fit}
use Rattle.st_laws_steps.specs.Lives.Lives.{Pairwise}
use Rattle.st_third.specs.declared.beside.Leave.{Leave}
use Rattle.st_third.specs.declared.event.ThirdInput.{ThirdInput}
use Rattle.st_third.specs.declared.limits.Limits.{Limits}
use Rattle.st_third.specs.declared.output.ThirdOutput.{ThirdOutput}
use Rattle.st_third.specs.declared.output.ThirdOutput.TheVariants as says
use Rattle.st_third.specs.Client.{client_step}
use Rattle.st_third.specs.State.{ThirdClient}
use Rattle.st_laws_third.specs.Changes.{ArePending, Heard, HeardLeave, HeardMessage}
use Rattle.st_laws_third.specs.Living.{heard_in}
use Rattle.st_laws_third.specs.Pairs.{IsPaired}
use Rattle.st_laws_leaving.specs.Serving.{IsCalm}

-- requests are numbered from 1, and the outstanding one is below the next one
abbrev pub IsNumbered : Option ClientSession → Type 0
IsNumbered None = Unit {0}
IsNumbered (Some s) = record { least : 1 ≤ s.requests.next; asked : (q : Request) → s.requests.asked ≡ Some q → (1 ≤ q.number) × (q.number < s.requests.next) }

-- nothing was asked in the session, if there is one
abbrev pub Unasked : Option ClientSession → Type 0
Unasked None = Unit {0}
Unasked (Some s) = (s.requests.next ≡ 1) × (s.due ≡ false)

-- the server's message was heard
abbrev pub HeardFrom : Heard → ServerId → Message → Type 0
HeardFrom got s m = (got ≡ Some (HeardMessage m)) × (m.header.from ≡ server_node s)

-- whose epoch it is: that of the association's session, or that of a message that was heard
pub data EpochOf (got : Heard) (a : Association) (epoch : ℕ) : Type 0 where
  OfSession : (s : ClientSession) → a.session ≡ Some s → s.epoch.0 ≡ epoch → EpochOf got a epoch
  OfMessage : (m : Message) → HeardFrom got a.server m → m.header.epoch ≡ epoch → EpochOf got a epoch

-- a welcome of this life was heard
pub record IsWelcomed (got : Heard) (s : ServerId) (life : ℕ) : Type 0 where
  pub message : Message
  pub heard : HeardFrom got s message
  pub welcome : message.body ≡ bodies.Welcome
  pub of_life : message.header.life ≡ life

-- Why there is a session in this life: it was there before, in the same life, or a welcome of this life was heard.
abbrev pub HasBegunBy : Heard → Association → ℕ → Type 0
HasBegunBy got a life = (((s : ClientSession) × (a.session ≡ Some s)) × (life ≡ a.life.0)) ⊎ (IsWelcomed got a.server life)

-- A message to the server of an association: its life lies between that of the association before it was sent and that
-- afterwards. Unless it is a greeting, its epoch is known, and so is why there is a session in its life.
pub record SentWell (got : Heard) (a b : Association) (m : Message) : Type 0 where
  pub since : a.life.0 ≤ m.header.life
  pub until : m.header.life ≤ b.life.0
  pub epoch : (m.body ≡ bodies.Hello) ⊎ (EpochOf got a m.header.epoch)
  pub begun : (m.body ≡ bodies.Hello) ⊎ (HasBegunBy got a m.header.life)

-- What becomes of an association while this is said. As long as nothing is asked in the session, only
-- calm messages are sent in its life. A session that begins was welcomed.
pub record Went (got : Heard) (a : Association) (os : List ThirdOutput) (b : Association) : Type 0 where
  pub server : b.server ≡ a.server
  pub life : a.life.0 ≤ b.life.0
  pub numbered : IsNumbered b.session
  pub sent : (m : Message) → Has (says.Plain (outputs.Send m)) os → m.header.to ≡ server_node a.server → SentWell got a b m
  pub epoch : (u : ClientSession) → b.session ≡ Some u → EpochOf got a u.epoch.0
  pub calm : Unasked b.session → (m : Message) → Has (says.Plain (outputs.Send m)) os → m.header.to ≡ server_node a.server → m.header.life ≡ b.life.0 →
      IsCalm m.body
  pub unasked : Unasked b.session → b.life.0 ≡ a.life.0 → Unasked a.session
  pub begun : (u : ClientSession) → b.session ≡ Some u → HasBegunBy got a b.life.0

-- When a leave is answered `left`, after these words: it is one of these or the one that was heard, and nothing was asked in the session yet.
pub record AtLeft (got : Heard) (ls : List Leave) (a : Association) (before : List ThirdOutput) (op : ℕ) : Type 0 where
  pub middle : Association
  pub went : Went got a before middle
  pub unasked : Unasked middle.session
  pub session : ClientSession
  pub is : middle.session ≡ Some session
  pub leave : Leave
  pub pending : (Has leave ls) ⊎ (got ≡ Some (HeardLeave leave))
  pub number : leave.op ≡ op
  pub of_server : leave.server.0 ≡ a.server.0

-- A client's step.

-- the servers of these associations are apart
abbrev pub Apart : List Association → Type 0
Apart [] = Unit {0}
Apart (a ∷ rest) = record { first : (b : Association) → Has b rest → b.server.0 ≢ a.server.0; rest : Apart rest }

-- the requests of each are numbered
abbrev pub AllNumbered : List Association → Type 0
AllNumbered as_ = (a : Association) → Has a as_ → IsNumbered a.session

-- a word that answers `left`, at one of these associations
abbrev pub LeftOf : Heard → List Leave → List Association → List ThirdOutput → ThirdOutput → Type 0
LeftOf got ls as_ before (says.Left op) = (a : Association) × (Has a as_ × AtLeft got ls a before op)
LeftOf got ls as_ before o = Unit {0}

-- each of these words, after those before it
abbrev pub LeftsOf : Heard → List Leave → List Association → List ThirdOutput → List ThirdOutput → Type 0
LeftsOf got ls as_ before [] = Unit {0}
LeftsOf got ls as_ before (o ∷ os) = (LeftOf got ls as_ before o) × LeftsOf got ls as_ (before ++ o ∷ []) os

-- a client after a step, and what it said
pub record ClientGoes (got : Heard) (c d : ThirdClient) (out : List ThirdOutput) : Type 0 where
  pub id : d.plain.id ≡ c.plain.id
  pub leaves : ArePending got c.beside.leaves d.beside.leaves
  pub pairs : Pairwise (λ a b. Went got a out b) c.plain.associations d.plain.associations
  pub sent : (m : Message) → Has (says.Plain (outputs.Send m)) out →
      (m.header.from ≡ c.plain.id.0) × ((a : Association) × (Has a c.plain.associations × (m.header.to ≡ server_node a.server)))
  pub lefts : LeftsOf got c.beside.leaves c.plain.associations [] out

-- So it is in each step of a client whose requests are numbered and whose servers are apart.
abbrev pub ClientsAreCalmUntilTheyAsk : Type 0
ClientsAreCalmUntilTheyAsk =
    (m : Limits) (c : ThirdClient) (now : Stamp) (input : ThirdInput) → IsPaired c → ((a : Association) → Has a c.plain.associations → Fit a) →
    AllNumbered c.plain.associations → Apart c.plain.associations →
    ClientGoes (heard_in input) c (client_step m c now input).client (client_step m c now input).out
