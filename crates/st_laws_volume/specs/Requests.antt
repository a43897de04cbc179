-- Which ask a request is of that a server serves: the ghost knows it by the key of the request.
use Rattle.std.specs.Prelude.{◌≡◌, true, false, List, ◌++◌, find, is_some, Option, Some, None, ⊤}
use Rattle.std.specs.List.{list_any}
use Rattle.st_base.specs.declared.ids.NodeId.{NodeId}
use Rattle.st_base.specs.declared.ids.NodeId.TheVariants as nodes
use Rattle.st_base.specs.declared.ids.ServerId.{ServerId}
use Rattle.st_messages.specs.declared.ask.Ask.{Ask}
use Rattle.st_messages.specs.declared.event.Event.{Event}
use Rattle.st_messages.specs.declared.event.Event.TheVariants as events
use Rattle.st_messages.specs.declared.message.Message.{Message}
use Rattle.st_rules.specs.declared.world.SentMessage.{SentMessage}
use Rattle.st_rules.specs.ClientState.{server_of}
use Rattle.st_rules.specs.Safety.{Promise, Step}
use Rattle.st_rules.specs.Server.{sender}
use Rattle.st_rules.specs.World.{World, message_of, node_of, numbered, receiver_of}
use Rattle.st_lemmas.specs.Lists.{Has}
use Rattle.st_promises.specs.CutAsks.{settles_in}
use Rattle.st_laws_requests.specs.Cuts.Cuts.{AsksFor, asks_of}
use Rattle.st_laws_volume.specs.Options.{OnSome}
use Rattle.st_laws_volume.specs.Witness.{Behind, Witness, does_at, is_behind, is_request_for, led_to, takes_op}
use Rattle.st_volume.specs.Volume.{Pending, Volume, effect, is_ask, is_before, step}

-- The ghost has an operation of the client under the key of the request. What the client was asked under its number is what is requested, and wasn't
-- answered yet, or with `uncertain`.
pub record HasAsk (t : Witness) (past : List Step) (s : ServerId) (m : Message) : Type 0 where
  pub behind : Behind
  pub found : find (is_behind s m.header) t.behind ≡ Some behind
  pub ask : Ask
  pub asked : numbered (asks_of past (sender m.header)) behind.op ≡ Some ask
  pub server : server_of ask ≡ s
  pub means : AsksFor ask m.body
  pub unsettled : list_any (settles_in (sender m.header) behind.op) past ≡ false

-- The ghost has an operation under the key of the request. Its ask is open or orphaned, and no open ask must take effect before it.
pub record AskIsNext (t : Witness) (v : Volume) (s : ServerId) (m : Message) : Type 0 where
  pub behind : Behind
  pub found : find (is_behind s m.header) t.behind ≡ Some behind
  pub ask : Pending
  pub there : find (is_ask (sender m.header) behind.op) (v.pending ++ v.orphans) ≡ Some ask
  pub first : list_any (is_before ask) v.pending ≡ false

-- The open ask of the operation has no result yet.
pub record FindsNone (t : Witness) (v : Volume) (s : ServerId) (m : Message) : Type 0 where
  pub none :
      (b : Behind)
      → find (is_behind s m.header) t.behind ≡ Some b
      → (a : Pending)
      → Has a v.pending
      → is_ask (sender m.header) b.op a ≡ true
      → a.result ≡ None

-- The request is that of its ask: it has its words, and a remove names a grant if it means a file.
pub record IsForAsk (t : Witness) (past : List Step) (s : ServerId) (m : Message) : Type 0 where
  pub is :
      (b : Behind)
      → find (is_behind s m.header) t.behind ≡ Some b
      → (ask : Ask)
      → numbered (asks_of past (sender m.header)) b.op ≡ Some ask
      → is_request_for s m.body ask ≡ true

-- What is asked has an effect in the volume: a file that is cut or removed exists, and no other client has open entries of it.
pub record CanBeDone (t : Witness) (past : List Step) (v : Volume) (s : ServerId) (m : Message) : Type 0 where
  pub done :
      (b : Behind)
      → find (is_behind s m.header) t.behind ≡ Some b
      → (ask : Ask)
      → numbered (asks_of past (sender m.header)) b.op ≡ Some ask
      → is_some (effect v (sender m.header) ask) ≡ true

-- The volume takes its effect, if the ask is open or orphaned, and no open ask must take effect before it.
pub record TakesEffect (t : Witness) (v : Volume) (s : ServerId) (m : Message) : Type 0 where
  pub taken :
      (b : Behind)
      → find (is_behind s m.header) t.behind ≡ Some b
      → (a : Pending)
      → find (is_ask (sender m.header) b.op) (v.pending ++ v.orphans) ≡ Some a
      → list_any (is_before a) v.pending ≡ false
      → is_some (step v (takes_op t.behind v s m)) ≡ true

-- a fact of a message that a server serves, if it does what is requested
abbrev pub AtNode : (ServerId → Message → Type 0) → World → Message → NodeId → Type 0
AtNode fact w m (nodes.Server s) = does_at w s (node_of w s) m ≡ true → fact s m
AtNode fact w m (nodes.Client c) = ⊤

abbrev pub OfMessage : (ServerId → Message → Type 0) → World → Option SentMessage → Type 0
OfMessage fact w None = ⊤
OfMessage fact w (Some m) = AtNode fact w m.message (receiver_of m)

abbrev pub OfDelivery : (ServerId → Message → Type 0) → World → Event → Type 0
OfDelivery fact w (events.Deliver k) = OfMessage fact w (message_of w k)
OfDelivery fact w e = ⊤

-- Requests have asks: each request for a cut or a name that a server serves in an event, if the server does what is requested.
abbrev pub RequestsHaveAsks : Promise
RequestsHaveAsks past x = OfDelivery (HasAsk (led_to past x) past) x.before.world x.event

-- Asks of requests are next: each such request's is open or orphaned, and none must take effect before it, at each event, if the volume has taken the steps
-- of all events before it.
abbrev pub AsksOfRequestsAreNext : Promise
AsksOfRequestsAreNext past x =
    OnSome (λ v. OfDelivery (AskIsNext (led_to past x) v) x.before.world x.event) (led_to past x).volume

-- Requests find no result: an ask takes effect once.
abbrev pub RequestsFindNone : Promise
RequestsFindNone past x =
    OnSome (λ v. OfDelivery (FindsNone (led_to past x) v) x.before.world x.event) (led_to past x).volume

-- Requests have effects: at each event, if the volume has taken the steps of all events before it.
abbrev pub RequestsHaveEffects : Promise
RequestsHaveEffects past x =
    OnSome (λ v. OfDelivery (CanBeDone (led_to past x) past v) x.before.world x.event) (led_to past x).volume

-- Requests are for their asks: each request for a cut or a name that a server serves in an event, if the server does what is requested.
abbrev pub RequestsAreForTheirAsks : Promise
RequestsAreForTheirAsks past x = OfDelivery (IsForAsk (led_to past x) past) x.before.world x.event

-- Requests take effect in order: at each event, if the volume has taken the steps of all events before it.
abbrev pub RequestsTakeEffectInOrder : Promise
RequestsTakeEffectInOrder past x =
    OnSome (λ v. OfDelivery (TakesEffect (led_to past x) v) x.before.world x.event) (led_to past x).volume
