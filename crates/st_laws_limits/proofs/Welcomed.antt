-- Between a client and a server: a message of an earlier life than that of a later welcome, message or session has no later epoch than the welcome; and if it
-- has the server's epoch, the server's grace is over.
use Rattle.st_lemmas.proofs.Words
use Words.{◌≡◌, ◌≤◌, ◌<◌, ◌+◌, ℕ, false, Some, length, unwrap_or, ap, ◌∙◌}
use Words.{ClientId, Message, ServerId, Session}
use Words.bodies
use Words.nodes
use Words.ClientState.{Association, ClientSession}
use Words.Grace as grace
use Words.Keys.{server_node}
use Words.Lists.{Has}
use Words.Server.{ServerNode}
use Words.Sessions.{session_of}
use Words.World.{World, WorldClient, clock_of, numbered, stamp}
use Rattle.st_laws_leaving.specs.Quiet.{IsSent, IsTo}

-- a message of the client to the server that isn't a greeting
pub record IsAsked (w : World) (c : ClientId) (s : ServerId) (m : Message) : Type 0 where
  pub sent : IsSent w m
  pub to : IsTo c s m
  pub other : m.body ≡ bodies.Hello → ⊥

-- a welcome of the server for the client
pub record IsWelcome (w : World) (c : ClientId) (s : ServerId) (m : Message) : Type 0 where
  pub sent : IsSent w m
  pub from : m.header.from ≡ server_node s
  pub to : m.header.to ≡ c.0
  pub is : m.body ≡ bodies.Welcome

-- the grace of the association's server is over
abbrev pub IsOff : World → Association → ServerNode → Type 0
IsOff w a node = grace.is_on node.state.grace (clock_of w (nodes.Server a.server)) ≡ false

pub record LivesInOrder (w : World) (c : ClientId) (a : Association) (node : ServerNode) : Type 0 where
  pub later : (m p : Message) → IsAsked w c a.server m → IsWelcome w c a.server p → m.header.life < p.header.life → m.header.epoch ≤ p.header.epoch
  pub welcomed : (p : Message) → IsWelcome w c a.server p → p.header.epoch ≡ node.state.stable.epoch.0 → IsOff w a node
  pub asked : (m k : Message) → IsAsked w c a.server m → IsAsked w c a.server k → m.header.life < k.header.life →
      m.header.epoch ≡ node.state.stable.epoch.0 → IsOff w a node
  pub begun : (u : ClientSession) → a.session ≡ Some u → (m : Message) → IsAsked w c a.server m → m.header.life < a.life.0 →
      m.header.epoch ≡ node.state.stable.epoch.0 → IsOff w a node
  pub served : (x : Session) → session_of node.state.sessions c ≡ Some x → (m : Message) → IsAsked w c a.server m → x.life.0 < m.header.life → IsOff w a node
  pub serves : (x : Session) → session_of node.state.sessions c ≡ Some x → (u : ClientSession) → a.session ≡ Some u → x.life.0 < a.life.0 → IsOff w a node
  pub known : (IsOff w a node → ⊥) → (x : Session) → session_of node.state.sessions c ≡ Some x → (p : Message) → IsWelcome w c a.server p →
      x.life.0 < p.header.life → node.state.stable.epoch.0 ≤ p.header.epoch

-- So it is between each client and each of its servers.
abbrev pub AllInOrder : World → Type 0
AllInOrder w =
    (n : ℕ) (site : WorldClient) (a : Association) (node : ServerNode) → numbered w.clients n ≡ Some site → Has a site.node.state.associations →
    numbered w.servers a.server.0 ≡ Some node → LivesInOrder w (record { 0 = n }) a node

-- in another world without a new message between the two
module _ (w v : World) (c : ClientId) (a : Association) (node : ServerNode) (to : (m : Message) → IsSent v m → IsTo c a.server m → IsSent w m)
    (from : (m : Message) → IsSent v m → m.header.from ≡ server_node a.server → IsSent w m) (off : IsOff w a node → IsOff v a node) where
  asked_back : (m : Message) → IsAsked v c a.server m → IsAsked w c a.server m
  asked_back m h = record { sent = to m h.sent h.to; to = h.to; other = h.other }

  welcome_back : (m : Message) → IsWelcome v c a.server m → IsWelcome w c a.server m
  welcome_back m h = record { sent = from m h.sent h.from; from = h.from; to = h.to; is = h.is }

  pub in_order_as : LivesInOrder w c a node → LivesInOrder v c a node
  in_order_as l =
      record {
        later = λ m p h i. l.later m p (asked_back m h) (welcome_back p i);
        welcomed = λ p i e. off (l.welcomed p (welcome_back p i) e);
        asked = λ m k h i o e. off (l.asked m k (asked_back m h) (asked_back k i) o e);
        begun = λ u q m h o e. off (l.begun u q m (asked_back m h) o e);
        served = λ x q m h o. off (l.served x q m (asked_back m h) o);
        serves = λ x q u e o. off (l.serves x q u e o);
        known = λ on x q p i o. l.known (λ z. on (off z)) x q p (welcome_back p i) o;
      }

-- The clock of a server.

pub clock_same : (w v : World) (s : ServerId) → v.clocks ≡ w.clocks → length v.clients ≡ length w.clients →
    clock_of v (nodes.Server s) ≡ clock_of w (nodes.Server s)
clock_same w v s e l = ap (λ n. unwrap_or (numbered v.clocks (n + s.0)) (stamp 0)) l ∙ ap (λ ts. unwrap_or (numbered ts (length w.clients + s.0)) (stamp 0)) e

pub off_same : (w v : World) (a : Association) (node : ServerNode) → v.clocks ≡ w.clocks → length v.clients ≡ length w.clients → IsOff w a node → IsOff v a node
off_same w v a node e l o = ap (grace.is_on node.state.grace) (clock_same w v a.server e l) ∙ o
