-- Requests to cut a file or for a name, of lives to which their clients do not come back.
use Rattle.std.specs.Prelude.{◌≡◌, ℕ, ◌≤◌, ◌<◌, true, false, List, Some, length}
use Rattle.std.proofs.Common.{◌⊎◌}
use Rattle.std.specs.List.{list_any}
use Rattle.st_base.specs.declared.ids.ClientId.{ClientId}
use Rattle.st_base.specs.declared.ids.GrantNo.{GrantNo}
use Rattle.st_base.specs.declared.ids.ServerId.{ServerId}
use Rattle.st_base.specs.declared.names.NameAsk.{NameAsk}
use Rattle.st_base.specs.declared.names.NameAsk.TheVariants as names
use Rattle.st_messages.specs.declared.ask.Ask.{Ask}
use Rattle.st_messages.specs.declared.ask.Ask.TheVariants as asks
use Rattle.st_messages.specs.declared.message.Body.{Body}
use Rattle.st_messages.specs.declared.message.Body.TheVariants as bodies
use Rattle.st_messages.specs.declared.message.Message.{Message}
use Rattle.st_messages.specs.declared.message.NameOp.{NameOp}
use Rattle.st_rules.specs.declared.client.Operation.{Operation}
use Rattle.st_rules.specs.ClientPasses.{name_op}
use Rattle.st_rules.specs.ClientState.{Association, asks_cut_or_name, is_asked}
use Rattle.st_rules.specs.Server.{ServerNode, is_client_node}
use Rattle.st_rules.specs.World.{WorldClient, World, node_of, numbered, site_of}
use Rattle.st_rules.specs.Safety.{Step, answers_in}
use Rattle.st_lemmas.specs.Lists.{Has}
use Rattle.st_laws_leases.specs.Dates.Dates.{messages}
use Rattle.st_laws_requests.specs.Cuts.Cuts.{Between, MeansNone, asks_of}
use Rattle.st_laws_extents.specs.CutRequests.EndedLives.{IsPast}
use Rattle.st_laws_extents.specs.CutRequests.World.{Gifts}
use Rattle.st_promises.specs.CutAsks.{settles_in}

-- a remove under a grant means the file of which the grant was given
abbrev pub MeansOf : (ℕ → GrantNo → Type 0) → NameAsk → GrantNo → Type 0
MeansOf G (names.Remove dir name ino) g = 1 ≤ g.0 → G ino g
MeansOf G ask g = Unit {0}

-- a request for a name is that of an ask
pub record MeansGrant (G : ℕ → GrantNo → Type 0) (ask : NameAsk) (op : NameOp) : Type 0 where
  pub g : GrantNo
  pub is : op ≡ name_op ask g
  pub none : MeansNone ask g
  pub of : MeansOf G ask g

-- a request to a server is that of an ask
abbrev pub MeansTo : (ℕ → GrantNo → Type 0) → ServerId → Ask → Body → Type 0
MeansTo G s (asks.Cut f p) (bodies.Cut ino g q) = (f.server ≡ s) × (f.ino ≡ ino) × (p ≡ q)
MeansTo G s (asks.Name sv ask) (bodies.Name op) = (sv ≡ s) × MeansGrant G ask op
MeansTo G s ask body = ⊥

-- a server no longer serves the message
abbrev pub AllPast : World → ClientId → ServerId → Message → Type 0
AllPast w c s m = (n : ServerNode) → node_of w s ≡ Some n → IsPast c n m

-- the ask of a message is no longer pending, and was not settled
pub record IsLeft (past : List Step) (G : ℕ → GrantNo → Type 0) (c : ClientId) (s : ServerId) (os : List Operation) (m : Message) : Type 0 where
  pub op : ℕ
  pub ask : Ask
  pub asked : numbered (asks_of past c) op ≡ Some ask
  pub means : MeansTo G s ask m.body
  pub gone : (o : Operation) → Has o os → o.op ≡ op → ⊥
  pub unsettled : list_any (settles_in c op) past ≡ false

-- either of the two
abbrev pub Over : List Step → (ℕ → GrantNo → Type 0) → World → ClientId → ServerId → List Operation → Message → Type 0
Over past G w c s os m = AllPast w c s m ⊎ IsLeft past G c s os m

-- each message of a client to a server, to cut a file or for a name, in a life to which the client does not come back
abbrev pub AllOver : List Step → Gifts → World → Type 0
AllOver past G w =
    (c : ClientId) (site : WorldClient) → site_of w c ≡ Some site → (a : Association) → Has a site.node.state.associations →
    (m : Message) → Has m (messages w) → Between c a.server m → 1 ≤ m.header.number → asks_cut_or_name m.body ≡ true →
    (m.header.life < a.life.0) ⊎ (site.node.running ≡ false) → Over past (G c a.server) w c a.server site.node.state.operations m

-- a pending operation was not answered
abbrev pub AllUnsaid : List Step → World → Type 0
AllUnsaid past w = (c : ClientId) (site : WorldClient) → site_of w c ≡ Some site → (o : Operation) → Has o site.node.state.operations → list_any (answers_in c o.op) past ≡ false

-- nothing was answered that was not asked yet
abbrev pub AllLater : List Step → Type 0
AllLater past = (c : ClientId) (op : ℕ) → length (asks_of past c) < op → list_any (answers_in c op) past ≡ false

-- each message of a client is of one that is there
abbrev pub AllSenders : World → Type 0
AllSenders w = (m : Message) → Has m (messages w) → is_client_node m.header.from ≡ true → m.header.from ≤ length w.clients

-- a pending operation waits for the reply to such a message
pub record IsPending (G : ℕ → GrantNo → Type 0) (s : ServerId) (os : List Operation) (m : Message) : Type 0 where
  pub operation : Operation
  pub there : Has operation os
  pub asked : is_asked s operation ≡ true
  pub means : MeansTo G s operation.ask m.body
