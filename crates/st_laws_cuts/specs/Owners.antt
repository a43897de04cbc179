-- The operation whose request is the outstanding one, if that cuts a file or is for a name.
use Rattle.std.specs.Prelude.{◌≡◌, ℕ, ◌≤◌, true, List, Option, Some, None}
use Rattle.st_base.specs.declared.ids.GrantNo.{GrantNo}
use Rattle.st_base.specs.declared.ids.ServerId.{ServerId}
use Rattle.st_base.specs.declared.names.NameAsk.{NameAsk}
use Rattle.st_base.specs.declared.names.NameAsk.TheVariants as names
use Rattle.st_messages.specs.declared.ask.Ask.{Ask}
use Rattle.st_messages.specs.declared.ask.Ask.TheVariants as asks
use Rattle.st_messages.specs.declared.message.Body.{Body}
use Rattle.st_messages.specs.declared.message.Body.TheVariants as bodies
use Rattle.st_messages.specs.declared.message.NameOp.{NameOp}
use Rattle.st_rules.specs.declared.client.Operation.{Operation}
use Rattle.st_rules.specs.declared.client.Request.{Request}
use Rattle.st_rules.specs.ClientPasses.{name_op}
use Rattle.st_rules.specs.ClientState.{Association, ClientSession, asks_cut_or_name, is_asked}
use Rattle.st_rules.specs.World.{WorldClient, World, site_of}
use Rattle.st_base.specs.declared.ids.ClientId.{ClientId}
use Rattle.st_lemmas.specs.Lists.{Has}
use Rattle.st_laws_requests.specs.Cuts.Cuts.{MeansNone}

-- the outstanding request of a session, and the file that it cuts or removes
abbrev pub view : Option ClientSession → Option (Option Request × Option ℕ)
view None = None
view (Some x) = Some (x.requests.asked, x.cutting)

-- a remove under a grant means the file that is being cut
abbrev pub MeansCut : NameAsk → Option ℕ → GrantNo → Type 0
MeansCut (names.Remove dir name ino) cutting g = 1 ≤ g.0 → cutting ≡ Some ino
MeansCut ask cutting g = Unit {0}

-- a request for a name is that of an ask
pub record MeansName (ask : NameAsk) (cutting : Option ℕ) (op : NameOp) : Type 0 where
  pub g : GrantNo
  pub is : op ≡ name_op ask g
  pub none : MeansNone ask g
  pub cut : MeansCut ask cutting g

-- a request is that of an ask to cut a file or for a name
abbrev pub Means : Ask → Option ℕ → Body → Type 0
Means (asks.Cut f p) cutting (bodies.Cut ino g q) = (f.ino ≡ ino) × (p ≡ q)
Means (asks.Name s ask) cutting (bodies.Name op) = MeansName ask cutting op
Means ask cutting body = ⊥

-- a pending operation of the server waits for the reply to such a request
pub record Owner (s : ServerId) (cutting : Option ℕ) (body : Body) (os : List Operation) : Type 0 where
  pub operation : Operation
  pub there : Has operation os
  pub asked : is_asked s operation ≡ true
  pub means : Means operation.ask cutting body

-- if the outstanding request is one
abbrev pub OwnedBy : ServerId → Option ℕ → List Operation → Option Request → Type 0
OwnedBy s cutting os None = Unit {0}
OwnedBy s cutting os (Some q) = asks_cut_or_name q.body ≡ true → Owner s cutting q.body os

-- in a session
abbrev pub Owned : ServerId → Option (Option Request × Option ℕ) → List Operation → Type 0
Owned s None os = Unit {0}
Owned s (Some v) os = OwnedBy s v.1 os v.0

-- in every session of every client of a world
abbrev pub AllOwned : World → Type 0
AllOwned w =
    (c : ClientId) (site : WorldClient) → site_of w c ≡ Some site → (a : Association) → Has a site.node.state.associations →
    Owned a.server (view a.session) site.node.state.operations
