-- What holds of the requests of a client's session: up to which number they ended, and which file a cut or a remove names.
use Rattle.std.specs.Prelude.{◌≡◌, ℕ, ◌+◌, ◌≤◌, Bool, true, false, Option, Some, None}
use Rattle.std.proofs.Common.{◌⊎◌}
use Rattle.st_base.specs.declared.ids.GrantNo.{GrantNo}
use Rattle.st_base.specs.declared.ids.ServerId.{ServerId}
use Rattle.st_messages.specs.declared.message.Body.{Body}
use Rattle.st_messages.specs.declared.message.Body.TheVariants as bodies
use Rattle.st_messages.specs.declared.message.Header.{Header}
use Rattle.st_messages.specs.declared.message.NameOp.TheVariants as ops
use Rattle.st_rules.specs.declared.client.Request.{Request}
use Rattle.st_rules.specs.ClientReplies.{is_counting, refuses_reassertion}
use Rattle.st_rules.specs.ClientState.{ClientSession, Requests, reasserts}
use Rattle.st_rules.specs.Keys.{server_node}
use Rattle.st_laws_steps.specs.Client.Session.{HasExclusive}
use Rattle.st_laws_requests.specs.Replies.LastRequests.{IsLastRequest}
use Rattle.st_laws_requests.specs.Replies.ServedRequests.{Ends}

-- the first number that was not ended: of the outstanding request, or the next one
abbrev pub open_from : ℕ → Option Request → ℕ
open_from next None = next
open_from next (Some q) = q.number

-- of a session
abbrev pub first_open : Requests → ℕ
first_open r = open_from r.next r.asked

-- a reassertion is the first request of its epoch, and nothing else is asked while one is due
pub record ReassertsFirst (due : Bool) (r : Requests) : Type 0 where
  pub none : due ≡ true → r.asked ≡ None → r.next ≡ 1
  pub first : (q : Request) → r.asked ≡ Some q → reasserts q.body ≡ true → q.number ≡ 1
  pub only : (q : Request) → r.asked ≡ Some q → due ≡ true → reasserts q.body ≡ true

-- a cut names the file that is being cut
abbrev pub CutNamed : Option ℕ → Body → Type 0
CutNamed cutting (bodies.Cut ino g from) = cutting ≡ Some ino
CutNamed cutting body = Unit {0}

-- a remove that names a grant is of a file that is being cut, of which this was given
abbrev pub RemoveNamed : (ℕ → GrantNo → Type 0) → Option ℕ → Body → Type 0
RemoveNamed G cutting (bodies.Name (ops.Remove dir name g)) = 1 ≤ g.0 → (ino : ℕ) × (cutting ≡ Some ino) × G ino g
RemoveNamed G cutting body = Unit {0}

-- a fact of a session at a server: of its life and epoch, its requests, the file that is cut, and whether a reassertion is due
abbrev pub Fact : Type 1
Fact = ServerId → ℕ → ℕ → Requests → Option ℕ → Bool → Type 0

-- a fact of an association, if it has a session
abbrev pub Of : Fact → ServerId → ℕ → Option ClientSession → Type 0
Of F server life None = Unit {0}
Of F server life (Some s) = F server life s.epoch.0 s.requests s.cutting s.due

-- What holds of a session's requests: all that were ended were served as B says, and what is removed was granted as G says.
pub record AsksStand (B : ServerId → ℕ → ℕ → ℕ → Type 0) (G : ServerId → ℕ → GrantNo → Type 0) (server : ServerId) (life epoch : ℕ) (r : Requests)
    (cutting : Option ℕ) (due : Bool) : Type 0 where
  pub last : IsLastRequest r
  pub first : ReassertsFirst due r
  pub served : B server life epoch (first_open r)
  pub cut : (q : Request) → r.asked ≡ Some q → CutNamed cutting q.body
  pub remove : (q : Request) → r.asked ≡ Some q → RemoveNamed (G server) cutting q.body

-- what a message that is received says about the request that it ends: all up to it were served
abbrev pub Tells : (ServerId → ℕ → ℕ → ℕ → Type 0) → Header → Body → Fact
Tells B h body server life epoch r cutting due =
    (q : Request) → r.asked ≡ Some q → h.from ≡ server_node server → h.life ≡ life → h.epoch ≡ epoch → Ends body →
    is_counting h.number body q ≡ true → refuses_reassertion body q.body ≡ false → B server life epoch (q.number + 1)

-- after a step: what is removed was granted before, or is held under an exclusive lock
abbrev pub GivenOrHeld : (ServerId → ℕ → GrantNo → Type 0) → ClientSession → ServerId → ℕ → GrantNo → Type 0
GivenOrHeld G s server ino g = G server ino g ⊎ HasExclusive s ino g

-- what holds after a step
abbrev pub AsksBehind : (ServerId → ℕ → ℕ → ℕ → Type 0) → (ServerId → ℕ → GrantNo → Type 0) → ServerId → ℕ → Option ClientSession → Type 0
AsksBehind B G server life None = Unit {0}
AsksBehind B G server life (Some s) = AsksStand B (GivenOrHeld G s) server life s.epoch.0 s.requests s.cutting s.due
