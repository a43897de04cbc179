-- In a world: how far a server served the requests that a client ended, and what holds of the requests of all sessions.
use Rattle.std.specs.Prelude.{◌≡◌, ℕ, ◌+◌, ◌≤◌, true, Some}
use Rattle.st_base.specs.declared.ids.ClientId.{ClientId}
use Rattle.st_base.specs.declared.ids.GrantNo.{GrantNo}
use Rattle.st_base.specs.declared.ids.ServerId.{ServerId}
use Rattle.st_rules.specs.ClientState.{Association}
use Rattle.st_rules.specs.Server.{ServerNode}
use Rattle.st_rules.specs.Sessions.{session_of}
use Rattle.st_rules.specs.World.{WorldClient, World, node_of, site_of}
use Rattle.st_lemmas.specs.Lists.{Has}
use Rattle.st_laws_requests.specs.Replies.ServedRequests.{IsBehind}
use Rattle.st_laws_extents.specs.CutRequests.Asks.{AsksBehind, AsksStand, Of}

-- a server of no earlier epoch; and in that epoch, if it runs, the client's session of that life reached the number
pub record ServedTo (c : ClientId) (n : ServerNode) (life epoch number : ℕ) : Type 0 where
  pub up_to : epoch ≤ n.state.stable.epoch.0
  pub behind : n.running ≡ true → epoch ≡ n.state.stable.epoch.0 → IsBehind (session_of n.state.sessions c) life number

-- the server served all numbers below this one
abbrev pub IsServed : World → ClientId → ServerId → ℕ → ℕ → ℕ → Type 0
IsServed w c server life epoch next = (n : ServerNode) → node_of w server ≡ Some n → (number : ℕ) → 1 ≤ number → number + 1 ≡ next → ServedTo c n life epoch number

-- a fact of what was given to a client: the server, the file and the number
abbrev pub Gifts : Type 1
Gifts = ClientId → ServerId → ℕ → GrantNo → Type 0

-- what holds of the requests of each session of each client
abbrev pub AllAsk : Gifts → World → Type 0
AllAsk G w =
    (c : ClientId) (site : WorldClient) → site_of w c ≡ Some site → (a : Association) → Has a site.node.state.associations →
    Of (AsksStand (IsServed w c) (G c)) a.server a.life.0 a.session

-- the same after a step, in which something may have been asked
abbrev pub AllAsked : Gifts → World → Type 0
AllAsked G w =
    (c : ClientId) (site : WorldClient) → site_of w c ≡ Some site → (a : Association) → Has a site.node.state.associations →
    AsksBehind (IsServed w c) (G c) a.server a.life.0 a.session
