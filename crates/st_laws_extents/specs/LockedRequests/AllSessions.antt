-- What holds of the locks and the requests of all sessions.
use Rattle.std.specs.Prelude.{◌≡◌, Some}
use Rattle.st_base.specs.declared.ids.ClientId.{ClientId}
use Rattle.st_rules.specs.ClientState.{Association}
use Rattle.st_rules.specs.World.{World, WorldClient, site_of}
use Rattle.st_lemmas.specs.Lists.{Has}
use Rattle.st_laws_extents.specs.LockedRequests.RequestsGoOn.{Before, Free, Of}

-- whatever was told
abbrev pub any_free : Free
any_free server life epoch number = Unit {0}

-- whatever was asked
abbrev pub any_before : Before
any_before server life epoch number body = Unit {0}

-- an association: the locks have the greatest grants that were seen, and extents are asked under grants that were seen
abbrev pub Seen : Association → Type 0
Seen a = Of any_free any_before a.server a.life.0 a.session

-- of all clients
abbrev pub AllSeen : World → Type 0
AllSeen w = (c : ClientId) (site : WorldClient) → site_of w c ≡ Some site → (a : Association) → Has a site.node.state.associations → Seen a
