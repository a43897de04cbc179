-- Where the pages of servers lie, and which room they take in the volume.
use Rattle.std.specs.Prelude.{◌≡◌, ℕ, true, List, Some}
use Rattle.st_base.specs.declared.ids.ClientId.{ClientId}
use Rattle.st_base.specs.declared.ids.GrantNo.{GrantNo}
use Rattle.st_base.specs.declared.ids.PageNo.{PageNo}
use Rattle.st_base.specs.declared.ids.ServerId.{ServerId}
use Rattle.st_messages.specs.declared.message.Body.{Body}
use Rattle.st_messages.specs.declared.message.Body.TheVariants as bodies
use Rattle.st_rules.specs.declared.extents.Extent.{Extent}
use Rattle.st_rules.specs.Extents.{Extents}
use Rattle.st_rules.specs.Safety.{Promise, Step}
use Rattle.st_rules.specs.Server.{ServerNode}
use Rattle.st_rules.specs.World.{World, node_of}
use Rattle.st_lemmas.specs.Lists.{Has}
use Rattle.st_laws_names.specs.Keys.{ServedAt}
use Rattle.st_laws_volume.specs.Options.{OnSome}
use Rattle.st_laws_volume.specs.Witness.{are_claimed, led_to}
use Rattle.st_volume.specs.Volume.{Volume}

-- Each page lies on one block.
abbrev pub IsOnce : List Extent → Type 0
IsOnce rows = (d e : Extent) → Has d rows → Has e rows → d.file ≡ e.file → d.page ≡ e.page → d.at ≡ e.at

-- and its file is one of this server
pub record PagesLie (s : ServerId) (x : Extents) : Type 0 where
  pub once : IsOnce x.rows
  pub own : (e : Extent) → Has e x.rows → e.file.server ≡ s

abbrev pub AllLie : World → Type 0
AllLie w = (node : ServerNode) → Has node w.servers → PagesLie node.state.id node.state.stable.extents

-- Pages lie on one block: after every event.
abbrev pub PagesLieOnOneBlock : Promise
PagesLieOnOneBlock past x = AllLie x.after.world

-- In the volume room was wanted for each page that a server has mapped.
abbrev pub AllHaveRoom : World → Volume → Type 0
AllHaveRoom w v = (s : ServerId) (node : ServerNode) → node_of w s ≡ Some node → are_claimed v.claims node ≡ true

-- Room is wanted: as each event begins, if the volume has taken the steps of all events before it.
abbrev pub RoomIsWanted : Promise
RoomIsWanted past x = OnSome (AllHaveRoom x.before.world) (led_to past x).volume

-- A server served a request for a block of this page in this step.
pub record ServesBlock (x : Step) (s : ServerId) : Type 0 where
  pub client : ClientId
  pub life_ : ℕ
  pub epoch_ : ℕ
  pub number_ : ℕ
  pub reply : Body
  pub served : ServedAt x client s life_ epoch_ number_ reply
  pub ino : ℕ
  pub g : GrantNo
  pub page : PageNo
  pub count : ℕ
  pub asks : served.sent.message.body ≡ bodies.Allocate ino g page count

-- In the volume room was wanted for the page of each request for a block that is served in this step.
abbrev pub ServedHaveRoom : Step → Volume → Type 0
ServedHaveRoom x v = (s : ServerId) (z : ServesBlock x s) → Has (record { server = s; ino = z.ino }, z.page) v.claims

-- Room is wanted for the pages of served requests: as each event begins, if the volume has taken the steps of all events before it.
abbrev pub ServedPagesAreWanted : Promise
ServedPagesAreWanted past x = OnSome (ServedHaveRoom x) (led_to past x).volume
