-- Reads return the last writes, and the pages hold, under only what is owed for maps, reads, cuts and submitted writes.
use Rattle.std.specs.Prelude.{◌≡◌, ℕ, true, [], Option, Some, None}
use Rattle.st_base.specs.declared.ids.GrantNo.{GrantNo}
use Rattle.st_base.specs.declared.ids.PageNo.{PageNo}
use Rattle.st_messages.specs.declared.message.Body.{Body}
use Rattle.st_messages.specs.declared.message.Body.TheVariants as bodies
use Rattle.st_messages.specs.declared.message.Header.{Header}
use Rattle.st_rules.specs.declared.client.ClientInput.{ClientInput}
use Rattle.st_rules.specs.declared.client.ClientInput.TheVariants as inputs
use Rattle.st_rules.specs.declared.client.Request.{Request}
use Rattle.st_rules.specs.Client.{losses}
use Rattle.st_rules.specs.ClientReplies.{is_counting, is_current}
use Rattle.st_rules.specs.ClientState.{Association, ClientSession, client_turn}
use Rattle.st_rules.specs.Events.{counted}
use Rattle.st_rules.specs.Keys.{server_node}
use Rattle.st_rules.specs.Safety.{Promise}
use Rattle.st_rules.specs.World.{World}
use Rattle.st_lemmas.specs.Lists.{Has}
use Rattle.st_laws_pages.specs.Disks.World.{mapped_in}
use Rattle.st_laws_reads.specs.Copies.Copies.{file_at}
use Rattle.st_laws_reads.specs.Copies.World.{Taking, now_at, taken}
use Rattle.st_laws_reads.specs.AllClients.Obligations.{CutsAsked, LeftOf}
use Rattle.st_laws_extents.specs.Submits.Obligations.{PagesLeft}

-- A map's reply that a client receives under the lock under which it asked, and that tells of no block: the server has none for the page.
abbrev pub UnmappedTold : World → Association → Header → Body → Type 0
UnmappedTold w a h body =
    (s : ClientSession) (q : Request) (ino : ℕ) (g : GrantNo) (p : PageNo) → a.session ≡ Some s → h.from ≡ server_node a.server →
    h.life ≡ a.life.0 → h.epoch ≡ s.epoch.0 → s.requests.asked ≡ Some q → q.body ≡ bodies.Map ino g p → body ≡ bodies.Extents ino [] →
    is_counting h.number body q ≡ true → is_current s.locks q.body ≡ true → mapped_in w (file_at a.server ino) p ≡ None

-- at each server of a client, after its losses
abbrev pub MapsTold : Taking → Header → Body → Type 0
MapsTold x h body = (a : Association) → Has a (losses (client_turn x.site.node.state []) (now_at x)).state.associations → UnmappedTold x.world a h body

-- What is owed of an input: of a message that its map is right, of the end of a command that a read found the bytes of its page.
abbrev pub InputRest : Taking → ClientInput → Type 0
InputRest x inputs.Tick = Unit {0}
InputRest x (inputs.App op ask) = Unit {0}
InputRest x (inputs.Control m) = MapsTold x m.header m.body
InputRest x (inputs.Done number result) = LeftOf x

-- of what is taken
abbrev pub TakenRest : Option Taking → Type 0
TakenRest None = Unit {0}
TakenRest (Some x) = InputRest x x.input

-- What is owed at a step.
abbrev pub IsRest : Promise
IsRest past x = record { taken : TakenRest (taken (counted x.before.world) x.event); cuts : CutsAsked x; pages : PagesLeft past x }
