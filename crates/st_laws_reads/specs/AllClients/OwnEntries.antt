-- What is pending of a page, at a client that has a lock on its file: only its own entries, and nothing if the page is not dirty.
use Rattle.std.specs.Prelude.{◌≡◌, ℕ, ◌≤◌, Option, None}
use Rattle.st_base.specs.declared.ids.NodeId.TheVariants as nodes
use Rattle.st_base.specs.declared.ids.PageNo.{PageNo}
use Rattle.st_messages.specs.declared.ask.Ask.{Ask}
use Rattle.st_rules.specs.ClientPages.{dirty_of}
use Rattle.st_rules.specs.ClientState.{Association}
use Rattle.st_rules.specs.FlatLog.{owner}
use Rattle.st_rules.specs.Keys.{client}
use Rattle.st_rules.specs.World.{World, WorldClient, clock_of}
use Rattle.st_protocol.specs.Assoc.{Config}
use Rattle.st_lemmas.specs.Lists.{Has}
use Rattle.st_laws_refine.specs.Views.Halves.{held_in}
use Rattle.st_laws_refine.specs.Client.Invariants.{Lasts}
use Rattle.st_laws_pages.specs.Disks.Folds.{CutsHard, OnlyOwn, SettledOn}
use Rattle.st_laws_leases.specs.Sides.World.{AllStand}
use Rattle.st_laws_reads.specs.Copies.Copies.{file_at}
use Rattle.st_laws_reads.specs.AllClients.Events.{FrozenStandAlone}
use Rattle.st_laws_reads.specs.AllClients.Law.{Running}
use Rattle.st_laws_reads.specs.AllClients.World.{CopiesHold}

-- In a world in which everything and the copies hold, what is pending of lives that are over stands alone, and cuts are hard: nothing is pending of a
-- page that is not dirty at a client that runs, while that client has a lock on the file under a lease that is not over.
abbrev pub LockedPagesAreSettled : Type 0
LockedPagesAreSettled =
    (asks : ℕ → ℕ → Option Ask) (k : Config) (count : ℕ) (w : World) (d : ℕ) (site : WorldClient) (a : Association) (ino : ℕ) (p : PageNo) →
    AllStand k count w → CopiesHold asks w → FrozenStandAlone w → CutsHard w.log → Running w d site → Has a site.node.state.associations →
    Lasts site.node.state.config.lease (clock_of w (nodes.Client (client d))).0 a.session → 1 ≤ (held_in a.session ino).mode →
    dirty_of a.store.pages ino p ≡ None → SettledOn (file_at a.server ino) p w.log

-- And what is pending of a page belongs to that client's present life, dirty or not.
abbrev pub LockedPagesAreOwn : Type 0
LockedPagesAreOwn =
    (asks : ℕ → ℕ → Option Ask) (k : Config) (count : ℕ) (w : World) (d : ℕ) (site : WorldClient) (a : Association) (ino : ℕ) (p : PageNo) →
    AllStand k count w → CopiesHold asks w → FrozenStandAlone w → CutsHard w.log → Running w d site → Has a site.node.state.associations →
    Lasts site.node.state.config.lease (clock_of w (nodes.Client (client d))).0 a.session → 1 ≤ (held_in a.session ino).mode →
    OnlyOwn (owner (client d) a.life (file_at a.server ino) p) (file_at a.server ino) p w.log
