-- The copies of all clients of a world.
use Rattle.std.specs.Prelude.{◌≡◌, ◌≢◌, ℕ, true, Option, Some}
use Rattle.st_base.specs.declared.ids.NodeId.TheVariants as nodes
use Rattle.st_messages.specs.declared.ask.Ask.{Ask}
use Rattle.st_rules.specs.declared.log.LogEntry.{LogEntry}
use Rattle.st_rules.specs.ClientState.{Association}
use Rattle.st_rules.specs.FlatLog.{is_of_life, is_pending}
use Rattle.st_rules.specs.Keys.{client}
use Rattle.st_rules.specs.World.{World, WorldClient, clock_of, site_of}
use Rattle.st_protocol.specs.Assoc.{Config}
use Rattle.st_lemmas.specs.Lists.{Has}
use Rattle.st_laws_leases.specs.Sides.World.{AllStand, There}
use Rattle.st_laws_reads.specs.Copies.Law.{ClientCopies}
use Rattle.st_laws_reads.specs.Copies.World.{Unheld}

-- a client of the world that runs
pub record Running (w : World) (c : ℕ) (site : WorldClient) : Type 0 where
  pub there : site_of w (client c) ≡ Some site
  pub runs : site.node.running ≡ true

-- an entry of the log that is pending, of the life of an association with a server that is there
pub record PendingHere (w : World) (c : ℕ) (a : Association) (e : LogEntry) : Type 0 where
  pub logged : Has e w.log
  pub pending : is_pending e.fate ≡ true
  pub own : is_of_life (client c) a.server a.life e.of ≡ true
  pub server : There w a.server

-- no lock of a client of the world on the file of an entry, under a lease that is not over
abbrev pub UnheldBy : World → ℕ → WorldClient → LogEntry → Type 0
UnheldBy w d site e = Unheld e.of.file site.node.state.config.lease (clock_of w (nodes.Client (client d))).0 site.node.state.associations

-- In a world in which everything holds: the copies of a client that runs, and an entry of one of its present lives that is pending, leave no other client that
-- runs a lock on the entry's file.
abbrev pub PendingPagesStandAlone : Type 0
PendingPagesStandAlone =
    (asked_as : ℕ → Option Ask) (k : Config) (count : ℕ) (w : World) (c d : ℕ) (site other : WorldClient) (a : Association) (e : LogEntry) →
    AllStand k count w → c ≢ d → Running w c site → Running w d other →
    ClientCopies asked_as (client c) w.log (clock_of w (nodes.Client (client c))) site.node.state → Has a site.node.state.associations →
    PendingHere w c a e → UnheldBy w d other e
