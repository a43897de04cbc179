-- Reads return the last writes, and the pages hold, if replies tell where the server has its pages.
use Rattle.std.specs.Prelude.{◌≡◌, ◌+◌, ℕ, true, List, []}
use Rattle.std.specs.List.{list_all}
use Rattle.st_base.specs.declared.config.Config.{Config}
use Rattle.st_messages.specs.declared.event.Event.{Event}
use Rattle.st_rules.specs.Events.{counted}
use Rattle.st_rules.specs.History.{traced}
use Rattle.st_rules.specs.Safety.{IsHead, Promise, Throughout, is_event, steps}
use Rattle.st_rules.specs.World.{fresh_world}
use Rattle.st_laws_reads.specs.Copies.World.{taken}
use Rattle.st_laws_extents.specs.Known.Law.{IsTold}
use Rattle.st_laws_extents.specs.DiskReads.Law.{TakenMaps}

-- What is owed at a step: a reply that is received tells extents as the server has them, and of no block only if it has none.
abbrev pub IsToldRight : Promise
IsToldRight past x = record { told : IsTold past x; maps : TakenMaps (taken (counted x.before.world) x.event) }

-- A promise is kept in every run in which each step has what is owed.
abbrev pub InRunsToldRight : Promise → Type 0
InRunsToldRight promise =
    (k : Config) (clients servers disks blocks form : ℕ) (es : List Event) → IsHead k clients servers disks blocks form →
    list_all (is_event (clients + servers)) es ≡ true →
    Throughout IsToldRight [] (steps es (traced (fresh_world k clients servers disks blocks form))) →
    Throughout promise [] (steps es (traced (fresh_world k clients servers disks blocks form)))
