-- Known extents are the servers', over whole runs.
use Rattle.std.specs.Prelude.{◌≡◌, ◌+◌, ℕ, true, List, [], Option, Some, None}
use Rattle.std.specs.List.{list_all}
use Rattle.st_base.specs.declared.config.Config.{Config}
use Rattle.st_messages.specs.declared.event.Event.{Event}
use Rattle.st_rules.specs.Events.{counted}
use Rattle.st_rules.specs.History.{traced}
use Rattle.st_rules.specs.Safety.{IsHead, Promise, Throughout, is_event, steps}
use Rattle.st_rules.specs.World.{fresh_world}
use Rattle.st_laws_reads.specs.Copies.World.{Taking, taken}
use Rattle.st_laws_extents.specs.Known.WritePlaces.{AllKnow, ExtentsTold, SubmitsLie}

-- What is left at a step: replies that are received tell extents as their servers have them.
abbrev pub IsTold : Promise
IsTold past x = ExtentsTold (taken (counted x.before.world) x.event)

-- A promise is kept in every run in which replies tell extents right.
abbrev pub InRunsTold : Promise → Type 0
InRunsTold promise =
    (k : Config) (clients servers disks blocks form : ℕ) (es : List Event) → IsHead k clients servers disks blocks form →
    list_all (is_event (clients + servers)) es ≡ true →
    Throughout IsTold [] (steps es (traced (fresh_world k clients servers disks blocks form))) →
    Throughout promise [] (steps es (traced (fresh_world k clients servers disks blocks form)))

-- after a step clients know where pages lie
abbrev pub KnownAfter : Promise
KnownAfter past x = AllKnow x.after.world

-- of what is taken
abbrev pub SubmitsOf : Option Taking → Type 0
SubmitsOf None = Unit {0}
SubmitsOf (Some x) = SubmitsLie x

-- at a step each write that is submitted goes to where the server has its page
abbrev pub SubmitsAt : Promise
SubmitsAt past x = SubmitsOf (taken (counted x.before.world) x.event)
