-- What becomes of entries if no node takes a step: the volume takes these events.
use Rattle.std.specs.Prelude.{◌≡◌, Bool, true, false, is_some}
use Rattle.st_messages.specs.declared.event.Event.{Event}
use Rattle.st_messages.specs.declared.event.Event.TheVariants as events
use Rattle.st_rules.specs.Safety.{Promise}
use Rattle.st_laws_volume.specs.Witness.{led_by, led_to}

-- no node takes a step, and no clock advances
abbrev pub is_still : Event → Bool
is_still (events.Lose k) = true
is_still (events.Cut from to) = true
is_still (events.Heal from to) = true
is_still (events.Effect k) = true
is_still (events.Crash n) = true
is_still (events.Start n) = true
is_still e = false

-- Still events are taken: if the volume has taken the steps of all events before such an event, it
-- takes those of the event.
abbrev pub StillEventsAreTaken : Promise
StillEventsAreTaken past x =
    is_still x.event ≡ true
    → is_some (led_to past x).volume ≡ true
    → is_some (led_by (led_to past x) x).volume ≡ true
