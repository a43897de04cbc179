-- A candidate in its place, and a try of a choice: what it gives, and what it leaves to the later ones.
use Rattle.std.specs.Prelude.{◌≡◌, Bool, ℕ, if◌then◌else◌, Option, Some, None}
use Rattle.st_messages.specs.declared.event.Event.{Event}
use Rattle.st_rules.specs.World.{World}
use Rattle.st_rules.specs.Generator.{candidate_in, try_first}

-- the event in its place, if one was found
abbrev pub found : Bool → Event → Option Event
found b e = if b then Some e else None

-- A try in a world, from one state to another: it gives an event, or leaves the choice to the later tries.
abbrev pub IsTry : World → ℕ → Option Event → ℕ → Type 0
IsTry w x None y = (later : ℕ → Event × ℕ) → try_first w later (candidate_in w x) ≡ later y
IsTry w x (Some e) y = (later : ℕ → Event × ℕ) → try_first w later (candidate_in w x) ≡ (e, y)
