-- Before the head was read.
use Rattle.std.proofs.Common.{◌≡◌, ℕ, refl}
use Rattle.std.specs.Prelude.{Option, Some, None}
use Rattle.st_rules.specs.World.{World}
use Rattle.st_schedule.specs.declared.reader.Progress.{Progress}
use Rattle.st_schedule.specs.declared.reader.Progress.TheVariants as progress
use Rattle.st_replay.specs.States.{IsHere}

-- a player without a world has read nothing, and the next line is the first one
pub first_here : (o : Option World) (p : Progress) (line : ℕ) → o ≡ None → IsHere o p line → (p ≡ progress.Nothing) × (line ≡ 1)
first_here None progress.Nothing line e h = (refl, h)
first_here None (progress.Reading form counts done) line e h = absurd h
first_here None progress.Ended line e h = absurd h
first_here (Some w) p line e h = absurd (cc)
