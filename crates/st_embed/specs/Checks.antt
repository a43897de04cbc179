-- What is checked before a step.
use Rattle.std.specs.Prelude.{◌≡◌, ◌≢◌, ℕ, ◌^◌, Bool, ◌&&◌, nat_le, List, [], Err}
use Rattle.st_base.specs.declared.ids.Stamp.{Stamp}
use Rattle.st_host_frames.specs.Frame.{received}
use Rattle.st_embed.specs.declared.fault.StepRefusal.{StepRefusal}
use Rattle.st_embed.specs.declared.fault.StepRefusal.TheVariants as refusals

-- a moment at which a step may be taken
abbrev pub is_in_time : Stamp → Stamp → Bool
is_in_time last now = nat_le last.0 now.0 && nat_le now.0 (2 ^ 62)

-- why a frame has no message for a step
abbrev pub IsMisread : List ℕ → StepRefusal → Type 0
IsMisread frame (refusals.Frame f) = received frame ≡ Err f
IsMisread frame refusals.Memory = Unit {0}
IsMisread frame r = ⊥

-- why some bytes may still be left to take out
abbrev pub IsUntaken : List ℕ → StepRefusal → Type 0
IsUntaken left refusals.Untaken = left ≢ []
IsUntaken left refusals.Memory = Unit {0}
IsUntaken left r = ⊥
