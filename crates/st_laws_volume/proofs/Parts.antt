-- A run of the volume goes on from where it led.
use Rattle.std.proofs.Common.{◌≡◌, List, [], ◌∷◌, ◌++◌, Option, Some, None, refl}
use Rattle.std.specs.Prelude.{option_and_then}
use Rattle.st_laws_volume.specs.Laws.{RunsInParts}
use Rattle.st_volume.specs.declared.step.VolumeStep.{VolumeStep}
use Rattle.st_volume.specs.Volume.{Volume, run, step}

-- after the first step
after_first : (xs ys : List VolumeStep) (o : Option Volume) → ((v : Volume) → run (xs ++ ys) v ≡ option_and_then (run ys) (run xs v)) → option_and_then (run (xs ++ ys)) o ≡ option_and_then (run ys) (option_and_then (run xs) o)
after_first xs ys None rest = refl
after_first xs ys (Some v) rest = rest v

pub in_parts : RunsInParts
unfolding run
in_parts [] ys v = refl
in_parts (x ∷ xs) ys v = after_first xs ys (step v x) (in_parts xs ys)
