-- What a step of the world returned, and the world that it left.
use Rattle.std.specs.Prelude.{◌≡◌, List, Result, Ok, Err}
use Rattle.st_rules.specs.declared.observation.Observation.{Observation}
use Rattle.st_rules.specs.declared.observation.WorldRefusal.{WorldRefusal}
use Rattle.st_rules.specs.World.{World}
use Rattle.st_rules.specs.Events.{WorldTurn, world_turn}
use Rattle.st_world.specs.declared.fault.WorldFault.{WorldFault}
use Rattle.st_world.specs.declared.fault.WorldFault.TheVariants.{Refused, Memory}

-- A step returned the observations of the definition and left its world, or its refusal and the world as it was; if memory ran out nothing is promised.
abbrev pub StepsAs : {V : Type 0} → (V → List Observation) → World → World → Result V WorldFault → Result WorldTurn WorldRefusal → Type 0
StepsAs seen old new (Ok v) step = step ≡ Ok (world_turn new (seen v))
StepsAs seen old new (Err (Refused f)) step = (step ≡ Err f) × (new ≡ old)
StepsAs seen old new (Err Memory) step = Unit {0}
