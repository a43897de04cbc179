-- The asks of the volume are what clients were asked.
use Rattle.std.specs.Prelude.{◌≡◌, List, [], ◌∷◌, ◌++◌, Some, ⊤}
use Rattle.st_rules.specs.Safety.{Promise, Step, ask_of}
use Rattle.st_laws_volume.specs.Options.{OnSome}
use Rattle.st_laws_volume.specs.Witness.{led_by, led_to}
use Rattle.st_volume.specs.Volume.{Pending}

-- what its client was asked under its number, up to a step
abbrev pub IsAsAsked : List Step → Step → Pending → Type 0
IsAsAsked past x a = ask_of past x a.client a.op ≡ Some a.ask

abbrev pub AllAsAsked : List Step → Step → List Pending → Type 0
AllAsAsked past x [] = ⊤
AllAsAsked past x (a ∷ rest) = IsAsAsked past x a × AllAsAsked past x rest

-- Asks are as asked: after every event, if the volume has taken the steps of all events so far, each open ask and each orphaned one is.
abbrev pub AsksAreAsAsked : Promise
AsksAreAsAsked past x = OnSome (λ v. AllAsAsked past x (v.pending ++ v.orphans)) (led_by (led_to past x) x).volume
