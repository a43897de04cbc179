-- Which asks have a result: of the open ones only cuts and asks for names keep one from an event to the next, and no orphaned one has one.
use Rattle.std.specs.Prelude.{◌≡◌, Bool, true, ◌||◌, not, Some, None, is_some}
use Rattle.std.specs.List.{list_all}
use Rattle.st_rules.specs.Safety.{Promise}
use Rattle.st_lemmas.specs.Lists.{Has}
use Rattle.st_laws_volume.specs.Options.{OnSome}
use Rattle.st_laws_volume.specs.Witness.{led_by, led_to}
use Rattle.st_volume.specs.Volume.{Pending, Volume, is_cut_or_name}

-- it is a cut or an ask for a name, or hasn't taken effect
abbrev pub may_have_result : Pending → Bool
may_have_result a = is_cut_or_name a.ask || not (is_some a.result)

-- Results are of cuts and names: after every event, if the volume has taken the steps of all events so far.
abbrev pub ResultsAreOfCutsAndNames : Promise
ResultsAreOfCutsAndNames past x =
    OnSome (λ v. list_all may_have_result v.pending ≡ true) (led_by (led_to past x) x).volume

-- Orphans have no result: after every event, if the volume has taken the steps of all events so far.
abbrev pub OrphansHaveNone : Volume → Type 0
OrphansHaveNone v = (a : Pending) → Has a v.orphans → a.result ≡ None

abbrev pub OrphansHaveNoResult : Promise
OrphansHaveNoResult past x = OnSome OrphansHaveNone (led_by (led_to past x) x).volume
