-- What becomes of pending entries when the lives of leases end.
use Rattle.std.specs.Prelude.{ℕ, if◌then◌else◌, List, [], ◌∷◌}
use Rattle.st_model.specs.Walks.{marked_fate}
use Rattle.st_rules.specs.declared.log.Fate.{Fate}
use Rattle.st_rules.specs.declared.log.Fate.TheVariants.{Pending, Gone}
use Rattle.st_rules.specs.declared.log.LogOwner.{LogOwner}
use Rattle.st_rules.specs.declared.world.IssuedCommand.{IssuedCommand}
use Rattle.st_rules.specs.declared.world.LeaseLife.{LeaseLife}
use Rattle.st_rules.specs.Events.{cause_at_end}
use Rattle.st_rules.specs.FlatLog.{is_of_life}

-- what becomes of a pending entry when a life ends
abbrev pub ended_by : List IssuedCommand → LeaseLife → LogOwner → Fate
ended_by cs e o = if is_of_life e.client e.server e.life o then Gone (cause_at_end cs e o.file o.page) else Pending

-- what becomes of it when these lives end, one after another: the first one that it is of
abbrev pub ends : List IssuedCommand → List LeaseLife → LogOwner → Fate
ends cs [] o = Pending
ends cs (e ∷ es) o = marked_fate (ended_by cs e o) (ends cs es o)

-- the same, by number and owner
abbrev pub becomes_at : List IssuedCommand → List LeaseLife → ℕ → LogOwner → Fate
becomes_at cs es number o = ends cs es o
