-- In every run the log of the volume is the world's.
use Rattle.std.proofs.Common.{◌≡◌, ℕ, ◌+◌, true, ◌==◌, List, [], ◌∷◌, ◌++◌, length, Option, Some, None, refl, sym, ◌∙◌, subst}
use Rattle.std.proofs.lemmas.Bool.{eqb-true}
use Rattle.st_base.specs.declared.config.Config.{Config}
use Rattle.st_rules.specs.declared.log.LogEntry.{LogEntry}
use Rattle.st_rules.specs.History.{Traced, traced}
use Rattle.st_rules.specs.Lines.{IsLogTold, log_told}
use Rattle.st_rules.specs.Safety.{Step, TheReportTellsTheLog, step}
use Rattle.st_rules.specs.World.{fresh_world}
use Rattle.st_promises.specs.Safe.{EveryRunIsSafe}
use Rattle.st_laws_volume.specs.Logs.{InEveryRun, IsLogOf, LogsAgree}
use Rattle.st_laws_volume.specs.Options.{OnSome}
use Rattle.st_laws_volume.specs.Witness.{Witness, begun, if_told, led_by, steps_of, volume_after}
use Rattle.st_laws_volume.proofs.Carried.{IsKept, carried}
use Rattle.st_laws_volume.proofs.LogEntries.{first_all, same_first, same_length}
use Rattle.st_laws_volume.proofs.LogLines.{event_told}
use Rattle.st_laws_volume.proofs.LogSteps.{IsTold}
use Rattle.st_laws_volume.proofs.Options.{on_more, on_then, on_true}
use Rattle.st_volume.specs.Volume.{Volume, run}

-- If each entry has had its line, these are all entries.
pub told_of : (os : List LogEntry) (v : Volume) → IsLogOf os v → IsTold os v
told_of os v h = record { lines = h.lines ∙ same_length os v.log h.entries; first = same_first os v.log h.entries }

pub all_told : (os : List LogEntry) (v : Volume) → (v.lines == length v.log) ≡ true → IsTold os v → IsLogOf os v
all_told os v e h = let n = eqb-true _ _ e in record { lines = n; entries = first_all os v.log (sym n ∙ h.lines) h.first }

if_all_told : (os : List LogEntry) (v : Volume) → IsTold os v → OnSome (IsLogOf os) (if_told v)
if_all_told os v h = on_true (IsLogOf os) (v.lines == length v.log) (Some v) (λ e. all_told os v e h)

-- An event keeps it.
after_log : (t : Witness) (x : Step) (o : Option Volume) → IsLogTold x.after.world x.before.world.log x.seen → OnSome (IsLogOf x.before.world.log) o →
    OnSome (IsLogOf x.after.world.log) (volume_after t x o)
after_log t x None g h = tt
after_log t x (Some v) g h =
    on_then (IsLogOf x.after.world.log) if_told (run (steps_of t v x) v)
    (on_more (IsTold (log_told x.after.world x.before.world.log x.seen)) (λ u. OnSome (IsLogOf x.after.world.log) (if_told u))
    (λ u k. if_all_told x.after.world.log u (subst (λ os. IsTold os u) g.entries k)) (run (steps_of t v x) v)
    (event_told t v v x (told_of x.before.world.log v h)))

abbrev pub LogHolds : List Step → Traced → Witness → Type 0
LogHolds past t it = OnSome (IsLogOf t.world.log) it.volume

pub log_kept : IsKept TheReportTellsTheLog LogHolds
unfolding led_by
log_kept past t e sc it f g h = after_log it (step t e sc) it.volume g h

-- At the start both are empty.
pub log_begins : (k : Config) (clients servers disks blocks form : ℕ) →
    LogHolds [] (traced (fresh_world k clients servers disks blocks form))
    (begun (fresh_world k clients servers disks blocks form) (fresh_world k clients servers disks blocks form))
unfolding fresh_world begun
log_begins k clients servers disks blocks form = record { lines = refl; entries = tt }

pub logs_agree : EveryRunIsSafe → InEveryRun LogsAgree
logs_agree safe k clients servers disks blocks form es head events =
    carried TheReportTellsTheLog LogHolds log_kept es (traced (fresh_world k clients servers disks blocks form))
    (log_begins k clients servers disks blocks form)
    (safe k clients servers disks blocks form es head events).told
