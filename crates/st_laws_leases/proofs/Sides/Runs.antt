-- Everything holds after every event of every run.
use Rattle.st_lemmas.proofs.Words
use Words.{◌≡◌, ℕ, ◌+◌, true, ◌==◌, List, [], ◌∷◌, ◌++◌, Ok, Err, refl, sym, ◌∙◌, subst, ap, Result, length, list_all, eqb-true, Event, WorldRefusal}
use Words.events
use Words.Events.{WorldTurn, counted, world_step}
use Words.History.{Traced, traced, traced_after}
use Words.Safety.{ChangesAreLocked, DirtyPagesStandAlone, GraceWaits, NoConflictIsSent, IsHead, Promise, Step, TheftsComeLate, Throughout, is_event}
use Words.Safety.{is_increment, is_late, is_no_conflict, step, steps, steps_on}
use Words.World.{World, fresh_world}
use Words.Tables.{and_true}
use Rattle.st_base.specs.declared.config.Config as base
use Rattle.st_lemmas.proofs.Steps.{step_happens}
use Rattle.st_laws_refine.specs.Server.Pair.{terms_of}
use Rattle.st_protocol.specs.Assoc.{Config}
use Rattle.st_laws_leases.specs.Sides.Law.{InEveryRun, RunsStand}
use Rattle.st_laws_leases.specs.Sides.World.{AllStand, IsFull}
use Rattle.st_laws_leases.proofs.Sides.FirstWorld.{begun}
use Rattle.st_laws_leases.specs.Dates.Dates.{Dated}
use Rattle.st_laws_leases.proofs.Dates.Law as dated
use Rattle.st_laws_leases.proofs.History.RepliesLaw as replies
use Rattle.st_laws_leases.proofs.Sides.AllAssociations.{stays}
use Rattle.st_laws_leases.proofs.Sides.DirtyPages.{all_stand_alone}
use Rattle.st_laws_leases.proofs.Sides.Known.{fresh_known}
use Rattle.st_laws_leases.proofs.Sides.Locked.{ServersKnown, Written, both_locked, happens_written}
use Rattle.st_laws_leases.proofs.Sides.Promised.{graces_wait, no_conflicts, thefts_late}
use Rattle.st_laws_leases.proofs.Sides.Waiting.{waits_owed}
use Rattle.st_laws_pages.specs.LockedCuts.CutLocks.{WaitsHold}
use Rattle.st_laws_pages.proofs.LockedCuts.CutLaw.{steps_lock_cuts as cut_law}
use Rattle.st_laws_pages.proofs.Disks.Whole.{fresh_waits}

-- A promise holds throughout a run over events in their ranges, if a fact of the past and the state gives it at each step and holds again after it.
pub throughout_events : (count : ℕ) (promise : Promise) (Stands : List Step → Traced → Type 0) →
    ((past : List Step) (t : Traced) (e : Event) (sc : WorldTurn) → is_event count e ≡ true → Stands past t → world_step t.world e ≡ Ok sc → promise past (step t e sc) × Stands (past ++ step t e sc ∷ []) (traced_after e t sc)) →
    (es : List Event) → list_all (is_event count) es ≡ true → (past : List Step) (t : Traced) → Stands past t → Throughout promise past (steps es t)
unfolding steps steps_on Throughout
throughout_events count promise Stands one [] all past t s = tt
throughout_events count promise Stands one (e ∷ es) all past t s = go (world_step t.world e) refl (λ past t s. throughout_events count promise Stands one es (and_true _ _ all).1 past t s)
  where
    go : (r : Result WorldTurn WorldRefusal) → world_step t.world e ≡ r → ((past : List Step) (t : Traced) → Stands past t → Throughout promise past (steps es t)) → Throughout promise past (steps_on (steps es) t e r)
    go (Err r) f h = tt
    go (Ok sc) f h = let q = one past t e sc (and_true _ _ all).0 s f in (q.0, h _ _ q.1)

-- an advance has a step for each clock of a world of this number of nodes
pub full : (count : ℕ) (w : World) (e : Event) → length w.clocks ≡ count → is_event count e ≡ true → IsFull w e
full count w (events.Advance steps) l h = eqb-true (length steps) count (and_true (length steps == count) (list_all is_increment steps) h).0 ∙ sym l
full count w (events.Tick n) l h = tt
full count w (events.App c ask) l h = tt
full count w (events.Deliver n) l h = tt
full count w (events.Lose n) l h = tt
full count w (events.Cut x y) l h = tt
full count w (events.Heal x y) l h = tt
full count w (events.Effect n) l h = tt
full count w (events.Report n ok) l h = tt
full count w (events.Crash n) l h = tt
full count w (events.Start n) l h = tt

pub runs_stand : RunsStand
runs_stand k clients servers disks blocks form es head events =
    throughout_events (clients + servers) (λ past x. AllStand (terms_of k) (clients + servers) x.after.world) (λ past t. AllStand (terms_of k) (clients + servers) t.world)
    (λ past t e sc h s taken. let z = stays (terms_of k) (clients + servers) t.world e sc s (full (clients + servers) t.world e s.nodes h) taken in (z, z)) es events []
    (traced (fresh_world k clients servers disks blocks form)) (begun k clients servers disks blocks form head)

-- What holds after every event: all of a world, and the dates of the history.
record Behind (k : Config) (count : ℕ) (past : List Step) (t : Traced) : Type 0 where
  all : AllStand k count t.world
  dates : replies.Stands past t

behind : (k : Config) (count : ℕ) (past : List Step) (t : Traced) (e : Event) (sc : WorldTurn) → is_event count e ≡ true → Behind k count past t → world_step t.world e ≡ Ok sc → Behind k count (past ++ step t e sc ∷ []) (traced_after e t sc)
behind k count past t e sc h b taken =
    record { all = stays k count t.world e sc b.all (full count t.world e b.all.nodes h) taken; dates = (replies.one past t e sc b.dates taken).1 }

at_first : (k : base.Config) (clients servers disks blocks form : ℕ) → IsHead k clients servers disks blocks form →
    Behind (terms_of k) (clients + servers) [] (traced (fresh_world k clients servers disks blocks form))
at_first k clients servers disks blocks form head = record { all = begun k clients servers disks blocks form head; dates = replies.begun k clients servers disks blocks form }

-- thefts come late, in every run
pub thefts_come_late : InEveryRun TheftsComeLate
thefts_come_late k clients servers disks blocks form es head events =
    throughout_events (clients + servers) TheftsComeLate (Behind (terms_of k) (clients + servers))
    (λ past t e sc h b taken. (late past t e sc b taken, behind (terms_of k) (clients + servers) past t e sc h b taken)) es events []
    (traced (fresh_world k clients servers disks blocks form)) (at_first k clients servers disks blocks form head)
  where
    late : (past : List Step) (t : Traced) (e : Event) (sc : WorldTurn) → Behind (terms_of k) (clients + servers) past t → world_step t.world e ≡ Ok sc → TheftsComeLate past (step t e sc)
    late past t e sc b taken =
        let p = step_happens t.world e sc taken in
        subst (λ (x : WorldTurn). list_all (is_late t) x.seen ≡ true) (sym p.1)
        (thefts_late (terms_of k) t (clients + servers) b.all (replies.dates_stand past t b.dates) e p.0 (taken ∙ ap (λ (x : WorldTurn). Ok x) p.1))

-- graces wait, in every run
pub graces_wait_out : InEveryRun GraceWaits
graces_wait_out k clients servers disks blocks form es head events =
    throughout_events (clients + servers) GraceWaits (Behind (terms_of k) (clients + servers))
    (λ past t e sc h b taken. let z = behind (terms_of k) (clients + servers) past t e sc h b taken in
    (graces_wait (terms_of k) (traced_after e t sc) (clients + servers) z.all (replies.dates_stand (past ++ step t e sc ∷ []) (traced_after e t sc) z.dates), z)) es events []
    (traced (fresh_world k clients servers disks blocks form)) (at_first k clients servers disks blocks form head)

-- dirty pages stand alone, in every run
pub pages_stand_alone : InEveryRun DirtyPagesStandAlone
pages_stand_alone k clients servers disks blocks form es head events =
    throughout_events (clients + servers) DirtyPagesStandAlone (λ past t. AllStand (terms_of k) (clients + servers) t.world)
    (λ past t e sc h s taken. let z = stays (terms_of k) (clients + servers) t.world e sc s (full (clients + servers) t.world e s.nodes h) taken in
    (all_stand_alone (terms_of k) (clients + servers) sc.world z, z)) es events []
    (traced (fresh_world k clients servers disks blocks form)) (begun k clients servers disks blocks form head)

-- no conflict is sent, in every run
pub no_conflict_sent : InEveryRun NoConflictIsSent
no_conflict_sent k clients servers disks blocks form es head events =
    throughout_events (clients + servers) NoConflictIsSent Stand
    (λ past t e sc h b taken. (quiet past t e sc b taken, record { behind = behind (terms_of k) (clients + servers) past t e sc h b.behind taken; dated = (dated.one past t e sc b.dated taken).1 })) es events []
    (traced (fresh_world k clients servers disks blocks form))
    (record { behind = at_first k clients servers disks blocks form head; dated = dated.fresh_dated k clients servers disks blocks form head })
  where
    Stand : List Step → Traced → Type 0
    Stand past t = record { behind : Behind (terms_of k) (clients + servers) past t; dated : Dated past t }

    quiet : (past : List Step) (t : Traced) (e : Event) (sc : WorldTurn) → Stand past t → world_step t.world e ≡ Ok sc → NoConflictIsSent past (step t e sc)
    quiet past t e sc b taken =
        let p = step_happens t.world e sc taken in
        subst (λ (x : WorldTurn). list_all is_no_conflict x.seen ≡ true) (sym p.1)
        (no_conflicts (terms_of k) t (clients + servers) b.behind.all (replies.dates_stand past t b.behind.dates) past b.dated e p.0 (taken ∙ ap (λ (x : WorldTurn). Ok x) p.1))

-- What holds after every event for changes: all of a world, its lock tables, and the servers of its clients.
record Locking (k : Config) (count : ℕ) (w : World) : Type 0 where
  all : AllStand k count w
  waits : WaitsHold w
  known : ServersKnown w

-- changes are locked, in every run
pub changes_stay_locked : InEveryRun ChangesAreLocked
changes_stay_locked k clients servers disks blocks form es head events =
    throughout_events (clients + servers) ChangesAreLocked (λ past t. Locking (terms_of k) (clients + servers) t.world) (λ past t e sc h b taken. one past t e sc h b taken) es events []
    (traced (fresh_world k clients servers disks blocks form))
    (record { all = begun k clients servers disks blocks form head; waits = fresh_waits k clients servers disks blocks form; known = fresh_known k clients servers disks blocks form })
  where
    one : (past : List Step) (t : Traced) (e : Event) (sc : WorldTurn) → is_event (clients + servers) e ≡ true → Locking (terms_of k) (clients + servers) t.world → world_step t.world e ≡ Ok sc →
        ChangesAreLocked past (step t e sc) × Locking (terms_of k) (clients + servers) sc.world
    one past t e sc h b taken =
        let p = step_happens t.world e sc taken in
        let all : AllStand (terms_of k) (clients + servers) sc.world = stays (terms_of k) (clients + servers) t.world e sc b.all (full (clients + servers) t.world e b.all.nodes h) taken in
        let cut = cut_law t.world e sc taken (waits_owed (terms_of k) (clients + servers) t.world b.all e p.0) b.waits in
        let lives = b.all.fates.lives in
        let written = subst (Written (terms_of k) (clients + servers)) (sym p.1) (happens_written (terms_of k) (clients + servers) (counted t.world) e (record { lives = lives.lives; known = lives.known }) b.known) in
        (both_locked sc.world sc.seen cut.locked (written.locked all), record { all = all; waits = cut.holds; known = written.known })
