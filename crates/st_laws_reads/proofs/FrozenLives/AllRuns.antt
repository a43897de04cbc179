-- What is pending of lives that are over stands alone at each step of every run.
use Rattle.st_lemmas.proofs.Words
use Words.{◌≡◌, ℕ, ◌+◌, true, List, [], ◌∷◌, ◌++◌, Ok, Err, refl, Result, list_all, Event, WorldRefusal}
use Words.Events.{WorldTurn, world_step}
use Words.History.{Traced, traced, traced_after}
use Words.Safety as safety
use Words.Safety.{Step, Throughout, is_event, step, steps}
use Words.World.{fresh_world}
use Words.Tables.{and_true}
use Rattle.st_protocol.specs.Assoc.{Config}
use Rattle.st_laws_pages.specs.Asks.Law.{PlacesAfter, PlacesHold}
use Rattle.st_laws_pages.proofs.Asks.Law.{places_law}
use Rattle.st_laws_pages.proofs.Causes.Law.{Stand, fresh_places, fresh_stand, one_step}
use Rattle.st_laws_refine.specs.Server.Pair.{terms_of}
use Rattle.st_laws_leases.specs.Sides.Law.{InEveryRun}
use Rattle.st_laws_leases.proofs.Sides.Runs.{full}
use Rattle.st_laws_reads.specs.FrozenLives.PendingEntries.{FrozenAreAlone, FrozenHold}
use Rattle.st_laws_reads.proofs.FrozenLives.Law.{alone, events_keep, first}

-- What holds after the steps of a run.
record Stood (k : Config) (count : ℕ) (past : List Step) (t : Traced) : Type 0 where
  places : PlacesHold t.world
  stand : Stand past t
  frozen_lives : FrozenHold k count t.world

run : (k : Config) (count : ℕ) (es : List Event) → list_all (is_event count) es ≡ true → (past : List Step) (t : Traced) → Stood k count past t → Throughout PlacesAfter past (steps es t) → Throughout FrozenAreAlone past (steps es t)
unfolding steps safety.steps_on Throughout
run k count [] all past t s o = tt
run k count (e ∷ es) all past t s o = go (world_step t.world e) refl o (λ past t. run k count es (and_true (is_event count e) (list_all (is_event count) es) all).1 past t)
  where
    go : (r : Result WorldTurn WorldRefusal) → world_step t.world e ≡ r → Throughout PlacesAfter past (safety.steps_on (steps es) t e r) →
        ((past : List Step) (t : Traced) → Stood k count past t → Throughout PlacesAfter past (steps es t) → Throughout FrozenAreAlone past (steps es t)) → Throughout FrozenAreAlone past (safety.steps_on (steps es) t e r)
    go (Err r) q o f = tt
    go (Ok sc) q o f =
        let is_full = full count t.world e s.frozen_lives.all.nodes (and_true (is_event count e) (list_all (is_event count) es) all).0 in (
          alone past k count t.world s.frozen_lives s.stand.both.flush,
          f (past ++ step t e sc ∷ []) (traced_after e t sc)
              (record { places = o.0; stand = (one_step past t e sc q s.places s.stand).stand; frozen_lives = events_keep past k count t.world e sc s.frozen_lives s.stand.both.flush is_full q }) o.1,
        )

pub runs_alone : InEveryRun FrozenAreAlone
runs_alone k clients servers disks blocks form es head events =
    run (terms_of k) (clients + servers) es events [] (traced (fresh_world k clients servers disks blocks form))
    (record { places = fresh_places k clients servers disks blocks form; stand = fresh_stand k clients servers disks blocks form; frozen_lives = first k clients servers disks blocks form head })
    (places_law k clients servers disks blocks form es head)
