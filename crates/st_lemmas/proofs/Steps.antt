-- What every step of a run keeps: a promise over all steps, and a fact of the world over all events.
use Rattle.std.proofs.Common.{◌≡◌, ℕ, true, List, [], ◌∷◌, ◌++◌, Option, Some, None, Ok, Err, refl}
use Rattle.std.specs.List.{list_all}
use Rattle.std.specs.Prelude.{Result}
use Rattle.st_lemmas.proofs.Tables.{and_true}
use Rattle.st_messages.specs.declared.event.Event.{Event}
use Rattle.st_rules.specs.declared.observation.WorldRefusal.{WorldRefusal}
use Rattle.st_rules.specs.World.{World}
use Rattle.st_rules.specs.Admissible as admissible
use Rattle.st_rules.specs.Events.{WorldTurn, world_step, world_by, happens, counted}
use Rattle.st_rules.specs.History.{Traced, traced_after}
use Rattle.st_rules.specs.Run.{run, go_on}
use Rattle.st_rules.specs.Safety.{Step, Promise, Throughout, is_event, step, steps, steps_on}

-- an event that is not refused happens
pub step_happens : (w : World) (e : Event) (sc : WorldTurn) → world_step w e ≡ Ok sc → (admissible.refusal w e ≡ None) × (sc ≡ happens (counted w) e)
unfolding world_step world_by
step_happens w e sc h = go (admissible.refusal w e) refl h
  where
    go : (o : Option WorldRefusal) → admissible.refusal w e ≡ o → world_by w e o ≡ Ok sc → (admissible.refusal w e ≡ None) × (sc ≡ happens (counted w) e)
    go (Some r) f h = cc
    go None f h = (f, cc)

-- a promise holds throughout, if a fact of the past and the state gives it at each step and holds again after it
pub throughout : (promise : Promise) (Stands : List Step → Traced → Type 0) →
    ((past : List Step) (t : Traced) (e : Event) (sc : WorldTurn) → Stands past t → world_step t.world e ≡ Ok sc → promise past (step t e sc) × Stands (past ++ step t e sc ∷ []) (traced_after e t sc)) →
    (es : List Event) (past : List Step) (t : Traced) → Stands past t → Throughout promise past (steps es t)
unfolding steps steps_on Throughout
throughout promise Stands one [] past t s = tt
throughout promise Stands one (e ∷ es) past t s = go (world_step t.world e) refl (λ past t s. throughout promise Stands one es past t s)
  where
    go : (r : Result WorldTurn WorldRefusal) → world_step t.world e ≡ r → ((past : List Step) (t : Traced) → Stands past t → Throughout promise past (steps es t)) → Throughout promise past (steps_on (steps es) t e r)
    go (Err r) f h = tt
    go (Ok sc) f h = let q = one past t e sc s f in (q.0, h _ _ q.1)

-- a promise that needs no such fact
pub throughout_all : (promise : Promise) → ((past : List Step) (t : Traced) (e : Event) (sc : WorldTurn) → world_step t.world e ≡ Ok sc → promise past (step t e sc)) →
    (es : List Event) (past : List Step) (t : Traced) → Throughout promise past (steps es t)
throughout_all promise one es past t = throughout promise (λ past t. Unit {0}) (λ past t e sc s f. (one past t e sc f, tt)) es past t tt

-- a promise holds throughout if another one does, provided that this other one, with a fact of the past and the state, gives it at each step
pub throughout_under : (count : ℕ) (given promise : Promise) (Stands : List Step → Traced → Type 0) →
    ((past : List Step) (t : Traced) (e : Event) (sc : WorldTurn) → is_event count e ≡ true → Stands past t → world_step t.world e ≡ Ok sc →
    given past (step t e sc) → promise past (step t e sc) × Stands (past ++ step t e sc ∷ []) (traced_after e t sc)) →
    (es : List Event) → list_all (is_event count) es ≡ true → (past : List Step) (t : Traced) → Stands past t → Throughout given past (steps es t) →
    Throughout promise past (steps es t)
unfolding steps steps_on Throughout
throughout_under count given promise Stands one [] all past t s g = tt
throughout_under count given promise Stands one (e ∷ es) all past t s g =
    go (world_step t.world e) refl g (λ past t s g. throughout_under count given promise Stands one es (and_true _ _ all).1 past t s g)
  where
    go : (r : Result WorldTurn WorldRefusal) → world_step t.world e ≡ r → Throughout given past (steps_on (steps es) t e r) →
        ((past : List Step) (t : Traced) → Stands past t → Throughout given past (steps es t) → Throughout promise past (steps es t)) →
        Throughout promise past (steps_on (steps es) t e r)
    go (Err r) f g h = tt
    go (Ok sc) f g h = let q = one past t e sc (and_true _ _ all).0 s f g.0 in (q.0, h _ _ q.1 g.1)

-- a fact of the world holds at the end of a run, if each event keeps it
pub run_keeps : (Stands : World → Type 0) → ((w : World) (e : Event) (sc : WorldTurn) → Stands w → world_step w e ≡ Ok sc → Stands sc.world) →
    (es : List Event) (w : World) → Stands w → Stands (run es w).world
unfolding run go_on
run_keeps Stands one [] w s = s
run_keeps Stands one (e ∷ es) w s = go (world_step w e) refl (λ v s. run_keeps Stands one es v s)
  where
    go : (r : Result WorldTurn WorldRefusal) → world_step w e ≡ r → ((v : World) → Stands v → Stands (run es v).world) → Stands (go_on (run es) w r).world
    go (Err r) f h = s
    go (Ok sc) f h = h sc.world (one w e sc s f)
