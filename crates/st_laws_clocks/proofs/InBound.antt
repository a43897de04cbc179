-- The increments of a run are in bound: each advance that happened was not refused.
use Rattle.st_lemmas.proofs.Words
use Words.{◌≡◌, ℕ, zero, suc, ◌+◌, Bool, true, false, not, List, [], ◌∷◌, ◌++◌, length, take, refl, sym, ap, subst, ◌∙◌, inl, inr, eqb-true, arith, ◌⊎◌, ◌==◌}
use Words.{if◌then◌else◌, Option, Some, None, Result, Ok, Err, flat_map, list_all, Config, Event, Excess, WorldRefusal}
use Words.Tables.{and_true}
use Words.events
use Words.refusals
use Words.Admissible as admissible
use Words.Admissible.{clocks_refused, drift_refused, excess_with, rate_refused, stands}
use Words.Events.{WorldTurn, counted, drift_with, happens, world_step}
use Words.Leases.{AllAccepted, AllFull, AllRated, drift_after, drift_judged, drift_step, greatest_of, least_of, rate_ok}
use Words.Run.{go_on, run}
use Words.Safety.{is_event, is_increment}
use Words.World.{World, fresh_world}
use Words.Truth.{or_first}
use Rattle.st_lemmas.proofs.Steps.{step_happens}
use Rattle.st_rules.proofs.Drift.{accepted_in_bound}
use Rattle.st_rules.proofs.Rates.{rated_in_bound}
use Rattle.st_laws_clocks.specs.Increments.{ClocksAreInBound, EveryRunIsInBound, drift_after_all, increments, increments_of}
use Rattle.st_laws_clocks.proofs.Kept.{advance_keeps, others_keep, rates}

-- an event is an advance, or has no increments
kind : (e : Event) → (increments_of e ≡ []) ⊎ ((steps : List ℕ) × (e ≡ events.Advance steps))
kind (events.Tick n) = inl refl
kind (events.App c ask) = inl refl
kind (events.Deliver k) = inl refl
kind (events.Lose k) = inl refl
kind (events.Cut from to) = inl refl
kind (events.Heal from to) = inl refl
kind (events.Advance steps) = inr (steps, refl)
kind (events.Effect k) = inl refl
kind (events.Report k ok) = inl refl
kind (events.Crash n) = inl refl
kind (events.Start n) = inl refl

-- the increments of a run by its first step
increments_by : List Event → Event → World → Result WorldTurn WorldRefusal → List (List ℕ)
increments_by es e w r = flat_map increments_of (take (length (go_on (run es) w r).seen) (e ∷ es))

increments_first : (es : List Event) (e : Event) (w : World) → increments (e ∷ es) w ≡ increments_by es e w (world_step w e)
unfolding run increments_by
increments_first es e w = refl

increments_refused : (es : List Event) (e : Event) (w : World) (r : WorldRefusal) → increments_by es e w (Err r) ≡ []
unfolding go_on increments_by
increments_refused es e w r = refl

increments_on : (es : List Event) (e : Event) (w : World) (sc : WorldTurn) → increments_by es e w (Ok sc) ≡ increments_of e ++ increments es sc.world
unfolding go_on increments_by
increments_on es e w sc = refl

-- what a run without a first event has
increments_none : (w : World) → increments [] w ≡ []
unfolding run
increments_none w = refl

-- what the step keeps
module _ (w : World) (e : Event) (sc : WorldTurn) (h : world_step w e ≡ Ok sc) where
  happened : sc ≡ happens (counted w) e
  happened = (step_happens w e sc h).1

  allowed : admissible.refusal w e ≡ None
  allowed = (step_happens w e sc h).0

  rates_kept : increments_of e ≡ [] → rates sc.world ≡ rates w
  rates_kept none = ap (λ (t : WorldTurn). rates t.world) happened ∙ others_keep (counted w) e none

  rates_moved : (steps : List ℕ) → e ≡ events.Advance steps → rates sc.world ≡ (w.config, w.form, drift_with (counted w) steps)
  rates_moved steps same =
      ap (λ (t : WorldTurn). rates t.world) (happened ∙ ap (happens (counted w)) same) ∙ advance_keeps (counted w) steps

  clocks_allowed : (steps : List ℕ) → e ≡ events.Advance steps → clocks_refused w steps ≡ None
  unfolding admissible.refusal
  clocks_allowed steps same = or_first (clocks_refused w steps) _ (ap (admissible.refusal w) (sym same) ∙ allowed)

-- under the first form each advance is in bound
rate_allowed : (w : World) (steps : List ℕ) → (w.form == 1) ≡ true → clocks_refused w steps ≡ None → rate_ok steps w.config.num w.config.den ≡ true
unfolding clocks_refused stands
rate_allowed w steps f q =
    go (rate_ok steps w.config.num w.config.den) (refusals.ClockRate (greatest_of steps) (least_of steps))
    (subst (λ (b : Bool). (if b then rate_refused w steps else drift_refused w (excess_with w steps)) ≡ None) f q)
  where
    go : (b : Bool) (r : WorldRefusal) → stands (not b) r ≡ None → b ≡ true
    go true r q = refl
    go false r q = absurd cc

-- under the second each is accepted by the numbers of drift
drift_allowed : (w : World) (steps : List ℕ) → (w.form == 1) ≡ false → clocks_refused w steps ≡ None →
    drift_step w.drift steps w.config.num w.config.den w.config.grain ≡ Ok (drift_after w.drift steps w.config.num w.config.den)
unfolding clocks_refused drift_step drift_judged
drift_allowed w steps f q =
    go (excess_with w steps) (subst (λ (b : Bool). (if b then rate_refused w steps else drift_refused w (excess_with w steps)) ≡ None) f q)
  where
    go : (x : Option Excess) → drift_refused w x ≡ None →
        drift_judged (drift_after w.drift steps w.config.num w.config.den) x ≡ Ok (drift_after w.drift steps w.config.num w.config.den)
    go None q = refl
    go (Some x) q = absurd cc

-- the world counts it then
counts : (w : World) (steps : List ℕ) → (w.form == 1) ≡ false → drift_with (counted w) steps ≡ drift_after w.drift steps w.config.num w.config.den
unfolding drift_with
counts w steps f = ap (λ (b : Bool). if b then w.drift else drift_after w.drift steps w.config.num w.config.den) f

module _ (k : Config) where
  -- each advance of a run is in bound, under the first form
  abbrev IsRated : List Event → Type 0
  IsRated es = (w : World) → w.config ≡ k → (w.form == 1) ≡ true → AllRated k (increments es w)

  rated : (es : List Event) → IsRated es
  rated [] w c f = subst (AllRated k) (sym (increments_none w)) tt
  rated (e ∷ es) w c f = subst (AllRated k) (sym (increments_first es e w)) (go (λ v d g. rated es v d g) (world_step w e) refl)
    where
      by_kind : IsRated es → (sc : WorldTurn) → world_step w e ≡ Ok sc → (increments_of e ≡ []) ⊎ ((steps : List ℕ) × (e ≡ events.Advance steps)) →
          AllRated k (increments_of e ++ increments es sc.world)
      by_kind rest sc h (inl none) =
          let kept = rates_kept w e sc h none in
          subst (λ xs. AllRated k (xs ++ increments es sc.world)) (sym none)
          (rest sc.world (ap (λ r. r.0) kept ∙ c) (ap (λ r. r.1 == 1) kept ∙ f))
      by_kind rest sc h (inr (steps, same)) =
          let moved = rates_moved w e sc h steps same in
          subst (λ d. AllRated k (increments_of d ++ increments es sc.world)) (sym same) (
            subst (λ (j : Config). rate_ok steps j.num j.den ≡ true) c (rate_allowed w steps f (clocks_allowed w e sc h steps same)),
            rest sc.world (ap (λ r. r.0) moved ∙ c) (ap (λ r. r.1 == 1) moved ∙ f),
          )

      go : IsRated es → (r : Result WorldTurn WorldRefusal) → world_step w e ≡ r → AllRated k (increments_by es e w r)
      go rest (Err r) h = subst (AllRated k) (sym (increments_refused es e w r)) tt
      go rest (Ok sc) h = subst (AllRated k) (sym (increments_on es e w sc)) (by_kind rest sc h (kind e))

  -- accepted from the world's numbers on, and the numbers that the run leaves
  abbrev IsAccepted : List (List ℕ) → List (List ℕ) → List (List ℕ) → Type 0
  IsAccepted drift left advances = AllAccepted k drift advances × (left ≡ drift_after_all k drift advances)

  -- each advance of a run is accepted, under the second form
  abbrev AreAccepted : List Event → Type 0
  AreAccepted es = (w : World) → w.config ≡ k → (w.form == 1) ≡ false → IsAccepted w.drift (run es w).world.drift (increments es w)

  accepted : (es : List Event) → AreAccepted es
  unfolding run go_on drift_after_all increments_by
  accepted [] w c f = (tt, refl)
  accepted (e ∷ es) w c f = go (λ v d g. accepted es v d g) (world_step w e) refl
    where
      by_kind : AreAccepted es → (sc : WorldTurn) → world_step w e ≡ Ok sc → (increments_of e ≡ []) ⊎ ((steps : List ℕ) × (e ≡ events.Advance steps)) →
          IsAccepted w.drift (run es sc.world).world.drift (increments_of e ++ increments es sc.world)
      by_kind rest sc h (inl none) =
          let kept = rates_kept w e sc h none in
          subst (λ xs. IsAccepted w.drift (run es sc.world).world.drift (xs ++ increments es sc.world)) (sym none)
          (subst (λ d. IsAccepted d (run es sc.world).world.drift (increments es sc.world)) (ap (λ r. r.2) kept)
          (rest sc.world (ap (λ r. r.0) kept ∙ c) (ap (λ r. r.1 == 1) kept ∙ f)))
      by_kind rest sc h (inr (steps, same)) =
          let moved = rates_moved w e sc h steps same in
          let next : IsAccepted (drift_after w.drift steps k.num k.den) (run es sc.world).world.drift (increments es sc.world) =
          subst (λ d. IsAccepted d (run es sc.world).world.drift (increments es sc.world))
          (ap (λ r. r.2) moved ∙ counts w steps f ∙ ap (λ (j : Config). drift_after w.drift steps j.num j.den) c)
          (rest sc.world (ap (λ r. r.0) moved ∙ c) (ap (λ r. r.1 == 1) moved ∙ f)) in
          subst (λ d. IsAccepted w.drift (run es sc.world).world.drift (increments_of d ++ increments es sc.world)) (sym same) (
            (
              subst (λ (j : Config). drift_step w.drift steps j.num j.den j.grain ≡ Ok (drift_after w.drift steps j.num j.den)) c
                  (drift_allowed w steps f (clocks_allowed w e sc h steps same)),
              next.0,
            ),
            next.1,
          )

      go : AreAccepted es → (r : Result WorldTurn WorldRefusal) → world_step w e ≡ r →
          IsAccepted w.drift (go_on (run es) w r).world.drift (increments_by es e w r)
      go rest (Err r) h = (tt, refl)
      go rest (Ok sc) h = subst (IsAccepted w.drift (run es sc.world).world.drift) (sym (increments_on es e w sc)) (by_kind rest sc h (kind e))

-- every advance has an increment per node
full : (nodes : ℕ) (es : List Event) (m : ℕ) → list_all (is_event nodes) es ≡ true → AllFull nodes (flat_map increments_of (take m es))
full nodes es zero all = tt
full nodes [] (suc m) all = tt
full nodes (e ∷ es) (suc m) all = let both = and_true (is_event nodes e) (list_all (is_event nodes) es) all in by_event e both.0 (full nodes es m both.1)
  where
    by_event : (e : Event) → is_event nodes e ≡ true → AllFull nodes (flat_map increments_of (take m es)) →
        AllFull nodes (increments_of e ++ flat_map increments_of (take m es))
    by_event (events.Tick n) q rest = rest
    by_event (events.App c ask) q rest = rest
    by_event (events.Deliver k) q rest = rest
    by_event (events.Lose k) q rest = rest
    by_event (events.Cut from to) q rest = rest
    by_event (events.Heal from to) q rest = rest
    by_event (events.Advance steps) q rest = (eqb-true (length steps) nodes (and_true (length steps == nodes) (list_all is_increment steps) q).0, rest)
    by_event (events.Effect k) q rest = rest
    by_event (events.Report k ok) q rest = rest
    by_event (events.Crash n) q rest = rest
    by_event (events.Start n) q rest = rest

-- of a run from the world of a head
module _ (k : Config) (clients servers disks blocks form : ℕ) (es : List Event) (all : list_all (is_event (clients + servers)) es ≡ true) where
  start : World
  start = fresh_world k clients servers disks blocks form

  from_head : (b : Bool) → (form == 1) ≡ b → ClocksAreInBound k (clients + servers) form es start
  unfolding fresh_world start
  from_head true f = record {
    in_bound = rated_in_bound k (clients + servers) (increments es start) (full (clients + servers) es (length (run es start).seen) all)
        (rated k es start refl f);
    witness = λ two. absurd (omega (arith, two, eqb-true form 1 f));
  }
  from_head false f =
      let sound = accepted k es start refl f in
      record {
        in_bound = accepted_in_bound k (clients + servers) (increments es start) (full (clients + servers) es (length (run es start).seen) all) sound.0;
        witness = λ two. sound.1;
      }

pub every_run_is_in_bound : EveryRunIsInBound
unfolding start
every_run_is_in_bound k clients servers disks blocks form es head all = from_head k clients servers disks blocks form es all (form == 1) refl
