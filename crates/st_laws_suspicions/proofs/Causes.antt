-- Suspicions have a cause, over whole runs of the third form in which the server never stops.
use Rattle.st_lemmas.proofs.Words
use Words.{◌≡◌, ℕ, true, List, [], ◌∷◌, ◌++◌, map, map-append, option_map, Option, Some, None, refl, sym, ap, ◌∙◌, subst, Config, LockRow, NodeId, ServerId}
use Words.{WorldRefusal}
use Words.events
use Words.nodes
use Words.Admissible as admissible
use Words.Lists.{Has}
use Words.Lookups.{some_is}
use Words.Server as server
use Words.Server.{ServerNode}
use Words.ServerInvariants.{are_once}
use Words.Truth.{not_both}
use Words.World.{clock_of, fresh_world, node_of}
use Rattle.st_laws_third.proofs.Moves.{elsewhere, moves}
use Rattle.st_laws_third.proofs.Sound.{Sound, numbered_map, sound_after, sound_first}
use Rattle.st_laws_waits.specs.Waits.{Runs}
use Rattle.st_laws_waits.proofs.Causes.{AllUnanswered, IsKnown, Moves, Steps, Rests, asks2, cause_of}
use Rattle.st_laws_waits.proofs.Standing.{node_is}
use Rattle.st_third.specs.declared.event.ThirdEvent.{ThirdEvent}
use Rattle.st_third.specs.declared.event.ThirdEvent.TheVariants as third
use Rattle.st_third.specs.declared.limits.Limits.{Limits}
use Rattle.st_third.specs.Events as every
use Rattle.st_third.specs.Events.{ThirdWorldTurn, third_counted}
use Rattle.st_third.specs.Limits.{limited_node, with_limits}
use Rattle.st_third.specs.Promises.{Throughout}
use Rattle.st_third.specs.Steps as steps
use Rattle.st_third.specs.Steps.{ThirdStep, ThirdTraced, plain_step}
use Rattle.st_third.specs.World as worlds
use Rattle.st_third.specs.World.{ThirdWorld, third_world}
use Rattle.st_laws_suspicions.specs.Suspicions.{HaveACause, ServerRuns, ThirdSuspicionsHaveACause}
use Rattle.st_laws_suspicions.proofs.Served.{Holds, IsServed, holds_on}
use Rattle.st_laws_suspicions.proofs.ServerEvents.{C, Outcome, Takes, Stays, Stops, IsOff, IsAbsent, outcome}

-- a start that isn't refused
start_free : (w : ThirdWorld) (e : ThirdEvent) → worlds.refusal w e ≡ None → (n : NodeId) → e ≡ third.Plain (events.Start n) →
    admissible.refusal (third_counted w).world (events.Start n) ≡ None
unfolding worlds.refusal worlds.plain_refusal admissible.refusal
start_free w e q n is = sym (ap (worlds.refusal w) is) ∙ q

module _ (k : Config) (s : ServerId) where
  known : (n : server.ServerState) → Holds C k s n → IsKnown k s n
  known n h =
      record {
        id = h.id;
        config = h.config;
        there = λ r i. found r (h.rows r i);
        once = h.once;
        lives = λ r i y e. let z = h.rows r i in ap (λ x. x.0)
            (ap (λ (v : Rattle.st_rules.specs.declared.sessions.Session.Session). v.life) (some_is (sym e ∙ z.is)) ∙ z.of_life);
      }
    where
      found : (r : LockRow) → IsServed C n.sessions r.client r.life →
          Rattle.std.specs.Prelude.is_some (Rattle.st_rules.specs.Sessions.session_of n.sessions r.client) ≡ true
      found r z = ap (λ o. Rattle.std.specs.Prelude.is_some o) z.is

  -- what holds after every event
  pub record Stand (past : List ThirdStep) (t : ThirdTraced) : Type 0 where
    pub sound : Sound t.third
    pub holds : (node : ServerNode) → node_of t.third.world s ≡ Some node → (node.running ≡ true) × Holds C k s node.state
    pub asks : AllUnanswered C k s (map plain_step past) t.third.world

  module _ (past : List ThirdStep) (t : ThirdTraced) (e : ThirdEvent) (b : Stand past t) (free : worlds.refusal t.third e ≡ None) where
    abbrev w : ThirdWorld
    w = third_counted t.third

    abbrev sc : ThirdWorldTurn
    sc = every.happens w e

    abbrev x : ThirdStep
    x = steps.third_step t e sc

    pub it : Outcome s w e sc
    it = outcome s w e b.sound.form (start_free t.third e free)

    module _ (g : Runs s sc.third.world) where
      pub moved : Outcome s w e sc → Moves C k s (plain_step x)
      moved (Takes old i at up arrives next clock says) =
          let h = (b.holds old at).1 in
          Steps old i at up arrives next clock says (known old.state h) (holds_on C k s old.state (clock_of w.world (nodes.Server s)) i h).once
      moved (Stays same deaf) = Rests same deaf
      moved (Stops new next off) = absurd (not_both g.node.running g.running (sym (ap (λ (n : ServerNode). n.running) (some_is (sym next ∙ g.is))) ∙ off))
      moved (IsOff old at off) = absurd (not_both old.running (b.holds old at).0 off)
      moved (IsAbsent before after) = absurd (no (sym after ∙ g.is))
        where
          no : ◌≡◌ {A = Option ServerNode} None (Some g.node) → ⊥
          no q = cc

      holds2 : Outcome s w e sc → (node : ServerNode) → node_of sc.third.world s ≡ Some node → (node.running ≡ true) × Holds C k s node.state
      holds2 (Takes old i at up arrives next clock says) node f =
          subst (λ (n : ServerNode). (n.running ≡ true) × Holds C k s n.state) (some_is (sym next ∙ f))
          (up, holds_on C k s old.state (clock_of w.world (nodes.Server s)) i (b.holds old at).1)
      holds2 (Stays same deaf) node f = b.holds node (sym same ∙ f)
      holds2 (Stops new next off) node f =
          absurd (not_both g.node.running g.running (sym (ap (λ (n : ServerNode). n.running) (some_is (sym next ∙ g.is))) ∙ off))
      holds2 (IsOff old at off) node f = absurd (not_both old.running (b.holds old at).0 off)
      holds2 (IsAbsent before after) node f = absurd (no (sym after ∙ f))
        where
          no : ◌≡◌ {A = Option ServerNode} None (Some node) → ⊥
          no q = cc

      pub stand2 : Stand (past ++ x ∷ []) (steps.traced_after e t sc)
      stand2 =
          record {
            sound = sound_after t.third sc.third b.sound (elsewhere t.third w sc.third refl refl (moves w e b.sound.form));
            holds = holds2 it;
            asks = subst (λ p. AllUnanswered C k s p sc.third.world) (sym (map-append plain_step past (x ∷ [])))
                (asks2 C k s (map plain_step past) (plain_step x) b.asks (moved it));
          }

      pub cause : HaveACause k s past x
      cause = cause_of C k s (map plain_step past) (plain_step x) b.asks (moved it)

  abbrev Goes_on : List ThirdEvent → Type 0
  Goes_on es =
      (past : List ThirdStep) (t : ThirdTraced) → Stand past t → Throughout (ServerRuns s) past (steps.steps es t) →
      Throughout (HaveACause k s) past (steps.steps es t)

  throughout : (es : List ThirdEvent) → Goes_on es
  unfolding Throughout steps.steps steps.steps_on every.world_step every.world_by
  throughout [] past t b h = tt
  throughout (e ∷ es) past t b h = go (throughout es) (worlds.refusal t.third e) refl h
    where
      go : Goes_on es → (r : Option WorldRefusal) → worlds.refusal t.third e ≡ r →
          Throughout (ServerRuns s) past (steps.steps_on (steps.steps es) t e (every.world_by t.third e r)) →
          Throughout (HaveACause k s) past (steps.steps_on (steps.steps es) t e (every.world_by t.third e r))
      go rest (Some r) q h = tt
      go rest None q h = (cause past t e b q h.0, rest _ _ (stand2 past t e b q h.0) h.1)

-- The start of a run.
module _ (k : Config) (m : Limits) (clients servers disks blocks : ℕ) (s : ServerId) where
  -- the server at the start
  pub first : (node : ServerNode) → node_of (third_world k m clients servers disks blocks 3).world s ≡ Some node →
      node ≡ limited_node m (Rattle.st_rules.specs.World.node_at_start k servers disks blocks s.0)
  unfolding third_world fresh_world with_limits
  first node e = go (node_of (fresh_world k clients servers disks blocks 3) s) refl
      (sym (numbered_map (limited_node m) (fresh_world k clients servers disks blocks 3).servers s.0) ∙ e)
    where
      go : (o : Option ServerNode) → node_of (fresh_world k clients servers disks blocks 3) s ≡ o → option_map (limited_node m) o ≡ Some node →
          node ≡ limited_node m (Rattle.st_rules.specs.World.node_at_start k servers disks blocks s.0)
      go None q r = cc r
      go (Some y) q r = sym (some_is r) ∙ ap (limited_node m) (node_is k clients servers disks blocks 3 s y q)

  begun : Holds C k s (limited_node m (Rattle.st_rules.specs.World.node_at_start k servers disks blocks s.0)).state
  unfolding server.fresh_server are_once
  begun = record { config = refl; id = refl; calm = refl; once = refl; rows = λ r i. absurd i; waits = λ w i. absurd i }

  runs : (limited_node m (Rattle.st_rules.specs.World.node_at_start k servers disks blocks s.0)).running ≡ true
  runs = refl

  no_rows : (r : LockRow) → Has r (limited_node m (Rattle.st_rules.specs.World.node_at_start k servers disks blocks s.0)).state.locks.rows → ⊥
  unfolding server.fresh_server
  no_rows r i = absurd i

  pub no_first_row : (node : ServerNode) → node_of (third_world k m clients servers disks blocks 3).world s ≡ Some node → (r : LockRow) →
      Has r node.state.locks.rows → ⊥
  no_first_row node f r i = no_rows r (subst (λ (n : ServerNode). Has r n.state.locks.rows) (first node f) i)

  pub begins : Stand k s [] (steps.third_traced (third_world k m clients servers disks blocks 3))
  begins =
      record {
        sound = sound_first k m clients servers disks blocks;
        holds = λ node f. subst (λ (n : ServerNode). (n.running ≡ true) × Holds C k s n.state) (sym (first node f)) (runs, begun);
        asks = λ node f up r at i. absurd (no_first_row node f r i);
      }

pub causes_law : ThirdSuspicionsHaveACause
causes_law k m clients servers disks blocks es s head runs =
    throughout k s es [] (steps.third_traced (third_world k m clients servers disks blocks 3)) (begins k m clients servers disks blocks s) runs
