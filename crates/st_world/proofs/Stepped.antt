-- What a step of the world counts, and what it leaves in number.
use Rattle.st_lemmas.proofs.Words
use Words.{◌≡◌, true, List, length, refl, sym, ap, ◌∙◌, Option, Some, None, Ok, Event, Observation, WorldRefusal}
use Words.Admissible.{refusal}
use Words.Events.{WorldTurn, counted, happens, world_turn, world_by, world_step}
use Words.Safety.{is_event}
use Words.World.{World}
use Rattle.st_world.specs.Shapes.{SameShape}
use Rattle.st_world.specs.AdvanceTests.{IsLaid}
use Rattle.st_world.proofs.Admitted.{timed_any}
use Rattle.st_world.proofs.Shapes.{happens_shape}

moved : (w v : World) (x y : WorldTurn) → SameShape w x.world → x ≡ y → v ≡ y.world → SameShape w v
moved w v x y s h q =
    let z : x.world ≡ v = ap (λ (s : WorldTurn). s.world) h ∙ sym q in
    record {
      events = sym (ap (λ (u : World). u.tally.events) z) ∙ s.events;
      clocks = sym (ap (λ (u : World). length u.clocks) z) ∙ s.clocks;
      drift = sym (ap (λ (u : World). length u.drift) z) ∙ s.drift;
      clients = sym (ap (λ (u : World). length u.clients) z) ∙ s.clients;
      servers = sym (ap (λ (u : World). length u.servers) z) ∙ s.servers;
      config = sym (ap (λ (u : World). u.config) z) ∙ s.config;
    }

by : (w : World) (e : Event) (o : Option WorldRefusal) (new : World) (seen : List Observation) → SameShape (counted w) (happens (counted w) e).world → world_by w e o ≡ Ok (world_turn new seen) → SameShape (counted w) new
unfolding world_by
by w e None new seen s h = let q : happens (counted w) e ≡ world_turn new seen = cc in moved (counted w) new (happens (counted w) e) (world_turn new seen) s q refl
by w e (Some r) new seen s h = absurd (cc)

-- what a step leaves in number
pub stepped : (w new : World) (e : Event) (seen : List Observation) → IsLaid w → is_event (length w.clocks) e ≡ true → world_step w e ≡ Ok (world_turn new seen) → SameShape (counted w) new
unfolding world_step
stepped w new e seen l i h =
    by w e (refusal w e) new seen (happens_shape (counted w) e (λ steps q. let t = timed_any w e l i steps q in (t.nodes ∙ l.drift, t.nodes))) h

-- a step of an event that is not refused
pub admitted_is : (w : World) (e : Event) → refusal w e ≡ None → world_step w e ≡ Ok (happens (counted w) e)
unfolding world_step world_by
admitted_is w e a = ap (world_by w e) a
