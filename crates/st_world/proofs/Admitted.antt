-- What an event that is not refused meets.
use Rattle.st_lemmas.proofs.Words
use Words.{◌≡◌, ℕ, ◌≤◌, ◌^◌, Bool, true, false, not, ◌==◌, List, [], ◌∷◌, length, arith, refl, sym, ap, ◌∙◌, if◌then◌else◌, Option, Some, None, list_all}
use Words.{and_parts, eqb-true, leb-true, lt-ltb, NodeId, Event}
use Words.nodes
use Words.events
use Words.refusals
use Words.Admissible.{cannot_step, clocks_refused, drift_refused, excess_with, flush_missed, net_full, no_node, not_running, rate_refused, refusal}
use Words.Admissible.{still_running}
use Words.Events.{counted}
use Words.Safety.{is_event, is_increment}
use Words.World.{World, all_clients, is_running}
use Words.Worlds.{no_excess, stands_not}
use Words.Tables.{not_false}
use Rattle.std.specs.Option.{option_or}
use Rattle.st_world_parts.specs.Clocks.{is_step}
use Rattle.st_world_events.specs.Advances.{IsAccepted}
use Rattle.st_world_events.specs.Readiness.{IsMet, IsReady}
use Rattle.st_world.specs.AdvanceTests.{IsLaid, IsTimed}
use Rattle.st_world.specs.Counters.{CountersHaveRoom}

neither : {A : Type 0} (o rest : Option A) → option_or o rest ≡ None → (o ≡ None) × (rest ≡ None)
neither None rest h = (refl, h)
neither (Some x) rest h = absurd (cc)

pub small_steps : (steps : List ℕ) → list_all is_increment steps ≡ true → list_all is_step steps ≡ true
small_steps [] h = refl
small_steps (d ∷ ds) h =
    let p = and_parts (is_increment d) (list_all is_increment ds) h in
    let low : d ≤ 4294967295 = leb-true d 4294967295 p.0 in
    let here : is_step d ≡ true = lt-ltb d (2 ^ 32) (omega (arith, low)) in
    rw here (small_steps ds p.1)

-- the test of an advance may be made
pub timed : (w : World) (steps : List ℕ) → IsLaid w → is_event (length w.clocks) (events.Advance steps) ≡ true → IsTimed w steps
timed w steps l h =
    let p = and_parts (length steps == length w.clocks) (list_all is_increment steps) h in
    let len : length steps ≡ length w.clocks = eqb-true (length steps) (length w.clocks) p.0 in
    record {
      some = omega (arith, len, l.nodes, l.some);
      most = omega (arith, len, l.nodes, l.few, l.clients);
      nodes = len ∙ sym l.drift;
      clocks = l.clocks;
      small = small_steps steps p.1;
      rate = l.rate;
      grain = l.grain;
    }

-- the same, of any event
pub timed_any : (w : World) (e : Event) → IsLaid w → is_event (length w.clocks) e ≡ true → (steps : List ℕ) → e ≡ events.Advance steps → IsTimed w steps
timed_any w e l h steps q = timed w steps l (sym (ap (is_event (length w.clocks)) q) ∙ h)

by_form : (b : Bool) (w : World) (steps : List ℕ) → (if b then rate_refused w steps else drift_refused w (excess_with w steps)) ≡ None → b ≡ false → excess_with w steps ≡ None
by_form true w steps h e = absurd (cc)
by_form false w steps h e = no_excess w (excess_with w steps) h

accepted : (w : World) (steps : List ℕ) → IsTimed w steps → IsLaid w → clocks_refused w steps ≡ None → IsAccepted w steps
unfolding clocks_refused
accepted w steps t l h =
    record {
      each = t.nodes ∙ l.drift;
      nodes = t.nodes;
      clocks = t.clocks;
      small = t.small;
      rate = t.rate;
      grain = t.grain;
      drift = by_form (w.form == 1) w steps h;
    }

again : (w : World) (steps : List ℕ) → IsAccepted w steps → IsAccepted (counted w) steps
again w steps a = record { each = a.each; nodes = a.nodes; clocks = a.clocks; small = a.small; rate = a.rate; grain = a.grain; drift = a.drift }

same_running : (w : World) (n : NodeId) → is_running (counted w) n ≡ is_running w n
same_running w (nodes.Client c) = refl
same_running w (nodes.Server s) = refl

-- what an event meets that is not refused, one event later in the count
pub met : (w : World) (e : Event) → IsLaid w → is_event (length w.clocks) e ≡ true → refusal w e ≡ None → IsMet (counted w) e
unfolding refusal
met w (events.Tick n) l i h = tt
met w (events.App c ask) l i h =
    let n = nodes.Client c in
    let may = neither (no_node w n) (cannot_step w n) h in
    let runs = neither (not_running w n) (net_full w) may.1 in
    (i, not_false (is_running w n) (stands_not (not (is_running w n)) (refusals.NotRunning n) runs.0))
met w (events.Deliver k) l i h = tt
met w (events.Lose k) l i h = tt
met w (events.Cut from to) l i h = tt
met w (events.Heal from to) l i h = tt
met w (events.Advance steps) l i h =
    again w steps (accepted w steps (timed w steps l i) l (neither (clocks_refused w steps) (flush_missed w steps (all_clients w)) h).0)
met w (events.Effect k) l i h = tt
met w (events.Report k ok) l i h = tt
met w (events.Crash n) l i h = tt
met w (events.Start n) l i h =
    same_running w n ∙ stands_not (is_running w n) (refusals.Running n) (neither (no_node w n) (still_running w n) h).1

-- a world whose counters have room is ready, one event later in the count
pub ready : (w : World) → IsLaid w → CountersHaveRoom w → IsReady (counted w)
ready w l r = record { some = l.some; few = l.few; clients = l.clients; clocks = l.clocks; reads = r.reads; stolen = r.stolen }
