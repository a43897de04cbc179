-- The run of a generated schedule: few messages in each event, and few commands in all.
use Rattle.st_lemmas.proofs.Words
use Words.{◌≡◌, ℕ, ◌+◌, ◌*◌, ◌≤◌, List, [], ◌∷◌, Ok, Err, refl, sym, subst, arith, Result, length, Event, WorldRefusal}
use Words.Events.{WorldTurn, counted, summary, world_step}
use Words.Run.{go_on, run}
use Words.World.{World}
use Words.Generator as g
use Rattle.st_lemmas.proofs.Steps.{step_happens}
use Rattle.st_generate.specs.Law.{Has_length, SendsFew, SendsFewOn, Sent_is_bounded}
use Rattle.st_laws_bounds.proofs.Counters.Events.{each_event}
use Rattle.st_laws_bounds.proofs.Counters.Robbing as robbed
use Rattle.st_laws_bounds.proofs.Counters.Robbing.{TheftsLow}
use Rattle.st_laws_bounds.specs.FewMessages.Few.{RunsAreFew}
use Rattle.st_laws_bounds.proofs.FewMessages.Events.{Before, Behind, Low, cases, fresh_low}

-- after an event
behind : (n : ℕ) (w : World) (e : Event) (sc : WorldTurn) → world_step w e ≡ Ok sc → TheftsLow n w → Low n w → Behind n (length w.net.messages) sc.world
behind n w e sc is thefts low =
    subst (λ (s : WorldTurn). Behind n (length w.net.messages) s.world) (sym (step_happens w e sc is).1)
    (each_event (Before n (length w.net.messages)) (Behind n (length w.net.messages)) (cases n (length w.net.messages)) (counted w) e
    (record {
      thefts = record { low = thefts.low; clients = thefts.clients };
      low = record { clients = low.clients; waits = low.waits; commands = low.commands };
      messages = refl;
    }))

-- What is wanted of the events from a world on, after n events.
record Ends (most n : ℕ) (es : List Event) (w : World) : Type 0 where
  sends : SendsFew (16 * most + 17) es w
  commands : length (run es w).world.commands ≤ 16468 * (n + length es)

ends : (most n : ℕ) (es : List Event) (w : World) → n + length es ≤ most → TheftsLow n w → Low n w → Ends most n es w
unfolding run go_on SendsFew
ends most n [] w few thefts low = record { sends = tt; commands = let c = low.commands in omega (arith, c) }
ends most n (e ∷ es) w few thefts low =
    let z = go (world_step w e) refl (λ v. ends most (n + 1) es v (omega (arith, few))) in record { sends = z.0; commands = z.1 }
  where
    go : (r : Result WorldTurn WorldRefusal) → world_step w e ≡ r → ((v : World) → TheftsLow (n + 1) v → Low (n + 1) v → Ends most (n + 1) es v) →
        SendsFewOn (16 * most + 17) (SendsFew (16 * most + 17) es) w r × (length (go_on (run es) w r).world.commands ≤ 16468 * (n + length (e ∷ es)))
    go (Err r) q f = (tt, let c = low.commands in omega (arith, c))
    go (Ok sc) q f =
        let b = behind n w e sc q thefts low in
        let z = f sc.world b.thefts b.low in
        let m = b.messages in let c = z.commands in
        ((omega (arith, m, few), z.sends), omega (arith, c))

pub runs_few : Has_length → Sent_is_bounded → RunsAreFew
unfolding g.generate g.work g.generator_world summary
runs_few long bounded n seed small =
    record {
      sent = let z = bounded (16 * 100000 + 17) n seed all.sends in omega (arith, z);
      commands = let c = all.commands in let l = long n seed in omega (arith, c, l, small);
    }
  where
    all : Ends 100000 0 (g.generate n seed) g.generator_world
    all = ends 100000 0 (g.generate n seed) g.generator_world (let l = long n seed in omega (arith, l, small)) (robbed.fresh_low g.settings 3 2 2 64 1) (fresh_low g.settings 3 2 2 64 1 (omega arith))
