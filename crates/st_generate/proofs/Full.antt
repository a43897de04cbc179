-- If the network is full, nothing is sent, so that a run sends few messages, and as many as one event may.
use Rattle.st_lemmas.proofs.Words
use Words.{◌≡◌, ◌*◌, ◌+◌, ◌<◌, ◌≤◌, ◌⊎◌, inl, inr, ℕ, Bool, true, false, List, [], ◌∷◌, length, Option, Some, None, Ok, Err, refl, sym, subst, arith}
use Words.{if◌then◌else◌, Result, nat_le, pred, cases_lt, le-leb, NodeId, Event, DiskCommand, WorldRefusal, SentMessage}
use Words.nodes
use Words.events
use Words.refusals
use Words.Admissible as adm
use Words.Disks.{command}
use Words.Events as ev
use Words.Events.{WorldTurn, counted, happens, summary, world_step}
use Words.Run.{run, go_on}
use Words.Server.{ServerNode}
use Words.World.{World, WorldClient, fresh_world, message_of, node_of, receiver_of, site_of}
use Words.Numbers.{set_length}
use Words.Generator as g
use Words.Truth.{or_second}
use Rattle.st_lemmas.proofs.Steps.{step_happens}
use Rattle.st_generate.specs.Law.{SendsFew, SendsFewOn, Sent_is_bounded}
use Rattle.st_generate.proofs.Sizes.{step_sized}

-- As many messages as before.
abbrev Quiet : World → World → Type 0
Quiet w v = length v.net.messages ≡ length w.net.messages

-- a full network is refused
not_full : (w : World) → adm.net_full w ≡ None → 536870912 ≤ w.net.bytes → ⊥
unfolding adm.stands
not_full w h l = go (nat_le 536870912 w.net.bytes) (le-leb 536870912 w.net.bytes l) h
  where
    go : (b : Bool) → b ≡ true → (if b then Some (refusals.NetFull w.net.bytes) else None) ≡ None → ⊥
    go true q e = cc
    go false q e = cc

-- who may take a step finds room
can_step : (w : World) (n : NodeId) → adm.cannot_step w n ≡ None → 536870912 ≤ w.net.bytes → ⊥
can_step w n h l = not_full w (or_second (adm.not_running w n) _ h) l

delivery : (w : World) (k : ℕ) (o : Option SentMessage) → adm.refused_delivery w k o ≡ None → 536870912 ≤ w.net.bytes → ⊥
unfolding adm.refused_delivery
delivery w k None h l = cc
delivery w k (Some m) h l = can_step w (receiver_of m) (or_second (adm.link_cut w m) _ (or_second (adm.is_lost k m) _ h)) l

report : (w : World) (k : ℕ) (ok : Bool) (o : Option DiskCommand) → adm.refused_report w k ok o ≡ None → 536870912 ≤ w.net.bytes → ⊥
unfolding adm.refused_report
report w k ok None h l = cc
report w k ok (Some d) h l = not_full w (or_second (adm.stands (adm.is_told ok d) (refusals.DiskState k)) _ h) l

-- What sends nothing.
loses : (w : World) (k : ℕ) (o : Option SentMessage) → Quiet w (ev.loses_message w k o)
unfolding ev.loses_message
loses w k None = refl
loses w k (Some m) = set_length w.net.messages (pred k) (record m { lost = true })

crashes : (w : World) (n : NodeId) → Quiet w (ev.crashes w n).world
unfolding ev.crashes ev.crashes_client ev.crashes_server ev.marks
crashes w (nodes.Client c) = go (site_of w c)
  where
    go : (o : Option WorldClient) → Quiet w (ev.crashes_client w c o).world
    go None = refl
    go (Some site) = refl
crashes w (nodes.Server s) = go (node_of w s)
  where
    go : (o : Option ServerNode) → Quiet w (ev.crashes_server w s o)
    go None = refl
    go (Some node) = refl

starts : (w : World) (n : NodeId) → Quiet w (ev.starts w n)
unfolding ev.starts ev.starts_client ev.starts_server
starts w (nodes.Client c) = go (site_of w c)
  where
    go : (o : Option WorldClient) → Quiet w (ev.starts_client w c o)
    go None = refl
    go (Some site) = refl
starts w (nodes.Server s) = go (node_of w s)
  where
    go : (o : Option ServerNode) → Quiet w (ev.starts_server w s o)
    go None = refl
    go (Some node) = refl

happens_full : (w : World) (e : Event) → adm.refusal w e ≡ None → 536870912 ≤ w.net.bytes → Quiet w (happens (counted w) e).world
unfolding happens ev.advances ev.effects ev.marks adm.refusal
happens_full w (events.Tick n) h l = absurd (can_step w n (or_second (adm.no_node w n) _ h) l)
happens_full w (events.App c ask) h l = absurd (can_step w (nodes.Client c) (or_second (adm.no_node w (nodes.Client c)) _ h) l)
happens_full w (events.Deliver k) h l = absurd (delivery w k (message_of w k) h l)
happens_full w (events.Lose k) h l = loses (counted w) k (message_of w k)
happens_full w (events.Cut from to) h l = refl
happens_full w (events.Heal from to) h l = refl
happens_full w (events.Advance steps) h l = refl
happens_full w (events.Effect k) h l = refl
happens_full w (events.Report k ok) h l = absurd (report w k ok (command w.disks k) h l)
happens_full w (events.Crash n) h l = crashes (counted w) n
happens_full w (events.Start n) h l = starts (counted w) n

full_sends_nothing : (w : World) (e : Event) (sc : WorldTurn) → world_step w e ≡ Ok sc → 536870912 ≤ w.net.bytes → Quiet w sc.world
full_sends_nothing w e sc h l = let z = step_happens w e sc h in subst (λ (x : WorldTurn). Quiet w x.world) (sym z.1) (happens_full w e z.0 l)

-- A run.
record Few (most : ℕ) (w : World) : Type 0 where
  bytes : 38 * length w.net.messages ≤ w.net.bytes
  sent : length w.net.messages ≤ 14128181 + most

few_after : (most : ℕ) (w : World) (e : Event) (sc : WorldTurn) → world_step w e ≡ Ok sc → length sc.world.net.messages ≤ length w.net.messages + most → Few most w → Few most sc.world
few_after most w e sc h less f =
    record {
      bytes = let x = f.bytes in let y = (step_sized w e sc h).bytes in omega (arith, x, y);
      sent = go (cases_lt w.net.bytes 536870912);
    }
  where
    go : (w.net.bytes < 536870912) ⊎ (536870912 ≤ w.net.bytes) → length sc.world.net.messages ≤ 14128181 + most
    go (inr full) = let z = full_sends_nothing w e sc h full in let y = f.sent in omega (arith, z, y)
    go (inl room) = let x = f.bytes in omega (arith, x, room, less)

few_in : (most : ℕ) (es : List Event) (w : World) → SendsFew most es w → Few most w → Few most (run es w).world
unfolding run go_on SendsFew
few_in most [] w s f = f
few_in most (e ∷ es) w s f = go (world_step w e) refl s (few_in most es)
  where
    go : (r : Result WorldTurn WorldRefusal) → world_step w e ≡ r → SendsFewOn most (SendsFew most es) w r →
        ((v : World) → SendsFew most es v → Few most v → Few most (run es v).world) → Few most (go_on (run es) w r).world
    go (Err x) q s h = f
    go (Ok sc) q s h = h sc.world s.1 (few_after most w e sc q s.0 f)

fresh_few : (most : ℕ) → Few most g.generator_world
unfolding g.generator_world fresh_world
fresh_few most = record { bytes = omega arith; sent = omega arith }

pub sent_is_bounded : Sent_is_bounded
unfolding g.work summary
sent_is_bounded most n seed s = (few_in most (g.generate n seed) g.generator_world s (fresh_few most)).sent
