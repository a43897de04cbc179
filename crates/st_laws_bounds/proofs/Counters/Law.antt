-- The laws, in every world that a run reaches.
use Rattle.st_lemmas.proofs.Words
use Words.{◌≡◌, ℕ, ◌+◌, true, List, [], ◌∷◌, Ok, Err, refl, sym, subst, arith, Result, list_all, Config, Event, WorldRefusal}
use Words.Events as ev
use Words.Events.{WorldTurn, counted, world_step}
use Words.Safety.{IsHead, is_event}
use Words.Run.{run, go_on}
use Words.World.{World, fresh_world}
use Words.Tables.{and_true}
use Rattle.st_lemmas.proofs.Steps.{run_keeps, step_happens}
use Rattle.st_protocol.specs.Assoc.{Config as Terms}
use Rattle.st_laws_leases.specs.Sides.World.{AllStand}
use Rattle.st_laws_leases.proofs.Sides.FirstWorld.{begun}
use Rattle.st_laws_leases.proofs.Sides.AllAssociations.{stays}
use Rattle.st_laws_leases.proofs.Sides.Runs.{full}
use Rattle.st_laws_refine.specs.Server.Pair.{terms_of}
use Rattle.st_laws_bounds.specs.Counters.Counts.{ClientsFew, LocksFew, ReadsFew, ServersFew, TheftsFew}
use Rattle.st_laws_bounds.specs.Counters.ReachedWorlds.{InEveryReached}
use Rattle.st_laws_bounds.proofs.Counters.Asking as asked
use Rattle.st_laws_bounds.proofs.Counters.Asking.{ReadsLow}
use Rattle.st_laws_bounds.proofs.Counters.Clients.{SitesLow, cases, fresh_low}
use Rattle.st_laws_bounds.proofs.Counters.Events.{Cases, each_event}
use Rattle.st_laws_bounds.proofs.Counters.Robbing as robbed
use Rattle.st_laws_bounds.proofs.Counters.Robbing.{TheftsLow}
use Rattle.st_laws_bounds.proofs.Counters.Servers as nodes
use Rattle.st_laws_bounds.proofs.Counters.Servers.{NodesLow}
use Rattle.st_laws_bounds.proofs.Counters.Tallies.{EventsAre, events_cases}

-- what holds in the world of each head, and after each event if it held before, holds in every reached world
pub every_reached : (Stands : World → Type 0) → ((k : Config) (clients servers d b form : ℕ) → IsHead k clients servers d b form → Stands (fresh_world k clients servers d b form)) →
    ((w : World) (e : Event) → Stands w → Stands (ev.happens (counted w) e).world) → InEveryReached Stands
every_reached Stands fresh one k clients servers d b form es w r =
    subst Stands r.world (run_keeps Stands (λ v e sc h is. subst (λ (s : WorldTurn). Stands s.world) (sym (step_happens v e sc is).1) (one v e h)) es (fresh_world k clients servers d b form) (fresh k clients servers d b form r.head))

-- a fact of a world and of how many events were
abbrev pub AtEvents : (ℕ → World → Type 0) → World → Type 0
AtEvents fact w = fact w.tally.events w

-- if each event leads from this many to one more
pub counted_reached : (fact : ℕ → World → Type 0) → ((n : ℕ) (w : World) → fact n w → fact n (counted w)) → ((n : ℕ) → Cases (fact n) (fact (n + 1))) →
    ((k : Config) (clients servers d b form : ℕ) → IsHead k clients servers d b form → fact 0 (fresh_world k clients servers d b form)) → InEveryReached (AtEvents fact)
unfolding fresh_world
counted_reached fact more each fresh =
    every_reached (AtEvents fact) fresh
    (λ w e h.
    let v = (ev.happens (counted w) e).world in
    subst (λ n. fact n v) (sym (each_event (EventsAre (w.tally.events + 1)) (EventsAre (w.tally.events + 1)) (events_cases (w.tally.events + 1)) (counted w) e refl))
    (each_event (fact w.tally.events) (fact (w.tally.events + 1)) (each w.tally.events) (counted w) e (more w.tally.events w h)))

-- Clients.
pub clients_law : InEveryReached ClientsFew
clients_law k clients servers d b form es w r c site e =
    let z = counted_reached SitesLow (λ n v h c site e. let x = h c site e in record { asks = x.asks; starts = x.starts; commands = x.commands; associations = λ a i. let f = x.associations a i in record { versions = f.versions; lives = f.lives; requests = f.requests } }) cases (λ k clients servers d b form head. fresh_low k clients servers d b form) k clients servers d b form es w r c site e in
    record { asks = z.asks; starts = z.starts; commands = z.commands; associations = z.associations }

-- Servers.
pub servers_law : InEveryReached ServersFew
servers_law k clients servers d b form es w r s node e =
    let z = counted_reached NodesLow (λ n v h s node e. h s node e) nodes.cases nodes.fresh_low k clients servers d b form es w r s node e in
    record { epochs = z.epochs; inodes = z.inodes; births = z.births }

-- Locks: the invariant of every server bounds how many there are.
all_stands : (k : Terms) (count : ℕ) (es : List Event) (w : World) → list_all (is_event count) es ≡ true → AllStand k count w → AllStand k count (run es w).world
unfolding run go_on
all_stands k count [] w h a = a
all_stands k count (e ∷ es) w h a = go (world_step w e) refl (λ v b. all_stands k count es v (and_true (is_event count e) (list_all (is_event count) es) h).1 b)
  where
    go : (x : Result WorldTurn WorldRefusal) → world_step w e ≡ x → ((v : World) → AllStand k count v → AllStand k count (run es v).world) → AllStand k count (go_on (run es) w x).world
    go (Err r) q f = a
    go (Ok sc) q f = f sc.world (stays k count w e sc a (full count w e a.nodes (and_true (is_event count e) (list_all (is_event count) es) h).0) q)

pub locks_law : InEveryReached LocksFew
locks_law k clients servers d b form es w r s node e =
    let a = subst (AllStand (terms_of k) (clients + servers)) r.world (all_stands (terms_of k) (clients + servers) es (fresh_world k clients servers d b form) r.events (begun k clients servers d b form r.head)) in
    (a.servers s.0 node e).few.few

-- Reads.
pub reads_law : InEveryReached ReadsFew
reads_law k clients servers d b form es w r =
    let z = (counted_reached ReadsLow (λ n v h. record { low = h.low; apart = h.apart }) asked.cases (λ k clients servers d b form head. asked.fresh_low k clients servers d b form) k clients servers d b form es w r).low in
    omega (arith, z)

-- Thefts.
pub thefts_law : InEveryReached TheftsFew
thefts_law k clients servers d b form es w r =
    (counted_reached TheftsLow (λ n v h. record { low = h.low; clients = h.clients }) robbed.cases (λ k clients servers d b form head. robbed.fresh_low k clients servers d b form) k clients servers d b form es w r).low
