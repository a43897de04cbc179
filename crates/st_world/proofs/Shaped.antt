-- The shape of every world to which a run leads.
use Rattle.st_lemmas.proofs.Words
use Words.{◌≡◌, ℕ, zero, suc, ◌+◌, ◌*◌, ◌^◌, ◌≤◌, Bool, true, false, List, [], ◌∷◌, ◌++◌, length, refl, sym, ap, ◌∙◌, subst, arith, if◌then◌else◌, Result, Ok}
use Words.{Err, ◌&&◌, ◌==◌, map, nat_le, nat_lt, Option, Some, None, list_all, and_parts, eqb-true, leb-true, le-leb, Config, Stamp, Event, WorldRefusal}
use Words.config_refusals as faults
use Words.events
use Words.Admissible.{refusal}
use Words.Events.{WorldTurn, advanced, counted, happens, world_by, world_step}
use Words.Extents.{numbers}
use Words.Leases.{no_drift}
use Words.Run.{go_on, run}
use Words.Safety.{IsHead, is_event, is_increment}
use Words.World.{World, client_clock, fresh_site, fresh_world, node_at_start, server_clock}
use Words.Lengths.{length_map, numbers_length}
use Rattle.std.specs.Prelude.{replicate}
use Rattle.st_base.specs.Config.{check, check_demand, check_grain, check_length, check_rate, demands_fit, grain_fits, lease_is_short, phases_rise}
use Rattle.st_base.specs.Config.{rate_is_sound}
use Rattle.st_base.specs.declared.config.ConfigRefusal.{ConfigRefusal}
use Rattle.st_world_parts.specs.Clocks.{is_at_most}
use Rattle.st_world_parts.proofs.Later.{advanced_low}
use Rattle.st_messages.specs.declared.event.Counts.{Counts}
use Rattle.st_world.specs.Heads.{HasCounts}
use Rattle.st_world.specs.ReachedWorlds.{IsReached}
use Rattle.st_world.specs.Shapes.{HasSteps, IsAfter, IsShaped, SameShape, SameTime}
use Rattle.st_world.specs.AdvanceTests.{IsLaid}
use Rattle.st_world.proofs.Admitted.{small_steps}
use Rattle.st_world.proofs.Shapes.{happens_after}

-- An event.
low_at : (m n : ℕ) (xs ys : List Stamp) → list_all (is_at_most m) ys ≡ true → m ≡ n → xs ≡ ys → list_all (is_at_most n) xs ≡ true
low_at m n xs ys h p q = rw (sym p) (rw q h)

one_event_later : (m n : ℕ) → m ≡ n + 1 → (4000 + n * 2 ^ 32) + 2 ^ 32 ≡ 4000 + m * 2 ^ 32
one_event_later m n h = omega (arith, h)

by_advance : (k : Config) (clients servers : ℕ) (w v : World) (steps : List ℕ) → IsShaped k clients servers w → list_all is_increment steps ≡ true →
    SameShape (counted w) v → v.clocks ≡ advanced steps w.clocks → IsShaped k clients servers v
by_advance k clients servers w v steps s i a c =
    record {
      config = a.config ∙ s.config;
      sites = a.clients ∙ s.sites;
      nodes = a.servers ∙ s.nodes;
      clocks = a.clocks ∙ s.clocks;
      drift = a.drift ∙ s.drift;
      low = low_at ((4000 + w.tally.events * 2 ^ 32) + 2 ^ 32) (4000 + v.tally.events * 2 ^ 32) v.clocks (advanced steps w.clocks)
          (advanced_low (4000 + w.tally.events * 2 ^ 32) steps w.clocks s.low (small_steps steps i)) (one_event_later v.tally.events w.tally.events a.events) c;
    }

by_other : (k : Config) (clients servers : ℕ) (w v : World) → IsShaped k clients servers w → SameTime (counted w) v → IsShaped k clients servers v
unfolding advanced
by_other k clients servers w v s a =
    record {
      config = a.config ∙ s.config;
      sites = a.clients ∙ s.sites;
      nodes = a.servers ∙ s.nodes;
      clocks = ap length a.clocks ∙ s.clocks;
      drift = ap length a.drift ∙ s.drift;
      low = low_at ((4000 + w.tally.events * 2 ^ 32) + 2 ^ 32) (4000 + v.tally.events * 2 ^ 32) v.clocks w.clocks
          (advanced_low (4000 + w.tally.events * 2 ^ 32) [] w.clocks s.low refl) (one_event_later v.tally.events w.tally.events a.events) a.clocks;
    }

by_event : (k : Config) (clients servers : ℕ) (w v : World) (e : Event) → IsShaped k clients servers w → is_event (clients + servers) e ≡ true → IsAfter (counted w) v e → IsShaped k clients servers v
by_event k clients servers w v (events.Advance steps) s i a = by_advance k clients servers w v steps s (and_parts (length steps == clients + servers) (list_all is_increment steps) i).1 a.0 a.1
by_event k clients servers w v e s i a = by_other k clients servers w v s a

has_steps : (k : Config) (clients servers : ℕ) (w : World) (e : Event) → IsShaped k clients servers w → is_event (clients + servers) e ≡ true → HasSteps (counted w) e
has_steps k clients servers w e s i steps q =
    let h : is_event (clients + servers) (events.Advance steps) ≡ true = sym (ap (is_event (clients + servers)) q) ∙ i in
    let p = and_parts (length steps == clients + servers) (list_all is_increment steps) h in
    let l : length steps ≡ clients + servers = eqb-true (length steps) (clients + servers) p.0 in
    (l ∙ sym s.clocks, l ∙ sym s.drift)

happened : (w : World) (e : Event) (o : Option WorldRefusal) (sc : WorldTurn) → world_by w e o ≡ Ok sc → happens (counted w) e ≡ sc
unfolding world_by
happened w e None sc h = cc
happened w e (Some r) sc h = absurd (cc)

-- what an event leaves
pub shaped_step : (k : Config) (clients servers : ℕ) (w : World) (e : Event) (sc : WorldTurn) → IsShaped k clients servers w → is_event (clients + servers) e ≡ true → world_step w e ≡ Ok sc → IsShaped k clients servers sc.world
unfolding world_step
shaped_step k clients servers w e sc s i h =
    subst (λ (x : WorldTurn). IsShaped k clients servers x.world) (happened w e (refusal w e) sc h)
    (by_event k clients servers w (happens (counted w) e).world e s i (happens_after (counted w) e (has_steps k clients servers w e s i)))

-- Runs.
shaped_go : (k : Config) (clients servers : ℕ) (es : List Event) (w : World) (e : Event) (x : Result WorldTurn WorldRefusal) → world_step w e ≡ x →
    IsShaped k clients servers w → is_event (clients + servers) e ≡ true → ((v : World) → IsShaped k clients servers v → IsShaped k clients servers (run es v).world) →
    IsShaped k clients servers (go_on (run es) w x).world
unfolding go_on
shaped_go k clients servers es w e (Err r) q s i rest = s
shaped_go k clients servers es w e (Ok sc) q s i rest = rest sc.world (shaped_step k clients servers w e sc s i q)

shaped_on : (k : Config) (clients servers : ℕ) (es : List Event) (w : World) → IsShaped k clients servers w → list_all (is_event (clients + servers)) es ≡ true → IsShaped k clients servers (run es w).world
unfolding run
shaped_on k clients servers [] w s i = s
shaped_on k clients servers (e ∷ es) w s i =
    let p = and_parts (is_event (clients + servers) e) (list_all (is_event (clients + servers)) es) i in
    shaped_go k clients servers es w e (world_step w e) refl s p.0 (λ v t. shaped_on k clients servers es v t p.1)

-- The beginning.

length_both : {A : Type 0} (xs ys : List A) → length (xs ++ ys) ≡ length xs + length ys
length_both [] ys = omega arith
length_both (x ∷ xs) ys = let z = length_both xs ys in omega (arith, z)

length_same : {A : Type 0} (n : ℕ) (x : A) → length (replicate n x) ≡ n
length_same zero x = refl
length_same (suc n) x = ap suc (length_same n x)

counted_off : {B : Type 0} (f : ℕ → B) (c : ℕ) → length (map f (numbers 1 c)) ≡ c
counted_off f c = length_map f (numbers 1 c) ∙ numbers_length 1 c

all_both : {A : Type 0} (p : A → Bool) (xs ys : List A) → list_all p xs ≡ true → list_all p ys ≡ true → list_all p (xs ++ ys) ≡ true
all_both p [] ys h k = k
all_both p (x ∷ xs) ys h k = let q = and_parts (p x) (list_all p xs) h in rw q.0 (all_both p xs ys q.1 k)

clients_low : (a c : ℕ) → list_all (is_at_most 4000) (map client_clock (numbers a c)) ≡ true
unfolding numbers
clients_low a zero = refl
clients_low a (suc c) = clients_low (a + 1) c

servers_low : (a c : ℕ) → a + c ≤ 5 → list_all (is_at_most 4000) (map server_clock (numbers a c)) ≡ true
unfolding numbers
servers_low a zero l = refl
servers_low a (suc c) l =
    let here : nat_le (1000 * a) 4000 ≡ true = le-leb (1000 * a) 4000 (omega (arith, l)) in
    rw here (servers_low (a + 1) c (omega (arith, l)))

shaped_fresh : (k : Config) (clients servers disks blocks form : ℕ) → servers ≤ 4 → IsShaped k clients servers (fresh_world k clients servers disks blocks form)
unfolding fresh_world no_drift
shaped_fresh k clients servers disks blocks form few =
    let xs = map client_clock (numbers 1 clients) in
    let ys = map server_clock (numbers 1 servers) in
    let cs : length xs ≡ clients = counted_off client_clock clients in
    let ss : length ys ≡ servers = counted_off server_clock servers in
    let both = length_both xs ys in
    record {
      config = refl;
      sites = counted_off (fresh_site k servers) clients;
      nodes = counted_off (node_at_start k servers disks blocks) servers;
      clocks = omega (arith, both, cs, ss);
      drift = length_same (clients + servers) (replicate (clients + servers) 0);
      low = all_both (is_at_most 4000) xs ys (clients_low 1 clients) (servers_low 1 servers (omega (arith, few)));
    }

-- The settings of a head.
if_ok : (b : Bool) (x : Result Unit ConfigRefusal) (f : ConfigRefusal) → (if b then x else Err f) ≡ Ok tt → (b ≡ true) × (x ≡ Ok tt)
if_ok true x f h = (refl, h)
if_ok false x f h = absurd (cc)

settings : (k : Config) → check k ≡ Ok tt → (k.den ≤ 1048576) × (k.grain ≤ 2 ^ 40)
settings k h =
    let a = if_ok (phases_rise k) (check_rate k) faults.Order h in
    let b = if_ok (rate_is_sound k) (check_length k) faults.Rate a.1 in
    let c = if_ok (lease_is_short k) (check_demand k) faults.TooLong b.1 in
    let d = if_ok (demands_fit k) (check_grain k) faults.Demand c.1 in
    let e = if_ok (grain_fits k) (Ok tt) faults.Grain d.1 in
    let r = and_parts (nat_lt 0 k.den) (nat_le k.den k.num && nat_le k.num 1048576) b.0 in
    let s = and_parts (nat_le k.den k.num) (nat_le k.num 1048576) r.1 in
    let den : k.den ≤ k.num = leb-true k.den k.num s.0 in
    let num : k.num ≤ 1048576 = leb-true k.num 1048576 s.1 in
    let lease : k.lease ≤ 2 ^ 40 = leb-true k.lease (2 ^ 40) c.0 in
    let grain : k.grain ≤ k.lease = leb-true k.grain k.lease e.0 in
    (omega (arith, den, num), omega (arith, grain, lease))

-- the shape of a world to which a run leads
pub shaped : (w : World) (r : IsReached w) → IsShaped r.config r.clients r.servers w
shaped w r =
    let q = and_parts (nat_le 1 r.servers) (nat_le r.servers 4) r.by.head.some_servers in
    let few : r.servers ≤ 4 = leb-true r.servers 4 q.1 in
    subst (λ (v : World). IsShaped r.config r.clients r.servers v) r.by.world
    (shaped_on r.config r.clients r.servers r.events (fresh_world r.config r.clients r.servers r.disks r.blocks r.form) (shaped_fresh r.config r.clients r.servers r.disks r.blocks r.form few) r.by.events)

lower : (m n : ℕ) (ts : List Stamp) → m ≤ n → list_all (is_at_most m) ts ≡ true → list_all (is_at_most n) ts ≡ true
lower m n [] l h = refl
lower m n (t ∷ ts) l h =
    let p = and_parts (nat_le t.0 m) (list_all (is_at_most m) ts) h in
    let at : t.0 ≤ m = leb-true t.0 m p.0 in
    let here : nat_le t.0 n ≡ true = le-leb t.0 n (omega (arith, at, l)) in
    rw here (lower m n ts l p.1)

-- what the tests of events need of it
pub laid : (w : World) → IsReached w → w.tally.events ≤ 2 ^ 29 → IsLaid w
laid w r n =
    let s = shaped w r in
    let p = and_parts (nat_le 1 r.clients) (nat_le r.clients 16) r.by.head.some_clients in
    let q = and_parts (nat_le 1 r.servers) (nat_le r.servers 4) r.by.head.some_servers in
    let most : r.clients ≤ 16 = leb-true r.clients 16 p.1 in
    let some : 1 ≤ r.servers = leb-true 1 r.servers q.0 in
    let few : r.servers ≤ 4 = leb-true r.servers 4 q.1 in
    let c = s.config in
    let k = settings r.config r.by.head.sound in
    record {
      some = omega (arith, some, s.nodes);
      few = omega (arith, few, s.nodes);
      clients = omega (arith, most, s.sites);
      nodes = omega (arith, s.clocks, s.sites, s.nodes);
      drift = s.drift ∙ sym s.clocks;
      clocks = lower (4000 + w.tally.events * 2 ^ 32) (2 ^ 62) w.clocks (omega (arith, n)) s.low;
      rate = subst (λ (x : Config). x.den ≤ 1048576) (sym c) k.0;
      grain = subst (λ (x : Config). x.grain ≤ 2 ^ 40) (sym c) k.1;
    }

-- its clients are few
pub few_clients : (w : World) → IsReached w → length w.clients ≤ 16
few_clients w r =
    let p = and_parts (nat_le 1 r.clients) (nat_le r.clients 16) r.by.head.some_clients in
    let most : r.clients ≤ 16 = leb-true r.clients 16 p.1 in
    let s = (shaped w r).sites in
    omega (arith, most, s)

-- a head stays one with one node of each kind
pub least_head : (k : Config) (clients servers disks blocks form : ℕ) → IsHead k clients servers disks blocks form → IsHead k 1 1 1 blocks form
least_head k clients servers disks blocks form h =
    record { sound = h.sound; some_clients = refl; some_servers = refl; enough_disks = refl; some_blocks = h.some_blocks; known_form = h.known_form }

-- the counts of a head are in their ranges
pub head_counts : (k : Config) (n : Counts) (form : ℕ) → IsHead k n.clients n.servers n.disks n.blocks form → HasCounts n
head_counts k n form h =
    let c = and_parts (nat_le 1 n.clients) (nat_le n.clients 16) h.some_clients in
    let s = and_parts (nat_le 1 n.servers) (nat_le n.servers 4) h.some_servers in
    let d = and_parts (nat_le n.servers n.disks) (nat_le n.disks 8) h.enough_disks in
    let b = and_parts (nat_le 1 n.blocks) (nat_le n.blocks 4096) h.some_blocks in
    record {
      some_clients = leb-true 1 n.clients c.0;
      clients = leb-true n.clients 16 c.1;
      some_servers = leb-true 1 n.servers s.0;
      servers = leb-true n.servers 4 s.1;
      some_disks = leb-true n.servers n.disks d.0;
      disks = leb-true n.disks 8 d.1;
      some_blocks = leb-true 1 n.blocks b.0;
      blocks = leb-true n.blocks 4096 b.1;
    }

-- there is a clock for each node that the head counts
pub clocks_are : (w : World) (r : IsReached w) → length w.clocks ≡ r.clients + r.servers
clocks_are w r = (shaped w r).clocks
