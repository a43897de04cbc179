-- What holds in the world of a head, before the first event.
use Rattle.st_lemmas.proofs.Words
use Words.{◌≡◌, ◌≢◌, ℕ, zero, suc, ◌+◌, ◌*◌, ◌<◌, ◌≤◌, Bool, true, false, ◌&&◌, [], ◌∷◌, ◌++◌, Option, Some, None, Ok, Err, refl, sym, ap, ◌∙◌, subst}
use Words.{arith, if◌then◌else◌, get_or, length, map, nat_lt, nat_le, option_map, pred, slice_get, slice_index, ◌-◌, leb-true, ltb-true, Config, Stamp}
use Words.{SentMessage, length-append, map-append}
use Words.config_refusals
use Words.nodes
use Words.Client as cl
use Words.Extents.{numbers}
use Words.Keys.{client}
use Words.Leases.{no_drift, steal_wait}
use Words.Safety.{IsHead}
use Words.Server.{ServerNode, fresh_server}
use Words.World.{World, WorldClient, client_clock, clock_of, fresh_site, fresh_world, node_at_start, node_of, numbered, server, server_clock, site_of}
use Words.Lists.{Has}
use Words.Numbers.{get_map, numbered_below}
use Words.Tables.{and_true}
use Words.Lengths.{length_map, numbers_length}
use Rattle.std.proofs.lemmas.Grind.{div_ceil_times}
use Rattle.st_base.specs.Config.{check, check_length, phases_rise, rate_is_sound}
use Rattle.st_rules.proofs.Drift.{pair_first, square_first}
use Rattle.st_protocol.specs.Assoc as net
use Rattle.st_protocol.specs.Assoc.{AtFirst, BeginsAt, ConfigOk, Reached}
use Rattle.st_laws_pages.proofs.Disks.Whole.{fresh_fates}
use Rattle.st_laws_refine.specs.Client.Law.{Apart, Place}
use Rattle.st_laws_refine.specs.Server.Pair.{Served, Timed, client_in, client_at_site, client_view, idle_client, pair, terms_of}
use Rattle.st_laws_refine.specs.Server.Invariants.{Stands, pairs}
use Rattle.st_laws_refine.specs.Server.View.{at}
use Rattle.st_laws_refine.specs.Views.Halves.{Ghost, half_of}
use Rattle.st_laws_leases.proofs.Sides.Pairs.{found_at_place}
use Rattle.st_laws_refine.proofs.Server.Calm.{calm_fresh}
use Rattle.st_laws_refine.proofs.Server.Counts.{few_fresh}
use Rattle.st_laws_refine.proofs.Server.Fresh.{fresh_begins, fresh_compat, fresh_sound, idle_begins, no_ghost}
use Rattle.st_laws_leases.specs.Sides.Invariants.{Both, Standing}
use Rattle.st_laws_leases.specs.Sides.World.{AllStand, ServerStands}
use Rattle.st_laws_pages.proofs.Lives.Fresh.{fresh_is}

-- Lists of numbers.
numbers_is : (a c i : ℕ) → i < c → slice_get (numbers a c) i ≡ Some (a + i)
unfolding numbers
numbers_is a zero i l = absurd (omega arith)
numbers_is a (suc c) zero l = ap (λ n. Some n) (let z : a ≡ a + 0 = omega arith in z)
numbers_is a (suc c) (suc i) l = numbers_is (a + 1) c i (omega arith) ∙ ap (λ n. Some n) (let z : (a + 1) + i ≡ a + suc i = omega arith in z)

numbered_first : {A : Type 0} (f : ℕ → A) (count : ℕ) → 1 ≤ count → numbered (map f (numbers 1 count)) 1 ≡ Some (f 1)
numbered_first f count l = get_map f (numbers 1 count) 0 ∙ ap (option_map f) (numbers_is 1 count 0 l)

-- The settings.
mul_pos : (a b : ℕ) → 0 < a → 0 < b → 0 < a * b
mul_pos zero b l m = absurd (omega arith)
mul_pos (suc a) b l m = let z : suc a * b ≡ a * b + b = omega arith in omega (arith, z)

rates : (k : Config) → check k ≡ Ok tt → (phases_rise k ≡ true) × (rate_is_sound k ≡ true)
rates k e = go (phases_rise k) (rate_is_sound k) e
  where
    go : (a b : Bool) → (if a then (if b then check_length k else Err config_refusals.Rate) else Err config_refusals.Order) ≡ Ok tt → (a ≡ true) × (b ≡ true)
    go true true f = (refl, refl)
    go true false f = cc
    go false b f = cc

-- what the machine needs of them
pub record SoundTerms (k : Config) : Type 0 where
  pub sound : ConfigOk (terms_of k)
  pub waits : 0 < steal_wait k

pub sound_terms : (k : Config) → check k ≡ Ok tt → SoundTerms k
unfolding steal_wait
sound_terms k e = record { sound = record { num_pos = num_pos; wait_long = enough }; waits = positive (steal_wait k) enough }
  where
    phases : (nat_lt 0 k.renew ≡ true) × ((nat_lt k.renew k.quiesce && (nat_lt k.quiesce k.flush && nat_lt k.flush k.lease)) ≡ true)
    phases = and_true (nat_lt 0 k.renew) _ (rates k e).0

    lasts : nat_lt k.flush k.lease ≡ true
    lasts = (and_true (nat_lt k.quiesce k.flush) (nat_lt k.flush k.lease) (and_true (nat_lt k.renew k.quiesce) _ phases.1).1).1

    lease_pos : 0 < k.lease
    lease_pos = let z = ltb-true k.flush k.lease lasts in omega (arith, z)

    rate : (nat_lt 0 k.den ≡ true) × ((nat_le k.den k.num && nat_le k.num 1048576) ≡ true)
    rate = and_true (nat_lt 0 k.den) _ (rates k e).1

    den_pos : 0 < k.den
    den_pos = ltb-true 0 k.den rate.0

    num_pos : 0 < k.num
    num_pos = let z = leb-true k.den k.num (and_true (nat_le k.den k.num) _ rate.1).0 in omega (arith, z, den_pos)

    enough : k.lease * k.num + k.den * k.grain ≤ steal_wait k * k.den
    enough = (div_ceil_times (k.lease * k.num + k.den * k.grain) k.den den_pos).0

    positive : (w : ℕ) → k.lease * k.num + k.den * k.grain ≤ w * k.den → 0 < w
    positive zero l = let z = mul_pos k.lease k.num lease_pos num_pos in let y : 0 * k.den ≡ 0 = omega arith in absurd (omega (arith, z, l, y))
    positive (suc w) l = omega arith

-- A client's associations at the start: one for each server, in order.
apart_numbers : (s a c : ℕ) → ((i : ℕ) → i < c → a + i ≢ s) → Apart (server s) (map cl.fresh_association (numbers a c))
unfolding numbers
apart_numbers s a zero n = record {}
apart_numbers s a (suc c) n =
    record {
      one = λ e. n 0 (omega arith) (let z : 32768 + s ≡ 32768 + a = e in omega (arith, z));
      rest = apart_numbers s (a + 1) c (λ i l e. n (suc i) (omega arith) (let z : a + suc i ≡ (a + 1) + i = omega arith in z ∙ e));
    }

-- numbers with one of them taken out
split : (a c d : ℕ) → numbers a (c + suc d) ≡ numbers a c ++ (a + c) ∷ numbers (a + c + 1) d
unfolding numbers
split a zero d = ap (numbers a) (let x : 0 + suc d ≡ suc d = omega arith in x) ∙ (λ j. (let z : a ≡ a + 0 = omega arith in z) j ∷ numbers ((let y : a + 1 ≡ a + 0 + 1 = omega arith in y) j) d)
split a (suc c) d =
    ap (numbers a) (let x : suc c + suc d ≡ suc (c + suc d) = omega arith in x)
    ∙ ap (λ xs. a ∷ xs) (split (a + 1) c d ∙ (λ j. numbers (a + 1) c ++ (let z : (a + 1) + c ≡ a + suc c = omega arith in z) j ∷ numbers ((let y : (a + 1) + c + 1 ≡ a + suc c + 1 = omega arith in y) j) d))

placed : (s servers : ℕ) → 1 ≤ s → s ≤ servers → Place (server s) (map cl.fresh_association (numbers 1 servers)) (cl.fresh_association s)
placed s servers pos top =
    record {
      before = map cl.fresh_association (numbers 1 (pred s));
      after = map cl.fresh_association (numbers (s + 1) (servers - s));
      is = ap (λ n. map cl.fresh_association (numbers 1 n)) all ∙ ap (map cl.fresh_association) (split 1 (pred s) (servers - s) ∙ same) ∙ map-append cl.fresh_association (numbers 1 (pred s)) (s ∷ numbers (s + 1) (servers - s));
      here = refl;
      apart_before = apart_numbers s 1 (pred s) (λ i l e. omega (arith, below));
      apart_after = apart_numbers s (s + 1) (servers - s) (λ i l e. omega arith);
    }
  where
    below : 1 + pred s ≡ s
    below = go s pos
      where
        go : (n : ℕ) → 1 ≤ n → 1 + pred n ≡ n
        go zero l = absurd (omega arith)
        go (suc n) l = omega arith

    all : servers ≡ pred s + suc (servers - s)
    all = omega (arith, below)

    same : numbers 1 (pred s) ++ (1 + pred s) ∷ numbers (1 + pred s + 1) (servers - s) ≡ numbers 1 (pred s) ++ s ∷ numbers (s + 1) (servers - s)
    same = λ j. numbers 1 (pred s) ++ below j ∷ numbers (below j + 1) (servers - s)

-- A client at the start.
fresh_standing : (kb : Config) (servers s c : ℕ) → 1 ≤ s → s ≤ servers → Standing (terms_of kb) s c (fresh_site kb servers c) [] []
unfolding cl.fresh_client
fresh_standing kb servers s c pos top =
    record {
      association = cl.fresh_association s;
      sim = record { id_ = refl; terms = refl; place = placed s servers pos top; born = omega arith; kept = record {} };
      past = λ e h. elim h [ ];
      stopped = λ e. cc;
    }

-- A server at the start.
fresh_id : (kb : Config) (servers disks blocks s : ℕ) → (node_at_start kb servers disks blocks s).state.id.0 ≡ s
unfolding fresh_server
fresh_id kb servers disks blocks s = refl

fresh_config : (kb : Config) (servers disks blocks s : ℕ) → steal_wait (node_at_start kb servers disks blocks s).state.config ≡ steal_wait kb
unfolding fresh_server
fresh_config kb servers disks blocks s = refl

first_node : (kb : Config) (clients servers disks blocks form : ℕ) → 1 ≤ servers → node_of (fresh_world kb clients servers disks blocks form) (server 1) ≡ Some (node_at_start kb servers disks blocks 1)
unfolding fresh_world
first_node kb clients servers disks blocks form l = numbered_first (node_at_start kb servers disks blocks) servers l

module _ (kb : Config) (clients servers disks blocks form : ℕ) (head : IsHead kb clients servers disks blocks form) where
  abbrev w : World
  w = fresh_world kb clients servers disks blocks form

  few : clients ≤ 16
  few = leb-true clients 16 (and_true (nat_le 1 clients) (nat_le clients 16) head.some_clients).1

  sound : SoundTerms kb
  sound = sound_terms kb head.sound

  site_is : (c : ℕ) (site : WorldClient) → site_of w (client c) ≡ Some site → site ≡ fresh_site kb servers c
  unfolding fresh_world
  site_is c site e = fresh_is (fresh_site kb servers) clients c site e

  node_is : (s : ℕ) (node : ServerNode) → node_of w (server s) ≡ Some node → node ≡ node_at_start kb servers disks blocks s
  unfolding fresh_world
  node_is s node e = fresh_is (node_at_start kb servers disks blocks) servers s node e

  within : (s : ℕ) (node : ServerNode) → node_of w (server s) ≡ Some node → (1 ≤ s) × (s ≤ servers)
  unfolding fresh_world
  within s node e =
      let z = numbered_below (map (node_at_start kb servers disks blocks) (numbers 1 servers)) s node e in
      let l = length_map (node_at_start kb servers disks blocks) (numbers 1 servers) in let y = numbers_length 1 servers in (z.0, omega (arith, z.1, l, y))

  -- the associations of a server that is there
  module _ (s : ℕ) (pos : 1 ≤ s) (top : s ≤ servers) where
    abbrev node : ServerNode
    node = node_at_start kb servers disks blocks s

    abbrev G : ℕ → Ghost
    G c = no_ghost

    found : (c : ℕ) → cl.association_with (fresh_site kb servers c).node.state (server s) ≡ Some (cl.fresh_association s)
    unfolding cl.fresh_client
    found c = found_at_place s (fresh_site kb servers c).node.state (cl.fresh_association s) (placed s servers pos top)

    -- each begins
    begins : (c : ℕ) → BeginsAt (pair c s (λ l. 0) w node no_ghost)
    begins c = go (site_of w (client c)) refl
      where
        now : Stamp
        now = clock_of w (nodes.Server (server s))

        clock : Stamp
        clock = clock_of w (nodes.Client (client c))

        by : (x : net.Client) → client_in w c s (λ l. 0) ≡ x → BeginsAt (at x (client c) now node.state no_ghost) → BeginsAt (pair c s (λ l. 0) w node no_ghost)
        by x e b = subst (λ (y : net.Client). BeginsAt (record { c = y; s = half_of (client c) now true node.state no_ghost; net = [] })) (sym e) b

        go : (o : Option WorldClient) → site_of w (client c) ≡ o → BeginsAt (pair c s (λ l. 0) w node no_ghost)
        go None e = by (idle_client w s) (ap (client_at_site w c s (λ l. 0)) e) (idle_begins kb (server s) servers disks blocks c (w.config.den * now.0) now)
        go (Some site) e =
            by (client_view true (λ l. 0) clock (Some (cl.fresh_association s)))
            (ap (client_at_site w c s (λ l. 0)) (e ∙ ap (λ x. Some x) (site_is c site e)) ∙ ap (client_view true (λ l. 0) clock) (found c))
            (fresh_begins kb (server s) s servers disks blocks c clock now)

    reached : Reached (terms_of kb) (pairs s (λ c l. 0) w node G)
    reached = AtFirst (pairs s (λ c l. 0) w node G) (λ c d. record { up = refl; grace = refl }) begins

    served : node_of w (server s) ≡ Some node → (c : ℕ) → Served (steal_wait kb) c s w node no_ghost
    unfolding fresh_world
    served there c =
        record {
          found = there;
          id = id_is;
          terms = config_is;
          stands = fresh_sound kb (server s) servers disks blocks c (clock_of w (nodes.Server (server s)));
          wires = λ m h. elim h [ ];
        }
      where
        id_is : node.state.id.0 ≡ s
        id_is = fresh_id kb servers disks blocks s

        config_is : steal_wait node.state.config ≡ steal_wait kb
        config_is = fresh_config kb servers disks blocks s

    stands : node_of w (server s) ≡ Some node → Stands (terms_of kb) s (λ c l. 0) w node G
    stands there = record { reached = reached; served = served there; compat = fresh_compat kb (server s) servers disks blocks }

    standing : (c : ℕ) (site : WorldClient) → site_of w (client c) ≡ Some site → Standing (terms_of kb) s c site w.ended []
    unfolding fresh_world
    standing c site e =
        subst (λ (x : WorldClient). Standing (terms_of kb) s c x w.ended []) (sym (site_is c site e))
        (fresh_standing kb servers s c pos top)

    both : node_of w (server s) ≡ Some node → Both (terms_of kb) s w node (λ c l. 0) G
    unfolding fresh_world
    both there =
        record {
          stands = stands there;
          clients = standing;
          ends = λ c e h. elim h [ ];
          few = let z = length_map (fresh_site kb servers) (numbers 1 clients) in let y = numbers_length 1 clients in let f = few in omega (arith, z, y, f);
        }

  -- the clocks and how far they drifted
  pub clocks_are : length w.clocks ≡ clients + servers
  unfolding fresh_world
  clocks_are =
      length-append (map client_clock (numbers 1 clients)) (map server_clock (numbers 1 servers))
      ∙ (λ j. (length_map client_clock (numbers 1 clients) ∙ numbers_length 1 clients) j + (length_map server_clock (numbers 1 servers) ∙ numbers_length 1 servers) j)

  clients_are : length w.clients ≡ clients
  unfolding fresh_world
  clients_are = length_map (fresh_site kb servers) (numbers 1 clients) ∙ numbers_length 1 clients

  servers_are : length w.servers ≡ servers
  unfolding fresh_world
  servers_are = length_map (node_at_start kb servers disks blocks) (numbers 1 servers) ∙ numbers_length 1 servers

  timed : (s : ℕ) → 1 ≤ s → s ≤ servers → Timed (terms_of kb) s w (λ c. no_ghost)
  unfolding fresh_world
  timed s pos top =
      record {
        terms = refl;
        tall = (square_first (clients + servers)).tall ∙ sym clocks_are;
        wide = λ m l. (square_first (clients + servers)).wide m (omega (arith, l, clocks_are)) ∙ sym clocks_are;
        count = clocks_are ∙ (λ j. sym clients_are j + sym servers_are j);
        known = λ c site e.
            let z = numbered_below w.clients c site e in
            sym ((λ j. slice_index (get_or (no_drift (clients + servers)) (pred (clients_are j + s)) []) (pred c))
            ∙ pair_first (clients + servers) (pred (clients + s)) (pred c) (below (clients + s) (clients + servers) (omega arith) (omega arith)) (below c (clients + servers) z.0 (omega (arith, z.1, clients_are))));
        idle = λ c e. refl;
      }
    where
      below : (a b : ℕ) → 1 ≤ a → a ≤ b → pred a < b
      below zero b l m = absurd (omega arith)
      below (suc a) b l m = omega arith

  settings_are : w.config ≡ kb
  unfolding fresh_world
  settings_are = refl

  none_sent : (m : SentMessage) → Has m w.net.messages → ⊥
  unfolding fresh_world
  none_sent m h = h

  pub begun : AllStand (terms_of kb) (clients + servers) w
  begun =
      record {
        terms = ap terms_of (sym settings_are);
        sound = sound.sound;
        waits = sound.waits;
        fates = fresh_fates kb clients servers disks blocks form;
        clocks = clocks_are ∙ (λ j. sym clients_are j + sym servers_are j);
        nodes = clocks_are;
        first = record { node = node_at_start kb servers disks blocks 1; is = first };
        senders = λ m h. absurd (none_sent m h);
        servers = λ s node e. subst (λ (n : ServerNode). ServerStands (terms_of kb) w s n) (sym (node_is s node e)) (one s (within s node e) (e ∙ ap (λ n. Some n) (node_is s node e)));
      }
    where
      first : node_of w (server 1) ≡ Some (node_at_start kb servers disks blocks 1)
      first = first_node kb clients servers disks blocks form (leb-true 1 servers (and_true (nat_le 1 servers) (nat_le servers 4) head.some_servers).0)

      one : (s : ℕ) → (1 ≤ s) × (s ≤ servers) → node_of w (server s) ≡ Some (node_at_start kb servers disks blocks s) → ServerStands (terms_of kb) w s (node_at_start kb servers disks blocks s)
      one s l there =
          record {
            ended = λ c l. 0;
            ghosts = λ c. no_ghost;
            both = both s l.0 l.1 there;
            timed = timed s l.0 l.1;
            calm = calm_fresh (server s) kb servers disks blocks;
            few = few_fresh w.net.bytes (server s) kb servers disks blocks;
          }
