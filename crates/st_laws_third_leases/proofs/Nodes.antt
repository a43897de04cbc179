-- The nodes of a world of the third form: each has its number, a client has each server once, and clients are few. So it is at the start and after each event.
use Rattle.st_lemmas.proofs.Words
use Words.{◌≡◌, ◌≢◌, ℕ, zero, suc, ◌+◌, ◌≤◌, ◌⊎◌, Bool, true, false, List, [], ◌∷◌, length, map, pred, option_map, Option, Some, None, refl, sym}
use Words.{ap, ◌∙◌, subst, inl, inr, arith}
use Words.{eqb-true, ◌==◌, nat_le, leb-true, length-map, ClientId, Config, Event, NodeId, ServerId}
use Words.events
use Words.nodes
use Words.Admissible as admissible
use Words.Client as plain
use Words.ClientState.{Association, ClientState}
use Words.Extents.{numbers}
use Words.Lengths.{numbers_length}
use Words.Lists.{Has}
use Words.Lookups.{some_is}
use Words.Numbers.{numbered_below, numbered_other, numbered_own, set_length}
use Words.Server as server
use Words.Server.{ServerNode}
use Words.Tables.{and_true, has_map, same_or_not}
use Words.World.{World, WorldClient, clock_of, fresh_site, fresh_world, numbered, site_of, with_numbered}
use Rattle.st_laws_pages.proofs.Lives.Fresh.{fresh_is}
use Rattle.st_laws_healthy.proofs.Happening.{Brings}
use Rattle.st_laws_steps.specs.Client.Losses.{Fit}
use Rattle.st_laws_steps.specs.Lives.Lives.{Once, Pairwise, server_number}
use Rattle.st_laws_third.specs.Changes.{Heard}
use Rattle.st_laws_third.specs.Living.{LivesOn, heard_in}
use Rattle.st_laws_third.specs.Pairs.{IsPaired}
use Rattle.st_laws_third.proofs.EventWalk.{Server_step}
use Rattle.st_laws_third.proofs.Living.{clients_live_on}
use Rattle.st_laws_third.proofs.Moves.{Becomes, Moved, Rests, Changes, Stepped, Crashed, Started, moves}
use Rattle.st_laws_third.proofs.Sound.{Sound, apart, numbered_map, sound_after, sound_first}
use Rattle.st_third.specs.declared.event.ThirdEvent.{ThirdEvent}
use Rattle.st_third.specs.declared.event.ThirdEvent.TheVariants as third
use Rattle.st_third.specs.declared.event.ThirdInput.{ThirdInput}
use Rattle.st_third.specs.declared.limits.Limits.{Limits}
use Rattle.st_third.specs.Events as every
use Rattle.st_third.specs.Events.{ThirdWorldTurn, third_counted}
use Rattle.st_third.specs.Limits.{IsHead, limited_association, limited_node, limited_site, most_clients, with_limits}
use Rattle.st_third.specs.State.{ClientBeside}
use Rattle.st_third.specs.Steps.{plain_event}
use Rattle.st_third.specs.World as worlds
use Rattle.st_third.specs.World.{ThirdWorld, third_world}
use Rattle.st_laws_third_leases.proofs.Stories.{ByClient, ByServer, IsQuiet, Restarts, Story, story}
use Rattle.st_laws_third_leases.proofs.Stepping.{IsTold, plain_input}
use Rattle.st_laws_third_leases.proofs.ServerSays.{Near, step_says, third_step_is}

-- a client's number and servers
pub record IsClient (n : ℕ) (site : WorldClient) : Type 0 where
  pub id : site.node.state.id.0 ≡ n
  pub once : Once (map server_number site.node.state.associations)

-- What is known of the nodes.
pub record Known (k : Config) (w : ThirdWorld) : Type 0 where
  pub sound : Sound w
  pub config : w.world.config ≡ k
  pub few : length w.world.clients ≤ 64
  pub clients : (n : ℕ) (site : WorldClient) → numbered w.world.clients n ≡ Some site → IsClient n site
  pub servers : (n : ℕ) (node : ServerNode) → numbered w.world.servers n ≡ Some node → node.state.id.0 ≡ n

-- the servers of associations
pairs_servers : (got : Heard) (as_ bs : List Association) → Pairwise (LivesOn got) as_ bs → map server_number bs ≡ map server_number as_
pairs_servers got [] [] p = refl
pairs_servers got [] (b ∷ bs) p = absurd p
pairs_servers got (a ∷ as_) [] p = absurd p
pairs_servers got (a ∷ as_) (b ∷ bs) p =
    ap (λ n. n ∷ map server_number bs) (ap (λ (s : ServerId). s.0) p.one.server) ∙ ap (λ ns. server_number a ∷ ns) (pairs_servers got as_ bs p.rest)

map_servers : (m : Limits) (f : Association → Association) → ((a : Association) → server_number (f a) ≡ server_number a) → (as_ : List Association) →
    map server_number (map (limited_association m) (map f as_)) ≡ map server_number as_
map_servers m f e [] = refl
map_servers m f e (a ∷ as_) =
    ap (λ n. n ∷ map server_number (map (limited_association m) (map f as_))) (e a) ∙ ap (λ ns. server_number a ∷ ns) (map_servers m f e as_)

fresh_numbers : (m : Limits) (ns : List ℕ) → map server_number (map (limited_association m) (map plain.fresh_association ns)) ≡ ns
fresh_numbers m [] = refl
fresh_numbers m (n ∷ ns) = ap (λ z. n ∷ z) (fresh_numbers m ns)

numbers_above : (a c m : ℕ) → Has m (numbers a c) → a ≤ m
unfolding numbers
numbers_above a zero m h = absurd h
numbers_above a (suc c) m (inl e) = omega (arith, e)
numbers_above a (suc c) m (inr h) = let z = numbers_above (a + 1) c m h in omega (arith, z)

numbers_once : (a c : ℕ) → Once (numbers a c)
unfolding numbers
numbers_once a zero = tt
numbers_once a (suc c) =
    record { first = λ m h e. absurd (let z = numbers_above (a + 1) c m h in omega (arith, z, e)); rest = numbers_once (a + 1) c }

module _ (k : Config) (w : ThirdWorld) (o : Known k w) where
  becomes : (v : ThirdWorld) (c : ClientId) (old new : WorldClient) (d : ClientBeside) → site_of w.world c ≡ Some old → Becomes w v c old new d →
      IsClient c.0 new
  unfolding plain.crash plain.start
  becomes v c old new d there (Stepped b input q t u z) =
      let y = clients_live_on w.limits (record { plain = old.node.state; beside = b }) (clock_of w.world (nodes.Client c)) input
      (o.sound.fits.pairs c.0 old b there q) (o.sound.fits.sites c.0 old there).fit in
      let i = o.clients c.0 old there in
      record {
        id = ap (λ (x : ClientState). x.id.0) u ∙ ap (λ (x : ClientId). x.0) y.id ∙ i.id;
        once = subst Once (sym (ap (λ (x : ClientState). map server_number x.associations) u ∙ pairs_servers (heard_in input) _ _ y.associations)) i.once;
      }
  becomes v c old new d there (Crashed u z) =
      let i = o.clients c.0 old there in
      record {
        id = ap (λ (x : ClientState). x.id.0) u ∙ i.id;
        once = subst Once (sym (ap (λ (x : ClientState). map server_number x.associations) u ∙
            map_servers w.limits plain.crashed_association (λ a. refl) old.node.state.associations)) i.once;
      }
  becomes v c old new d there (Started u z) =
      let i = o.clients c.0 old there in
      record {
        id = ap (λ (x : ClientState). x.id.0) u ∙ i.id;
        once = subst Once (sym (ap (λ (x : ClientState). map server_number x.associations) u ∙
            map_servers w.limits plain.started_association (λ a. refl) old.node.state.associations)) i.once;
      }

  clients_after : (v : ThirdWorld) → Moved w v → (n : ℕ) (site : WorldClient) → numbered v.world.clients n ≡ Some site → IsClient n site
  clients_after v (Rests p q r) n site e = o.clients n site (sym (ap (λ xs. numbered xs n) p) ∙ e)
  clients_after v (Changes c old new d there s own others x y b) n site e = at (n == c.0) refl
    where
      at : (r : Bool) → (n == c.0) ≡ r → IsClient n site
      at true r =
          let j = eqb-true n c.0 r in
          subst (λ (z : WorldClient). IsClient n z) (some_is (sym own ∙ sym (ap (numbered v.world.clients) j) ∙ e))
          (subst (λ z. IsClient z new) (sym j) (becomes v c old new d there b))
      at false r = o.clients n site (sym (others n (apart n c.0 r)) ∙ e)

  config_after : (v : ThirdWorld) → Moved w v → v.world.config ≡ w.world.config
  config_after v (Rests p q r) = q.config
  config_after v (Changes c old new d there s own others x y b) = s.config

  few_after : (e : Event) (sc : ThirdWorldTurn) → Story w e sc → length sc.third.world.clients ≡ length w.world.clients
  few_after e sc (ByClient d old site b input there same up q brings told ticks took) =
      ap (λ xs. length xs) took.clients ∙ set_length w.world.clients (pred d.0) _
  few_after e sc (ByServer r node i there arrives brings told ticks cs ss clocks new said) = ap (λ xs. length xs) cs
  few_after e sc (Restarts d old there broken none others told ticks many ss clocks ms) = many
  few_after e sc (IsQuiet x off told ticks cs ss later ms) = ap (λ xs. length xs) cs

  servers_after : (e : Event) (sc : ThirdWorldTurn) → Story w e sc → (n : ℕ) (node : ServerNode) → numbered sc.third.world.servers n ≡ Some node →
      node.state.id.0 ≡ n
  servers_after e sc (ByClient d old site b input there same up q brings told ticks took) n node f =
      o.servers n node (sym (ap (λ xs. numbered xs n) took.servers) ∙ f)
  servers_after e sc (ByServer r old i there arrives brings told ticks cs ss clocks new said) n node f = go (same_or_not n r.0)
    where
      low : 1 ≤ r.0
      low = (numbered_below w.world.servers r.0 old there).0

      go : (n ≡ r.0) ⊎ (n ≢ r.0) → node.state.id.0 ≡ n
      go (inl z) =
          let own : (Server_step w r old i).node ≡ node =
          some_is (sym (numbered_own w.world.servers r.0 _ old there) ∙ ap (numbered (with_numbered r.0 (Server_step w r old i).node w.world.servers)) (sym z) ∙
          sym (ap (λ xs. numbered xs n) ss) ∙ f) in
          ap (λ (x : ServerNode). x.state.id.0) (sym own)
          ∙ ap (λ (x : server.ServerTurn). x.state.id.0)
          (third_step_is w.world.form o.sound.form old.state (clock_of w.world (nodes.Server r)) i)
          ∙ ap (λ (x : ServerId). x.0) (step_says old.state Near (clock_of w.world (nodes.Server r)) i).id
          ∙ o.servers r.0 old there
          ∙ sym z
      go (inr ne) = o.servers n node (sym (ap (λ xs. numbered xs n) ss ∙ numbered_other w.world.servers r.0 n _ low ne) ∙ f)
  servers_after e sc (Restarts d old there broken none others told ticks many ss clocks ms) n node f =
      o.servers n node (sym (ap (λ xs. numbered xs n) ss) ∙ f)
  servers_after e sc (IsQuiet x off told ticks cs ss later ms) n node f =
      let z = ss n node f in ap (λ (s : ServerId). s.0) z.2 ∙ o.servers n z.0 z.1

  pub known_after : (e : Event) (sc : ThirdWorldTurn) → Story w e sc → Moved w sc.third → Known k sc.third
  known_after e sc s m =
      record {
        sound = sound_after w sc.third o.sound m;
        config = config_after sc.third m ∙ o.config;
        few = let z = few_after e sc s in let y = o.few in omega (arith, z, y);
        clients = clients_after sc.third m;
        servers = servers_after e sc s;
      }

-- An event that isn't refused.
module _ (k : Config) (t : ThirdWorld) (o : Known k t) (e : ThirdEvent) (free : worlds.refusal t e ≡ None) where
  abbrev pub counted_world : ThirdWorld
  counted_world = third_counted t

  abbrev pub left : ThirdWorldTurn
  left = every.happens counted_world e

  start_free : (n : NodeId) → e ≡ third.Plain (events.Start n) → admissible.refusal counted_world.world (events.Start n) ≡ None
  unfolding worlds.refusal worlds.plain_refusal admissible.refusal
  start_free n is = sym (ap (worlds.refusal t) is) ∙ free

  pub known_counted : Known k counted_world
  known_counted =
      record {
        sound = record { fits = record { sites = o.sound.fits.sites; there = o.sound.fits.there; pairs = o.sound.fits.pairs }; form = o.sound.form };
        config = o.config;
        few = o.few;
        clients = o.clients;
        servers = o.servers;
      }

  pub its_story : Story counted_world (plain_event e) left
  its_story = story counted_world known_counted.sound o.sound.form e start_free

  pub known_then : Known k left.third
  known_then = known_after k counted_world known_counted (plain_event e) left its_story (moves counted_world e o.sound.form)

-- The start of a run.
pub known_first : (k : Config) (m : Limits) (clients servers disks blocks : ℕ) → IsHead k m clients servers disks blocks 3 →
    Known k (third_world k m clients servers disks blocks 3)
unfolding third_world fresh_world with_limits plain.fresh_client most_clients server.fresh_server
known_first k m clients servers disks blocks head =
    record { sound = sound_first k m clients servers disks blocks; config = refl; few = few; clients = sites; servers = nodes_first }
  where
    v : World
    v = fresh_world k clients servers disks blocks 3

    few : length (third_world k m clients servers disks blocks 3).world.clients ≤ 64
    few =
        let z = length-map v.clients (limited_site m) in
        let y = length-map (numbers 1 clients) (fresh_site k servers) in
        let n = numbers_length 1 clients in
        let l = leb-true clients 64 (and_true (nat_le 1 clients) (nat_le clients 64) head.some_clients).1 in
        omega (arith, z, y, n, l)

    sites : (n : ℕ) (site : WorldClient) → numbered (third_world k m clients servers disks blocks 3).world.clients n ≡ Some site → IsClient n site
    sites n site e = go (numbered v.clients n) refl (sym (numbered_map (limited_site m) v.clients n) ∙ e)
      where
        first : IsClient n (limited_site m (fresh_site k servers n))
        first = record { id = refl; once = subst Once (sym (fresh_numbers m (numbers 1 servers))) (numbers_once 1 servers) }

        go : (y : Option WorldClient) → numbered v.clients n ≡ y → option_map (limited_site m) y ≡ Some site → IsClient n site
        go None q r = cc r
        go (Some y) q r =
            subst (IsClient n) (some_is r)
            (subst (λ (z : WorldClient). IsClient n (limited_site m z)) (sym (fresh_is (fresh_site k servers) clients n y q)) first)

    nodes_first : (n : ℕ) (node : ServerNode) → numbered (third_world k m clients servers disks blocks 3).world.servers n ≡ Some node → node.state.id.0 ≡ n
    nodes_first n node e = go (numbered v.servers n) refl (sym (numbered_map (limited_node m) v.servers n) ∙ e)
      where
        go : (y : Option ServerNode) → numbered v.servers n ≡ y → option_map (limited_node m) y ≡ Some node → node.state.id.0 ≡ n
        go None q r = cc r
        go (Some y) q r =
            ap (λ (z : ServerNode). z.state.id.0) (sym (some_is r))
            ∙ ap (λ (z : ServerNode). z.state.id.0) (fresh_is (Words.World.node_at_start k servers disks blocks) servers n y q)

-- A client that takes a step: its settings, what is beside it, and what it is told.
module _ {k : Config} (w : ThirdWorld) (o : Known k w) where
  module _ (d : ClientId) (old site : WorldClient) where
    pub config_at : site_of w.world d ≡ Some old → site.node ≡ old.node → site.node.state.config ≡ k
    config_at there same = ap (λ (n : plain.ClientNode). n.state.config) same ∙ (o.sound.fits.sites d.0 old there).config ∙ o.config

    pub id_at : site_of w.world d ≡ Some old → site.node ≡ old.node → site.node.state.id.0 ≡ d.0
    id_at there same = ap (λ (n : plain.ClientNode). n.state.id.0) same ∙ (o.clients d.0 old there).id

    pub fits_at : site_of w.world d ≡ Some old → site.node ≡ old.node → (a : Association) → Has a site.node.state.associations → Fit a
    fits_at there same =
        subst (λ (n : plain.ClientNode). (a : Association) → Has a n.state.associations → Fit a) (sym same) (o.sound.fits.sites d.0 old there).fit

  pub paired_at : (d : ClientId) (old site : WorldClient) (b : ClientBeside) → site_of w.world d ≡ Some old → site.node ≡ old.node →
      worlds.beside_of w d ≡ Some b → IsPaired (every.third_client site b)
  paired_at d old site b there same q =
      subst (λ (n : plain.ClientNode). length b.besides ≡ length n.state.associations) (sym same) (o.sound.fits.pairs d.0 old b there q)

  pub told_at : (e : Event) (d : ClientId) (old site : WorldClient) (there : site_of w.world d ≡ Some old) (same : site.node ≡ old.node) (input : ThirdInput) →
      Brings w.world e d.0 (plain_input input) → IsTold site.node.state.id (plain_input input)
  told_at e d old site there same input = by (plain_input input)
    where
      by : (i : Words.ClientInput) → Brings w.world e d.0 i → IsTold site.node.state.id i
      by Words.inputs.Tick b = tt
      by (Words.inputs.App op ask) b = tt
      by (Words.inputs.Control m) b = b.1 ∙ sym (id_at d old site there same)
      by (Words.inputs.Done n r) b = tt

-- no client has a session at the start
pub first_none : (k : Config) (m : Limits) (clients servers disks blocks n : ℕ) (site : WorldClient) →
    numbered (third_world k m clients servers disks blocks 3).world.clients n ≡ Some site → (a : Association) → Has a site.node.state.associations →
    a.session ≡ None
unfolding third_world fresh_world with_limits plain.fresh_client
first_none k m clients servers disks blocks n site e a h = go (numbered v.clients n) refl (sym (numbered_map (limited_site m) v.clients n) ∙ e)
  where
    v : World
    v = fresh_world k clients servers disks blocks 3

    none : (ns : List ℕ) (a : Association) → Has a (map (limited_association m) (map plain.fresh_association ns)) → a.session ≡ None
    none ns a i =
        let x = has_map (limited_association m) (map plain.fresh_association ns) a i in
        let y = has_map plain.fresh_association ns x.0 x.1 in
        ap (λ (z : Association). z.session) x.2 ∙ ap (λ (z : Association). z.session) y.2

    go : (y : Option WorldClient) → numbered v.clients n ≡ y → option_map (limited_site m) y ≡ Some site → a.session ≡ None
    go None q r = cc r
    go (Some y) q r =
        let is : limited_site m (fresh_site k servers n) ≡ site =
        ap (limited_site m) (sym (fresh_is (fresh_site k servers) clients n y q)) ∙ some_is r in
        none (numbers 1 servers) a (subst (λ (z : WorldClient). Has a z.node.state.associations) (sym is) h)
