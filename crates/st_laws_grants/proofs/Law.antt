-- Grant numbers are given once: at the start, after every event, and over whole runs.
use Rattle.st_lemmas.proofs.Words
use Words.{◌≡◌, ℕ, ◌+◌, ◌<◌, ◌⊎◌, Bool, true, false, not, ◌==◌, ◌&&◌, ◌||◌, List, [], ◌∷◌, ◌++◌, Option, Some, None, Ok, refl, sym, ap, ◌∙◌, subst, inl, inr}
use Words.{arith, lt-ltb, list_all, list_any, eq-eqb, eqb-true, GrantNo, ServerId, Mode, Event, Body, Message, SentMessage}
use Words.bodies
use Words.Client as cl
use Words.ClientState.{Association}
use Words.Events.{WorldTurn, world_step}
use Words.Extents.{numbers}
use Words.History.{Traced, traced, traced_after}
use Words.Keys.{server_node}
use Words.Safety.{IsHead, Step, is_event, step}
use Words.Server as server
use Words.Server.{ServerNode}
use Words.World.{World, WorldClient, all_servers, fresh_site, fresh_world, node_at_start, node_of}
use Words.Lists.{Has}
use Words.Lookups.{or_left, or_right, some_is}
use Words.Tables.{all_pass, and_both, has_map, some_passes}
use Rattle.st_base.specs.declared.config.Config as base
use Rattle.st_protocol.specs.Assoc.{Config}
use Rattle.st_laws_pages.proofs.Lives.Fresh.{fresh_is}
use Rattle.st_laws_refine.specs.Client.Invariants.{Kept}
use Rattle.st_laws_refine.specs.Server.Pair.{terms_of}
use Rattle.st_laws_refine.specs.Views.Halves.{held_in}
use Rattle.st_laws_leases.specs.Dates.Dates.{message_in, messages}
use Rattle.st_laws_leases.specs.Sides.Law.{InEveryRun}
use Rattle.st_laws_leases.specs.Sides.World.{AllStand}
use Rattle.st_laws_leases.proofs.Sides.Runs.{throughout_events}
use Rattle.st_laws_extents.proofs.CutRequests.Law.{Hold, first, followed, owed, same_all}
use Rattle.st_promises.specs.Grants.{GrantNumbersAreGivenOnce, GrantNumbersRise, agrees, gives_below, gives_rising, gives_once, grants_once, has_number}
use Rattle.st_promises.specs.Grants.{is_given_once, is_number_below, is_number_of, is_of_file, is_risen, rises}
use Rattle.st_laws_grants.specs.Owners.{AllGiveOnce, GivesOnce, RiseFrom, Side, WasSent}
use Rattle.st_laws_grants.proofs.Nets.{granted_owned}
use Rattle.st_laws_grants.proofs.World.{goes_on}

-- What holds after every event.
pub record AllOnce (k : Config) (count : ℕ) (past : List Step) (t : Traced) : Type 0 where
  pub base : Hold k count past t
  pub gives : AllGiveOnce t.world

-- What was given once is given once.
module _ (k : Config) (count : ℕ) (w : World) (all : AllStand k count w) (g : AllGiveOnce w) where
  -- the owner of a grant that was sent
  module _ (s : ServerId) (node : ServerNode) (at : node_of w s ≡ Some node) where
    owned : (m : Message) → Has m (messages w) → m.header.from ≡ server_node s → (ino : ℕ) (n : GrantNo) (mode : Mode) → m.body ≡ bodies.Granted ino n mode → (g s node at).owner n.0 ≡ Some (m.header.to, ino)
    owned m h from ino n mode e = let q = (g s node at).pairs m.header.to in granted_owned (g s node at).owner m.header.to m q.net ino n mode e q.tells (q.shows m h from refl)

    parts : (c d i j : ℕ) → ◌≡◌ {A = Option (ℕ × ℕ)} (Some (c, i)) (Some (d, j)) → (c ≡ d) × (i ≡ j)
    parts c d i j e = (ap (λ (p : ℕ × ℕ). p.0) (some_is e), ap (λ (p : ℕ × ℕ). p.1) (some_is e))

    agree : (to ino : ℕ) (n : GrantNo) → (g s node at).owner n.0 ≡ Some (to, ino) → (x : Message) → Has x (messages w) → agrees s to ino n x ≡ true
    agree to ino n o x h = go (x.header.from == server_node s) refl
      where
        body : x.header.from ≡ server_node s → (b : Body) → x.body ≡ b → (z : Bool) → has_number n b ≡ z → (not z || ((x.header.to == to) && is_of_file ino b)) ≡ true
        body from b e false f = refl
        body from (bodies.Granted i q mode) e true f =
            let y = owned x h from i q mode e in
            let r = parts x.header.to to i ino (sym y ∙ ap (g s node at).owner (eqb-true q.0 n.0 f) ∙ o) in
            and_both _ _ (eq-eqb _ _ r.0) (eq-eqb _ _ r.1)
        body from b e true f = cc f

        go : (z : Bool) → (x.header.from == server_node s) ≡ z → (not (z && has_number n x.body) || ((x.header.to == to) && is_of_file ino x.body)) ≡ true
        go false e = refl
        go true e = body (eqb-true x.header.from (server_node s) e) x.body refl (has_number n x.body) refl

    given : (m : Message) → Has m (messages w) → m.header.from ≡ server_node s → (b : Body) → m.body ≡ b → grants_once s (messages w) m.header.to b ≡ true
    given m h from (bodies.Granted ino n mode) e = all_pass (agrees s m.header.to ino n) (messages w) (λ x i. agree m.header.to ino n (owned m h from ino n mode e) x i)
    given m h from b e = refl

  once : (s : ServerId) (m : Message) → Has m (messages w) → is_given_once s (messages w) m ≡ true
  once s m h = go (m.header.from == server_node s) refl
    where
      sender : m.header.from ≡ server_node s → (node : ServerNode) × (node_of w s ≡ Some node)
      sender from = at (has_map message_in w.net.messages m h)
        where
          at : (n : SentMessage) × Has n w.net.messages × (m ≡ message_in n) → (node : ServerNode) × (node_of w s ≡ Some node)
          at (n, i, f) = let t = all.senders n i s (ap (λ (y : Message). y.header.from) (sym f) ∙ from) in (t.node, t.is)

      go : (z : Bool) → (m.header.from == server_node s) ≡ z → (not z || grants_once s (messages w) m.header.to m.body) ≡ true
      go false e = refl
      go true e = let from = eqb-true m.header.from (server_node s) e in let n = sender from in given s n.0 n.1 m h from m.body refl

  pub all_once : list_all (gives_once (messages w)) (all_servers w) ≡ true
  all_once = all_pass (gives_once (messages w)) (all_servers w) (λ s h. all_pass (is_given_once s (messages w)) (messages w) (λ m i. once s m i))

-- Numbers rise.
module _ (k : Config) (count : ℕ) (w v : World) (all : AllStand k count v) (back : (s : ServerId) (node : ServerNode) → node_of v s ≡ Some node → (old : ServerNode) × (node_of w s ≡ Some old)) (f : RiseFrom w v) where
  risen : (s : ServerId) (m : Message) → Has m (messages v) → is_risen s (messages w) m ≡ true
  risen s m h = go (m.header.from == server_node s) refl
    where
      old : m.header.from ≡ server_node s → (node : ServerNode) × (node_of w s ≡ Some node)
      old from = at (has_map message_in v.net.messages m h)
        where
          at : (n : SentMessage) × Has n v.net.messages × (m ≡ message_in n) → (node : ServerNode) × (node_of w s ≡ Some node)
          at (n, i, f) = let t = all.senders n i s (ap (λ (y : Message). y.header.from) (sym f) ∙ from) in back s t.node t.is

      same : (g : GrantNo) (x : Message) → Has x (messages w) → x.header.from ≡ server_node s → (ino : ℕ) (mode : Mode) → x.body ≡ bodies.Granted ino (record { 0 = g.0 }) mode → list_any (is_number_of s g) (messages w) ≡ true
      same g x i from ino mode e = some_passes (is_number_of s g) (messages w) x i (and_both _ _ (eq-eqb _ _ from) (subst (λ b. has_number g b ≡ true) (sym e) (eq-eqb g.0 g.0 refl)))

      below : (g : GrantNo) → ((x : Message) → Has x (messages w) → x.header.from ≡ server_node s → (j : ℕ) (h : GrantNo) (by : Mode) → x.body ≡ bodies.Granted j h by → h.0 < g.0) → list_all (gives_below s g) (messages w) ≡ true
      below g low = all_pass (gives_below s g) (messages w) (λ x i. each x i (x.header.from == server_node s) refl)
        where
          each : (x : Message) → Has x (messages w) → (z : Bool) → (x.header.from == server_node s) ≡ z → (not z || is_number_below g x.body) ≡ true
          each x i false e = refl
          each x i true e = body x.body refl
            where
              body : (b : Body) → x.body ≡ b → is_number_below g b ≡ true
              body (bodies.Granted j h by) q = lt-ltb h.0 g.0 (low x i (eqb-true x.header.from (server_node s) e) j h by q)
              body b q = refl

      body : m.header.from ≡ server_node s → (b : Body) → m.body ≡ b → rises s (messages w) b ≡ true
      body from (bodies.Granted ino g mode) e = by (f s (old from).0 (old from).1 m h from ino g mode e)
        where
          by : Has m (messages w) ⊎ (WasSent s (messages w) g.0 ⊎ ((x : Message) → Has x (messages w) → x.header.from ≡ server_node s → (j : ℕ) (h : GrantNo) (by : Mode) → x.body ≡ bodies.Granted j h by → h.0 < g.0)) →
              (list_any (is_number_of s g) (messages w) || list_all (gives_below s g) (messages w)) ≡ true
          by (inl i) = or_left _ _ (same g m i from ino mode e)
          by (inr (inl z)) = or_left _ _ (same g z.message z.among z.from z.ino z.mode z.body)
          by (inr (inr low)) = or_right _ _ (below g low)
      body from b e = refl

      go : (z : Bool) → (m.header.from == server_node s) ≡ z → (not z || rises s (messages w) m.body) ≡ true
      go false e = refl
      go true e = body (eqb-true m.header.from (server_node s) e) m.body refl

  pub all_rise : list_all (gives_rising (messages w) (messages v)) (all_servers v) ≡ true
  all_rise = all_pass (gives_rising (messages w) (messages v)) (all_servers v) (λ s h. all_pass (is_risen s (messages w)) (messages v) (λ m i. risen s m i))

both : (k : Config) (count : ℕ) (past : List Step) (t : Traced) (e : Event) (sc : WorldTurn) → is_event count e ≡ true → AllOnce k count past t → world_step t.world e ≡ Ok sc →
    (GrantNumbersAreGivenOnce past (step t e sc) × GrantNumbersRise past (step t e sc)) × AllOnce k count (past ++ step t e sc ∷ []) (traced_after e t sc)
both k count past t e sc r h taken = ((all_once k count sc.world base.all goes.0, all_rise k count t.world sc.world base.all back goes.1), record { base = base; gives = goes.0 })
  where
    base : Hold k count (past ++ step t e sc ∷ []) (traced_after e t sc)
    base = (same_all k count past t e sc r h.base taken).0

    goes : AllGiveOnce sc.world × RiseFrom t.world sc.world
    goes = goes_on k count t.world h.base.all h.gives (λ s n at. (h.base.cuts.servers s n at).id) e sc (owed k count past t e sc r h.base taken) taken

    back : (s : ServerId) (node : ServerNode) → node_of sc.world s ≡ Some node → (old : ServerNode) × (node_of t.world s ≡ Some old)
    back s node at = let z = (followed k count past t e sc r h.base taken).came s.0 node at in (z.node, z.before)

-- The start.
begins : (k : base.Config) (clients servers disks blocks form : ℕ) → IsHead k clients servers disks blocks form → AllOnce (terms_of k) (clients + servers) [] (traced (fresh_world k clients servers disks blocks form))
unfolding fresh_world cl.fresh_client server.fresh_server
begins k clients servers disks blocks form head = record { base = first k clients servers disks blocks form head; gives = gives }
  where
    w : World
    w = fresh_world k clients servers disks blocks form

    none : {A B : Type 0} {x : A} → ◌≡◌ {A = Option A} None (Some x) → B
    none e = cc

    empty : (c : ℕ) (a : Association) → a.session ≡ None → Side (λ n. None) c a []
    empty c a e =
        record {
          kept = subst (λ x. Kept a.life.0 a.store x []) (sym e) tt;
          held = λ i l. absurd (let y = ap (λ x. (held_in x i).mode) e in omega (arith, l, y));
        }

    fresh : (s : ServerId) → GivesOnce w s (node_at_start k servers disks blocks s.0)
    fresh s =
        record {
          owner = λ n. None;
          state = (record { low = λ n y e. none e; rows = λ r h. absurd h }, λ c x e. none e);
          told = λ n y e. none e;
          pairs = λ c. record {
            net = [];
            tells = λ m h. absurd h;
            shows = λ m h from to. absurd h;
            receives = λ m h to of from. absurd h;
            side = λ site e a i here. empty c a (session site (fresh_is (fresh_site k servers) clients c site e) a i);
          };
        }
      where
        session : {c : ℕ} (site : WorldClient) → site ≡ fresh_site k servers c → (a : Association) → Has a site.node.state.associations → a.session ≡ None
        session {c} site e a i = let z = has_map cl.fresh_association (numbers 1 servers) a (subst (λ (y : WorldClient). Has a y.node.state.associations) e i) in ap (λ (y : Association). y.session) z.2

    gives : AllGiveOnce w
    gives s node e = subst (GivesOnce w s) (sym (fresh_is (node_at_start k servers disks blocks) servers s.0 node e)) (fresh s)

pub grant_numbers_are_given_once : InEveryRun GrantNumbersAreGivenOnce
grant_numbers_are_given_once k clients servers disks blocks form es head events =
    throughout_events (clients + servers) GrantNumbersAreGivenOnce (AllOnce (terms_of k) (clients + servers)) (λ past t e sc r h taken. let z = both (terms_of k) (clients + servers) past t e sc r h taken in (z.0.0, z.1)) es events []
    (traced (fresh_world k clients servers disks blocks form)) (begins k clients servers disks blocks form head)

pub rising : InEveryRun GrantNumbersRise
rising k clients servers disks blocks form es head events =
    throughout_events (clients + servers) GrantNumbersRise (AllOnce (terms_of k) (clients + servers)) (λ past t e sc r h taken. let z = both (terms_of k) (clients + servers) past t e sc r h taken in (z.0.1, z.1)) es events []
    (traced (fresh_world k clients servers disks blocks form)) (begins k clients servers disks blocks form head)
