-- Cuts are asked: at the start, after every event, and over whole runs.
use Rattle.st_lemmas.proofs.Words
use Words.{◌≡◌, ℕ, ◌+◌, ◌≤◌, true, not, List, [], ◌∷◌, ◌++◌, Some, None, Ok, refl, sym, ap, ◌∙◌, subst, arith, list_any, eq-eqb, ClientId, FileId, PageNo}
use Words.{ServerId, NameAsk, Ask, Event, Body, Message, NameOp, Observation}
use Words.names
use Words.modes
use Words.asks
use Words.bodies
use Words.ops
use Words.seen
use Words.Client as cl
use Words.ClientPasses.{name_op}
use Words.ClientState.{Association, asks_cut_or_name}
use Words.Events as ev
use Words.Events.{WorldTurn, world_step}
use Words.Extents.{numbers}
use Words.History.{Traced, traced, traced_after}
use Words.Keys.{client}
use Words.Safety.{IsHead, Step, is_event, step}
use Words.World.{World, WorldClient, all_clients, fresh_world, fresh_site, node_of, site_of}
use Words.Lists.{Has}
use Words.Tables.{all_pass, and_both, has_map, some_passes}
use Rattle.st_base.specs.declared.config.Config as base
use Rattle.st_base.specs.Mode.{covers, number_of}
use Rattle.st_protocol.specs.Assoc.{Config}
use Rattle.st_laws_refine.specs.Server.Pair.{terms_of}
use Rattle.st_laws_pages.proofs.Disks.Whole.{site_is}
use Rattle.st_laws_leases.specs.Sides.Law.{InEveryRun}
use Rattle.st_laws_leases.proofs.Sides.Runs.{throughout_events}
use Rattle.st_laws_extents.specs.CutRequests.Cut.{AsksCut, CutIn}
use Rattle.st_laws_extents.specs.CutRequests.Law.{gifts}
use Rattle.st_laws_extents.specs.CutRequests.NamedGrants.{Given}
use Rattle.st_laws_extents.proofs.CutRequests.Law.{Hold, first, followed, same_all}
use Rattle.st_laws_extents.proofs.CutRequests.Seen.{cuts_known}
use Rattle.st_laws_extents.proofs.CutRequests.Standing.{given_row, named}
use Rattle.st_promises.specs.CutAsks.{CutsAreAsked, asks_cut, cuts_by, has_alone_at, is_cut_asked, is_exclusive, is_open_cut, numbered_asks}
use Rattle.st_laws_cuts.specs.Owners.{view}
use Rattle.st_laws_cuts.specs.EndedRequests.{MeansGrant, MeansOf, MeansTo}
use Rattle.st_laws_cuts.specs.ServedRequests.{IsServedAt}
use Rattle.st_laws_cuts.proofs.Open as opened
use Rattle.st_laws_cuts.proofs.Open.{OpenAsk}
use Rattle.st_laws_cuts.proofs.World.{OwnersHold, owners_on}

module _ (k : Config) (count : ℕ) (past : List Step) (t : Traced) (h : Hold k count past t) (d : OwnersHold past (gifts k count t.world h.all) t.world) (f : FileId) (p : PageNo) (z : CutIn t.world f p) where
  abbrev m : Message
  m = z.message

  abbrev c : ClientId
  c = client z.message.header.from

  two : 2 ≤ number_of z.by.row.mode
  two = let q = ap number_of z.by.exclusive in omega (arith, q)

  served : IsServedAt t.world f.server
  served =
      record {
        node = z.node;
        there = z.there;
        running = z.running;
        message = z.message;
        among = z.among;
        server = z.by.server;
        by = record { client = z.by.client; to = z.by.to; of_epoch = z.by.of_epoch; session = z.by.session; is = z.by.is; of_life = z.by.of_life; last = z.by.last; reply = z.by.reply; state = z.by.state; next = z.by.next };
      }

  row : Given ((h.all.servers f.server.0 z.node z.there).ghosts z.message.header.from).net f.ino z.by.row.g.0
  row = given_row k count t.world h.all f.server.0 z.node z.there z.message.header.from f.ino z.by.row z.by.found (let q = two in omega (arith, q))

  own : asks_cut_or_name served.message.body ≡ true
  unfolding served
  own = go z.message.body z.by.asks
    where
      go : (b : Body) → AsksCut b f.ino p z.by.row.g → asks_cut_or_name b ≡ true
      go (bodies.Cut ino g from) a = refl
      go (bodies.Name (ops.Remove dir name g)) a = refl
      go b a = absurd a

  -- what the request asks is what was cut
  pub asks_it : (a : Ask) (b : Body) → MeansTo (gifts k count t.world h.all (client z.message.header.from) f.server) f.server a b → AsksCut b f.ino p z.by.row.g → asks_cut f p a ≡ true
  asks_it (asks.Cut g q) (bodies.Cut ino n from) e a =
      and_both _ _ (and_both _ _ (eq-eqb _ _ (ap (λ (y : ServerId). y.0) e.0)) (eq-eqb _ _ (e.1 ∙ a.0))) (eq-eqb _ _ (ap (λ (y : PageNo). y.0) (e.2 ∙ a.1)))
  asks_it (asks.Name sv n) (bodies.Name op) e a = name n op e.1 a
    where
      name : (n : NameAsk) (op : NameOp) → MeansGrant (gifts k count t.world h.all (client z.message.header.from) f.server) n op → AsksCut (bodies.Name op) f.ino p z.by.row.g → asks_cut f p (asks.Name sv n) ≡ true
      name n op k2 a = by n (subst (λ w. AsksCut (bodies.Name w) f.ino p z.by.row.g) k2.is a) k2.of
        where
          by : (n : NameAsk) → AsksCut (bodies.Name (name_op n k2.g)) f.ino p z.by.row.g → MeansOf (gifts k count t.world h.all (client z.message.header.from) f.server) n k2.g → asks_cut f p (asks.Name sv n) ≡ true
          by (names.Remove dir x ino) a of = and_both _ _ (eq-eqb _ _ (ap (λ (y : ServerId). y.0) e.0)) (and_both _ _ (eq-eqb _ _ its) (eq-eqb _ _ (ap (λ (y : PageNo). y.0) a.0)))
            where
              of_grant : Given ((h.all.servers f.server.0 z.node z.there).ghosts z.message.header.from).net f.ino k2.g.0
              of_grant = subst (Given ((h.all.servers f.server.0 z.node z.there).ghosts z.message.header.from).net f.ino) (sym a.1) row

              one : 1 ≤ k2.g.0
              one = (named k count t.world h.all f.server.0 z.node z.there z.message.header.from).net.positive f.ino k2.g.0 of_grant

              its : ino ≡ f.ino
              its = (named k count t.world h.all f.server.0 z.node z.there z.message.header.from).net.one ino f.ino k2.g.0 (of one z.node z.there) of_grant
          by (names.Lookup dir x) a of = absurd a
          by (names.Create dir x) a of = absurd a
          by (names.Mkdir dir x) a of = absurd a
          by (names.Rename dir x dir2 x2) a of = absurd a
          by (names.List dir x) a of = absurd a
  asks_it a b e q = absurd e

  -- an ask that is open
  is_open : list_any (is_open_cut past (client z.message.header.from) f p) (numbered_asks past (client z.message.header.from)) ≡ true
  unfolding served
  is_open = by (opened.is_open k count past t h d f.server served own)
    where
      by : OpenAsk past (gifts k count t.world h.all (client z.message.header.from) f.server) (client z.message.header.from) f.server z.message.body → list_any (is_open_cut past (client z.message.header.from) f p) (numbered_asks past (client z.message.header.from)) ≡ true
      by o = some_passes (is_open_cut past (client z.message.header.from) f p) _ (o.op, o.ask) (opened.under k count past t h d f.server served own o.op o.ask o.asked) (and_both _ _ (asks_it o.ask z.message.body o.means z.by.asks) (ap not o.unsettled))

  -- only the client had the file
  pub alone : has_alone_at (client z.message.header.from) f.ino (node_of t.world f.server) ≡ true
  alone = subst (λ o. has_alone_at (client z.message.header.from) f.ino o ≡ true) (sym z.there) (and_both _ _ z.running (subst (λ o. is_exclusive o ≡ true) (sym z.by.found) (ap (λ x. covers x modes.X) z.by.exclusive)))

  pub is_asked : list_any (cuts_by past t.world f p) (all_clients t.world) ≡ true
  unfolding served
  is_asked = some_passes (cuts_by past t.world f p) (all_clients t.world) (client z.message.header.from) (opened.among k count past t h d f.server served own) (and_both _ _ alone is_open)

-- What holds after every event.
pub record AllHold (k : Config) (count : ℕ) (past : List Step) (t : Traced) : Type 0 where
  pub base : Hold k count past t
  pub owners : OwnersHold past (gifts k count t.world base.all) t.world

-- what holds after an event; what is known of messages there is what followed from what held before it
pub holds_on : (k : Config) (count : ℕ) (past : List Step) (t : Traced) (e : Event) (sc : WorldTurn) (r : is_event count e ≡ true) (h : AllHold k count past t) (taken : world_step t.world e ≡ Ok sc) →
    (n : AllHold k count (past ++ step t e sc ∷ []) (traced_after e t sc)) × (n.base.all ≡ (followed k count past t e sc r h.base taken).after)
holds_on k count past t e sc r h taken = (record { base = next.0; owners = subst (λ a. OwnersHold (past ++ step t e sc ∷ []) (gifts k count sc.world a) sc.world) (sym next.1) (owners_on k count past t e sc r h.base taken h.owners) }, next.1)
  where
    next : (n : Hold k count (past ++ step t e sc ∷ []) (traced_after e t sc)) × (n.all ≡ (followed k count past t e sc r h.base taken).after)
    next = same_all k count past t e sc r h.base taken

pub one : (k : Config) (count : ℕ) (past : List Step) (t : Traced) (e : Event) (sc : WorldTurn) → is_event count e ≡ true → AllHold k count past t → world_step t.world e ≡ Ok sc → CutsAreAsked past (step t e sc) × AllHold k count (past ++ step t e sc ∷ []) (traced_after e t sc)
one k count past t e sc r h taken = (all_pass (is_cut_asked past t.world) sc.seen asked, (holds_on k count past t e sc r h taken).0)
  where
    asked : (o : Observation) → Has o sc.seen → is_cut_asked past t.world o ≡ true
    asked (seen.CutAt index f p) i = is_asked k count past t h.base h.owners f p (record { node = known.node; there = known.there; running = known.running; message = known.message; among = known.among; by = known.by })
      where
        known : CutIn (ev.counted t.world) f p
        known = (cuts_known t.world e sc (λ s n at. (h.base.cuts.servers s n at).id) taken index f p i).0
    asked o i = refl

-- The start.
pub begins : (k : base.Config) (clients servers disks blocks form : ℕ) → IsHead k clients servers disks blocks form → AllHold (terms_of k) (clients + servers) [] (traced (fresh_world k clients servers disks blocks form))
unfolding fresh_world cl.fresh_client
begins k clients servers disks blocks form head = record { base = first k clients servers disks blocks form head; owners = owners }
  where
    w : World
    w = fresh_world k clients servers disks blocks form

    site : (c : ClientId) (s : WorldClient) → site_of w c ≡ Some s → s ≡ fresh_site k servers c.0
    site c s e = (site_is k clients servers c.0 s e).0

    none_asked : (c : ClientId) (s : WorldClient) → site_of w c ≡ Some s → s.node.state.operations ≡ []
    none_asked c s e = ap (λ (y : WorldClient). y.node.state.operations) (site c s e)

    no_session : (c : ClientId) (s : WorldClient) → site_of w c ≡ Some s → (a : Association) → Has a s.node.state.associations → a.session ≡ None
    no_session c s e a i = let z = has_map cl.fresh_association (numbers 1 servers) a (subst (λ (y : WorldClient). Has a y.node.state.associations) (site c s e) i) in ap (λ (y : Association). y.session) z.2

    owners : OwnersHold [] (gifts (terms_of k) (clients + servers) w (first k clients servers disks blocks form head).all) w
    owners =
        record {
          owned = λ c s e a i. subst (λ o. Rattle.st_laws_cuts.specs.Owners.Owned a.server (view o) s.node.state.operations) (sym (no_session c s e a i)) tt;
          over = λ c s e a i m j. absurd j;
          unsaid = λ c s e o i. refl;
          later = λ c op l. refl;
          senders = λ m j. absurd j;
          few = λ c s e n. let z = ap (Rattle.st_laws_cuts.proofs.Counts.pending n) (none_asked c s e) in omega (arith, z);
        }

pub cuts_are_asked : InEveryRun CutsAreAsked
cuts_are_asked k clients servers disks blocks form es head events =
    throughout_events (clients + servers) CutsAreAsked (AllHold (terms_of k) (clients + servers)) (one (terms_of k) (clients + servers)) es events [] (traced (fresh_world k clients servers disks blocks form)) (begins k clients servers disks blocks form head)
