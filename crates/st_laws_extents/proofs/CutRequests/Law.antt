-- Cuts are asked: at the start, after every event, and over whole runs.
use Rattle.st_lemmas.proofs.Words
use Words.{◌≡◌, ◌⊎◌, ℕ, ◌+◌, Bool, true, false, List, [], ◌∷◌, ◌++◌, Option, Some, None, Ok, refl, sym, ap, ◌∙◌, subst, inl, inr, ClientId, FileId, GrantNo}
use Words.{PageNo, ServerId, Event}
use Words.nodes
use Words.seen
use Words.Client as cl
use Words.ClientState.{Association, ClientSession}
use Words.Events as ev
use Words.Events.{WorldTurn, world_step}
use Words.Extents.{numbers}
use Words.History.{Traced, traced, traced_after}
use Words.Keys.{client}
use Words.Safety.{IsHead, Step, is_event, step}
use Words.World.{World, WorldClient, clock_of, fresh_world, numbered, site_of}
use Words.Lists.{Has}
use Words.Tables.{has_map}
use Rattle.st_base.specs.declared.config.Config as base
use Rattle.st_protocol.specs.Assoc.{Config, In, Msg}
use Rattle.st_protocol.specs.Assoc as net
use Rattle.st_protocol.proofs.Timing.{grows}
use Rattle.st_lemmas.proofs.Steps.{step_happens}
use Rattle.st_laws_refine.proofs.Views.Moves.{moves_grow}
use Rattle.st_laws_pages.proofs.Disks.Whole.{site_is}
use Rattle.st_laws_steps.specs.Lives.Lives.{clock_in}
use Rattle.st_laws_leases.proofs.Dates.Law as dates
use Rattle.st_laws_refine.specs.Server.Pair.{terms_of}
use Rattle.st_laws_leases.specs.Sides.Law.{InEveryRun}
use Rattle.st_laws_leases.specs.Sides.Invariants.{Standing}
use Rattle.st_laws_leases.specs.Sides.World.{AllStand, ServerStands}
use Rattle.st_laws_leases.proofs.Sides.Paths.{follows}
use Rattle.st_laws_leases.proofs.Sides.FirstWorld.{begun}
use Rattle.st_laws_leases.proofs.Sides.Pairs.{only_here}
use Rattle.st_laws_leases.proofs.Sides.Runs.{full, throughout_events}
use Rattle.st_laws_refine.specs.Server.Paths.{Here, Path, SteppedOn, WorkedOn}
use Rattle.st_laws_leases.specs.Sides.Paths.{CameFrom, Followed}
use Rattle.st_laws_requests.proofs.Replies.Replies as replies
use Rattle.st_laws_requests.proofs.Replies.Replies.{RepliesHold}
use Rattle.st_laws_requests.specs.Cuts.Cuts.{CutsHold}
use Rattle.st_laws_requests.proofs.Cuts.Law as cutting
use Rattle.st_laws_reads.specs.AllClients.Obligations.{CutAsked}
use Rattle.st_laws_steps.specs.Client.Session.{HasExclusive}
use Rattle.st_laws_extents.specs.CutRequests.Asks.{AsksBehind, AsksStand, Of}
use Rattle.st_laws_extents.specs.CutRequests.Cut.{CutIn}
use Rattle.st_laws_extents.specs.CutRequests.Law.{CutsAreAsked, gifts}
use Rattle.st_laws_extents.specs.CutRequests.NamedGrants.{Given}
use Rattle.st_laws_extents.specs.CutRequests.World.{AllAsk, AllAsked, Gifts, IsServed}
use Rattle.st_laws_extents.proofs.CutRequests.Asked.{is_asked}
use Rattle.st_laws_extents.proofs.CutRequests.Named.{given_more}
use Rattle.st_laws_extents.proofs.CutRequests.New.{new_owed}
use Rattle.st_laws_extents.proofs.CutRequests.Requesting.{remove_more}
use Rattle.st_laws_extents.proofs.CutRequests.Seen.{cuts_known}
use Rattle.st_laws_extents.proofs.CutRequests.Standing.{given_held}
use Rattle.st_laws_extents.proofs.CutRequests.World.{stand_again}
use Rattle.st_laws_extents.proofs.CutRequests.ServersGoOn.{event_goes}
use Rattle.st_laws_extents.specs.CutRequests.EndedLives.{GoesBetween}
use Rattle.st_laws_extents.specs.CutRequests.FreshRequests.{FreshAreOutstanding}
use Rattle.st_laws_extents.proofs.CutRequests.Fresh.{outstanding}

-- What holds after every event.
pub record Hold (k : Config) (count : ℕ) (past : List Step) (t : Traced) : Type 0 where
  pub cuts : CutsHold past t
  pub replies : RepliesHold past t
  pub all : AllStand k count t.world
  pub asks : AllAsk (gifts k count t.world all) t.world

-- Messages of the machine stay.
path_grows : (k : Config) {u v : net.World} → Path k u v → (c : ℕ) (m : Msg) → In m (u.at c).net → In m (v.at c).net
path_grows k (Here a) c m h = h
path_grows k (SteppedOn {u} {v} {w} p s) c m h = go (s.each c) (path_grows k p c m h)
  where
    go : net.Move k (v.at c) (w.at c) ⊎ (w.at c ≡ v.at c) → In m (v.at c).net → In m (w.at c).net
    go (inl x) i = grows k x m i
    go (inr e) i = subst (λ (a : net.Assoc). In m a.net) (sym e) i
path_grows k (WorkedOn p s) c m h = moves_grow (s.each c) m (path_grows k p c m h)

-- What was given stays given.
pub gifts_stay : (k : Config) (count : ℕ) (w v : World) (all : AllStand k count w) (f : Followed k count w all v) (c : ClientId) (s : ServerId) (ino : ℕ) (g : GrantNo) → gifts k count w all c s ino g → gifts k count v f.after c s ino g
gifts_stay k count w v all f c s ino g h next at =
    let o : CameFrom k count w all v s.0 next (f.after.servers s.0 next at) = f.came s.0 next at in
    given_more ((all.servers s.0 o.node o.before).ghosts c.0).net ((f.after.servers s.0 next at).ghosts c.0).net (path_grows k o.path c.0) ino g.0 (h o.node o.before)

-- in a session, with other gifts
asks_given : (B : ServerId → ℕ → ℕ → ℕ → Type 0) (G H : ServerId → ℕ → GrantNo → Type 0) → ((s : ServerId) (ino : ℕ) (g : GrantNo) → G s ino g → H s ino g) → (s : ServerId) (life : ℕ) (o : Option ClientSession) → Of (AsksStand B G) s life o → Of (AsksStand B H) s life o
asks_given B G H f s life None h = tt
asks_given B G H f s life (Some x) h = record { last = h.last; first = h.first; served = h.served; cut = h.cut; remove = λ q e. remove_more (G s) (H s) (f s) x.cutting q.body (h.remove q e) }

-- after a step, what is held was given
asks_held : (B : ServerId → ℕ → ℕ → ℕ → Type 0) (G : ServerId → ℕ → GrantNo → Type 0) (s : ServerId) (life : ℕ) (o : Option ClientSession) →
    ((x : ClientSession) → o ≡ Some x → (ino : ℕ) (g : GrantNo) → HasExclusive x ino g → G s ino g) → AsksBehind B G s life o → Of (AsksStand B G) s life o
asks_held B G s life None f h = tt
asks_held B G s life (Some x) f h = record { last = h.last; first = h.first; served = h.served; cut = h.cut; remove = λ q e. remove_more _ (G s) (λ ino g y. go ino g y) x.cutting q.body (h.remove q e) }
  where
    go : (ino : ℕ) (g : GrantNo) → G s ino g ⊎ HasExclusive x ino g → G s ino g
    go ino g (inl y) = y
    go ino g (inr y) = f x refl ino g y

-- in a world in which everything holds, what is held was given
held_given : (k : Config) (count : ℕ) (w : World) (all : AllStand k count w) (c : ClientId) (site : WorldClient) → site_of w c ≡ Some site → (a : Association) → Has a site.node.state.associations → (x : ClientSession) → a.session ≡ Some x →
    (ino : ℕ) (g : GrantNo) → HasExclusive x ino g → gifts k count w all c a.server ino g
held_given k count w all c site there a i x e ino g y node at = go site.node.running refl
  where
    z : ServerStands k w a.server.0 node
    z = all.servers a.server.0 node at

    q : Standing k a.server.0 c.0 site w.ended (z.ghosts c.0).net
    q = z.both.clients c.0 site there

    none : {A : Type 0} → ◌≡◌ {A = Option ClientSession} None (Some x) → A
    none n = cc

    go : (b : Bool) → site.node.running ≡ b → Given (z.ghosts c.0).net ino g.0
    go true runs = given_held k count w all a.server.0 node at c.0 site (record { there = there; runs = runs }) a i refl x e ino g y
    go false stops = none (sym (q.stopped stops).0 ∙ ap (λ (b : Association). b.session) (sym (only_here a.server.0 site.node.state.associations q.association q.sim.place a i refl)) ∙ e)

stands_given : (k : Config) (count : ℕ) (w : World) (all : AllStand k count w) → AllAsked (gifts k count w all) w → AllAsk (gifts k count w all) w
stands_given k count w all h c site there a i = asks_held (IsServed w c) (gifts k count w all c) a.server a.life.0 a.session (λ x e. held_given k count w all c site there a i x e) (h c site there a i)

module _ (k : Config) (count : ℕ) (past : List Step) (t : Traced) (e : Event) (sc : WorldTurn) (ranges : is_event count e ≡ true) (h : Hold k count past t) (taken : world_step t.world e ≡ Ok sc) where
  pub followed : Followed k count t.world h.all sc.world
  followed = follows k count t.world e sc h.all (full count t.world e h.all.nodes ranges) taken

  pub owed : Rattle.st_laws_requests.specs.Replies.ServedRequests.NewOwed (ev.counted t.world) e
  owed = new_owed k count t.world h.all e (step_happens t.world e sc taken).0

  G : Gifts
  G = gifts k count sc.world followed.after

  before : AllAsk (gifts k count sc.world followed.after) t.world
  before c site there a i = asks_given (IsServed t.world c) (gifts k count t.world h.all c) (gifts k count sc.world followed.after c) (λ s ino g. gifts_stay k count t.world sc.world h.all followed c s ino g) a.server a.life.0 a.session (h.asks c site there a i)

  next : Hold k count (past ++ step t e sc ∷ []) (traced_after e t sc)
  next =
      record {
        cuts = (cutting.one past t e sc h.cuts taken).1;
        replies = replies.one past t e sc h.replies owed taken;
        all = followed.after;
        asks = stands_given k count sc.world followed.after (stand_again past t h.cuts h.replies (gifts k count sc.world followed.after) before e sc owed taken);
      }

  -- what holds after the step, with what was followed
  pub same_all : (one_hold : Hold k count (past ++ step t e sc ∷ []) (traced_after e t sc)) × (one_hold.all ≡ followed.after)
  unfolding followed next
  same_all = (next, refl)

  asked : (index : ℕ) (f : FileId) (p : PageNo) → Has (seen.CutAt index f p) sc.seen → CutAsked sc.world f p
  asked index f p i d site a run j e2 lasts alone held =
      is_asked k count past t h.cuts h.all h.asks f p (record { node = known.0.node; there = known.0.there; running = known.0.running; message = known.0.message; among = known.0.among; by = known.0.by }) d site (record { there = ap (λ xs. numbered xs (client d).0) (sym known.1.clients) ∙ run.there; runs = run.runs }) a j e2
      (subst (λ w. Rattle.st_laws_refine.specs.Client.Invariants.Lasts site.node.state.config.lease w a.session) clock lasts) held
    where
      known : CutIn (ev.counted t.world) f p × Rattle.st_laws_extents.specs.CutRequests.Cut.Unmoved (ev.counted t.world) sc.world
      known = cuts_known t.world e sc (λ s n at. (h.replies.dated.servers s n at).id) taken index f p i

      clock : (clock_of sc.world (nodes.Client (client d))).0 ≡ (clock_of t.world (nodes.Client (client d))).0
      clock = ap (λ ts. (clock_in ts (client d)).0) known.1.clocks

  pub one : CutsAreAsked past (step t e sc) × Hold k count (past ++ step t e sc ∷ []) (traced_after e t sc)
  one = (asked, next)

-- The start.
empty : (B : ServerId → ℕ → ℕ → ℕ → Type 0) (G : ServerId → ℕ → GrantNo → Type 0) (a : Association) → a.session ≡ None → Of (AsksStand B G) a.server a.life.0 a.session
empty B G a e = subst (Of (AsksStand B G) a.server a.life.0) (sym e) tt

fresh_asks : (k : base.Config) (clients servers disks blocks form : ℕ) (G : Gifts) → AllAsk G (fresh_world k clients servers disks blocks form)
unfolding fresh_world cl.fresh_client
fresh_asks k clients servers disks blocks form G c site e =
    subst (λ (s : WorldClient). (a : Association) → Has a s.node.state.associations → Of (AsksStand (IsServed (fresh_world k clients servers disks blocks form) c) (G c)) a.server a.life.0 a.session) (sym (site_is k clients servers c.0 site e).0)
    (λ a i. let z = has_map cl.fresh_association (numbers 1 servers) a i in empty _ (G c) a (ap (λ (y : Association). y.session) z.2))

pub first : (k : base.Config) (clients servers disks blocks form : ℕ) → IsHead k clients servers disks blocks form → Hold (terms_of k) (clients + servers) [] (traced (fresh_world k clients servers disks blocks form))
unfolding fresh_world
first k clients servers disks blocks form head =
    record {
      cuts = cutting.fresh_holds k clients servers disks blocks form head;
      replies = record { dated = dates.fresh_dated k clients servers disks blocks form head; replies = λ s n at m h. absurd h };
      all = begun k clients servers disks blocks form head;
      asks = fresh_asks k clients servers disks blocks form (gifts (terms_of k) (clients + servers) (fresh_world k clients servers disks blocks form) (begun k clients servers disks blocks form head));
    }

pub cuts_are_asked : InEveryRun CutsAreAsked
cuts_are_asked k clients servers disks blocks form es head events =
    throughout_events (clients + servers) CutsAreAsked (Hold (terms_of k) (clients + servers)) (λ past t e sc r h taken. one (terms_of k) (clients + servers) past t e sc r h taken) es events []
    (traced (fresh_world k clients servers disks blocks form)) (first k clients servers disks blocks form head)

-- and events go on
pub goes : InEveryRun GoesBetween
goes k clients servers disks blocks form es head events =
    throughout_events (clients + servers) GoesBetween (Hold (terms_of k) (clients + servers))
    (λ past t e sc r h taken. (event_goes past t h.replies e sc (owed (terms_of k) (clients + servers) past t e sc r h taken) taken, (one (terms_of k) (clients + servers) past t e sc r h taken).1)) es events []
    (traced (fresh_world k clients servers disks blocks form)) (first k clients servers disks blocks form head)

-- and what is served anew is outstanding
pub fresh : InEveryRun FreshAreOutstanding
fresh k clients servers disks blocks form es head events =
    throughout_events (clients + servers) FreshAreOutstanding (Hold (terms_of k) (clients + servers))
    (λ past t e sc r h taken. (outstanding (terms_of k) (clients + servers) past t h.cuts h.all h.asks, (one (terms_of k) (clients + servers) past t e sc r h taken).1)) es events []
    (traced (fresh_world k clients servers disks blocks form)) (first k clients servers disks blocks form head)
