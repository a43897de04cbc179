-- Outstanding requests go on: at the start, after every event, and over whole runs.
use Rattle.st_lemmas.proofs.Words
use Words.{◌≡◌, ℕ, ◌+◌, Bool, true, false, List, [], ◌∷◌, ◌++◌, Option, Some, None, Ok, refl, sym, ap, ◌∙◌, subst, inl, Event, Message, find, Session}
use Words.Events.{WorldTurn, counted, happens, world_step}
use Words.History.{Traced, traced, traced_after}
use Words.Safety.{Step, is_event, step}
use Words.Extents.{numbers}
use Words.Sessions as sessions
use Words.Numbers.{numbered_has}
use Words.Tables.{has_map}
use Words.World.{World, fresh_world, node_at_start}
use Words.Server as server
use Words.Lists.{Has}
use Words.Members.{has_last}
use Rattle.st_base.specs.declared.config.Config as base
use Rattle.st_protocol.specs.Assoc.{Config}
use Rattle.st_lemmas.proofs.Steps.{step_happens}
use Rattle.st_laws_refine.specs.Server.Pair.{terms_of}
use Rattle.st_laws_leases.specs.Sides.Law.{InEveryRun}
use Rattle.st_laws_leases.proofs.Sides.Runs.{throughout_events}
use Rattle.st_laws_reads.specs.Copies.World.{Taking, taken}
use Rattle.st_laws_leases.specs.Dates.Dates.{messages}
use Rattle.st_laws_reads.proofs.AllClients.Takings.{Takes, takes_event}
use Rattle.st_laws_extents.proofs.CutRequests.Law as cutters
use Rattle.st_laws_extents.specs.Known.Law.{IsTold, KnownAfter, SubmitsAt}
use Rattle.st_laws_extents.specs.ExtentReplies.Law.{AskedAfter, IsAsked, RequestsGo}
use Rattle.st_laws_extents.specs.ExtentReplies.Maps.{MapsAt}
use Rattle.st_laws_extents.proofs.ExtentReplies.Events.{event_tells}
use Rattle.st_laws_extents.proofs.ExtentReplies.Law as told
use Rattle.st_laws_extents.proofs.ExtentReplies.Received as received
use Rattle.st_laws_extents.specs.LockedRequests.Keys.{KeysTold}
use Rattle.st_laws_extents.specs.LockedRequests.AllSessions.{AllSeen}
use Rattle.st_laws_extents.proofs.LockedRequests.Keys.{keyed_step}
use Rattle.st_laws_extents.proofs.LockedRequests.Seen.{fresh_seen, seen_step}
use Rattle.st_laws_extents.proofs.LockedRequests.Taking.{runs_go, stops_go}
use Rattle.st_laws_extents.proofs.LockedRequests.World.{Back, none_taken}

-- What holds after every event.
pub record Hold (k : Config) (count : ℕ) (past : List Step) (t : Traced) : Type 0 where
  pub asks : cutters.Hold k count past t
  pub keys : KeysTold t.world
  pub seen : AllSeen t.world

-- a world whose events are counted has the same clients
uncounted : (w v : World) → Back (counted w) v → RequestsGo w v
uncounted w v f c site a x q z = let o = f c site a x q z in
    inl (record {
      site = o.site;
      by = o.by;
      session = o.session;
      request = o.request;
      at = record { run = record { there = o.at.run.there; runs = o.at.run.runs }; has = o.at.has; session = o.at.session; lasts = o.at.lasts; asked = o.at.asked; current = o.at.current };
      server = o.server;
      life = o.life;
      epoch = o.epoch;
      number = o.number;
      body = o.body;
    })

module _ (k : Config) (count : ℕ) (past : List Step) (t : Traced) (e : Event) (sc : WorldTurn) (ranges : is_event count e ≡ true) (h : Hold k count past t) (is : world_step t.world e ≡ Ok sc) where
  asks_next : cutters.Hold k count (past ++ step t e sc ∷ []) (traced_after e t sc)
  asks_next = (cutters.one k count past t e sc ranges h.asks is).1

  grown : (m : Message) → Has m (messages t.world) → Has m (messages sc.world)
  grown m i = asks_next.cuts.grown (step t e sc) (has_last past (step t e sc)) m i

  next : Hold k count (past ++ step t e sc ∷ []) (traced_after e t sc)
  next =
      record {
        asks = asks_next;
        keys = keyed_step t.world sc.world grown (λ s n at. (h.asks.replies.dated.servers s n at).id) h.keys (event_tells past t h.asks.replies h.asks.cuts.few e sc (cutters.owed k count past t e sc ranges h.asks is) is);
        seen = seen_step t.world e sc is (λ c site q. (h.asks.all.fates.lives.lives.sites c site q).fit) h.seen;
      }

  goes : RequestsGo t.world sc.world
  goes = go (taken (counted t.world) e) refl
    where
      go : (o : Option Taking) → taken (counted t.world) e ≡ o → RequestsGo t.world sc.world
      go None q = subst (λ (z : WorldTurn). RequestsGo t.world z.world) (sym (step_happens t.world e sc is).1) (uncounted t.world (happens (counted t.world) e).world (none_taken (counted t.world) e q))
      go (Some x) q = by x.site.node.running refl
        where
          takes : Takes (counted t.world) sc x
          takes = subst (λ (z : WorldTurn). Takes (counted t.world) z x) (sym (step_happens t.world e sc is).1) (takes_event (counted t.world) e x q)

          by : (b : Bool) → x.site.node.running ≡ b → RequestsGo t.world sc.world
          by true r = runs_go k count past t h.asks h.keys h.seen sc asks_next.all x takes r
          by false r = stops_go k count past t h.asks h.keys h.seen sc asks_next.all x takes r

  pub one : IsAsked past (step t e sc) × Hold k count (past ++ step t e sc ∷ []) (traced_after e t sc)
  one = (goes, next)

-- at the start no server has a session
fresh_rows : (k : base.Config) (servers d b j : ℕ) → (node_at_start k servers d b j).state.sessions.rows ≡ []
unfolding server.fresh_server
fresh_rows k servers d b j = refl

none_session : {A : Type 0} (x : Session) → ◌≡◌ {A = Option Session} None (Some x) → A
none_session x e = cc

-- and nothing was sent
fresh_keys : (k : base.Config) (clients servers disks blocks form : ℕ) → KeysTold (fresh_world k clients servers disks blocks form)
unfolding fresh_world
fresh_keys k clients servers disks blocks form =
    record {
      sent = λ m ino rows i. absurd i;
      kept = λ s n at run c life number ino rows r.
          let z = has_map (node_at_start k servers disks blocks) (numbers 1 servers) n (numbered_has (fresh_world k clients servers disks blocks form).servers s.0 n at) in
          none_session r.session (sym (ap (find (sessions.is_session_of c)) (ap (λ (y : server.ServerNode). y.state.sessions.rows) z.2 ∙ fresh_rows k servers disks blocks z.0)) ∙ r.is);
    }

pub is_asked : InEveryRun IsAsked
is_asked k clients servers disks blocks form es head events =
    throughout_events (clients + servers) IsAsked (Hold (terms_of k) (clients + servers)) (λ past t e sc r h is. one (terms_of k) (clients + servers) past t e sc r h is) es events []
    (traced (fresh_world k clients servers disks blocks form))
    (record { asks = cutters.first k clients servers disks blocks form head; keys = fresh_keys k clients servers disks blocks form; seen = fresh_seen k clients servers disks blocks form })

pub replies : InEveryRun AskedAfter
replies k clients servers disks blocks form es head events = told.asked k clients servers disks blocks form es head events (is_asked k clients servers disks blocks form es head events)

pub is_told : InEveryRun IsTold
is_told k clients servers disks blocks form es head events = received.is_told k clients servers disks blocks form es head events (is_asked k clients servers disks blocks form es head events)

pub known : InEveryRun KnownAfter
known k clients servers disks blocks form es head events = received.known k clients servers disks blocks form es head events (is_asked k clients servers disks blocks form es head events)

pub submits : InEveryRun SubmitsAt
submits k clients servers disks blocks form es head events = received.submits k clients servers disks blocks form es head events (is_asked k clients servers disks blocks form es head events)

pub maps_at : InEveryRun MapsAt
maps_at k clients servers disks blocks form es head events = received.maps_at k clients servers disks blocks form es head events (is_asked k clients servers disks blocks form es head events)
