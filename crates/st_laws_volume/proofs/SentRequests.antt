-- In every run clients send the requests of cuts and of asks for names in order: no earlier operation must take effect before one that was sent, but for asks
-- that need no file.
use Rattle.st_lemmas.proofs.Words
use Words.{◌≡◌, ◌≢◌, ◌⊎◌, ℕ, ◌+◌, arith, Bool, true, false, List, [], ◌∷◌, Option, Some, None, Ok, Err, Result, refl, sym, ap, ◌∙◌, subst, inl, inr, if◌then◌else◌}
use Words.{map, Ask, ClientId, ClientInput, Config, Event, IssuedCommand, Message, NodeId, Operation, SentMessage, ServerId, ServerInput, StepRefusal}
use Words.events
use Words.inputs
use Words.nodes
use Words.serving
use Words.Client as cl
use Words.ClientState as cs
use Words.ClientState.{ClientState, ClientTurn}
use Words.Disks as disks
use Words.Events as ev
use Words.Events.{WorldTurn, happens, world_step}
use Words.History.{Traced, traced}
use Rattle.st_rules.specs.Extents.{numbers}
use Words.Lists.{Has}
use Words.Numbers.{numbered_has}
use Words.Safety.{Promise, Step, steps}
use Words.Server as server
use Words.Server.{ServerNode}
use Words.Tables.{has_map, has_map_in}
use Words.Truth.{some_not_none}
use Words.World as world
use Words.World.{World, WorldClient, clock_of, fresh_site, fresh_world, issued_of, message_of, node_of, numbered, receiver_of, site_of, with_numbered}
use Rattle.st_rules.specs.declared.node.StepRefusal.TheVariants.{Crashed}
use Rattle.st_lemmas.proofs.Steps.{step_happens}
use Rattle.st_laws_pages.specs.Asks.Law.{PlacesHold}
use Rattle.st_laws_pages.specs.Disks.Obligations.{FatesHold}
use Rattle.st_laws_pages.proofs.Asks.Client.{key}
use Rattle.st_laws_pages.proofs.Asks.Law.{places_law}
use Rattle.st_laws_pages.proofs.Asks.Says.{client_leaves, server_leaves}
use Rattle.st_laws_pages.proofs.Disks.Whole.{fates_law}
use Rattle.st_laws_pages.proofs.Lives.Lasting.{flush_parts}
use Rattle.st_laws_pages.proofs.Causes.Placed.{places_at}
use Rattle.st_laws_reads.specs.Copies.World.{Taking, asking, now_at, receiving, receiving_of, taken, taking, told_at, told_of}
use Rattle.st_laws_reads.proofs.AllClients.Takings.{Takes, takes_event}
use Rattle.st_laws_leases.proofs.Dates.Leaving.{set_cases}
use Rattle.st_laws_requests.specs.Replies.ServedRequests.{ReassertionsNew}
use Rattle.st_laws_extents.proofs.CutRequests.New.{reassertions_new}
use Rattle.st_laws_volume.specs.Asks.{AsksOf, at_site}
use Rattle.st_laws_volume.specs.Logs.{InEveryRun}
use Rattle.st_laws_volume.specs.Seen.{of_event, of_line}
use Rattle.st_laws_volume.specs.SentOrder.{AllOrdered, RequestsAreInOrder, SitesOrdered}
use Rattle.st_laws_volume.specs.Witness.{Witness}
use Rattle.st_laws_volume.proofs.AskEvents.{AsksLeft, event_leaves}
use Rattle.st_laws_volume.proofs.AskSteps.{asks_as}
use Rattle.st_laws_volume.proofs.Asks.{AsksHold, asks_begin, asks_kept}
use Rattle.st_laws_volume.proofs.Carried.{IsGiven, given_in}
use Rattle.st_laws_volume.proofs.ChangeEffects.{rising_begins}
use Rattle.st_laws_volume.proofs.LineOrder.{Rising, all_rising, came}
use Rattle.st_laws_volume.proofs.ReadPages.{throughout_both}
use Rattle.st_laws_volume.proofs.RemoveGrants as sending
use Rattle.st_laws_volume.proofs.RemoveGrants.{step_ordered}
use Rattle.st_laws_volume.proofs.SortedOperations.{Sorted}
use Rattle.st_laws_volume.proofs.SessionEpochs.{KnowsEpochs, knows_begin, knows_on}
use Rattle.st_laws_volume.proofs.WriteOrder.{Mounts}

-- An event at which no client takes an input leaves the clients, or one of them without operations.
record Emptied (w v : World) : Type 0 where
  c : ClientId
  old : WorldClient
  new : WorldClient
  at : site_of w c ≡ Some old
  none : new.node.state.operations ≡ []
  clients : v.clients ≡ with_numbered c.0 new w.clients

abbrev Left : World → World → Type 0
Left w v = (v.clients ≡ w.clients) ⊎ Emptied w v

at_client : (w : World) (c : ClientId) (input : ClientInput) (o : Option WorldClient) → taking w c input o ≡ None →
    (ev.at_client w c input o).world.clients ≡ w.clients
unfolding ev.at_client
at_client w c input None e = refl
at_client w c input (Some site) e = absurd (some_not_none _ e)

at_ask : (w : World) (c : ClientId) (ask : Ask) (o : Option WorldClient) → asking w c ask o ≡ None → (ev.asks_at w c ask o).world.clients ≡ w.clients
unfolding ev.asks_at
at_ask w c ask None e = refl
at_ask w c ask (Some site) e = absurd (some_not_none _ e)

at_server : (w : World) (s : ServerId) (input : ServerInput) (o : Option ServerNode) → (ev.at_server w s input o).world.clients ≡ w.clients
unfolding ev.at_server ev.server_takes ev.server_took
at_server w s input None = refl
at_server w s input (Some node) = go (server.node_step node (clock_of w (nodes.Server s)) input)
  where
    go : (r : Result server.NodeTurn StepRefusal) → (ev.server_took w s r).world.clients ≡ w.clients
    go (Err e) = refl
    go (Ok t) = (server_leaves s t.out (ev.quiet (ev.with_node s t.node w))).clients

at_node : (w : World) (m : Message) (n : NodeId) → receiving w m n ≡ None → (ev.delivers_to w m n).world.clients ≡ w.clients
unfolding ev.delivers_to
at_node w m (nodes.Client c) e = at_client w c (inputs.Control m) (site_of w c) e
at_node w m (nodes.Server s) e = at_server w s (serving.Control m) (node_of w s)

at_message : (w : World) (o : Option SentMessage) → receiving_of w o ≡ None → (ev.delivers w o).world.clients ≡ w.clients
unfolding ev.delivers
at_message w None e = refl
at_message w (Some m) e = at_node w m.message (receiver_of m) e

at_end : (w : World) (k : ℕ) (ok : Bool) (o : Option IssuedCommand) → told_of w k ok o ≡ None → (ev.tells w k ok o).world.clients ≡ w.clients
unfolding ev.tells ev.tells_client ev.tells_site
at_end w k ok None e = refl
at_end w k ok (Some y) e = at_site_ (site_of w y.client) e
  where
    at : (site : WorldClient) (b : Bool) → (if b then taking w y.client (ev.end_told w k ok y) (Some site) else None) ≡ None →
        (if b then ev.client_takes w y.client (ev.end_told w k ok y) site else ev.quiet w).world.clients ≡ w.clients
    at site true e = absurd (some_not_none _ e)
    at site false e = refl

    at_site_ : (s : Option WorldClient) → told_at w k ok y s ≡ None → (ev.tells_client w k ok y s).world.clients ≡ w.clients
    at_site_ None e = refl
    at_site_ (Some site) e = at site (ev.is_same_instance y site) e

lost_message : (w : World) (k : ℕ) (o : Option SentMessage) → (ev.loses_message w k o).clients ≡ w.clients
unfolding ev.loses_message
lost_message w k None = refl
lost_message w k (Some m) = refl

stopped : (w : World) (c : ClientId) (o : Option WorldClient) → site_of w c ≡ o → Left w (ev.crashes_client w c o).world
unfolding ev.crashes_client ev.marks cl.crash
stopped w c None at = inl refl
stopped w c (Some site) at = inr (record { c = c; old = site; new = ev.stopped_site site; at = at; none = refl; clients = refl })

begins : (w : World) (c : ClientId) (o : Option WorldClient) → site_of w c ≡ o → Left w (ev.starts_client w c o)
unfolding ev.starts_client cl.start
begins w c None at = inl refl
begins w c (Some site) at = inr (record { c = c; old = site; new = ev.started_site site; at = at; none = refl; clients = refl })

crashed : (w : World) (s : ServerId) (o : Option ServerNode) → (ev.crashes_server w s o).clients ≡ w.clients
unfolding ev.crashes_server
crashed w s None = refl
crashed w s (Some node) = refl

started : (w : World) (s : ServerId) (o : Option ServerNode) → (ev.starts_server w s o).clients ≡ w.clients
unfolding ev.starts_server
started w s None = refl
started w s (Some node) = refl

untaken : (w : World) (e : Event) → taken w e ≡ None → Left w (happens w e).world
unfolding ev.happens ev.ticks ev.reports_of ev.advances ev.effects ev.marks ev.crashes ev.starts
untaken w (events.Tick (nodes.Client c)) t = inl (at_client w c inputs.Tick (site_of w c) t)
untaken w (events.Tick (nodes.Server s)) t = inl (at_server w s serving.Tick (node_of w s))
untaken w (events.App c ask) t = inl (at_ask w c ask (site_of w c) t)
untaken w (events.Deliver n) t = inl (at_message w (message_of w n) t)
untaken w (events.Lose n) t = inl (lost_message w n (message_of w n))
untaken w (events.Cut x y) t = inl refl
untaken w (events.Heal x y) t = inl refl
untaken w (events.Advance increments) t = inl refl
untaken w (events.Effect n) t = inl refl
untaken w (events.Report n ok) t = inl (at_end (ev.with_disks (ev.disks_after w.disks (disks.done w.disks n ok)) w) n ok (issued_of w n) t)
untaken w (events.Crash (nodes.Client c)) t = stopped w c (site_of w c) refl
untaken w (events.Crash (nodes.Server s)) t = inl (crashed w s (node_of w s))
untaken w (events.Start (nodes.Client c)) t = begins w c (site_of w c) refl
untaken w (events.Start (nodes.Server s)) t = inl (started w s (node_of w s))

-- Numbers that rise.
sorted_of : (os : List Operation) → Mounts (map key os) → Sorted os
sorted_of [] h = tt
sorted_of (o ∷ os) h = (λ p i. h.first (key p) (has_map_in key os p i), sorted_of os h.rest)

none_ordered : (os : List Operation) → os ≡ [] → AllOrdered os
none_ordered os e p i = absurd (subst (Has p) e i)

-- An event.
module _ (t : World) (e : Event) (sc : WorldTurn) (rising : (c : ClientId) → Rising (at_site (site_of t c)))
    (kinds : (c : ClientId) (site : WorldClient) → site_of t c ≡ Some site → (o : Operation) → Has o site.node.state.operations → cs.is_sent o ≡ true →
    cs.is_cut_or_name o.ask ≡ true) (h : SitesOrdered t) where
  kept : (v : World) → v.clients ≡ t.clients → SitesOrdered v
  kept v q c site at = h c site (ap (λ xs. numbered xs c.0) (sym q) ∙ at)

  placed : (v : World) (c : ClientId) (old new : WorldClient) → site_of t c ≡ Some old → v.clients ≡ with_numbered c.0 new t.clients →
      AllOrdered new.node.state.operations → SitesOrdered v
  placed v c old new at q k x site there = go (set_cases t.clients c.0 x.0 old new site at (ap (λ xs. numbered xs x.0) (sym q) ∙ there))
    where
      go : ((x.0 ≡ c.0) × (site ≡ new)) ⊎ ((x.0 ≢ c.0) × (site_of t x ≡ Some site)) → AllOrdered site.node.state.operations
      go (inl z) = subst (λ (y : WorldClient). AllOrdered y.node.state.operations) (sym z.1) k
      go (inr z) = h x site z.1

  -- a client takes an input
  module _ (x : Taking) (q : taken (ev.counted t) e ≡ Some x) (y : Takes (ev.counted t) sc x) where
    abbrev c : ClientId
    c = x.client

    abbrev s : ClientState
    s = x.site.node.state

    its_asks : at_site (site_of t c) ≡ asks_as y.old.asks (map key s.operations)
    its_asks = ap at_site y.there ∙ ap (λ (n : cl.ClientNode). asks_as y.old.asks (map key n.state.operations)) y.same

    its : Rising (asks_as y.old.asks (map key s.operations))
    its = subst Rising its_asks (rising c)

    known : sending.Known (y.old.asks + 1) s x.input
    known =
        record {
          number = λ op ask z. (came t e x q).number op ask z ∙ ap (λ (a : AsksOf). a.count + 1) its_asks;
          sorted = sorted_of s.operations its.mounts;
          below = λ p i. let l = its.counted.below (key p) (has_map_in key s.operations p i) in omega (arith, l);
          kinds =
              subst (λ (n : cl.ClientNode). (o : Operation) → Has o n.state.operations → cs.is_sent o ≡ true → cs.is_cut_or_name o.ask ≡ true) y.same
              (kinds c y.old y.there);
        }

    taken_ordered : SitesOrdered sc.world
    unfolding ev.client_takes ev.client_took cl.node_step
    taken_ordered = subst (λ (z : WorldTurn). SitesOrdered z.world) (sym y.is) (go x.site.node.running)
      where
        u : ClientTurn
        u = cl.client_step s (now_at x) x.input

        new : WorldClient
        new = ev.at_node (record x.site.node { state = u.state }) x.site

        v0 : World
        v0 = ev.with_site c new x.world

        said : WorldTurn
        said = ev.client_says_all c s u.out (ev.quiet v0)

        last : World
        last = ev.flushes c u.state (world.all_servers said.world) said.world

        clients : last.clients ≡ with_numbered c.0 new t.clients
        clients =
            (flush_parts c u.state (world.all_servers said.world) said.world).clients
            ∙ ((client_leaves c s u.out (ev.quiet v0)).clients ∙ ap (with_numbered c.0 new) y.clients)

        before : AllOrdered s.operations
        before = subst (λ (n : cl.ClientNode). AllOrdered n.state.operations) y.same (h c y.old y.there)

        go : (b : Bool) → SitesOrdered (ev.client_took x.world c x.site (if b then Ok (cl.node_turn x.site.node u) else Err Crashed)).world
        go true = placed last c y.old new y.there clients (step_ordered (y.old.asks + 1) s (now_at x) x.input known before)
        go false = kept x.world y.clients

  -- any event
  event_ordered : world_step t e ≡ Ok sc → SitesOrdered sc.world
  event_ordered f = go (taken (ev.counted t) e) refl
    where
      z : sc ≡ happens (ev.counted t) e
      z = (step_happens t e sc f).1

      left : Left (ev.counted t) sc.world → SitesOrdered sc.world
      left (inl q) = kept sc.world q
      left (inr q) = placed sc.world q.c q.old q.new q.at q.clients (none_ordered q.new.node.state.operations q.none)

      go : (o : Option Taking) → taken (ev.counted t) e ≡ o → SitesOrdered sc.world
      go None q = left (subst (λ (y : WorldTurn). Left (ev.counted t) y.world) (sym z) (untaken (ev.counted t) e q))
      go (Some x) q = taken_ordered x q (subst (λ (y : WorldTurn). Takes (ev.counted t) y x) (sym z) (takes_event (ev.counted t) e x q))

-- What is carried.
record OrderHolds (past : List Step) (t : Traced) (it : Witness) : Type 0 where
  asks : AsksHold past t it
  rising : (c : ClientId) → Rising (at_site (site_of t.world c))
  knows : KnowsEpochs past t
  ordered : SitesOrdered t.world

abbrev Given : Promise
Given past x = ReassertionsNew past x × (FatesHold x.after.world × PlacesHold x.after.world)

OrderToo : List Step → Step → Witness → Type 0
OrderToo past x it = SitesOrdered x.after.world

order_on : IsGiven Given OrderHolds OrderToo
unfolding OrderToo
order_on past t e sc it f g h =
    let l : AsksLeft t.world e sc =
    event_leaves t.world e h.asks.rests h.asks.fates.lives.lives.sites (places_at t.world h.asks.places) h.asks.counted sc f in
    let now : SitesOrdered sc.world = event_ordered t.world e sc h.rising (λ c site at. (h.knows.right.clients c site at).sent) h.ordered f in (
      now,
      record {
        asks = asks_kept past t e sc it f g.1 h.asks;
        rising =
            λ c. subst Rising (l.told c)
            (all_rising c (Words.flat_map (of_line t.world) sc.seen) _ (all_rising c (of_event t.world e) _ (h.rising c)));
        knows = knows_on past t e sc f g.0 h.knows;
        ordered = now;
      },
    )

pub ordered_begins : (k : Config) (clients servers disks blocks form : ℕ) → SitesOrdered (fresh_world k clients servers disks blocks form)
unfolding fresh_world cl.fresh_client
ordered_begins k clients servers disks blocks form c site at =
    let z = has_map (fresh_site k servers) (numbers 1 clients) site (numbered_has (map (fresh_site k servers) (numbers 1 clients)) c.0 site at) in
    subst (λ (y : WorldClient). AllOrdered y.node.state.operations) (sym z.2) (none_ordered (fresh_site k servers z.0).node.state.operations refl)

-- In every run.
pub requests_are_in_order : InEveryRun RequestsAreInOrder
unfolding OrderToo
requests_are_in_order k clients servers disks blocks form es head events =
    let t : Traced = traced (fresh_world k clients servers disks blocks form) in
    given_in Given OrderHolds OrderToo order_on es t
    (record {
      asks = asks_begin k clients servers disks blocks form;
      rising = rising_begins k clients servers disks blocks form;
      knows = knows_begin k clients servers disks blocks form head;
      ordered = ordered_begins k clients servers disks blocks form;
    })
    (throughout_both ReassertionsNew (λ past x. FatesHold x.after.world × PlacesHold x.after.world) [] (steps es t)
    (reassertions_new k clients servers disks blocks form es head events)
    (throughout_both (λ past x. FatesHold x.after.world) (λ past x. PlacesHold x.after.world) [] (steps es t)
    (fates_law k clients servers disks blocks form es) (places_law k clients servers disks blocks form es head)))
