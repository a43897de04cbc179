-- In every run the ask of a request that a server serves is open or orphaned in the volume, and none must take effect before it: of each request in the network
-- this holds, or its server no longer serves it.
use Rattle.st_lemmas.proofs.Words
use Words.{◌≡◌, ◌≢◌, ◌⊎◌, ℕ, suc, ◌+◌, ◌<◌, ◌≤◌, arith, Bool, true, false, ◌&&◌, ◌==◌, List, [], ◌∷◌, ◌++◌, length, Option, Some, None, Ok, refl, sym, ap, ◌∙◌, subst, inl, inr, if◌then◌else◌}
use Words.{eq-eqb, eqb-true, cons_option, filter, find, is_some, leb-true, list_all, nat_le, option_and_then, AppAnswer, Ask, Body, ClientId, ClientInput, Event, FileId, Message, NodeId}
use Words.{Observation, Operation, PageNo, SentMessage, ServerId, Stamp}
use Words.answers
use Words.asks
use Words.bodies
use Words.events
use Words.nodes
use Words.outputs
use Words.seen
use Words.Client as cl
use Words.ClientState as cs
use Words.ClientState.{Association, asks_cut_or_name}
use Words.Events as ev
use Words.Events.{WorldTurn, world_step}
use Words.History.{Traced, traced, traced_after}
use Words.Keys.{client, server_node}
use Words.Lists.{Has}
use Words.Lookups.{some_is}
use Words.Members.{has_left, has_right}
use Words.Numbers.{get_last, numbered_below, numbered_has, numbered_own}
use Words.Safety as safety
use Words.Safety.{AnswersAreLogged, ChangesAreLocked, IsHead, Promise, Step, Throughout, all_answered_once, all_followed, ask_in, ask_of_client, is_change_locked, is_event, step, steps}
use Words.Server as server
use Words.Server.{ServerNode, sender}
use Words.Tables.{and_both, and_true, each_passes, found_at, has_append, has_filter, has_filter_in, has_map, has_map_in, same_or_not}
use Words.Truth.{client_is, clash, eqb_self, none_not_some}
use Words.World as world
use Words.World.{World, WorldClient, clock_of, fresh_world, message_of, node_of, receiver_of, site_of}
use Words.Worlds.{site_there}
use Rattle.st_lemmas.proofs.Steps.{step_happens}
use Rattle.st_lemmas.proofs.Tests.{all_last}
use Rattle.st_messages.specs.Ranges as ranges_
use Rattle.st_base.specs.declared.config.Config.{Config}
use Rattle.st_protocol.specs.Assoc as net
use Rattle.st_promises.specs.Safe.{EveryRunIsSafe, IsSafeRun}
use Rattle.st_laws_pages.specs.Asks.Law.{PlacesHold}
use Rattle.st_laws_pages.proofs.Asks.Law.{places_law}
use Rattle.st_laws_pages.proofs.Asks.World.{asks_more, asks_of}
use Rattle.st_laws_refine.specs.Server.Pair.{terms_of}
use Rattle.st_laws_leases.specs.Dates.Dates.{message_in, messages}
use Rattle.st_laws_requests.specs.Cuts.Cuts.{AsksFor, Between}
use Rattle.st_laws_requests.proofs.Cuts.Step.{onces}
use Rattle.st_laws_extents.specs.CutRequests.EndedLives.{Goes, IsPast}
use Rattle.st_laws_extents.specs.CutRequests.Law.{gifts}
use Rattle.st_laws_extents.proofs.CutRequests.Law.{owed}
use Rattle.st_laws_extents.proofs.CutRequests.ServersGoOn.{event_goes}
use Rattle.st_laws_cuts.specs.EndedRequests.{AllPast}
use Rattle.st_laws_cuts.specs.ServedRequests.{IsServedBy}
use Rattle.st_laws_cuts.proofs.Law.{AllHold}
use Rattle.st_laws_cuts.proofs.Open.{association_there}
use Rattle.st_laws_cuts.proofs.OverAfter.{AllOver, Waits, over_after, past_on}
use Rattle.st_laws_cuts.proofs.Step.{apart_from}
use Rattle.st_laws_cuts.proofs.Words.{asked_more}
use Rattle.st_laws_names.specs.OutstandingKeys.{KeysHaveOneOperation, SameKey, WaitsUnder}
use Rattle.st_laws_names.proofs.Behind.{not_past}
use Rattle.st_laws_names.proofs.Facts.{FactsHold, facts_on}
use Rattle.st_laws_names.proofs.Keys.{keyed_same}
use Rattle.st_laws_names.proofs.Owners.{waits_as}
use Rattle.st_laws_names.proofs.Rows.{row_on, worlds_on}
use Rattle.st_laws_names.proofs.Waiting.{Pending, Row, alive}
use Rattle.st_laws_names.proofs.World.{Worlds}
use Rattle.st_laws_names.proofs.World as once
use Rattle.st_laws_volume.specs.Asks.{AsksOf, HasAsksOf, ask_key, at_site, in_volume, operation_key}
use Rattle.st_laws_volume.specs.Epochs.{HasEpochsOf}
use Rattle.st_laws_volume.specs.Logs.{InEveryRun}
use Rattle.st_laws_volume.specs.Options.{OnSome}
use Rattle.st_laws_volume.specs.Requests.{AskIsNext, AsksOfRequestsAreNext, AtNode, OfDelivery, OfMessage}
use Rattle.st_laws_volume.specs.Seen.{of_event}
use Rattle.st_laws_volume.specs.SentOrder.{RequestsAreInOrder, SitesOrdered}
use Rattle.st_laws_volume.specs.Witness.{Witness, begun, does_at, if_told, is_done_as, led_by, now_at, serves, steps_of, turn_of, volume_after}
use Rattle.st_laws_volume.proofs.AskedAsks.{AreOf, RightHold, all_has, right_begins, right_kept}
use Rattle.st_laws_volume.proofs.Asks.{AsksHold, asks_begin, asks_kept}
use Rattle.st_laws_volume.proofs.Carried.{IsGiven, given_in}
use Rattle.st_laws_volume.proofs.ClientAnswers.{Tells}
use Rattle.st_laws_volume.proofs.EarlierRequests.{SessionOf, earlier, met_past, passed_by, served_before, session_there}
use Rattle.st_laws_volume.proofs.EpochSteps.{started_all}
use Rattle.st_laws_volume.proofs.Epochs.{EpochsHold, epochs_begin, epochs_kept, event_starts, started}
use Rattle.st_laws_volume.proofs.EventAnswers.{ByAsk, ByMessage, ByReport, ByTick, Stepping, TakesAt, event_answers}
use Rattle.st_laws_volume.proofs.EventFollowed as following
use Rattle.st_laws_volume.proofs.LastingSessions.{HasSession, ItsAnswer, its_answer, lasting_has, reads_last}
use Rattle.st_laws_volume.proofs.LifeAnswers.{lives_answer, sent_of}
use Rattle.st_laws_volume.proofs.OpenResults.{AllFine}
use Rattle.st_laws_volume.proofs.ReadPages.{throughout_both}
use Rattle.st_laws_volume.proofs.ReadRanges.{asks_in_range, is_in_range, numbered_in_range}
use Rattle.st_laws_volume.proofs.RequestAsks.{GhostHolds, Grants, HasKey, cut_or_name, find_there, has_key, is_served}
use Rattle.st_laws_volume.proofs.SentRequests.{ordered_begins, requests_are_in_order}
use Rattle.st_laws_volume.proofs.ServedEnds.{ends_there}
use Rattle.st_laws_volume.proofs.SoonerAsks.{NoneSooner, none_before, none_first, sooner_on}
use Rattle.st_laws_volume.proofs.StuckSites.{SitesStay, event_stays, stuck_begin}
use Rattle.st_laws_volume.proofs.UncertainAnswers.{cut_same, server_same}
use Rattle.st_laws_volume.proofs.UnservedAsks.{Known, NoneHold, NoneToo, WasServed, known_in, none_begins, none_on}
use Rattle.st_volume.specs.Volume as volume
use Rattle.st_volume.specs.Volume.{Volume, epoch, is_ask, is_of_client, open_of, run}
use Rattle.st_laws_volume.proofs.OrphanedAsks.{IsIn, OrphanOf}

-- The ask of this number is open or orphaned, and of the open asks of its client none must take effect before it.
record Next (past : List Step) (v : Volume) (c : ClientId) (op : ℕ) : Type 0 where
  there : IsIn c op (v.pending ++ v.orphans)
  ask : Ask
  asked : world.numbered (asks_of past c) op ≡ Some ask
  sooner : NoneSooner v c op ask

-- a request that asks for this is for a cut or a name
kind_of : (a : Ask) (b : Body) → AsksFor a b → cs.is_cut_or_name a ≡ true
kind_of (asks.Cut f p) (bodies.Cut ino g q) h = refl
kind_of (asks.Name s k) (bodies.Name op) h = refl
kind_of a b h = absurd h

pub record OpenHold (k : net.Config) (count : ℕ) (past : List Step) (t : Traced) (it : Witness) : Type 0 where
  pub none : NoneHold k count past t it
  pub asks_ : AsksHold past t it
  pub right : RightHold past t it
  pub epochs : EpochsHold past t it
  pub ordered : SitesOrdered t.world
  pub stay : SitesStay t.world
  pub ranged : list_all (is_in_range count) past ≡ true
  pub found : OnSome (λ v. AllOver t.world (λ c s os m. OrphanOf past t.world v c s os m)) it.volume

-- One event.
module _ (k : net.Config) (count : ℕ) (past : List Step) (t : Traced) (e : Event) (sc : WorldTurn) (it : Witness) (ranges : is_event count e ≡ true)
    (taken : world_step t.world e ≡ Ok sc) (facts : FactsHold k count past t) (n : FactsHold k count (past ++ step t e sc ∷ []) (traced_after e t sc)) where
  abbrev x : Step
  x = step t e sc

  abbrev w : World
  w = t.world

  abbrev past2 : List Step
  past2 = past ++ step t e sc ∷ []

  abbrev all : AllHold k count past t
  all = facts.changes_.names_.all

  abbrev all2 : AllHold k count (past ++ step t e sc ∷ []) (traced_after e t sc)
  all2 = n.changes_.names_.all

  on_past : (c : ClientId) (s : ServerId) (m : Message) → AllPast w c s m → AllPast sc.world c s m
  on_past c s m p = past_on k count past t e sc ranges all.base taken c s m p

  goes : Goes w sc.world
  goes = event_goes past t all.base.replies e sc (owed k count past t e sc ranges all.base taken) taken

  -- An ask whose request was served.
  result_past : (c : ClientId) (op : ℕ) (s : ServerId) (m : Message) → Row past w c s m op → Between c s m → WasServed past w c op → AllPast w c s m
  result_past c op s m row between z =
      subst (λ (r : ServerId). AllPast w c r m) server
      (z.over m
      (keyed_same c s z.k.server m.header.life m.header.epoch m.header.number z.k.life_ z.k.epoch_ z.k.number_ m
      (record { server = sym server; life_ = sym life; epoch_ = sym epoch_; number_ = sym number })
      (record { between = between; of_life = refl; of_epoch = refl; under = refl })))
    where
      same : SameKey z.k.server row.asked.server z.k.life_ z.k.epoch_ z.k.number_ row.asked.life_ row.asked.epoch_ row.asked.number_
      same = facts.changes_.pairs.pairs c op z.k row.asked

      server : z.k.server ≡ s
      server = same.server ∙ row.same.server

      life : z.k.life_ ≡ m.header.life
      life = same.life_ ∙ row.same.life_

      epoch_ : z.k.epoch_ ≡ m.header.epoch
      epoch_ = same.epoch_ ∙ row.same.epoch_

      number : z.k.number_ ≡ m.header.number
      number = same.number_ ∙ row.same.number_

  -- a server starts again
  start_past : (c : ClientId) (s : ServerId) (m : Message) → e ≡ events.Start (nodes.Server s) → AllPast w c s (earlier m) → AllPast sc.world c s m
  unfolding ev.happens ev.starts ev.starts_server server.start server.begin_epoch
  start_past c s m q before p at = inl (low (before old was))
    where
      old : ServerNode
      old = (goes.nodes s p at).0

      was : node_of w s ≡ Some old
      was = (goes.nodes s p at).1

      now : Stamp
      now = clock_of (ev.counted w) (nodes.Server s)

      servers : sc.world.servers ≡ world.with_numbered s.0 (server.start_node old now) w.servers
      servers =
          ap (λ (y : WorldTurn). y.world.servers) (step_happens w e sc taken).1
          ∙ (ap (λ y. (ev.happens (ev.counted w) y).world.servers) q ∙ ap (λ o. (ev.starts_server (ev.counted w) s o).servers) was)

      is : server.start_node old now ≡ p
      is = some_is (sym (ap (λ ys. world.numbered ys s.0) servers ∙ numbered_own w.servers s.0 (server.start_node old now) old was) ∙ at)

      up : old.state.stable.epoch.0 + 1 ≡ p.state.stable.epoch.0
      up = ap (λ (y : ServerNode). y.state.stable.epoch.0) is

      low : IsPast c old (earlier m) → m.header.epoch < p.state.stable.epoch.0
      low (inl l) = omega (arith, l, up)
      low (inr z) = let y = z.0 in omega (arith, y, up)

  -- a server serves another request of the client
  serving_past : (c : ClientId) (s : ServerId) (m : Message) → AllPast w c s (earlier m) → (j : ℕ) (sent : SentMessage) (r : ServerId) →
      e ≡ events.Deliver j → message_of w j ≡ Some sent → receiver_of sent ≡ nodes.Server r → does_at w r (node_of w r) sent.message ≡ true →
      sender sent.message.header ≡ c → r ≡ s → AllPast sc.world c s m
  serving_past c s m before j sent r d is to done from same = go (node_of w r) refl done
    where
      other : Message
      other = sent.message

      go : (o : Option ServerNode) → node_of w r ≡ o → does_at w r o sent.message ≡ true → AllPast sc.world c s m
      go None at q = cc q
      go (Some node) at q =
          passed_by w sc.world on_past c s node (ap (node_of w) (sym same) ∙ at) runs.0 sent.message
          (is_served r node (now_at w r) sent.message served.0) (ap (λ (y : ClientId). y.0) from)
          (subst (λ (y : ServerId). AllPast sc.world c y sent.message) same
          (subst (λ (y : ClientId). AllPast sc.world y r sent.message) from
          (ends_there w e sc taken r j sent d is to node at (all.base.cuts.servers r node at).id q (cut_or_name sent.message.body _ served.1)))) m before
        where
          runs : (node.running ≡ true) × ((serves (turn_of node (now_at w r)) sent.message.header
              && is_done_as sent.message.body (server.rule (turn_of node (now_at w r)) (now_at w r) sent.message.header sent.message.body).reply) ≡ true)
          runs = and_true node.running _ q

          served : (serves (turn_of node (now_at w r)) sent.message.header ≡ true)
              × (is_done_as sent.message.body (server.rule (turn_of node (now_at w r)) (now_at w r) sent.message.header sent.message.body).reply ≡ true)
          served = and_true (serves (turn_of node (now_at w r)) sent.message.header) _ runs.1

  -- An ask that comes is as asked.
  comes_asked : (c : ClientId) (site : WorldClient) → site_of w c ≡ Some site → (i : ClientInput) → TakesAt w e c site i →
      Tells (λ op ask. world.numbered (asks_of past2 c) op ≡ Some ask) (λ s j. Unit {0}) i
  unfolding ask_of_client
  comes_asked c site at _ (ByTick f) = tt
  comes_asked c site at _ (ByMessage j m f q z) = λ s g. tt
  comes_asked c site at _ (ByReport j ok y r f q a s d) = tt
  comes_asked c site at _ (ByAsk ask f) = now_asked
    where
      own : ask_in c e ≡ Some ask
      own = ap (ask_in c) f ∙ ap (λ b. if b then Some ask else None) (eqb_self c.0)

      counted : length (asks_of past c) ≡ site.asks
      counted = (all.base.cuts.clients c site at).count

      now_asked : world.numbered (asks_of past2 c) (site.asks + 1) ≡ Some ask
      now_asked =
          ap (λ ys. world.numbered ys (site.asks + 1)) (asks_more past x c ∙ ap (λ o. asks_of past c ++ cons_option o []) own)
          ∙ (ap (world.numbered (asks_of past c ++ ask ∷ [])) (let l = counted in last l) ∙ get_last (asks_of past c) ask)
        where
          last : length (asks_of past c) ≡ site.asks → site.asks + 1 ≡ suc (length (asks_of past c))
          last l = omega (arith, l)

  its_known : (c : ClientId) (site : WorldClient) → site_of w c ≡ Some site → (o : Operation) → Has o site.node.state.operations →
      world.numbered (asks_of past2 c) o.op ≡ Some o.ask
  its_known c site at o i = asked_more past x c o.op o.ask ((all.base.cuts.clients c site at).asked o i)

  -- a client whose answer is seen takes no part in a start
  no_start : (c : ClientId) (site : WorldClient) (i : ClientInput) → TakesAt w e c site i → (xs : List ServerId) → started e xs ≡ xs
  unfolding started
  no_start c site _ (ByTick f) xs = ap (λ y. started y xs) f
  no_start c site _ (ByAsk ask f) xs = ap (λ y. started y xs) f
  no_start c site _ (ByMessage j m f q z) xs = ap (λ y. started y xs) f
  no_start c site _ (ByReport j ok y r f q a s d) xs = ap (λ y. started y xs) f

  -- A client after the event: in a later life than that of a request, or not running.
  module _ (c : ClientId) (s : ServerId) (m : Message) (site : WorldClient) (at : site_of sc.world c ≡ Some site) (a : Association)
      (i : Has a site.node.state.associations) (same : a.server ≡ s) (life : (m.header.life < a.life.0) ⊎ (site.node.running ≡ false))
      (before : AllPast w c s (earlier m)) where
    -- with a session that lasts
    session_past : HasSession sc.world c s → AllPast sc.world c s m
    session_past y =
        subst (λ (r : ServerId). AllPast sc.world c r m) y.server
        (met_past k count sc.world all2.base.all c y.site (record { there = y.at; runs = y.runs }) y.association y.among y.session y.has y.lasts m less
        (subst (λ (r : ServerId). AllPast sc.world c r (earlier m)) (sym y.server) (on_past c s (earlier m) before)))
      where
        here : y.site ≡ site
        here = some_is (sym y.at ∙ at)

        one_of : (y.association ≡ a) ⊎ (y.association.server.0 ≡ a.server.0 → ⊥)
        one_of =
            apart_from site.node.state.associations
            (onces site.node.state.associations (all2.base.cuts.fates.lives.lives.sites c site at).once) a i y.association
            (subst (λ (z : WorldClient). Has y.association z.node.state.associations) here y.among)

        less : m.header.life < y.association.life.0
        less = go life one_of
          where
            go : (m.header.life < a.life.0) ⊎ (site.node.running ≡ false) → (y.association ≡ a) ⊎ (y.association.server.0 ≡ a.server.0 → ⊥) →
                m.header.life < y.association.life.0
            go (inr r) z = clash (ap (λ (u : WorldClient). u.node.running) (sym here) ∙ y.runs) r
            go (inl l) (inl q) = subst (λ (u : Association). m.header.life < u.life.0) (sym q) l
            go (inl l) (inr f) = absurd (f (ap (λ (u : ServerId). u.0) (y.server ∙ sym same)))

    -- a change of a page
    module _ (locked : ChangesAreLocked past (step t e sc)) where
      locked_at : (o : Observation) → Has o sc.seen → is_change_locked sc.world o ≡ true
      locked_at o j = each_passes (is_change_locked sc.world) sc.seen locked o j

      changed_past : (d : ClientId) (f : FileId) → safety.lasts sc.world d f.server ≡ true → d ≡ c → f.server ≡ s → AllPast sc.world c s m
      changed_past d f l p q =
          session_past
          (subst (λ (r : ServerId). HasSession sc.world c r) q
          (subst (λ (y : ClientId). HasSession sc.world y f.server) p (lasting_has sc.world d f.server l)))

      changes : (o : Observation) → Has o sc.seen → (d : ClientId) (f : FileId) →
          ((j : ℕ) (p : PageNo) (bytes : List ℕ) → o ≡ seen.Wrote j d f p bytes → d ≡ c → f.server ≡ s → AllPast sc.world c s m)
          × ((j : ℕ) (p : PageNo) (place : ℕ) (bytes : List ℕ) → o ≡ seen.Patched j d f p place bytes → d ≡ c → f.server ≡ s → AllPast sc.world c s m)
      changes o j d f = (
        λ z p bytes q. changed_past d f
            (and_true (safety.lasts sc.world d f.server) _ (subst (λ y. is_change_locked sc.world y ≡ true) q (locked_at o j))).0,
        λ z p place bytes q. changed_past d f
            (and_true (safety.lasts sc.world d f.server) _ (subst (λ y. is_change_locked sc.world y ≡ true) q (locked_at o j))).0,
      )

    -- a read
    read_past : (d : ClientId) (op : ℕ) (answer : AppAnswer) → Has (seen.Answered d op answer) sc.seen → (bytes : List ℕ) → answer ≡ answers.Read bytes →
        d ≡ c → (other : Ask) → world.numbered (asks_of past2 c) op ≡ Some other → volume.server_of other ≡ s → AllPast sc.world c s m
    read_past d op answer j bytes q p other asked to = go (its_answer w e sc (event_answers w e sc taken) d op answer j)
      where
        go : ItsAnswer w e sc d op answer → AllPast sc.world c s m
        go (r, f, g) =
            session_past
            (subst (λ (y : ServerId). HasSession sc.world c y) (sym (server_same other) ∙ to)
            (subst (λ (y : ClientId). HasSession sc.world y (cs.server_of other)) (sym f ∙ p)
            (reads_last w e sc all.base.cuts.fates.lives r (asks_of past2 r.client) (its_known r.client r.site r.at)
            (comes_asked r.client r.site r.at r.input r.takes) op bytes
            (subst (λ y. Has (outputs.Answer op y) (cl.client_step r.site.node.state r.now r.input).out) q g) other
            (subst (λ (y : ClientId). world.numbered (asks_of past2 y) op ≡ Some other) (sym (sym f ∙ p)) asked))))

  -- The volume.
  module _ (one : KeysHaveOneOperation past (step t e sc)) (logged : AnswersAreLogged past (step t e sc)) (apart : all_followed sc.seen ≡ true)
      (locked : ChangesAreLocked past (step t e sc)) (ordered : SitesOrdered t.world) (stay : SitesStay t.world)
      (asked_fine : (c : ClientId) → list_all ranges_.is_ask (asks_of past c) ≡ true) (v : Volume) (fine : AllFine (WasServed past t.world) None v)
      (agree : HasAsksOf t.world v)
      (right : AreOf (asks_of past) v) (epochs : HasEpochsOf t.world v) (found : AllOver t.world (λ c s os m. OrphanOf past t.world v c s os m)) where
    -- of the open asks of a client none must take effect before the one whose request was sent
    sooner_at : (c : ClientId) (old : WorldClient) → site_of w c ≡ Some old → old.node.running ≡ true → (b : Association) →
        Has b old.node.state.associations → (m : Message) →
        (z : Pending past (gifts k count w all.base.all c b.server) w c b.server old.node.state.operations m) → NoneSooner v c z.operation.op z.operation.ask
    sooner_at c old was runs b j m z y i q l =
        let keyed : Has (ask_key y) (in_volume v c).pending = has_map_in ask_key (open_of v c) y (has_filter_in (is_of_client c) v.pending y i q) in
        let r =
        has_map operation_key old.node.state.operations (ask_key y)
        (subst (Has (ask_key y)) (ap (λ (d : AsksOf). d.pending) (agree c ∙ ap at_site was)) keyed) in
        let n = ap (λ (d : ℕ × Ask). d.0) r.2 in
        ap (λ (d : ℕ × Ask). volume.is_sooner d.1 z.operation.ask) r.2
        ∙ none_first old.node.state.operations b.server ((all.base.cuts.clients c old was).all runs b j).alone (stay c old was) z.operation z.there z.asked
        (cut_same z.operation.ask (kind_of z.operation.ask m.body z.means))
        (ordered c old was z.operation z.there (sent_of b.server z.operation z.asked)) r.0 r.1 (omega (arith, n, l))
        (numbered_in_range (asks_of past c) r.0.op r.0.ask (asked_fine c) ((all.base.cuts.clients c old was).asked r.0 r.1))

    -- what follows an ask
    module _ (c : ClientId) (op : ℕ) (ask : Ask) (s : ServerId) (m : Message) (of : cs.server_of ask ≡ s) (means : AsksFor ask m.body)
        (asked : world.numbered (asks_of past c) op ≡ Some ask) (row : Row past w c s m op) (between : Between c s m) (before : AllPast w c s (earlier m))
        (site : WorldClient) (at : site_of sc.world c ≡ Some site) (a : Association) (i : Has a site.node.state.associations) (same : a.server ≡ s)
        (life : (m.header.life < a.life.0) ⊎ (site.node.running ≡ false)) where
      abbrev X : Type 0
      X = AllPast sc.world c s m

      abbrev at_server : volume.server_of ask ≡ s
      at_server = server_same ask ∙ of

      abbrev kind : volume.is_cut_or_name ask ≡ true
      kind = cut_same ask (kind_of ask m.body means)

      abbrev own_ask : world.numbered (asks_of past2 c) op ≡ Some ask
      own_ask = asked_more past x c op ask asked

      abbrev Followed : Volume → Type 0
      Followed u = following.Followed X c op ask s at_server kind past x own_ask v u

      results : (b : volume.Pending) → Has b v.pending → is_ask c op b ≡ true → is_some b.result ≡ true → X
      results b j q r = go (fine b j r)
        where
          go : WasServed past w b.client b.op ⊎ (false ≡ true) → X
          go (inr z) = cc z
          go (inl z) =
              let y = and_true (is_of_client c b) (b.op == op) q in
              on_past c s m
              (result_past c op s m row between
              (subst (λ (j : ℕ). WasServed past w c j) (eqb-true b.op op y.1) (subst (λ (d : ClientId). WasServed past w d b.op) (client_is b.client c y.0) z)))

      follows : IsIn c op v.pending ⊎ IsIn c op v.orphans →
          ((d : ClientId) (j : ℕ) (answer : AppAnswer) → Has (seen.Answered d j answer) sc.seen →
          following.Own X c op ask s at_server kind past x own_ask v d j answer) → OnSome Followed (run (steps_of it v x) v)
      follows among own =
          following.event_followed X c op ask s at_server kind past x own_ask v right (λ q. start_past c s m q before)
          (inr (record { results = results; among = among })) it.behind (serving_past c s m before)
          (changes c s m site at a i same life before locked) own (read_past c s m site at a i same life before) logged apart

    -- After the event.
    module _ (u : Volume) (led : run (steps_of it v x) v ≡ Some u) (agree2 : HasAsksOf sc.world u) where
      abbrev Now : ClientId → ServerId → List Operation → Message → Type 0
      Now c s os m =
          (site : WorldClient) → site_of sc.world c ≡ Some site → (a : Association) → Has a site.node.state.associations → a.server ≡ s →
          (m.header.life < a.life.0) ⊎ (site.node.running ≡ false) → os ≡ site.node.state.operations →
          AllPast sc.world c s m ⊎ OrphanOf past2 sc.world u c s os m

      -- an open ask is pending
      open_pending : (c : ClientId) (site : WorldClient) → site_of sc.world c ≡ Some site → (op : ℕ) → IsIn c op u.pending →
          (o : Operation) × Has o site.node.state.operations × (o.op ≡ op)
      open_pending c site at op (a, i, q) =
          let y = and_true (is_of_client c a) (a.op == op) q in
          let keyed : Has (ask_key a) (in_volume u c).pending = has_map_in ask_key (open_of u c) a (has_filter_in (is_of_client c) u.pending a i y.0) in
          let z =
          has_map operation_key site.node.state.operations (ask_key a)
          (subst (Has (ask_key a)) (ap (λ (b : AsksOf). b.pending) (agree2 c ∙ ap at_site at)) keyed) in
          (z.0, z.1, sym (ap (λ (b : ℕ × Ask). b.0) z.2) ∙ eqb-true a.op op y.1)

      left_now : (c : ClientId) (op : ℕ) (ask : Ask) (s : ServerId) (m : Message) (os : List Operation) → cs.server_of ask ≡ s → AsksFor ask m.body →
          world.numbered (asks_of past c) op ≡ Some ask → Row past w c s m op → Between c s m → AllPast w c s (earlier m) →
          ((o : Operation) → Has o os → o.op ≡ op → ⊥) → NoneSooner v c op ask → (site : WorldClient) → site_of sc.world c ≡ Some site →
          os ≡ site.node.state.operations →
          AllPast sc.world c s m ⊎ ((IsIn c op u.pending ⊎ IsIn c op u.orphans)) → AllPast sc.world c s m ⊎ OrphanOf past2 sc.world u c s os m
      left_now c op ask s m os of means asked row between before gone sooner site at same (inl p) = inl p
      left_now c op ask s m os of means asked row between before gone sooner site at same (inr (inl z)) =
          let y = open_pending c site at op z in absurd (gone y.0 (subst (Has y.0) (sym same) y.1) y.2)
      left_now c op ask s m os of means asked row between before gone sooner site at same (inr (inr z)) =
          inr (record {
            op = op;
            ask = ask;
            asked = asked_more past x c op ask asked;
            of = of;
            means = means;
            row = row_on k count past t e sc ranges all all2 taken facts.changes_.rows c s m op row;
            gone = gone;
            before = on_past c s (earlier m) before;
            between = between;
            orphan = z;
            sooner =
                sooner_on c (steps_of it v x) v u led op ask
                (let n = (numbered_below (asks_of past c) op ask asked).1 in let l = right.count c in omega (arith, n, l)) sooner;
          })

      -- an ask that was left
      stays : (c : ClientId) (s : ServerId) (os qs : List Operation) (m : Message) →
          ((op : ℕ) (ask : Ask) → world.numbered (asks_of past c) op ≡ Some ask → ((o : Operation) → Has o os → o.op ≡ op → ⊥) →
          ((o : Operation) → Has o qs → o.op ≡ op → ⊥) × ((b : AppAnswer) → Has (seen.Answered c op b) sc.seen → ⊥)) →
          OrphanOf past w v c s os m → Now c s qs m
      stays c s os qs m keeps z site at a i same life eq =
          left_now c z.op z.ask s m qs z.of z.means z.asked z.row z.between z.before y.0 z.sooner site at eq
          (as_in (subst (OnSome (Followed c z.op z.ask s m z.of z.means z.asked z.row z.between z.before site at a i same life)) led
          (follows c z.op z.ask s m z.of z.means z.asked z.row z.between z.before site at a i same life (inr z.orphan)
          (λ d j answer h p q. absurd (y.1 answer (subst (λ (n : ℕ). Has (seen.Answered c n answer) sc.seen) q
          (subst (λ (b : ClientId). Has (seen.Answered b j answer) sc.seen) p h)))))))
        where
          y : ((o : Operation) → Has o qs → o.op ≡ z.op → ⊥) × ((b : AppAnswer) → Has (seen.Answered c z.op b) sc.seen → ⊥)
          y = keeps z.op z.ask z.asked z.gone

          as_in : Followed c z.op z.ask s m z.of z.means z.asked z.row z.between z.before site at a i same life u →
              AllPast sc.world c s m ⊎ (IsIn c z.op u.pending ⊎ IsIn c z.op u.orphans)
          as_in (inl p) = inl p
          as_in (inr f) = inr f.among

      -- an ask that was pending
      module _ (c : ClientId) (old : WorldClient) (was : site_of w c ≡ Some old) (runs : old.node.running ≡ true) (b : Association)
          (j : Has b old.node.state.associations) (m : Message) (among : Has m (messages w)) (between : Between c b.server m) (life1 : m.header.life ≡ b.life.0)
          (pos : 1 ≤ m.header.number)
          (z : Pending past (gifts k count w all.base.all c b.server) w c b.server old.node.state.operations m) where
        before : AllPast w c b.server (earlier m)
        before = served_before k count past t facts.changes_ c old (record { there = was; runs = runs }) b j m life1 pos z

        session : SessionOf b m
        session = session_there k count past t facts.changes_ c old (record { there = was; runs = runs }) b j m life1 pos z

        of : cs.server_of z.operation.ask ≡ b.server
        of = ap (λ y. record { 0 = y }) (eqb-true (cs.server_of z.operation.ask).0 b.server.0 (and_true (cs.is_of b.server z.operation) _ z.asked).0)

        asked : world.numbered (asks_of past c) z.operation.op ≡ Some z.operation.ask
        asked = (all.base.cuts.clients c old was).asked z.operation z.there

        pending : IsIn c z.operation.op v.pending
        pending =
            let l =
            has_map ask_key (open_of v c) (operation_key z.operation)
            (subst (Has (operation_key z.operation)) (sym (ap (λ (d : AsksOf). d.pending) (agree c ∙ ap at_site was)))
            (has_map_in operation_key old.node.state.operations z.operation z.there)) in
            let f = has_filter (is_of_client c) v.pending l.0 l.1 in (
              l.0,
              f.0,
              and_both (is_of_client c l.0) (l.0.op == z.operation.op) f.1 (eq-eqb l.0.op z.operation.op (sym (ap (λ (d : ℕ × Ask). d.0) l.2))),
            )

        module _ (qs : List Operation) (gone : (o : Operation) → Has o qs → o.op ≡ z.operation.op → ⊥) (site : WorldClient)
            (at : site_of sc.world c ≡ Some site) (a : Association) (i : Has a site.node.state.associations) (same : a.server ≡ b.server)
            (life : (m.header.life < a.life.0) ⊎ (site.node.running ≡ false)) (eq : qs ≡ site.node.state.operations) where
          abbrev Lost : AppAnswer → Type 0
          Lost answer = (first : ℕ) × (answer ≡ answers.Uncertain first 0) ×
              ((u : Volume) → u.starts ≡ started_all (of_event w e) v.starts → first ≡ epoch u b.server)

          -- it is answered only as its life ends
          module _ (answer : AppAnswer) (mine : Has (seen.Answered c z.operation.op answer) sc.seen) (r : Stepping w e sc) (f : c ≡ r.client) where
            site_is : site ≡ r.after
            site_is = some_is (sym at ∙ (ap (site_of sc.world) f ∙ r.left))

            still : started_all (of_event w e) v.starts ≡ v.starts
            still = event_starts w e v.starts ∙ no_start r.client r.site r.input r.takes v.starts

            says : m.header.life < a.life.0 → answer ≡ answers.Uncertain session.session.epoch.0 0
            says l =
                lives_answer k count past t e sc all.base all.owners.owned all.owners.few taken c z.operation.op session.session.epoch.0 answer
                (record {
                  site = old;
                  at = was;
                  operation = z.operation;
                  there = z.there;
                  is = refl;
                  before = b;
                  among = j;
                  asked = z.asked;
                  session = session.session;
                  has = session.has;
                  of_epoch = refl;
                  next = site;
                  left = at;
                  after = a;
                  within = i;
                  server = same;
                  life = omega (arith, l, life1);
                }) mine

            low : (node p2 : ServerNode) → node ≡ p2 → session.session.epoch.0 ≢ node.state.stable.epoch.0 → IsPast c p2 (earlier m) → IsPast c p2 m
            low node p2 g ne (inl y) = inl y
            low node p2 g ne (inr y) = absurd (ne (sym session.epoch ∙ (y.0 ∙ ap (λ (q2 : ServerNode). q2.state.stable.epoch.0) (sym g))))

            ends : (m.header.life < a.life.0) ⊎ (site.node.running ≡ false) → AllPast sc.world c b.server m ⊎ Lost answer
            ends (inr l) = clash (ap (λ (y : WorldClient). y.node.running) site_is ∙ r.runs_on) l
            ends (inl l) = which (node_of w b.server) refl
              where
                which : (o : Option ServerNode) → node_of w b.server ≡ o → AllPast sc.world c b.server m ⊎ Lost answer
                which None at3 = inl (on_past c b.server m (λ p2 at2. absurd (none_not_some p2 (sym at3 ∙ at2))))
                which (Some node) at3 = pick (same_or_not session.session.epoch.0 node.state.stable.epoch.0)
                  where
                    pick : (session.session.epoch.0 ≡ node.state.stable.epoch.0) ⊎ (session.session.epoch.0 ≢ node.state.stable.epoch.0) →
                        AllPast sc.world c b.server m ⊎ Lost answer
                    pick (inl y) =
                        inr (
                          session.session.epoch.0,
                          says l,
                          λ u st. y ∙ (sym (epochs b.server node at3)
                              ∙ ap (λ xs. length (filter (λ (r : ServerId). r.0 == b.server.0) xs) + 1) (sym (st ∙ still))),
                        )
                    pick (inr ne) = inl (on_past c b.server m (λ p2 at2. low node p2 (some_is (sym at3 ∙ at2)) ne (before p2 at2)))

          answered : (d : ClientId) (y : ℕ) (answer : AppAnswer) → Has (seen.Answered d y answer) sc.seen → d ≡ c → y ≡ z.operation.op →
              AllPast sc.world c b.server m ⊎ Lost answer
          answered d y answer h p q = by (its_answer w e sc (event_answers w e sc taken) d y answer h)
            where
              mine : Has (seen.Answered c z.operation.op answer) sc.seen
              mine =
                  subst (λ (l : ℕ). Has (seen.Answered c l answer) sc.seen) q
                  (subst (λ (l : ClientId). Has (seen.Answered l y answer) sc.seen) p h)

              by : ItsAnswer w e sc d y answer → AllPast sc.world c b.server m ⊎ Lost answer
              by (r, f, g) = ends answer mine r (sym p ∙ f) life

          pending_in : Followed c z.operation.op z.operation.ask b.server m of z.means asked z.row between before site at a i same life u →
              AllPast sc.world c b.server m ⊎ (IsIn c z.operation.op u.pending ⊎ IsIn c z.operation.op u.orphans)
          pending_in (inl p) = inl p
          pending_in (inr f) = inr f.among

          pending_now : AllPast sc.world c b.server m ⊎ OrphanOf past2 sc.world u c b.server qs m
          pending_now =
              left_now c z.operation.op z.operation.ask b.server m qs of z.means asked z.row between before gone
              (sooner_at c old was runs b j m z) site at eq
              (pending_in (subst (OnSome (Followed c z.operation.op z.operation.ask b.server m of z.means asked z.row between before site at a i same life)) led
              (follows c z.operation.op z.operation.ask b.server m of z.means asked z.row between before site at a i same life (inl pending) answered)))

      waits : (c : ClientId) (old : WorldClient) → site_of w c ≡ Some old → old.node.running ≡ true → (b : Association) →
          Has b old.node.state.associations → (m : Message) → Has m (messages w) → Between c b.server m →
          m.header.life ≡ b.life.0 → 1 ≤ m.header.number → asks_cut_or_name m.body ≡ true →
          AllPast w c b.server m ⊎ Waits sc Now c b.server old.node.state.operations m
      waits c old was runs b j m among between life1 pos own =
          go (alive k count past t all.base all.owners.owned c old (record { there = was; runs = runs }) b j m among between life1 pos own)
        where
          go : AllPast w c b.server m ⊎ Pending past (gifts k count w all.base.all c b.server) w c b.server old.node.state.operations m →
              AllPast w c b.server m ⊎ Waits sc Now c b.server old.node.state.operations m
          go (inl p) = inl p
          go (inr z) =
              inr (
                z.operation,
                z.there,
                z.asked,
                λ qs gone open_ site at a i same life eq.
                    pending_now c old was runs b j m among between life1 pos z qs gone site at a i same life eq,
              )

      pub over_now : AllOver sc.world (λ c s os m. OrphanOf past2 sc.world u c s os m)
      over_now c site at a i m among between pos own life =
          go (over_after k count past t e sc ranges all.base taken all.owners.owned all.owners.few (λ c s os m. OrphanOf past w v c s os m) Now
          (record { over = found; stays = stays; waits = waits }) c site at a i m among between pos own life)
        where
          go : AllPast sc.world c a.server m ⊎ Now c a.server site.node.state.operations m →
              AllPast sc.world c a.server m ⊎ OrphanOf past2 sc.world u c a.server site.node.state.operations m
          go (inl p) = inl p
          go (inr f) = f site at a i refl life refl

    pub volume_over : OnSome (HasAsksOf sc.world) (volume_after it x (Some v)) →
        OnSome (λ u. AllOver sc.world (λ c s os m. OrphanOf past2 sc.world u c s os m)) (volume_after it x (Some v))
    volume_over = go (run (steps_of it v x) v) refl
      where
        told : (u : Volume) → run (steps_of it v x) v ≡ Some u → (b : Bool) → OnSome (HasAsksOf sc.world) (if b then Some u else None) →
            OnSome (λ u. AllOver sc.world (λ c s os m. OrphanOf past2 sc.world u c s os m)) (if b then Some u else None)
        told u q true h = over_now u q h
        told u q false h = tt

        go : (o : Option Volume) → run (steps_of it v x) v ≡ o → OnSome (HasAsksOf sc.world) (option_and_then if_told o) →
            OnSome (λ u. AllOver sc.world (λ c s os m. OrphanOf past2 sc.world u c s os m)) (option_and_then if_told o)
        go None q h = tt
        go (Some u) q h = told u q (u.lines == length u.log) h

    -- A request that a server serves: its ask is open or orphaned, and none must take effect before it.
    module _ (ghost_ : GhostHolds past t it)
        (one_past : (y z : Step) → Has y past → Has z past → (c : ClientId) (s : ServerId) (life epoch number op n : ℕ) →
        WaitsUnder y.after.world c s life epoch number op → WaitsUnder z.after.world c s life epoch number n → op ≡ n)
        (s : ServerId) (node : ServerNode) (at : node_of w s ≡ Some node) (m : Message) (among : Has m (messages w)) (done : does_at w s (Some node) m ≡ true)
      where
        key : HasKey it past w (Grants k count past t it facts.changes_ ghost_ one_past s m) s m
        key = has_key k count past t it facts.changes_ ghost_ one_past s node at m among done

        runs : (node.running ≡ true) × ((serves (turn_of node (now_at w s)) m.header
            && is_done_as m.body (server.rule (turn_of node (now_at w s)) (now_at w s) m.header m.body).reply) ≡ true)
        runs = and_true node.running _ done

        does_it : (serves (turn_of node (now_at w s)) m.header ≡ true)
            × (is_done_as m.body (server.rule (turn_of node (now_at w s)) (now_at w s) m.header m.body).reply ≡ true)
        does_it = and_true (serves (turn_of node (now_at w s)) m.header) _ runs.1

        served : IsServedBy node.state m
        served = is_served s node (now_at w s) m does_it.0

        own : asks_cut_or_name m.body ≡ true
        own = cut_or_name m.body _ does_it.1

        abbrev c : ClientId
        c = client m.header.from

        -- the same operation
        same_op : (op : ℕ) → Row past w c s m op → op ≡ key.behind.op
        same_op op row =
            go (worlds_on k count past t e sc ranges all all2 taken facts.changes_.rows row.asked.at c row.asked.server row.asked.life_ row.asked.epoch_
            row.asked.number_ op row.asked.waits row.asked.among)
          where
            here : WaitsUnder row.asked.at c s m.header.life m.header.epoch m.header.number op
            here =
                waits_as row.asked.at c op row.asked.server s row.asked.life_ row.asked.epoch_ row.asked.number_ m.header.life m.header.epoch m.header.number
                row.same
                row.asked.waits

            by : (z : Step) → Has z past2 → row.asked.at ≡ z.after.world → op ≡ key.behind.op
            by z j q =
                one z key.at j (has_left past (step t e sc ∷ []) key.at key.among) c s m.header.life m.header.epoch m.header.number op key.behind.op
                (subst (λ y. WaitsUnder y c s m.header.life m.header.epoch m.header.number op) q here) key.waits

            go : Worlds past2 sc.world row.asked.at → op ≡ key.behind.op
            go (inl z) = by z.0 z.1 z.2
            go (inr q) = by (step t e sc) (has_right past (step t e sc ∷ []) (step t e sc) (inl refl)) q

        bounds : (1 ≤ m.header.from) × (m.header.from ≤ 16)
        bounds = let q = and_true (nat_le 1 m.header.from) (nat_le m.header.from 16) served.client in
            (leb-true 1 m.header.from q.0, leb-true m.header.from 16 q.1)

        place : (site : WorldClient) × (site_of w (client m.header.from) ≡ Some site)
        place = site_there w (client m.header.from) bounds.0 (all.owners.senders m among served.client)

        next : Next past v c key.behind.op
        next = by place.0 place.1
          where
            by : (site : WorldClient) → site_of w (client m.header.from) ≡ Some site → Next past v c key.behind.op
            by site here = go site.node.running refl (same_or_not m.header.life y.0.life.0)
              where
                y : (a : Association) × Has a site.node.state.associations × (a.server ≡ world.server s.0)
                y =
                    association_there k s.0 m.header.from site w.ended ((all.base.all.servers s.0 node at).ghosts m.header.from).net
                    ((all.base.all.servers s.0 node at).both.clients m.header.from site here)

                between : Between (client m.header.from) y.0.server m
                between = (refl, served.to ∙ ap server_node (all.base.cuts.servers s node at).id ∙ ap server_node (sym y.2))

                pos : 1 ≤ m.header.number
                pos = let q = served.next in omega (arith, q)

                up : m.header.life ≤ y.0.life.0
                up = (all.base.cuts.clients (client m.header.from) site here).lives y.0 y.1 m among between

                no_past : {A : Type 0} → AllPast w (client m.header.from) y.0.server m → A
                no_past q = absurd (not_past (client m.header.from) node m served runs.0 refl (q node (ap (node_of w) y.2 ∙ at)))

                row_here : (op : ℕ) → Row past w (client m.header.from) y.0.server m op → Row past w (client m.header.from) s m op
                row_here op r = subst (λ (z : ServerId). Row past w (client m.header.from) z m op) y.2 r

                orphaned : AllPast w (client m.header.from) y.0.server m ⊎ OrphanOf past w v (client m.header.from) y.0.server site.node.state.operations m →
                    Next past v c key.behind.op
                orphaned (inl q) = no_past q
                orphaned (inr z) =
                    subst (Next past v c) (same_op z.op (row_here z.op z.row))
                    (record {
                      there = (z.orphan.0, has_right v.pending v.orphans z.orphan.0 z.orphan.1, z.orphan.2);
                      ask = z.ask;
                      asked = z.asked;
                      sooner = z.sooner;
                    })

                waits2 : site.node.running ≡ true → AllPast w (client m.header.from) y.0.server m
                    ⊎ Pending past (gifts k count w all.base.all (client m.header.from) y.0.server) w (client m.header.from) y.0.server site.node.state.operations
                    m →
                    Next past v c key.behind.op
                waits2 r (inl q) = no_past q
                waits2 r (inr z) =
                    let l =
                    has_map ask_key (open_of v c) (operation_key z.operation)
                    (subst (Has (operation_key z.operation)) (sym (ap (λ (d : AsksOf). d.pending) (agree c ∙ ap at_site here)))
                    (has_map_in operation_key site.node.state.operations z.operation z.there)) in
                    let f = has_filter (is_of_client c) v.pending l.0 l.1 in
                    subst (Next past v c) (same_op z.operation.op (row_here z.operation.op z.row))
                    (record {
                      there = (
                        l.0,
                        has_left v.pending v.orphans l.0 f.0,
                        and_both (is_of_client c l.0) (l.0.op == z.operation.op) f.1
                            (eq-eqb l.0.op z.operation.op (sym (ap (λ (d : ℕ × Ask). d.0) l.2))),
                      );
                      ask = z.operation.ask;
                      asked = (all.base.cuts.clients c site here).asked z.operation z.there;
                      sooner = sooner_at c site here r y.0 y.1 m z;
                    })

                go : (b : Bool) → site.node.running ≡ b → (m.header.life ≡ y.0.life.0) ⊎ (m.header.life ≢ y.0.life.0) →
                    Next past v c key.behind.op
                go false r l = orphaned (found (client m.header.from) site here y.0 y.1 m among between pos own (inr r))
                go true r (inr ne) = orphaned (found (client m.header.from) site here y.0 y.1 m among between pos own (inl (omega (arith, ne, up))))
                go true r (inl l) =
                    waits2 r (alive k count past t all.base all.owners.owned (client m.header.from) site (record { there = here; runs = r }) y.0 y.1 m among
                    between l pos own)

        ask_next : AskIsNext it v s m
        ask_next =
            record {
              behind = key.behind;
              found = key.found;
              ask = its.0;
              there = its.1;
              first = none_before v its.0 sooner;
            }
          where
            its : (a : volume.Pending) × (find (is_ask c key.behind.op) (v.pending ++ v.orphans) ≡ Some a)
            its = which (find (is_ask c key.behind.op) (v.pending ++ v.orphans)) refl
              where
                which : (o : Option volume.Pending) → find (is_ask c key.behind.op) (v.pending ++ v.orphans) ≡ o →
                    (a : volume.Pending) × (find (is_ask c key.behind.op) (v.pending ++ v.orphans) ≡ Some a)
                which (Some a) q = (a, q)
                which None q =
                    let f = find_there (is_ask c key.behind.op) (v.pending ++ v.orphans) next.there.0 next.there.1 next.there.2 in
                    absurd (none_not_some f.0 (sym q ∙ f.1))

            found_ : (is_ask c key.behind.op its.0 ≡ true) × Has its.0 (v.pending ++ v.orphans)
            found_ = found_at (is_ask c key.behind.op) (v.pending ++ v.orphans) its.0 its.1

            same : (its.0.client ≡ c) × (its.0.op ≡ key.behind.op)
            same =
                let q = and_true (is_of_client c its.0) (its.0.op == key.behind.op) found_.0 in
                (client_is its.0.client c q.0, eqb-true its.0.op key.behind.op q.1)

            asked : world.numbered (asks_of past its.0.client) its.0.op ≡ Some its.0.ask
            asked = of (has_append v.pending v.orphans its.0 found_.1)
              where
                of : Has its.0 v.pending ⊎ Has its.0 v.orphans → world.numbered (asks_of past its.0.client) its.0.op ≡ Some its.0.ask
                of (inl i) = all_has (asks_of past) v.pending its.0 right.pending i
                of (inr i) = all_has (asks_of past) v.orphans its.0 right.orphans i

            ask : next.ask ≡ its.0.ask
            ask =
                some_is (sym next.asked
                ∙ subst (λ (d : ClientId). world.numbered (asks_of past d) key.behind.op ≡ Some its.0.ask) same.0
                (subst (λ (n : ℕ). world.numbered (asks_of past its.0.client) n ≡ Some its.0.ask) same.1 asked))

            sooner : NoneSooner v its.0.client its.0.op its.0.ask
            sooner =
                subst (λ (d : ClientId). NoneSooner v d its.0.op its.0.ask) (sym same.0)
                (subst (λ (n : ℕ). NoneSooner v c n its.0.ask) (sym same.1) (subst (λ (d : Ask). NoneSooner v c key.behind.op d) ask next.sooner))

    pub asks_next : GhostHolds past t it → OfDelivery (AskIsNext it v) w e
    asks_next ghost_ = by e refl
      where
        one_past : (y z : Step) → Has y past → Has z past → (c : ClientId) (s : ServerId) (life epoch number op j : ℕ) →
            WaitsUnder y.after.world c s life epoch number op → WaitsUnder z.after.world c s life epoch number j → op ≡ j
        one_past y z i j c s life epoch number op p a b =
            one y z (has_left past (step t e sc ∷ []) y i) (has_left past (step t e sc ∷ []) z j) c s life epoch number op p a b

        at_node : (s : ServerId) (m : Message) → Has m (messages w) → (o : Option ServerNode) → node_of w s ≡ o → does_at w s o m ≡ true → AskIsNext it v s m
        at_node s m among None at q = cc q
        at_node s m among (Some node) at q = ask_next ghost_ one_past s node at m among q

        to : (m : SentMessage) → Has m.message (messages w) → (d : NodeId) → AtNode (AskIsNext it v) w m.message d
        to m among (nodes.Client c) = tt
        to m among (nodes.Server s) = λ q. at_node s m.message among (node_of w s) refl q

        go : (o : Option SentMessage) → ((m : SentMessage) → o ≡ Some m → Has m w.net.messages) → OfMessage (AskIsNext it v) w o
        go None g = tt
        go (Some m) g = to m (has_map_in message_in w.net.messages m (g m refl)) (receiver_of m)

        by : (y : Event) → e ≡ y → OfDelivery (AskIsNext it v) w y
        by (events.Deliver j) q = go (message_of w j) (λ m i. numbered_has w.net.messages j m i)
        by y q = tt

-- In every run.
abbrev pub OpenKnown : ℕ → Promise
OpenKnown count past x =
    Known count past x × (AnswersAreLogged past x × (ChangesAreLocked past x × (PlacesHold x.after.world × RequestsAreInOrder past x)))

pub NextToo : List Step → Step → Witness → Type 0
NextToo past x it = OnSome (λ v. OfDelivery (AskIsNext it v) x.before.world x.event) it.volume

abbrev pub AllOpen : List Step → Traced → Volume → Type 0
AllOpen past t v = AllOver t.world (λ c s os m. OrphanOf past t.world v c s os m)

pub open_on : (k : net.Config) (count : ℕ) → IsGiven (OpenKnown count) (OpenHold k count) NextToo
unfolding NextToo led_by
open_on k count past t e sc it f g h = (
  go_next it.volume h.none.fine h.asks_.agree h.right h.epochs h.found,
  record {
    none = next.1;
    asks_ = asks2;
    right = right_kept past t e sc it f tt h.right;
    epochs = epochs_kept past t e sc it f tt h.epochs;
    ordered = g.1.1.1.1;
    stay = event_stays k count past t h.none.facts h.stay e sc f;
    ranged = all_last (is_in_range count) past x h.ranged g.0.0;
    found = go_found it.volume h.none.fine h.asks_.agree h.right h.epochs h.found asks2.agree;
  },
)
  where
    x : Step
    x = step t e sc

    next : NoneToo past (step t e sc) it × NoneHold k count (past ++ step t e sc ∷ []) (traced_after e t sc) (led_by it (step t e sc))
    next = none_on k count past t e sc it f g.0 h.none

    asks2 : AsksHold (past ++ step t e sc ∷ []) (traced_after e t sc) (led_by it (step t e sc))
    asks2 = asks_kept past t e sc it f (g.0.1.1.0, g.1.1.1.0) h.asks_

    n : FactsHold k count (past ++ step t e sc ∷ []) (traced_after e t sc)
    n = facts_on k count past t e sc g.0.0 h.none.facts f

    fine_asks : (c : ClientId) → list_all ranges_.is_ask (asks_of past c) ≡ true
    fine_asks c = asks_in_range count c past h.ranged

    apart : all_followed sc.seen ≡ true
    apart = (and_true (all_answered_once past (step t e sc) [] sc.seen) (all_followed sc.seen) g.0.1.0).1

    go_next : (o : Option Volume) → OnSome (AllFine (WasServed past t.world) None) o → OnSome (HasAsksOf t.world) o → OnSome (AreOf (asks_of past)) o →
        OnSome (HasEpochsOf t.world) o → OnSome (AllOpen past t) o → OnSome (λ v. OfDelivery (AskIsNext it v) t.world e) o
    go_next None a b c d q = tt
    go_next (Some v) a b c d q =
        asks_next k count past t e sc it g.0.0 f h.none.facts n g.0.1.1.1 g.1.0 apart g.1.1.0 h.ordered h.stay fine_asks v a b c d q h.none.ghost_

    go_found : (o : Option Volume) → OnSome (AllFine (WasServed past t.world) None) o → OnSome (HasAsksOf t.world) o → OnSome (AreOf (asks_of past)) o →
        OnSome (HasEpochsOf t.world) o → OnSome (AllOpen past t) o → OnSome (HasAsksOf sc.world) (volume_after it (step t e sc) o) →
        OnSome (AllOpen (past ++ step t e sc ∷ []) (traced_after e t sc)) (volume_after it (step t e sc) o)
    go_found None a b c d q l = tt
    go_found (Some v) a b c d q l =
        volume_over k count past t e sc it g.0.0 f h.none.facts n g.0.1.1.1 g.1.0 apart g.1.1.0 h.ordered h.stay fine_asks v a b c d q l

pub open_begins : (k : Config) (clients servers disks blocks form : ℕ) → IsHead k clients servers disks blocks form →
    OpenHold (terms_of k) (clients + servers) [] (traced (fresh_world k clients servers disks blocks form))
    (begun (fresh_world k clients servers disks blocks form) (fresh_world k clients servers disks blocks form))
unfolding begun
open_begins k clients servers disks blocks form head =
    record {
      none = none_begins k clients servers disks blocks form head;
      asks_ = asks_begin k clients servers disks blocks form;
      right = right_begins k clients servers disks blocks form;
      epochs = epochs_begin k clients servers disks blocks form;
      ordered = ordered_begins k clients servers disks blocks form;
      stay = stuck_begin k clients servers disks blocks form;
      ranged = refl;
      found = λ c site at a i m among. absurd (once.none_sent k clients servers disks blocks form m among);
    }

pub open_known : (k : Config) (clients servers disks blocks form : ℕ) (es : List Event) → IsHead k clients servers disks blocks form →
    list_all (is_event (clients + servers)) es ≡ true → IsSafeRun (fresh_world k clients servers disks blocks form) es →
    Throughout (OpenKnown (clients + servers)) [] (steps es (traced (fresh_world k clients servers disks blocks form)))
open_known k clients servers disks blocks form es head events kept =
    let t : Traced = traced (fresh_world k clients servers disks blocks form) in
    let count : ℕ = clients + servers in
    throughout_both (Known count)
    (λ past x. AnswersAreLogged past x × (ChangesAreLocked past x × (PlacesHold x.after.world × RequestsAreInOrder past x))) [] (steps es t)
    (known_in k clients servers disks blocks form es head events kept)
    (throughout_both AnswersAreLogged (λ past x. ChangesAreLocked past x × (PlacesHold x.after.world × RequestsAreInOrder past x)) [] (steps es t) kept.logged
    (throughout_both ChangesAreLocked (λ past x. PlacesHold x.after.world × RequestsAreInOrder past x) [] (steps es t) kept.locked
    (throughout_both (λ past x. PlacesHold x.after.world) RequestsAreInOrder [] (steps es t) (places_law k clients servers disks blocks form es head)
    (requests_are_in_order k clients servers disks blocks form es head events))))

pub asks_of_requests_are_next : EveryRunIsSafe → InEveryRun AsksOfRequestsAreNext
unfolding NextToo begun
asks_of_requests_are_next safe k clients servers disks blocks form es head events =
    let t : Traced = traced (fresh_world k clients servers disks blocks form) in
    let count : ℕ = clients + servers in
    given_in (OpenKnown count) (OpenHold (terms_of k) count) NextToo (open_on (terms_of k) count) es t (open_begins k clients servers disks blocks form head)
    (open_known k clients servers disks blocks form es head events (safe k clients servers disks blocks form es head events))
