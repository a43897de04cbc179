-- The promises that follow from what holds of every server and client: thefts come late, graces wait, servers send no conflict.
use Rattle.st_lemmas.proofs.Words
use Words.{◌≡◌, ℕ, true, List, Option, Some, None, Ok, refl, sym, ap, ◌∙◌, subst, list_all, eq-eqb, NodeId, ServerId, Event, Observation, SentMessage}
use Words.nodes
use Words.events
use Words.Admissible as admissible
use Words.Events.{counted, happens, world_step}
use Words.History.{Traced}
use Words.Safety.{Step, has_waited, is_late, is_no_conflict, is_receiver, node_waited}
use Words.Server.{ServerNode}
use Words.World.{World, all_servers, is_running, message_of, node_of, receiver_of, same_node, server}
use Words.Tables.{all_pass, not_false}
use Words.Truth.{or_first}
use Words.Worlds.{stands_not}
use Rattle.st_protocol.specs.Assoc.{Config}
use Rattle.st_laws_leases.specs.Dates.Dates.{Dated}
use Rattle.st_laws_leases.proofs.Dates.Calm.{happens_calm, report_calm}
use Rattle.st_laws_leases.proofs.Dates.SentMessages.{AllCalm}
use Rattle.st_laws_leases.specs.History.Replies.{DatesStand}
use Rattle.st_laws_refine.specs.Server.Pair.{DatesShown}
use Rattle.st_laws_refine.proofs.Server.Runs.{delivered, ticked}
use Rattle.st_laws_refine.proofs.Server.Waits.{server_waits}
use Rattle.st_laws_leases.specs.Sides.World.{AllStand}
use Rattle.st_laws_leases.proofs.Sides.Calmly.{late_all, client_receives, calm_tick, calm_ask, calm_loss, calm_advance, calm_effect, calm_report, calm_link}
use Rattle.st_laws_leases.proofs.Sides.Calmly.{calm_crash, calm_stop, calm_start}
use Rattle.st_laws_leases.proofs.Sides.Quietly.{quiet_advance, quiet_crash, quiet_effect, quiet_link, quiet_loss, quiet_start, quiet_stop}
use Rattle.st_laws_leases.proofs.Sides.AllAssociations.{message_there, positive, running_node, settings}
use Rattle.st_laws_leases.proofs.Sides.Shown.{dates_shown}
use Rattle.st_laws_leases.proofs.Sides.Fold.{second_none}

module _ (k : Config) (t : Traced) (count : ℕ) (a : AllStand k count t.world) (d : DatesStand t.world t.history.dates) where
  abbrev w : World
  w = t.world

  -- each server showed the dates of its clients
  shown_by : (s : ℕ) (node : ServerNode) (e : node_of w (server s) ≡ Some node) (c : ℕ) → DatesShown k.lease c s t.history.dates ((a.servers s node e).ghosts c).net
  shown_by s node e c =
      let z = a.servers s node e in
      subst (λ l. DatesShown l c s t.history.dates (z.ghosts c).net) (ap (λ (q : Config). q.lease) (sym a.terms))
      (dates_shown w.config.lease c s w (z.ghosts c).net t.history.dates (z.both.stands.served c).wires d.replied)

  -- outside grace every lease of an earlier epoch is over
  waited : (s : ServerId) → has_waited t s ≡ true
  waited s = go (node_of w s) refl
    where
      go : (o : Option ServerNode) → node_of w s ≡ o → has_waited t s ≡ true
      go None e = ap (node_waited t s) e
      go (Some node) e =
          let z = a.servers s.0 node e in
          server_waits k s.0 z.ended t node z.ghosts a.sound z.both.stands d.placed (shown_by s.0 node e)

  pub graces_wait : list_all (has_waited t) (all_servers w) ≡ true
  graces_wait = all_pass (has_waited t) (all_servers w) (λ s h. waited s)

  -- a tick of a server
  tick_late : (s : ℕ) → admissible.refusal w (events.Tick (nodes.Server (server s))) ≡ None → world_step w (events.Tick (nodes.Server (server s))) ≡ Ok (happens (counted w) (events.Tick (nodes.Server (server s)))) →
      list_all (is_late t) (happens (counted w) (events.Tick (nodes.Server (server s)))).seen ≡ true
  unfolding admissible.refusal
  tick_late s r e =
      let n = running_node (node_of w (server s)) (not_false _ (stands_not _ _ (or_first _ _ (second_none _ _ r)))) in
      let z = a.servers s n.0 n.1 in
      (ticked k s z.ended w (happens (counted w) (events.Tick (nodes.Server (server s)))) n.0 z.ghosts a.sound n.2 (settings k count w a) z.both.ends e z.both.stands).late t refl d.placed (shown_by s n.0 n.1)

  -- a message that is delivered to a server
  message_late : (n s : ℕ) (m : SentMessage) → admissible.refusal w (events.Deliver n) ≡ None → message_of w n ≡ Some m → receiver_of m ≡ nodes.Server (server s) →
      world_step w (events.Deliver n) ≡ Ok (happens (counted w) (events.Deliver n)) → list_all (is_late t) (happens (counted w) (events.Deliver n)).seen ≡ true
  unfolding admissible.refusal admissible.refused_delivery
  message_late n s m r em er e =
      let q = subst (λ o. admissible.refused_delivery w n o ≡ None) em r in
      let runs = not_false _ (stands_not _ _ (or_first _ _ (second_none _ _ (second_none _ _ q)))) in
      let y = running_node (node_of w (server s)) (ap (is_running w) (sym er) ∙ runs) in
      let z = a.servers s y.0 y.1 in
      (delivered k s z.ended w n m (happens (counted w) (events.Deliver n)) y.0 z.ghosts a.sound (positive k count w a s y.0 y.1) y.2 (settings k count w a) z.both.ends e em er z.both.stands).late t refl d.placed (shown_by s y.0 y.1)

  calm : (os : List Observation) → AllCalm os → list_all (is_late t) os ≡ true
  calm os c = late_all t os c

  -- every event
  pub thefts_late : (e : Event) → admissible.refusal w e ≡ None → world_step w e ≡ Ok (happens (counted w) e) → list_all (is_late t) (happens (counted w) e).seen ≡ true
  thefts_late (events.Tick (nodes.Client c)) r e = calm _ (calm_tick (counted w) c)
  thefts_late (events.Tick (nodes.Server s)) r e = tick_late s.0 r e
  thefts_late (events.App c ask) r e = calm _ (calm_ask (counted w) c ask)
  thefts_late (events.Deliver n) r e = go (message_of w n) refl
    where
      to : (m : SentMessage) → message_of w n ≡ Some m → (x : NodeId) → receiver_of m ≡ x → list_all (is_late t) (happens (counted w) (events.Deliver n)).seen ≡ true
      to m q (nodes.Client c) f = calm _ (client_receives w n m c q f)
      to m q (nodes.Server s) f = message_late n s.0 m r q f e

      go : (o : Option SentMessage) → message_of w n ≡ o → list_all (is_late t) (happens (counted w) (events.Deliver n)).seen ≡ true
      go None q = absurd (message_there w n q r)
      go (Some m) q = to m q (receiver_of m) refl
  thefts_late (events.Lose n) r e = calm _ (calm_loss (counted w) n)
  thefts_late (events.Cut x y) r e = calm _ (calm_link (counted w) x y).0
  thefts_late (events.Heal x y) r e = calm _ (calm_link (counted w) x y).1
  thefts_late (events.Advance steps) r e = calm _ (calm_advance (counted w) steps)
  thefts_late (events.Effect n) r e = calm _ (calm_effect (counted w) n)
  thefts_late (events.Report n ok) r e = calm _ (calm_report (counted w) n ok)
  thefts_late (events.Crash (nodes.Client c)) r e = calm _ (calm_crash (counted w) c)
  thefts_late (events.Crash (nodes.Server s)) r e = calm _ (calm_stop (counted w) s)
  thefts_late (events.Start x) r e = calm _ (calm_start (counted w) x)

  -- No conflict is sent: not at a server's step, not at a client's, and nothing is sent at any other event.
  module _ (past : List Step) (h : Dated past t) where
    tick_quiet : (s : ℕ) → admissible.refusal w (events.Tick (nodes.Server (server s))) ≡ None → world_step w (events.Tick (nodes.Server (server s))) ≡ Ok (happens (counted w) (events.Tick (nodes.Server (server s)))) →
        list_all is_no_conflict (happens (counted w) (events.Tick (nodes.Server (server s)))).seen ≡ true
    unfolding admissible.refusal
    tick_quiet s r e =
        let n = running_node (node_of w (server s)) (not_false _ (stands_not _ _ (or_first _ _ (second_none _ _ r)))) in
        let z = a.servers s n.0 n.1 in
        (ticked k s z.ended w (happens (counted w) (events.Tick (nodes.Server (server s)))) n.0 z.ghosts a.sound n.2 (settings k count w a) z.both.ends e z.both.stands).quiet z.calm

    message_quiet : (n s : ℕ) (m : SentMessage) → admissible.refusal w (events.Deliver n) ≡ None → message_of w n ≡ Some m → receiver_of m ≡ nodes.Server (server s) →
        world_step w (events.Deliver n) ≡ Ok (happens (counted w) (events.Deliver n)) → list_all is_no_conflict (happens (counted w) (events.Deliver n)).seen ≡ true
    unfolding admissible.refusal admissible.refused_delivery
    message_quiet n s m r em er e =
        let q = subst (λ o. admissible.refused_delivery w n o ≡ None) em r in
        let runs = not_false _ (stands_not _ _ (or_first _ _ (second_none _ _ (second_none _ _ q)))) in
        let y = running_node (node_of w (server s)) (ap (is_running w) (sym er) ∙ runs) in
        let z = a.servers s y.0 y.1 in
        (delivered k s z.ended w n m (happens (counted w) (events.Deliver n)) y.0 z.ghosts a.sound (positive k count w a s y.0 y.1) y.2 (settings k count w a) z.both.ends e em er z.both.stands).quiet z.calm

    pub no_conflicts : (e : Event) → admissible.refusal w e ≡ None → world_step w e ≡ Ok (happens (counted w) e) → list_all is_no_conflict (happens (counted w) e).seen ≡ true
    no_conflicts (events.Tick (nodes.Client c)) r e = happens_calm past t h (events.Tick (nodes.Client c)) c (eq-eqb c.0 c.0 refl)
    no_conflicts (events.Tick (nodes.Server s)) r e = tick_quiet s.0 r e
    no_conflicts (events.App c ask) r e = happens_calm past t h (events.App c ask) c (eq-eqb c.0 c.0 refl)
    no_conflicts (events.Deliver n) r e = go (message_of w n) refl
      where
        to : (m : SentMessage) → message_of w n ≡ Some m → (x : NodeId) → receiver_of m ≡ x → list_all is_no_conflict (happens (counted w) (events.Deliver n)).seen ≡ true
        to m q (nodes.Client c) f = happens_calm past t h (events.Deliver n) c (ap (is_receiver c) q ∙ ap (λ y. same_node y (nodes.Client c)) f ∙ eq-eqb c.0 c.0 refl)
        to m q (nodes.Server s) f = message_quiet n s.0 m r q f e

        go : (o : Option SentMessage) → message_of w n ≡ o → list_all is_no_conflict (happens (counted w) (events.Deliver n)).seen ≡ true
        go None q = absurd (message_there w n q r)
        go (Some m) q = to m q (receiver_of m) refl
    no_conflicts (events.Lose n) r e = quiet_loss (counted w) n
    no_conflicts (events.Cut x y) r e = (quiet_link (counted w) x y).0
    no_conflicts (events.Heal x y) r e = (quiet_link (counted w) x y).1
    no_conflicts (events.Advance steps) r e = quiet_advance (counted w) steps
    no_conflicts (events.Effect n) r e = quiet_effect (counted w) n
    no_conflicts (events.Report n ok) r e = report_calm past t h n ok
    no_conflicts (events.Crash (nodes.Client c)) r e = quiet_crash (counted w) c
    no_conflicts (events.Crash (nodes.Server s)) r e = quiet_stop (counted w) s
    no_conflicts (events.Start x) r e = quiet_start (counted w) x
