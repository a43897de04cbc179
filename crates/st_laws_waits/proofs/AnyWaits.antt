-- In every run each wait that a server has, the first of its file or not, goes on or ends for one of the reasons.
use Rattle.st_lemmas.proofs.Words
use Words.{◌≡◌, ℕ, ◌+◌, true, List, Option, Some, None, Ok, sym, ap, ◌∙◌, subst, inl, [], ◌==◌, eq-eqb, ServerId, Event, Message, ServerInput, Waiter}
use Words.nodes
use Words.serving.{Tick, Control}
use Words.Events.{WorldTurn, world_step}
use Words.History.{Traced, traced}
use Words.Keys.{server_node}
use Words.Locks.{is_wait_of}
use Words.Safety.{Step, is_event, step}
use Words.Server.{ServerNode, server_step}
use Words.World.{clock_of, fresh_world, node_of}
use Words.Lookups.{if_true, some_is}
use Words.Tables.{found_at}
use Words.Truth.{not_both}
use Rattle.st_base.specs.declared.config.Config as base
use Rattle.st_laws_refine.specs.Server.Edits.{WishInput}
use Rattle.st_laws_leases.proofs.Sides.Runs.{throughout_events}
use Rattle.st_laws_waits.specs.Ends.{IsWaiting, StaysOrEnds}
use Rattle.st_laws_waits.specs.Waits.{EveryWaitEndsForAReason, InEveryRun, received, received_in}
use Rattle.st_laws_waits.proofs.AnyEnds.{step_stays}
use Rattle.st_laws_waits.proofs.Ends.{received_of}
use Rattle.st_laws_waits.proofs.Events.{Done, stepped}
use Rattle.st_laws_waits.proofs.Events.Done.{Ticks, Receives, Waits, Stops, Starts}
use Rattle.st_laws_waits.proofs.Standing.{Basic, basic2, begins, change, facts}

module _ (k : base.Config) (count : ℕ) (s : ServerId) (past : List Step) (t : Traced) (e : Event) (sc : WorldTurn) (b : Basic k count s past t)
    (ok : is_event count e ≡ true) (h : world_step t.world e ≡ Ok sc) where
  abbrev x : Step
  x = step t e sc

  step_of : (w : Waiter) (old : ServerNode) (at : node_of t.world s ≡ Some old) → old.running ≡ true → IsWaiting w old.state.locks → (j : ServerInput) →
      WishInput j →
      StaysOrEnds w (received_of j) old.state.stable.names (server_step old.state (clock_of t.world (nodes.Server s)) j).state.authority (server_step old.state (clock_of t.world (nodes.Server s)) j).state.locks
  step_of w old at runs there j wish =
      let z = facts k count s t.world b.all old at runs in
      let m = (found_at (is_wait_of w.client w.ino) old.state.locks.waiters w there).1 in
      step_stays w old.state (clock_of t.world (nodes.Server s)) j z.known there (z.free w m) (z.lives w m) wish

  reason : EveryWaitEndsForAReason k s past x
  reason w old new at runs there f running = go (change k count s past t e sc b ok h)
    where
      Ended : Option Message → ServerNode → Type 0
      Ended m v = StaysOrEnds w m old.state.stable.names v.state.authority v.state.locks

      went : (v : ServerNode) (j : ServerInput) → node_of t.world s ≡ Some v → WishInput j →
          node_of sc.world s ≡ Some (stepped v (clock_of t.world (nodes.Server s)) j) → received s t.world e ≡ received_of j → Ended (received s t.world e) new
      went v j found wish next is =
          subst (Ended (received s t.world e)) (some_is (sym next ∙ f))
          (subst (λ (v : ServerNode). Ended (received s t.world e) (stepped v (clock_of t.world (nodes.Server s)) j)) (some_is (sym at ∙ found))
          (subst (λ m. Ended m (stepped old (clock_of t.world (nodes.Server s)) j)) (sym is) (step_of w old at runs there j wish)))

      go : Done s.0 t.world sc.world e → Ended (received s t.world e) new
      go (Ticks v found r is next clock) = went v Tick found tt next (ap (received s t.world) is)
      go (Receives v n m found r is em to wish next clock) =
          went v (Control m.message) found wish next
          (ap (received s t.world) is ∙ ap (received_in s) em
          ∙ if_true (m.message.header.to == server_node s) (Some m.message) None (eq-eqb m.message.header.to (server_node s) to))
      go (Waits same le q deaf) = inl (subst (λ (v : ServerNode). IsWaiting w v.state.locks) (some_is (sym at ∙ sym same ∙ f)) there)
      go (Stops v found next) = absurd (not_both new.running running (sym (ap (λ (n : ServerNode). n.running) (some_is (sym next ∙ f)))))
      go (Starts v found off is next clock) = absurd (not_both old.running runs (ap (λ (n : ServerNode). n.running) (some_is (sym at ∙ found)) ∙ off))

pub any_reason_law : InEveryRun EveryWaitEndsForAReason
any_reason_law k clients servers disks blocks form es s head events =
    throughout_events (clients + servers) (EveryWaitEndsForAReason k s) (Basic k (clients + servers) s)
    (λ past t e sc ok b h. (reason k (clients + servers) s past t e sc b ok h, basic2 k (clients + servers) s past t e sc b ok h)) es events []
    (traced (fresh_world k clients servers disks blocks form)) (begins k clients servers disks blocks form s head)
