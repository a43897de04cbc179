-- Thefts are no more than sixteen for each event: after every event.
use Rattle.st_lemmas.proofs.Words
use Words.{◌≡◌, ◌≢◌, ◌⊎◌, ℕ, ◌+◌, ◌*◌, ◌≤◌, [], Some, refl, sym, ap, ◌∙◌, subst, inl, inr, arith, Config, ServerId, Stamp}
use Words.nodes
use Words.Events as ev
use Words.Extents.{numbers}
use Words.Server as sv
use Words.Server.{ServerNode, ServerState}
use Words.World as world
use Words.World.{Tally, World, all_servers, clock_of, fresh_world, node_of, numbered, with_numbered}
use Words.Lists.{Has}
use Words.Lookups.{some_is}
use Words.Numbers.{numbered_below, numbered_has, numbered_other, numbered_own}
use Words.Tables.{has_map, same_or_not}
use Rattle.st_laws_bounds.proofs.Counters.Clients.{flush_rows, served_all}
use Rattle.st_laws_bounds.proofs.Counters.Events.{Cases, ClientSteps, ServerSteps}
use Rattle.st_laws_bounds.proofs.Counters.Tallies.{told_all}
use Rattle.st_laws_bounds.proofs.Counters.Thefts.{FewClients, Rising, step_few}

-- What holds when there were n events.
pub record TheftsLow (n : ℕ) (w : World) : Type 0 where
  pub low : w.tally.stolen ≤ 16 * n
  pub clients : (s : ServerId) (node : ServerNode) → node_of w s ≡ Some node → FewClients node.state

later : (m n : ℕ) (w v : World) → m ≤ n → v.servers ≡ w.servers → v.tally.stolen ≡ w.tally.stolen → TheftsLow m w → TheftsLow n v
later m n w v l ss e h = record { low = let a = h.low in omega (arith, a, e, l); clients = λ s node f. h.clients s node (ap (λ zs. numbered zs s.0) (sym ss) ∙ f) }

-- one server is replaced
replaced : (n : ℕ) (w v : World) (s : ServerId) (old new : ServerNode) → node_of w s ≡ Some old → v.servers ≡ with_numbered s.0 new w.servers → v.tally.stolen ≤ w.tally.stolen + 16 → FewClients new.state → TheftsLow n w → TheftsLow (n + 1) v
replaced n w v s old new there ss more own h =
    record { low = let a = h.low in omega (arith, a, more); clients = λ d node e. go d node e (same_or_not d.0 s.0) }
  where
    go : (d : ServerId) (node : ServerNode) → node_of v d ≡ Some node → (d.0 ≡ s.0) ⊎ (d.0 ≢ s.0) → FewClients node.state
    go d node e (inl i) =
        let z : new ≡ node = some_is (sym (numbered_own w.servers s.0 new old there) ∙ ap (numbered (with_numbered s.0 new w.servers)) (sym i) ∙ ap (λ zs. numbered zs d.0) (sym ss) ∙ e) in
        subst (λ (y : ServerNode). FewClients y.state) z own
    go d node e (inr x) = h.clients d node (sym (numbered_other w.servers s.0 d.0 new (numbered_below w.servers s.0 old there).0 x) ∙ ap (λ zs. numbered zs d.0) (sym ss) ∙ e)

-- a server that has no locks and no timers
empty : (s : ServerState) → s.locks.rows ≡ [] → s.locks.waiters ≡ [] → s.authority.suspects ≡ [] → FewClients s
empty s r w x =
    record {
      locks = record { rows = λ y i. absurd (subst (λ zs. Has y zs) r i); waits = λ y i. absurd (subst (λ zs. Has y zs) w i) };
      timers = record { timers = λ y i. absurd (subst (λ zs. Has y zs) x i); rising = subst Rising (sym x) tt };
    }

crashed : (node : ServerNode) → FewClients (sv.crash_node node).state
unfolding sv.crash
crashed node = empty (sv.crash node.state) refl refl refl

started : (node : ServerNode) (now : Stamp) → FewClients (sv.start_node node now).state
unfolding sv.start sv.begin_epoch
started node now = empty (sv.start node.state now) refl refl refl

pub cases : (n : ℕ) → Cases (TheftsLow n) (TheftsLow (n + 1))
unfolding ev.client_took ev.server_took
cases n =
    record {
      beside = λ w v b h. later n n w v (omega arith) b.servers (ap (λ (t : Tally). t.stolen) b.tally) h;
      done = λ w h. later n (n + 1) w w (omega arith) refl refl h;
      client = λ w c input old site there is r h.
          let t = ClientSteps w c site input in
          let sc = ev.client_says_all c site.node.state t.out (ev.quiet (ev.with_site c (ev.at_node t.node site) w)) in
          let rows = flush_rows c t.node.state (all_servers sc.world) sc.world in
          let told = told_all c site.node.state t.out (ev.quiet (ev.with_site c (ev.at_node t.node site) w)) in
          later n (n + 1) w (ev.flushes c t.node.state (all_servers sc.world) sc.world) (omega arith) (rows.servers ∙ told.servers) (ap (λ (t : Tally). t.stolen) rows.tally ∙ told.stolen) h;
      server = λ w s input node there r h.
          let t = ServerSteps w s node input in
          let said = served_all s t.out (ev.quiet (ev.with_node s t.node w)) in
          let few = step_few node.state (clock_of w (nodes.Server s)) input (h.clients s node there) in
          let a = said.stolen in let b = few.thefts in
          replaced n w (ev.server_says_all s t.out (ev.quiet (ev.with_node s t.node w))).world s node t.node there said.servers (omega (arith, a, b)) few.clients h;
      crash = λ w c site es there l h. record { low = let a = h.low in omega (arith, a); clients = h.clients };
      start = λ w c site there h. record { low = let a = h.low in omega (arith, a); clients = h.clients };
      stop = λ w s node there h. replaced n w (ev.with_node s (sv.crash_node node) w) s node (sv.crash_node node) there refl (omega arith) (crashed node) h;
      begin = λ w s node there h.
          replaced n w (ev.with_node s (sv.start_node node (clock_of w (nodes.Server s))) w) s node (sv.start_node node (clock_of w (nodes.Server s))) there refl (omega arith) (started node (clock_of w (nodes.Server s))) h;
    }

-- the world of a head
pub fresh_low : (k : Config) (clients servers d b form : ℕ) → TheftsLow 0 (fresh_world k clients servers d b form)
unfolding fresh_world sv.fresh_server
fresh_low k clients servers d b form =
    record {
      low = omega arith;
      clients = λ s node e.
          let x = has_map (world.node_at_start k servers d b) (numbers 1 servers) node (numbered_has _ s.0 node e) in
          subst (λ (y : ServerNode). FewClients y.state) (sym x.2) (empty (world.node_at_start k servers d b x.0).state refl refl refl);
    }
