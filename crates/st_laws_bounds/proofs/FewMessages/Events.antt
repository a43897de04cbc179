-- Every event sends few messages and submits few commands, by how many events there were.
use Rattle.st_lemmas.proofs.Words
use Words.{◌≡◌, ◌≢◌, ◌⊎◌, ℕ, ◌+◌, ◌*◌, ◌≤◌, List, [], ◌∷◌, Some, Ok, refl, sym, ap, ◌∙◌, subst, inl, inr, arith, length, Config, ClientId}
use Words.{ServerId, Note, Output, ClientInput, ServerInput, IssuedCommand}
use Words.nodes
use Words.notes
use Words.outputs
use Words.Client as cl
use Words.ClientState.{Association}
use Words.Events as ev
use Words.Events.{WorldTurn}
use Words.Extents.{numbers}
use Words.FlatLog as log
use Words.Server as sv
use Words.Server.{ServerNode}
use Words.World as world
use Words.World.{World, WorldClient, Net, clock_of, fresh_site, fresh_world, node_of, numbered, site_of, with_numbered}
use Words.Lookups.{some_is}
use Words.Numbers.{length_more, numbered_below, numbered_has, numbered_other, numbered_own}
use Words.Tables.{has_map, same_or_not}
use Words.Lengths.{length_map, numbers_length}
use Rattle.st_laws_bounds.proofs.Counters.Clients.{Said, SameRows, flush_rows, said_all, served_all}
use Rattle.st_laws_bounds.proofs.Counters.Events.{Cases, ClientSteps, ServerSteps, Takes}
use Rattle.st_laws_bounds.proofs.Counters.Robbing as robbed
use Rattle.st_laws_bounds.proofs.Counters.Robbing.{TheftsLow}
use Rattle.st_laws_bounds.proofs.Counters.Tallies.{told_all}
use Rattle.st_laws_bounds.proofs.Counters.Weights.{of_message, weigh}
use Rattle.st_laws_bounds.proofs.FewMessages.Serving.{Serves, step_serves}
use Rattle.st_laws_bounds.proofs.FewMessages.Stepping.{Few, Steps, step_costs}

-- What holds when there were n events: of each client, of each server's waits, and of the commands.
pub record Low (n : ℕ) (w : World) : Type 0 where
  pub clients : (c : ClientId) (site : WorldClient) → site_of w c ≡ Some site → Few site.node.state
  pub waits : (s : ServerId) (node : ServerNode) → node_of w s ≡ Some node → length node.state.locks.waiters ≤ n
  pub commands : length w.commands ≤ 16468 * n

-- the same nodes, and as many commands
low_same : (m n : ℕ) (w v : World) → m ≤ n → v.clients ≡ w.clients → v.servers ≡ w.servers → length v.commands ≡ length w.commands → Low m w → Low n v
low_same m n w v l cs ss e h =
    record {
      clients = λ c site f. h.clients c site (ap (λ zs. numbered zs c.0) (sym cs) ∙ f);
      waits = λ s node f. let z = h.waits s node (ap (λ zs. numbered zs s.0) (sym ss) ∙ f) in omega (arith, z, l);
      commands = let z = h.commands in omega (arith, z, e, l);
    }

-- one client is replaced
client_other : (n : ℕ) (w v : World) (c : ClientId) (old new : WorldClient) → site_of w c ≡ Some old → v.clients ≡ with_numbered c.0 new w.clients → v.servers ≡ w.servers → Few new.node.state →
    length v.commands ≤ 16468 + length w.commands → Low n w → Low (n + 1) v
client_other n w v c old new there cs ss own more h =
    record {
      clients = λ d site e. go d site e (same_or_not d.0 c.0);
      waits = λ s node f. let z = h.waits s node (ap (λ zs. numbered zs s.0) (sym ss) ∙ f) in omega (arith, z);
      commands = let z = h.commands in omega (arith, z, more);
    }
  where
    go : (d : ClientId) (site : WorldClient) → site_of v d ≡ Some site → (d.0 ≡ c.0) ⊎ (d.0 ≢ c.0) → Few site.node.state
    go d site e (inl i) =
        let s : new ≡ site = some_is (sym (numbered_own w.clients c.0 new old there) ∙ ap (numbered (with_numbered c.0 new w.clients)) (sym i) ∙ ap (λ zs. numbered zs d.0) (sym cs) ∙ e) in
        subst (λ (y : WorldClient). Few y.node.state) s own
    go d site e (inr x) = h.clients d site (sym (numbered_other w.clients c.0 d.0 new (numbered_below w.clients c.0 old there).0 x) ∙ ap (λ zs. numbered zs d.0) (sym cs) ∙ e)

-- one server is replaced
server_other : (n : ℕ) (w v : World) (s : ServerId) (old new : ServerNode) → node_of w s ≡ Some old → v.servers ≡ with_numbered s.0 new w.servers → v.clients ≡ w.clients → length new.state.locks.waiters ≤ n + 1 →
    length v.commands ≡ length w.commands → Low n w → Low (n + 1) v
server_other n w v s old new there ss cs own same h =
    record {
      clients = λ c site f. h.clients c site (ap (λ zs. numbered zs c.0) (sym cs) ∙ f);
      waits = λ d node e. go d node e (same_or_not d.0 s.0);
      commands = let z = h.commands in omega (arith, z, same);
    }
  where
    go : (d : ServerId) (node : ServerNode) → node_of v d ≡ Some node → (d.0 ≡ s.0) ⊎ (d.0 ≢ s.0) → length node.state.locks.waiters ≤ n + 1
    go d node e (inl i) =
        let z : new ≡ node = some_is (sym (numbered_own w.servers s.0 new old there) ∙ ap (numbered (with_numbered s.0 new w.servers)) (sym i) ∙ ap (λ zs. numbered zs d.0) (sym ss) ∙ e) in
        subst (λ (y : ServerNode). length y.state.locks.waiters ≤ n + 1) z own
    go d node e (inr x) = let z = h.waits d node (sym (numbered_other w.servers s.0 d.0 new (numbered_below w.servers s.0 old there).0 x) ∙ ap (λ zs. numbered zs d.0) (sym ss) ∙ e) in omega (arith, z)

-- What a server's outputs add: a message for each, and no command.
record Adds (os : List Output) (w v : World) : Type 0 where
  commands : length v.commands ≡ length w.commands
  messages : length v.net.messages ≡ length w.net.messages + weigh of_message os

adds_one : (s : ServerId) (o : Output) (sc : WorldTurn) → Adds (o ∷ []) sc.world (ev.server_says sc s o).world
unfolding ev.server_says ev.server_notes ev.cuts ev.sends log.cut
adds_one s (outputs.Send m) sc = record { commands = refl; messages = let z = length_more sc.world.net.messages (record { message = m; lost = Rattle.std.proofs.Common.false }) in omega (arith, z) }
adds_one s (outputs.Note n) sc = note n
  where
    note : (n : Note) → Adds (outputs.Note n ∷ []) sc.world (ev.server_notes sc s n).world
    note (notes.CutDone f p) = record { commands = refl; messages = omega arith }
    note (notes.Stolen c life) = record { commands = refl; messages = omega arith }
    note n = record { commands = refl; messages = omega arith }
adds_one s (outputs.Answer op a) sc = record { commands = refl; messages = omega arith }
adds_one s (outputs.Submit number at what) sc = record { commands = refl; messages = omega arith }

adds_all : (s : ServerId) (os : List Output) (sc : WorldTurn) → Adds os sc.world (ev.server_says_all s os sc).world
unfolding ev.server_says_all
adds_all s [] sc = record { commands = refl; messages = omega arith }
adds_all s (o ∷ os) sc =
    let x = adds_one s o sc in
    let y = adds_all s os (ev.server_says sc s o) in
    let a = x.messages in let b = y.messages in
    record { commands = y.commands ∙ x.commands; messages = omega (arith, a, b) }

-- What holds before an event, when there were n events and m messages; and after it.
pub record Before (n m : ℕ) (w : World) : Type 0 where
  pub thefts : TheftsLow n w
  pub low : Low n w
  pub messages : length w.net.messages ≡ m

pub record Behind (n m : ℕ) (w : World) : Type 0 where
  pub thefts : TheftsLow (n + 1) w
  pub low : Low (n + 1) w
  pub messages : length w.net.messages ≤ m + (16 * n + 17)

-- a client's step
took : (n m : ℕ) (w : World) (c : ClientId) (input : ClientInput) (old site : WorldClient) → site_of w c ≡ Some old → Takes old site input → Before n m w →
    TheftsLow (n + 1) (ev.client_took w c site (Ok (ClientSteps w c site input))).world → Behind n m (ev.client_took w c site (Ok (ClientSteps w c site input))).world
unfolding ev.client_took
took n m w c input old site there is h thefts =
    record {
      thefts = thefts;
      low =
          client_other n w v c old after there (rows.clients ∙ said.clients) (rows.servers ∙ (told_all c site.node.state t.out (ev.quiet (ev.with_site c after w))).servers) goes.few
          (let a = said.commands in let b = goes.commands in let d = ap (λ (zs : List IssuedCommand). length zs) rows.commands in omega (arith, a, b, d)) h.low;
      messages = let a = said.messages in let b = goes.messages in let d = ap (λ (x : Net). length x.messages) rows.net in let e = h.messages in omega (arith, a, b, d, e);
    }
  where
    t : cl.NodeTurn
    t = ClientSteps w c site input

    after : WorldClient
    after = ev.at_node t.node site

    u : World
    u = (ev.client_says_all c site.node.state t.out (ev.quiet (ev.with_site c after w))).world

    v : World
    v = ev.flushes c t.node.state (world.all_servers u) u

    rows : SameRows u v
    rows = flush_rows c t.node.state (world.all_servers u) u

    said : Said c t.out (ev.with_site c after w) u
    said = said_all c site.node.state after t.out (ev.quiet (ev.with_site c after w)) (numbered_own w.clients c.0 after old there)

    goes : Steps (cl.client_step site.node.state (clock_of w (nodes.Client c)) input)
    goes = step_costs site.node.state (clock_of w (nodes.Client c)) input (subst (λ (m : cl.ClientNode). Few m.state) is.node (h.low.clients c old there))

-- a server's step
served : (n m : ℕ) (w : World) (s : ServerId) (input : ServerInput) (node : ServerNode) → node_of w s ≡ Some node → Before n m w →
    TheftsLow (n + 1) (ev.server_took w s (Ok (ServerSteps w s node input))).world → Behind n m (ev.server_took w s (Ok (ServerSteps w s node input))).world
unfolding ev.server_took
served n m w s input node there h thefts =
    let said = served_all s t.out (ev.quiet (ev.with_node s t.node w)) in
    let a = adds.commands in let b = adds.messages in let d = goes.waits in let e = goes.sends in let f = h.low.waits s node there in let g = h.messages in
    record {
      thefts = thefts;
      low = server_other n w v s node t.node there said.servers said.clients (omega (arith, d, f)) a h.low;
      messages = omega (arith, b, e, f, g);
    }
  where
    t : sv.NodeTurn
    t = ServerSteps w s node input

    v : World
    v = (ev.server_says_all s t.out (ev.quiet (ev.with_node s t.node w))).world

    adds : Adds t.out (ev.with_node s t.node w) v
    adds = adds_all s t.out (ev.quiet (ev.with_node s t.node w))

    goes : Serves node.state (sv.server_step node.state (clock_of w (nodes.Server s)) input)
    goes = step_serves node.state (clock_of w (nodes.Server s)) input (h.thefts.clients s node there)

-- A client that stopped or started has nothing.
crashed_few : (site : WorldClient) → Few site.node.state → Few (ev.stopped_site site).node.state
unfolding cl.crash
crashed_few site h =
    record {
      ops = omega arith;
      many = let z = length_map cl.crashed_association site.node.state.associations in let m = h.many in omega (arith, z, m);
      each = λ a i. let x = has_map cl.crashed_association site.node.state.associations a i in subst (λ (b : Association). length b.store.pages.dirty ≤ 64) (sym x.2) (omega arith);
    }

started_few : (site : WorldClient) → Few site.node.state → Few (ev.started_site site).node.state
unfolding cl.start
started_few site h =
    record {
      ops = omega arith;
      many = let z = length_map cl.started_association site.node.state.associations in let m = h.many in omega (arith, z, m);
      each = λ a i. let x = has_map cl.started_association site.node.state.associations a i in subst (λ (b : Association). length b.store.pages.dirty ≤ 64) (sym x.2) (omega arith);
    }

pub cases : (n m : ℕ) → Cases (Before n m) (Behind n m)
unfolding sv.crash sv.start sv.begin_epoch
cases n m =
    record {
      beside = λ w v b h.
          let e = b.messages in let f = h.messages in
          record { thefts = k.beside w v b h.thefts; low = low_same n n w v (omega arith) b.clients b.servers b.commands h.low; messages = e ∙ f };
      done = λ w h. let f = h.messages in record { thefts = k.done w h.thefts; low = low_same n (n + 1) w w (omega arith) refl refl refl h.low; messages = omega (arith, f) };
      client = λ w c input old site there is r h. took n m w c input old site there is h (k.client w c input old site there is r h.thefts);
      server = λ w s input node there r h. served n m w s input node there h (k.server w s input node there r h.thefts);
      crash = λ w c site es there l h.
          let f = h.messages in
          record {
            thefts = k.crash w c site es there l h.thefts;
            low = client_other n w (ev.with_log es (ev.with_site c (ev.stopped_site site) (ev.with_crashed_lives site w))) c site (ev.stopped_site site) there refl refl (crashed_few site (h.low.clients c site there)) (omega arith) h.low;
            messages = omega (arith, f);
          };
      start = λ w c site there h.
          let f = h.messages in
          record {
            thefts = k.start w c site there h.thefts;
            low = client_other n w (ev.with_site c (ev.started_site site) w) c site (ev.started_site site) there refl refl (started_few site (h.low.clients c site there)) (omega arith) h.low;
            messages = omega (arith, f);
          };
      stop = λ w s node there h.
          let f = h.messages in
          record {
            thefts = k.stop w s node there h.thefts;
            low = server_other n w (ev.with_node s (sv.crash_node node) w) s node (sv.crash_node node) there refl refl (omega arith) refl h.low;
            messages = omega (arith, f);
          };
      begin = λ w s node there h.
          let f = h.messages in
          let now = clock_of w (nodes.Server s) in
          record {
            thefts = k.begin w s node there h.thefts;
            low = server_other n w (ev.with_node s (sv.start_node node now) w) s node (sv.start_node node now) there refl refl (omega arith) refl h.low;
            messages = omega (arith, f);
          };
    }
  where
    k : Cases (TheftsLow n) (TheftsLow (n + 1))
    k = robbed.cases n

pub fresh_low : (k : Config) (clients servers d b form : ℕ) → servers ≤ 4 → Low 0 (fresh_world k clients servers d b form)
unfolding fresh_world cl.fresh_client sv.fresh_server
fresh_low k clients servers d b form few =
    record {
      clients = λ c site e.
          let x = has_map (fresh_site k servers) (numbers 1 clients) site (numbered_has _ c.0 site e) in
          subst (λ (y : WorldClient). Few y.node.state) (sym x.2) (one x.0);
      waits = λ s node e.
          let x = has_map (world.node_at_start k servers d b) (numbers 1 servers) node (numbered_has _ s.0 node e) in
          subst (λ (y : ServerNode). length y.state.locks.waiters ≤ 0) (sym x.2) (omega arith);
      commands = omega arith;
    }
  where
    one : (n : ℕ) → Few (fresh_site k servers n).node.state
    one n =
        record {
          ops = omega arith;
          many = let z = length_map cl.fresh_association (numbers 1 servers) in let y = numbers_length 1 servers in omega (arith, z, y, few);
          each = λ a i. let x = has_map cl.fresh_association (numbers 1 servers) a i in subst (λ (b : Association). length b.store.pages.dirty ≤ 64) (sym x.2) (omega arith);
        }
