-- Servers' counters are no further than events: after every event.
use Rattle.st_lemmas.proofs.Words
use Words.{◌≡◌, ◌≢◌, ◌⊎◌, ℕ, suc, ◌+◌, ◌*◌, ◌≤◌, List, [], ◌∷◌, Some, refl, sym, ap, ◌∙◌, subst, inl, inr, arith, leb-true, length, filter}
use Words.{nat_le, Config, BlockAt, ServerId, ServerInput, length-append}
use Words.nodes
use Words.Events as ev
use Words.Extents as extents
use Words.Extents.{numbers}
use Words.Names as names
use Words.Safety.{IsHead}
use Words.Server as sv
use Words.Server.{ServerNode}
use Words.World as world
use Words.World.{World, all_servers, clock_of, fresh_world, node_of, numbered, with_numbered}
use Words.Lists.{Has}
use Words.Lookups.{some_is}
use Words.Numbers.{numbered_below, numbered_has, numbered_other, numbered_own}
use Words.Tables.{and_true, has_map, same_or_not}
use Words.Lengths.{length_map, numbers_length}
use Words.Tests.{filtered_no_longer}
use Rattle.std.proofs.lemmas.Nat.{mul-le}
use Rattle.std.specs.Prelude.{flat_map}
use Rattle.st_laws_bounds.proofs.Counters.Events.{Cases, ClientSteps, ServerSteps}
use Rattle.st_laws_bounds.proofs.Counters.Clients.{flush_rows, served_all}
use Rattle.st_trace.proofs.Server.Growth.{step_grows}
use Rattle.st_laws_bounds.proofs.Counters.Tallies.{told_all}

-- what holds of a server when there were n events
pub record NodeLow (n : ℕ) (node : ServerNode) : Type 0 where
  pub epochs : node.state.stable.epoch.0 ≤ n + 1
  pub inodes : node.state.stable.names.next ≤ n + 10
  pub births : node.state.stable.extents.births ≤ 32768 * n
  pub blocks : length (extents.own_blocks node.state.stable.extents) ≤ 32768

abbrev pub NodesLow : ℕ → World → Type 0
NodesLow n w = (s : ServerId) (node : ServerNode) → node_of w s ≡ Some node → NodeLow n node

later : (n : ℕ) (node : ServerNode) → NodeLow n node → NodeLow (n + 1) node
later n node h = let x = h.epochs in let y = h.inodes in let z = h.births in record { epochs = omega (arith, x); inodes = omega (arith, y); births = omega (arith, z); blocks = h.blocks }

same_nodes : (n : ℕ) (w v : World) → v.servers ≡ w.servers → NodesLow n w → NodesLow n v
same_nodes n w v e h s node f = h s node (ap (λ zs. numbered zs s.0) (sym e) ∙ f)

later_nodes : (n : ℕ) (w : World) → NodesLow n w → NodesLow (n + 1) w
later_nodes n w h s node f = later n node (h s node f)

-- one server is replaced
replaced : (n : ℕ) (w v : World) (s : ServerId) (old new : ServerNode) → node_of w s ≡ Some old → v.servers ≡ with_numbered s.0 new w.servers → NodeLow (n + 1) new → NodesLow n w → NodesLow (n + 1) v
replaced n w v s old new there ss own h d node e = go (same_or_not d.0 s.0)
  where
    go : (d.0 ≡ s.0) ⊎ (d.0 ≢ s.0) → NodeLow (n + 1) node
    go (inl i) =
        let z : new ≡ node = some_is (sym (numbered_own w.servers s.0 new old there) ∙ ap (numbered (with_numbered s.0 new w.servers)) (sym i) ∙ ap (λ zs. numbered zs d.0) (sym ss) ∙ e) in
        subst (NodeLow (n + 1)) z own
    go (inr x) = later n node (h d node (sym (numbered_other w.servers s.0 d.0 new (numbered_below w.servers s.0 old there).0 x) ∙ ap (λ zs. numbered zs d.0) (sym ss) ∙ e))

stepped : (n : ℕ) (w : World) (s : ServerId) (input : ServerInput) (node : ServerNode) → NodeLow n node → NodeLow (n + 1) (ServerSteps w s node input).node
stepped n w s input node h =
    let g = step_grows node.state (clock_of w (nodes.Server s)) input in
    let x = h.epochs in let y = h.inodes in let z = h.births in let a = ap (λ (e : Rattle.st_base.specs.declared.ids.Epoch.Epoch). e.0) g.epoch in let b = g.inodes in let c = g.placed in let d = h.blocks in
    record { epochs = omega (arith, x, a); inodes = omega (arith, y, b); births = omega (arith, z, c, d); blocks = subst (λ (bs : List BlockAt). length bs ≤ 32768) (sym g.blocks) h.blocks }

pub cases : (n : ℕ) → Cases (NodesLow n) (NodesLow (n + 1))
unfolding ev.client_took ev.server_took sv.crash sv.start sv.begin_epoch
cases n =
    record {
      beside = λ w v b h. same_nodes n w v b.servers h;
      done = λ w h. later_nodes n w h;
      client = λ w c input old site there is r h.
          let t = ClientSteps w c site input in
          let sc = ev.client_says_all c site.node.state t.out (ev.quiet (ev.with_site c (ev.at_node t.node site) w)) in
          let v = ev.flushes c t.node.state (all_servers sc.world) sc.world in
          later_nodes n v (same_nodes n w v ((flush_rows c t.node.state (all_servers sc.world) sc.world).servers ∙ (told_all c site.node.state t.out (ev.quiet (ev.with_site c (ev.at_node t.node site) w))).servers) h);
      server = λ w s input node there r h.
          let t = ServerSteps w s node input in
          replaced n w (ev.server_says_all s t.out (ev.quiet (ev.with_node s t.node w))).world s node t.node there (served_all s t.out (ev.quiet (ev.with_node s t.node w))).servers (stepped n w s input node (h s node there)) h;
      crash = λ w c site es there l h s node e. later n node (h s node e);
      start = λ w c site there h s node e. later n node (h s node e);
      stop = λ w s node there h.
          let z = later n node (h s node there) in
          replaced n w (ev.with_node s (sv.crash_node node) w) s node (sv.crash_node node) there refl (record { epochs = z.epochs; inodes = z.inodes; births = z.births; blocks = z.blocks }) h;
      begin = λ w s node there h.
          let z = later n node (h s node there) in
          let x = (h s node there).epochs in
          replaced n w (ev.with_node s (sv.start_node node (clock_of w (nodes.Server s))) w) s node (sv.start_node node (clock_of w (nodes.Server s))) there refl
          (record { epochs = omega (arith, x); inodes = z.inodes; births = z.births; blocks = z.blocks }) h;
    }

pub flat_many : {A B : Type 0} (f : A → List B) (n : ℕ) → ((x : A) → length (f x) ≤ n) → (xs : List A) → length (flat_map f xs) ≤ n * length xs
flat_many f n h [] = omega arith
flat_many f n h (x ∷ xs) =
    let a = length-append (f x) (flat_map f xs) in let b = h x in let c = flat_many f n h xs in
    let d : n * length (x ∷ xs) ≡ n + n * length xs = more_by_one n (length xs) in
    omega (arith, a, b, c, d)
  where
    more_by_one : (m k : ℕ) → m * suc k ≡ m + m * k
    more_by_one m k = grind arith

few_blocks : (id : ServerId) (servers disks blocks : ℕ) → disks ≤ 8 → blocks ≤ 4096 → length (extents.own_blocks (extents.no_extents id servers disks blocks)) ≤ 32768
unfolding extents.own_blocks
few_blocks id servers disks blocks d b = total (flat_many (extents.blocks_of x) blocks (λ p. one p) (filter (extents.is_own_disk x) (numbers 0 disks))) (filtered_no_longer (extents.is_own_disk x) (numbers 0 disks)) (numbers_length 0 disks)
  where
    x : extents.Extents
    x = extents.no_extents id servers disks blocks

    one : (p : ℕ) → length (extents.blocks_of x p) ≤ blocks
    one p = let a = length_map (extents.block_at p) (numbers 0 blocks) in let c = numbers_length 0 blocks in omega (arith, a, c)

    total : {l m n : ℕ} → l ≤ blocks * m → m ≤ n → n ≡ disks → l ≤ 32768
    total {l} {m} {n} e f g =
        let s = mul-le blocks m 4096 8 b (let z : m ≤ 8 = omega (arith, f, g, d) in z) in omega (arith, e, s)

-- the world of a head
pub fresh_low : (k : Config) (clients servers d b form : ℕ) → IsHead k clients servers d b form → NodesLow 0 (fresh_world k clients servers d b form)
unfolding fresh_world sv.fresh_server names.fresh_names
fresh_low k clients servers d b form head s node e = subst (NodeLow 0) (sym is.2) (record { epochs = omega arith; inodes = omega arith; births = omega arith; blocks = few_blocks _ servers d b disks blocks })
  where
    is : (x : ℕ) × Has x (numbers 1 servers) × (node ≡ world.node_at_start k servers d b x)
    is = has_map (world.node_at_start k servers d b) (numbers 1 servers) node (numbered_has _ s.0 node e)

    disks : d ≤ 8
    disks = leb-true d 8 (and_true (nat_le servers d) (nat_le d 8) head.enough_disks).1

    blocks : b ≤ 4096
    blocks = leb-true b 4096 (and_true (nat_le 1 b) (nat_le b 4096) head.some_blocks).1
