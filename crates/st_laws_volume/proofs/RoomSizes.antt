-- In every run the volume has room for as many pages of a server as the server has blocks.
use Rattle.st_lemmas.proofs.Words
use Words.{◌≡◌, ◌⊎◌, ℕ, zero, suc, pred, ◌+◌, ◌*◌, ◌%◌, ◌≤◌, ◌<◌, arith, Bool, true, false, ◌==◌, List, [], ◌∷◌, ◌++◌, length, map, filter, Option, Some, None, Ok, refl, sym, ap, ◌∙◌, subst, inl, inr}
use Words.{if◌then◌else◌, length-append, option_map, slice_get, BlockAt, Config, ServerId, Stamp, ServerInput}
use Words.Events.{WorldTurn}
use Words.Extents as extents
use Words.Extents.{Extents, numbers}
use Words.History.{Traced, traced}
use Words.Lengths.{length_map, numbers_length}
use Words.Lists.{Has}
use Words.Members.{numbers_between}
use Words.Numbers.{get_map}
use Words.Safety.{Step, step}
use Words.Server as sv
use Words.Server.{ServerNode, ServerState, Stable}
use Words.Tables.{has_map}
use Words.World as world
use Words.World.{World, fresh_world, server}
use Rattle.std.specs.Prelude.{flat_map}
use Rattle.st_lemmas.proofs.Steps.{step_happens}
use Rattle.st_trace.proofs.Server.Growth.{step_grows}
use Rattle.st_laws_volume.specs.Options.{OnSome}
use Rattle.st_laws_volume.specs.TreeNames.{IsSound}
use Rattle.st_laws_volume.specs.VolumeRuns.{is_disk_of, size_of}
use Rattle.st_laws_volume.specs.Witness.{Witness, begun, if_told, led_by, steps_of, volume_after}
use Rattle.st_laws_volume.proofs.Carried.{IsKept}
use Rattle.st_laws_volume.proofs.LogLines.{numbered_suc, suc_is}
use Rattle.st_laws_volume.proofs.Options.{on_if, on_more, on_then}
use Rattle.st_laws_volume.proofs.ServerFolds.{event_has}
use Rattle.st_laws_volume.proofs.Trees.{Nothing, TreesHold, trees_begin, trees_kept}
use Rattle.st_laws_volume.proofs.VolumeSizes.{SameSizes, run_sizes}
use Rattle.st_volume.specs.Volume as volume
use Rattle.st_volume.specs.Volume.{Volume, run}

-- How many blocks a server has: as many on each of its disks
flat_all : {A B : Type 0} (f : A → List B) (n : ℕ) → ((x : A) → length (f x) ≡ n) → (xs : List A) → length (flat_map f xs) ≡ n * length xs
flat_all f n h [] = omega arith
flat_all f n h (x ∷ xs) =
    let a = length-append (f x) (flat_map f xs) in
    let b = h x in
    let c = flat_all f n h xs in
    let d : n * length (x ∷ xs) ≡ n + n * length xs = more_by_one n (length xs) in
    omega (arith, a, b, c, d)
  where
    more_by_one : (m k : ℕ) → m * suc k ≡ m + m * k
    more_by_one m k = grind arith

shifted : (p q : ℕ → Bool) → ((k : ℕ) → p (k + 1) ≡ q k) → (a n : ℕ) → length (filter p (numbers (a + 1) n)) ≡ length (filter q (numbers a n))
unfolding numbers
shifted p q h a zero = refl
shifted p q h a (suc n) = go (p (a + 1)) (q a) (h a) (shifted p q h (a + 1) n)
  where
    go : (b c : Bool) → b ≡ c → length (filter p (numbers (a + 1 + 1) n)) ≡ length (filter q (numbers (a + 1) n)) →
        length (if b then (a + 1) ∷ filter p (numbers (a + 1 + 1) n) else filter p (numbers (a + 1 + 1) n))
        ≡ length (if c then a ∷ filter q (numbers (a + 1) n) else filter q (numbers (a + 1) n))
    go true true e z = ap suc z
    go false false e z = z
    go true false e z = cc e
    go false true e z = cc e

size_is : (k : Config) (clients servers disks blocks form : ℕ) (s : ServerId) →
    size_of (fresh_world k clients servers disks blocks form) s ≡ length (extents.own_blocks (extents.no_extents s servers disks blocks))
unfolding fresh_world extents.own_blocks
size_is k clients servers disks blocks form s =
    ap (λ n. blocks * n) (shifted (is_disk_of w s) (extents.is_own_disk x) same 0 disks)
    ∙ sym (flat_all (extents.blocks_of x) blocks one (filter (extents.is_own_disk x) (numbers 0 disks)))
  where
    w : World
    w = fresh_world k clients servers disks blocks form

    x : Extents
    x = extents.no_extents s servers disks blocks

    counted : length (map (world.node_at_start k servers disks blocks) (numbers 1 servers)) ≡ servers
    counted = length_map (world.node_at_start k servers disks blocks) (numbers 1 servers) ∙ numbers_length 1 servers

    same : (p : ℕ) → is_disk_of w s (p + 1) ≡ extents.is_own_disk x p
    same p =
        ap (λ m. m % length (map (world.node_at_start k servers disks blocks) (numbers 1 servers)) + 1 == s.0) (ap pred (suc_is p))
        ∙ ap (λ n. p % n + 1 == s.0) counted

    one : (p : ℕ) → length (extents.blocks_of x p) ≡ blocks
    one p = length_map (extents.block_at p) (numbers 0 blocks) ∙ numbers_length 0 blocks

-- The sizes by the numbers of the servers
get_number : (a m j : ℕ) → j < m → slice_get (numbers a m) j ≡ Some (a + j)
unfolding numbers
get_number a zero j l = absurd (omega (arith, l))
get_number a (suc m) zero l = let e : a ≡ a + 0 = omega arith in ap (λ (k : ℕ). Some k) e
get_number a (suc m) (suc j) l = let e : a + 1 + j ≡ a + suc j = omega arith in get_number (a + 1) m j (omega (arith, l)) ∙ ap (λ (k : ℕ). Some k) e

sized_at : (f : ServerId → ℕ) (m n : ℕ) → 1 ≤ n → n < 1 + m → volume.numbered (map f (map server (numbers 1 m))) n ≡ Some (f (server n))
sized_at f m zero l h = absurd (omega (arith, l))
sized_at f m (suc j) l h =
    let e : 1 + j ≡ suc j = omega arith in
    numbered_suc (map f (map server (numbers 1 m))) j
    ∙ (get_map f (map server (numbers 1 m)) j
    ∙ ap (option_map f)
    (get_map server (numbers 1 m) j ∙ ap (option_map server) (get_number 1 m j (omega (arith, h)) ∙ ap (λ (k : ℕ). Some k) e)))

-- A server's part that a crash keeps
abbrev pub Sized : List ℕ → ServerId → Stable → Type 0
Sized sizes s y = volume.numbered sizes s.0 ≡ Some (length (extents.own_blocks y.extents))

step_sized : (sizes : List ℕ) (n : ServerState) (now : Stamp) (i : ServerInput) → IsSound n.stable.names → Sized sizes n.id n.stable →
    Sized sizes n.id (sv.server_step n now i).state.stable
step_sized sizes n now i sound h = h ∙ ap (λ (bs : List BlockAt). Some (length bs)) (sym (step_grows n now i).blocks)

sized_alike : (sizes : List ℕ) (s : ServerId) (y z : Stable) → z.names ≡ y.names → z.extents ≡ y.extents → Sized sizes s y → Sized sizes s z
sized_alike sizes s y z n x h = subst (λ (e : Extents). volume.numbered sizes s.0 ≡ Some (length (extents.own_blocks e))) (sym x) h

-- What is carried.
pub record SizesHold (sizes : List ℕ) (past : List Step) (t : Traced) (it : Witness) : Type 0 where
  pub trees : TreesHold past t it
  pub sized : (node : ServerNode) → Has node t.world.servers → Sized sizes node.state.id node.state.stable
  pub same : OnSome (λ v. v.sizes ≡ sizes) it.volume

after_same : (sizes : List ℕ) (it : Witness) (x : Step) (o : Option Volume) → OnSome (λ v. v.sizes ≡ sizes) o →
    OnSome (λ v. v.sizes ≡ sizes) (volume_after it x o)
after_same sizes it x None h = tt
after_same sizes it x (Some v) h =
    on_then P if_told (run (steps_of it v x) v)
    (on_more P (λ u. OnSome P (if_told u)) (λ u k. on_if P (u.lines == length u.log) (Some u) k) (run (steps_of it v x) v)
    (on_more (SameSizes v) P (λ u k. k ∙ h) (run (steps_of it v x) v) (run_sizes (steps_of it v x) v)))
  where
    P : Volume → Type 0
    P v = v.sizes ≡ sizes

pub sizes_kept : (sizes : List ℕ) → IsKept Nothing (SizesHold sizes)
unfolding led_by
sizes_kept sizes past t e sc it f g h =
    record {
      trees = trees_kept past t e sc it f g h.trees;
      sized =
          subst (λ (z : WorldTurn). (node : ServerNode) → Has node z.world.servers → Sized sizes node.state.id node.state.stable)
          (sym (step_happens t.world e sc f).1)
          (event_has (Sized sizes) (sized_alike sizes) (step_sized sizes) t.world h.trees.sound h.sized e);
      same = after_same sizes it (step t e sc) it.volume h.same;
    }

abbrev pub sizes_of : Config → ℕ → ℕ → ℕ → ℕ → ℕ → List ℕ
sizes_of k clients servers disks blocks form =
    let w = fresh_world k clients servers disks blocks form in map (size_of w) (world.all_servers w)

pub sizes_begin : (k : Config) (clients servers disks blocks form : ℕ) →
    SizesHold (sizes_of k clients servers disks blocks form) [] (traced (fresh_world k clients servers disks blocks form))
    (begun (fresh_world k clients servers disks blocks form) (fresh_world k clients servers disks blocks form))
unfolding fresh_world sv.fresh_server begun
sizes_begin k clients servers disks blocks form =
    record {
      trees = trees_begin k clients servers disks blocks form;
      sized =
          λ node i.
          let z = has_map (world.node_at_start k servers disks blocks) (numbers 1 servers) node i in
          subst (λ (n : ServerNode). Sized (sizes_of k clients servers disks blocks form) n.state.id n.state.stable) (sym z.2) (at z.0 z.1);
      same = refl;
    }
  where
    f : ServerId → ℕ
    f = size_of (fresh_world k clients servers disks blocks form)

    counted : length (map (world.node_at_start k servers disks blocks) (numbers 1 servers)) ≡ servers
    counted = length_map (world.node_at_start k servers disks blocks) (numbers 1 servers) ∙ numbers_length 1 servers

    at : (n : ℕ) → Has n (numbers 1 servers) →
        volume.numbered (map f (map server (numbers 1 (length (map (world.node_at_start k servers disks blocks) (numbers 1 servers)))))) n
        ≡ Some (length (extents.own_blocks (extents.no_extents (server n) servers disks blocks)))
    at n i =
        let z = numbers_between 1 servers n i in
        ap (λ m. volume.numbered (map f (map server (numbers 1 m))) n) counted
        ∙ (sized_at f servers n z.0 z.1 ∙ ap (λ (j : ℕ). Some j) (size_is k clients servers disks blocks form (server n)))
