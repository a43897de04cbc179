-- The law in the world: a step of a server, its crash and its start.
use Rattle.st_lemmas.proofs.Words
use Words.{◌≡◌, ℕ, ◌+◌, ◌≤◌, ◌%◌, Bool, true, false, ◌&&◌, List, [], ◌∷◌, ◌++◌, ◌==◌, Option, Some, None, Ok, refl, sym, ap, ◌∙◌, subst, inl, inr, arith}
use Words.{if◌then◌else◌, nat_le, length, map, filter, find, suc, zero, slice_get, set, pred, list_any, eqb-true, eq-eqb, ServerId, FileId, PageNo, BlockAt}
use Words.{Tag, Note, Output, Block, Extent, LogEntry, IssuedCommand}
use Words.notes
use Words.outputs
use Words.Keys.{same_server, same_file, same_block}
use Words.FlatLog as log
use Words.FlatLog.{touches, hard_cut}
use Words.Extents as extents
use Words.Extents.{Extents}
use Words.Server as server
use Words.World as world
use Words.Server.{ServerNode}
use Words.World.{World, node_of, numbered, server_of_disk}
use Words.Admissible as adm
use Words.Events as ev
use Words.Events.{WorldTurn, server_says, server_says_all}
use Words.Lookups.{if_true, if_false, some_is, or_false}
use Words.Numbers.{set_other, set_length}
use Words.Tables.{find_before, and_true, and_both, not_true}
use Words.Truth.{block_is, file_is, file_self, not_both}
use Rattle.std.specs.Prelude.{flat_map}
use Rattle.st_laws_pages.specs.Disks.Pages.{ExtentsOf, LivingOf, PagesAreKept, same_place}
use Rattle.st_laws_pages.specs.Disks.World.{Living, Timely, CommandsHold, ExtentsHold, HoldsBy, PagesHold, mapped_at, mapped_in, births_at, births_in, block_in}
use Rattle.st_laws_pages.specs.Disks.World.{NoCut, NoCuts, OneCut, ExtentsMove, Stays, Maps, Cuts, CutQuiet}
use Rattle.st_laws_pages.proofs.Disks.Law.{placed, more_cut, same_place_is, self_place, turn_place}
use Rattle.st_lemmas.proofs.Contents.{find_cut, find_stays, find_end}
use Rattle.st_laws_pages.proofs.Disks.Moves.{later, commands_more}
use Rattle.st_laws_pages.proofs.Disks.Clients.{done_of_more}

-- Nodes by number.
numbered_own : {A : Type 0} (xs : List A) (k : ℕ) (x y : A) → numbered xs k ≡ Some y → numbered (set xs (pred k) x) k ≡ Some x
numbered_own xs zero x y e = cc
numbered_own {A} xs (suc k) x y e = go xs k e
  where
    go : (xs : List A) (k : ℕ) → slice_get xs k ≡ Some y → slice_get (set xs k x) k ≡ Some x
    go [] k e = cc
    go (u ∷ us) zero e = refl
    go (u ∷ us) (suc k) e = go us k e

pub numbered_other : {A : Type 0} (xs : List A) (k j : ℕ) (x y : A) → numbered xs k ≡ Some y → (j == k) ≡ false → numbered (set xs (pred k) x) j ≡ numbered xs j
numbered_other xs zero j x y e n = cc
numbered_other xs (suc k) zero x y e n = refl
numbered_other xs (suc k) (suc j) x y e n = set_other xs k j x (λ q. not_both (suc j == suc k) (eq-eqb (suc j) (suc k) (ap suc q)) n)

-- The look-ups with these extents at a server.
mapped_with : World → ServerId → Extents → ExtentsOf
mapped_with w s x f p = if same_server f.server s then extents.extent_of x f p else mapped_in w f p

births_with : World → ServerId → Extents → ServerId → ℕ
births_with w s x t = if same_server t s then x.births else births_in w t

server_is : (s t : ServerId) → same_server s t ≡ true → s ≡ t
server_is s t e = ap (λ n. record { 0 = n }) (eqb-true s.0 t.0 e)

pub self_server : (s : ServerId) → same_server s s ≡ true
self_server s = eq-eqb s.0 s.0 refl

now_mapped : (w : World) (s : ServerId) (node : ServerNode) → node_of w s ≡ Some node → (f : FileId) (p : PageNo) → mapped_with w s node.state.stable.extents f p ≡ mapped_in w f p
unfolding mapped_with
now_mapped w s node e f p = go (same_server f.server s) refl
  where
    go : (b : Bool) → same_server f.server s ≡ b → (if b then extents.extent_of node.state.stable.extents f p else mapped_in w f p) ≡ mapped_in w f p
    go true q = ap (mapped_at f p) (sym e) ∙ ap (λ t. mapped_at f p (node_of w t)) (sym (server_is f.server s q))
    go false q = refl

now_births : (w : World) (s : ServerId) (node : ServerNode) → node_of w s ≡ Some node → (t : ServerId) → births_with w s node.state.stable.extents t ≡ births_in w t
unfolding births_with
now_births w s node e t = go (same_server t s) refl
  where
    go : (b : Bool) → same_server t s ≡ b → (if b then node.state.stable.extents.births else births_in w t) ≡ births_in w t
    go true q = ap births_at (sym e) ∙ ap (λ u. births_at (node_of w u)) (sym (server_is t s q))
    go false q = refl

then_mapped : (w : World) (s : ServerId) (node n : ServerNode) → node_of w s ≡ Some node → (f : FileId) (p : PageNo) → mapped_in (ev.with_node s n w) f p ≡ mapped_with w s n.state.stable.extents f p
unfolding mapped_with
then_mapped w s node n e f p = go (same_server f.server s) refl
  where
    go : (b : Bool) → same_server f.server s ≡ b → mapped_in (ev.with_node s n w) f p ≡ (if b then extents.extent_of n.state.stable.extents f p else mapped_in w f p)
    go true q = ap (λ t. mapped_at f p (node_of (ev.with_node s n w) t)) (server_is f.server s q) ∙ ap (mapped_at f p) (numbered_own w.servers s.0 n node e)
    go false q = ap (mapped_at f p) (numbered_other w.servers s.0 f.server.0 n node e q)

then_births : (w : World) (s : ServerId) (node n : ServerNode) → node_of w s ≡ Some node → (t : ServerId) → births_in (ev.with_node s n w) t ≡ births_with w s n.state.stable.extents t
unfolding births_with
then_births w s node n e t = go (same_server t s) refl
  where
    go : (b : Bool) → same_server t s ≡ b → births_in (ev.with_node s n w) t ≡ (if b then n.state.stable.extents.births else births_in w t)
    go true q = ap (λ u. births_at (node_of (ev.with_node s n w) u)) (server_is t s q) ∙ ap births_at (numbered_own w.servers s.0 n node e)
    go false q = ap births_at (numbered_other w.servers s.0 t.0 n node e q)

-- What holds of a server's extents beside the other servers'.
record ServerPages (w : World) (s : ServerId) (es : List LogEntry) (L : LivingOf) (x : Extents) : Type 0 where
  pub pages : PagesAreKept es (mapped_with w s x) (block_in w) (births_with w s x) L
  pub lies : (f : FileId) (p : PageNo) (e : Extent) → same_server f.server s ≡ true → extents.extent_of x f p ≡ Some e → server_of_disk w e.at ≡ s
  pub server : x.server ≡ s
  pub servers : x.servers ≡ length w.servers

server_begins : (w : World) (s : ServerId) (node : ServerNode) (L : LivingOf) → node_of w s ≡ Some node → ExtentsHold w → PagesAreKept w.log (mapped_in w) (block_in w) (births_in w) L → ServerPages w s w.log L node.state.stable.extents
server_begins w s node L e x h =
    record {
      pages = subst (λ (m : ExtentsOf). PagesAreKept w.log m (block_in w) (births_with w s node.state.stable.extents) L) (λ j f p. sym (now_mapped w s node e f p) j)
          (subst (λ (n : ServerId → ℕ). PagesAreKept w.log (mapped_in w) (block_in w) n L) (λ j t. sym (now_births w s node e t) j) h);
      lies = λ f p d q u. x.lies f p d (ap (λ t. mapped_at f p (node_of w t)) (server_is f.server s q) ∙ ap (mapped_at f p) e ∙ u) ∙ server_is f.server s q;
      server = (x.settings s node e).0;
      servers = (x.settings s node e).1;
    }

server_ends : (w : World) (s : ServerId) (node n : ServerNode) (es : List LogEntry) (L : LivingOf) → node_of w s ≡ Some node → ServerPages w s es L n.state.stable.extents → PagesAreKept es (mapped_in (ev.with_node s n w)) (block_in w) (births_in (ev.with_node s n w)) L
server_ends w s node n es L e h =
    subst (λ (m : ExtentsOf). PagesAreKept es m (block_in w) (births_in (ev.with_node s n w)) L) (λ j f p. sym (then_mapped w s node n e f p) j)
    (subst (λ (b : ServerId → ℕ). PagesAreKept es (mapped_with w s n.state.stable.extents) (block_in w) b L) (λ j t. sym (then_births w s node n e t) j) h.pages)

extents_end : (w : World) (s : ServerId) (node n : ServerNode) (es : List LogEntry) (L : LivingOf) → node_of w s ≡ Some node → n.state.id ≡ s → ExtentsHold w → ServerPages w s es L n.state.stable.extents → ExtentsHold (ev.with_node s n w)
unfolding mapped_with
extents_end w s node n es L e i x h =
    record {
      settings = λ t m q. setting t m (same_server t s) refl q;
      ids = λ t m q. its t m (same_server t s) refl q;
      lies = λ f p d q. lying f p d (same_server f.server s) refl q;
    }
  where
    v : World
    v = ev.with_node s n w

    lengths : length v.servers ≡ length w.servers
    lengths = set_length w.servers (pred s.0) n

    setting : (t : ServerId) (m : ServerNode) (b : Bool) → same_server t s ≡ b → node_of v t ≡ Some m → (m.state.stable.extents.server ≡ t) × (m.state.stable.extents.servers ≡ length v.servers)
    setting t m true b q =
        let y : m ≡ n = some_is (sym q ∙ ap (λ u. node_of v u) (server_is t s b) ∙ numbered_own w.servers s.0 n node e) in
        (ap (λ (z : ServerNode). z.state.stable.extents.server) y ∙ h.server ∙ sym (server_is t s b), ap (λ (z : ServerNode). z.state.stable.extents.servers) y ∙ h.servers ∙ sym lengths)
    setting t m false b q = let y = x.settings t m (sym (numbered_other w.servers s.0 t.0 n node e b) ∙ q) in (y.0, y.1 ∙ sym lengths)

    its : (t : ServerId) (m : ServerNode) (b : Bool) → same_server t s ≡ b → node_of v t ≡ Some m → m.state.id ≡ t
    its t m true b q = ap (λ (z : ServerNode). z.state.id) (some_is (sym q ∙ ap (λ u. node_of v u) (server_is t s b) ∙ numbered_own w.servers s.0 n node e)) ∙ i ∙ sym (server_is t s b)
    its t m false b q = x.ids t m (sym (numbered_other w.servers s.0 t.0 n node e b) ∙ q)

    same_disk : (at : BlockAt) → server_of_disk v at ≡ server_of_disk w at
    same_disk at = ap (λ k. world.server (pred at.disk.0 % k + 1)) lengths

    lying : (f : FileId) (p : PageNo) (d : Extent) (b : Bool) → same_server f.server s ≡ b → mapped_in v f p ≡ Some d → server_of_disk v d.at ≡ f.server
    lying f p d b c q = same_disk d.at ∙ go b c (sym (then_mapped w s node n e f p) ∙ q)
      where
        go : (b : Bool) → same_server f.server s ≡ b → mapped_with w s n.state.stable.extents f p ≡ Some d → server_of_disk w d.at ≡ f.server
        go true c q = h.lies f p d c (sym (if_true (same_server f.server s) _ (mapped_in w f p) c) ∙ q) ∙ sym (server_is f.server s c)
        go false c q = x.lies f p d (sym (if_false (same_server f.server s) (extents.extent_of n.state.stable.extents f p) (mapped_in w f p) c) ∙ q)

-- Lists.
abbrev pub All : {A : Type 0} → (A → Type 0) → List A → Type 0
All P [] = Unit {0}
All P (x ∷ xs) = record { one : P x; rest : All P xs }

all_both : {A : Type 0} (P : A → Type 0) (xs ys : List A) → All P xs → All P ys → All P (xs ++ ys)
all_both P [] ys a b = b
all_both P (x ∷ xs) ys a b = record { one = a.one; rest = all_both P xs ys a.rest b }

all_filter : {A : Type 0} (P : A → Type 0) (q : A → Bool) (xs : List A) → All P xs → All (λ x. P x × (q x ≡ true)) (filter q xs)
all_filter P q [] a = record {}
all_filter {A} P q (x ∷ xs) a = go (q x) refl (all_filter P q xs a.rest)
  where
    go : (b : Bool) → q x ≡ b → All (λ x. P x × (q x ≡ true)) (filter q xs) → All (λ x. P x × (q x ≡ true)) (if b then x ∷ filter q xs else filter q xs)
    go true e r = record { one = (a.one, e); rest = r }
    go false e r = r

all_any : {A : Type 0} (xs : List A) → All (λ x. Unit {0}) xs
all_any [] = record {}
all_any (x ∷ xs) = record { one = record {}; rest = all_any xs }

all_flat : {A B : Type 0} (P : B → Type 0) (Q : A → Type 0) (f : A → List B) → ((a : A) → Q a → All P (f a)) → (xs : List A) → All Q xs → All P (flat_map f xs)
all_flat P Q f g [] a = record {}
all_flat P Q f g (x ∷ xs) a = all_both P (f x) (flat_map f xs) (g x a.one) (all_flat P Q f g xs a.rest)

all_map : {A B : Type 0} (P : B → Type 0) (f : A → B) → ((a : A) → P (f a)) → (xs : List A) → All P (map f xs)
all_map P f g [] = record {}
all_map P f g (x ∷ xs) = record { one = g x; rest = all_map P f g xs }

found_not : {A : Type 0} (p q : A → Bool) (xs : List A) (v : A) → find p xs ≡ Some v → list_any q xs ≡ false → q v ≡ false
found_not p q [] v e n = cc
found_not {A} p q (x ∷ xs) v e n = let m = or_false (q x) (list_any q xs) n in go (p x) e m.0 (λ u. found_not p q xs v u m.1)
  where
    go : (b : Bool) → (if b then Some x else find p xs) ≡ Some v → q x ≡ false → (find p xs ≡ Some v → q v ≡ false) → q v ≡ false
    go true e c r = ap q (sym (some_is e)) ∙ c
    go false e c r = r e

-- The free blocks lie on the server's own disks.
own_free : (x : Extents) → All (λ b. (pred b.disk.0 % x.servers + 1 ≡ x.server.0) × (extents.is_free x b ≡ true)) (extents.free_blocks x)
unfolding extents.free_blocks extents.own_blocks
own_free x = all_filter (λ (b : BlockAt). pred b.disk.0 % x.servers + 1 ≡ x.server.0) (extents.is_free x) _ (all_flat (λ (b : BlockAt). pred b.disk.0 % x.servers + 1 ≡ x.server.0) (λ a. Unit {0} × (extents.is_own_disk x a ≡ true)) (extents.blocks_of x) (λ a q. on a q.1) _
    (all_filter (λ a. Unit {0}) (extents.is_own_disk x) (extents.numbers 0 x.disks) (all_any (extents.numbers 0 x.disks))))
  where
    on : (a : ℕ) → extents.is_own_disk x a ≡ true → All (λ (b : BlockAt). pred b.disk.0 % x.servers + 1 ≡ x.server.0) (extents.blocks_of x a)
    on a e = all_map (λ (b : BlockAt). pred b.disk.0 % x.servers + 1 ≡ x.server.0) (extents.block_at a) (λ n. ap (λ m. pred m % x.servers + 1) (let z : a + 1 ≡ suc a = omega arith in z) ∙ eqb-true (a % x.servers + 1) x.server.0 e) (extents.numbers 0 x.blocks)

-- One more page is mapped.
extent_own : (x : Extents) (e : Extent) (f : FileId) (p : PageNo) → extents.extent_of x f p ≡ None → extents.is_extent_of f p e ≡ true → extents.extent_of (extents.with_extent e x) f p ≡ Some e
extent_own x e f p n i = find_end (extents.is_extent_of f p) e x.rows i n

extent_other : (x : Extents) (e : Extent) (f : FileId) (p : PageNo) → extents.is_extent_of f p e ≡ false → extents.extent_of (extents.with_extent e x) f p ≡ extents.extent_of x f p
extent_other x e f p i = find_before (extents.is_extent_of f p) e x.rows i

find_kept : {A : Type 0} (p : A → Bool) (v u : A) (xs : List A) → find p xs ≡ Some u → find p (xs ++ v ∷ []) ≡ Some u
find_kept p v u [] e = cc
find_kept {A} p v u (x ∷ xs) e = go (p x) e (find_kept p v u xs)
  where
    go : (b : Bool) → (if b then Some x else find p xs) ≡ Some u → (find p xs ≡ Some u → find p (xs ++ v ∷ []) ≡ Some u) → (if b then Some x else find p (xs ++ v ∷ [])) ≡ Some u
    go true e f = e
    go false e f = f e

-- births only rise
births_rise : (es : List LogEntry) (m : ExtentsOf) (b : BlockAt → Block) (n u : ServerId → ℕ) (L : LivingOf) → ((s : ServerId) → n s ≤ u s) → PagesAreKept es m b n L → PagesAreKept es m b u L
births_rise es m b n u L r h =
    record {
      stands = h.stands;
      carry = h.carry;
      one = h.one;
      apart = h.apart;
      below = λ f p e q. let y = h.below f p e q in let z = r f.server in omega (arith, y, z);
      tags = λ at. let y = h.tags at in let z = r (b at).tag.file.server in omega (arith, y, z);
      cuts = h.cuts;
    }

place_one : (w : World) (s : ServerId) (es : List LogEntry) (L : LivingOf) (x : Extents) (f : FileId) (p : PageNo) (b : BlockAt) → f.server ≡ s → server_of_disk w b ≡ s → extents.is_free x b ≡ true →
    ((g : FileId) (q : PageNo) (e : Extent) → mapped_in w g q ≡ Some e → server_of_disk w e.at ≡ g.server) → ServerPages w s es L x → ServerPages w s es L (extents.with_extent (extents.new_extent x f p b) x)
unfolding mapped_with births_with
place_one w s es L x f p b own disk free lies h =
    record {
      pages = go (extents.extent_of x f p) refl;
      lies = λ g q e i u. lying g q e (extents.is_extent_of g q a) refl i u;
      server = h.server;
      servers = h.servers;
    }
  where
    a : Extent
    a = extents.new_extent x f p b

    y : Extents
    y = extents.with_extent a x

    rise : (t : ServerId) → births_with w s x t ≤ births_with w s y t
    rise t = step (same_server t s)
      where
        step : (c : Bool) → (if c then x.births else births_in w t) ≤ (if c then x.births + 1 else births_in w t)
        step true = omega arith
        step false = omega arith

    own_is : same_server f.server s ≡ true
    own_is = subst (λ t. same_server f.server t ≡ true) own (self_server f.server)

    else_same : (g : FileId) (q : PageNo) → same_place f p g q ≡ false → mapped_with w s y g q ≡ mapped_with w s x g q
    else_same g q n = ap (λ o. if same_server g.server s then o else mapped_in w g q) (extent_other x a g q n)

    turned : (g : FileId) (q : PageNo) → same_place g q f p ≡ false → same_place f p g q ≡ false
    turned g q n = pick (same_place f p g q) refl
      where
        pick : (c : Bool) → same_place f p g q ≡ c → c ≡ false
        pick true c = absurd (not_both _ (turn_place f g p q c) n)
        pick false c = refl

    free_of : (g : FileId) (q : PageNo) (e : Extent) → mapped_with w s x g q ≡ Some e → same_block e.at b ≡ false
    free_of g q e u = pick (same_server g.server s) refl
      where
        pick : (c : Bool) → same_server g.server s ≡ c → same_block e.at b ≡ false
        pick true c = found_not (extents.is_extent_of g q) (extents.lies_at b) x.rows e (sym (if_true (same_server g.server s) (extents.extent_of x g q) (mapped_in w g q) c) ∙ u) (not_true (list_any (extents.lies_at b) x.rows) free)
        pick false c = same (same_block e.at b) refl
          where
            same : (d : Bool) → same_block e.at b ≡ d → d ≡ false
            same true d = absurd (not_both (same_server g.server s)
                (subst (λ t. same_server t s ≡ true) (sym disk ∙ sym (ap (server_of_disk w) (block_is e.at b d)) ∙ lies g q e (sym (if_false (same_server g.server s) (extents.extent_of x g q) (mapped_in w g q) c) ∙ u)) (self_server s)) c)
            same false d = refl

    same_own : same_place f p f p ≡ true
    same_own = self_place f p

    go : (o : Option Extent) → extents.extent_of x f p ≡ o → PagesAreKept es (mapped_with w s y) (block_in w) (births_with w s y) L
    go None n =
        placed es (mapped_with w s x) (mapped_with w s y) (block_in w) (births_with w s x) (births_with w s y) L f p a
        (if_true (same_server f.server s) (extents.extent_of x f p) (mapped_in w f p) own_is ∙ n)
        (if_true (same_server f.server s) (extents.extent_of y f p) (mapped_in w f p) own_is ∙ extent_own x a f p n same_own)
        (ap (λ m. m + 1) (sym (if_true (same_server f.server s) x.births (births_in w f.server) own_is)))
        (let z = if_true (same_server f.server s) (x.births + 1) (births_in w f.server) own_is in subst (λ m. x.births + 1 ≤ m) (sym z) (omega arith))
        (λ g q n. else_same g q (turned g q n)) rise free_of h.pages
    go (Some d) n =
        births_rise es (mapped_with w s y) (block_in w) (births_with w s x) (births_with w s y) L rise
        (subst (λ (m : ExtentsOf). PagesAreKept es m (block_in w) (births_with w s x) L) (λ j g q. sym (stays g q (same_place f p g q) refl) j) h.pages)
      where
        stays : (g : FileId) (q : PageNo) (c : Bool) → same_place f p g q ≡ c → mapped_with w s y g q ≡ mapped_with w s x g q
        stays g q true c = let i = same_place_is f g p q c in subst (λ k. mapped_with w s y k q ≡ mapped_with w s x k q) i.0 (subst (λ k. mapped_with w s y f k ≡ mapped_with w s x f k) i.1
            (ap (λ o. if same_server f.server s then o else mapped_in w f p) (find_kept (extents.is_extent_of f p) a d x.rows n ∙ sym n)))
        stays g q false c = else_same g q c

    lying : (g : FileId) (q : PageNo) (e : Extent) (c : Bool) → extents.is_extent_of g q a ≡ c → same_server g.server s ≡ true → extents.extent_of y g q ≡ Some e → server_of_disk w e.at ≡ s
    lying g q e false c i u = h.lies g q e i (sym (extent_other x a g q c) ∙ u)
    lying g q e true c i u = old (extents.extent_of x g q) refl
      where
        old : (o : Option Extent) → extents.extent_of x g q ≡ o → server_of_disk w e.at ≡ s
        old None n = ap (λ (d : Extent). server_of_disk w d.at) (some_is (sym u ∙ extent_own x a g q n c)) ∙ disk
        old (Some d) n = h.lies g q e i (n ∙ sym (find_kept (extents.is_extent_of g q) a d x.rows n) ∙ u)

-- Allocation.
place_keeps : (w : World) (s : ServerId) (es : List LogEntry) (L : LivingOf) (f : FileId) (ps : List PageNo) (x : Extents) → f.server ≡ s → ((g : FileId) (q : PageNo) (e : Extent) → mapped_in w g q ≡ Some e → server_of_disk w e.at ≡ g.server) →
    ServerPages w s es L x → ServerPages w s es L (extents.place_pages f ps x)
unfolding extents.place_pages extents.place_on
place_keeps w s es L f [] x own lies h = h
place_keeps w s es L f (p ∷ ps) x own lies h = place_keeps w s es L f ps (extents.place_on x f p (extents.free_blocks x)) own lies (go (extents.free_blocks x) (own_free x))
  where
    go : (bs : List BlockAt) → All (λ b. (pred b.disk.0 % x.servers + 1 ≡ x.server.0) × (extents.is_free x b ≡ true)) bs → ServerPages w s es L (extents.place_on x f p bs)
    go [] a = h
    go (b ∷ bs) a = place_one w s es L x f p b own (ap (λ n. world.server (pred b.disk.0 % n + 1)) (sym h.servers) ∙ ap (λ n. record { 0 = n }) a.one.0 ∙ h.server) a.one.1 lies h

-- Release.
release_gone : (x : Extents) (f g : FileId) (p q : PageNo) → (same_file f g && nat_le p.0 q.0) ≡ true → extents.extent_of (extents.release_from x f p) g q ≡ None
unfolding extents.release_from
release_gone x f g p q t = find_cut (extents.is_extent_of g q) (extents.is_at_or_behind f p) (λ e i. let y = same_place_is e.file g e.page q i in let z = and_true (same_file f g) (nat_le p.0 q.0) t in
    and_both (same_file e.file f) (nat_le p.0 e.page.0) (subst (λ k. same_file k f ≡ true) (sym y.0) (subst (λ k. same_file k f ≡ true) (file_is f g z.0) (file_self f))) (ap (λ (k : PageNo). nat_le p.0 k.0) y.1 ∙ z.1)) x.rows

release_same : (x : Extents) (f g : FileId) (p q : PageNo) → (same_file f g && nat_le p.0 q.0) ≡ false → extents.extent_of (extents.release_from x f p) g q ≡ extents.extent_of x g q
unfolding extents.release_from
release_same x f g p q t = find_stays (extents.is_extent_of g q) (extents.is_at_or_behind f p) (λ e i. no e (same_place_is e.file g e.page q i) (extents.is_at_or_behind f p e) refl) x.rows
  where
    no : (e : Extent) → (e.file ≡ g) × (e.page ≡ q) → (b : Bool) → extents.is_at_or_behind f p e ≡ b → b ≡ false
    no e y true c =
        let z = and_true (same_file e.file f) (nat_le p.0 e.page.0) c in
        absurd (not_both _ (and_both (same_file f g) (nat_le p.0 q.0) (subst (λ k. same_file f k ≡ true) y.0 (subst (λ k. same_file k e.file ≡ true) (file_is e.file f z.0) (file_self e.file))) (ap (λ (k : PageNo). nat_le p.0 k.0) (sym y.1) ∙ z.1)) t)
    no e y false c = refl

release_keeps : (w : World) (s : ServerId) (es : List LogEntry) (L : LivingOf) (f : FileId) (p : PageNo) (x : Extents) → f.server ≡ s →
    ((k : ℕ) (y : IssuedCommand) (at : BlockAt) (tag : Tag) (bytes : List ℕ) → L k y at tag bytes → touches tag.file tag.page (hard_cut f p) ≡ false) →
    ServerPages w s es L x → ServerPages w s (es ++ hard_cut f p ∷ []) L (extents.release_from x f p)
unfolding mapped_with births_with extents.release_from
release_keeps w s es L f p x own quiet h =
    record {
      pages = more_cut es (mapped_with w s x) (mapped_with w s (extents.release_from x f p)) (block_in w) (births_with w s x) L f p gone same quiet h.pages;
      lies = λ g q e i u. lying g q e (same_file f g && nat_le p.0 q.0) refl i u;
      server = h.server;
      servers = h.servers;
    }
  where
    gone : (g : FileId) (q : PageNo) → touches g q (hard_cut f p) ≡ true → mapped_with w s (extents.release_from x f p) g q ≡ None
    gone g q t =
        if_true (same_server g.server s) (extents.extent_of (extents.release_from x f p) g q) (mapped_in w g q)
        (subst (λ (k : FileId). same_server k.server s ≡ true) (file_is f g (and_true (same_file f g) (nat_le p.0 q.0) t).0) (subst (λ k. same_server f.server k ≡ true) own (self_server f.server)))
        ∙ release_gone x f g p q t

    same : (g : FileId) (q : PageNo) → touches g q (hard_cut f p) ≡ false → mapped_with w s (extents.release_from x f p) g q ≡ mapped_with w s x g q
    same g q t = ap (λ o. if same_server g.server s then o else mapped_in w g q) (release_same x f g p q t)

    lying : (g : FileId) (q : PageNo) (e : Extent) (c : Bool) → (same_file f g && nat_le p.0 q.0) ≡ c → same_server g.server s ≡ true → extents.extent_of (extents.release_from x f p) g q ≡ Some e → server_of_disk w e.at ≡ s
    lying g q e true c i u = absurd (no (sym (release_gone x f g p q c) ∙ u))
      where
        no : ◌≡◌ {A = Option Extent} None (Some e) → ⊥
        no z = cc
    lying g q e false c i u = h.lies g q e i (sym (release_same x f g p q c) ∙ u)

-- The outputs of a server.
pub record ServerTold (v w : World) : Type 0 where
  pub clients : w.clients ≡ v.clients
  pub servers : w.servers ≡ v.servers
  pub clocks : w.clocks ≡ v.clocks
  pub disks : w.disks ≡ v.disks
  pub commands : w.commands ≡ v.commands
  pub ended : w.ended ≡ v.ended

told_same : (w : World) → ServerTold w w
told_same w = record { clients = refl; servers = refl; clocks = refl; disks = refl; commands = refl; ended = refl }

told_then : (u v w : World) → ServerTold u v → ServerTold v w → ServerTold u w
told_then u v w a b = record { clients = b.clients ∙ a.clients; servers = b.servers ∙ a.servers; clocks = b.clocks ∙ a.clocks; disks = b.disks ∙ a.disks; commands = b.commands ∙ a.commands; ended = b.ended ∙ a.ended }

told_one : (s : ServerId) (o : Output) (sc : WorldTurn) → ServerTold sc.world (server_says sc s o).world
unfolding server_says ev.sends ev.server_notes ev.cuts
told_one s (outputs.Send m) sc = record { clients = refl; servers = refl; clocks = refl; disks = refl; commands = refl; ended = refl }
told_one s (outputs.Note n) sc = note n
  where
    note : (n : Note) → ServerTold sc.world (ev.server_notes sc s n).world
    note (notes.Suspected c t) = told_same sc.world
    note (notes.Stolen c l) = record { clients = refl; servers = refl; clocks = refl; disks = refl; commands = refl; ended = refl }
    note (notes.CutDone f p) = record { clients = refl; servers = refl; clocks = refl; disks = refl; commands = refl; ended = refl }
    note n = told_same sc.world
told_one s o sc = told_same sc.world

told_all : (s : ServerId) (os : List Output) (sc : WorldTurn) → ServerTold sc.world (server_says_all s os sc).world
unfolding server_says_all
told_all s [] sc = told_same sc.world
told_all s (o ∷ os) sc = told_then sc.world (server_says sc s o).world _ (told_one s o sc) (told_all s os (server_says sc s o))

log_one : (s : ServerId) (o : Output) (sc : WorldTurn) → NoCut o → (server_says sc s o).world.log ≡ sc.world.log
unfolding server_says ev.sends ev.server_notes ev.cuts
log_one s (outputs.Send m) sc n = refl
log_one s (outputs.Note (notes.CutDone f p)) sc n = absurd n
log_one s (outputs.Note (notes.Suspected c t)) sc n = refl
log_one s (outputs.Note (notes.Stolen c l)) sc n = refl
log_one s (outputs.Note m) sc n = refl
log_one s o sc n = refl

log_all : (s : ServerId) (os : List Output) (sc : WorldTurn) → NoCuts os → (server_says_all s os sc).world.log ≡ sc.world.log
unfolding server_says_all
log_all s [] sc n = refl
log_all s (o ∷ os) sc n = log_all s os (server_says sc s o) n.rest ∙ log_one s o sc n.one

cut_is : (sc : WorldTurn) (f : FileId) (p : PageNo) (s : ServerId) → (server_says sc s (outputs.Note (notes.CutDone f p))).world.log ≡ sc.world.log ++ hard_cut f p ∷ []
unfolding server_says ev.server_notes ev.cuts log.cut
cut_is sc f p s = refl

log_cut : (s : ServerId) (f : FileId) (p : PageNo) (os : List Output) (sc : WorldTurn) → OneCut f p os → (server_says_all s os sc).world.log ≡ sc.world.log ++ hard_cut f p ∷ []
unfolding server_says_all
log_cut s f p [] sc n = absurd n
log_cut s f p (o ∷ os) sc (inl n) = log_all s os (server_says sc s o) n.rest ∙ here o n.here
  where
    here : (o : Output) → o ≡ outputs.Note (notes.CutDone f p) → (server_says sc s o).world.log ≡ sc.world.log ++ hard_cut f p ∷ []
    here o e = ap (λ x. (server_says sc s x).world.log) e ∙ this
      where
        this : (server_says sc s (outputs.Note (notes.CutDone f p))).world.log ≡ sc.world.log ++ hard_cut f p ∷ []
        this = cut_is sc f p s
log_cut s f p (o ∷ os) sc (inr n) = log_cut s f p os (server_says sc s o) n.rest ∙ ap (λ l. l ++ hard_cut f p ∷ []) (log_one s o sc n.one)

-- what is late, by the parts of the world that it looks at
late_same : (v w : World) → ServerTold v w → (k : ℕ) (x : IssuedCommand) → Timely w k x → Timely v k x
late_same v w t k x e = sym path ∙ e
  where
    path : adm.late_disk w (Some x) ≡ adm.late_disk v (Some x)
    path = λ j. adm.late_disk (record v { clients = t.clients j; clocks = t.clocks j; ended = t.ended j }) (Some x)

by_parts : (T : ℕ → IssuedCommand → Type 0) (v u : World) (es : List LogEntry) → ServerTold v u → u.log ≡ es → HoldsBy T (ev.with_log es v) → HoldsBy T u
by_parts T v u es t l h = subst (HoldsBy T) path rebuilt
  where
    mid : World
    mid = record u { clients = v.clients; servers = v.servers; clocks = v.clocks; disks = v.disks; commands = v.commands; ended = v.ended; log = es }

    rebuilt : HoldsBy T mid
    rebuilt = record { pages = h.pages; commands = h.commands; extents = record { settings = h.extents.settings; ids = h.extents.ids; lies = h.extents.lies } }

    path : mid ≡ u
    path = λ j. record u { clients = sym t.clients j; servers = sym t.servers j; clocks = sym t.clocks j; disks = sym t.disks j; commands = sym t.commands j; ended = sym t.ended j; log = sym l j }

-- A step of a server.
pub server_keeps : (w : World) (s : ServerId) (node : ServerNode) (t : server.ServerTurn) → node_of w s ≡ Some node → t.state.id ≡ node.state.id → ExtentsMove s node.state.stable.extents t.state.stable.extents t.out →
    ((f : FileId) (p : PageNo) → OneCut f p t.out → CutQuiet w f p) → PagesHold w → PagesHold (ev.server_took w s (Ok (server.node_turn node t))).world
unfolding ev.server_took
server_keeps w s node t e i move quiet h =
    later (Timely w) (Timely u) u (λ k x i y. late_same v u told k x y) (go t.state.stable.extents refl move)
  where
    n : ServerNode
    n = record node { state = t.state }

    v : World
    v = ev.with_node s n w

    u : World
    u = (server_says_all s t.out (ev.quiet v)).world

    told : ServerTold v u
    told = told_all s t.out (ev.quiet v)

    L : LivingOf
    L = Living (Timely w) w.commands w.disks.commands

    begins : ServerPages w s w.log L node.state.stable.extents
    begins = server_begins w s node L e h.extents h.pages

    finish : (es : List LogEntry) → u.log ≡ es → ServerPages w s es L t.state.stable.extents → CommandsHold es w.commands w.disks.commands → HoldsBy (Timely w) u
    finish es l p c = by_parts (Timely w) v u es told l (record { pages = server_ends w s node n es L e p; commands = c; extents = parts (extents_end w s node n es L e (i ∙ h.extents.ids s node e) h.extents p) })
      where
        parts : ExtentsHold v → ExtentsHold (ev.with_log es v)
        parts x = record { settings = x.settings; ids = x.ids; lies = x.lies }

    go : (y : Extents) → t.state.stable.extents ≡ y → ExtentsMove s node.state.stable.extents y t.out → HoldsBy (Timely w) u
    go y q (Stays os none) = finish w.log (log_all s t.out (ev.quiet v) none) (subst (ServerPages w s w.log L) (sym q) begins) h.commands
    go y q (Maps os f ps own none) = finish w.log (log_all s t.out (ev.quiet v) none) (subst (ServerPages w s w.log L) (sym q) (place_keeps w s w.log L f ps node.state.stable.extents own h.extents.lies begins)) h.commands
    go y q (Cuts os f p own one) =
        finish (w.log ++ hard_cut f p ∷ []) (log_cut s f p t.out (ev.quiet v) one)
        (subst (ServerPages w s (w.log ++ hard_cut f p ∷ []) L) (sym q) (release_keeps w s w.log L f p node.state.stable.extents own (quiet f p one) begins))
        (commands_more w.log _ w.commands w.disks.commands (λ x tag d. done_of_more w.log (hard_cut f p) x tag d) h.commands)

-- Crash and start of a server: its extents stay.
same_node : (w : World) (s : ServerId) (node n : ServerNode) → node_of w s ≡ Some node → n.state.stable.extents ≡ node.state.stable.extents → n.state.id ≡ node.state.id → PagesHold w → PagesHold (ev.with_node s n w)
same_node w s node n e q i h =
    let L : LivingOf = Living (Timely w) w.commands w.disks.commands in
    let b : ServerPages w s w.log L n.state.stable.extents = subst (ServerPages w s w.log L) (sym q) (server_begins w s node L e h.extents h.pages) in
    record { pages = server_ends w s node n w.log L e b; commands = h.commands; extents = extents_end w s node n w.log L e (i ∙ h.extents.ids s node e) h.extents b }

pub server_crash_keeps : (w : World) (s : ServerId) (node : ServerNode) → node_of w s ≡ Some node → PagesHold w → PagesHold (ev.crashes_server w s (Some node))
unfolding ev.crashes_server server.crash
server_crash_keeps w s node e h = same_node w s node (server.crash_node node) e refl refl h

pub server_start_keeps : (w : World) (s : ServerId) (node : ServerNode) → node_of w s ≡ Some node → PagesHold w → PagesHold (ev.starts_server w s (Some node))
unfolding ev.starts_server server.start server.begin_epoch
server_start_keeps w s node e h = same_node w s node (server.start_node node (world.clock_of w (Rattle.st_base.specs.declared.ids.NodeId.TheVariants.Server s))) e refl refl h
