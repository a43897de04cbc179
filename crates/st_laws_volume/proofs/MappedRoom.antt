-- After every event room is wanted in the volume for each page that a server has mapped.
use Rattle.st_lemmas.proofs.Words
use Words.{◌≡◌, ◌≢◌, ◌⊎◌, ℕ, ◌≤◌, arith, true, not, ◌&&◌, ◌==◌, List, [], ◌∷◌, Some, Ok, refl, sym, ap, ◌∙◌, subst, inl, inr}
use Words.{eqb-true, nat_le, BlockAt, Body, ClientId, Event, Extent, FileId, GrantNo, Header, Message, Output, PageNo, ServerId, ServerInput, Stamp}
use Words.bodies
use Words.nodes
use Words.notes
use Words.outputs
use Words.Events as ev
use Words.Events.{WorldTurn, world_step}
use Words.Extents as extents
use Words.Extents.{Extents}
use Words.History.{Traced}
use Words.Keys.{client, server_node}
use Words.Lists.{Has}
use Words.Lookups.{some_is}
use Words.Safety.{Step, is_event}
use Words.Server as sv
use Words.Server.{ServerNode, ServerTurn, Stable, server_step}
use Words.Tables.{and_true, has_append, has_filter, not_true}
use Words.Truth.{clash}
use Words.World as world
use Words.World.{World, WorldClient, clock_of, node_of, site_of}
use Rattle.st_protocol.specs.Assoc.{Config}
use Rattle.st_trace.specs.Server.Changing.{StableChange, Stays, Changes}
use Rattle.st_trace.specs.Server.Edits as edits
use Rattle.st_trace.specs.Server.Edits.{Ruled}
use Rattle.st_trace.proofs.Server.Allocating.{allocated_pages_are_placed}
use Rattle.st_trace.proofs.Server.StableParts.{step_stable}
use Rattle.st_laws_pages.specs.Disks.World as moves
use Rattle.st_laws_pages.specs.Disks.World.{ExtentsMove, NoCut, NoCuts, OneCut}
use Rattle.st_laws_pages.proofs.Disks.Walk.{step_moves}
use Rattle.st_laws_leases.specs.Dates.Dates.{messages}
use Rattle.st_laws_leases.proofs.Dates.Leaving.{set_cases}
use Rattle.st_laws_requests.proofs.Replies.EachEvent.{Brings, NodeAfter, ServerLeft, event_leaves}
use Rattle.st_laws_extents.proofs.CutRequests.Law.{Hold, owed}
use Rattle.st_laws_extents.proofs.CutRequests.Seen.{ServedStep, cuts_served}
use Rattle.st_laws_cuts.specs.ServedRequests.{IsServedBy}
use Rattle.st_laws_names.proofs.Behind.{not_past}
use Rattle.st_laws_volume.specs.Witness.{now_at, serves, turn_of}
use Rattle.st_laws_volume.proofs.BlocksWanted.{AllWanted, WantedBlock, WantedFor, PastOrWanted, file_at}
use Rattle.st_laws_volume.proofs.CutNotes.{served_so}
use Rattle.st_laws_volume.proofs.MappedFiles.{rows_fewer}
use Rattle.st_laws_volume.proofs.RequestAsks.{is_served}
use Rattle.st_laws_volume.proofs.RoomClaims.{Place}
use Rattle.st_laws_volume.proofs.RoomCuts.{CutSeen}
use Rattle.st_volume.specs.Pages.{same_file}
use Rattle.st_volume.specs.Volume.{Volume}

-- Each mapped page belongs to a file of its server, and room is wanted for it.
abbrev pub RowHas : Volume → ServerId → Extent → Type 0
RowHas v s x = (x.file.server ≡ s) × Has (x.file, x.page) v.claims

abbrev pub AllRoom : World → Volume → Type 0
AllRoom w v =
    (s : ServerId) (node : ServerNode) → node_of w s ≡ Some node → (x : Extent) →
    Has x node.state.stable.extents.rows → RowHas v s x

-- Pages that are placed
placed_at : (f : FileId) (ps : List PageNo) (x : Extents) (e : Extent) →
    Has e (extents.place_pages f ps x).rows →
    Has e x.rows ⊎ ((e.file ≡ f) × Has e.page ps)
unfolding extents.place_pages extents.place_on
placed_at f [] x e h = inl h
placed_at f (p ∷ ps) x e h = go (extents.free_blocks x)
    (placed_at f ps (extents.place_on x f p (extents.free_blocks x)) e h)
  where
    go : (bs : List BlockAt) → Has e (extents.place_on x f p bs).rows ⊎
        ((e.file ≡ f) × Has e.page ps) →
        Has e x.rows ⊎ ((e.file ≡ f) × Has e.page (p ∷ ps))
    go bs (inr q) = inr (q.0, inr q.1)
    go [] (inl i) = inl i
    go (b ∷ bs) (inl i) = last (has_append x.rows (extents.new_extent x f p b ∷ []) e i)
      where
        last : Has e x.rows ⊎ Has e (extents.new_extent x f p b ∷ []) →
            Has e x.rows ⊎ ((e.file ≡ f) × Has e.page (p ∷ ps))
        last (inl j) = inl j
        last (inr (inl j)) =
            inr (ap (λ (y : Extent). y.file) j, inl (ap (λ (y : Extent). y.page) j))
        last (inr (inr j)) = absurd j

-- A page that a request has mapped
record Placed (t : ServerTurn) (m : Body) (x : Extent) : Type 0 where
  ino : ℕ
  g : GrantNo
  p : PageNo
  n : ℕ
  is : m ≡ bodies.Allocate ino g p n
  file : x.file ≡ sv.file t ino
  page : Has x.page (extents.pages_from p n)

one_page : (p q : PageNo) (n : ℕ) → n ≡ 1 → Has q (extents.pages_from p n) → q ≡ p
unfolding extents.numbers
one_page p q n e h = go (subst (λ k. Has q (extents.pages_from p k)) e h)
  where
    go : Has q (extents.pages_from p 1) → q ≡ p
    go (inl i) = i
    go (inr i) = absurd i

rule_rows : (now : Stamp) (t : ServerTurn) (h : Header) (m : Body) (u : ServerTurn) (b : Body) →
    Ruled now t h m u b → (x : Extent) →
    Has x u.state.stable.extents.rows → Has x t.state.stable.extents.rows ⊎ Placed t m x
unfolding sv.cut_whole sv.cut_pages
rule_rows now t h m _ b (edits.Tells _ _ k) x i = inl i
rule_rows now t h m _ b (edits.Acquires ino mode a f k g) x i = inl i
rule_rows now t h m _ b (edits.Releases ino g to l e f) x i = inl i
rule_rows now t h _ b c (edits.Allocates ino g p n y f q e) x i =
    go (placed_at (sv.file t ino) (extents.unmapped t.state.stable.extents (sv.file t ino) p n)
    t.state.stable.extents x
    (subst (λ (w : Extents). Has x w.rows)
    (sym (allocated_pages_are_placed t.state.stable.extents (sv.file t ino) p n y e)) i))
  where
    go : Has x t.state.stable.extents.rows ⊎
        ((x.file ≡ sv.file t ino) ×
        Has x.page (extents.unmapped t.state.stable.extents (sv.file t ino) p n)) →
        Has x t.state.stable.extents.rows ⊎ Placed t (bodies.Allocate ino g p n) x
    go (inl j) = inl j
    go (inr j) =
        inr (record {
          ino = ino;
          g = g;
          p = p;
          n = n;
          is = refl;
          file = j.0;
          page = (has_filter (λ r. not (extents.is_mapped t.state.stable.extents (sv.file t ino) r))
              (extents.pages_from p n) x.page j.1).0;
        })
rule_rows now t h m _ b (edits.Cuts ino g p f q) x i =
    inl (rows_fewer (sv.file t ino) p t.state.stable.extents x i)
rule_rows now t h m _ b (edits.Creates dir l d e) x i = inl i
rule_rows now t h m _ b (edits.MakesDir dir l d e) x i = inl i
rule_rows now t h m _ b (edits.Renames dir l dir2 l2 d e) x i = inl i
rule_rows now t h m _ b (edits.RemovesDir dir l g ino d k f z e q) x i = inl i
rule_rows now t h m _ b (edits.RemovesFile dir l g ino d k f z e q) x i =
    inl (rows_fewer _ _ t.state.stable.extents x i)

-- A page that a server has just mapped, for a request that it serves
record NewRow (w : World) (s : ServerId) (x : Extent) : Type 0 where
  node : ServerNode
  at : node_of w s ≡ Some node
  runs : node.running ≡ true
  m : Message
  among : Has m (messages w)
  served : IsServedBy node.state m
  ino : ℕ
  g : GrantNo
  p : PageNo
  n : ℕ
  is : m.body ≡ bodies.Allocate ino g p n
  file : x.file ≡ record { server = node.state.id; ino = ino }
  page : Has x.page (extents.pages_from p n)

abbrev OldRow : World → ServerId → Extent → Type 0
OldRow w s x = (n : ServerNode) × (node_of w s ≡ Some n) × Has x n.state.stable.extents.rows

-- Where the pages come from
module _ (k : Config) (count : ℕ) (past : List Step) (t : Traced) (e : Event) (sc : WorldTurn)
    (ranges : is_event count e ≡ true) (h : Hold k count past t)
    (taken : world_step t.world e ≡ Ok sc) where
  abbrev w : World
  w = t.world

  abbrev Rows : World → Type 0
  Rows v =
      (s : ServerId) (node : ServerNode) → node_of v s ≡ Some node → (x : Extent) →
      Has x node.state.stable.extents.rows → OldRow w s x ⊎ NewRow w s x

  same : (v : World) → v.servers ≡ w.servers → Rows v
  same v ss s node at x i = inl (node, ap (λ xs. world.numbered xs s.0) (sym ss) ∙ at, i)

  changed : (r : ServerId) (old new : ServerNode) → node_of w r ≡ Some old → (v : World) →
      v.servers ≡ world.with_numbered r.0 new w.servers →
      ((x : Extent) → Has x new.state.stable.extents.rows → OldRow w r x ⊎ NewRow w r x) → Rows v
  changed r old new at v ss f s p q x i =
      go (set_cases w.servers r.0 s.0 old new p at (ap (λ xs. world.numbered xs s.0) (sym ss) ∙ q))
    where
      go : ((s.0 ≡ r.0) × (p ≡ new)) ⊎ ((s.0 ≢ r.0) × (node_of w s ≡ Some p)) →
          OldRow w s x ⊎ NewRow w s x
      go (inl z) =
          subst (λ (y : ServerId). OldRow w y x ⊎ NewRow w y x)
          (ap (λ (n : ℕ). record { 0 = n }) (sym z.0))
          (f x (subst (λ (y : ServerNode). Has x y.state.stable.extents.rows) z.1 i))
      go (inr z) = inl (p, z.1, i)

  stepped : (r : ServerId) (i : ServerInput) (node : ServerNode) → node_of w r ≡ Some node →
      node.running ≡ true → Brings w i → (x : Extent) →
      Has x (NodeAfter w r i node).state.stable.extents.rows → OldRow w r x ⊎ NewRow w r x
  stepped r i node at run brings x j =
      go (server_step node.state (now_at w r) i).state.stable
      (step_stable node.state (now_at w r) i) j
    where
      go : (y : Stable) → StableChange node.state (now_at w r) i y → Has x y.extents.rows →
          OldRow w r x ⊎ NewRow w r x
      go _ Stays j = inl (node, at, j)
      go _ (Changes m t2 u b v rule) j = by (rule_rows (now_at w r) t2 m.header m.body u b rule x j)
        where
          its : serves (turn_of node (now_at w r)) m.header ≡ true
          its =
              subst (λ (y : ServerTurn). serves y m.header ≡ true) v.asked.heard.came.first
              (served_so node.state (now_at w r) i t2 m v)

          by : Has x t2.state.stable.extents.rows ⊎ Placed t2 m.body x → OldRow w r x ⊎ NewRow w r x
          by (inl o) =
              inl (
                node,
                at,
                subst (λ (y : Stable). Has x y.extents.rows)
                    v.asked.heard.came.begun.stable o,
              )
          by (inr z) =
              inr (record {
                node = node;
                at = at;
                runs = run;
                m = m;
                among = subst (Brings w) v.asked.heard.came.is brings;
                served = is_served r node (now_at w r) m its;
                ino = z.ino;
                g = z.g;
                p = z.p;
                n = z.n;
                is = z.is;
                file = z.file ∙ ap (λ (y : ServerId). record { server = y; ino = z.ino })
                    v.asked.heard.came.begun.id;
                page = z.page;
              })

  stopped : (d : ClientId) (site : WorldClient) → site_of w d ≡ Some site →
      Rows (ev.crashes_client (ev.counted w) d (Some site)).world
  unfolding ev.crashes_client ev.marks
  stopped d site at = same (ev.crashes_client (ev.counted w) d (Some site)).world refl

  begun : (d : ClientId) (site : WorldClient) → site_of w d ≡ Some site →
      Rows (ev.starts_client (ev.counted w) d (Some site))
  unfolding ev.starts_client
  begun d site at = same (ev.starts_client (ev.counted w) d (Some site)) refl

  crashed : (r : ServerId) (node : ServerNode) → node_of w r ≡ Some node →
      Rows (ev.crashes_server (ev.counted w) r (Some node))
  unfolding ev.crashes_server sv.crash
  crashed r node at = changed r node (sv.crash_node node) at
      (ev.crashes_server (ev.counted w) r (Some node)) refl (λ x i. inl (node, at, i))

  started : (r : ServerId) (node : ServerNode) → node_of w r ≡ Some node →
      Rows (ev.starts_server (ev.counted w) r (Some node))
  unfolding ev.starts_server sv.start sv.begin_epoch
  started r node at =
      changed r node (sv.start_node node (clock_of (ev.counted w) (nodes.Server r))) at
      (ev.starts_server (ev.counted w) r (Some node)) refl
      (λ x i. inl (node, at, i))

  rows_from : Rows sc.world
  rows_from =
      event_leaves w Rows (λ v cs ss ms. same v ss)
      (λ v cs ss d i site old sm run at comes last l. same last (l.servers ∙ ss))
      (λ r i node at run brings new l. changed r node (NodeAfter w r i node) at
      (ServerLeft w r i node).world l.servers
      (stepped r i node at run brings)) stopped begun crashed started e sc
      (owed k count past t e sc ranges h taken) taken

  -- A page that is cut is no longer mapped.
  none_noted : (f : FileId) (p : PageNo) (os : List Output) → NoCuts os →
      Has (outputs.Note (notes.CutDone f p)) os → ⊥
  none_noted f p [] n i = absurd i
  none_noted f p (o ∷ os) n (inl q) = subst NoCut (sym q) n.one
  none_noted f p (o ∷ os) n (inr i) = none_noted f p os n.rest i

  same_cut : (f g : FileId) (p q : PageNo) →
      outputs.Note (notes.CutDone f p) ≡ outputs.Note (notes.CutDone g q) → (f ≡ g) × (p ≡ q)
  same_cut f g p q e = (cc e, cc e)

  one_noted : (f g : FileId) (p q : PageNo) (os : List Output) → OneCut g q os →
      Has (outputs.Note (notes.CutDone f p)) os → (f ≡ g) × (p ≡ q)
  one_noted f g p q [] c i = absurd c
  one_noted f g p q (o ∷ os) (inl c) (inl j) = same_cut f g p q (j ∙ c.here)
  one_noted f g p q (o ∷ os) (inl c) (inr j) = absurd (none_noted f p os c.rest j)
  one_noted f g p q (o ∷ os) (inr c) (inl j) = absurd (subst NoCut (sym j) c.one)
  one_noted f g p q (o ∷ os) (inr c) (inr j) = one_noted f g p q os c.rest j

  not_cut : (s : ServerId) (node : ServerNode) → node_of sc.world s ≡ Some node → (x : Extent) →
      Has x node.state.stable.extents.rows →
      x.file.server ≡ s → CutSeen (x.file, x.page) sc.seen → ⊥
  unfolding extents.release_from
  not_cut s node at x i own c =
      by (server_step z.node.state (clock_of (ev.counted w) (nodes.Server z.who))
      z.input).state.stable.extents
      (step_moves z.node.state (clock_of (ev.counted w) (nodes.Server z.who)) z.input) z.noted here
    where
      z : ServedStep (ev.counted w) e sc c.file c.page
      z = cuts_served w e sc (λ r n at2. (h.cuts.servers r n at2).id) taken c.index c.file c.page
          c.among

      parts : (same_file x.file c.file ≡ true) × (nat_le c.page.0 x.page.0 ≡ true)
      parts = and_true (same_file x.file c.file) (nat_le c.page.0 x.page.0) c.cuts

      server : x.file.server ≡ c.file.server
      server =
          ap (λ (n : ℕ). record { 0 = n })
          (eqb-true x.file.server.0 c.file.server.0
          (and_true (x.file.server.0 == c.file.server.0) (x.file.ino == c.file.ino) parts.0).0)

      here : c.file.server ≡ z.who →
          Has x
          (server_step z.node.state (clock_of (ev.counted w) (nodes.Server z.who))
          z.input).state.stable.extents.rows
      here q =
          subst (λ (y : ServerNode). Has x y.state.stable.extents.rows)
          (some_is (sym at ∙ (ap (node_of sc.world) (sym own ∙ (server ∙ q)) ∙ z.left))) i

      by : (y : Extents) → ExtentsMove z.node.state.id z.node.state.stable.extents y
          (server_step z.node.state (clock_of (ev.counted w) (nodes.Server z.who)) z.input).out →
          Has (outputs.Note (notes.CutDone c.file c.page))
          (server_step z.node.state (clock_of (ev.counted w) (nodes.Server z.who)) z.input).out
          →
          (c.file.server ≡ z.who → Has x y.rows) → ⊥
      by _ (moves.Stays os n) noted g = none_noted c.file c.page os n noted
      by _ (moves.Maps os f ps q n) noted g = none_noted c.file c.page os n noted
      by _ (moves.Cuts os f p q n) noted g =
          let r = one_noted c.file f c.page p os n noted in
          let j =
          has_filter (λ y. not (extents.is_at_or_behind f p y)) z.node.state.stable.extents.rows x
          (g (ap (λ (y : FileId). y.server) r.0 ∙ (q ∙ (h.cuts.servers z.who z.node z.there).id)))
          in
          clash
          (subst (λ (y : FileId). same_file x.file y && nat_le p.0 x.page.0 ≡ true) r.0
          (subst (λ (y : PageNo). same_file x.file c.file && nat_le y.0 x.page.0 ≡ true) r.1
          c.cuts))
          (not_true (extents.is_at_or_behind f p x) j.1)

  -- The volume.
  module _ (v u : Volume) (kept : (y : Place) → Has y v.claims → Has y u.claims ⊎ CutSeen y sc.seen)
      (fine : AllWanted w v) (room : AllRoom w v) where
    wanted_new : (s : ServerId) (x : Extent) → NewRow w s x → RowHas v s x
    wanted_new s x z =
        by (fine (client z.m.header.from) s z.m z.among (refl, to) z.served.client pos)
      where
        id : z.node.state.id ≡ s
        id = (h.cuts.servers s z.node z.at).id

        to : z.m.header.to ≡ server_node s
        to = z.served.to ∙ ap server_node id

        pos : 1 ≤ z.m.header.number
        pos = let q = z.served.next in omega (arith, q)

        wanted : WantedBlock w v (client z.m.header.from) s z.m z.ino z.p z.n → RowHas v s x
        wanted f = (
          ap (λ (y : FileId). y.server) z.file ∙ id,
          subst (λ (y : FileId). Has (y, x.page) v.claims)
              (sym (z.file ∙ ap (λ (y : ServerId). file_at y z.ino) id))
              (subst (λ (y : PageNo). Has (file_at s z.ino, y) v.claims)
              (sym (one_page z.p x.page z.n f.one z.page)) f.wanted),
        )

        by : PastOrWanted w v (client z.m.header.from) s z.m → RowHas v s x
        by (inl p) =
            absurd
            (not_past (client z.m.header.from) z.node z.m z.served z.runs refl (p z.node z.at))
        by (inr f) = wanted (subst (WantedFor w v (client z.m.header.from) s z.m) z.is f)

    pub room_on : AllRoom sc.world u
    room_on s node at x i = go (rows_from s node at x i)
      where
        stays : RowHas v s x → RowHas u s x
        stays r = (r.0, by (kept (x.file, x.page) r.1))
          where
            by : Has (x.file, x.page) u.claims ⊎ CutSeen (x.file, x.page) sc.seen →
                Has (x.file, x.page) u.claims
            by (inl j) = j
            by (inr c) = absurd (not_cut s node at x i r.0 c)

        go : OldRow w s x ⊎ NewRow w s x → RowHas u s x
        go (inl o) = stays (room s o.0 o.1 x o.2)
        go (inr z) = stays (wanted_new s x z)
