-- What a server sent or keeps in reply to an outstanding request for extents, whose lock the client holds under a lease that lasts, is of a file that it has.
use Rattle.st_lemmas.proofs.Words
use Words.{◌≡◌, ◌≢◌, ◌⊎◌, ℕ, ◌+◌, ◌≤◌, arith, true, List, Some, refl, sym, ap, ◌∙◌, subst, inl, inr, eqb-true}
use Words.{Body, Event, ExtentRow, Message, PageNo, Request, ServerId, ServerInput}
use Words.bodies
use Words.nodes
use Words.outputs
use Words.serving
use Words.ClientState as cs
use Words.ClientState.{Association, ClientSession}
use Words.Events.{WorldTurn}
use Words.History.{Traced}
use Words.Keys.{client, page_no, server_node}
use Words.Lists.{Has}
use Words.Lookups.{some_is}
use Words.Names as names
use Words.Numbers.{numbered_below, numbered_has, numbered_other, numbered_own}
use Words.Safety.{Step, step}
use Words.Server.{ServerNode, ServerTurn, server_step}
use Words.Tables.{same_or_not}
use Words.Truth.{server_is}
use Words.World.{World, WorldClient, clock_of, node_of, numbered, with_numbered}
use Rattle.st_protocol.specs.Assoc.{Config}
use Rattle.st_laws_leases.specs.Dates.Dates.{messages}
use Rattle.st_laws_refine.specs.Client.Invariants.{Lasts}
use Rattle.st_laws_refine.specs.Views.Halves.{held_in}
use Rattle.st_laws_steps.specs.Client.Session.{cuts_from}
use Rattle.st_laws_steps.specs.Lives.Lives.{clock_in}
use Rattle.st_laws_reads.specs.AllClients.CutFiles.{Cuts}
use Rattle.st_laws_reads.specs.AllClients.Law.{Running}
use Rattle.st_laws_reads.specs.Copies.Copies.{file_at}
use Rattle.st_laws_extents.specs.CutRequests.Cut.{CutBy}
use Rattle.st_laws_extents.specs.ExtentReplies.Events.{NodeStays, ServerSteps}
use Rattle.st_laws_extents.specs.ExtentReplies.Law.{IsAsked, RequestsGo, Untold, WasAsked}
use Rattle.st_laws_extents.specs.ExtentReplies.Steps.{AsksExtents, KeptRows}
use Rattle.st_laws_extents.specs.ExtentReplies.ToldExtents.{AskedAt, RepliesTo}
use Rattle.st_laws_extents.proofs.CutRequests.Asked.{is_asked}
use Rattle.st_laws_extents.proofs.CutRequests.Law as cutters
use Rattle.st_laws_extents.proofs.ExtentReplies.Held.{current_mode}
use Rattle.st_laws_volume.proofs.FileEvents.{EventFiles, StillFiles}
use Rattle.st_laws_volume.proofs.RemovedFiles.{IsRemoved, KeptOrFile, RepliesOfFiles, file_goes, replies_of_files}
use Rattle.st_laws_volume.proofs.TreeWorld.{AllSound}

-- a reply of extents to a request for extents of that file
pub record OfFiles (w : World) (c : ℕ) (a : Association) (x : ClientSession) (q : Request) (node : ServerNode) : Type 0 where
  pub sent : (m : Message) (ino : ℕ) (rows : List ExtentRow) → Has m (messages w) → RepliesTo c a x q m ino rows → cs.maps ino q.body ≡ true →
      names.is_file node.state.stable.names ino ≡ true
  pub kept : node.running ≡ true → (ino : ℕ) (rows : List ExtentRow) → KeptRows node.state.sessions (client c) a.life.0 q.number ino rows →
      cs.maps ino q.body ≡ true → names.is_file node.state.stable.names ino ≡ true

abbrev pub AskedOfFiles : World → Type 0
AskedOfFiles w =
    (c : ℕ) (site : WorldClient) (a : Association) (x : ClientSession) (q : Request) → AskedAt w c site a x q →
    (node : ServerNode) → node_of w a.server ≡ Some node → OfFiles w c a x q node

-- a request for extents of a file
asks_of : (ino : ℕ) (b : Body) → cs.maps ino b ≡ true → (p : PageNo) × (n : ℕ) × AsksExtents b ino p n
asks_of ino (bodies.Map i g p) e = (p, 1, (eqb-true i ino e, refl, refl))
asks_of ino (bodies.Allocate i g p count) e = (p, count, (eqb-true i ino e, refl, refl))
asks_of ino b e = cc e

-- it cuts nothing
cuts_none : (ino : ℕ) (b : Body) (r : PageNo) → cs.maps ino b ≡ true → cuts_from b ≡ Some r → ⊥
cuts_none ino (bodies.Map i g p) r e q = cc q
cuts_none ino (bodies.Allocate i g p count) r e q = cc q
cuts_none ino b r e q = cc e

module _ (k : Config) (count : ℕ) (past : List Step) (t : Traced) (h : cutters.Hold k count past t) where
  -- A file that a step removes: the only client that has it asks for that.
  pub removed_asked : (s : ServerId) (node : ServerNode) → node_of t.world s ≡ Some node → node.running ≡ true → (i : ServerInput) →
      ((m : Message) → i ≡ serving.Control m → Has m (messages t.world)) → (ino : ℕ) → IsRemoved node.state i ino →
      (d : ℕ) (site : WorldClient) → Running t.world d site → (a : Association) → Has a site.node.state.associations → s ≡ a.server →
      Lasts site.node.state.config.lease (clock_of t.world (nodes.Client (client d))).0 a.session → 1 ≤ (held_in a.session ino).mode →
      (r : PageNo) × Cuts a.session ino r × (r.0 ≤ 0)
  removed_asked s node at run i comes ino r d site running a has e lasts held =
      is_asked k count past t h.cuts h.all h.asks (file_at s ino) (page_no 0)
      (record {
        node = node;
        there = at;
        running = run;
        message = r.message;
        among = comes r.message r.is;
        by = subst (λ v. CutBy node.state r.message (file_at v ino) (page_no 0)) (h.replies.dated.servers s node at).id r.by;
      })
      d site running a has e lasts held

  -- it isn't one of which extents are asked
  module _ (s : ServerId) (node : ServerNode) (at : node_of t.world s ≡ Some node) (run : node.running ≡ true) (i : ServerInput)
      (comes : (m : Message) → i ≡ serving.Control m → Has m (messages t.world)) (c : ℕ) (site : WorldClient) (a : Association) (x : ClientSession)
      (q : Request)
      (z : AskedAt t.world c site a x q) (e : s ≡ a.server) (ino : ℕ) (maps : cs.maps ino q.body ≡ true) where
    kept_asked : IsRemoved node.state i ino → ⊥
    kept_asked r = no (removed_asked s node at run i comes ino r c site z.run a z.has e z.lasts held)
      where
        asks : (p : PageNo) × (n : ℕ) × AsksExtents q.body ino p n
        asks = asks_of ino q.body maps

        held : 1 ≤ (held_in a.session ino).mode
        held = current_mode k count t.world h.all s.0 node at c site z.run.there a z.has (sym e) x z.session q.body ino asks.0 asks.1 asks.2 z.current

        no : (p : PageNo) × Cuts a.session ino p × (p.0 ≤ 0) → ⊥
        no (p, y, l) =
            let xs : x ≡ y.session = some_is (sym z.session ∙ y.is) in
            let qs : q ≡ y.request = some_is (sym z.asked ∙ (ap (λ (v : ClientSession). v.requests.asked) xs ∙ y.asked)) in
            cuts_none ino q.body p maps (ap (λ (v : Request). cuts_from v.body) qs ∙ y.from)

-- If no server takes a step.
module _ (w v : World) (stays : StillFiles w v) (right : AskedOfFiles w) where
  still_of : RequestsGo w v → AskedOfFiles v
  still_of go c site a x q z p at = by (go c site a x q z)
    where
      n : (n : ServerNode) × (node_of w a.server ≡ Some n) × NodeStays n p × (p.state.stable.names ≡ n.state.stable.names)
      n = stays.nodes a.server p at

      now : (ino : ℕ) → names.is_file n.0.state.stable.names ino ≡ true → names.is_file p.state.stable.names ino ≡ true
      now ino f = ap (λ y. names.is_file y ino) n.3 ∙ f

      by : WasAsked w c a x q ⊎ Untold w c a x q → OfFiles v c a x q p
      by (inr u) =
          record {
            sent = λ m ino rows h r e. absurd (u.sent m ino rows (stays.messages m h a.server r.from) r);
            kept = λ run ino rows k e.
                let y = n.2.kept run (client c) a.life.0 q.number ino rows k in absurd (u.kept n.0 n.1 y.0 ino rows y.1);
          }
      by (inl o) =
          record {
            sent = λ m ino rows h r e. now ino (old.sent m ino rows (stays.messages m h a.server r.from) (then m ino rows r) (maps ino e));
            kept = λ run ino rows k e.
                let y = n.2.kept run (client c) a.life.0 q.number ino rows k in
                now ino (old.kept y.0 ino rows
                (subst (λ l. KeptRows n.0.state.sessions (client c) l o.request.number ino rows) (sym o.life)
                (subst (λ j. KeptRows n.0.state.sessions (client c) a.life.0 j ino rows) (sym o.number) y.1)) (maps ino e));
          }
        where
          old : OfFiles w c o.by o.session o.request n.0
          old = right c o.site o.by o.session o.request o.at n.0 (ap (node_of w) o.server ∙ n.1)

          maps : (ino : ℕ) → cs.maps ino q.body ≡ true → cs.maps ino o.request.body ≡ true
          maps ino e = ap (cs.maps ino) o.body ∙ e

          then : (m : Message) (ino : ℕ) (rows : List ExtentRow) → RepliesTo c a x q m ino rows → RepliesTo c o.by o.session o.request m ino rows
          then m ino rows r =
              record {
                from = r.from ∙ ap server_node (sym o.server);
                to = r.to;
                of_life = r.of_life ∙ sym o.life;
                of_epoch = r.of_epoch ∙ sym o.epoch;
                under = r.under ∙ sym o.number;
                body = r.body;
              }

-- If a server does.
module _ (k : Config) (count : ℕ) (past : List Step) (t : Traced) (h : cutters.Hold k count past t) (sound : AllSound t.world) (v : World)
    (y : ServerSteps t.world v) (right : AskedOfFiles t.world) where
  abbrev u : ServerTurn
  u = server_step y.node.state y.now y.input

  abbrev next : ServerNode
  next = record y.node { state = u.state }

  asked_then : (c : ℕ) (site : WorldClient) (a : Association) (x : ClientSession) (q : Request) → AskedAt v c site a x q → AskedAt t.world c site a x q
  asked_then c site a x q z =
      record {
        run = record { there = ap (λ xs. numbered xs c) (sym y.clients) ∙ z.run.there; runs = z.run.runs };
        has = z.has;
        session = z.session;
        lasts = subst (λ ts. Lasts site.node.state.config.lease (clock_in ts (client c)).0 a.session) y.clocks z.lasts;
        asked = z.asked;
        current = z.current;
      }

  served_of : AskedOfFiles v
  served_of c site a x q z p at = go (same_or_not a.server.0 y.server.0)
    where
      was : AskedAt t.world c site a x q
      was = asked_then c site a x q z

      found : numbered (with_numbered y.server.0 next t.world.servers) a.server.0 ≡ Some p
      found = ap (λ xs. numbered xs a.server.0) (sym y.servers) ∙ at

      here : y.server ≡ a.server → p ≡ next → OfFiles v c a x q p
      here e n =
          subst (OfFiles v c a x q) (sym n)
          (record {
            sent = λ m ino rows i r e. sent m ino rows r e (y.messages m i);
            kept = λ run ino rows j e. told ino rows e (replies.kept (client c) a.life.0 q.number ino rows j);
          })
        where
          there : node_of t.world a.server ≡ Some y.node
          there = ap (node_of t.world) (sym e) ∙ y.there

          old : OfFiles t.world c a x q y.node
          old = right c site a x q was y.node there

          replies : RepliesOfFiles y.node.state u
          replies = replies_of_files y.node.state y.now y.input

          -- a file stays
          stays : (ino : ℕ) → cs.maps ino q.body ≡ true → names.is_file y.node.state.stable.names ino ≡ true → names.is_file u.state.stable.names ino ≡ true
          stays ino e f =
              by (file_goes y.node.state y.now y.input (sound y.node (numbered_has t.world.servers y.server.0 y.node y.there)) ino f)
            where
              by : (names.is_file u.state.stable.names ino ≡ true) ⊎ IsRemoved y.node.state y.input ino → names.is_file u.state.stable.names ino ≡ true
              by (inl g) = g
              by (inr r) =
                  absurd (kept_asked k count past t h a.server y.node there y.running y.input y.comes c site a x q was refl ino e r)

          told : (ino : ℕ) (rows : List ExtentRow) → cs.maps ino q.body ≡ true → KeptOrFile y.node.state c a.life.0 q.number ino rows →
              names.is_file u.state.stable.names ino ≡ true
          told ino rows e (inl r) = stays ino e (old.kept y.running ino rows r e)
          told ino rows e (inr f) = stays ino e f

          sent : (m : Message) (ino : ℕ) (rows : List ExtentRow) → RepliesTo c a x q m ino rows → cs.maps ino q.body ≡ true →
              Has m (messages t.world) ⊎ Has (outputs.Send m) u.out → names.is_file u.state.stable.names ino ≡ true
          sent m ino rows r e (inl i) = stays ino e (old.sent m ino rows i r e)
          sent m ino rows r e (inr i) =
              told ino rows e
              (subst (λ n. KeptOrFile y.node.state c a.life.0 n ino rows) r.under
              (subst (λ n. KeptOrFile y.node.state c n m.header.number ino rows) r.of_life
              (subst (λ n. KeptOrFile y.node.state n m.header.life m.header.number ino rows) r.to (replies.sent m ino rows i r.body))))

      other : a.server.0 ≢ y.server.0 → OfFiles v c a x q p
      other n = record { sent = λ m ino rows i r e. sent m ino rows r e (y.messages m i); kept = λ run ino rows j e. old.kept run ino rows j e }
        where
          there : node_of t.world a.server ≡ Some p
          there =
              sym (numbered_other t.world.servers y.server.0 a.server.0 next (numbered_below t.world.servers y.server.0 y.node y.there).0 n) ∙ found

          old : OfFiles t.world c a x q p
          old = right c site a x q was p there

          sent : (m : Message) (ino : ℕ) (rows : List ExtentRow) → RepliesTo c a x q m ino rows → cs.maps ino q.body ≡ true →
              Has m (messages t.world) ⊎ Has (outputs.Send m) u.out → names.is_file p.state.stable.names ino ≡ true
          sent m ino rows r e (inl i) = old.sent m ino rows i r e
          sent m ino rows r e (inr i) = absurd (n (number a.server.0 y.server.0 (sym r.from ∙ y.says m i)))
            where
              number : (i j : ℕ) → 32768 + i ≡ 32768 + j → i ≡ j
              number i j e = omega (arith, e)

      go : (a.server.0 ≡ y.server.0) ⊎ (a.server.0 ≢ y.server.0) → OfFiles v c a x q p
      go (inl e) =
          here (server_is y.server a.server (sym e))
          (some_is (sym found ∙ (ap (numbered (with_numbered y.server.0 next t.world.servers)) e
          ∙ numbered_own t.world.servers y.server.0 next y.node y.there)))
      go (inr n) = other n

-- After every event.
pub asked_of_files : (k : Config) (count : ℕ) (past : List Step) (t : Traced) (e : Event) (sc : WorldTurn) → cutters.Hold k count past t → AllSound t.world →
    AskedOfFiles t.world → EventFiles t.world sc.world → IsAsked past (step t e sc) → AskedOfFiles sc.world
asked_of_files k count past t e sc h sound right (inl s) go = still_of t.world sc.world s right go
asked_of_files k count past t e sc h sound right (inr s) go = served_of k count past t h sound sc.world s right
