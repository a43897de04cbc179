-- Every event keeps what clients know of where pages lie: it is as their servers have it.
use Rattle.st_lemmas.proofs.Words
use Words.{◌≡◌, ◌≢◌, ◌⊎◌, ℕ, ◌≤◌, Bool, true, false, List, [], ◌∷◌, Option, Some, None, Ok, Err, refl, sym, ap, ◌∙◌, subst, inl, inr, arith, if◌then◌else◌}
use Words.{ClientId, FileId, NodeId, PageNo, ServerId, Ask, Event, Message, ClientInput, KnownExtent, MappedBlock, Extent, ServerInput, IssuedCommand}
use Words.{SentMessage}
use Words.nodes
use Words.events
use Words.inputs
use Words.serving
use Words.Client as cl
use Words.ClientState.{Association, ClientSession, ClientState, client_turn}
use Words.Disks as disks
use Words.Events as ev
use Words.Events.{WorldTurn, counted, happens}
use Words.Extents as extents
use Words.Keys.{client}
use Words.Server as server
use Words.Server.{ServerNode}
use Words.World.{World, WorldClient, clock_of, issued_of, message_of, node_of, numbered, receiver_of, site_of, with_numbered}
use Words.Lists.{Has}
use Words.Lookups.{some_is}
use Words.Numbers.{numbered_below, numbered_other, numbered_own}
use Words.Tables.{has_map, same_or_not}
use Words.Truth.{some_not_none}
use Rattle.st_rules.specs.declared.node.StepRefusal.TheVariants.{Crashed}
use Rattle.st_laws_leases.proofs.Dates.Leaving.{set_cases}
use Rattle.st_laws_refine.specs.Views.Halves.{held_in}
use Rattle.st_laws_refine.specs.Client.Invariants.{Lasts}
use Rattle.st_laws_refine.specs.Client.World.{WorldLeft, site_left, world_left}
use Rattle.st_laws_refine.proofs.Client.Sim.{world_is}
use Rattle.st_laws_steps.specs.Lives.Lives.{clock_in}
use Rattle.st_laws_steps.specs.Client.Losses.{Fit}
use Rattle.st_laws_pages.specs.Disks.World.{mapped_at}
use Rattle.st_laws_pages.proofs.Disks.Moves.{clock_up}
use Rattle.st_laws_pages.proofs.Disks.Walk.{step_moves}
use Rattle.st_laws_refine.proofs.Server.Delivery.{all_parts}
use Rattle.st_laws_leases.specs.Sides.World.{There}
use Rattle.st_laws_reads.specs.Copies.Copies.{Nothing, file_at}
use Rattle.st_laws_reads.specs.Copies.World.{Taking, asking, receiving, receiving_of, now_at, taken, taking, told_at, told_of, turn_of}
use Rattle.st_laws_reads.specs.AllClients.CutFiles.{AllCleared, Cleared}
use Rattle.st_laws_reads.specs.AllClients.Events.{CutFree, CutFreeOf, MessageFree, ReceiverFree, ServerFree, TurnFree}
use Rattle.st_laws_reads.proofs.AllClients.Behind.{Behind, behind}
use Rattle.st_laws_reads.proofs.AllClients.Takings.{Takes}
use Rattle.st_laws_extents.specs.Known.Known.{Fact, Knows, Locked}
use Rattle.st_laws_extents.specs.Known.WritePlaces.{AllKnow, AllLocked, CutsOwed, InputTold, LiesAs, SiteKnows, SubmitsLie, anything, lies}
use Rattle.st_laws_extents.proofs.Known.Held.{known_found}
use Rattle.st_laws_extents.proofs.Known.Moved.{CutNoted, moved}
use Rattle.st_laws_steps.specs.Client.Inputs.{Each}
use Rattle.st_laws_extents.proofs.Known.Step.{Fine, Told, lost_knows, step_fine}

-- what is known by one fact is known by another
pub knows_by : (R S : Fact) (a : Association) → ((ino : ℕ) (p : PageNo) (m : MappedBlock) → Locked a.session ino → R a.server ino p m → S a.server ino p m) → Knows R a → Knows S a
knows_by R S a f h e i = let z = h e i in record { locked = z.locked; is = λ m q. f e.ino e.page m z.locked (z.is m q) }

-- if the servers are the same
pub lies_same : (w v : World) → v.servers ≡ w.servers → (server : ServerId) (ino : ℕ) (p : PageNo) (m : MappedBlock) → lies w server ino p m → lies v server ino p m
lies_same w v e server ino p m = subst (λ ns. LiesAs (mapped_at (file_at server ino) p (numbered ns server.0)) m) (sym e)

-- what lasts later lasts
pub lasts_before : (lease now later : ℕ) (o : Option ClientSession) → now ≤ later → Lasts lease later o → Lasts lease now o
lasts_before lease now later None l h = tt
lasts_before lease now later (Some s) l h = omega (arith, l, h)

-- Clients that are as they were, servers too, and clocks that have not gone back.
pub carried : (w v : World) → v.clients ≡ w.clients → v.servers ≡ w.servers → ((c : ClientId) → (clock_of w (nodes.Client c)).0 ≤ (clock_of v (nodes.Client c)).0) → AllKnow w → AllKnow v
carried w v cs ss ts h c site at =
    record {
      knows = λ run a i l. knows_by (lies w) (lies v) a (λ ino p m k. lies_same w v ss a.server ino p m) ((h c site (ap (λ xs. numbered xs c.0) (sym cs) ∙ at)).knows run a i (lasts_before _ _ _ a.session (ts c) l));
    }

pub still : (w v : World) → v.clients ≡ w.clients → v.servers ≡ w.servers → v.clocks ≡ w.clocks → AllKnow w → AllKnow v
still w v cs ss ts = carried w v cs ss (λ c. let z = ap (λ xs. (clock_in xs c).0) ts in omega (arith, z))

-- A client of a world is replaced.
placed : (w v : World) (c : ClientId) (old new : WorldClient) → site_of w c ≡ Some old → v.clients ≡ with_numbered c.0 new w.clients → v.servers ≡ w.servers → v.clocks ≡ w.clocks → SiteKnows v c new → AllKnow w → AllKnow v
placed w v c old new there cs ss ts n h d site at = go (set_cases w.clients c.0 d.0 old new site there (ap (λ xs. numbered xs d.0) (sym cs) ∙ at))
  where
    go : ((d.0 ≡ c.0) × (site ≡ new)) ⊎ ((d.0 ≢ c.0) × (site_of w d ≡ Some site)) → SiteKnows v d site
    go (inl z) = subst (λ (n : ℕ). SiteKnows v (client n) site) (sym z.0) (subst (SiteKnows v c) (sym z.1) n)
    go (inr z) = record { knows = λ run a i l. knows_by (lies w) (lies v) a (λ ino p m k. lies_same w v ss a.server ino p m) ((h d site z.1).knows run a i (lasts_before _ _ _ a.session (let q = ap (λ xs. (clock_in xs d).0) ts in omega (arith, q)) l)) }

-- A client takes an input.
module _ (w : World) (sc : WorldTurn) (x : Taking) (t : Takes (counted w) sc x) (fits : (a : Association) → Has a t.old.node.state.associations → Fit a) (stopped : t.old.node.running ≡ false → (a : Association) → Has a t.old.node.state.associations → a.session ≡ None) (clear : AllCleared w) (locked : AllLocked w) (h : AllKnow w) where
  module _ (told : InputTold x x.input) where
    abbrev s : ClientState
    s = x.site.node.state

    abbrev left : List Association
    left = (cl.losses (client_turn s []) (now_at x)).state.associations

    old_there : site_of w x.client ≡ Some t.old
    old_there = t.there

    of_old : (P : Association → Type 0) → Each P t.old.node.state.associations → Each P s.associations
    of_old P = subst (λ (n : cl.ClientNode). Each P n.state.associations) t.same

    before : Each (Knows (lies x.world)) left
    before a i = go a.session refl
      where
        go : (o : Option ClientSession) → a.session ≡ o → Knows (lies x.world) a
        go None e = λ y j. absurd (subst (λ o. Locked o y.ino) e (lost_knows anything s (now_at x) (of_old (Knows anything) (locked x.client t.old old_there)) a i y j).locked)
        go (Some u) e = by t.old.node.running refl
          where
            b : Behind s (now_at x) a
            b = behind x.client s (now_at x) (of_old Fit fits) a i u e

            none : {A : Type 0} → ◌≡◌ {A = Option ClientSession} None (Some u) → A
            none q = cc

            was : Has a t.old.node.state.associations
            was = subst (λ (n : cl.ClientNode). Has a n.state.associations) (sym t.same) b.was

            lasts : Lasts t.old.node.state.config.lease (clock_of w (nodes.Client x.client)).0 a.session
            lasts =
                subst (λ (n : cl.ClientNode). Lasts n.state.config.lease (clock_of w (nodes.Client x.client)).0 a.session) (sym t.same)
                (subst (λ ts. Lasts s.config.lease (clock_in ts x.client).0 a.session) t.clocks b.lasts)

            by : (b : Bool) → t.old.node.running ≡ b → Knows (lies x.world) a
            by true r = knows_by (lies w) (lies x.world) a (λ ino p m k. lies_same w x.world t.servers a.server ino p m) ((h x.client t.old old_there).knows r a was lasts)
            by false r = none (sym (stopped r a was) ∙ e)

    receives : (i : ClientInput) → InputTold x i → Told (lies x.world) left i
    receives (inputs.Control m) k = k
    receives inputs.Tick k = tt
    receives (inputs.App op ask) k = tt
    receives (inputs.Done number result) k = tt

    fine : Fine (lies x.world) (turn_of x)
    fine = step_fine (lies x.world) s (now_at x) x.input (of_old Cleared (clear x.client t.old old_there)) (receives x.input told) before

    pub submits : SubmitsLie x
    submits number at to tag bytes i = fine.said _ i

    world_left_is : WorldLeft x.world x.client x.site x.input
    world_left_is = world_is x.world x.client x.site x.input

    goes : x.site.node.running ≡ true → sc.world ≡ world_left x.world x.client x.site x.input
    unfolding ev.client_takes cl.node_step
    goes runs =
        ap (λ (z : WorldTurn). z.world) t.is
        ∙ ap (λ b. (ev.client_took x.world x.client x.site (if b then Ok (cl.node_turn x.site.node (turn_of x)) else Err Crashed)).world) runs

    servers : x.site.node.running ≡ true → sc.world.servers ≡ x.world.servers
    servers runs = ap (λ (z : World). z.servers) (goes runs) ∙ world_left_is.servers

    pub runs_know : x.site.node.running ≡ true → AllKnow sc.world
    runs_know runs =
        placed w sc.world x.client t.old (site_left x.world x.client x.site x.input) old_there (ap (λ (z : World). z.clients) (goes runs) ∙ world_left_is.clients ∙ ap (λ cs. with_numbered x.client.0 (site_left x.world x.client x.site x.input) cs) t.clients)
        (servers runs ∙ t.servers) (ap (λ (z : World). z.clocks) (goes runs) ∙ world_left_is.clocks ∙ t.clocks)
        (record { knows = λ run a i l. knows_by (lies x.world) (lies sc.world) a (λ ino p m k. lies_same x.world sc.world (servers runs) a.server ino p m) (fine.knows a i) }) h

  -- One that does not run takes nothing.
  pub stops_know : x.site.node.running ≡ false → AllKnow sc.world
  unfolding ev.client_takes cl.node_step ev.client_took
  stops_know stops =
      let is : sc.world ≡ x.world = ap (λ (z : WorldTurn). z.world) t.is ∙ ap (λ b. (ev.client_took x.world x.client x.site (if b then Ok (cl.node_turn x.site.node (turn_of x)) else Err Crashed)).world) stops in
      still w sc.world (ap (λ (z : World). z.clients) is ∙ t.clients) (ap (λ (z : World). z.servers) is ∙ t.servers) (ap (λ (z : World). z.clocks) is ∙ t.clocks) h

-- Locks of files of which something is known have a mode if their servers are there.
abbrev pub ModesHeld : World → Type 0
ModesHeld w = (d : ℕ) (site : WorldClient) → site_of w (client d) ≡ Some site → (a : Association) → Has a site.node.state.associations → There w a.server → (ino : ℕ) → Locked a.session ino → 1 ≤ (held_in a.session ino).mode

-- at one association
free_at : (f : FileId) (p : PageNo) (lease now : ℕ) (xs : List Association) → CutFreeOf f p lease now xs → (a : Association) → Has a xs → Lasts lease now a.session → f.server ≡ a.server → ((held_in a.session f.ino).mode ≡ 0) ⊎ ((q : PageNo) → p.0 ≤ q.0 → Nothing a.store f.ino q)
free_at f p lease now [] h a i = elim i [ ]
free_at f p lease now (x ∷ xs) h a (inl e) = subst (λ (y : Association). Lasts lease now y.session → f.server ≡ y.server → ((held_in y.session f.ino).mode ≡ 0) ⊎ ((q : PageNo) → p.0 ≤ q.0 → Nothing y.store f.ino q)) (sym e) h.one
free_at f p lease now (x ∷ xs) h a (inr i) = free_at f p lease now xs h.rest a i

-- A server takes an input.
module _ (w : World) (modes : ModesHeld w) (h : AllKnow w) where
  module _ (s : ServerId) (node new : ServerNode) (at : node_of w s ≡ Some node) (v : World) (cs : v.clients ≡ w.clients) (ts : v.clocks ≡ w.clocks) (ss : v.servers ≡ with_numbered s.0 new w.servers)
      (keeps : (g : FileId) (p : PageNo) (e : Extent) → extents.extent_of node.state.stable.extents g p ≡ Some e → (extents.extent_of new.state.stable.extents g p ≡ Some e) ⊎ ((from : PageNo) × (from.0 ≤ p.0) × CutFree w g from)) where
    module _ (d : ClientId) (site : WorldClient) (there : site_of w d ≡ Some site) (run : site.node.running ≡ true) (a : Association) (i : Has a site.node.state.associations) (l : Lasts site.node.state.config.lease (clock_of w (nodes.Client d)).0 a.session) (e : KnownExtent) (j : Has e a.store.extents) (k : Locked a.session e.ino) where
      abbrev g : FileId
      g = file_at a.server e.ino

      -- nothing is known of a page that is cut
      uncut : (from : PageNo) × (from.0 ≤ e.page.0) × CutFree w g from → There w a.server → ⊥
      uncut (from, up, free) q = go (free_at g from site.node.state.config.lease (clock_of w (nodes.Client d)).0 site.node.state.associations (free d.0 site (record { there = there; runs = run })) a i l refl)
        where
          go : ((held_in a.session e.ino).mode ≡ 0) ⊎ ((q : PageNo) → from.0 ≤ q.0 → Nothing a.store e.ino q) → ⊥
          go (inl z) = let y = modes d.0 site there a i q e.ino k in omega (arith, z, y)
          go (inr z) = known_found a.store.extents e j (z e.page up).known

      pub lies_still : (m : MappedBlock) → lies w a.server e.ino e.page m → lies v a.server e.ino e.page m
      lies_still m z = which (same_or_not a.server.0 s.0)
        where
          own : (n : ServerNode) → node_of w a.server ≡ Some n → a.server.0 ≡ s.0 → n ≡ node
          own n q r = some_is (sym q ∙ ap (numbered w.servers) r ∙ at)

          now : a.server.0 ≡ s.0 → node_of v a.server ≡ Some new
          now r = ap (λ ns. numbered ns a.server.0) ss ∙ ap (numbered (with_numbered s.0 new w.servers)) r ∙ numbered_own w.servers s.0 new node at

          mapped : a.server.0 ≡ s.0 → extents.extent_of node.state.stable.extents g e.page ≡ Some z.extent
          mapped r = ap (mapped_at g e.page) (sym (ap (numbered w.servers) r ∙ at)) ∙ z.is

          kept : a.server.0 ≡ s.0 → (extents.extent_of new.state.stable.extents g e.page ≡ Some z.extent) ⊎ ((from : PageNo) × (from.0 ≤ e.page.0) × CutFree w g from) → lies v a.server e.ino e.page m
          kept r (inl y) = record { extent = z.extent; is = ap (mapped_at g e.page) (now r) ∙ y; at = z.at; birth = z.birth }
          kept r (inr y) = absurd (uncut y (record { node = node; is = ap (numbered w.servers) r ∙ at }))

          which : (a.server.0 ≡ s.0) ⊎ (a.server.0 ≢ s.0) → lies v a.server e.ino e.page m
          which (inl r) = kept r (keeps g e.page z.extent (mapped r))
          which (inr n) = record { extent = z.extent; is = ap (mapped_at g e.page) (ap (λ ns. numbered ns a.server.0) ss ∙ numbered_other w.servers s.0 a.server.0 new (numbered_below w.servers s.0 node at).0 n) ∙ z.is; at = z.at; birth = z.birth }

    pub node_knows : AllKnow v
    node_knows d site q =
        let there : site_of w d ≡ Some site = ap (λ xs. numbered xs d.0) (sym cs) ∙ q in
        record {
          knows = λ run a i l.
              let u : Lasts site.node.state.config.lease (clock_of w (nodes.Client d)).0 a.session = subst (λ xs. Lasts site.node.state.config.lease (clock_in xs d).0 a.session) ts l in
              λ e j. let z = (h d site there).knows run a i u e j in record { locked = z.locked; is = λ m r. lies_still d site there run a i u e j z.locked m (z.is m r) };
        }

  server_knows : (s : ServerId) (input : ServerInput) (o : Option ServerNode) → node_of w s ≡ o → ((n : ServerNode) → o ≡ Some n → n.state.id ≡ s) → ServerFree w s input o → AllKnow (ev.at_server w s input o).world
  unfolding ev.at_server ev.server_takes ev.server_took server.node_step
  server_knows s input None at ids free = h
  server_knows s input (Some node) at ids free = go node.running free
    where
      u : server.ServerTurn
      u = server.server_step node.state (clock_of w (nodes.Server s)) input

      new : ServerNode
      new = (server.node_turn node u).node

      v : World
      v = (ev.server_says_all s u.out (ev.quiet (ev.with_node s new w))).world

      keeps : TurnFree w (Ok (server.node_turn node u)) → (g : FileId) (p : PageNo) (e : Extent) → extents.extent_of node.state.stable.extents g p ≡ Some e → (extents.extent_of u.state.stable.extents g p ≡ Some e) ⊎ ((from : PageNo) × (from.0 ≤ p.0) × CutFree w g from)
      keeps free g p e q = by (moved node.state.id node.state.stable.extents u.state.stable.extents u.out (step_moves node.state (clock_of w (nodes.Server s)) input) g p e q)
        where
          by : (extents.extent_of u.state.stable.extents g p ≡ Some e) ⊎ CutNoted g p u.out → (extents.extent_of u.state.stable.extents g p ≡ Some e) ⊎ ((from : PageNo) × (from.0 ≤ p.0) × CutFree w g from)
          by (inl z) = inl z
          by (inr z) = inr (z.from, z.up, free g z.from z.noted)

      go : (b : Bool) → TurnFree w (if b then Ok (server.node_turn node u) else Err Crashed) → AllKnow (ev.server_took w s (if b then Ok (server.node_turn node u) else Err Crashed)).world
      go false free = h
      go true free = let y = all_parts s u.out (ev.quiet (ev.with_node s new w)) in node_knows s node new at v y.clients y.clocks y.servers (keeps free)

-- a client without sessions knows nothing
pub empty_knows : (v : World) (c : ClientId) (site : WorldClient) → ((a : Association) → Has a site.node.state.associations → a.store.extents ≡ []) → SiteKnows v c site
empty_knows v c site f = record { knows = λ run a i l e j. absurd (subst (Has e) (f a i) j) }

-- Nobody takes an input.
module _ (w : World) (modes : ModesHeld w) (ids : (s : ServerId) (n : ServerNode) → node_of w s ≡ Some n → n.state.id ≡ s) (h : AllKnow w) where
  at_node : (s : ServerId) (input : ServerInput) → ServerFree w s input (node_of w s) → AllKnow (ev.at_server w s input (node_of w s)).world
  at_node s input free = server_knows w modes h s input (node_of w s) refl (ids s) free

  client_none : (c : ClientId) (input : ClientInput) (o : Option WorldClient) → taking w c input o ≡ None → AllKnow (ev.at_client w c input o).world
  unfolding ev.at_client
  client_none c input None e = h
  client_none c input (Some site) e = absurd (some_not_none _ e)

  ask_none : (c : ClientId) (ask : Ask) (o : Option WorldClient) → asking w c ask o ≡ None → AllKnow (ev.asks_at w c ask o).world
  unfolding ev.asks_at
  ask_none c ask None e = h
  ask_none c ask (Some site) e = absurd (some_not_none _ e)

  node_none : (m : Message) (n : NodeId) → receiving w m n ≡ None → ReceiverFree w m n → AllKnow (ev.delivers_to w m n).world
  unfolding ev.delivers_to
  node_none m (nodes.Client c) e g = client_none c (inputs.Control m) (site_of w c) e
  node_none m (nodes.Server s) e g = at_node s (serving.Control m) g

  message_none : (o : Option SentMessage) → receiving_of w o ≡ None → MessageFree w o → AllKnow (ev.delivers w o).world
  unfolding ev.delivers
  message_none None e g = h
  message_none (Some m) e g = node_none m.message (receiver_of m) e g

  told_none : (v : World) → AllKnow v → (k : ℕ) (ok : Bool) (o : Option IssuedCommand) → told_of v k ok o ≡ None → AllKnow (ev.tells v k ok o).world
  unfolding ev.tells ev.tells_client ev.tells_site
  told_none v n k ok None e = n
  told_none v n k ok (Some y) e = at_site (site_of v y.client) e
    where
      at : (site : WorldClient) (b : Bool) → (if b then taking v y.client (ev.end_told v k ok y) (Some site) else None) ≡ None → AllKnow (if b then ev.client_takes v y.client (ev.end_told v k ok y) site else ev.quiet v).world
      at site true e = absurd (some_not_none _ e)
      at site false e = n

      at_site : (s : Option WorldClient) → told_at v k ok y s ≡ None → AllKnow (ev.tells_client v k ok y s).world
      at_site None e = n
      at_site (Some site) e = at site (ev.is_same_instance y site) e

  -- a server that crashes or starts has its extents
  placed_node : (s : ServerId) (node new : ServerNode) → node_of w s ≡ Some node → new.state.stable.extents ≡ node.state.stable.extents → (v : World) → v.clients ≡ w.clients → v.clocks ≡ w.clocks → v.servers ≡ with_numbered s.0 new w.servers → AllKnow v
  placed_node s node new at same v cs ts ss = node_knows w modes h s node new at v cs ts ss (λ g p e q. inl (ap (λ x. extents.extent_of x g p) same ∙ q))

  pub none_know : (e : Event) → taken w e ≡ None → CutsOwed w e → AllKnow (happens w e).world
  unfolding ev.happens ev.ticks ev.loses_message ev.reports_of ev.advances ev.effects ev.marks ev.crashes ev.crashes_client ev.crashes_server ev.starts ev.starts_client ev.starts_server cl.crash cl.start server.crash server.start server.begin_epoch
  none_know (events.Tick (nodes.Client c)) t o = client_none c inputs.Tick (site_of w c) t
  none_know (events.Tick (nodes.Server s)) t o = at_node s serving.Tick o
  none_know (events.App c ask) t o = ask_none c ask (site_of w c) t
  none_know (events.Deliver n) t o = message_none (message_of w n) t o
  none_know (events.Lose n) t o = go (message_of w n)
    where
      go : (m : Option SentMessage) → AllKnow (ev.loses_message w n m)
      go None = h
      go (Some m) = still w (ev.with_lost n m w) refl refl refl h
  none_know (events.Cut x y) t o = still w (ev.with_cut x y w) refl refl refl h
  none_know (events.Heal x y) t o = still w (ev.without_cut x y w) refl refl refl h
  none_know (events.Advance steps) t o = carried w (ev.advances w steps).world refl refl (clock_up w steps) h
  none_know (events.Effect n) t o = still w (ev.effects w n).world refl refl refl h
  none_know (events.Report n ok) t o = let v : World = ev.with_disks (ev.disks_after w.disks (disks.done w.disks n ok)) w in told_none v (still w v refl refl refl h) n ok (issued_of w n) t
  none_know (events.Crash (nodes.Client c)) t o = go (site_of w c) refl
    where
      go : (s : Option WorldClient) → site_of w c ≡ s → AllKnow (ev.crashes_client w c s).world
      go None e = h
      go (Some site) e = placed w (ev.crashes_client w c (Some site)).world c site (ev.stopped_site site) e refl refl refl (empty_knows _ c (ev.stopped_site site) (λ a i. let z = has_map cl.crashed_association site.node.state.associations a i in ap (λ (y : Association). y.store.extents) z.2)) h
  none_know (events.Crash (nodes.Server s)) t o = go (node_of w s) refl
    where
      go : (n : Option ServerNode) → node_of w s ≡ n → AllKnow (ev.crashes_server w s n)
      go None e = h
      go (Some node) e = placed_node s node (server.crash_node node) e refl (ev.crashes_server w s (Some node)) refl refl refl
  none_know (events.Start (nodes.Client c)) t o = go (site_of w c) refl
    where
      go : (s : Option WorldClient) → site_of w c ≡ s → AllKnow (ev.starts_client w c s)
      go None e = h
      go (Some site) e = placed w (ev.starts_client w c (Some site)) c site (ev.started_site site) e refl refl refl (empty_knows _ c (ev.started_site site) (λ a i. let z = has_map cl.started_association site.node.state.associations a i in ap (λ (y : Association). y.store.extents) z.2)) h
  none_know (events.Start (nodes.Server s)) t o = go (node_of w s) refl
    where
      go : (n : Option ServerNode) → node_of w s ≡ n → AllKnow (ev.starts_server w s n)
      go None e = h
      go (Some node) e = placed_node s node (server.start_node node (clock_of w (nodes.Server s))) e refl (ev.starts_server w s (Some node)) refl refl refl
