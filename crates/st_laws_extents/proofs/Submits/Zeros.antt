-- A map that found no block finds a page of zeros: nothing of the page is pending, and nothing stands for it.
use Rattle.st_lemmas.proofs.Words
use Words.{◌≡◌, ℕ, ◌≤◌, true, false, List, [], ◌∷◌, Option, Some, None, refl, sym, ap, ◌∙◌, subst, inl, inr, is_some, GrantNo, PageNo, Stamp, Ask, Body, Header}
use Words.{Message, ClientInput, HeldLock, Request, LogEntry, DirtyPage}
use Words.nodes
use Words.Page.{filled}
use Words.bodies
use Words.inputs
use Words.Client as cl
use Words.Client.{losses}
use Words.ClientLocks as locks
use Words.ClientPages as pages
use Words.ClientReplies.{is_current, is_grant}
use Words.ClientState.{Association, ClientSession, client_turn}
use Words.Events.{WorldTurn, counted}
use Words.Keys.{client, server_node}
use Words.World.{World, clock_of, numbered, server}
use Words.Lists.{Has}
use Words.Tables.{found_at}
use Rattle.st_protocol.specs.Assoc.{Config}
use Rattle.st_base.specs.Mode.{number_of}
use Rattle.st_laws_refine.specs.Views.Halves.{held_at, held_in}
use Rattle.st_laws_refine.specs.Client.Invariants.{HaveModes, Kept, Lasts}
use Rattle.st_laws_steps.specs.Client.Client.{map_asked, map_in}
use Rattle.st_laws_pages.specs.Disks.Folds.{SettledOn}
use Rattle.st_laws_steps.specs.Lives.Lives.{clock_in}
use Rattle.st_laws_steps.specs.Client.Losses.{Fit, SessionFresh}
use Rattle.st_laws_pages.specs.Disks.World.{PagesHold, mapped_at, mapped_in}
use Rattle.st_laws_pages.proofs.Disks.ReadsFind.{unmapped_finds}
use Rattle.st_laws_leases.specs.Sides.Invariants.{Standing}
use Rattle.st_laws_leases.specs.Sides.World.{AllStand, ServerStands, There}
use Rattle.st_laws_leases.proofs.Sides.Pairs.{only_here}
use Rattle.st_laws_reads.specs.Copies.Copies.{file_at}
use Rattle.st_laws_reads.specs.Copies.World.{Taking, now_at}
use Rattle.st_laws_reads.specs.AllClients.Events.{FrozenStandAlone}
use Rattle.st_laws_reads.specs.AllClients.Obligations.{AllLeft, LeftAt, ReplyLeft}
use Rattle.st_laws_reads.specs.AllClients.Runs.{InputOwed}
use Rattle.st_laws_reads.specs.AllClients.World.{CopiesHold}
use Rattle.st_laws_reads.proofs.AllClients.Behind.{Behind, behind}
use Rattle.st_laws_reads.proofs.AllClients.Settled.{locked_pages_are_settled as settled_law}
use Rattle.st_laws_reads.proofs.AllClients.Takings.{Takes, there_at}
use Rattle.st_laws_extents.specs.Submits.Rest.{InputRest, MapsTold}

-- a lock that is held has a mode
held_mode : (ls : List HeldLock) (ino : ℕ) (l : HeldLock) → HaveModes ls → Has l ls → 1 ≤ number_of l.mode
held_mode [] ino l m i = elim i [ ]
held_mode (x ∷ ls) ino l m (inl e) = subst (λ (y : HeldLock). 1 ≤ number_of y.mode) (sym e) m.one
held_mode (x ∷ ls) ino l m (inr i) = held_mode ls ino l m.rest i

current_held : (ls : List HeldLock) (ino : ℕ) (g : GrantNo) (o : Option HeldLock) → ((l : HeldLock) → o ≡ Some l → Has l ls) → HaveModes ls → is_grant g o ≡ true → 1 ≤ (held_at o).mode
current_held ls ino g None f m q = cc q
current_held ls ino g (Some l) f m q = held_mode ls ino l m (f l refl)

-- a page of which nothing is known is not dirty
unknown_clean : (a : Association) → Fit a → (ino : ℕ) (p : PageNo) → pages.known_of a.store.extents ino p ≡ None → pages.dirty_of a.store.pages ino p ≡ None
unknown_clean a f ino p e = go (pages.dirty_of a.store.pages ino p) refl
  where
    go : (o : Option DirtyPage) → pages.dirty_of a.store.pages ino p ≡ o → o ≡ None
    go None q = refl
    go (Some d) q = let z = f.mapped ino p d q in let y = ap (λ o. is_some (pages.mapping_at o)) (sym e) ∙ z in cc y

asked_fresh : (a : Association) (s : ClientSession) (q : Request) (ino : ℕ) (g : GrantNo) (p : PageNo) → Fit a → a.session ≡ Some s → s.requests.asked ≡ Some q → q.body ≡ bodies.Map ino g p → pages.known_of a.store.extents ino p ≡ None
asked_fresh a s q ino g p f e asked body = (subst (SessionFresh a.store) e f.fresh) (ino, p) (ap map_asked asked ∙ ap map_in body)

-- what is left of each server is left of all
all_left : (es : List LogEntry) (m : Message) (xs : List Association) → ((a : Association) → Has a xs → LeftAt es (inputs.Control m) a) → AllLeft es (inputs.Control m) xs
all_left es m [] f = record {}
all_left es m (a ∷ xs) f = record { one = f a (inl refl); rest = all_left es m xs (λ y i. f y (inr i)) }

module _ (asks : ℕ → ℕ → Option Ask) (k : Config) (count : ℕ) (w : World) (sc : WorldTurn) (x : Taking) (all : AllStand k count w) (copies : CopiesHold asks w) (frozen_lives : FrozenStandAlone w) (holds : PagesHold w) (tk : Takes (counted w) sc x) (runs : x.site.node.running ≡ true) where
  abbrev c : ℕ
  c = x.client.0

  old_runs : tk.old.node.running ≡ true
  old_runs = ap (λ (n : cl.ClientNode). n.running) tk.same ∙ runs

  fit_old : (a : Association) → Has a tk.old.node.state.associations → Fit a
  fit_old = (all.fates.lives.lives.sites (client c) tk.old tk.there).fit

  module _ (a : Association) (i : Has a (losses (client_turn x.site.node.state []) (now_at x)).state.associations) (s : ClientSession) (session : a.session ≡ Some s) where
    b : Behind x.site.node.state (now_at x) a
    b = behind x.client x.site.node.state (now_at x) (subst (λ (n : cl.ClientNode). (y : Association) → Has y n.state.associations → Fit y) tk.same fit_old) a i s session

    here : Has a tk.old.node.state.associations
    here = subst (λ (n : cl.ClientNode). Has a n.state.associations) (sym tk.same) b.was

    lasts : Lasts tk.old.node.state.config.lease (clock_of w (nodes.Client (client c))).0 a.session
    lasts =
        subst (λ (n : cl.ClientNode). Lasts n.state.config.lease (clock_of w (nodes.Client (client c))).0 a.session) (sym tk.same)
        (subst (λ (z : Stamp). Lasts x.site.node.state.config.lease z.0 a.session) (ap (λ ts. clock_in ts (client c)) tk.clocks) b.lasts)

    there : There w a.server
    there = there_at w tk.old.node.state.associations a ((copies c tk.old tk.there).servers) here

    z : ServerStands k w a.server.0 there.node
    z = all.servers a.server.0 there.node there.is

    q : Standing k a.server.0 c tk.old w.ended (z.ghosts c).net
    q = z.both.clients c tk.old tk.there

    modes : HaveModes s.locks.rows
    modes =
        (subst (λ o. Kept a.life.0 a.store o (z.ghosts c).net) session
        (subst (λ (y : Association). Kept y.life.0 y.store y.session (z.ghosts c).net) (sym (only_here a.server.0 tk.old.node.state.associations q.association q.sim.place a here refl)) q.sim.kept)).modes

    zeros_at : (r : Request) (ino : ℕ) (g : GrantNo) (p : PageNo) → s.requests.asked ≡ Some r → r.body ≡ bodies.Map ino g p → is_current s.locks r.body ≡ true → mapped_in x.world (file_at a.server ino) p ≡ None → filled 0 ≡ Rattle.st_rules.specs.FlatLog.content x.world.log (file_at a.server ino) p
    zeros_at r ino g p asked body current none =
        sym (unmapped_finds w (file_at a.server ino) p holds (ap (λ ns. mapped_at (file_at a.server ino) p (numbered ns a.server.0)) (sym tk.servers) ∙ none) settled)
        ∙ ap (λ es. Rattle.st_rules.specs.FlatLog.content es (file_at a.server ino) p) (sym tk.log)
      where
        grant : is_grant g (locks.lock_of s.locks ino) ≡ true
        grant = ap (is_current s.locks) (sym body) ∙ current

        held : 1 ≤ (held_in a.session ino).mode
        held = subst (λ o. 1 ≤ (held_in o ino).mode) (sym session) (current_held s.locks.rows ino g (locks.lock_of s.locks ino) (λ l e. (found_at _ s.locks.rows l e).1) modes grant)

        clean : pages.dirty_of a.store.pages ino p ≡ None
        clean = unknown_clean a (fit_old a here) ino p (asked_fresh a s r ino g p (fit_old a here) session asked body)

        settled : SettledOn (file_at a.server ino) p w.log
        settled = settled_law asks k count w c tk.old a ino p all copies frozen_lives holds.pages.cuts (record { there = tk.there; runs = old_runs }) here lasts held clean

  -- at each server
  replies : (h : Header) (body : Body) → MapsTold x h body → (a : Association) → Has a (losses (client_turn x.site.node.state []) (now_at x)).state.associations → (s : ClientSession) → a.session ≡ Some s → h.from ≡ server_node a.server → h.life ≡ a.life.0 → h.epoch ≡ s.epoch.0 → ReplyLeft x.world.log a s h body
  replies h body maps a i s session from life epoch =
      record { zeros = λ r ino g p asked is_map said counts current. zeros_at a i s session r ino g p asked is_map current (maps a i s r ino g p session from life epoch asked is_map said counts current) }

  pub left : (input : ClientInput) → x.input ≡ input → InputRest x input → InputOwed x input
  left inputs.Tick e r = tt
  left (inputs.App op ask) e r = tt
  left (inputs.Done number result) e r = r
  left (inputs.Control m) e r =
      subst (λ i. AllLeft x.world.log i (losses (client_turn x.site.node.state []) (now_at x)).state.associations) (sym e)
      (all_left x.world.log m (losses (client_turn x.site.node.state []) (now_at x)).state.associations (λ a i s session from life epoch. replies m.header m.body r a i s session from life epoch))

-- A client that does not run has no session.
module _ (w : World) (sc : WorldTurn) (x : Taking) (k : Config) (count : ℕ) (all : AllStand k count w) (tk : Takes (counted w) sc x) (stops : x.site.node.running ≡ false) where
  fits : (a : Association) → Has a x.site.node.state.associations → Fit a
  fits = subst (λ (n : cl.ClientNode). (y : Association) → Has y n.state.associations → Fit y) tk.same (all.fates.lives.lives.sites x.client tk.old tk.there).fit

  no_session : (a : Association) → Has a (losses (client_turn x.site.node.state []) (now_at x)).state.associations → (s : ClientSession) → a.session ≡ Some s → ⊥
  no_session a i s e =
      let b = behind x.client x.site.node.state (now_at x) fits a i s e in
      let z = ((all.fates.lives.lives.sites x.client tk.old tk.there).stopped (ap (λ (n : cl.ClientNode). n.running) tk.same ∙ stops) a (subst (λ (n : cl.ClientNode). Has a n.state.associations) (sym tk.same) b.was)).session in
      none (sym z ∙ e)
    where
      none : ◌≡◌ {A = Option ClientSession} None (Some s) → ⊥
      none z = cc

  pub left_stopped : (input : ClientInput) → x.input ≡ input → InputRest x input → InputOwed x input
  left_stopped inputs.Tick e r = tt
  left_stopped (inputs.App op ask) e r = tt
  left_stopped (inputs.Done number result) e r = r
  left_stopped (inputs.Control m) e r =
      subst (λ i. AllLeft x.world.log i (losses (client_turn x.site.node.state []) (now_at x)).state.associations) (sym e)
      (all_left x.world.log m (losses (client_turn x.site.node.state []) (now_at x)).state.associations (λ a i s session from life epoch. absurd (no_session a i s session)))
