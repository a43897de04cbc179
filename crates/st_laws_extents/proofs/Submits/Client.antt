-- When a client that runs takes an input: each write that it submits is right, and after the latest entries of dirty pages nothing of the page counts.
use Rattle.st_lemmas.proofs.Words
use Words.{◌≡◌, ◌≢◌, ℕ, ◌⊎◌, Bool, true, false, ◌&&◌, List, [], ◌∷◌, ◌++◌, Option, Some, None, Ok, Err, refl, sym, ap, ◌∙◌, subst, inl, inr, arith}
use Words.{if◌then◌else◌, length, eqb-true, ne_eqb, BlockAt, Tag, ClientId, FileId, Life, PageNo, ServerId, Stamp, Ask, Event, Note, Output}
use Words.{LogEntry, DirtyPage, IssuedCommand}
use Words.nodes
use Words.notes
use Words.outputs
use Words.Client as cl
use Words.ClientPages as pages
use Words.ClientState.{Association, ClientState}
use Words.Events as ev
use Words.Events.{WorldTurn, client_says, client_says_all, counted, present_life, world_step}
use Words.FlatLog as log
use Words.FlatLog.{is_of_client, matters, touches}
use Words.Keys.{client, same_file, same_page}
use Words.Safety.{Step}
use Words.World as world
use Words.World.{World, WorldClient, clock_of, life_with, numbered, site_of, with_numbered}
use Words.Lists.{Has}
use Words.Lookups.{some_is}
use Words.Numbers.{numbered_below, numbered_other, numbered_own}
use Words.Tables.{and_true, same_or_not}
use Rattle.st_rules.specs.declared.node.StepRefusal.TheVariants.{Crashed}
use Rattle.st_protocol.specs.Assoc.{Config}
use Rattle.st_laws_refine.specs.Views.Halves.{held_in}
use Rattle.st_laws_refine.specs.Client.Invariants.{Lasts}
use Rattle.st_laws_pages.specs.Flush.Flush.{FlushHold, file_at}
use Rattle.st_laws_pages.specs.Disks.Folds.{CutsHard}
use Rattle.st_laws_steps.specs.Lives.Lives.{LivesHold, clock_in}
use Rattle.st_laws_steps.specs.Client.Losses.{Fit, is_ended}
use Rattle.st_laws_pages.specs.Disks.World.{Living, PagesHold, Timely}
use Rattle.st_laws_pages.proofs.Lives.Lasting.{flush_parts}
use Rattle.st_laws_pages.specs.Asks.Law.{PlacesHold}
use Rattle.st_laws_pages.proofs.Causes.FlushSteps.{BothHold}
use Rattle.st_laws_pages.proofs.Causes.Placed.{Placed, PlacesAt, places_at, step_placed}
use Rattle.st_laws_pages.proofs.Asks.Places.{Knows}
use Rattle.st_laws_pages.specs.Causes.Invariants.{LatestOwn}
use Rattle.st_laws_leases.specs.Sides.World.{AllStand}
use Rattle.st_laws_reads.specs.Copies.Law.{StandsAt}
use Rattle.st_laws_reads.specs.Copies.Copies.{Right}
use Rattle.st_laws_reads.specs.Copies.World.{AllOwn, OwnEntry, Taking, Unheld, WorldKeeps, taken, turn_of}
use Rattle.st_laws_reads.specs.AllClients.Events.{FrozenStandAlone}
use Rattle.st_laws_reads.specs.AllClients.Law.{Running}
use Rattle.st_laws_reads.specs.AllClients.World.{CopiesHold, TakingOwed}
use Rattle.st_laws_reads.proofs.AllClients.Alone.{pending_pages_stand_alone, while_at}
use Rattle.st_laws_reads.proofs.AllClients.Takings.{Takes, keeps, mine, mine_there, there_at}
use Rattle.st_laws_pages.specs.Writes.Writes.{OpenHold, WritesOnce}
use Rattle.st_laws_reads.specs.OpenWrites.StandStill.{WritesHold}
use Rattle.st_laws_reads.proofs.OpenWrites.Alone as alone
use Rattle.st_laws_extents.specs.Submits.WritePlaces.{SubmitsLie}
use Rattle.st_laws_extents.specs.Submits.Submits.{LastIn, LatestLast}
use Rattle.st_laws_extents.proofs.Submits.Last.{last_other}
use Rattle.st_laws_extents.proofs.Submits.Owing.{owes}
use Rattle.st_laws_extents.proofs.Submits.Step.{ends}
use Rattle.st_laws_extents.proofs.Submits.Taking.{Gives, TakenIn}
use Rattle.st_laws_extents.proofs.Submits.Walk.{All}
use Rattle.st_laws_reads.proofs.OpenWrites.Growing.{grows_all}
use Rattle.st_laws_pages.proofs.Lives.Turning.{says_lives}
use Rattle.st_laws_pages.specs.Disks.Obligations.{NodeOwes}
use Rattle.st_laws_pages.proofs.Disks.Folds.{cuts_last}
use Rattle.st_laws_reads.proofs.AllClients.Behind.{lasting}

cuts_one : (c : ClientId) (before : ClientState) (o : Output) (sc : WorldTurn) → CutsHard sc.world.log → CutsHard (client_says sc c before o).world.log
unfolding client_says ev.client_notes ev.sends ev.submits ev.answers_with ev.accepts ev.patches ev.loses log.accept log.patch
cuts_one c before (outputs.Send m) sc h = h
cuts_one c before (outputs.Submit number at what) sc h = go (site_of sc.world c)
  where
    go : (o : Option WorldClient) → CutsHard (ev.submits sc c o number at what).world.log
    go None = h
    go (Some s) = h
cuts_one c before (outputs.Answer o a) sc h = h
cuts_one c before (outputs.Note n) sc h = note n
  where
    note : (n : Note) → CutsHard (ev.client_notes sc c before n).world.log
    note (notes.Accepted f p bytes) = cuts_last sc.world.log _ (λ e. cc e) h
    note (notes.Patched f p at bytes) = cuts_last sc.world.log _ (λ e. cc e) h
    note (notes.Lost s life) = h
    note n = h

cuts_all : (c : ClientId) (before : ClientState) (os : List Output) (sc : WorldTurn) → CutsHard sc.world.log → CutsHard (client_says_all c before os sc).world.log
unfolding client_says_all
cuts_all c before [] sc h = h
cuts_all c before (o ∷ os) sc h = cuts_all c before os (client_says sc c before o) (cuts_one c before o sc h)

-- Entries of other clients, on files of which this one has no lock.
last_more : (c : ℕ) (a : Association) (es more : List LogEntry) → ((e : LogEntry) → Has e more → is_of_client (client c) e.of ≡ false) →
    ((e : LogEntry) → Has e more → (ino : ℕ) (p : PageNo) (d : DirtyPage) → pages.dirty_of a.store.pages ino p ≡ Some d → touches (file_at a ino) p e ≡ true → ⊥) → LatestLast (client c) es a → LatestLast (client c) (es ++ more) a
last_more c a es [] n f h = subst (λ l. LatestLast (client c) l a) (none es) h
  where
    none : (xs : List LogEntry) → xs ≡ xs ++ []
    none [] = refl
    none (x ∷ xs) = ap (λ z. x ∷ z) (none xs)
last_more c a es (e ∷ more) n f h =
    subst (λ l. LatestLast (client c) l a) (assoc es)
    (last_more c a (es ++ e ∷ []) more (λ x i. n x (inr i)) (λ x i. f x (inr i))
    (λ ino p d q. last_other (client c) (file_at a ino) p es e (ap (λ b. b && (same_file e.of.file (file_at a ino) && same_page e.of.page p)) (n e (inl refl))) (untouched ino p d q (touches (file_at a ino) p e) refl) (h ino p d q)))
  where
    assoc : (xs : List LogEntry) → (xs ++ e ∷ []) ++ more ≡ xs ++ e ∷ more
    assoc [] = refl
    assoc (x ∷ xs) = ap (λ z. x ∷ z) (assoc xs)

    untouched : (ino : ℕ) (p : PageNo) (d : DirtyPage) → pages.dirty_of a.store.pages ino p ≡ Some d → (b : Bool) → touches (file_at a ino) p e ≡ b → matters (file_at a ino) p e ≡ false
    untouched ino p d q true t = absurd (f e (inl refl) ino p d q t)
    untouched ino p d q false t = ap (λ z. z && log.counts e.fate) t

module _ (asks : ℕ → ℕ → Option Ask) (k : Config) (count : ℕ) (past more : List Step) (w : World) (e : Event) (sc : WorldTurn) (x : Taking) (all : AllStand k count w) (after : AllStand k count sc.world) (step : world_step w e ≡ Ok sc) (q : taken (counted w) e ≡ Some x) (tk : Takes (counted w) sc x)
    (runs : x.site.node.running ≡ true) (owed : TakingOwed asks x) (copies : CopiesHold asks w) (copies_v : CopiesHold asks sc.world) (places : PlacesHold w) (both : BothHold past w) (flush_v : FlushHold more sc.world) (open_v : OpenHold sc.world) (writes_v : WritesHold k count sc.world)
    (frozen_v : FrozenStandAlone sc.world) (last_w : LastIn w w.log) (pages_w : PagesHold w) (in_ : TakenIn (counted w) x) where
  abbrev c : ℕ
  c = x.client.0

  abbrev W : World
  W = x.world

  there : site_of W (client c) ≡ Some tk.old
  there = ap (λ cs. numbered cs c) tk.clients ∙ tk.there

  lives : LivesHold W
  lives = subst LivesHold (sym in_.is) (record { lives = all.fates.lives.lives; known = all.fates.lives.known })

  counts : length W.commands ≡ length W.disks.commands
  counts = subst (λ (z : World). length z.commands ≡ length z.disks.commands) (sym in_.is) (both.writes.commands.counts ∙ sym in_.open_.count)

  size : length W.servers ≡ length w.servers
  size = ap (λ (ns : List Rattle.st_rules.specs.Server.ServerNode). length ns) tk.servers

  fit : (b : Association) → Has b x.site.node.state.associations → Fit b
  fit = subst (λ (n : cl.ClientNode). (b : Association) → Has b n.state.associations → Fit b) tk.same (lives.lives.sites (client c) tk.old there).fit

  at_places : PlacesAt (length w.servers) w
  at_places = places_at w places

  placed : Placed (length W.servers) (cl.client_step x.site.node.state (clock_of W (nodes.Client (client c))) x.input).out
  placed =
      subst (λ n. Placed n (cl.client_step x.site.node.state (clock_of W (nodes.Client (client c))) x.input).out) (sym size)
      (step_placed (length w.servers) (client c) x.site.node.state (clock_of W (nodes.Client (client c))) x.input in_.tells fit
      (subst (λ (n : cl.ClientNode). (b : Association) → Has b n.state.associations → Knows (length w.servers) b.server b.store.extents) tk.same (at_places.known (client c) tk.old tk.there)))

  old_runs : tk.old.node.running ≡ true
  old_runs = ap (λ (n : cl.ClientNode). n.running) tk.same ∙ runs

  once : (a : Association) → Has a x.site.node.state.associations → WritesOnce a
  once = subst (λ (n : cl.ClientNode). (a : Association) → Has a n.state.associations → WritesOnce a) tk.same (λ a i. ((both.flush.sites (client c) tk.old tk.there old_runs).cared a i).once)

  abbrev V : World
  V = alone.v W c tk.old x.site x.input there tk.same runs lives counts placed once

  abbrev S : WorldTurn
  S = alone.sc0 W c tk.old x.site x.input there tk.same runs lives counts placed once

  goes : sc.world ≡ V
  unfolding ev.client_takes ev.client_took cl.node_step
  goes = ap (λ (z : WorldTurn). z.world) tk.is ∙ ap (λ b. (ev.client_took W x.client x.site (if b then Ok (cl.node_turn x.site.node (turn_of x)) else Err Crashed)).world) runs

  -- what the writes carry, and the latest entries after the step
  abbrev T : cl.NodeTurn
  T = alone.t W c tk.old x.site x.input there tk.same runs lives counts placed once

  abbrev M : WorldClient
  M = alone.mine W c tk.old x.site x.input there tk.same runs lives counts placed once

  own : site_of S.world (client c) ≡ Some M
  own = numbered_own W.clients c M tk.old there

  latest_w : (a : Association) → Has a tk.old.node.state.associations → LatestOwn (client c) W.log a
  latest_w a i = subst (λ es. LatestOwn (client c) es a) (sym tk.log) (both.writes.latest_own (client c) tk.old tk.there old_runs a i)

  old_last : (a : Association) → Has a tk.old.node.state.associations → is_ended x.site.node.state.config (clock_of W (nodes.Client (client c))) a.session ≡ false → LatestLast (client c) W.log a
  old_last a i f =
      subst (λ es. LatestLast (client c) es a) (sym tk.log)
      (last_w c tk.old (record { there = tk.there; runs = old_runs }) a i
      (subst (λ (n : cl.ClientNode). Lasts n.state.config.lease (clock_of w (nodes.Client (client c))).0 a.session) (sym tk.same)
      (subst (λ (z : Stamp). Lasts x.site.node.state.config.lease z.0 a.session) (ap (λ ts. clock_in ts (client c)) tk.clocks) (lasting x.site.node.state.config (clock_of W (nodes.Client (client c))) a.session f))))

  carried : All (length W.servers) (client c) x.site.node.state S M own refl (clock_of W (nodes.Client (client c))) (turn_of x) (turn_of x).state.associations
  unfolding cl.client_step
  carried = ends W (client c) tk.old x.site x.input (clock_of W (nodes.Client (client c))) there tk.same lives (length W.servers) own refl placed latest_w old_last

  log_v : sc.world.log ≡ (client_says_all (client c) x.site.node.state T.out S).world.log
  log_v =
      let u = (client_says_all (client c) x.site.node.state T.out S).world in
      ap (λ (z : World). z.log) goes ∙ (flush_parts (client c) T.node.state (world.all_servers u) u).log

  -- the writes are right
  served : (j : ℕ) (y : IssuedCommand) (a : BlockAt) (g : Tag) (ct : List ℕ) → Living (Timely W) W.commands W.disks.commands j y a g ct → y.server ≡ g.file.server
  served j y a g ct l = (pages_w.pages.carry j y a g ct (older (subst (λ (z : World). Living (Timely z) z.commands z.disks.commands j y a g ct) in_.is l))).server
    where
      older : Living (Timely (ev.with_disks in_.disks (counted w))) w.commands in_.disks.commands j y a g ct → Living (Timely w) w.commands w.disks.commands j y a g ct
      older l = record { issued = l.issued; command = l.command; is = in_.open_.same j l.command l.is l.unreported; what = l.what; unreported = l.unreported; fresh = l.fresh; timely = l.timely }

  kept : WorldKeeps (asks c) x.client W.log sc.world.log (turn_of x)
  kept = keeps asks k count w e sc x all after step q tk owed copies runs

  present : ◌≡◌ {A = ServerId → Life} (life_with (turn_of x).state) (present_life S.world (client c))
  present = ap {B = ServerId → Life} (λ (o : Option WorldClient). λ (s : ServerId). ev.life_of_site s o) (sym own)

  cuts_v : CutsHard sc.world.log
  cuts_v = subst CutsHard (sym log_v) (cuts_all (client c) x.site.node.state T.out S (subst CutsHard (sym tk.log) pages_w.pages.cuts))

  pub gives : SubmitsLie x → Gives x
  unfolding cl.node_step
  gives lies =
      subst (λ b. NodeOwes W x.client x.site (if b then Ok T else Err Crashed)) (sym runs)
      (record {
        outputs =
            owes W c tk.old x.site x.input there tk.same runs lives counts placed once asks k count more (subst (WritesHold k count) goes writes_v) (subst OpenHold goes open_v) (subst (CopiesHold asks) goes copies_v) (subst (FlushHold more) goes flush_v) served
            (subst FrozenStandAlone goes frozen_v) (subst (λ (z : World). CutsHard z.log) goes cuts_v) lies carried.said (subst (λ ls. Right (asks c) x.client ls W.log (turn_of x).out) present kept.right);
      })

  -- and the latest entries stay so
  own_at : (xs : List Association) (es : List LogEntry) (y : LogEntry) → AllOwn x.client xs es → Has y es → OwnEntry x.client xs y
  own_at xs [] y r h = elim h [ ]
  own_at xs (z ∷ es) y r (inl p) = subst (λ (u : LogEntry). OwnEntry x.client xs u) (sym p) r.one
  own_at xs (z ∷ es) y r (inr h) = own_at xs es y r.rest h

  unheld_at : (f : FileId) (l n : ℕ) (xs : List Association) → Unheld f l n xs → (a : Association) → Has a xs → Lasts l n a.session → f.server ≡ a.server → (held_in a.session f.ino).mode ≡ 0
  unheld_at f l n [] r a i = elim i [ ]
  unheld_at f l n (y ∷ xs) r a (inl p) = subst (λ (z : Association). Lasts l n z.session → f.server ≡ z.server → (held_in z.session f.ino).mode ≡ 0) (sym p) r.one
  unheld_at f l n (y ∷ xs) r a (inr i) = unheld_at f l n xs r.rest a i

  has_behind : (es fs : List LogEntry) (y : LogEntry) → Has y fs → Has y (es ++ fs)
  has_behind [] fs y h = h
  has_behind (z ∷ es) fs y h = inr (has_behind es fs y h)

  left : site_of sc.world (client c) ≡ Some M
  left = mine_there asks k count w e sc x all after step q tk owed copies runs

  clients_v : sc.world.clients ≡ with_numbered c M W.clients
  clients_v = ap (λ (z : World). z.clients) goes ∙ (flush_parts (client c) T.node.state (world.all_servers (client_says_all (client c) x.site.node.state T.out S).world) (client_says_all (client c) x.site.node.state T.out S).world).clients ∙ (grows_all (client c) x.site.node.state T.out S).clients

  clocks_v : (d : ℕ) → clock_of sc.world (nodes.Client (client d)) ≡ clock_of w (nodes.Client (client d))
  clocks_v d = ap (λ ts. clock_in ts (client d)) (ap (λ (z : World). z.clocks) goes ∙ (flush_parts (client c) T.node.state (world.all_servers (client_says_all (client c) x.site.node.state T.out S).world) (client_says_all (client c) x.site.node.state T.out S).world).clocks ∙ (says_lives (client c) x.site.node.state T.out S).clocks ∙ tk.clocks)

  joined : sc.world.log ≡ w.log ++ kept.more
  joined = kept.joined ∙ ap (λ l. l ++ kept.more) tk.log

  others : (d : ℕ) (site : WorldClient) → d ≢ c → Running sc.world d site → (a : Association) → Has a site.node.state.associations → Lasts site.node.state.config.lease (clock_of sc.world (nodes.Client (client d))).0 a.session → LatestLast (client d) sc.world.log a
  others d site n run a i l =
      subst (λ es. LatestLast (client d) es a) (sym joined)
      (last_more d a w.log kept.more foreign untouched
      (last_w d site (record { there = was; runs = run.runs }) a i (subst (λ (z : Stamp). Lasts site.node.state.config.lease z.0 a.session) (clocks_v d) l)))
    where
      was : site_of w (client d) ≡ Some site
      was = sym (ap (λ cs. numbered cs d) clients_v ∙ numbered_other W.clients c d M (numbered_below W.clients c tk.old there).0 n ∙ ap (λ cs. numbered cs d) tk.clients) ∙ run.there

      mine_of : (y : LogEntry) → Has y kept.more → OwnEntry x.client (turn_of x).state.associations y
      mine_of y h = own_at (turn_of x).state.associations kept.more y kept.own h

      foreign : (y : LogEntry) → Has y kept.more → is_of_client (client d) y.of ≡ false
      foreign y h = ne_eqb y.of.client.0 d (λ z. n (sym z ∙ eqb-true y.of.client.0 c (and_true (is_of_client x.client y.of) _ (mine_of y h).own).0))

      untouched : (y : LogEntry) → Has y kept.more → (ino : ℕ) (p : PageNo) (dp : DirtyPage) → pages.dirty_of a.store.pages ino p ≡ Some dp → touches (file_at a ino) p y ≡ true → ⊥
      untouched y h ino p dp dirty t =
          let o = mine_of y h in
          let s : StandsAt (client d) sc.world.log a = (while_at _ _ (client d) sc.world.log site.node.state.associations a ((copies_v d site run.there).runs run.runs).copies i).lasting l in
          let m = (s.pages ino p).mode dp dirty in
          let f = and_true (same_file y.of.file (file_at a ino)) _ t in
          let g = and_true (Rattle.st_rules.specs.Keys.same_server y.of.file.server a.server) _ f.0 in
          let u = pending_pages_stand_alone (asks c) k count sc.world c d M site o.association y after (λ z. n (sym z)) (record { there = left; runs = runs }) run ((copies_v c M left).runs runs) o.listed
          (record { logged = subst (λ l. Has y l) (sym joined) (has_behind w.log kept.more y h); pending = o.pending; own = o.own; server = there_at sc.world (turn_of x).state.associations o.association ((copies_v c M left).servers) o.listed }) in
          let z = unheld_at y.of.file site.node.state.config.lease (clock_of sc.world (nodes.Client (client d))).0 site.node.state.associations u a i l (ap (λ v. record { 0 = v }) (eqb-true y.of.file.server.0 a.server.0 g.0)) in
          let e = ap (λ v. (held_in a.session v).mode) (eqb-true y.of.file.ino ino g.1) in
          omega (arith, m, z, e)

  pub last_v : LastIn sc.world sc.world.log
  last_v d site run a i l = go (same_or_not d c)
    where
      go : (d ≡ c) ⊎ (d ≢ c) → LatestLast (client d) sc.world.log a
      go (inr n) = others d site n run a i l
      go (inl z) =
          let s : M ≡ site = some_is (sym left ∙ ap (λ n. site_of sc.world (client n)) (sym z) ∙ run.there) in
          subst (λ n. LatestLast (client n) sc.world.log a) (sym z)
          (subst (λ es. LatestLast (client c) es a) (sym log_v) (carried.fine a (subst (λ (y : WorldClient). Has a y.node.state.associations) (sym s) i)).last)
