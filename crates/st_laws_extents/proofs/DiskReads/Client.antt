-- Outstanding reads when a client that runs takes an input.
use Rattle.st_lemmas.proofs.Words
use Words.{◌≡◌, ◌≢◌, ℕ, ◌≤◌, ◌⊎◌, true, ◌&&◌, ◌==◌, not, List, [], ◌∷◌, ◌++◌, Option, Some, None, Ok, Err, refl, sym, ap, ◌∙◌, subst, inl, inr, arith}
use Words.{if◌then◌else◌, length, map, eq-eqb, eqb-true, Command, ClientId, FileId, PageNo, ServerId, Stamp, Ask, Event, PageCommand, Block}
use Words.{DiskCommand, LogEntry, Carried, IssuedCommand}
use Words.commands
use Words.nodes
use Words.outputs
use Words.io
use Words.Client as cl
use Words.ClientPages as pages
use Words.ClientState.{Association}
use Words.Disks as disks
use Words.Disks.{Disks}
use Words.Events as ev
use Words.Events.{WorldTurn, client_says_all, counted, world_step}
use Words.FlatLog.{content, touches}
use Words.Keys.{client, same_file, same_page}
use Words.Safety.{Step}
use Words.World as world
use Words.World.{World, WorldClient, clock_of, numbered, site_of, with_numbered}
use Words.Lists.{Has}
use Words.Lookups.{some_is}
use Words.Numbers.{numbered_below, numbered_has, numbered_other, numbered_own}
use Words.Tables.{and_both, and_true, same_or_not, some_passes}
use Rattle.st_rules.specs.declared.node.StepRefusal.TheVariants.{Crashed}
use Rattle.st_protocol.specs.Assoc.{Config}
use Rattle.st_laws_refine.specs.Views.Halves.{held_in}
use Rattle.st_laws_refine.specs.Client.Invariants.{Lasts}
use Rattle.st_laws_pages.specs.Flush.Flush.{IsIts, file_at}
use Rattle.st_laws_steps.specs.Lives.Lives.{LivesHold, Once, clock_in, server_number}
use Rattle.st_laws_steps.specs.Client.Losses.{Fit}
use Rattle.st_laws_pages.specs.Disks.World.{mapped_at, mapped_in}
use Rattle.st_laws_pages.proofs.Lives.Each.{SteppedNode}
use Rattle.st_laws_pages.proofs.Lives.Lasting.{flush_parts}
use Rattle.st_laws_pages.proofs.Lives.Turning.{says_lives}
use Rattle.st_laws_pages.proofs.Causes.FlushSteps.{BothHold, flushes_disks}
use Rattle.st_laws_leases.specs.Sides.World.{AllStand}
use Rattle.st_laws_reads.specs.Copies.Law.{StandsAt}
use Rattle.st_laws_reads.specs.Copies.World.{AllOwn, OwnEntry, Taking, Unheld, WorldKeeps, taken, turn_of}
use Rattle.st_laws_reads.specs.AllClients.Law.{Running}
use Rattle.st_laws_reads.specs.AllClients.World.{CopiesHold, TakingOwed}
use Rattle.st_laws_reads.proofs.AllClients.Alone.{pending_pages_stand_alone, while_at}
use Rattle.st_laws_reads.proofs.AllClients.Takings.{Takes, keeps, mine_there, there_at}
use Rattle.st_laws_pages.proofs.Writes.Joining.{IsNew, all_say}
use Rattle.st_laws_reads.proofs.OpenWrites.Growing.{grows_all}
use Rattle.st_laws_extents.proofs.Submits.Taking.{TakenIn, WasCommand}
use Rattle.st_laws_extents.specs.DiskReads.OutstandingReads.{ReadsClean}
use Rattle.st_laws_extents.specs.DiskReads.Reads.{EachRight, ReadRight, ReadsHold, ReadsLie}
use Rattle.st_laws_extents.proofs.DiskReads.Contents.{content_others, content_said}
use Rattle.st_laws_extents.proofs.DiskReads.Step.{ReadStays, all_behind, reads_behind}
use Rattle.st_laws_reads.proofs.AllClients.Behind.{lasting}

-- a read of a page is outstanding
pub being_read : (a : Association) (pc : PageCommand) → Has pc a.store.commands → pc.kind ≡ io.Read → pages.is_being_read a.store.commands pc.ino pc.page ≡ true
being_read a pc i k =
    some_passes (pages.is_read_of pc.ino pc.page) a.store.commands pc i
    (ap (λ z. not (pages.is_write z) && ((pc.ino == pc.ino) && same_page pc.page pc.page)) k ∙ and_both (pc.ino == pc.ino) (same_page pc.page pc.page) (eq-eqb pc.ino pc.ino refl) (eq-eqb pc.page.0 pc.page.0 refl))

module _ (asks : ℕ → ℕ → Option Ask) (k : Config) (count : ℕ) (past more : List Step) (w : World) (e : Event) (sc : WorldTurn) (x : Taking) (all : AllStand k count w) (after : AllStand k count sc.world) (step : world_step w e ≡ Ok sc) (q : taken (counted w) e ≡ Some x) (tk : Takes (counted w) sc x)
    (runs : x.site.node.running ≡ true) (owed : TakingOwed asks x) (copies : CopiesHold asks w) (copies_v : CopiesHold asks sc.world) (both : BothHold past w) (both_v : BothHold more sc.world) (in_ : TakenIn (counted w) x) (reads_w : ReadsHold w w.log) (lies : ReadsLie x) where
  abbrev c : ℕ
  c = x.client.0

  abbrev W : World
  W = x.world

  abbrev T : cl.NodeTurn
  T = SteppedNode W (client c) x.site x.input

  abbrev M : WorldClient
  M = ev.at_node T.node x.site

  abbrev S : WorldTurn
  S = ev.quiet (ev.with_site (client c) M W)

  abbrev U : World
  U = (client_says_all (client c) x.site.node.state T.out S).world

  there : site_of W (client c) ≡ Some tk.old
  there = ap (λ cs. numbered cs c) tk.clients ∙ tk.there

  lives : LivesHold W
  lives = subst LivesHold (sym in_.is) (record { lives = all.fates.lives.lives; known = all.fates.lives.known })

  counts : length W.commands ≡ length W.disks.commands
  counts = subst (λ (z : World). length z.commands ≡ length z.disks.commands) (sym in_.is) (both.writes.commands.counts ∙ sym in_.open_.count)

  fit : (b : Association) → Has b x.site.node.state.associations → Fit b
  fit = subst (λ (n : cl.ClientNode). (b : Association) → Has b n.state.associations → Fit b) tk.same (lives.lives.sites (client c) tk.old there).fit

  once : Once (map server_number x.site.node.state.associations)
  once = subst (λ (n : cl.ClientNode). Once (map server_number n.state.associations)) tk.same (lives.lives.sites (client c) tk.old there).once

  old_runs : tk.old.node.running ≡ true
  old_runs = ap (λ (n : cl.ClientNode). n.running) tk.same ∙ runs

  old_run : Running w c tk.old
  old_run = record { there = tk.there; runs = old_runs }

  clean_old : (a : Association) → Has a x.site.node.state.associations → ReadsClean a.store
  clean_old = subst (λ (n : cl.ClientNode). (a : Association) → Has a n.state.associations → ReadsClean a.store) tk.same (reads_w.clean c tk.old old_run)

  goes : sc.world ≡ ev.flushes (client c) T.node.state (world.all_servers U) U
  unfolding ev.client_takes ev.client_took cl.node_step
  goes = ap (λ (z : WorldTurn). z.world) tk.is ∙ ap (λ b. (ev.client_took W x.client x.site (if b then Ok (cl.node_turn x.site.node (turn_of x)) else Err Crashed)).world) runs

  servers_v : sc.world.servers ≡ w.servers
  servers_v = ap (λ (z : World). z.servers) goes ∙ (flush_parts (client c) T.node.state (world.all_servers U) U).servers ∙ (grows_all (client c) x.site.node.state T.out S).servers ∙ tk.servers

  log_v : sc.world.log ≡ U.log
  log_v = ap (λ (z : World). z.log) goes ∙ (flush_parts (client c) T.node.state (world.all_servers U) U).log

  clients_v : sc.world.clients ≡ with_numbered c M W.clients
  clients_v = ap (λ (z : World). z.clients) goes ∙ (flush_parts (client c) T.node.state (world.all_servers U) U).clients ∙ (grows_all (client c) x.site.node.state T.out S).clients

  clocks_v : (d : ℕ) → clock_of sc.world (nodes.Client (client d)) ≡ clock_of w (nodes.Client (client d))
  clocks_v d = ap (λ ts. clock_in ts (client d)) (ap (λ (z : World). z.clocks) goes ∙ (flush_parts (client c) T.node.state (world.all_servers U) U).clocks ∙ (says_lives (client c) x.site.node.state T.out S).clocks ∙ tk.clocks)

  own : site_of S.world (client c) ≡ Some M
  own = numbered_own W.clients c M tk.old there

  left : site_of sc.world (client c) ≡ Some M
  left = mine_there asks k count w e sc x all after step q tk owed copies runs

  kept : WorldKeeps (asks c) x.client W.log sc.world.log (turn_of x)
  kept = keeps asks k count w e sc x all after step q tk owed copies runs

  joined : sc.world.log ≡ w.log ++ kept.more
  joined = kept.joined ∙ ap (λ l. l ++ kept.more) tk.log

  -- commands after the step
  from : (j : ℕ) (y : IssuedCommand) (d : DiskCommand) → numbered sc.world.commands j ≡ Some y → disks.command_at sc.world.disks.commands j ≡ Some d →
      ((numbered W.commands j ≡ Some y) × (disks.command_at W.disks.commands j ≡ Some d)) ⊎ IsNew (client c) M (length W.servers) T.out y d
  from j y d i h =
      all_say (client c) x.site.node.state M (length W.servers) T.out S (record { own = own; counts = counts; servers = refl }) j y d (
        ap (λ xs. numbered xs j) (sym (ap (λ (z : World). z.commands) goes ∙ (flush_parts (client c) T.node.state (world.all_servers U) U).commands)) ∙ i,
        ap (λ (z : Disks). disks.command_at z.commands j) (sym (ap (λ (z : World). z.disks) goes ∙ flushes_disks (client c) T.node.state (world.all_servers U) U)) ∙ h,
      )

  in_w : (j : ℕ) (y : IssuedCommand) → numbered W.commands j ≡ Some y → numbered w.commands j ≡ Some y
  in_w j y i = subst (λ (z : World). numbered z.commands j ≡ Some y) in_.is i

  was : (j : ℕ) (d : DiskCommand) → disks.command_at W.disks.commands j ≡ Some d → WasCommand w.disks j d
  was j d h = in_.open_.was j d (subst (λ (z : World). disks.command_at z.disks.commands j ≡ Some d) in_.is h)

  mapped_same : (f : FileId) (p : PageNo) → mapped_in sc.world f p ≡ mapped_in w f p
  mapped_same f p = ap (λ ns. mapped_at f p (numbered ns f.server.0)) servers_v

  mapped_there : (f : FileId) (p : PageNo) → mapped_in sc.world f p ≡ mapped_in W f p
  mapped_there f p = mapped_same f p ∙ ap (λ ns. mapped_at f p (numbered ns f.server.0)) (sym tk.servers)

  -- a read that the step submits
  new_right : (b : Association) → Has b M.node.state.associations → (pc : PageCommand) → Has pc b.store.commands → pc.kind ≡ io.Read → (j : ℕ) (y : IssuedCommand) (d : DiskCommand) → numbered sc.world.commands j ≡ Some y → disks.command_at sc.world.disks.commands j ≡ Some d → IsIts (client c) M.starts pc.number y →
      IsNew (client c) M (length W.servers) T.out y d → ReadRight sc.world sc.world.log b pc d
  new_right b i pc m r j y d yi di its n = go n.what refl
    where
      carries : y.carries ≡ None
      carries = ((both_v.flush.sites (client c) M left runs).cared b i).reads pc m r j y yi its

      none_some : (z : Carried) → ◌≡◌ {A = Option Carried} None (Some z) → ⊥
      none_some z h = cc

      no_sample : (u : Block) → ◌≡◌ {A = Option Block} None (Some u) → ⊥
      no_sample u z = cc

      go : (wh : Command) → n.what ≡ wh → ReadRight sc.world sc.world.log b pc d
      go (commands.Write at tag bytes) h = let z = both_v.writes.commands.writes j y d at tag bytes yi di (n.what_is ∙ h) in absurd (none_some z.carried (sym carries ∙ z.is))
      go (commands.Read to) h =
          let l = lies runs b i pc m r n.at to (subst (λ v. Has (outputs.Submit v n.at (commands.Read to)) T.out) its.number_is (subst (λ v. Has (outputs.Submit y.number n.at v) T.out) h n.said)) in
          record { extent = l.extent; is = mapped_there (file_at b pc.ino) pc.page ∙ l.is; what = n.what_is ∙ h ∙ ap (λ v. commands.Read v) (sym l.at); sampled = λ u z. absurd (no_sample u (sym n.fresh ∙ z)) }

  -- one that was outstanding
  old_right : (b : Association) → Has b M.node.state.associations → (pc : PageCommand) → pc.kind ≡ io.Read → ReadStays (client c) x.site.node.state (clock_of W (nodes.Client (client c))) x.input fit once clean_old b pc → (j : ℕ) (y : IssuedCommand) (d : DiskCommand) →
      numbered W.commands j ≡ Some y → disks.command_at W.disks.commands j ≡ Some d → IsIts (client c) M.starts pc.number y → ReadRight sc.world sc.world.log b pc d
  old_right b i pc r st j y d yi di its =
      record {
        extent = z.extent;
        is = mapped_same (file_at b pc.ino) pc.page ∙ ap (λ f. mapped_in w f pc.page) (sym file) ∙ z.is;
        what = o.what ∙ z.what;
        sampled = λ u g. subst (λ f. Rattle.st_rules.specs.ClientPages.found_under f pc.page u.tag u.bytes (Rattle.st_laws_pages.specs.Disks.Pages.mapping_of z.extent) ≡ content sc.world.log f pc.page) file (z.sampled u (sym o.sample ∙ g) ∙ same);
      }
    where
      o : WasCommand w.disks j d
      o = was j d di

      file : file_at st.a pc.ino ≡ file_at b pc.ino
      file = ap (λ (s : ServerId). record { server = s; ino = pc.ino }) st.server

      among : Has st.a tk.old.node.state.associations
      among = subst (λ (n : cl.ClientNode). Has st.a n.state.associations) (sym tk.same) st.among

      lasts : Lasts tk.old.node.state.config.lease (clock_of w (nodes.Client (client c))).0 st.a.session
      lasts =
          subst (λ (n : cl.ClientNode). Lasts n.state.config.lease (clock_of w (nodes.Client (client c))).0 st.a.session) (sym tk.same)
          (subst (λ (s : Stamp). Lasts x.site.node.state.config.lease s.0 st.a.session) (ap (λ ts. clock_in ts (client c)) tk.clocks) (lasting x.site.node.state.config (clock_of W (nodes.Client (client c))) st.a.session st.lasted))

      z : ReadRight w w.log st.a pc (was j d di).command
      z = reads_w.right c tk.old old_run st.a among lasts pc st.command r j y (was j d di).command (in_w j y yi) (record { client = its.client; instance_ = its.instance_ ∙ sym (in_.starts tk.old tk.there); number_is = its.number_is }) (was j d di).is

      same : content w.log (file_at st.a pc.ino) pc.page ≡ content sc.world.log (file_at st.a pc.ino) pc.page
      same =
          sym (ap (λ l. content l (file_at st.a pc.ino) pc.page) log_v ∙ content_said (client c) x.site.node.state b.server pc (file_at st.a pc.ino) st.server refl T.out S (behind st.unchanged) ∙ ap (λ l. content l (file_at st.a pc.ino) pc.page) tk.log)
        where
          behind : Rattle.st_laws_extents.specs.DiskReads.OutstandingReads.Unchanged b.server pc (cl.client_step x.site.node.state (clock_of W (nodes.Client (client c))) x.input).out → Rattle.st_laws_extents.specs.DiskReads.OutstandingReads.Unchanged b.server pc T.out
          behind u = u

  own_reads : (b : Association) → Has b M.node.state.associations → (pc : PageCommand) → Has pc b.store.commands → pc.kind ≡ io.Read → EachRight sc.world sc.world.log c M b pc
  own_reads b i pc m r j y d yi its di = go (from j y d yi di)
    where
      below : (numbered W.commands j ≡ Some y) → x.site.node.state.next_command ≤ pc.number → ⊥
      below yo l =
          let z = (both.flush.sites (client c) tk.old tk.there old_runs).numbers y (numbered_has w.commands j y (in_w j y yo)) its.client (its.instance_ ∙ sym (in_.starts tk.old tk.there)) in
          let n = ap (λ (n : cl.ClientNode). n.state.next_command) tk.same in
          let g = its.number_is in omega (arith, z, n, l, g)

      go : ((numbered W.commands j ≡ Some y) × (disks.command_at W.disks.commands j ≡ Some d)) ⊎ IsNew (client c) M (length W.servers) T.out y d → ReadRight sc.world sc.world.log b pc d
      go (inr n) = new_right b i pc m r j y d yi di its n
      go (inl o) = at (reads_behind (client c) x.site.node.state (clock_of W (nodes.Client (client c))) x.input fit once clean_old b i pc m r)
        where
          at : ReadStays (client c) x.site.node.state (clock_of W (nodes.Client (client c))) x.input fit once clean_old b pc ⊎ (x.site.node.state.next_command ≤ pc.number) → ReadRight sc.world sc.world.log b pc d
          at (inl st) = old_right b i pc r st j y d o.0 o.1 its
          at (inr l) = absurd (below o.0 l)

  -- Reads of other clients.
  own_at : (xs : List Association) (es : List LogEntry) (y : LogEntry) → AllOwn x.client xs es → Has y es → OwnEntry x.client xs y
  own_at xs [] y r h = elim h [ ]
  own_at xs (z ∷ es) y r (inl p) = subst (λ (u : LogEntry). OwnEntry x.client xs u) (sym p) r.one
  own_at xs (z ∷ es) y r (inr h) = own_at xs es y r.rest h

  unheld_at : (f : FileId) (l n : ℕ) (xs : List Association) → Unheld f l n xs → (a : Association) → Has a xs → Lasts l n a.session → f.server ≡ a.server → (held_in a.session f.ino).mode ≡ 0
  unheld_at f l n [] r a i = elim i [ ]
  unheld_at f l n (y ∷ xs) r a (inl p) = subst (λ (z : Association). Lasts l n z.session → f.server ≡ z.server → (held_in z.session f.ino).mode ≡ 0) (sym p) r.one
  unheld_at f l n (y ∷ xs) r a (inr i) = unheld_at f l n xs r.rest a i

  has_behind : (es fs : List LogEntry) (y : LogEntry) → Has y fs → Has y (es ++ fs)
  has_behind [] fs y h = h
  has_behind (z ∷ es) fs y h = inr (has_behind es fs y h)

  module _ (d : ℕ) (site : WorldClient) (n : d ≢ c) (run : Running sc.world d site) where
    before : Running w d site
    before = record { there = sym (ap (λ cs. numbered cs d) clients_v ∙ numbered_other W.clients c d M (numbered_below W.clients c tk.old there).0 n ∙ ap (λ cs. numbered cs d) tk.clients) ∙ run.there; runs = run.runs }

    other_reads : (a : Association) → Has a site.node.state.associations → Lasts site.node.state.config.lease (clock_of sc.world (nodes.Client (client d))).0 a.session → (pc : PageCommand) → Has pc a.store.commands → pc.kind ≡ io.Read → EachRight sc.world sc.world.log d site a pc
    other_reads a i l pc m r j y dc yi its di = go (from j y dc yi di)
      where
        lasts : Lasts site.node.state.config.lease (clock_of w (nodes.Client (client d))).0 a.session
        lasts = subst (λ (z : Stamp). Lasts site.node.state.config.lease z.0 a.session) (clocks_v d) l

        untouched : (z : LogEntry) → Has z kept.more → touches (file_at a pc.ino) pc.page z ≡ true → ⊥
        untouched z h t =
            let o = own_at (turn_of x).state.associations kept.more z kept.own h in
            let s : StandsAt (client d) sc.world.log a = (while_at _ _ (client d) sc.world.log site.node.state.associations a ((copies_v d site run.there).runs run.runs).copies i).lasting l in
            let held = (s.pages pc.ino pc.page).reading (being_read a pc m r) in
            let f = and_true (same_file z.of.file (file_at a pc.ino)) _ t in
            let g = and_true (Rattle.st_rules.specs.Keys.same_server z.of.file.server a.server) _ f.0 in
            let u = pending_pages_stand_alone (asks c) k count sc.world c d M site o.association z after (λ v. n (sym v)) (record { there = left; runs = runs }) run ((copies_v c M left).runs runs) o.listed
            (record { logged = subst (λ l. Has z l) (sym joined) (has_behind w.log kept.more z h); pending = o.pending; own = o.own; server = there_at sc.world (turn_of x).state.associations o.association ((copies_v c M left).servers) o.listed }) in
            let v = unheld_at z.of.file site.node.state.config.lease (clock_of sc.world (nodes.Client (client d))).0 site.node.state.associations u a i l (ap (λ v. record { 0 = v }) (eqb-true z.of.file.server.0 a.server.0 g.0)) in
            let e = ap (λ v. (held_in a.session v).mode) (eqb-true z.of.file.ino pc.ino g.1) in
            omega (arith, held, v, e)

        of_old : (numbered W.commands j ≡ Some y) → (h : disks.command_at W.disks.commands j ≡ Some dc) → ReadRight w w.log a pc (was j dc h).command
        of_old yo h = reads_w.right d site before a i lasts pc m r j y (was j dc h).command (in_w j y yo) its (was j dc h).is

        go : ((numbered W.commands j ≡ Some y) × (disks.command_at W.disks.commands j ≡ Some dc)) ⊎ IsNew (client c) M (length W.servers) T.out y dc → ReadRight sc.world sc.world.log a pc dc
        go (inr z) = absurd (n (ap (λ (v : ClientId). v.0) (sym its.client ∙ z.client)))
        go (inl o) =
            let z = of_old o.0 o.1 in
            let b = was j dc o.1 in
            record {
              extent = z.extent;
              is = mapped_same (file_at a pc.ino) pc.page ∙ z.is;
              what = b.what ∙ z.what;
              sampled = λ u g. z.sampled u (sym b.sample ∙ g) ∙ sym (ap (λ l. content l (file_at a pc.ino) pc.page) joined ∙ content_others (file_at a pc.ino) pc.page w.log kept.more untouched);
            }

  pub reads_taken : ReadsHold sc.world sc.world.log
  reads_taken = record { clean = λ d site run a i. clean d site run a i (same_or_not d c); right = λ d site run a i l pc m r. right d site run a i l pc m r (same_or_not d c) }
    where
      same_site : (d : ℕ) (site : WorldClient) → Running sc.world d site → d ≡ c → M ≡ site
      same_site d site run z = some_is (sym left ∙ ap (λ n. site_of sc.world (client n)) (sym z) ∙ run.there)

      clean : (d : ℕ) (site : WorldClient) → Running sc.world d site → (a : Association) → Has a site.node.state.associations → (d ≡ c) ⊎ (d ≢ c) → ReadsClean a.store
      clean d site run a i (inl z) =
          ((all_behind (client c) x.site.node.state (clock_of W (nodes.Client (client c))) x.input fit once clean_old).fine a (subst (λ (y : WorldClient). Has a y.node.state.associations) (sym (same_site d site run z)) i)).clean
      clean d site run a i (inr n) = reads_w.clean d site (before d site n run) a i

      right : (d : ℕ) (site : WorldClient) → Running sc.world d site → (a : Association) → Has a site.node.state.associations → Lasts site.node.state.config.lease (clock_of sc.world (nodes.Client (client d))).0 a.session → (pc : PageCommand) → Has pc a.store.commands → pc.kind ≡ io.Read → (d ≡ c) ⊎ (d ≢ c) → EachRight sc.world sc.world.log d site a pc
      right d site run a i l pc m r (inr n) = other_reads d site n run a i l pc m r
      right d site run a i l pc m r (inl z) =
          subst (λ v. EachRight sc.world sc.world.log v site a pc) (sym z)
          (subst (λ (y : WorldClient). EachRight sc.world sc.world.log c y a pc) (same_site d site run z) (own_reads a (subst (λ (y : WorldClient). Has a y.node.state.associations) (sym (same_site d site run z)) i) pc m r))
