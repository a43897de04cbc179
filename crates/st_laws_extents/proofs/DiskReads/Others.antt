-- Outstanding reads through each event at which no client takes an input.
use Rattle.st_lemmas.proofs.Words
use Words.{◌≡◌, ◌≢◌, ℕ, zero, suc, ◌≤◌, ◌⊎◌, Bool, true, false, ◌&&◌, ◌==◌, List, [], ◌∷◌, Option, Some, None, Ok, Err, refl, sym, ap, ◌∙◌, subst, inl, inr}
use Words.{arith, if◌then◌else◌, nat_le, eqb-true, leb-true, BlockAt, Command, ClientId, FileId, NodeId, PageNo, ServerId, Stamp, Ask, Event, Message, Note}
use Words.{Output, PageCommand, Block, DiskCommand, Extent, ServerInput, LogEntry, Carried, IssuedCommand, LeaseLife, SentMessage}
use Words.Page.{filled}
use Words.commands
use Words.nodes
use Words.events
use Words.notes
use Words.outputs
use Words.inputs
use Words.io
use Words.serving
use Words.Admissible as adm
use Words.Client as cl
use Words.ClientPages as pages
use Words.ClientPages.{found_under}
use Words.ClientState.{Association, ClientSession}
use Words.Disks as disks
use Words.Events as ev
use Words.Events.{happens}
use Words.Extents as extents
use Words.Extents.{Extents}
use Words.FlatLog as log
use Words.FlatLog.{content, hard_cut, touches}
use Words.Keys.{client, same_file}
use Words.Server as server
use Words.Server.{ServerNode}
use Words.World.{World, WorldClient, clock_of, issued_of, message_of, node_of, numbered, receiver_of, site_of, with_numbered}
use Words.Lists.{Has}
use Words.Lookups.{some_is}
use Words.Numbers.{numbered_below, numbered_other, numbered_own}
use Words.Tables.{and_true, has_map, same_or_not}
use Words.Truth.{file_is, file_self, some_not_none}
use Rattle.st_rules.specs.declared.node.StepRefusal.TheVariants.{Crashed}
use Rattle.st_protocol.specs.Assoc.{Config}
use Rattle.st_lemmas.proofs.Contents.{find_stays}
use Rattle.st_lemmas.proofs.Marks.{content_hard}
use Rattle.st_laws_refine.specs.Views.Halves.{held_in}
use Rattle.st_laws_refine.specs.Client.Invariants.{Lasts}
use Rattle.st_laws_pages.specs.Flush.Flush.{IsIts, file_at}
use Rattle.st_laws_pages.specs.Disks.Folds.{SettledOn}
use Rattle.st_laws_steps.specs.Lives.Lives.{clock_in}
use Rattle.st_laws_pages.specs.Disks.Pages.{mapping_of}
use Rattle.st_laws_pages.specs.Disks.World.{Cuts, ExtentsMove, Maps, OneCut, PagesHold, Stays, block_in, mapped_at, mapped_in}
use Rattle.st_laws_pages.proofs.Disks.Data.{block_law}
use Rattle.st_laws_pages.proofs.Disks.Effects.{EffectFinds, effect_finds, effect_is}
use Rattle.st_laws_pages.proofs.Disks.Folds.{alike_content, alike_drop, alike_settled}
use Rattle.st_laws_pages.proofs.Lives.Lives.{find_front}
use Rattle.st_laws_pages.proofs.Disks.Law.{same_place_is}
use Rattle.st_laws_pages.proofs.Disks.Moves.{clock_up}
use Rattle.st_laws_pages.proofs.Disks.Walk.{step_moves}
use Rattle.st_laws_pages.proofs.Disks.World.{at_set}
use Rattle.st_laws_leases.specs.Sides.World.{AllStand}
use Rattle.st_laws_reads.specs.Copies.Copies.{Nothing}
use Rattle.st_laws_reads.specs.Copies.Law.{StandsAt}
use Rattle.st_laws_reads.specs.Copies.World.{asking, receiving, receiving_of, taken, taking, told_at, told_of}
use Rattle.st_laws_reads.specs.AllClients.Events.{CutFree, CutsFree, FrozenStandAlone, MessageFree, OthersOwed, ReceiverFree, ServerFree, TurnFree}
use Rattle.st_laws_reads.specs.AllClients.Law.{Running}
use Rattle.st_laws_reads.specs.AllClients.World.{CopiesHold}
use Rattle.st_laws_reads.proofs.AllClients.Alone.{while_at}
use Rattle.st_laws_reads.proofs.AllClients.Settled.{locked_pages_are_settled as settled_law}
use Rattle.st_laws_extents.proofs.Submits.Others.{free_at}
use Rattle.st_laws_extents.proofs.Submits.Taking.{WasCommand, report_open}
use Rattle.st_laws_extents.specs.DiskReads.OutstandingReads.{ReadsClean}
use Rattle.st_laws_extents.specs.DiskReads.Reads.{ReadRight, ReadsHold}
use Rattle.st_laws_extents.proofs.DiskReads.Client.{being_read}
use Rattle.st_laws_extents.proofs.DiskReads.Contents.{content_more}

-- Contents of logs that harden, or of which what is pending elsewhere is dropped.
content_log_hard : (f : FileId) (p : PageNo) (es : List LogEntry) (x : Option Carried) → content (ev.log_hard es x) f p ≡ content es f p
unfolding content log.harden log.harden_at
content_log_hard f p es None = refl
content_log_hard f p es (Some x) = go (log.entry_at es x.index)
  where
    go : (o : Option LogEntry) → log.content_from (filled 0) f p (log.harden_at es x.index o) ≡ log.content_from (filled 0) f p es
    go None = refl
    go (Some e) = content_hard (filled 0) f p 1 x.index e.of es

content_ended : (f : FileId) (p : PageNo) (cs : List IssuedCommand) (ls : List LeaseLife) (es : List LogEntry) → SettledOn f p es → content (ev.log_ended_all cs ls es) f p ≡ content es f p
unfolding content ev.log_ended_all ev.log_ended log.drop_picked
content_ended f p cs [] es s = refl
content_ended f p cs (l ∷ ls) es s =
    let a = alike_drop 1 _ _ f p es s in
    content_ended f p cs ls (ev.log_ended cs l es) (alike_settled f p es (ev.log_ended cs l es) a s) ∙ alike_content (filled 0) f p es (ev.log_ended cs l es) a

-- if the page of each outstanding read is settled
abbrev pub ReadsSettled : World → Type 0
ReadsSettled w =
    (c : ℕ) (site : WorldClient) → Running w c site → (a : Association) → Has a site.node.state.associations → Lasts site.node.state.config.lease (clock_of w (nodes.Client (client c))).0 a.session → (pc : PageCommand) → Has pc a.store.commands → pc.kind ≡ io.Read →
    SettledOn (file_at a pc.ino) pc.page w.log

module _ (asks : ℕ → ℕ → Option Ask) (w : World) (copies : CopiesHold asks w) (pages_w : PagesHold w) (reads : ReadsHold w w.log) (settled : ReadsSettled w) where
  held : (c : ℕ) (site : WorldClient) → Running w c site → (a : Association) → Has a site.node.state.associations → Lasts site.node.state.config.lease (clock_of w (nodes.Client (client c))).0 a.session → (pc : PageCommand) → Has pc a.store.commands → pc.kind ≡ io.Read → 1 ≤ (held_in a.session pc.ino).mode
  held c site run a i l pc m r =
      let s : StandsAt (client c) w.log a = (while_at _ _ (client c) w.log site.node.state.associations a ((copies c site run.there).runs run.runs).copies i).lasting l in
      (s.pages pc.ino pc.page).reading (being_read a pc m r)

  -- if the page of each outstanding read lies as it did, and has the content that it had
  record FitsPage (v : World) (es : List LogEntry) (f : FileId) (p : PageNo) : Type 0 where
    mapped : (e : Extent) → mapped_in w f p ≡ Some e → mapped_in v f p ≡ Some e
    same : content es f p ≡ content w.log f p

  abbrev Fits : World → List LogEntry → Type 0
  Fits v es =
      (c : ℕ) (site : WorldClient) → Running w c site → (a : Association) → Has a site.node.state.associations → Lasts site.node.state.config.lease (clock_of w (nodes.Client (client c))).0 a.session → (pc : PageCommand) → Has pc a.store.commands → pc.kind ≡ io.Read →
      FitsPage v es (file_at a pc.ino) pc.page

  -- a read that samples its block now
  pub record SampledNow (n : ℕ) (d : DiskCommand) : Type 0 where
    command : DiskCommand
    is : disks.command_at w.disks.commands n ≡ Some command
    at : BlockAt
    reads_at : command.what ≡ commands.Read at
    what : d.what ≡ command.what
    sample : d.sample ≡ Some (block_in w at)

  abbrev pub CommandsOn : World → Type 0
  CommandsOn v = (n : ℕ) (d : DiskCommand) → disks.command_at v.disks.commands n ≡ Some d → WasCommand w.disks n d ⊎ SampledNow n d

  same_commands : (v : World) → v.disks ≡ w.disks → CommandsOn v
  same_commands v e n d i = inl (record { command = d; is = ap (λ (z : disks.Disks). disks.command_at z.commands n) (sym e) ∙ i; what = refl; sample = refl })

  -- clients as they were, or with nothing outstanding
  abbrev Back : World → Type 0
  Back v = (c : ℕ) (site : WorldClient) → Running v c site → (a : Association) → Has a site.node.state.associations → Running w c site ⊎ ((pc : PageCommand) → Has pc a.store.commands → ⊥)

  same_clients : (v : World) → v.clients ≡ w.clients → Back v
  same_clients v e c site run a i = inl (record { there = ap (λ z. numbered z c) (sym e) ∙ run.there; runs = run.runs })

  moved : (v : World) (es : List LogEntry) → Back v → ((c : ℕ) → (clock_of w (nodes.Client (client c))).0 ≤ (clock_of v (nodes.Client (client c))).0) → v.commands ≡ w.commands → CommandsOn v → Fits v es → ReadsHold v es
  moved v es back clocks cs on fits = record { clean = λ c site run a i. clean c site a i (back c site run a i); right = λ c site run a i l pc m r n y d yi its di. right c site a i l pc m r n y d yi its di (back c site run a i) }
    where
      clean : (c : ℕ) (site : WorldClient) (a : Association) → Has a site.node.state.associations → Running w c site ⊎ ((pc : PageCommand) → Has pc a.store.commands → ⊥) → ReadsClean a.store
      clean c site a i (inl run) = reads.clean c site run a i
      clean c site a i (inr n) = λ pc m r. absurd (n pc m)

      earlier : (c lease : ℕ) (s : Option ClientSession) → Lasts lease (clock_of v (nodes.Client (client c))).0 s → Lasts lease (clock_of w (nodes.Client (client c))).0 s
      earlier c lease None l = tt
      earlier c lease (Some s) l = let z = clocks c in omega (arith, l, z)

      right : (c : ℕ) (site : WorldClient) (a : Association) → Has a site.node.state.associations → Lasts site.node.state.config.lease (clock_of v (nodes.Client (client c))).0 a.session → (pc : PageCommand) → Has pc a.store.commands → pc.kind ≡ io.Read →
          (n : ℕ) (y : IssuedCommand) (d : DiskCommand) → numbered v.commands n ≡ Some y → IsIts (client c) site.starts pc.number y → disks.command_at v.disks.commands n ≡ Some d → Running w c site ⊎ ((pc : PageCommand) → Has pc a.store.commands → ⊥) → ReadRight v es a pc d
      right c site a i l pc m r n y d yi its di (inr z) = absurd (z pc m)
      right c site a i l pc m r n y d yi its di (inl run) = go (on n d di)
        where
          l0 : Lasts site.node.state.config.lease (clock_of w (nodes.Client (client c))).0 a.session
          l0 = earlier c site.node.state.config.lease a.session l

          fit : FitsPage v es (file_at a pc.ino) pc.page
          fit = fits c site run a i l0 pc m r

          was : (x : DiskCommand) → disks.command_at w.disks.commands n ≡ Some x → ReadRight w w.log a pc x
          was x xi = reads.right c site run a i l0 pc m r n y x (ap (λ z. numbered z n) (sym cs) ∙ yi) its xi

          at_is : (b e : BlockAt) → commands.Read b ≡ commands.Read e → b ≡ e
          at_is b e z = cc

          go : WasCommand w.disks n d ⊎ SampledNow n d → ReadRight v es a pc d
          go (inl x) = let z = was x.command x.is in record { extent = z.extent; is = fit.mapped z.extent z.is; what = x.what ∙ z.what; sampled = λ u g. z.sampled u (sym x.sample ∙ g) ∙ sym fit.same }
          go (inr x) =
              let z = was x.command x.is in
              record {
                extent = z.extent;
                is = fit.mapped z.extent z.is;
                what = x.what ∙ z.what;
                sampled = λ u g.
                    ap (λ (b : Block). found_under (file_at a pc.ino) pc.page b.tag b.bytes (mapping_of z.extent)) (some_is (sym g ∙ x.sample) ∙ ap (block_in w) (at_is x.at z.extent.at (sym x.reads_at ∙ z.what)))
                    ∙ block_law w (file_at a pc.ino) pc.page z.extent pages_w z.is (settled c site run a i l0 pc m r) ∙ sym fit.same;
              }

  -- the clocks, servers and log are as they were
  pub quiet : (v : World) → v.clients ≡ w.clients → v.clocks ≡ w.clocks → v.commands ≡ w.commands → CommandsOn v → v.servers ≡ w.servers → v.log ≡ w.log → ReadsHold v v.log
  quiet v cs ts xs on ss ls =
      moved v v.log (same_clients v cs) (λ c. subst (λ z. (clock_in w.clocks (client c)).0 ≤ (clock_in z (client c)).0) (sym ts) (omega arith)) xs on
      (λ c site run a i l pc m r. record { mapped = λ e z. ap (λ ns. mapped_at (file_at a pc.ino) pc.page (numbered ns a.server.0)) ss ∙ z; same = ap (λ l. content l (file_at a pc.ino) pc.page) ls })

  -- an effect
  effect_commands : (n : ℕ) (d : DiskCommand) → disks.command w.disks (suc n) ≡ Some d → CommandsOn (ev.with_disks (disks.effect_of w.disks (suc n) d d.what) w)
  unfolding disks.effect_of
  effect_commands n d is = go d.what refl
    where
      other : (x y : DiskCommand) (j : ℕ) → ((j ≡ suc n) × (y ≡ x)) ⊎ ((j ≢ suc n) × (disks.command_at w.disks.commands j ≡ Some y)) → ((j ≡ suc n) → (y ≡ x) → WasCommand w.disks j y ⊎ SampledNow j y) → WasCommand w.disks j y ⊎ SampledNow j y
      other x y j (inl q) f = f q.0 q.1
      other x y j (inr q) f = inl (record { command = y; is = q.1; what = refl; sample = refl })

      go : (c : Command) → d.what ≡ c → CommandsOn (ev.with_disks (disks.effect_of w.disks (suc n) d c) w)
      go (commands.Read at) e j y i =
          other (disks.sampled (disks.block w.disks at) d) y j (at_set w.disks.commands n j (disks.sampled (disks.block w.disks at) d) y i)
          (λ p q. inr (record { command = d; is = ap (disks.command_at w.disks.commands) p ∙ is; at = at; reads_at = e; what = ap (λ (z : DiskCommand). z.what) q; sample = ap (λ (z : DiskCommand). z.sample) q }))
      go (commands.Write at tag bytes) e j y i =
          other (disks.effected d) y j (at_set w.disks.commands n j (disks.effected d) y i)
          (λ p q. inl (record { command = d; is = ap (disks.command_at w.disks.commands) p ∙ is; what = ap (λ (z : DiskCommand). z.what) q; sample = ap (λ (z : DiskCommand). z.sample) q }))

  effect : (n : ℕ) → adm.refusal w (events.Effect n) ≡ None → ReadsHold (ev.effects w n).world (ev.effects w n).world.log
  unfolding adm.refusal adm.refused_effect
  effect n ref = by n (disks.command w.disks n) refl ref
    where
      log_same : (es : List LogEntry) (x : Option Carried) (v : World) → v.servers ≡ w.servers → es ≡ ev.log_hard w.log x → Fits v es
      log_same es x v ss e c site run a i l pc m r =
          record {
            mapped = λ g z. ap (λ ns. mapped_at (file_at a pc.ino) pc.page (numbered ns a.server.0)) ss ∙ z;
            same = ap (λ l. content l (file_at a pc.ino) pc.page) e ∙ content_log_hard (file_at a pc.ino) pc.page w.log x;
          }

      no : (m : ℕ) → disks.command w.disks m ≡ None → adm.refused_effect w m (disks.command w.disks m) ≡ None → ⊥
      no m e q = let z : adm.refused_effect w m None ≡ None = subst (λ o. adm.refused_effect w m o ≡ None) e q in cc z

      by : (m : ℕ) (o : Option DiskCommand) → disks.command w.disks m ≡ o → adm.refused_effect w m (disks.command w.disks m) ≡ None → ReadsHold (ev.effects w m).world (ev.effects w m).world.log
      by m None e q = absurd (no m e q)
      by zero (Some d) e q = cc e
      by (suc m) (Some d) e q =
          let f : EffectFinds w (suc m) d = effect_finds w (suc m) d e q in
          let v : World = ev.with_log (ev.log_hard w.log (ev.carried_by (issued_of w (suc m)))) (ev.with_disks (disks.effect_of w.disks (suc m) d d.what) w) in
          subst (λ (z : World). ReadsHold z z.log) (sym (effect_is w (suc m) d f))
          (moved v v.log (same_clients v refl) (λ c. omega arith) refl (effect_commands m d e) (log_same v.log (ev.carried_by (issued_of w (suc m))) v refl refl))

  -- an advance
  advance : (steps : List ℕ) → ReadsHold (ev.advances w steps).world (ev.advances w steps).world.log
  unfolding ev.advances ev.marks
  advance steps =
      moved (ev.advances w steps).world (ev.advances w steps).world.log (same_clients (ev.advances w steps).world refl) (λ c. clock_up w steps (client c)) refl (same_commands (ev.advances w steps).world refl)
      (λ c site run a i l pc m r. record { mapped = λ e z. z; same = content_ended (file_at a pc.ino) pc.page w.commands (ev.lives_reached w steps) w.log (settled c site run a i l pc m r) })

  -- a client's crash and start
  swapped : (v : World) (c : ClientId) (old new : WorldClient) → site_of w c ≡ Some old → v.clients ≡ with_numbered c.0 new w.clients → (new.node.running ≡ true → (a : Association) → Has a new.node.state.associations → (pc : PageCommand) → Has pc a.store.commands → ⊥) → Back v
  swapped v c old new there cs none d site run a i = go (same_or_not d c.0)
    where
      its : numbered (with_numbered c.0 new w.clients) d ≡ Some site
      its = ap (λ z. numbered z d) (sym cs) ∙ run.there

      go : (d ≡ c.0) ⊎ (d ≢ c.0) → Running w d site ⊎ ((pc : PageCommand) → Has pc a.store.commands → ⊥)
      go (inr n) = inl (record { there = sym (numbered_other w.clients c.0 d new (numbered_below w.clients c.0 old there).0 n) ∙ its; runs = run.runs })
      go (inl q) =
          let s : new ≡ site = some_is (sym (numbered_own w.clients c.0 new old there) ∙ ap (numbered (with_numbered c.0 new w.clients)) (sym q) ∙ its) in
          inr (λ pc m. none (ap (λ (z : WorldClient). z.node.running) s ∙ run.runs) a (subst (λ (z : WorldClient). Has a z.node.state.associations) (sym s) i) pc m)

  crash : (c : ClientId) (site : WorldClient) → site_of w c ≡ Some site → ReadsHold (ev.crashes_client w c (Some site)).world (ev.crashes_client w c (Some site)).world.log
  unfolding ev.crashes_client ev.marks ev.log_crashed log.drop_picked content
  crash c site there =
      moved (ev.crashes_client w c (Some site)).world (ev.crashes_client w c (Some site)).world.log
      (swapped (ev.crashes_client w c (Some site)).world c site (ev.stopped_site site) there refl (λ r. absurd (no r))) (λ d. omega arith) refl (same_commands (ev.crashes_client w c (Some site)).world refl)
      (λ d other run a i l pc m r.
      record { mapped = λ e z. z; same = alike_content (filled 0) (file_at a pc.ino) pc.page w.log (ev.crashes_client w c (Some site)).world.log (alike_drop 1 _ _ (file_at a pc.ino) pc.page w.log (settled d other run a i l pc m r)) })
    where
      no : false ≡ true → ⊥
      no r = cc

  start : (c : ClientId) (site : WorldClient) → site_of w c ≡ Some site → ReadsHold (ev.starts_client w c (Some site)) (ev.starts_client w c (Some site)).log
  unfolding ev.starts_client cl.start
  start c site there =
      moved (ev.starts_client w c (Some site)) (ev.starts_client w c (Some site)).log
      (swapped (ev.starts_client w c (Some site)) c site (ev.started_site site) there refl
      (λ r a i pc m. let z = has_map cl.started_association site.node.state.associations a i in none pc (subst (λ (b : Association). Has pc b.store.commands) z.2 m)))
      (λ d. omega arith) refl (same_commands (ev.starts_client w c (Some site)) refl) (λ d other run a i l pc m r. record { mapped = λ e z. z; same = refl })
    where
      none : (pc : PageCommand) → Has pc [] → ⊥
      none pc m = m

  -- what a server says
  record SameAs (v u : World) : Type 0 where
    clients : u.clients ≡ v.clients
    clocks : u.clocks ≡ v.clocks
    commands : u.commands ≡ v.commands
    disks : u.disks ≡ v.disks
    servers : u.servers ≡ v.servers

  same_here : (v : World) → SameAs v v
  same_here v = record { clients = refl; clocks = refl; commands = refl; disks = refl; servers = refl }

  same_then : (v u z : World) → SameAs v u → SameAs u z → SameAs v z
  same_then v u z a b = record { clients = b.clients ∙ a.clients; clocks = b.clocks ∙ a.clocks; commands = b.commands ∙ a.commands; disks = b.disks ∙ a.disks; servers = b.servers ∙ a.servers }

  same_one : (s : ServerId) (o : Output) (sc : ev.WorldTurn) → SameAs sc.world (ev.server_says sc s o).world
  unfolding ev.server_says ev.server_notes ev.cuts ev.sends
  same_one s (outputs.Send m) sc = record { clients = refl; clocks = refl; commands = refl; disks = refl; servers = refl }
  same_one s (outputs.Note n) sc = noted n
    where
      noted : (n : Note) → SameAs sc.world (ev.server_notes sc s n).world
      noted (notes.CutDone g p) = record { clients = refl; clocks = refl; commands = refl; disks = refl; servers = refl }
      noted (notes.Stolen c life) = record { clients = refl; clocks = refl; commands = refl; disks = refl; servers = refl }
      noted (notes.Suspected c t) = same_here sc.world
      noted n = same_here sc.world
  same_one s o sc = same_here sc.world

  same_all : (s : ServerId) (os : List Output) (sc : ev.WorldTurn) → SameAs sc.world (ev.server_says_all s os sc).world
  unfolding ev.server_says_all
  same_all s [] sc = same_here sc.world
  same_all s (o ∷ os) sc = same_then sc.world (ev.server_says sc s o).world _ (same_one s o sc) (same_all s os (ev.server_says sc s o))

  content_one : (f : FileId) (p : PageNo) (s : ServerId) (o : Output) (sc : ev.WorldTurn) → ((g : FileId) (q : PageNo) → outputs.Note (notes.CutDone g q) ≡ o → touches f p (hard_cut g q) ≡ false) → content (ev.server_says sc s o).world.log f p ≡ content sc.world.log f p
  unfolding ev.server_says ev.server_notes ev.cuts ev.sends log.cut
  content_one f p s (outputs.Send m) sc n = refl
  content_one f p s (outputs.Note x) sc n = noted x n
    where
      noted : (x : Note) → ((g : FileId) (q : PageNo) → outputs.Note (notes.CutDone g q) ≡ outputs.Note x → touches f p (hard_cut g q) ≡ false) → content (ev.server_notes sc s x).world.log f p ≡ content sc.world.log f p
      noted (notes.CutDone g q) n = content_more f p sc.world.log (hard_cut g q) (n g q refl)
      noted (notes.Stolen c life) n = refl
      noted (notes.Suspected c t) n = refl
      noted x n = refl
  content_one f p s o sc n = refl

  content_all : (f : FileId) (p : PageNo) (s : ServerId) (os : List Output) (sc : ev.WorldTurn) → ((g : FileId) (q : PageNo) → Has (outputs.Note (notes.CutDone g q)) os → touches f p (hard_cut g q) ≡ false) → content (ev.server_says_all s os sc).world.log f p ≡ content sc.world.log f p
  unfolding ev.server_says_all
  content_all f p s [] sc n = refl
  content_all f p s (o ∷ os) sc n = content_all f p s os (ev.server_says sc s o) (λ g q i. n g q (inr i)) ∙ content_one f p s o sc (λ g q e. n g q (inl e))

  -- no page of an outstanding read is past a cut
  cut_apart : (f : FileId) (p : PageNo) → CutFree w f p → (c : ℕ) (site : WorldClient) → Running w c site → (a : Association) → Has a site.node.state.associations → Lasts site.node.state.config.lease (clock_of w (nodes.Client (client c))).0 a.session →
      (pc : PageCommand) → Has pc a.store.commands → pc.kind ≡ io.Read → touches (file_at a pc.ino) pc.page (hard_cut f p) ≡ true → ⊥
  cut_apart f p free c site run a i l pc m r t = go (free_at asks w copies f p site.node.state.config.lease (clock_of w (nodes.Client (client c))).0 site.node.state.associations (free c site run) a i l sv)
    where
      x : (same_file f (file_at a pc.ino) ≡ true) × (nat_le p.0 pc.page.0 ≡ true)
      x = and_true (same_file f (file_at a pc.ino)) (nat_le p.0 pc.page.0) t

      y : (Rattle.st_rules.specs.Keys.same_server f.server a.server ≡ true) × ((f.ino == pc.ino) ≡ true)
      y = and_true _ _ x.0

      sv : f.server ≡ a.server
      sv = ap (λ n. record { 0 = n }) (eqb-true f.server.0 a.server.0 y.0)

      file : f.ino ≡ pc.ino
      file = eqb-true f.ino pc.ino y.1

      none : true ≡ false → ⊥
      none z = cc

      go : ((held_in a.session f.ino).mode ≡ 0) ⊎ ((q : PageNo) → p.0 ≤ q.0 → Nothing a.store f.ino q) → ⊥
      go (inl z) =
          let m = held c site run a i l pc m r in
          let n = ap (λ j. (held_in a.session j).mode) file in absurd (omega (arith, z, m, n))
      go (inr z) = none (sym (being_read a pc m r) ∙ ap (λ j. pages.is_being_read a.store.commands j pc.page) (sym file) ∙ (z pc.page (leb-true p.0 pc.page.0 x.1)).reading)

  apart : (f : FileId) (p : PageNo) → CutFree w f p → (c : ℕ) (site : WorldClient) → Running w c site → (a : Association) → Has a site.node.state.associations → Lasts site.node.state.config.lease (clock_of w (nodes.Client (client c))).0 a.session →
      (pc : PageCommand) → Has pc a.store.commands → pc.kind ≡ io.Read → touches (file_at a pc.ino) pc.page (hard_cut f p) ≡ false
  apart f p free c site run a i l pc m r = go (touches (file_at a pc.ino) pc.page (hard_cut f p)) refl
    where
      go : (b : Bool) → touches (file_at a pc.ino) pc.page (hard_cut f p) ≡ b → b ≡ false
      go true t = absurd (cut_apart f p free c site run a i l pc m r t)
      go false t = refl

  -- what a server's extents keep
  placed_keeps : (f : FileId) (ps : List PageNo) (x : Extents) (g : FileId) (q : PageNo) (e : Extent) → extents.extent_of x g q ≡ Some e → extents.extent_of (extents.place_pages f ps x) g q ≡ Some e
  unfolding extents.place_pages extents.place_on
  placed_keeps f [] x g q e h = h
  placed_keeps f (p ∷ ps) x g q e h = placed_keeps f ps (extents.place_on x f p (extents.free_blocks x)) g q e (go (extents.free_blocks x))
    where
      go : (bs : List BlockAt) → extents.extent_of (extents.place_on x f p bs) g q ≡ Some e
      go [] = h
      go (b ∷ bs) = find_front (extents.is_extent_of g q) x.rows _ e h

  cut_keeps : (f : FileId) (p : PageNo) (x : Extents) (g : FileId) (q : PageNo) (e : Extent) → touches g q (hard_cut f p) ≡ false → extents.extent_of x g q ≡ Some e → extents.extent_of (extents.release_from x f p) g q ≡ Some e
  unfolding extents.release_from
  cut_keeps f p x g q e n h = find_stays (extents.is_extent_of g q) (extents.is_at_or_behind f p) other x.rows ∙ h
    where
      clash : true ≡ false → ⊥
      clash z = cc

      swap : (a b : FileId) → same_file a b ≡ true → same_file b a ≡ true
      swap a b z = let y = file_is a b z in ap (λ u. same_file u a) (sym y) ∙ file_self a

      other : (y : Extent) → extents.is_extent_of g q y ≡ true → extents.is_at_or_behind f p y ≡ false
      other y z = go (extents.is_at_or_behind f p y) refl
        where
          its : (y.file ≡ g) × (y.page ≡ q)
          its = same_place_is y.file g y.page q z

          go : (b : Bool) → extents.is_at_or_behind f p y ≡ b → b ≡ false
          go false u = refl
          go true u =
              let t = and_true (same_file y.file f) (nat_le p.0 y.page.0) u in
              let k = swap g f (ap (λ v. same_file v f) (sym its.0) ∙ t.0) in
              absurd (clash (sym (ap (λ v. v && nat_le p.0 q.0) k ∙ ap (λ (v : PageNo). nat_le p.0 v.0) (sym its.1) ∙ t.1) ∙ n))

  -- a step of a server
  mapped_kept : (v : World) (s : ServerId) (node n : ServerNode) → node_of w s ≡ Some node → v.servers ≡ with_numbered s.0 n w.servers → (f : FileId) (p : PageNo) (e : Extent) →
      (extents.extent_of node.state.stable.extents f p ≡ Some e → extents.extent_of n.state.stable.extents f p ≡ Some e) → mapped_in w f p ≡ Some e → mapped_in v f p ≡ Some e
  mapped_kept v s node n there ss f p e k h = go (same_or_not f.server.0 s.0)
    where
      here : (f.server.0 ≡ s.0) → numbered v.servers f.server.0 ≡ Some n
      here q = ap (λ z. numbered z f.server.0) ss ∙ ap (numbered (with_numbered s.0 n w.servers)) q ∙ numbered_own w.servers s.0 n node there

      go : (f.server.0 ≡ s.0) ⊎ (f.server.0 ≢ s.0) → mapped_in v f p ≡ Some e
      go (inl q) = ap (mapped_at f p) (here q) ∙ k (ap (mapped_at f p) (sym there) ∙ ap (λ z. mapped_at f p (numbered w.servers z)) (sym q) ∙ h)
      go (inr q) = ap (λ z. mapped_at f p (numbered z f.server.0)) ss ∙ ap (mapped_at f p) (numbered_other w.servers s.0 f.server.0 n (numbered_below w.servers s.0 node there).0 q) ∙ h

  has_cut : (f : FileId) (p : PageNo) (os : List Output) → OneCut f p os → Has (outputs.Note (notes.CutDone f p)) os
  has_cut f p [] n = absurd n
  has_cut f p (o ∷ os) (inl n) = inl (sym n.here)
  has_cut f p (o ∷ os) (inr n) = inr (has_cut f p os n.rest)

  server_step : (s : ServerId) (node n : ServerNode) (os : List Output) → node_of w s ≡ Some node → ExtentsMove s node.state.stable.extents n.state.stable.extents os → CutsFree w os →
      ReadsHold (ev.server_says_all s os (ev.quiet (ev.with_node s n w))).world (ev.server_says_all s os (ev.quiet (ev.with_node s n w))).world.log
  server_step s node n os there move free = moved v v.log (same_clients v told.clients) clocks told.commands (same_commands v told.disks) fits
    where
      v : World
      v = (ev.server_says_all s os (ev.quiet (ev.with_node s n w))).world

      told : SameAs (ev.with_node s n w) (ev.server_says_all s os (ev.quiet (ev.with_node s n w))).world
      told = same_all s os (ev.quiet (ev.with_node s n w))

      clocks : (c : ℕ) → (clock_of w (nodes.Client (client c))).0 ≤ (clock_of v (nodes.Client (client c))).0
      clocks c = subst (λ z. (clock_in w.clocks (client c)).0 ≤ (clock_in z (client c)).0) (sym told.clocks) (omega arith)

      by_move : (f : FileId) (p : PageNo) (e : Extent) → ((g : FileId) (q : PageNo) → CutFree w g q → touches f p (hard_cut g q) ≡ false) → (y : Extents) → ExtentsMove s node.state.stable.extents y os → extents.extent_of node.state.stable.extents f p ≡ Some e → extents.extent_of y f p ≡ Some e
      by_move f p e ok y (Stays _ none) h = h
      by_move f p e ok y (Maps _ g ps own none) h = placed_keeps g ps node.state.stable.extents f p e h
      by_move f p e ok y (Cuts _ g q own one) h = cut_keeps g q node.state.stable.extents f p e (ok g q (free g q (has_cut g q os one))) h

      fits : Fits v v.log
      fits c site run a i l pc m r =
          record {
            mapped = λ e h. mapped_kept v s node n there told.servers (file_at a pc.ino) pc.page e (by_move (file_at a pc.ino) pc.page e (λ g q z. apart g q z c site run a i l pc m r) n.state.stable.extents move) h;
            same = content_all (file_at a pc.ino) pc.page s os (ev.quiet (ev.with_node s n w)) (λ g q z. apart g q (free g q z) c site run a i l pc m r);
          }

  -- at a server, in each way
  server_reads : (s : ServerId) (input : ServerInput) (o : Option ServerNode) → node_of w s ≡ o → ServerFree w s input o → ReadsHold (ev.at_server w s input o).world (ev.at_server w s input o).world.log
  unfolding ev.at_server ev.server_takes ev.server_took server.node_step
  server_reads s input None e g = reads
  server_reads s input (Some node) e g = go node.running g
    where
      now : Stamp
      now = clock_of w (nodes.Server s)

      t : server.ServerTurn
      t = server.server_step node.state now input

      go : (b : Bool) → TurnFree w (if b then Ok (server.node_turn node t) else Err Crashed) → ReadsHold (ev.server_took w s (if b then Ok (server.node_turn node t) else Err Crashed)).world (ev.server_took w s (if b then Ok (server.node_turn node t) else Err Crashed)).world.log
      go true g = server_step s node (record node { state = t.state }) t.out e (subst (λ i. ExtentsMove i node.state.stable.extents t.state.stable.extents t.out) (pages_w.extents.ids s node e) (step_moves node.state now input)) g
      go false g = reads

  same_node : (v : World) (s : ServerId) (node n : ServerNode) → node_of w s ≡ Some node → n.state.stable.extents ≡ node.state.stable.extents → v.clients ≡ w.clients → v.clocks ≡ w.clocks → v.commands ≡ w.commands → v.disks ≡ w.disks → v.servers ≡ with_numbered s.0 n w.servers → v.log ≡ w.log → ReadsHold v v.log
  same_node v s node n there same cs ts xs ds ss ls =
      moved v v.log (same_clients v cs) (λ c. subst (λ z. (clock_in w.clocks (client c)).0 ≤ (clock_in z (client c)).0) (sym ts) (omega arith)) xs (same_commands v ds)
      (λ c site run a i l pc m r.
      record { mapped = λ e h. mapped_kept v s node n there ss (file_at a pc.ino) pc.page e (λ z. ap (λ x. extents.extent_of x (file_at a pc.ino) pc.page) same ∙ z) h; same = ap (λ l. content l (file_at a pc.ino) pc.page) ls })

  receiver_reads : (m : Message) (n : NodeId) → receiving w m n ≡ None → ReceiverFree w m n → ReadsHold (ev.delivers_to w m n).world (ev.delivers_to w m n).world.log
  unfolding ev.delivers_to ev.at_client
  receiver_reads m (nodes.Client c) e g = go (site_of w c) e
    where
      go : (o : Option WorldClient) → taking w c (inputs.Control m) o ≡ None → ReadsHold (ev.at_client w c (inputs.Control m) o).world (ev.at_client w c (inputs.Control m) o).world.log
      go None e = reads
      go (Some site) e = absurd (some_not_none _ e)
  receiver_reads m (nodes.Server s) e g = server_reads s (serving.Control m) (node_of w s) refl g

  message_reads : (o : Option SentMessage) → receiving_of w o ≡ None → MessageFree w o → ReadsHold (ev.delivers w o).world (ev.delivers w o).world.log
  unfolding ev.delivers
  message_reads None e g = reads
  message_reads (Some m) e g = receiver_reads m.message (receiver_of m) e g

  -- Each event at which no client takes an input.
  pub others_reads : (e : Event) → adm.refusal w e ≡ None → taken w e ≡ None → OthersOwed w e → ReadsHold (happens w e).world (happens w e).world.log
  unfolding ev.happens ev.ticks ev.loses_message ev.reports_of ev.crashes ev.crashes_server ev.starts ev.starts_server ev.at_client ev.asks_at ev.tells ev.tells_client ev.tells_site ev.crashes_client ev.starts_client server.crash server.start server.begin_epoch
  others_reads (events.Tick (nodes.Client c)) ref t o = go (site_of w c) t
    where
      go : (s : Option WorldClient) → taking w c inputs.Tick s ≡ None → ReadsHold (ev.at_client w c inputs.Tick s).world (ev.at_client w c inputs.Tick s).world.log
      go None t = reads
      go (Some site) t = absurd (some_not_none _ t)
  others_reads (events.Tick (nodes.Server s)) ref t o = server_reads s serving.Tick (node_of w s) refl o
  others_reads (events.App c ask) ref t o = go (site_of w c) t
    where
      go : (s : Option WorldClient) → asking w c ask s ≡ None → ReadsHold (ev.asks_at w c ask s).world (ev.asks_at w c ask s).world.log
      go None t = reads
      go (Some site) t = absurd (some_not_none _ t)
  others_reads (events.Deliver n) ref t o = message_reads (message_of w n) t o
  others_reads (events.Lose n) ref t o = go (message_of w n)
    where
      go : (m : Option SentMessage) → ReadsHold (ev.loses_message w n m) (ev.loses_message w n m).log
      go None = reads
      go (Some m) = quiet (ev.with_lost n m w) refl refl refl (same_commands (ev.with_lost n m w) refl) refl refl
  others_reads (events.Cut x y) ref t o = quiet (ev.with_cut x y w) refl refl refl (same_commands (ev.with_cut x y w) refl) refl refl
  others_reads (events.Heal x y) ref t o = quiet (ev.without_cut x y w) refl refl refl (same_commands (ev.without_cut x y w) refl) refl refl
  others_reads (events.Advance steps) ref t o = advance steps
  others_reads (events.Effect n) ref t o = effect n ref
  others_reads (events.Report n ok) ref t o = go (issued_of w n) t
    where
      h_v : ReadsHold (ev.with_disks (ev.disks_after w.disks (disks.done w.disks n ok)) w) w.log
      h_v = quiet (ev.with_disks (ev.disks_after w.disks (disks.done w.disks n ok)) w) refl refl refl (λ n2 d i. inl ((report_open w.disks n ok).was n2 d i)) refl refl

      by : (y : IssuedCommand) (site : WorldClient) (b : Bool) → (if b then taking (ev.with_disks (ev.disks_after w.disks (disks.done w.disks n ok)) w) y.client (ev.end_told (ev.with_disks (ev.disks_after w.disks (disks.done w.disks n ok)) w) n ok y) (Some site) else None) ≡ None →
          ReadsHold (if b then ev.client_takes (ev.with_disks (ev.disks_after w.disks (disks.done w.disks n ok)) w) y.client (ev.end_told (ev.with_disks (ev.disks_after w.disks (disks.done w.disks n ok)) w) n ok y) site else ev.quiet (ev.with_disks (ev.disks_after w.disks (disks.done w.disks n ok)) w)).world
          (if b then ev.client_takes (ev.with_disks (ev.disks_after w.disks (disks.done w.disks n ok)) w) y.client (ev.end_told (ev.with_disks (ev.disks_after w.disks (disks.done w.disks n ok)) w) n ok y) site else ev.quiet (ev.with_disks (ev.disks_after w.disks (disks.done w.disks n ok)) w)).world.log
      by y site true t = absurd (some_not_none _ t)
      by y site false t = h_v

      at : (y : IssuedCommand) (s : Option WorldClient) → told_at (ev.with_disks (ev.disks_after w.disks (disks.done w.disks n ok)) w) n ok y s ≡ None → ReadsHold (ev.tells_client (ev.with_disks (ev.disks_after w.disks (disks.done w.disks n ok)) w) n ok y s).world (ev.tells_client (ev.with_disks (ev.disks_after w.disks (disks.done w.disks n ok)) w) n ok y s).world.log
      at y None t = h_v
      at y (Some site) t = by y site (ev.is_same_instance y site) t

      go : (o : Option IssuedCommand) → told_of (ev.with_disks (ev.disks_after w.disks (disks.done w.disks n ok)) w) n ok o ≡ None → ReadsHold (ev.tells (ev.with_disks (ev.disks_after w.disks (disks.done w.disks n ok)) w) n ok o).world (ev.tells (ev.with_disks (ev.disks_after w.disks (disks.done w.disks n ok)) w) n ok o).world.log
      go None t = h_v
      go (Some y) t = at y (site_of w y.client) t
  others_reads (events.Crash (nodes.Client c)) ref t o = go (site_of w c) refl
    where
      go : (s : Option WorldClient) → site_of w c ≡ s → ReadsHold (ev.crashes_client w c s).world (ev.crashes_client w c s).world.log
      go None e = reads
      go (Some site) e = crash c site e
  others_reads (events.Crash (nodes.Server s)) ref t o = go (node_of w s) refl
    where
      go : (n : Option ServerNode) → node_of w s ≡ n → ReadsHold (ev.crashes_server w s n) (ev.crashes_server w s n).log
      go None e = reads
      go (Some node) e = same_node (ev.with_node s (server.crash_node node) w) s node (server.crash_node node) e refl refl refl refl refl refl refl
  others_reads (events.Start (nodes.Client c)) ref t o = go (site_of w c) refl
    where
      go : (s : Option WorldClient) → site_of w c ≡ s → ReadsHold (ev.starts_client w c s) (ev.starts_client w c s).log
      go None e = reads
      go (Some site) e = start c site e
  others_reads (events.Start (nodes.Server s)) ref t o = go (node_of w s) refl
    where
      go : (n : Option ServerNode) → node_of w s ≡ n → ReadsHold (ev.starts_server w s n) (ev.starts_server w s n).log
      go None e = reads
      go (Some node) e = same_node (ev.with_node s (server.start_node node (clock_of w (nodes.Server s))) w) s node (server.start_node node (clock_of w (nodes.Server s))) e refl refl refl refl refl refl refl

-- Pages of outstanding reads are settled.
pub reads_settled : (asks : ℕ → ℕ → Option Ask) (k : Config) (count : ℕ) (w : World) → AllStand k count w → CopiesHold asks w → FrozenStandAlone w → PagesHold w → ReadsHold w w.log → ReadsSettled w
reads_settled asks k count w all copies frozen_lives pages_w reads c site run a i l pc m r =
    let s : StandsAt (client c) w.log a = (while_at _ _ (client c) w.log site.node.state.associations a ((copies c site run.there).runs run.runs).copies i).lasting l in
    settled_law asks k count w c site a pc.ino pc.page all copies frozen_lives pages_w.pages.cuts run i l ((s.pages pc.ino pc.page).reading (being_read a pc m r)) (reads.clean c site run a i pc m r).0
