-- Every step keeps the pages, from what other laws owe; and they hold at the start.
use Rattle.st_lemmas.proofs.Words
use Words.{◌≡◌, ℕ, ◌+◌, Bool, true, false, Option, Some, None, Ok, Err, refl, sym, ap, ◌∙◌, subst, if◌then◌else◌, Result, suc, zero, ClientId, ServerId, NodeId}
use Words.{Ask, Message, Event, ClientInput, ServerInput, Stamp, DiskCommand, StepRefusal, WorldRefusal, IssuedCommand, SentMessage}
use Words.nodes
use Words.events
use Words.inputs
use Words.serving
use Words.Client as cl
use Words.Server as server
use Words.Disks as disks
use Words.World as world
use Words.Server.{ServerNode}
use Words.World.{World, WorldClient, site_of, node_of, issued_of, clock_of}
use Words.Admissible as adm
use Words.Events as ev
use Words.Events.{WorldTurn}
use Rattle.st_rules.specs.declared.node.StepRefusal.TheVariants.{Crashed}
use Rattle.st_laws_pages.specs.Disks.World.{ExtentsMove, PagesHold}
use Rattle.st_laws_pages.specs.Disks.Obligations.{NodeOwes, ServerNodeOwes, TakesOwes, AtClient, AtServer, AtAsk, AtNode, AtDelivery, AtEnd, AtTold, AtReport}
use Rattle.st_laws_pages.specs.Disks.Obligations.{Owed, StepsKeepPages, FatesHold, StepsKeepFates}
use Rattle.st_laws_pages.specs.Fates.Fates.{BeforeEnd, FatesAreKept, GoneHold}
use Rattle.st_laws_steps.specs.Lives.Lives.{LivesHold}
use Rattle.st_laws_pages.proofs.Disks.Effects.{effect_finds, report_finds, report_is, reported_world, reported_is}
use Rattle.st_laws_pages.proofs.Disks.World.{effect_keeps, report_keeps}
use Rattle.st_laws_pages.proofs.Disks.Moves.{advance_keeps, crash_keeps, start_keeps}
use Rattle.st_laws_pages.proofs.Lives.Lives.{crash_late}
use Rattle.st_laws_pages.proofs.Lives.Lasting.{known_crash, start_stays, ends_agree}
use Rattle.st_laws_pages.proofs.Fates.Fates.{pending_map}
use Rattle.st_laws_pages.proofs.Fates.GoneLaw.{Over, gone_known, kept}
use Rattle.st_laws_pages.proofs.Lives.LifeSteps.{StaysLate, takes_stays, stopped_is}
use Rattle.st_laws_pages.proofs.Fates.Lasts.{happens_all}
use Rattle.st_laws_pages.proofs.Disks.Clients.{client_keeps}
use Rattle.st_laws_pages.proofs.Disks.Walk.{step_moves, step_id}
use Rattle.st_laws_pages.proofs.Disks.Servers.{server_keeps, server_crash_keeps, server_start_keeps}

takes_keeps : (w : World) (c : ClientId) (input : ClientInput) (old site : WorldClient) → site_of w c ≡ Some old → old.node ≡ site.node → TakesOwes w c input site → LivesHold w → PagesHold w → PagesHold (ev.client_takes w c input site).world
unfolding ev.client_takes ev.client_took
takes_keeps w c input old site there same o l h = go (cl.node_step site.node (clock_of w (nodes.Client c)) input) o (takes_stays w c input old site there same l)
  where
    go : (r : Result cl.NodeTurn StepRefusal) → NodeOwes w c site r → StaysLate w c site r → PagesHold (ev.client_took w c site r).world
    go (Ok t) o late = client_keeps w c site t o.outputs late h
    go (Err r) o late = h

at_client_keeps : (w : World) (c : ClientId) (input : ClientInput) (o : Option WorldClient) → site_of w c ≡ o → AtClient w c input o → LivesHold w → PagesHold w → PagesHold (ev.at_client w c input o).world
unfolding ev.at_client
at_client_keeps w c input None e o l h = h
at_client_keeps w c input (Some site) e o l h = takes_keeps w c input site site e refl o l h

at_server_keeps : (w : World) (s : ServerId) (input : ServerInput) (o : Option ServerNode) → node_of w s ≡ o → AtServer w s input o → PagesHold w → PagesHold (ev.at_server w s input o).world
unfolding ev.at_server ev.server_takes ev.server_took server.node_step
at_server_keeps w s input None e o h = h
at_server_keeps w s input (Some node) e o h = go node.running o
  where
    now : Stamp
    now = clock_of w (nodes.Server s)

    t : server.ServerTurn
    t = server.server_step node.state now input

    turn : Bool → Result server.NodeTurn StepRefusal
    turn b = if b then Ok (server.node_turn node t) else Err Crashed

    go : (b : Bool) → ServerNodeOwes w s (turn b) → PagesHold (ev.server_took w s (turn b)).world
    go true o = server_keeps w s node t e (step_id node.state now input) (subst (λ i. ExtentsMove i node.state.stable.extents t.state.stable.extents t.out) (h.extents.ids s node e) (step_moves node.state now input)) o.quiet h
    go false o = h

-- an ask is counted at its client, which no law of the pages looks at
counts_ask : (w : World) (c : ClientId) (ask : Ask) (o : Option WorldClient) → site_of w c ≡ o → AtAsk w c ask o → LivesHold w → PagesHold w → PagesHold (ev.asks_at w c ask o).world
unfolding ev.asks_at
counts_ask w c ask None e o l h = h
counts_ask w c ask (Some site) e o l h = takes_keeps w c (inputs.App (site.asks + 1) ask) site (ev.asked_once_more site) e refl o l h

told_keeps : (w : World) (k : ℕ) (ok : Bool) (o : Option IssuedCommand) → AtReport w k ok o → LivesHold w → PagesHold w → PagesHold (ev.tells w k ok o).world
unfolding ev.tells ev.tells_client ev.tells_site
told_keeps w k ok None o l h = h
told_keeps w k ok (Some x) o l h = at_site (site_of w x.client) refl o
  where
    same : (site : WorldClient) → site_of w x.client ≡ Some site → (b : Bool) → ev.is_same_instance x site ≡ b → AtEnd w k site ok x → PagesHold (if b then ev.client_takes w x.client (ev.end_told w k ok x) site else ev.quiet w).world
    same site q true e o = takes_keeps w x.client (ev.end_told w k ok x) site site q refl (o e) l h
    same site q false e o = h

    at_site : (s : Option WorldClient) → site_of w x.client ≡ s → AtTold w k ok x s → PagesHold (ev.tells_client w k ok x s).world
    at_site None q o = h
    at_site (Some site) q o = same site q (ev.is_same_instance x site) refl o

no_effect : (w : World) (k : ℕ) → disks.command w.disks k ≡ None → adm.refusal w (events.Effect k) ≡ None → ⊥
unfolding adm.refusal adm.refused_effect
no_effect w k e r = no (ap (adm.refused_effect w k) (sym e) ∙ r)
  where
    no : adm.refused_effect w k None ≡ None → ⊥
    no q = cc

at_effect : (w : World) (k : ℕ) → adm.refusal w (events.Effect k) ≡ None → PagesHold w → PagesHold (ev.effects w k).world
at_effect w zero r h = absurd (no_effect w zero refl r)
at_effect w (suc n) r h = go (disks.command w.disks (suc n)) refl
  where
    go : (d : Option DiskCommand) → disks.command w.disks (suc n) ≡ d → PagesHold (ev.effects w (suc n)).world
    go None e = absurd (no_effect w (suc n) e r)
    go (Some d) e = effect_keeps w n d (effect_finds w (suc n) d e r) h

no_report : (w : World) (k : ℕ) (ok : Bool) → disks.command w.disks k ≡ None → adm.refusal w (events.Report k ok) ≡ None → ⊥
unfolding adm.refusal adm.refused_report
no_report w k ok e r = no (ap (adm.refused_report w k ok) (sym e) ∙ r)
  where
    no : adm.refused_report w k ok None ≡ None → ⊥
    no q = cc

at_report : (w : World) (k : ℕ) (ok : Bool) → adm.refusal w (events.Report k ok) ≡ None → Owed w (events.Report k ok) → LivesHold w → PagesHold w → PagesHold (ev.reports_of w k ok).world
at_report w zero ok r o l h = absurd (no_report w zero ok refl r)
at_report w (suc n) ok r o l h = go (disks.command w.disks (suc n)) refl
  where
    go : (d : Option DiskCommand) → disks.command w.disks (suc n) ≡ d → PagesHold (ev.reports_of w (suc n) ok).world
    go None e = absurd (no_report w (suc n) ok e r)
    go (Some d) e =
        let f = report_finds w (suc n) ok d e r in
        subst (λ (s : WorldTurn). PagesHold s.world) (sym (report_is w (suc n) ok d f))
        (told_keeps (reported_world w (suc n) ok d) (suc n) ok (issued_of w (suc n)) (subst (λ x. AtReport x (suc n) ok (issued_of w (suc n))) (reported_is w (suc n) ok d f) o) (record { lives = l.lives; known = l.known }) (report_keeps w n ok d f h))

happens_keeps : (w : World) (e : Event) → adm.refusal w e ≡ None → Owed w e → LivesHold w → PagesHold w → PagesHold (ev.happens w e).world
unfolding ev.happens ev.ticks ev.delivers ev.delivers_to ev.loses_message ev.crashes ev.starts ev.crashes_client ev.crashes_server ev.starts_client ev.starts_server
happens_keeps w (events.Tick (nodes.Client c)) r o l h = at_client_keeps w c inputs.Tick (site_of w c) refl o l h
happens_keeps w (events.Tick (nodes.Server s)) r o l h = at_server_keeps w s serving.Tick (node_of w s) refl o h
happens_keeps w (events.App c ask) r o l h = counts_ask w c ask (site_of w c) refl o l h
happens_keeps w (events.Deliver k) r o l h = go (world.message_of w k) o
  where
    to : (m : Message) (n : NodeId) → AtNode w m n → PagesHold (ev.delivers_to w m n).world
    to m (nodes.Client c) o = at_client_keeps w c (inputs.Control m) (site_of w c) refl o l h
    to m (nodes.Server s) o = at_server_keeps w s (serving.Control m) (node_of w s) refl o h

    go : (m : Option SentMessage) → AtDelivery w m → PagesHold (ev.delivers w m).world
    go None o = h
    go (Some m) o = to m.message (world.receiver_of m) o
happens_keeps w (events.Lose k) r o l h = go (world.message_of w k)
  where
    go : (m : Option SentMessage) → PagesHold (ev.loses_message w k m)
    go None = h
    go (Some m) = record { pages = h.pages; commands = h.commands; extents = record { settings = h.extents.settings; ids = h.extents.ids; lies = h.extents.lies } }
happens_keeps w (events.Cut from to) r o l h = record { pages = h.pages; commands = h.commands; extents = record { settings = h.extents.settings; ids = h.extents.ids; lies = h.extents.lies } }
happens_keeps w (events.Heal from to) r o l h = record { pages = h.pages; commands = h.commands; extents = record { settings = h.extents.settings; ids = h.extents.ids; lies = h.extents.lies } }
happens_keeps w (events.Advance steps) r o l h = advance_keeps w steps (ends_agree w l) h
happens_keeps w (events.Effect k) r o l h = at_effect w k r h
happens_keeps w (events.Report k ok) r o l h = at_report w k ok r o l h
happens_keeps w (events.Crash (nodes.Client c)) r o l h = go (site_of w c) refl
  where
    go : (s : Option WorldClient) → site_of w c ≡ s → PagesHold (ev.crashes_client w c s).world
    go None e = h
    go (Some site) e = crash_keeps w c site (crash_late w c site e (l.lives.sites c site e).id (known_crash w c l)) h
happens_keeps w (events.Crash (nodes.Server s)) r o l h = go (node_of w s) refl
  where
    go : (n : Option ServerNode) → node_of w s ≡ n → PagesHold (ev.crashes_server w s n)
    go None e = h
    go (Some node) e = server_crash_keeps w s node e h
happens_keeps w (events.Start (nodes.Client c)) r o l h = go (site_of w c) refl
  where
    go : (s : Option WorldClient) → site_of w c ≡ s → PagesHold (ev.starts_client w c s)
    go None e = h
    go (Some site) e = start_keeps w c site (start_stays w c site e (stopped_is w c site e r) l) h
happens_keeps w (events.Start (nodes.Server s)) r o l h = go (node_of w s) refl
  where
    go : (n : Option ServerNode) → node_of w s ≡ n → PagesHold (ev.starts_server w s n)
    go None e = h
    go (Some node) e = server_start_keeps w s node e h

-- The law.
pub steps_keep_pages : StepsKeepPages
unfolding ev.world_step ev.world_by adm.refusal adm.refused_delivery adm.clocks_refused adm.flush_missed adm.refused_effect adm.refused_report world.node_of_place adm.missed_by
steps_keep_pages w e sc is o l h = go (adm.refusal (ev.counted w) e) refl is
  where
    go : (r : Option WorldRefusal) → adm.refusal w e ≡ r → ev.world_by w e r ≡ Ok sc → PagesHold sc.world
    go None q is = subst (λ (s : WorldTurn). PagesHold s.world) (ok_is is) (happens_keeps (ev.counted w) e (same q) o (record { lives = l.lives; known = l.known }) (record { pages = h.pages; commands = h.commands; extents = record { settings = h.extents.settings; ids = h.extents.ids; lies = h.extents.lies } }))
      where
        ok_is : ◌≡◌ {A = Result WorldTurn WorldRefusal} (Ok (ev.happens (ev.counted w) e)) (Ok sc) → ev.happens (ev.counted w) e ≡ sc
        ok_is z = cc

        same : adm.refusal w e ≡ None → adm.refusal (ev.counted w) e ≡ None
        same z = z
    go (Some x) q is = absurd (no is)
      where
        no : ◌≡◌ {A = Result WorldTurn WorldRefusal} (Err x) (Ok sc) → ⊥
        no z = cc

-- one more event is counted
pub counted_fates : (w : World) → FatesHold w → FatesHold (ev.counted w)
counted_fates w l = record { lives = record { lives = l.lives.lives; known = l.lives.known }; pending = fates; gone = gone }
  where
    u : World
    u = ev.counted w

    fates : FatesAreKept u
    fates = pending_map (BeforeEnd w) (BeforeEnd u) w.log (λ o b. record { end = b.end; is = b.is; before = b.before }) l.pending

    gone : GoneHold u
    gone = gone_known (Over w) (Over u) w.log (λ o i z. kept w o u (λ x. record { row = x.row; is = x.is; crashed = x.crashed }) (λ x. record { end = x.end; is = x.is; late = x.late }) z) l.gone

pub counted_pages : (w : World) → PagesHold w → PagesHold (ev.counted w)
counted_pages w h = record { pages = h.pages; commands = h.commands; extents = record { settings = h.extents.settings; ids = h.extents.ids; lies = h.extents.lies } }

-- The law of lives and fates.
pub fates_law : StepsKeepFates
unfolding ev.world_step ev.world_by adm.refusal adm.refused_delivery adm.clocks_refused adm.flush_missed adm.refused_effect adm.refused_report world.node_of_place adm.missed_by
fates_law w e sc is l = go (adm.refusal (ev.counted w) e) refl is
  where
    u : World
    u = ev.counted w

    c : FatesHold u
    c = counted_fates w l

    all : adm.refusal u e ≡ None → FatesHold (ev.happens u e).world
    all r = happens_all u e r c

    go : (r : Option WorldRefusal) → adm.refusal w e ≡ r → ev.world_by w e r ≡ Ok sc → FatesHold sc.world
    go None q is = subst (λ (s : WorldTurn). FatesHold s.world) (ok_is is) (all (same q))
      where
        ok_is : ◌≡◌ {A = Result WorldTurn WorldRefusal} (Ok (ev.happens (ev.counted w) e)) (Ok sc) → ev.happens (ev.counted w) e ≡ sc
        ok_is z = cc

        same : adm.refusal w e ≡ None → adm.refusal (ev.counted w) e ≡ None
        same z = z
    go (Some x) q is = absurd (no is)
      where
        no : ◌≡◌ {A = Result WorldTurn WorldRefusal} (Err x) (Ok sc) → ⊥
        no z = cc
