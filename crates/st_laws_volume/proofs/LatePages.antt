-- In every run each page that is dirty at a client whose lease is over has a command that failed.
use Rattle.st_lemmas.proofs.Words
use Words.{◌≡◌, ◌≢◌, ◌≤◌, ◌<◌, ◌+◌, ◌⊎◌, ℕ, zero, suc, Bool, true, false, List, [], ◌∷◌, Option, Some, None, Ok, Err, refl, sym, ap, ◌∙◌, subst, inl, inr}
use Words.{arith, find, if◌then◌else◌, list_any, Result, map, nat_le, nat_lt, leb-true, leb-false, le-leb, lt-ltb, unwrap_or, Config, ClientId, DirtyPage, NodeId, ServerId, Stamp, Event, Note, Output, ClientInput, DiskCommand}
use Words.{ServerInput, StepRefusal, IssuedCommand, SentMessage}
use Words.nodes
use Words.events
use Words.notes
use Words.outputs
use Words.inputs
use Words.serving
use Words.Admissible as adm
use Words.Client as cl
use Words.ClientLease as lease
use Words.ClientPages as pages
use Words.ClientState.{Association, ClientSession, is_at}
use Words.Disks as disks
use Words.Events as ev
use Words.Events.{WorldTurn, counted, world_step}
use Words.FlatLog as log
use Words.History.{Traced, traced}
use Words.Safety.{Step, steps}
use Words.Server as server
use Words.Server.{ServerNode}
use Words.World as world
use Words.World.{World, WorldClient, clock_of, fresh_site, fresh_world, issued_of, node_of, numbered, site_of, with_numbered}
use Words.Lists.{Has}
use Words.Lookups.{some_is}
use Words.Numbers.{numbered_below, numbered_has, numbered_other, numbered_own}
use Words.Tables.{and_both, found_at, has_map, same_or_not}
use Words.Truth.{clash}
use Rattle.st_rules.specs.Extents.{numbers}
use Rattle.st_rules.specs.declared.node.StepRefusal.TheVariants.{Crashed}
use Rattle.st_rules.specs.declared.world.LeaseLife.{LeaseLife}
use Rattle.st_lemmas.proofs.Steps.{step_happens}
use Rattle.st_laws_steps.specs.Client.Losses.{is_ended}
use Rattle.st_laws_steps.specs.Lives.Lives.{LivesHold}
use Rattle.st_laws_steps.proofs.Lives.Associations.{own_found}
use Rattle.st_laws_pages.specs.Asks.Law.{PlacesHold}
use Rattle.st_laws_pages.specs.Disks.Obligations.{FatesHold}
use Rattle.st_laws_pages.specs.Writes.Writes.{ListsAgree}
use Rattle.st_laws_pages.proofs.Asks.Law.{places_law}
use Rattle.st_laws_pages.proofs.Causes.Events.{counted_both}
use Rattle.st_laws_pages.proofs.Causes.FlushSteps.{BothHold}
use Rattle.st_laws_pages.proofs.Causes.Law.{Stand, fresh_places, fresh_stand, one_step, stand_agrees}
use Rattle.st_laws_pages.proofs.Disks.Effects.{report_finds, report_is, reported_world}
use Rattle.st_laws_pages.proofs.Disks.Moves.{clock_is}
use Rattle.st_laws_pages.proofs.Disks.Steps.{counted_fates}
use Rattle.st_laws_pages.proofs.Drops.Dropping.{dirty_failed}
use Rattle.st_laws_pages.proofs.Flush.Adding.{After, after_clients}
use Rattle.st_laws_pages.proofs.Flush.Flushing.{step_flushed}
use Rattle.st_laws_pages.proofs.Lives.Lasting.{Present, flush_parts}
use Rattle.st_laws_pages.proofs.Lives.LifeSteps.{steps_so}
use Rattle.st_laws_pages.proofs.Lives.Turning.{says_lives}
use Rattle.st_laws_volume.specs.Logs.{InEveryRun}
use Rattle.st_laws_volume.specs.LossMarks.{HasFailed, LateFailed, LatePagesHaveFailed}
use Rattle.st_laws_volume.specs.Witness.{Witness}
use Rattle.st_laws_volume.proofs.Carried.{IsGiven, given_in}
use Rattle.st_laws_volume.proofs.LateWrites.{unwritten}
use Rattle.std.specs.Prelude.{option_map}

-- A client's step: no lease of it is over then.
module _ (w : World) (c : ClientId) (old site : WorldClient) (input : ClientInput) (there : site_of w c ≡ Some old)
    (same : old.node ≡ site.node) (starts : old.starts ≡ site.starts) (runs : site.node.running ≡ true) (l : LivesHold w) (h : LateFailed w) where
  abbrev now : Stamp
  now = clock_of w (nodes.Client c)

  abbrev turn : cl.NodeTurn
  turn = cl.node_turn site.node (cl.client_step site.node.state now input)

  abbrev after : WorldClient
  after = ev.at_node turn.node site

  abbrev sc : WorldTurn
  sc = ev.quiet (ev.with_site c after w)

  abbrev u : World
  u = (After c site.node.state sc turn.out).world

  abbrev v : World
  v = ev.flushes c turn.node.state (world.all_servers u) u

  clients : v.clients ≡ with_numbered c.0 after w.clients
  clients = (flush_parts c turn.node.state (world.all_servers u) u).clients ∙ after_clients c site.node.state turn.out sc

  clocks : v.clocks ≡ w.clocks
  clocks = (flush_parts c turn.node.state (world.all_servers u) u).clocks ∙ (says_lives c site.node.state turn.out sc).clocks

  clock_same : (d : ClientId) → clock_of v (nodes.Client d) ≡ clock_of w (nodes.Client d)
  clock_same d = ap (λ ts. unwrap_or {T = Stamp} (numbered ts d.0) (record { 0 = 0 })) clocks

  config : turn.node.state.config ≡ site.node.state.config
  config = sym (steps_so w c old site input there same l).config ∙ ap (λ (n : cl.ClientNode). n.state.config) same

  going : (a : Association) → Has a turn.node.state.associations → is_ended site.node.state.config now a.session ≡ false
  unfolding cl.client_step
  going a i = (step_flushed [] w c old site input now there same starts l a i).going

  pub client_late : LateFailed v
  client_late d y e r a i over ino p page q = go (same_or_not d.0 c.0)
    where
      its : numbered (with_numbered c.0 after w.clients) d.0 ≡ Some y
      its = ap (λ xs. numbered xs d.0) (sym clients) ∙ e

      ended : is_ended y.node.state.config (clock_of w (nodes.Client d)) a.session ≡ true
      ended = ap (λ t. is_ended y.node.state.config t a.session) (sym (clock_same d)) ∙ over

      own : d.0 ≡ c.0 → after ≡ y → HasFailed a page
      own z k =
          let j = subst (λ (s : WorldClient). Has a s.node.state.associations) (sym k) i in
          clash
          (ap (λ (s : WorldClient). is_ended s.node.state.config now a.session) k
          ∙ (ap (λ t. is_ended y.node.state.config t a.session) (sym (ap (λ n. clock_of w (nodes.Client (record { 0 = n }))) z)) ∙ ended))
          (ap (λ k. is_ended k now a.session) config ∙ going a j)

      go : (d.0 ≡ c.0) ⊎ (d.0 ≢ c.0) → HasFailed a page
      go (inl z) = own z (some_is (sym (numbered_own w.clients c.0 after old there) ∙ ap (numbered (with_numbered c.0 after w.clients)) (sym z) ∙ its))
      go (inr n) =
          h d y (sym (numbered_other w.clients c.0 d.0 after (numbered_below w.clients c.0 old there).0 n) ∙ its) r a i ended ino p page q

-- A client that takes an input.
takes : (w : World) (c : ClientId) (input : ClientInput) (old site : WorldClient) → site_of w c ≡ Some old → old.node ≡ site.node →
    old.starts ≡ site.starts → LivesHold w → LateFailed w → LateFailed (ev.client_takes w c input site).world
unfolding cl.node_step ev.client_takes ev.client_took
takes w c input old site there same starts l h = go site.node.running refl
  where
    t : cl.NodeTurn
    t = cl.node_turn site.node (cl.client_step site.node.state (clock_of w (nodes.Client c)) input)

    go : (r : Bool) → site.node.running ≡ r → LateFailed (ev.client_took w c site (if r then Ok t else Err Crashed)).world
    go true r = client_late w c old site input there same starts r l h
    go false r = h

-- A server's step.
server_one : (s : ServerId) (o : Output) (sc : WorldTurn) → LateFailed sc.world → LateFailed (ev.server_says sc s o).world
unfolding ev.server_says ev.server_notes ev.cuts ev.sends log.cut
server_one s (outputs.Send m) sc h = h
server_one s (outputs.Note n) sc h = noted n
  where
    noted : (n : Note) → LateFailed (ev.server_notes sc s n).world
    noted (notes.CutDone f p) = h
    noted (notes.Stolen c life) = h
    noted n = h
server_one s o sc h = h

server_says : (s : ServerId) (os : List Output) (sc : WorldTurn) → LateFailed sc.world → LateFailed (ev.server_says_all s os sc).world
unfolding ev.server_says_all
server_says s [] sc h = h
server_says s (o ∷ os) sc h = server_says s os (ev.server_says sc s o) (server_one s o sc h)

at_server : (w : World) (s : ServerId) (input : ServerInput) (o : Option ServerNode) → LateFailed w → LateFailed (ev.at_server w s input o).world
unfolding ev.at_server ev.server_takes ev.server_took
at_server w s input None h = h
at_server w s input (Some node) h = go (server.node_step node (clock_of w (nodes.Server s)) input)
  where
    go : (r : Result server.NodeTurn StepRefusal) → LateFailed (ev.server_took w s r).world
    go (Err e) = h
    go (Ok t) = server_says s t.out (ev.quiet (ev.with_node s t.node w)) h

-- A crash of a client, and its start: there is no session then.
own_or_other : (w : World) (c d : ClientId) (site new y : WorldClient) → site_of w c ≡ Some site → numbered (with_numbered c.0 new w.clients) d.0 ≡ Some y →
    (y ≡ new) ⊎ (numbered w.clients d.0 ≡ Some y)
own_or_other w c d site new y there e = go (same_or_not d.0 c.0)
  where
    go : (d.0 ≡ c.0) ⊎ (d.0 ≢ c.0) → (y ≡ new) ⊎ (numbered w.clients d.0 ≡ Some y)
    go (inl q) = inl (some_is (sym e ∙ ap (numbered (with_numbered c.0 new w.clients)) q ∙ numbered_own w.clients c.0 new site there))
    go (inr n) = inr (sym (numbered_other w.clients c.0 d.0 new (numbered_below w.clients c.0 site there).0 n) ∙ e)

no : ◌≡◌ {A = Bool} false true → ⊥
no z = cc

crashed : (w : World) (c : ClientId) (site : WorldClient) → site_of w c ≡ Some site → LateFailed w → LateFailed (ev.crashes_client w c (Some site)).world
unfolding ev.crashes_client ev.marks cl.crash
crashed w c site there h d y e r a i over ino p page q = go (own_or_other w c d site (ev.stopped_site site) y there e)
  where
    go : (y ≡ ev.stopped_site site) ⊎ (numbered w.clients d.0 ≡ Some y) → HasFailed a page
    go (inl k) = absurd (no (sym (ap (λ (z : WorldClient). z.node.running) k) ∙ r))
    go (inr k) = h d y k r a i over ino p page q

started : (w : World) (c : ClientId) (site : WorldClient) → site_of w c ≡ Some site → LateFailed w → LateFailed (ev.starts_client w c (Some site))
unfolding ev.starts_client cl.start
started w c site there h d y e r a i over ino p page q = go (own_or_other w c d site (ev.started_site site) y there e)
  where
    go : (y ≡ ev.started_site site) ⊎ (numbered w.clients d.0 ≡ Some y) → HasFailed a page
    go (inr k) = h d y k r a i over ino p page q
    go (inl k) =
        let z = has_map cl.started_association site.node.state.associations a (subst (λ (s : WorldClient). Has a s.node.state.associations) k i) in
        absurd (no (sym (ap (λ (b : Association). is_ended y.node.state.config (clock_of w (nodes.Client d)) b.session) z.2) ∙ over))

-- An advance: what gets late has failed.
advanced : (past : List Step) (w : World) (steps : List ℕ) → adm.refusal w (events.Advance steps) ≡ None → FatesHold w → BothHold past w → ListsAgree w →
    LateFailed w → LateFailed (ev.advances w steps).world
unfolding ev.advances ev.marks
advanced past w steps refused fates both agree h c site there runs a i over ino p page q = by a.session refl over
  where
    clock : (clock_of (ev.with_clocks steps w) (nodes.Client c)).0 ≡ (clock_of w (nodes.Client c)).0 + adm.step_of c steps
    clock = let m = fates.lives.lives.sites c site there in clock_is w steps c m.clock m.ticks

    config : site.node.state.config ≡ w.config
    config = (fates.lives.lives.sites c site there).config

    l : LeaseLife
    l = world.life_of_association w.config c a

    present : Present w l
    present = record { site = site; there = there; a = a; has = i; is = refl }

    found : find (is_at a.server) site.node.state.associations ≡ Some a
    found = own_found site.node.state.associations (fates.lives.lives.sites c site there).once a i

    -- no write is outstanding
    none : (s : ClientSession) → a.session ≡ Some s → is_ended site.node.state.config (clock_of w (nodes.Client c)) a.session ≡ false →
        nat_le (lease.end_of site.node.state.config s.lease).0 (clock_of (ev.with_clocks steps w) (nodes.Client c)).0 ≡ true →
        list_any pages.is_any_write a.store.commands ≡ false
    none s e b o =
        ap (λ (st : pages.Store). list_any pages.is_any_write st.commands) (sym store)
        ∙ agree c site there runs a i
        ∙ unwritten w steps refused c site there runs a.server (both.flush.servers c site there a i)
        (ap (adm.reaches (clock_of w (nodes.Client c)) (adm.step_of c steps)) end_is
        ∙ and_both (nat_lt (clock_of w (nodes.Client c)).0 (lease.end_of site.node.state.config s.lease).0)
        (nat_le (lease.end_of site.node.state.config s.lease).0 ((clock_of w (nodes.Client c)).0 + adm.step_of c steps))
        (lt-ltb (clock_of w (nodes.Client c)).0 (lease.end_of site.node.state.config s.lease).0 before)
        (le-leb (lease.end_of site.node.state.config s.lease).0 ((clock_of w (nodes.Client c)).0 + adm.step_of c steps) later))
        (ap (λ (st : pages.Store). cl.is_any st.pages.dirty) store ∙ any a.store.pages.dirty (found_at (pages.is_dirty_of ino p) a.store.pages.dirty page q).1)
      where
        store : cl.store_at (cl.association_with site.node.state a.server) ≡ a.store
        store = ap cl.store_at found

        end_is : world.present_end w a.server (Some site) ≡ Some (lease.end_of site.node.state.config s.lease)
        end_is =
            ap (λ z. lease.end_at site.node.state.config (cl.lease_at z)) found
            ∙ ap (λ z. lease.end_at site.node.state.config (option_map cl.lease_of_session z)) e

        before : (clock_of w (nodes.Client c)).0 < (lease.end_of site.node.state.config s.lease).0
        before =
            leb-false (lease.end_of site.node.state.config s.lease).0 (clock_of w (nodes.Client c)).0
            (sym (ap (is_ended site.node.state.config (clock_of w (nodes.Client c))) e) ∙ b)

        later : (lease.end_of site.node.state.config s.lease).0 ≤ (clock_of w (nodes.Client c)).0 + adm.step_of c steps
        later =
            let z = leb-true (lease.end_of site.node.state.config s.lease).0 (clock_of (ev.with_clocks steps w) (nodes.Client c)).0 o in
            let k = clock in omega (arith, z, k)

        any : (xs : List DirtyPage) → Has page xs → cl.is_any xs ≡ true
        any [] j = absurd j
        any (x ∷ xs) j = refl

    was : (s : ClientSession) → a.session ≡ Some s → (late : Bool) →
        is_ended site.node.state.config (clock_of w (nodes.Client c)) a.session ≡ late →
        nat_le (lease.end_of site.node.state.config s.lease).0 (clock_of (ev.with_clocks steps w) (nodes.Client c)).0 ≡ true →
        HasFailed a page
    was s e true b o = h c site there runs a i b ino p page q
    was s e false b o =
        let x = dirty_failed past w steps refused fates both.flush agree l present reached ino p page q in ((x.0, (x.1, x.2.first)), none s e b o)
      where
        end : ℕ
        end = (lease.end_of site.node.state.config s.lease).0

        before : (clock_of w (nodes.Client c)).0 < end
        before = leb-false end (clock_of w (nodes.Client c)).0 (sym (ap (is_ended site.node.state.config (clock_of w (nodes.Client c))) e) ∙ b)

        later : end ≤ (clock_of w (nodes.Client c)).0 + adm.step_of c steps
        later = let z = leb-true end (clock_of (ev.with_clocks steps w) (nodes.Client c)).0 o in let k = clock in omega (arith, z, k)

        ends : l.end ≡ Some (lease.end_of site.node.state.config s.lease)
        ends =
            ap (λ z. lease.end_at w.config (option_map cl.lease_of_session z)) e
            ∙ ap (λ k. Some (lease.end_of k s.lease)) (sym config)

        reached : ev.is_reached w steps l ≡ true
        reached =
            ap (adm.reaches (clock_of w (nodes.Client c)) (adm.step_of c steps)) ends
            ∙ and_both (nat_lt (clock_of w (nodes.Client c)).0 end) (nat_le end ((clock_of w (nodes.Client c)).0 + adm.step_of c steps))
            (lt-ltb (clock_of w (nodes.Client c)).0 end before) (le-leb end ((clock_of w (nodes.Client c)).0 + adm.step_of c steps) later)

    by : (o : Option ClientSession) → a.session ≡ o →
        is_ended site.node.state.config (clock_of (ev.with_clocks steps w) (nodes.Client c)) a.session ≡ true → HasFailed a page
    by None e o = absurd (no (sym (ap (is_ended site.node.state.config (clock_of (ev.with_clocks steps w) (nodes.Client c))) e) ∙ o))
    by (Some s) e o =
        was s e (is_ended site.node.state.config (clock_of w (nodes.Client c)) a.session) refl
        (sym (ap (is_ended site.node.state.config (clock_of (ev.with_clocks steps w) (nodes.Client c))) e) ∙ o)

-- Every event.
module _ (past : List Step) (w : World) (f : FatesHold w) (b : BothHold past w) (agree : ListsAgree w) (h : LateFailed w) where
  at_client : (c : ClientId) (input : ClientInput) (o : Option WorldClient) → site_of w c ≡ o → LateFailed (ev.at_client w c input o).world
  unfolding ev.at_client
  at_client c input None e = h
  at_client c input (Some site) e = takes w c input site site e refl refl f.lives h

  -- the end of a command
  module _ (n : ℕ) (ok : Bool) (d : DiskCommand) (is : disks.command w.disks (suc n) ≡ Some d) where
    abbrev z : World
    z = reported_world w (suc n) ok d

    told : (o : Option IssuedCommand) → issued_of w (suc n) ≡ o → LateFailed (ev.tells z (suc n) ok o).world
    unfolding ev.tells ev.tells_client ev.tells_site
    told None q = h
    told (Some y) q = at_site (site_of w y.client) refl
      where
        at : (site : WorldClient) → site_of w y.client ≡ Some site → (r : Bool) →
            LateFailed (if r then ev.client_takes z y.client (ev.end_told z (suc n) ok y) site else ev.quiet z).world
        at site s true =
            takes z y.client (ev.end_told z (suc n) ok y) site site s refl refl (record { lives = f.lives.lives; known = f.lives.known }) h
        at site s false = h

        at_site : (s : Option WorldClient) → site_of w y.client ≡ s → LateFailed (ev.tells_client z (suc n) ok y s).world
        at_site None s = h
        at_site (Some site) s = at site s (ev.is_same_instance y site)

  no_report : (k : ℕ) (ok : Bool) → disks.command w.disks k ≡ None → adm.refusal w (events.Report k ok) ≡ None → ⊥
  unfolding adm.refusal adm.refused_report
  no_report k ok e r = no (ap (adm.refused_report w k ok) (sym e) ∙ r)
    where
      no : adm.refused_report w k ok None ≡ None → ⊥
      no q = cc

  report_late : (k : ℕ) (ok : Bool) → adm.refusal w (events.Report k ok) ≡ None → LateFailed (ev.reports_of w k ok).world
  report_late zero ok r = absurd (no_report zero ok refl r)
  report_late (suc n) ok r = go (disks.command w.disks (suc n)) refl
    where
      go : (d : Option DiskCommand) → disks.command w.disks (suc n) ≡ d → LateFailed (ev.reports_of w (suc n) ok).world
      go None q = absurd (no_report (suc n) ok q r)
      go (Some d) q =
          subst (λ (s : WorldTurn). LateFailed s.world) (sym (report_is w (suc n) ok d (report_finds w (suc n) ok d q r)))
          (told n ok d q (issued_of w (suc n)) refl)

  happens_late : (e : Event) → adm.refusal w e ≡ None → LateFailed (ev.happens w e).world
  unfolding ev.happens ev.ticks ev.asks_at ev.delivers ev.delivers_to ev.loses_message ev.marks ev.effects ev.advances ev.crashes ev.crashes_client
      ev.crashes_server ev.starts ev.starts_client ev.starts_server
  happens_late (events.Tick (nodes.Client c)) r = at_client c inputs.Tick (site_of w c) refl
  happens_late (events.Tick (nodes.Server s)) r = at_server w s serving.Tick (node_of w s) h
  happens_late (events.App c ask) r = go (site_of w c) refl
    where
      go : (s : Option WorldClient) → site_of w c ≡ s → LateFailed (ev.asks_at w c ask s).world
      go None e = h
      go (Some site) e =
          takes w c (inputs.App (site.asks + 1) ask) site (ev.asked_once_more site) e refl refl f.lives h
  happens_late (events.Deliver k) r = go (world.message_of w k) refl
    where
      to : (m : SentMessage) → Has m w.net.messages → (n : NodeId) → LateFailed (ev.delivers_to w m.message n).world
      to m i (nodes.Client c) = at_client c (inputs.Control m.message) (site_of w c) refl
      to m i (nodes.Server s) = at_server w s (serving.Control m.message) (node_of w s) h

      go : (m : Option SentMessage) → world.message_of w k ≡ m → LateFailed (ev.delivers w m).world
      go None e = h
      go (Some m) e = to m (numbered_has w.net.messages k m e) (world.receiver_of m)
  happens_late (events.Lose k) r = go (world.message_of w k)
    where
      go : (m : Option SentMessage) → LateFailed (ev.loses_message w k m)
      go None = h
      go (Some m) = h
  happens_late (events.Cut from to) r = h
  happens_late (events.Heal from to) r = h
  happens_late (events.Advance steps) r = advanced past w steps r f b agree h
  happens_late (events.Effect k) r = h
  happens_late (events.Report k ok) r = report_late k ok r
  happens_late (events.Crash (nodes.Client c)) r = go (site_of w c) refl
    where
      go : (s : Option WorldClient) → site_of w c ≡ s → LateFailed (ev.crashes_client w c s).world
      go None e = h
      go (Some site) e = crashed w c site e h
  happens_late (events.Crash (nodes.Server s)) r = go (node_of w s)
    where
      go : (n : Option ServerNode) → LateFailed (ev.crashes_server w s n)
      go None = h
      go (Some node) = h
  happens_late (events.Start (nodes.Client c)) r = go (site_of w c) refl
    where
      go : (s : Option WorldClient) → site_of w c ≡ s → LateFailed (ev.starts_client w c s)
      go None e = h
      go (Some site) e = started w c site e h
  happens_late (events.Start (nodes.Server s)) r = go (node_of w s)
    where
      go : (n : Option ServerNode) → LateFailed (ev.starts_server w s n)
      go None = h
      go (Some node) = h

-- One step.
pub late_on : (past : List Step) (t : Traced) (e : Event) (sc : WorldTurn) → world_step t.world e ≡ Ok sc → Stand past t → LateFailed t.world →
    LateFailed sc.world
unfolding adm.refusal adm.refused_delivery adm.clocks_refused adm.flush_missed adm.refused_effect adm.refused_report world.node_of_place adm.missed_by
late_on past t e sc is s h =
    let z = step_happens t.world e sc is in
    subst (λ (x : WorldTurn). LateFailed x.world) (sym z.1)
    (happens_late past (counted t.world) (counted_fates t.world s.fates) (counted_both past t.world s.both) (stand_agrees past t s) h e z.0)

-- At the start no client has a session.
pub late_begins : (k : Config) (count servers d b form : ℕ) → LateFailed (fresh_world k count servers d b form)
unfolding fresh_world cl.fresh_client
late_begins k count servers d b form c site e r a i over ino p page q =
    let from = has_map (fresh_site k servers) (numbers 1 count) site (numbered_has (map (fresh_site k servers) (numbers 1 count)) c.0 site e) in
    let z = has_map cl.fresh_association (numbers 1 servers) a (subst (λ (s : WorldClient). Has a s.node.state.associations) from.2 i) in
    absurd
    (no (sym (ap (λ (y : Association). is_ended site.node.state.config (clock_of (fresh_world k count servers d b form) (nodes.Client c)) y.session) z.2) ∙
    over))

-- In every run.
pub record LateHold (past : List Step) (t : Traced) (it : Witness) : Type 0 where
  pub stand : Stand past t
  pub places : PlacesHold t.world
  pub late : LateFailed t.world

LateToo : List Step → Step → Witness → Type 0
LateToo past x it = LatePagesHaveFailed past x

late_hold : IsGiven (λ past x. PlacesHold x.after.world) LateHold LateToo
unfolding LateToo
late_hold past t e sc it f g h =
    let z = late_on past t e sc f h.stand h.late in
    (z, record { stand = (one_step past t e sc f h.places h.stand).stand; places = g; late = z })

pub late_pages_have_failed : InEveryRun LatePagesHaveFailed
unfolding LateToo
late_pages_have_failed k clients servers disks blocks form es head events =
    given_in (λ past x. PlacesHold x.after.world) LateHold LateToo late_hold es (traced (fresh_world k clients servers disks blocks form))
    (record {
      stand = fresh_stand k clients servers disks blocks form;
      places = fresh_places k clients servers disks blocks form;
      late = late_begins k clients servers disks blocks form;
    })
    (places_law k clients servers disks blocks form es head)
