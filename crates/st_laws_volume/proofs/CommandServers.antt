-- In every run each command that is outstanding at a client's association went to the disks of that association's server.
use Rattle.st_lemmas.proofs.Words
use Words.{◌≡◌, ◌≢◌, ◌≤◌, ◌<◌, ℕ, zero, suc, ◌+◌, ◌⊎◌, Bool, true, false, List, [], ◌∷◌, Option, Some, None, Ok, Err, refl, sym, ap, ◌∙◌, subst, inl, inr}
use Words.{arith, if◌then◌else◌, Result, length, Config, ClientId, NodeId, ServerId, Stamp, Event, Note, Output, ClientInput, DiskCommand}
use Words.{PageCommand, ServerInput, StepRefusal, IssuedCommand, SentMessage}
use Words.nodes
use Words.events
use Words.notes
use Words.outputs
use Words.inputs
use Words.serving
use Words.Admissible as adm
use Words.Client as cl
use Words.ClientState.{Association, ClientState}
use Words.Disks as disks
use Words.Events as ev
use Words.Events.{WorldTurn, counted, world_step}
use Words.FlatLog as log
use Words.History.{Traced}
use Words.Safety.{Step}
use Words.Server as server
use Words.Server.{ServerNode}
use Words.World as world
use Words.World.{World, WorldClient, clock_of, fresh_world, issued_of, node_of, numbered, site_of, with_numbered}
use Words.Lists.{Has}
use Words.Lookups.{some_is}
use Words.Numbers.{get_below, get_there, length_more, numbered_below, numbered_has, numbered_other, numbered_own, set_length}
use Words.Tables.{has_map, same_or_not}
use Rattle.st_rules.specs.declared.node.StepRefusal.TheVariants.{Crashed}
use Rattle.st_lemmas.proofs.Steps.{step_happens}
use Rattle.st_laws_steps.specs.Client.Losses.{Fit}
use Rattle.st_laws_steps.specs.Lives.Lives.{LivesHold}
use Rattle.st_laws_pages.specs.Asks.Law.{PlacesHold}
use Rattle.st_laws_pages.specs.Flush.Flush.{IsIts, NodeCared}
use Rattle.st_laws_pages.proofs.Asks.Places.{Knows}
use Rattle.st_laws_pages.proofs.Causes.Events.{counted_both}
use Rattle.st_laws_pages.proofs.Causes.FlushSteps.{BothHold, flushes_disks}
use Rattle.st_laws_pages.proofs.Causes.Law.{Stand}
use Rattle.st_laws_pages.proofs.Causes.Placed.{InputTells, PlacesAt, places_at}
use Rattle.st_laws_pages.proofs.Disks.Effects.{report_finds, report_is, reported_world}
use Rattle.st_laws_pages.proofs.Disks.Steps.{counted_fates}
use Rattle.st_laws_pages.proofs.Flush.Adding.{After, after_clients}
use Rattle.st_laws_pages.proofs.Lives.Lasting.{flush_parts}
use Rattle.st_laws_pages.proofs.Writes.Joining.{IsNew, all_say}
use Rattle.st_laws_volume.proofs.CommandBlocks.{AllFine, FineAt, IsOld, step_fine}

-- the client's outstanding commands went to their servers
abbrev IsServed : List IssuedCommand → ClientId → ℕ → Association → Type 0
IsServed cs c starts a =
    (pc : PageCommand) → Has pc a.store.commands → (k : ℕ) (x : IssuedCommand) → numbered cs k ≡ Some x → IsIts c starts pc.number x → x.server ≡ a.server

abbrev pub AllServed : World → Type 0
AllServed w =
    (c : ClientId) (site : WorldClient) → site_of w c ≡ Some site → site.node.running ≡ true → (a : Association) →
    Has a site.node.state.associations → IsServed w.commands c site.starts a

moved : (w v : World) → v.clients ≡ w.clients → v.commands ≡ w.commands → AllServed w → AllServed v
moved w v cs xs h c site e r a i pc j k x is own =
    h c site (ap (λ zs. numbered zs c.0) (sym cs) ∙ e) r a i pc j k x (ap (λ zs. numbered zs k) (sym xs) ∙ is) own

disk_there : (cs : List IssuedCommand) (ds : List DiskCommand) → length cs ≡ length ds → (k : ℕ) (x : IssuedCommand) → numbered cs k ≡ Some x →
    (d : DiskCommand) × (disks.command_at ds k ≡ Some d)
disk_there cs ds n zero x i = cc
disk_there cs ds n (suc k) x i = get_there ds k (let b = get_below cs k x i in omega (arith, b, n))

-- Commands go by one number at the disks and at their clients.
one_counted : (c : ClientId) (before : ClientState) (o : Output) (sc : WorldTurn) → length sc.world.commands ≡ length sc.world.disks.commands →
    length (ev.client_says sc c before o).world.commands ≡ length (ev.client_says sc c before o).world.disks.commands
unfolding ev.client_says ev.client_notes ev.sends ev.submits ev.answers_with ev.accepts ev.patches ev.loses
one_counted c before (outputs.Send m) sc h = h
one_counted c before (outputs.Answer op a) sc h = h
one_counted c before (outputs.Submit number at what) sc h = go (site_of sc.world c)
  where
    go : (o : Option WorldClient) → length (ev.submits sc c o number at what).world.commands ≡ length (ev.submits sc c o number at what).world.disks.commands
    go None = h
    go (Some s) =
        length_more sc.world.commands (ev.issued sc.world c s number at what)
        ∙ (ap suc h ∙ sym (length_more sc.world.disks.commands (disks.new_command what)))
one_counted c before (outputs.Note n) sc h = note n
  where
    note : (n : Note) → length (ev.client_notes sc c before n).world.commands ≡ length (ev.client_notes sc c before n).world.disks.commands
    note (notes.Accepted f p bytes) = h
    note (notes.Patched f p at bytes) = h
    note (notes.Lost s life) = h
    note n = h

all_counted : (c : ClientId) (before : ClientState) (os : List Output) (sc : WorldTurn) → length sc.world.commands ≡ length sc.world.disks.commands →
    length (ev.client_says_all c before os sc).world.commands ≡ length (ev.client_says_all c before os sc).world.disks.commands
unfolding ev.client_says_all
all_counted c before [] sc h = h
all_counted c before (o ∷ os) sc h = all_counted c before os (ev.client_says sc c before o) (one_counted c before o sc h)

-- A client's step.
module _ (past : List Step) (w : World) (c : ClientId) (old site : WorldClient) (input : ClientInput) (there : site_of w c ≡ Some old)
    (same : old.node ≡ site.node) (starts : old.starts ≡ site.starts) (runs : site.node.running ≡ true) (l : LivesHold w) (pl : PlacesAt (length w.servers) w)
    (counts : length w.commands ≡ length w.disks.commands) (cared : NodeCared past w.commands w.log c old) (told : InputTells (length w.servers) input)
    (h : AllServed w) where
  abbrev now : Stamp
  now = clock_of w (nodes.Client c)

  abbrev turn : cl.NodeTurn
  turn = cl.node_turn site.node (cl.client_step site.node.state now input)

  abbrev after : WorldClient
  after = ev.at_node turn.node site

  abbrev sc : WorldTurn
  sc = ev.quiet (ev.with_site c after w)

  abbrev u : World
  u = (After c site.node.state sc turn.out).world

  abbrev v : World
  v = ev.flushes c turn.node.state (world.all_servers u) u

  own : site_of sc.world c ≡ Some after
  own = numbered_own w.clients c.0 after old there

  clients : v.clients ≡ with_numbered c.0 after w.clients
  clients = (flush_parts c turn.node.state (world.all_servers u) u).clients ∙ after_clients c site.node.state turn.out sc

  abbrev size : ℕ
  size = length w.servers

  fine : AllFine size site.node.state.next_command site.node.state.associations (cl.client_step site.node.state now input)
  fine =
      step_fine size c site.node.state now input told
      (subst (λ (n : cl.ClientNode). (b : Association) → Has b n.state.associations → Fit b) same (l.lives.sites c old there).fit)
      (subst (λ (n : cl.ClientNode). (b : Association) → Has b n.state.associations → Knows size b.server b.store.extents) same (pl.known c old there))
      (subst (λ (n : cl.ClientNode). (b : Association) → Has b n.state.associations → (pc : PageCommand) → Has pc b.store.commands →
      pc.number < n.state.next_command)
      same (λ a i. (cared.cared a i).below))

  from : (k : ℕ) (x : IssuedCommand) → numbered v.commands k ≡ Some x →
      (numbered w.commands k ≡ Some x) ⊎ ((d : DiskCommand) × IsNew c after size turn.out x d)
  from k x i = by (disk_there v.commands v.disks.commands counted k x i)
    where
      counted : length v.commands ≡ length v.disks.commands
      counted =
          ap (λ xs. length xs) (flush_parts c turn.node.state (world.all_servers u) u).commands
          ∙ (all_counted c site.node.state turn.out sc counts
          ∙ sym (ap (λ (ds : disks.Disks). length ds.commands) (flushes_disks c turn.node.state (world.all_servers u) u)))

      by : (d : DiskCommand) × (disks.command_at v.disks.commands k ≡ Some d) →
          (numbered w.commands k ≡ Some x) ⊎ ((d : DiskCommand) × IsNew c after size turn.out x d)
      by (d, j) = go (all_say c site.node.state after size turn.out sc (record { own = own; counts = counts; servers = refl }) k x d (
        ap (λ xs. numbered xs k) (sym (flush_parts c turn.node.state (world.all_servers u) u).commands) ∙ i,
        ap (λ (ds : disks.Disks). disks.command_at ds.commands k) (sym (flushes_disks c turn.node.state (world.all_servers u) u)) ∙ j,
      ))
        where
          go : ((numbered w.commands k ≡ Some x) × (disks.command_at w.disks.commands k ≡ Some d)) ⊎ IsNew c after size turn.out x d →
              (numbered w.commands k ≡ Some x) ⊎ ((d : DiskCommand) × IsNew c after size turn.out x d)
          go (inl z) = inl z.0
          go (inr z) = inr (d, z)

  mine : (a : Association) → Has a turn.node.state.associations → IsServed v.commands c after.starts a
  mine a i pc j k x is its = by (from k x is)
    where
      f : FineAt size site.node.state.next_command site.node.state.associations turn.node.state.next_command turn.out a
      f = fine.each a i

      by : (numbered w.commands k ≡ Some x) ⊎ ((d : DiskCommand) × IsNew c after size turn.out x d) → x.server ≡ a.server
      by (inr (d, z)) =
          z.server ∙ ap (λ (n : ℕ). world.server n) (f.placed pc j x.number z.at z.what z.said its.number_is)
      by (inl q) = go (f.from pc j)
        where
          older : IsIts c old.starts pc.number x
          older = record { client = its.client; instance_ = its.instance_ ∙ sym starts; number_is = its.number_is }

          go : IsOld size site.node.state.next_command site.node.state.associations a.server pc ⊎ (site.node.state.next_command ≤ pc.number) →
              x.server ≡ a.server
          go (inl (y, (m, (e, n)))) =
              h c old there (ap (λ (n : cl.ClientNode). n.running) same ∙ runs) y
              (subst (λ (n : cl.ClientNode). Has y n.state.associations) (sym same) m) pc n k x q older ∙ e
          go (inr low) =
              let z = cared.numbers x (numbered_has w.commands k x q) its.client older.instance_ in
              let m = ap (λ (n : cl.ClientNode). n.state.next_command) same in
              let n = its.number_is in absurd (omega (arith, z, low, m, n))

  pub client_served : AllServed v
  client_served d y e r a i = go (same_or_not d.0 c.0)
    where
      its : numbered (with_numbered c.0 after w.clients) d.0 ≡ Some y
      its = ap (λ xs. numbered xs d.0) (sym clients) ∙ e

      own_one : d.0 ≡ c.0 → after ≡ y → IsServed v.commands d y.starts a
      own_one p q =
          subst (λ (z : ClientId). IsServed v.commands z y.starts a) (sym (ap (λ n. record { 0 = n }) p))
          (subst (λ (s : WorldClient). IsServed v.commands c s.starts a) q
          (mine a (subst (λ (s : WorldClient). Has a s.node.state.associations) (sym q) i)))

      other : d.0 ≢ c.0 → IsServed v.commands d y.starts a
      other n pc j k x is own = by (from k x is)
        where
          by : (numbered w.commands k ≡ Some x) ⊎ ((d : DiskCommand) × IsNew c after size turn.out x d) → x.server ≡ a.server
          by (inl q) =
              h d y (sym (numbered_other w.clients c.0 d.0 after (numbered_below w.clients c.0 old there).0 n) ∙ its) r a i pc j k x q own
          by (inr (z, m)) = absurd (n (ap (λ (s : ClientId). s.0) (sym own.client ∙ m.client)))

      go : (d.0 ≡ c.0) ⊎ (d.0 ≢ c.0) → IsServed v.commands d y.starts a
      go (inl p) = own_one p (some_is (sym (numbered_own w.clients c.0 after old there) ∙ ap (numbered (with_numbered c.0 after w.clients)) (sym p) ∙ its))
      go (inr n) = other n

-- A client that takes an input.
takes : (past : List Step) (w : World) (c : ClientId) (input : ClientInput) (old site : WorldClient) → site_of w c ≡ Some old → old.node ≡ site.node →
    old.starts ≡ site.starts → LivesHold w → PlacesAt (length w.servers) w → length w.commands ≡ length w.disks.commands →
    (site.node.running ≡ true → NodeCared past w.commands w.log c old) → InputTells (length w.servers) input → AllServed w →
    AllServed (ev.client_takes w c input site).world
unfolding cl.node_step ev.client_takes ev.client_took
takes past w c input old site there same starts l pl n cared tells h = go site.node.running refl
  where
    t : cl.NodeTurn
    t = cl.node_turn site.node (cl.client_step site.node.state (clock_of w (nodes.Client c)) input)

    go : (r : Bool) → site.node.running ≡ r → AllServed (ev.client_took w c site (if r then Ok t else Err Crashed)).world
    go true r = client_served past w c old site input there same starts r l pl n (cared r) tells h
    go false r = h

-- A server's step.
server_one : (s : ServerId) (o : Output) (sc : WorldTurn) → AllServed sc.world → AllServed (ev.server_says sc s o).world
unfolding ev.server_says ev.server_notes ev.cuts ev.sends log.cut
server_one s (outputs.Send m) sc h = h
server_one s (outputs.Note n) sc h = noted n
  where
    noted : (n : Note) → AllServed (ev.server_notes sc s n).world
    noted (notes.CutDone f p) = h
    noted (notes.Stolen c life) = h
    noted n = h
server_one s o sc h = h

server_says : (s : ServerId) (os : List Output) (sc : WorldTurn) → AllServed sc.world → AllServed (ev.server_says_all s os sc).world
unfolding ev.server_says_all
server_says s [] sc h = h
server_says s (o ∷ os) sc h = server_says s os (ev.server_says sc s o) (server_one s o sc h)

at_server : (w : World) (s : ServerId) (input : ServerInput) (o : Option ServerNode) → AllServed w → AllServed (ev.at_server w s input o).world
unfolding ev.at_server ev.server_takes ev.server_took
at_server w s input None h = h
at_server w s input (Some node) h = go (server.node_step node (clock_of w (nodes.Server s)) input)
  where
    go : (r : Result server.NodeTurn StepRefusal) → AllServed (ev.server_took w s r).world
    go (Err e) = h
    go (Ok t) = server_says s t.out (ev.quiet (ev.with_node s t.node w)) h

-- A crash of a client, and its start: nothing is outstanding then.
own_or_other : (w : World) (c d : ClientId) (site new y : WorldClient) → site_of w c ≡ Some site → numbered (with_numbered c.0 new w.clients) d.0 ≡ Some y →
    ((d ≡ c) × (y ≡ new)) ⊎ (numbered w.clients d.0 ≡ Some y)
own_or_other w c d site new y there e = go (same_or_not d.0 c.0)
  where
    go : (d.0 ≡ c.0) ⊎ (d.0 ≢ c.0) → ((d ≡ c) × (y ≡ new)) ⊎ (numbered w.clients d.0 ≡ Some y)
    go (inl q) =
        inl (ap (λ n. record { 0 = n }) q, some_is (sym e ∙ ap (numbered (with_numbered c.0 new w.clients)) q ∙ numbered_own w.clients c.0 new site there))
    go (inr n) = inr (sym (numbered_other w.clients c.0 d.0 new (numbered_below w.clients c.0 site there).0 n) ∙ e)

crashed : (w : World) (c : ClientId) (site : WorldClient) → site_of w c ≡ Some site → AllServed w → AllServed (ev.crashes_client w c (Some site)).world
unfolding ev.crashes_client ev.marks cl.crash
crashed w c site there h d y e r a i = go (own_or_other w c d site (ev.stopped_site site) y there e)
  where
    no : ◌≡◌ {A = Bool} false true → ⊥
    no z = cc

    go : ((d ≡ c) × (y ≡ ev.stopped_site site)) ⊎ (numbered w.clients d.0 ≡ Some y) → IsServed w.commands d y.starts a
    go (inl q) = absurd (no (sym (ap (λ (z : WorldClient). z.node.running) q.1) ∙ r))
    go (inr q) = h d y q r a i

started : (w : World) (c : ClientId) (site : WorldClient) → site_of w c ≡ Some site → AllServed w → AllServed (ev.starts_client w c (Some site))
unfolding ev.starts_client cl.start
started w c site there h d y e r a i = go (own_or_other w c d site (ev.started_site site) y there e)
  where
    go : ((d ≡ c) × (y ≡ ev.started_site site)) ⊎ (numbered w.clients d.0 ≡ Some y) → IsServed w.commands d y.starts a
    go (inr q) = h d y q r a i
    go (inl q) = λ pc j k x is own.
        let z = has_map cl.started_association site.node.state.associations a (subst (λ (s : WorldClient). Has a s.node.state.associations) q.1 i) in
        absurd (subst (λ (b : Association). Has pc b.store.commands) z.2 j)

-- Every event.
module _ (past : List Step) (w : World) (l : LivesHold w) (pl : PlacesAt (length w.servers) w) (b : BothHold past w) (h : AllServed w) where
  at_client : (c : ClientId) (input : ClientInput) (o : Option WorldClient) → site_of w c ≡ o → InputTells (length w.servers) input →
      AllServed (ev.at_client w c input o).world
  unfolding ev.at_client
  at_client c input None e tells = h
  at_client c input (Some site) e tells = takes past w c input site site e refl refl l pl b.writes.commands.counts (b.flush.sites c site e) tells h

  -- the end of a command
  module _ (n : ℕ) (ok : Bool) (d : DiskCommand) (is : disks.command w.disks (suc n) ≡ Some d) where
    abbrev z : World
    z = reported_world w (suc n) ok d

    told : (o : Option IssuedCommand) → issued_of w (suc n) ≡ o → AllServed (ev.tells z (suc n) ok o).world
    unfolding ev.tells ev.tells_client ev.tells_site
    told None q = h
    told (Some y) q = at_site (site_of w y.client) refl
      where
        at : (site : WorldClient) → site_of w y.client ≡ Some site → (r : Bool) →
            AllServed (if r then ev.client_takes z y.client (ev.end_told z (suc n) ok y) site else ev.quiet z).world
        at site s true =
            takes past z y.client (ev.end_told z (suc n) ok y) site site s refl refl (record { lives = l.lives; known = l.known })
            (record { count = pl.count; told = pl.told; known = pl.known })
            (b.writes.commands.counts ∙ sym (set_length w.disks.commands n (disks.reported ok d))) (b.flush.sites y.client site s) tt h
        at site s false = h

        at_site : (s : Option WorldClient) → site_of w y.client ≡ s → AllServed (ev.tells_client z (suc n) ok y s).world
        at_site None s = h
        at_site (Some site) s = at site s (ev.is_same_instance y site)

  no_report : (k : ℕ) (ok : Bool) → disks.command w.disks k ≡ None → adm.refusal w (events.Report k ok) ≡ None → ⊥
  unfolding adm.refusal adm.refused_report
  no_report k ok e r = no (ap (adm.refused_report w k ok) (sym e) ∙ r)
    where
      no : adm.refused_report w k ok None ≡ None → ⊥
      no q = cc

  report_served : (k : ℕ) (ok : Bool) → adm.refusal w (events.Report k ok) ≡ None → AllServed (ev.reports_of w k ok).world
  report_served zero ok r = absurd (no_report zero ok refl r)
  report_served (suc n) ok r = go (disks.command w.disks (suc n)) refl
    where
      go : (d : Option DiskCommand) → disks.command w.disks (suc n) ≡ d → AllServed (ev.reports_of w (suc n) ok).world
      go None q = absurd (no_report (suc n) ok q r)
      go (Some d) q =
          subst (λ (s : WorldTurn). AllServed s.world) (sym (report_is w (suc n) ok d (report_finds w (suc n) ok d q r)))
          (told n ok d q (issued_of w (suc n)) refl)

  happens_served : (e : Event) → adm.refusal w e ≡ None → AllServed (ev.happens w e).world
  unfolding ev.happens ev.ticks ev.asks_at ev.delivers ev.delivers_to ev.loses_message ev.marks ev.effects ev.advances ev.crashes ev.crashes_client
      ev.crashes_server ev.starts ev.starts_client ev.starts_server
  happens_served (events.Tick (nodes.Client c)) r = at_client c inputs.Tick (site_of w c) refl tt
  happens_served (events.Tick (nodes.Server s)) r = at_server w s serving.Tick (node_of w s) h
  happens_served (events.App c ask) r = go (site_of w c) refl
    where
      go : (s : Option WorldClient) → site_of w c ≡ s → AllServed (ev.asks_at w c ask s).world
      go None e = h
      go (Some site) e =
          takes past w c (inputs.App (site.asks + 1) ask) site (ev.asked_once_more site) e refl refl l pl b.writes.commands.counts (b.flush.sites c site e) tt h
  happens_served (events.Deliver k) r = go (world.message_of w k) refl
    where
      to : (m : SentMessage) → Has m w.net.messages → (n : NodeId) → AllServed (ev.delivers_to w m.message n).world
      to m i (nodes.Client c) = at_client c (inputs.Control m.message) (site_of w c) refl (pl.told m i)
      to m i (nodes.Server s) = at_server w s (serving.Control m.message) (node_of w s) h

      go : (m : Option SentMessage) → world.message_of w k ≡ m → AllServed (ev.delivers w m).world
      go None e = h
      go (Some m) e = to m (numbered_has w.net.messages k m e) (world.receiver_of m)
  happens_served (events.Lose k) r = go (world.message_of w k)
    where
      go : (m : Option SentMessage) → AllServed (ev.loses_message w k m)
      go None = h
      go (Some m) = h
  happens_served (events.Cut from to) r = h
  happens_served (events.Heal from to) r = h
  happens_served (events.Advance steps) r = h
  happens_served (events.Effect k) r = h
  happens_served (events.Report k ok) r = report_served k ok r
  happens_served (events.Crash (nodes.Client c)) r = go (site_of w c) refl
    where
      go : (s : Option WorldClient) → site_of w c ≡ s → AllServed (ev.crashes_client w c s).world
      go None e = h
      go (Some site) e = crashed w c site e h
  happens_served (events.Crash (nodes.Server s)) r = go (node_of w s)
    where
      go : (n : Option ServerNode) → AllServed (ev.crashes_server w s n)
      go None = h
      go (Some node) = h
  happens_served (events.Start (nodes.Client c)) r = go (site_of w c) refl
    where
      go : (s : Option WorldClient) → site_of w c ≡ s → AllServed (ev.starts_client w c s)
      go None e = h
      go (Some site) e = started w c site e h
  happens_served (events.Start (nodes.Server s)) r = go (node_of w s)
    where
      go : (n : Option ServerNode) → AllServed (ev.starts_server w s n)
      go None = h
      go (Some node) = h

-- One step.
pub served_on : (past : List Step) (t : Traced) (e : Event) (sc : WorldTurn) → world_step t.world e ≡ Ok sc → PlacesHold t.world → Stand past t →
    AllServed t.world → AllServed sc.world
unfolding adm.refusal adm.refused_delivery adm.clocks_refused adm.flush_missed adm.refused_effect adm.refused_report world.node_of_place adm.missed_by
served_on past t e sc is places s h =
    let z = step_happens t.world e sc is in
    let pl = places_at t.world places in
    subst (λ (x : WorldTurn). AllServed x.world) (sym z.1)
    (happens_served past (counted t.world) (counted_fates t.world s.fates).lives (record { count = pl.count; told = pl.told; known = pl.known })
    (counted_both past t.world s.both) h e z.0)

-- At the start no command was issued.
pub served_begins : (k : Config) (clients servers d b form : ℕ) → AllServed (fresh_world k clients servers d b form)
unfolding fresh_world
served_begins k clients servers d b form c site e r a i pc m j x is own = absurd (none j x is)
  where
    none : (j : ℕ) (x : IssuedCommand) → numbered {A = IssuedCommand} [] j ≡ Some x → ⊥
    none zero x e = cc
    none (suc j) x e = cc
