-- Hard is hard, at each event: and each pending operation is what was asked under its number.
use Rattle.st_lemmas.proofs.Words
use Words.{◌≡◌, ◌≢◌, ℕ, ◌+◌, ◌⊎◌, Bool, true, false, List, [], ◌∷◌, ◌++◌, Option, Some, None, Ok, Err, refl, sym, ap, ◌∙◌, subst, inl, inr, arith}
use Words.{if◌then◌else◌, Result, length, suc, cons_option, eq-eqb, ne_eqb, ClientId, NodeId, ServerId, Stamp, Ask, Event, ClientInput, DiskCommand}
use Words.{ServerInput, StepRefusal, IssuedCommand, SentMessage, append-nil}
use Words.nodes
use Words.events
use Words.inputs
use Words.serving
use Words.Admissible as adm
use Words.Client as cl
use Words.ClientState.{Association}
use Words.Disks as disks
use Words.Events as ev
use Words.Events.{WorldTurn, client_says_all, present_life}
use Words.Keys.{same_client}
use Words.Lines.{AtEach}
use Words.Safety as safety
use Words.Safety.{Step, ask_in}
use Words.Server as server
use Words.Server.{ServerNode}
use Words.World as world
use Words.World.{World, WorldClient, clock_of, issued_of, life_with, node_of, numbered, site_of, with_numbered}
use Words.Lists.{Has}
use Words.Lookups.{some_is}
use Words.Numbers.{get_last, length_more, numbered_below, numbered_has, numbered_old, numbered_other, numbered_own}
use Words.Tables.{not_false, same_or_not}
use Words.Worlds.{stands_not}
use Rattle.st_rules.specs.declared.node.StepRefusal.TheVariants.{Crashed}
use Rattle.st_laws_pages.specs.Fates.Fates.{BeforeEnd, GoneAll}
use Rattle.st_laws_pages.specs.Flush.Flush.{NodeCared}
use Rattle.st_laws_steps.specs.Client.Losses.{Fit}
use Rattle.st_laws_pages.specs.Disks.Obligations.{FatesHold}
use Rattle.st_laws_pages.proofs.Flush.Adding.{after_clients}
use Rattle.st_laws_pages.proofs.Disks.Effects.{or_none, report_finds, report_is, reported_world}
use Rattle.st_laws_pages.proofs.Fates.Fates.{pending_map}
use Rattle.st_laws_pages.proofs.Flush.Flushing.{InputTold}
use Rattle.st_laws_pages.proofs.Flush.FlushSteps.{node_fates}
use Rattle.st_laws_pages.proofs.Fates.GoneLaw.{Over, gone_known, kept}
use Rattle.st_laws_pages.proofs.Lives.Lasting.{Flushed, flush_parts}
use Rattle.st_laws_pages.proofs.Lives.LifeSteps.{steps_so}
use Rattle.st_laws_pages.proofs.Fates.Owing.{over_apart}
use Rattle.st_laws_pages.proofs.Asks.Places.{Knows}
use Rattle.st_laws_pages.proofs.Asks.Says.{AllDull, server_dull, server_leaves}
use Rattle.st_laws_pages.proofs.Asks.World.{asks_more, asks_of, asks_same}
use Rattle.st_laws_pages.proofs.Causes.Answering.{AsksIt, KeysAsked, step_asked, step_said}
use Rattle.st_laws_pages.proofs.Causes.Events.{lacks_none, no_report, own_set, reported_both, told_of, up_one}
use Rattle.st_laws_pages.proofs.Causes.FlushSteps.{BothHold}
use Rattle.st_laws_pages.proofs.Causes.HardSeen.{dull_hard, says_hard}
use Rattle.st_laws_pages.proofs.Causes.Hardly.{Hards, Ungone}
use Rattle.st_laws_pages.proofs.Causes.Placed.{InputTells, Placed, PlacesAt, step_placed}
use Rattle.st_laws_pages.proofs.Asks.Law.{dull_fates}

-- What holds of a client's pending operations after steps: each is what was asked under its number.
pub record AskedSo (past : List Step) (c : ClientId) (site : WorldClient) : Type 0 where
  pub count : length (asks_of past c) ≡ site.asks
  pub keys : KeysAsked (λ op. numbered (asks_of past c) op) site.node.state.operations

abbrev pub AskedHold : List Step → World → Type 0
AskedHold past w = (c : ClientId) (site : WorldClient) → site_of w c ≡ Some site → AskedSo past c site

-- what was asked before is asked after one more step
grows : (xs : List Ask) (o : Option Ask) (op : ℕ) (y : Ask) → numbered xs op ≡ Some y → numbered (xs ++ cons_option o []) op ≡ Some y
grows xs None op y e = ap (λ l. numbered l op) (append-nil xs) ∙ e
grows xs (Some a) op y e = numbered_old xs a op y e

pub asks_grow : (past : List Step) (x : Step) (c : ClientId) (op : ℕ) (y : Ask) → numbered (asks_of past c) op ≡ Some y → numbered (asks_of (past ++ x ∷ []) c) op ≡ Some y
asks_grow past x c op y e = ap (λ l. numbered l op) (asks_more past x c) ∙ grows (asks_of past c) (ask_in c x.event) op y e

-- a client of which nothing happened, or that was emptied
still_asked : (past : List Step) (x : Step) (c : ClientId) (old new : WorldClient) → ask_in c x.event ≡ None → new.asks ≡ old.asks → (new.node.state.operations ≡ old.node.state.operations) ⊎ (new.node.state.operations ≡ []) → AskedSo past c old → AskedSo (past ++ x ∷ []) c new
still_asked past x c old new none e ops h =
    record { count = ap (λ l. length l) (asks_same past x c none) ∙ h.count ∙ sym e; keys = go ops }
  where
    go : (new.node.state.operations ≡ old.node.state.operations) ⊎ (new.node.state.operations ≡ []) → KeysAsked (λ op. numbered (asks_of (past ++ x ∷ []) c) op) new.node.state.operations
    go (inl q) = subst (KeysAsked (λ op. numbered (asks_of (past ++ x ∷ []) c) op)) (sym q) (λ k i. asks_grow past x c k.0 k.1 (h.keys k i))
    go (inr q) = subst (KeysAsked (λ op. numbered (asks_of (past ++ x ∷ []) c) op)) (sym q) (λ k i. absurd i)

module _ (past : List Step) (x : Step) where
  abbrev more : List Step
  more = past ++ x ∷ []

  -- What an event leaves, of these lines.
  pub record Left (w : World) (sc : WorldTurn) : Type 0 where
    pub hard : AtEach (safety.IsHardAt past x) x.after.world w.log sc.seen
    pub asks : AskedHold more sc.world

  -- Lines that answer nothing, and clients that are as they were.
  silent : (w : World) (sc : WorldTurn) → ((c : ClientId) → ask_in c x.event ≡ None) → AllDull sc.seen → sc.world.clients ≡ w.clients → AskedHold past w → Left w sc
  silent w sc none d cs h =
      record {
        hard = dull_hard past x x.after.world w.log sc.seen d;
        asks = λ c site e. still_asked past x c site site (none c) refl (inl refl) (h c site (ap (λ zs. numbered zs c.0) (sym cs) ∙ e));
      }

  -- one client is replaced by one with nothing pending
  emptied : (w : World) (sc : WorldTurn) (c : ClientId) (old new : WorldClient) → ((d : ClientId) → ask_in d x.event ≡ None) → AllDull sc.seen → site_of w c ≡ Some old → sc.world.clients ≡ with_numbered c.0 new w.clients → new.asks ≡ old.asks → new.node.state.operations ≡ [] → AskedHold past w → Left w sc
  emptied w sc c old new none d there cs e ops h =
      record { hard = dull_hard past x x.after.world w.log sc.seen d; asks = λ y site q. go y site q (same_or_not y.0 c.0) }
    where
      go : (y : ClientId) (site : WorldClient) → site_of sc.world y ≡ Some site → (y.0 ≡ c.0) ⊎ (y.0 ≢ c.0) → AskedSo more y site
      go y site q (inl i) =
          let is : c ≡ y = ap (λ n. record { 0 = n }) (sym i) in
          let s : new ≡ site = some_is (sym (numbered_own w.clients c.0 new old there) ∙ ap (numbered (with_numbered c.0 new w.clients)) (sym i) ∙ ap (λ zs. numbered zs y.0) (sym cs) ∙ q) in
          subst (λ (z : ClientId). AskedSo more z site) is (subst (AskedSo more c) s (still_asked past x c old new (none c) e (inr ops) (h c old there)))
      go y site q (inr n) =
          still_asked past x y site site (none y) refl (inl refl) (h y site (sym (numbered_other w.clients c.0 y.0 new (numbered_below w.clients c.0 old there).0 n) ∙ ap (λ zs. numbered zs y.0) (sym cs) ∙ q))

  -- A client takes an input.
  module _ (w : World) (size : ℕ) (f : FatesHold w) (pl : PlacesAt size w) (b : BothHold past w) (asked : AskedHold past w) where
    module _ (c : ClientId) (input : ClientInput) (old site : WorldClient) (there : site_of w c ≡ Some old) (same : old.node ≡ site.node) (starts : old.starts ≡ site.starts) (tells : InputTells size input) (told : (sc : WorldTurn) → sc.world.commands ≡ w.commands → sc.world.disks ≡ w.disks → InputTold more sc c site.starts input)
        (new : AsksIt (λ op. numbered (asks_of more c) op) input) (others : (d : ClientId) → d.0 ≢ c.0 → ask_in d x.event ≡ None) (count : length (asks_of more c) ≡ site.asks) where
      abbrev now : Stamp
      now = clock_of w (nodes.Client c)

      abbrev t : cl.NodeTurn
      t = cl.node_turn site.node (cl.client_step site.node.state now input)

      abbrev after : WorldClient
      after = ev.at_node t.node site

      abbrev v0 : World
      v0 = ev.with_site c after w

      abbrev u : World
      u = (client_says_all c site.node.state t.out (ev.quiet v0)).world

      abbrev v : World
      v = ev.flushes c t.node.state (world.all_servers u) u

      own : site_of v0 c ≡ Some after
      own = numbered_own w.clients c.0 after old there

      fl : Flushed u v
      fl = flush_parts c t.node.state (world.all_servers u) u

      clients : v.clients ≡ with_numbered c.0 after w.clients
      clients = fl.clients ∙ after_clients c site.node.state t.out (ev.quiet v0)

      fit : (a : Association) → Has a site.node.state.associations → Fit a
      fit = subst (λ (m : cl.ClientNode). (a : Association) → Has a m.state.associations → Fit a) same (f.lives.lives.sites c old there).fit

      knows : (a : Association) → Has a site.node.state.associations → Knows size a.server a.store.extents
      knows = subst (λ (m : cl.ClientNode). (a : Association) → Has a m.state.associations → Knows size a.server a.store.extents) same (pl.known c old there)

      keys : KeysAsked (λ op. numbered (asks_of more c) op) site.node.state.operations
      keys = subst (λ (m : cl.ClientNode). KeysAsked (λ op. numbered (asks_of more c) op) m.state.operations) same (λ k i. asks_grow past x c k.0 k.1 ((asked c old there).keys k i))

      placed : Placed size t.out
      placed = step_placed size c site.node.state now input tells fit knows

      module _ (runs : site.node.running ≡ true) where
        old_runs : old.node.running ≡ true
        old_runs = ap (λ (n : cl.ClientNode). n.running) same ∙ runs

        gone : GoneAll (Ungone c (life_with after.node.state)) w.log
        gone = gone_known (Over w) (Ungone c (life_with after.node.state)) w.log (λ o i z q e. over_apart w c old t.node.state t.out there old_runs (steps_so w c old site input there same f.lives) f.lives o (f.lives.known.owners o i) z q e) f.gone

        cared : NodeCared more w.commands w.log c old
        cared = node_fates past more w.commands w.log w.log c old (up_one past x) (λ g q. refl) (λ P z. z) (b.flush.sites c old there old_runs)

        said : Hards (λ op. numbered (asks_of more c) op) c (λ r. life_with after.node.state r) site.node.state (ev.quiet v0) t.out
        unfolding cl.client_step
        said =
            step_said more w c old site input now there same starts f.lives size own pl.count b.writes.commands placed (told (ev.quiet v0) refl refl) cared (b.writes.latest_own c old there old_runs) (λ op. numbered (asks_of more c) op) gone tells new fit knows keys

        pub took : x.after.world ≡ v → Left w (ev.world_turn v (client_says_all c site.node.state t.out (ev.quiet v0)).seen)
        unfolding cl.client_step
        took e = record { hard = hard; asks = λ d y q. go d y q (same_or_not d.0 c.0) }
          where
            life : (r : ServerId) → present_life x.after.world c r ≡ life_with after.node.state r
            life r = ap (λ (z : World). present_life z c r) e ∙ ap (λ zs. ev.life_of_site r (numbered zs c.0)) clients ∙ ap (ev.life_of_site r) own

            hard : AtEach (safety.IsHardAt past x) x.after.world w.log (client_says_all c site.node.state t.out (ev.quiet v0)).seen
            hard = says_hard past x c (λ r. life_with after.node.state r) site.node.state t.out v0 life (λ r. ap (ev.life_of_site r) own) said

            go : (d : ClientId) (y : WorldClient) → site_of v d ≡ Some y → (d.0 ≡ c.0) ⊎ (d.0 ≢ c.0) → AskedSo more d y
            go d y q (inl i) =
                let is : c ≡ d = ap (λ n. record { 0 = n }) (sym i) in
                let s : after ≡ y = some_is (sym own ∙ ap (numbered (with_numbered c.0 after w.clients)) (sym i) ∙ ap (λ zs. numbered zs d.0) (sym clients) ∙ q) in
                subst (λ (z : ClientId). AskedSo more z y) is
                (subst (AskedSo more c) s
                (record {
                  count = count;
                  keys = step_asked more w c old site input now there same starts f.lives size own pl.count b.writes.commands placed (told (ev.quiet v0) refl refl) cared (b.writes.latest_own c old there old_runs) (λ op. numbered (asks_of more c) op) gone tells new fit knows keys;
                }))
            go d y q (inr n) =
                still_asked past x d y y (others d n) refl (inl refl) (asked d y (sym (numbered_other w.clients c.0 d.0 after (numbered_below w.clients c.0 old there).0 n) ∙ ap (λ zs. numbered zs d.0) (sym clients) ∙ q))

        pub takes_left : x.after.world ≡ (ev.client_takes w c input site).world → Left w (ev.client_takes w c input site)
        unfolding ev.client_takes ev.client_took cl.node_step
        takes_left e = go site.node.running runs e
          where
            go : (r : Bool) → r ≡ true → x.after.world ≡ (ev.client_took w c site (if r then Ok t else Err Crashed)).world → Left w (ev.client_took w c site (if r then Ok t else Err Crashed))
            go true q e = let z = took e in record { hard = z.hard; asks = z.asks }
            go false q e = cc

    -- an input that isn't an ask
    quiet_takes : (c : ClientId) (input : ClientInput) (site : WorldClient) → site_of w c ≡ Some site → InputTells size input → ((sc : WorldTurn) → sc.world.commands ≡ w.commands → sc.world.disks ≡ w.disks → InputTold more sc c site.starts input) → AsksIt (λ op. numbered (asks_of more c) op) input →
        ((d : ClientId) → ask_in d x.event ≡ None) → x.after.world ≡ (ev.client_takes w c input site).world → Left w (ev.client_takes w c input site)
    unfolding ev.client_takes ev.client_took cl.node_step
    quiet_takes c input site there tells told new none e = go site.node.running refl e
      where
        t : cl.NodeTurn
        t = cl.node_turn site.node (cl.client_step site.node.state (clock_of w (nodes.Client c)) input)

        go : (r : Bool) → site.node.running ≡ r → x.after.world ≡ (ev.client_took w c site (if r then Ok t else Err Crashed)).world → Left w (ev.client_took w c site (if r then Ok t else Err Crashed))
        go true q e =
            let z = took c input site site there refl refl tells told new (λ d n. none d) (ap (λ l. length l) (asks_same past x c (none c)) ∙ (asked c site there).count) q e in
            record { hard = z.hard; asks = z.asks }
        go false q e = silent w (ev.quiet w) none tt refl asked

    at_client_left : (c : ClientId) (input : ClientInput) (o : Option WorldClient) → site_of w c ≡ o → InputTells size input → ((starts : ℕ) (sc : WorldTurn) → InputTold more sc c starts input) → AsksIt (λ op. numbered (asks_of more c) op) input → ((d : ClientId) → ask_in d x.event ≡ None) →
        x.after.world ≡ (ev.at_client w c input o).world → Left w (ev.at_client w c input o)
    unfolding ev.at_client
    at_client_left c input None there tells told new none e = silent w (ev.quiet w) none tt refl asked
    at_client_left c input (Some site) there tells told new none e = quiet_takes c input site there tells (λ sc a b. told site.starts sc) new none e

    -- an ask
    ask_left : (c : ClientId) (ask : Ask) (o : Option WorldClient) → site_of w c ≡ o → world.site_runs o ≡ true → x.event ≡ events.App c ask → x.after.world ≡ (ev.asks_at w c ask o).world → Left w (ev.asks_at w c ask o)
    unfolding ev.asks_at safety.ask_of_client
    ask_left c ask None there runs q e = cc
    ask_left c ask (Some site) there runs q e =
        takes_left c (inputs.App (site.asks + 1) ask) site (ev.asked_once_more site) there refl refl tt (λ sc a b. tt) new others count runs e
      where
        its : (d : ClientId) (b : Bool) → same_client d c ≡ b → ask_in d x.event ≡ (if b then Some ask else None)
        its d b z = ap (ask_in d) q ∙ ap (λ y. if y then Some ask else None) z

        own : asks_of more c ≡ asks_of past c ++ ask ∷ []
        own = asks_more past x c ∙ ap (λ z. asks_of past c ++ cons_option z []) (its c true (eq-eqb c.0 c.0 refl))

        was : length (asks_of past c) ≡ site.asks
        was = (asked c site there).count

        new : numbered (asks_of more c) (site.asks + 1) ≡ Some ask
        new = ap (λ l. numbered l (site.asks + 1)) own ∙ ap (λ m. numbered (asks_of past c ++ ask ∷ []) m) (let z : site.asks + 1 ≡ suc (length (asks_of past c)) = omega (arith, was) in z) ∙ get_last (asks_of past c) ask

        others : (d : ClientId) → d.0 ≢ c.0 → ask_in d x.event ≡ None
        others d n = its d false (ne_eqb d.0 c.0 n)

        count : length (asks_of more c) ≡ site.asks + 1
        count = ap (λ l. length l) own ∙ length_more (asks_of past c) ask ∙ (let z : suc (length (asks_of past c)) ≡ site.asks + 1 = omega (arith, was) in z)

    -- the end of a command
    told_left : (k : ℕ) (ok : Bool) (d : DiskCommand) → disks.command w.disks k ≡ Some d → (ok ≡ true → d.effected ≡ true) → x.event ≡ events.Report k ok → ((d : ClientId) → ask_in d x.event ≡ None) → (o : Option IssuedCommand) → issued_of w k ≡ o → x.after.world ≡ (ev.tells w k ok o).world → Left w (ev.tells w k ok o)
    unfolding ev.tells ev.tells_client ev.tells_site
    told_left k ok d is done q none None i e = silent w (ev.quiet w) none tt refl asked
    told_left k ok d is done q none (Some y) i e = at_site (site_of w y.client) refl e
      where
        at : (site : WorldClient) → site_of w y.client ≡ Some site → (b : Bool) → ev.is_same_instance y site ≡ b → x.after.world ≡ (if b then ev.client_takes w y.client (ev.end_told w k ok y) site else ev.quiet w).world → Left w (if b then ev.client_takes w y.client (ev.end_told w k ok y) site else ev.quiet w)
        at site s true t e = quiet_takes y.client (ev.end_told w k ok y) site s tt (told_of past x w k ok d is done q y i site t) tt none e
        at site s false t e = silent w (ev.quiet w) none tt refl asked

        at_site : (s : Option WorldClient) → site_of w y.client ≡ s → x.after.world ≡ (ev.tells_client w k ok y s).world → Left w (ev.tells_client w k ok y s)
        at_site None s e = silent w (ev.quiet w) none tt refl asked
        at_site (Some site) s e = at site s (ev.is_same_instance y site) refl e

  report_left : (w : World) (size : ℕ) (k : ℕ) (ok : Bool) → adm.refusal w (events.Report k ok) ≡ None → x.event ≡ events.Report k ok → ((d : ClientId) → ask_in d x.event ≡ None) → FatesHold w → PlacesAt size w → BothHold past w → AskedHold past w → x.after.world ≡ (ev.reports_of w k ok).world → Left w (ev.reports_of w k ok)
  report_left w size k ok r q none f pl b h e = go (disks.command w.disks k) refl
    where
      go : (d : Option DiskCommand) → disks.command w.disks k ≡ d → Left w (ev.reports_of w k ok)
      go None i = absurd (no_report past x w k ok i r)
      go (Some d) i =
          let g = report_finds w k ok d i r in
          let is = report_is w k ok d g in
          let v : World = reported_world w k ok d in
          let fates : FatesHold v = record { lives = record { lives = f.lives.lives; known = f.lives.known }; pending = pending_map (BeforeEnd w) (BeforeEnd v) w.log (λ o y. record { end = y.end; is = y.is; before = y.before }) f.pending; gone = gone_known (Over w) (Over v) w.log (λ o y z. kept w o v (λ y. record { row = y.row; is = y.is; crashed = y.crashed }) (λ y. record { end = y.end; is = y.is; late = y.late }) z) f.gone } in
          let z = told_left v size fates (record { count = pl.count; told = pl.told; known = pl.known }) (reported_both past x w k ok d i b) h k ok (disks.reported ok d) (own_set past x w ok d k i) (lacks_none past x ok d g.done) q none (issued_of w k) refl (e ∙ ap (λ (s : WorldTurn). s.world) is) in
          subst (Left w) (sym is) (record { hard = z.hard; asks = z.asks })

  -- A server's step.
  at_server_left : (w : World) (s : ServerId) (input : ServerInput) (o : Option ServerNode) → ((d : ClientId) → ask_in d x.event ≡ None) → AskedHold past w → Left w (ev.at_server w s input o)
  unfolding ev.at_server ev.server_takes ev.server_took
  at_server_left w s input None none h = silent w (ev.quiet w) none tt refl h
  at_server_left w s input (Some node) none h = go (server.node_step node (clock_of w (nodes.Server s)) input)
    where
      go : (r : Result server.NodeTurn StepRefusal) → Left w (ev.server_took w s r)
      go (Err e) = silent w (ev.quiet w) none tt refl h
      go (Ok t) = silent w (ev.server_says_all s t.out (ev.quiet (ev.with_node s t.node w))) none (server_dull s t.out (ev.quiet (ev.with_node s t.node w)) tt) (server_leaves s t.out (ev.quiet (ev.with_node s t.node w))).clients h

  app_runs : (w : World) (c : ClientId) (ask : Ask) → adm.refusal w (events.App c ask) ≡ None → world.site_runs (site_of w c) ≡ true
  unfolding adm.refusal
  app_runs w c ask r = not_false _ (stands_not _ _ (or_none _ _ (or_none _ _ r).1).0)

  -- Every event.
  pub happens_left : (w : World) (e : Event) (size : ℕ) → adm.refusal w e ≡ None → x.event ≡ e → x.after.world ≡ (ev.happens w e).world → FatesHold w → PlacesAt size w → BothHold past w → AskedHold past w → Left w (ev.happens w e)
  unfolding ev.happens ev.ticks ev.delivers ev.delivers_to ev.loses_message ev.advances ev.marks ev.effects ev.crashes ev.crashes_client ev.crashes_server ev.starts ev.starts_client ev.starts_server cl.crash cl.start
  happens_left w (events.Tick (nodes.Client c)) size r q a f pl b h = at_client_left w size f pl b h c inputs.Tick (site_of w c) refl tt (λ s sc. tt) tt (λ d. ap (ask_in d) q) a
  happens_left w (events.Tick (nodes.Server s)) size r q a f pl b h = at_server_left w s serving.Tick (node_of w s) (λ d. ap (ask_in d) q) h
  happens_left w (events.App c ask) size r q a f pl b h = ask_left w size f pl b h c ask (site_of w c) refl (app_runs w c ask r) q a
  happens_left w (events.Deliver k) size r q a f pl b h = go (world.message_of w k) refl a
    where
      to : (m : SentMessage) → Has m w.net.messages → (n : NodeId) → x.after.world ≡ (ev.delivers_to w m.message n).world → Left w (ev.delivers_to w m.message n)
      to m i (nodes.Client c) a = at_client_left w size f pl b h c (inputs.Control m.message) (site_of w c) refl (pl.told m i) (λ s sc. tt) tt (λ d. ap (ask_in d) q) a
      to m i (nodes.Server s) a = at_server_left w s (serving.Control m.message) (node_of w s) (λ d. ap (ask_in d) q) h

      go : (m : Option SentMessage) → world.message_of w k ≡ m → x.after.world ≡ (ev.delivers w m).world → Left w (ev.delivers w m)
      go None e a = silent w (ev.quiet w) (λ d. ap (ask_in d) q) tt refl h
      go (Some m) e a = to m (numbered_has w.net.messages k m e) (world.receiver_of m) a
  happens_left w (events.Lose k) size r q a f pl b h = go (world.message_of w k)
    where
      go : (m : Option SentMessage) → Left w (ev.quiet (ev.loses_message w k m))
      go None = silent w (ev.quiet w) (λ d. ap (ask_in d) q) tt refl h
      go (Some m) = silent w (ev.quiet (ev.with_lost k m w)) (λ d. ap (ask_in d) q) tt refl h
  happens_left w (events.Cut from to) size r q a f pl b h = silent w (ev.quiet (ev.with_cut from to w)) (λ d. ap (ask_in d) q) tt refl h
  happens_left w (events.Heal from to) size r q a f pl b h = silent w (ev.quiet (ev.without_cut from to w)) (λ d. ap (ask_in d) q) tt refl h
  happens_left w (events.Advance steps) size r q a f pl b h = silent w (ev.advances w steps) (λ d. ap (ask_in d) q) (dull_fates 1 w.log _) refl h
  happens_left w (events.Effect k) size r q a f pl b h = silent w (ev.effects w k) (λ d. ap (ask_in d) q) (dull_fates 1 w.log _) refl h
  happens_left w (events.Report k ok) size r q a f pl b h = report_left w size k ok r q (λ d. ap (ask_in d) q) f pl b h a
  happens_left w (events.Crash (nodes.Client c)) size r q a f pl b h = go (site_of w c) refl
    where
      go : (s : Option WorldClient) → site_of w c ≡ s → Left w (ev.crashes_client w c s)
      go None e = silent w (ev.quiet w) (λ d. ap (ask_in d) q) tt refl h
      go (Some site) e = emptied w (ev.crashes_client w c (Some site)) c site (ev.stopped_site site) (λ d. ap (ask_in d) q) (dull_fates 1 w.log _) e refl refl refl h
  happens_left w (events.Crash (nodes.Server s)) size r q a f pl b h = go (node_of w s)
    where
      go : (n : Option ServerNode) → Left w (ev.quiet (ev.crashes_server w s n))
      go None = silent w (ev.quiet w) (λ d. ap (ask_in d) q) tt refl h
      go (Some node) = silent w (ev.quiet (ev.with_node s (server.crash_node node) w)) (λ d. ap (ask_in d) q) tt refl h
  happens_left w (events.Start (nodes.Client c)) size r q a f pl b h = go (site_of w c) refl
    where
      go : (s : Option WorldClient) → site_of w c ≡ s → Left w (ev.quiet (ev.starts_client w c s))
      go None e = silent w (ev.quiet w) (λ d. ap (ask_in d) q) tt refl h
      go (Some site) e = emptied w (ev.quiet (ev.with_site c (ev.started_site site) w)) c site (ev.started_site site) (λ d. ap (ask_in d) q) tt e refl refl refl h
  happens_left w (events.Start (nodes.Server s)) size r q a f pl b h = go (node_of w s)
    where
      go : (n : Option ServerNode) → Left w (ev.quiet (ev.starts_server w s n))
      go None = silent w (ev.quiet w) (λ d. ap (ask_in d) q) tt refl h
      go (Some node) = silent w (ev.quiet (ev.with_node s _ w)) (λ d. ap (ask_in d) q) tt refl h
