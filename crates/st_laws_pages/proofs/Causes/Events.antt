-- What holds of the flush, of the commands and of the latest entries, at each event.
use Rattle.st_lemmas.proofs.Words
use Words.{◌≡◌, ◌≢◌, ℕ, ◌+◌, ◌≤◌, ◌<◌, ◌⊎◌, Bool, true, false, ◌&&◌, ◌||◌, List, [], ◌∷◌, ◌++◌, ◌==◌, Option, Some, None, Ok, Err, refl, sym, ap, ◌∙◌, subst}
use Words.{inl, inr, arith, if◌then◌else◌, Result, length, map, zero, suc, list_any, eqb-true, eq-eqb, ne_eqb, ClientId, FileId, PageNo, ServerId, NodeId}
use Words.{Event, Note, Output, ClientInput, DiskCommand, ServerInput, LogEntry, LogOwner, StepRefusal, FlushStep, IssuedCommand, LeaseLife, SentMessage}
use Words.{Command, DirtyPage}
use Words.nodes
use Words.events
use Words.notes
use Words.outputs
use Words.inputs
use Words.serving
use Words.causes
use Words.Keys.{same_file, same_page}
use Words.FlatLog as log
use Words.Disks as disks
use Words.Client as cl
use Words.ClientState.{Association, ClientSession}
use Words.Server as server
use Words.Server.{ServerNode}
use Words.World as world
use Words.World.{World, WorldClient, numbered, with_numbered, site_of, node_of, issued_of, clock_of}
use Words.Admissible as adm
use Words.Events as ev
use Words.Events.{WorldTurn, latest}
use Words.Safety.{Step, reports_failure}
use Words.Lists.{Has}
use Words.Lookups.{some_is, or_left, or_right}
use Words.Numbers.{numbered_own, numbered_other, numbered_below, numbered_has, set_length, set_own}
use Words.Tables.{same_or_not, has_map, and_true, not_false}
use Words.commands
use Words.ClientPages as pages
use Rattle.st_rules.specs.declared.node.StepRefusal.TheVariants.{Crashed}
use Rattle.st_laws_pages.specs.Fates.Fates.{PendingAll}
use Rattle.st_laws_steps.specs.Lives.Lives.{clock_in, owner_of, LivesHold}
use Rattle.st_laws_pages.specs.Flush.Flush.{Cared, NumbersApart, NodeCared, StartsBelow, FlushRight, FlushHold}
use Rattle.st_laws_pages.proofs.Disks.Effects.{effect_finds, effect_is, report_finds, report_is, reported_world}
use Rattle.st_laws_pages.proofs.Flush.Caring.{latest_stays}
use Rattle.st_laws_pages.proofs.Fates.FateLaw.{pending_hard, pending_fewer}
use Rattle.st_laws_pages.proofs.Fates.FateSteps.{pending_more}
use Rattle.st_laws_pages.proofs.Disks.Moves.{clock_up}
use Rattle.st_laws_pages.proofs.Lives.LifeSteps.{owners_hard, owners_ended}
use Rattle.st_laws_pages.proofs.Flush.Keeping.{Told}
use Rattle.st_laws_pages.proofs.Flush.Flushing.{InputTold, emptied_cared}
use Rattle.st_laws_pages.proofs.Flush.FlushSteps.{latest_owners, node_fates, moved_flush, same_clocks}
use Rattle.st_lemmas.proofs.Marks.{owners_drop}
use Rattle.st_laws_steps.specs.Client.Losses.{Fit}
use Rattle.st_laws_pages.proofs.Asks.Places.{Knows}
use Rattle.st_laws_pages.specs.Causes.Invariants.{CommandsStand, LatestOwn, LatestStand, WritesStand}
use Rattle.st_laws_pages.proofs.Causes.Commands.{effect_stands, entry_joins, lives_end, picked_drop, report_stands}
use Rattle.st_laws_pages.proofs.Causes.Latest.{latest_elsewhere, latest_owned}
use Rattle.st_laws_pages.proofs.Causes.Placed.{InputTells, PlacesAt, step_placed}
use Rattle.st_laws_pages.proofs.Causes.FlushSteps.{BothHold, client_after}

-- After one more step.
pub up_one : (past : List Step) (x : Step) (n : ℕ) → list_any (reports_failure n) past ≡ true → list_any (reports_failure n) (past ++ x ∷ []) ≡ true
up_one [] x n h = cc
up_one (y ∷ past) x n h = go (reports_failure n y) h (up_one past x n)
  where
    go : (b : Bool) → (b || list_any (reports_failure n) past) ≡ true → (list_any (reports_failure n) past ≡ true → list_any (reports_failure n) (past ++ x ∷ []) ≡ true) → (b || list_any (reports_failure n) (past ++ x ∷ [])) ≡ true
    go true h f = refl
    go false h f = f h

-- the step that reports a failure is among them
reported_one : (past : List Step) (x : Step) (k : ℕ) → x.event ≡ events.Report k false → list_any (reports_failure k) (past ++ x ∷ []) ≡ true
reported_one [] x k e = or_left (reports_failure k x) false (ap (Rattle.st_rules.specs.Safety.is_failure_of k) e ∙ ap (λ b. b && true) (eq-eqb k k refl))
reported_one (y ∷ past) x k e = or_right (reports_failure k y) (list_any (reports_failure k) (past ++ x ∷ [])) (reported_one past x k e)

module _ (past : List Step) (x : Step) where
  abbrev more : List Step
  more = past ++ x ∷ []

  -- nothing moved but what the flush does not look at
  still : (w v : World) → v.config ≡ w.config → v.clocks ≡ w.clocks → v.clients ≡ w.clients → v.commands ≡ w.commands → v.flushed ≡ w.flushed → length v.servers ≡ length w.servers → v.log ≡ w.log → FlushHold past w → FlushHold more v
  still w v k ts cs xs fl ns l h =
      moved_flush past more w v k (λ c. subst (λ t. (clock_in w.clocks c).0 ≤ (clock_in t c).0) (sym ts) (same_clocks w c)) cs xs fl ns (up_one past x) (λ c b f p. ap (λ es. latest es c f p) l) (λ P z. subst (PendingAll P) (sym l) z) h

  -- after the same steps
  still_same : (w v : World) → v.config ≡ w.config → v.clocks ≡ w.clocks → v.clients ≡ w.clients → v.commands ≡ w.commands → v.flushed ≡ w.flushed → length v.servers ≡ length w.servers → v.log ≡ w.log → FlushHold past w → FlushHold past v
  still_same w v k ts cs xs fl ns l h =
      moved_flush past past w v k (λ c. subst (λ t. (clock_in w.clocks c).0 ≤ (clock_in t c).0) (sym ts) (same_clocks w c)) cs xs fl ns (λ n z. z) (λ c b f p. ap (λ es. latest es c f p) l) (λ P z. subst (PendingAll P) (sym l) z) h

  same : (w : World) → FlushHold past w → FlushHold more w
  same w h = still w w refl refl refl refl refl refl refl h

  -- other fates
  marked : (w v : World) (es : List LogEntry) → v.config ≡ w.config → ((c : ClientId) → (clock_in w.clocks c).0 ≤ (clock_in v.clocks c).0) → v.clients ≡ w.clients → v.commands ≡ w.commands → v.flushed ≡ w.flushed → length v.servers ≡ length w.servers → v.log ≡ es → map owner_of es ≡ map owner_of w.log →
      ((P : LogOwner → Type 0) → PendingAll P w.log → PendingAll P es) → FlushHold past w → FlushHold more v
  marked w v es k ts cs xs fl ns l o f h =
      moved_flush past more w v k ts cs xs fl ns (up_one past x) (λ c b g p. ap (λ zs. latest zs c g p) l ∙ latest_owners c g p w.log es o) (λ P z. subst (PendingAll P) (sym l) (f P z)) h

  both_same : (w : World) → BothHold past w → BothHold more w
  both_same w h = record { flush = same w h.flush; writes = h.writes }

  -- The log, the commands and the latest entries, if nothing of them moved but fates.
  latest_marked : (w v : World) → v.clients ≡ w.clients → map owner_of v.log ≡ map owner_of w.log → LatestStand w → LatestStand v
  latest_marked w v cs l h c site e r a i = latest_owned c a w.log v.log l (h c site (ap (λ zs. numbered zs c.0) (sym cs) ∙ e) r a i)

  still_writes : (w v : World) → v.clients ≡ w.clients → v.log ≡ w.log → v.commands ≡ w.commands → v.disks.commands ≡ w.disks.commands → WritesStand w → WritesStand v
  still_writes w v cs l xs ds h =
      record {
        commands = subst (λ es. CommandsStand es v.commands v.disks.commands) (sym l) (subst (λ ys. CommandsStand w.log ys v.disks.commands) (sym xs) (subst (λ ys. CommandsStand w.log w.commands ys) (sym ds) h.commands));
        latest_own = latest_marked w v cs (ap (map owner_of) l) h.latest_own;
      }

  -- what is reported at the end of a command: it was reported among these steps, or had its effect
  pub told_of : (w : World) (k : ℕ) (ok : Bool) (d : DiskCommand) → disks.command w.disks k ≡ Some d → (ok ≡ true → d.effected ≡ true) → x.event ≡ events.Report k ok → (y : IssuedCommand) → issued_of w k ≡ Some y → (site : WorldClient) → ev.is_same_instance y site ≡ true →
      (sc : WorldTurn) → sc.world.commands ≡ w.commands → sc.world.disks ≡ w.disks → InputTold more sc y.client site.starts (ev.end_told w k ok y)
  told_of w k ok d is done e y q site t sc a b = by ok refl
    where
      instance_ : y.starts ≡ site.starts
      instance_ = sym (eqb-true site.starts y.starts (and_true site.node.running (site.starts == y.starts) t).1)

      by : (b' : Bool) → ok ≡ b' → Told more sc y.client site.starts y.number (Rattle.st_laws_steps.proofs.Client.Losing.is_done (ev.result_of b' (disks.sample w.disks k)))
      by true z =
          record {
            k = k;
            command = y;
            is = ap (λ xs. numbered xs k) a ∙ q;
            its = record { client = refl; instance_ = instance_; number_is = refl };
            failed = λ f. cc f;
            done = λ f. (d, ap (λ ds. disks.command ds k) b ∙ is, done z);
          }
      by false z =
          record {
            k = k;
            command = y;
            is = ap (λ xs. numbered xs k) a ∙ q;
            its = record { client = refl; instance_ = instance_; number_is = refl };
            failed = λ f. reported_one past x k (e ∙ ap (events.Report k) z);
            done = λ f. cc f;
          }

  -- A client's step.
  module _ (w : World) (size : ℕ) (l : LivesHold w) (pl : PlacesAt size w) where
    takes_both : (c : ClientId) (input : ClientInput) (old site : WorldClient) → site_of w c ≡ Some old → old.node ≡ site.node → old.starts ≡ site.starts → InputTells size input →
        ((sc : WorldTurn) → sc.world.commands ≡ w.commands → sc.world.disks ≡ w.disks → InputTold more sc c site.starts input) → BothHold past w → BothHold more (ev.client_takes w c input site).world
    unfolding cl.node_step ev.client_takes ev.client_took
    takes_both c input old site there n s tells told h = go site.node.running refl
      where
        t : cl.NodeTurn
        t = cl.node_turn site.node (cl.client_step site.node.state (clock_of w (nodes.Client c)) input)

        fit : (b : Association) → Has b site.node.state.associations → Fit b
        fit = subst (λ (m : cl.ClientNode). (b : Association) → Has b m.state.associations → Fit b) n (l.lives.sites c old there).fit

        knows : (b : Association) → Has b site.node.state.associations → Knows size b.server b.store.extents
        knows = subst (λ (m : cl.ClientNode). (b : Association) → Has b m.state.associations → Knows size b.server b.store.extents) n (pl.known c old there)

        go : (b : Bool) → site.node.running ≡ b → BothHold more (ev.client_took w c site (if b then Ok t else Err Crashed)).world
        go true r =
            client_after past more w c old site input there n s (up_one past x) l h.flush h.writes size pl.count (step_placed size c site.node.state (clock_of w (nodes.Client c)) input tells fit knows) r
            (told (ev.quiet (ev.with_site c (ev.at_node t.node site) w)) refl refl)
        go false r = both_same w h

    at_client_both : (c : ClientId) (input : ClientInput) (o : Option WorldClient) → site_of w c ≡ o → InputTells size input → ((starts : ℕ) (sc : WorldTurn) → InputTold more sc c starts input) → BothHold past w → BothHold more (ev.at_client w c input o).world
    unfolding ev.at_client
    at_client_both c input None e tells told h = both_same w h
    at_client_both c input (Some site) e tells told h = takes_both c input site site e refl refl tells (λ sc a b. told site.starts sc) h

    -- A report: the client is told of a command of its own, which was reported among these steps, or had its effect.
    told_both : (k : ℕ) (ok : Bool) (d : DiskCommand) → disks.command w.disks k ≡ Some d → (ok ≡ true → d.effected ≡ true) → x.event ≡ events.Report k ok → (o : Option IssuedCommand) → issued_of w k ≡ o → BothHold past w → BothHold more (ev.tells w k ok o).world
    unfolding ev.tells ev.tells_client ev.tells_site
    told_both k ok d is done e None q h = both_same w h
    told_both k ok d is done e (Some y) q h = at_site (site_of w y.client) refl
      where
        at : (site : WorldClient) → site_of w y.client ≡ Some site → (b : Bool) → ev.is_same_instance y site ≡ b → BothHold more (if b then ev.client_takes w y.client (ev.end_told w k ok y) site else ev.quiet w).world
        at site s true t = takes_both y.client (ev.end_told w k ok y) site site s refl refl tt (told_of w k ok d is done e y q site t) h
        at site s false t = both_same w h

        at_site : (s : Option WorldClient) → site_of w y.client ≡ s → BothHold more (ev.tells_client w k ok y s).world
        at_site None s = both_same w h
        at_site (Some site) s = at site s (ev.is_same_instance y site) refl

  -- A server's step: a cut is hard at once, and nobody's.
  cut_none : (c : ClientId) (f g : FileId) (p q : PageNo) → 1 ≤ c.0 → ev.is_entry_of c f p (log.hard_cut g q) ≡ false
  cut_none c f g p q n = ap (λ b. b && (same_file g f && same_page q p)) (ne_eqb 0 c.0 (λ e. omega (arith, n, e)))

  one_server : (s : ServerId) (o : Output) (sc : WorldTurn) → FlushHold more sc.world → FlushHold more (ev.server_says sc s o).world
  unfolding ev.server_says ev.server_notes ev.cuts ev.sends log.cut
  one_server s (outputs.Note n) sc h = noted n
    where
      noted : (n : Note) → FlushHold more (ev.server_notes sc s n).world
      noted (notes.CutDone f p) =
          moved_flush more more sc.world _ refl (same_clocks sc.world) refl refl refl refl (λ n z. z) (λ c b g q. latest_stays c g q sc.world.log (log.hard_cut f p) (cut_none c g f q p b)) (λ P z. pending_more P sc.world.log (log.hard_cut f p) (λ y. cc y) z) h
      noted (notes.Stolen c life) = moved_flush more more sc.world _ refl (same_clocks sc.world) refl refl refl refl (λ n z. z) (λ c b g q. refl) (λ P z. z) h
      noted n = h
  one_server s (outputs.Send m) sc h = moved_flush more more sc.world _ refl (same_clocks sc.world) refl refl refl refl (λ n z. z) (λ c b g q. refl) (λ P z. z) h
  one_server s o sc h = h

  server_says : (s : ServerId) (os : List Output) (sc : WorldTurn) → FlushHold more sc.world → FlushHold more (ev.server_says_all s os sc).world
  unfolding ev.server_says_all
  server_says s [] sc h = h
  server_says s (o ∷ os) sc h = server_says s os (ev.server_says sc s o) (one_server s o sc h)

  at_server_flush : (w : World) (s : ServerId) (input : ServerInput) (o : Option ServerNode) → FlushHold past w → FlushHold more (ev.at_server w s input o).world
  unfolding ev.at_server ev.server_takes ev.server_took
  at_server_flush w s input None h = same w h
  at_server_flush w s input (Some node) h = go (server.node_step node (clock_of w (nodes.Server s)) input)
    where
      go : (r : Result server.NodeTurn StepRefusal) → FlushHold more (ev.server_took w s r).world
      go (Err e) = same w h
      go (Ok t) = server_says s t.out (ev.quiet (ev.with_node s t.node w)) (still w _ refl refl refl refl refl (set_length w.servers _ t.node) refl h)

  -- Advance.
  pending_ended : (P : LogOwner → Type 0) (cs : List IssuedCommand) (ls : List LeaseLife) (es : List LogEntry) → PendingAll P es → PendingAll P (ev.log_ended_all cs ls es)
  unfolding ev.log_ended_all ev.log_ended log.drop_picked
  pending_ended P cs [] es h = h
  pending_ended P cs (l ∷ ls) es h = pending_ended P cs ls (ev.log_ended cs l es) (pending_fewer P 1 (ev.is_of_life_over l) (ev.cause_at_end cs l) es h)

  advance_flush : (w : World) (steps : List ℕ) → FlushHold past w → FlushHold more (ev.advances w steps).world
  unfolding ev.advances ev.marks
  advance_flush w steps h =
      marked w _ (ev.log_ended_all w.commands (ev.lives_reached w steps) w.log) refl (clock_up w steps) refl refl refl refl refl (owners_ended w.commands (ev.lives_reached w steps) w.log)
      (λ P z. pending_ended P w.commands (ev.lives_reached w steps) w.log z) h

  -- A crash of a client, and its start.
  module _ (w : World) (c : ClientId) (site : WorldClient) (there : site_of w c ≡ Some site) where
    other_or_own : (new : WorldClient) (d : ClientId) (y : WorldClient) → numbered (with_numbered c.0 new w.clients) d.0 ≡ Some y → ((d ≡ c) × (y ≡ new)) ⊎ (numbered w.clients d.0 ≡ Some y)
    other_or_own new d y e = go (same_or_not d.0 c.0)
      where
        go : (d.0 ≡ c.0) ⊎ (d.0 ≢ c.0) → ((d ≡ c) × (y ≡ new)) ⊎ (numbered w.clients d.0 ≡ Some y)
        go (inl q) = inl (ap (λ n. record { 0 = n }) q, some_is (sym e ∙ ap (numbered (with_numbered c.0 new w.clients)) q ∙ numbered_own w.clients c.0 new site there))
        go (inr n) = inr (sym (numbered_other w.clients c.0 d.0 new (numbered_below w.clients c.0 site there).0 n) ∙ e)

    crash_flush : FlushHold past w → FlushHold more (ev.crashes_client w c (Some site)).world
    unfolding ev.crashes_client ev.marks ev.log_crashed log.drop_picked cl.crash
    crash_flush h =
        record {
          sites = λ d y e r. node d y r (other_or_own (ev.stopped_site site) d y e);
          starts = λ d y e. starts d y (other_or_own (ev.stopped_site site) d y e);
          flushes = λ z i. let f = h.flushes z i in record { low = f.low; covered = λ y e r. cover z f y r (other_or_own (ev.stopped_site site) z.client y e) };
          servers = λ d y e. servers d y (other_or_own (ev.stopped_site site) d y e);
        }
      where
        es : List LogEntry
        es = log.drop_from 1 (ev.is_of_crashed w c) (log.always causes.Crash) w.log

        no : (y : WorldClient) → y ≡ ev.stopped_site site → y.node.running ≡ true → ⊥
        no y e r = bad (sym (ap (λ (z : WorldClient). z.node.running) e) ∙ r)
          where
            bad : ◌≡◌ {A = Bool} false true → ⊥
            bad z = cc

        node : (d : ClientId) (y : WorldClient) → y.node.running ≡ true → ((d ≡ c) × (y ≡ ev.stopped_site site)) ⊎ (numbered w.clients d.0 ≡ Some y) → NodeCared more w.commands es d y
        node d y r (inl q) = absurd (no y q.1 r)
        node d y r (inr q) =
            node_fates past more w.commands w.log es d y (up_one past x) (λ f p. latest_owners d f p w.log es (owners_drop 1 (ev.is_of_crashed w c) (log.always causes.Crash) w.log)) (λ P z. pending_fewer P 1 (ev.is_of_crashed w c) (log.always causes.Crash) w.log z) (h.sites d y q r)

        starts : (d : ClientId) (y : WorldClient) → ((d ≡ c) × (y ≡ ev.stopped_site site)) ⊎ (numbered w.clients d.0 ≡ Some y) → StartsBelow w.commands d y.starts
        starts d y (inl q) = λ z i e. subst (λ (s : WorldClient). z.starts ≤ s.starts) (sym q.1) (h.starts c site there z i (e ∙ q.0))
        starts d y (inr q) = h.starts d y q

        servers : (d : ClientId) (y : WorldClient) → ((d ≡ c) × (y ≡ ev.stopped_site site)) ⊎ (numbered w.clients d.0 ≡ Some y) → (a : Association) → Has a y.node.state.associations → (1 ≤ a.server.0) × (a.server.0 ≤ length w.servers)
        servers d y (inl q) a i = go (has_map cl.crashed_association site.node.state.associations a (subst (λ (s : WorldClient). Has a s.node.state.associations) q.1 i))
          where
            go : (b : Association) × Has b site.node.state.associations × (a ≡ cl.crashed_association b) → (1 ≤ a.server.0) × (a.server.0 ≤ length w.servers)
            go (b, j, e) = subst (λ (z : Association). (1 ≤ z.server.0) × (z.server.0 ≤ length w.servers)) (sym e) (h.servers c site there b j)
        servers d y (inr q) a i = h.servers d y q a i

        cover : (z : FlushStep) → FlushRight w z → (y : WorldClient) → y.node.running ≡ true → ((z.client ≡ c) × (y ≡ ev.stopped_site site)) ⊎ (numbered w.clients z.client.0 ≡ Some y) → (a : Association) → Has a y.node.state.associations → a.server.0 ≡ z.server.0 → (s : ClientSession) → a.session ≡ Some s →
            (Rattle.st_rules.specs.ClientLease.end_of w.config s.lease).0 ≡ z.end.0 → Rattle.st_laws_pages.specs.Flush.Flush.Covered a
        cover z f y r (inl q) = absurd (no y q.1 r)
        cover z f y r (inr q) = f.covered y q r

    start_flush : LivesHold w → FlushHold past w → FlushHold more (ev.starts_client w c (Some site))
    unfolding ev.starts_client cl.start
    start_flush l h =
        record {
          sites = λ d y e r. node d y r (other_or_own (ev.started_site site) d y e);
          starts = λ d y e. starts d y (other_or_own (ev.started_site site) d y e);
          flushes = λ z i. let f = h.flushes z i in record { low = f.low; covered = λ y e r. cover z f y r (other_or_own (ev.started_site site) z.client y e) };
          servers = λ d y e. servers d y (other_or_own (ev.started_site site) d y e);
        }
      where
        new : WorldClient
        new = ev.started_site site

        Came : Association → Type 0
        Came a = (b : Association) × Has b site.node.state.associations × (a ≡ cl.started_association b)

        from : (y : WorldClient) → y ≡ new → (a : Association) → Has a y.node.state.associations → Came a
        from y e a i = has_map cl.started_association site.node.state.associations a (subst (λ (s : WorldClient). Has a s.node.state.associations) e i)

        own : NodeCared more w.commands w.log c new
        own =
            record {
              cared = λ a i. cared a (from new refl a i);
              apart = λ a i. apart a (from new refl a i);
              numbers = λ y i e s. let z = h.starts c site there y i e in absurd (omega (arith, z, s));
            }
          where
            cared : (a : Association) → Came a → Cared more w.commands w.log c new.starts 1 a
            cared a (b, j, e) = emptied_cared more w c site new.starts 1 (omega arith) there l b a j (ap (λ (z : Association). z.server) (sym e)) (ap (λ (z : Association). z.life) (sym e)) (ap (λ (z : Association). z.store) e)

            apart : (a : Association) → Came a → NumbersApart a.store.commands
            apart a (b, j, e) = subst (λ (z : Association). NumbersApart z.store.commands) (sym e) (λ pc qc p q n. absurd p)

        node : (d : ClientId) (y : WorldClient) → y.node.running ≡ true → ((d ≡ c) × (y ≡ new)) ⊎ (numbered w.clients d.0 ≡ Some y) → NodeCared more w.commands w.log d y
        node d y r (inl q) = subst (λ z. NodeCared more w.commands w.log z y) (sym q.0) (subst (NodeCared more w.commands w.log c) (sym q.1) own)
        node d y r (inr q) = node_fates past more w.commands w.log w.log d y (up_one past x) (λ f p. refl) (λ P z. z) (h.sites d y q r)

        starts : (d : ClientId) (y : WorldClient) → ((d ≡ c) × (y ≡ new)) ⊎ (numbered w.clients d.0 ≡ Some y) → StartsBelow w.commands d y.starts
        starts d y (inl q) = λ z i e. let a = h.starts c site there z i (e ∙ q.0) in let b = ap (λ (s : WorldClient). s.starts) q.1 in omega (arith, a, b)
        starts d y (inr q) = h.starts d y q

        servers : (d : ClientId) (y : WorldClient) → ((d ≡ c) × (y ≡ new)) ⊎ (numbered w.clients d.0 ≡ Some y) → (a : Association) → Has a y.node.state.associations → (1 ≤ a.server.0) × (a.server.0 ≤ length w.servers)
        servers d y (inl q) a i = go (from y q.1 a i)
          where
            go : Came a → (1 ≤ a.server.0) × (a.server.0 ≤ length w.servers)
            go (b, j, e) = subst (λ (z : Association). (1 ≤ z.server.0) × (z.server.0 ≤ length w.servers)) (sym e) (h.servers c site there b j)
        servers d y (inr q) a i = h.servers d y q a i

        cover : (z : FlushStep) → FlushRight w z → (y : WorldClient) → y.node.running ≡ true → ((z.client ≡ c) × (y ≡ new)) ⊎ (numbered w.clients z.client.0 ≡ Some y) → (a : Association) → Has a y.node.state.associations → a.server.0 ≡ z.server.0 → (s : ClientSession) → a.session ≡ Some s →
            (Rattle.st_rules.specs.ClientLease.end_of w.config s.lease).0 ≡ z.end.0 → Rattle.st_laws_pages.specs.Flush.Flush.Covered a
        cover z f y r (inl q) = λ a i sv s e d. absurd (none a s (from y q.1 a i) e)
          where
            none : (a : Association) (s : ClientSession) → Came a → a.session ≡ Some s → ⊥
            none a s (b, j, k) e = bad (sym (ap (λ (u : Association). u.session) k) ∙ e)
              where
                bad : ◌≡◌ {A = Option ClientSession} None (Some s) → ⊥
                bad u = cc
        cover z f y r (inr q) = f.covered y q r

  pub no_report : (w : World) (k : ℕ) (ok : Bool) → disks.command w.disks k ≡ None → adm.refusal w (events.Report k ok) ≡ None → ⊥
  unfolding adm.refusal adm.refused_report
  no_report w k ok e r = no (ap (adm.refused_report w k ok) (sym e) ∙ r)
    where
      no : adm.refused_report w k ok None ≡ None → ⊥
      no q = cc

  pub lacks_none : (ok : Bool) (d : DiskCommand) → disks.lacks_effect ok d ≡ false → ok ≡ true → d.effected ≡ true
  lacks_none true d e q = not_false d.effected e
  lacks_none false d e q = cc

  -- in the world in which the end of a command is reported
  pub own_set : (w : World) (ok : Bool) (d : DiskCommand) (n : ℕ) → disks.command w.disks n ≡ Some d → disks.command (disks.with_command n (disks.reported ok d) w.disks) n ≡ Some (disks.reported ok d)
  own_set w ok d zero z = cc
  own_set w ok d (suc n) z = set_own w.disks.commands n (disks.reported ok d) d z

  set_stands : (w : World) (ok : Bool) (d : DiskCommand) (n : ℕ) → disks.command w.disks n ≡ Some d → CommandsStand w.log w.commands w.disks.commands → CommandsStand w.log w.commands (disks.with_command n (disks.reported ok d) w.disks).commands
  set_stands w ok d zero z h = cc
  set_stands w ok d (suc n) z h = report_stands w.log w.commands w.disks.commands n ok d z h

  pub reported_both : (w : World) (k : ℕ) (ok : Bool) (d : DiskCommand) → disks.command w.disks k ≡ Some d → BothHold past w → BothHold past (reported_world w k ok d)
  reported_both w k ok d q h =
      record { flush = still_same w (reported_world w k ok d) refl refl refl refl refl refl refl h.flush; writes = record { commands = set_stands w ok d k q h.writes.commands; latest_own = latest_marked w (reported_world w k ok d) refl refl h.writes.latest_own } }

  report_both : (w : World) (size : ℕ) (k : ℕ) (ok : Bool) → adm.refusal w (events.Report k ok) ≡ None → x.event ≡ events.Report k ok → LivesHold w → PlacesAt size w → BothHold past w → BothHold more (ev.reports_of w k ok).world
  report_both w size k ok r e l pl h = go (disks.command w.disks k) refl
    where
      go : (d : Option DiskCommand) → disks.command w.disks k ≡ d → BothHold more (ev.reports_of w k ok).world
      go None q = absurd (no_report w k ok q r)
      go (Some d) q =
          let f = report_finds w k ok d q r in
          subst (λ (s : WorldTurn). BothHold more s.world) (sym (report_is w k ok d f))
          (told_both (reported_world w k ok d) size (record { lives = l.lives; known = l.known }) (record { count = pl.count; told = pl.told; known = pl.known }) k ok (disks.reported ok d) (own_set w ok d k q) (lacks_none ok d f.done) e (issued_of w k) refl
          (reported_both w k ok d q h))

  -- An effect.
  effect_writes : (w : World) (k : ℕ) → adm.refusal w (events.Effect k) ≡ None → WritesStand w → WritesStand (ev.effects w k).world
  unfolding adm.refusal adm.refused_effect disks.effect_of
  effect_writes w k r h = go (disks.command w.disks k) refl
    where
      no : adm.refused_effect w k None ≡ None → ⊥
      no q = cc

      go : (d : Option DiskCommand) → disks.command w.disks k ≡ d → WritesStand (ev.effects w k).world
      go None q = absurd (no (ap (adm.refused_effect w k) (sym q) ∙ r))
      go (Some d) q =
          subst WritesStand (sym (effect_is w k d (effect_finds w k d q r)))
          (record {
            commands = at k q (issued_of w k) refl;
            latest_own = latest_marked w (ev.with_log (ev.log_hard w.log (ev.carried_by (issued_of w k))) (ev.with_disks (disks.effect_of w.disks k d d.what) w)) refl (owners_hard w.log (ev.carried_by (issued_of w k))) h.latest_own;
          })
        where
          what_of : (n : ℕ) (c : Command) → d.what ≡ c → (e : DiskCommand) × ((disks.effect_of w.disks (suc n) d c).commands ≡ Rattle.std.specs.Prelude.set w.disks.commands n e) × (e.what ≡ d.what)
          what_of n (commands.Read at) z = (disks.sampled (disks.block w.disks at) d, refl, refl)
          what_of n (commands.Write at tag bytes) z = (disks.effected d, refl, refl)

          at : (n : ℕ) → disks.command w.disks n ≡ Some d → (o : Option IssuedCommand) → issued_of w n ≡ o → CommandsStand (ev.log_hard w.log (ev.carried_by o)) w.commands (disks.effect_of w.disks n d d.what).commands
          at zero z o i = cc
          at (suc n) z None i = absurd (none (Rattle.st_lemmas.proofs.Numbers.get_there w.commands n (let a = Rattle.st_lemmas.proofs.Numbers.get_below w.disks.commands n d z in subst (λ m. n < m) (sym h.commands.counts) a)))
            where
              none : (y : IssuedCommand) × (numbered w.commands (suc n) ≡ Some y) → ⊥
              none (y, e) = no_some (sym i ∙ e)
                where
                  no_some : ◌≡◌ {A = Option IssuedCommand} None (Some y) → ⊥
                  no_some z = cc
          at (suc n) z (Some y) i =
              let e = what_of n d.what refl in
              subst (λ ds. CommandsStand (ev.log_hard w.log y.carries) w.commands ds) (sym e.1) (effect_stands w.log w.commands w.disks.commands n d e.0 y z i e.2 h.commands)

  -- A server says something: a cut joins the log, and is nobody's.
  server_writes : (s : ServerId) (os : List Output) (sc : WorldTurn) → WritesStand sc.world → WritesStand (ev.server_says_all s os sc).world
  unfolding ev.server_says_all ev.server_says ev.server_notes ev.cuts ev.sends log.cut
  server_writes s [] sc h = h
  server_writes s (o ∷ os) sc h = server_writes s os (ev.server_says sc s o) (one o)
    where
      noted : (n : Note) → WritesStand (ev.server_notes sc s n).world
      noted (notes.CutDone f p) =
          record {
            commands = entry_joins sc.world.log (log.hard_cut f p) sc.world.commands sc.world.disks.commands h.commands;
            latest_own = λ c site e r a i. latest_elsewhere c a sc.world.log (log.hard_cut f p) (λ ino q. cut_none c (Rattle.st_laws_pages.specs.Flush.Flush.file_at a ino) f q p (numbered_below sc.world.clients c.0 site e).0) (h.latest_own c site e r a i);
          }
      noted (notes.Stolen c life) = still_writes sc.world _ refl refl refl refl h
      noted n = h

      one : (o : Output) → WritesStand (ev.server_says sc s o).world
      one (outputs.Send m) = still_writes sc.world _ refl refl refl refl h
      one (outputs.Note n) = noted n
      one o = h

  at_server_writes : (w : World) (s : ServerId) (input : ServerInput) (o : Option ServerNode) → WritesStand w → WritesStand (ev.at_server w s input o).world
  unfolding ev.at_server ev.server_takes ev.server_took
  at_server_writes w s input None h = h
  at_server_writes w s input (Some node) h = go (server.node_step node (clock_of w (nodes.Server s)) input)
    where
      go : (r : Result server.NodeTurn StepRefusal) → WritesStand (ev.server_took w s r).world
      go (Err e) = h
      go (Ok t) = server_writes s t.out (ev.quiet (ev.with_node s t.node w)) (still_writes w _ refl refl refl refl h)

  at_server_both : (w : World) (s : ServerId) (input : ServerInput) (o : Option ServerNode) → BothHold past w → BothHold more (ev.at_server w s input o).world
  at_server_both w s input o h = record { flush = at_server_flush w s input o h.flush; writes = at_server_writes w s input o h.writes }

  -- Advance.
  advance_writes : (w : World) (steps : List ℕ) → WritesStand w → WritesStand (ev.advances w steps).world
  unfolding ev.advances ev.marks
  advance_writes w steps h =
      record {
        commands = lives_end w.commands (ev.lives_reached w steps) w.log w.commands w.disks.commands h.commands;
        latest_own = latest_marked w (ev.with_log (ev.log_ended_all w.commands (ev.lives_reached w steps) w.log) (ev.with_clocks steps w)) refl (owners_ended w.commands (ev.lives_reached w steps) w.log) h.latest_own;
      }

  -- A crash of a client, and its start.
  module _ (w : World) (c : ClientId) (site : WorldClient) (there : site_of w c ≡ Some site) where
    crash_writes : WritesStand w → WritesStand (ev.crashes_client w c (Some site)).world
    unfolding ev.crashes_client ev.marks ev.log_crashed log.drop_picked cl.crash
    crash_writes h =
        record {
          commands = picked_drop w.log (ev.is_of_crashed w c) (log.always causes.Crash) w.commands w.disks.commands h.commands;
          latest_own = λ d y e r a i. latest_owned d a w.log _ (owners_drop 1 (ev.is_of_crashed w c) (log.always causes.Crash) w.log) (old d y r a i (other_or_own w c site there (ev.stopped_site site) d y e));
        }
      where
        no : (y : WorldClient) → y ≡ ev.stopped_site site → y.node.running ≡ true → ⊥
        no y e r = bad (sym (ap (λ (z : WorldClient). z.node.running) e) ∙ r)
          where
            bad : ◌≡◌ {A = Bool} false true → ⊥
            bad z = cc

        old : (d : ClientId) (y : WorldClient) → y.node.running ≡ true → (a : Association) → Has a y.node.state.associations → ((d ≡ c) × (y ≡ ev.stopped_site site)) ⊎ (numbered w.clients d.0 ≡ Some y) → LatestOwn d w.log a
        old d y r a i (inl q) = absurd (no y q.1 r)
        old d y r a i (inr q) = h.latest_own d y q r a i

    start_writes : WritesStand w → WritesStand (ev.starts_client w c (Some site))
    unfolding ev.starts_client cl.start
    start_writes h =
        record {
          commands = h.commands;
          latest_own = λ d y e r a i. at d y r a i (other_or_own w c site there (ev.started_site site) d y e);
        }
      where
        fresh : (d : ClientId) (a b : Association) → a ≡ cl.started_association b → LatestOwn d w.log a
        fresh d a b e = λ ino p x q. absurd (none x (ap (λ (z : Association). pages.dirty_of z.store.pages ino p) (sym e) ∙ q))
          where
            none : (x : DirtyPage) → ◌≡◌ {A = Option DirtyPage} None (Some x) → ⊥
            none x z = cc

        at : (d : ClientId) (y : WorldClient) → y.node.running ≡ true → (a : Association) → Has a y.node.state.associations → ((d ≡ c) × (y ≡ ev.started_site site)) ⊎ (numbered w.clients d.0 ≡ Some y) → LatestOwn d w.log a
        at d y r a i (inl q) = let z = has_map cl.started_association site.node.state.associations a (subst (λ (s : WorldClient). Has a s.node.state.associations) q.1 i) in fresh d a z.0 z.2
        at d y r a i (inr q) = h.latest_own d y q r a i

  still_both : (w v : World) → v.config ≡ w.config → v.clocks ≡ w.clocks → v.clients ≡ w.clients → v.commands ≡ w.commands → v.flushed ≡ w.flushed → length v.servers ≡ length w.servers → v.log ≡ w.log → v.disks.commands ≡ w.disks.commands → BothHold past w → BothHold more v
  still_both w v k ts cs xs fl ns l ds h = record { flush = still w v k ts cs xs fl ns l h.flush; writes = still_writes w v cs l xs ds h.writes }

  -- Every event.
  pub happens_both : (w : World) (e : Event) (size : ℕ) → adm.refusal w e ≡ None → x.event ≡ e → LivesHold w → PlacesAt size w → BothHold past w → BothHold more (ev.happens w e).world
  unfolding ev.happens ev.ticks ev.asks_at ev.delivers ev.delivers_to ev.loses_message ev.marks ev.effects ev.crashes ev.crashes_client ev.crashes_server ev.starts ev.starts_client ev.starts_server
  happens_both w (events.Tick (nodes.Client c)) size r q l p h = at_client_both w size l p c inputs.Tick (site_of w c) refl tt (λ s sc. tt) h
  happens_both w (events.Tick (nodes.Server s)) size r q l p h = at_server_both w s serving.Tick (node_of w s) h
  happens_both w (events.App c ask) size r q l p h = go (site_of w c) refl
    where
      go : (s : Option WorldClient) → site_of w c ≡ s → BothHold more (ev.asks_at w c ask s).world
      go None e = both_same w h
      go (Some site) e = takes_both w size l p c (inputs.App (site.asks + 1) ask) site (ev.asked_once_more site) e refl refl tt (λ sc a b. tt) h
  happens_both w (events.Deliver k) size r q l p h = go (world.message_of w k) refl
    where
      to : (m : SentMessage) → Has m w.net.messages → (n : NodeId) → BothHold more (ev.delivers_to w m.message n).world
      to m i (nodes.Client c) = at_client_both w size l p c (inputs.Control m.message) (site_of w c) refl (p.told m i) (λ s sc. tt) h
      to m i (nodes.Server s) = at_server_both w s (serving.Control m.message) (node_of w s) h

      go : (m : Option SentMessage) → world.message_of w k ≡ m → BothHold more (ev.delivers w m).world
      go None e = both_same w h
      go (Some m) e = to m (numbered_has w.net.messages k m e) (world.receiver_of m)
  happens_both w (events.Lose k) size r q l p h = go (world.message_of w k)
    where
      go : (m : Option SentMessage) → BothHold more (ev.loses_message w k m)
      go None = both_same w h
      go (Some m) = still_both w _ refl refl refl refl refl refl refl refl h
  happens_both w (events.Cut from to) size r q l p h = still_both w _ refl refl refl refl refl refl refl refl h
  happens_both w (events.Heal from to) size r q l p h = still_both w _ refl refl refl refl refl refl refl refl h
  happens_both w (events.Advance steps) size r q l p h = record { flush = advance_flush w steps h.flush; writes = advance_writes w steps h.writes }
  happens_both w (events.Effect k) size r q l p h =
      record {
        flush = marked w _ (ev.log_hard w.log (ev.carried_by (issued_of w k))) refl (same_clocks w) refl refl refl refl refl (owners_hard w.log (ev.carried_by (issued_of w k))) (λ P z. pending_hard P w.log (ev.carried_by (issued_of w k)) z) h.flush;
        writes = effect_writes w k r h.writes;
      }
  happens_both w (events.Report k ok) size r q l p h = report_both w size k ok r q l p h
  happens_both w (events.Crash (nodes.Client c)) size r q l p h = go (site_of w c) refl
    where
      go : (s : Option WorldClient) → site_of w c ≡ s → BothHold more (ev.crashes_client w c s).world
      go None e = both_same w h
      go (Some site) e = record { flush = crash_flush w c site e h.flush; writes = crash_writes w c site e h.writes }
  happens_both w (events.Crash (nodes.Server s)) size r q l p h = go (node_of w s)
    where
      go : (n : Option ServerNode) → BothHold more (ev.crashes_server w s n)
      go None = both_same w h
      go (Some node) = still_both w _ refl refl refl refl refl (set_length w.servers _ (server.crash_node node)) refl refl h
  happens_both w (events.Start (nodes.Client c)) size r q l p h = go (site_of w c) refl
    where
      go : (s : Option WorldClient) → site_of w c ≡ s → BothHold more (ev.starts_client w c s)
      go None e = both_same w h
      go (Some site) e = record { flush = start_flush w c site e l h.flush; writes = start_writes w c site e h.writes }
  happens_both w (events.Start (nodes.Server s)) size r q l p h = go (node_of w s)
    where
      go : (n : Option ServerNode) → BothHold more (ev.starts_server w s n)
      go None = both_same w h
      go (Some node) = still_both w _ refl refl refl refl refl (set_length w.servers _ _) refl refl h

-- one more event is counted
pub counted_both : (past : List Step) (w : World) → BothHold past w → BothHold past (ev.counted w)
counted_both past w h = record { flush = moved_flush past past w (ev.counted w) refl (same_clocks w) refl refl refl refl (λ n z. z) (λ c b f p. refl) (λ P z. z) h.flush; writes = record { commands = h.writes.commands; latest_own = h.writes.latest_own } }
