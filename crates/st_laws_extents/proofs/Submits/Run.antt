-- What is on the disks throughout a run.
use Rattle.st_lemmas.proofs.Words
use Words.{◌≡◌, ℕ, zero, suc, ◌+◌, Bool, true, false, List, [], ◌∷◌, ◌++◌, Option, Some, None, Ok, Err, refl, sym, ap, ◌∙◌, subst, if◌then◌else◌, Result}
use Words.{length, list_all, ClientId, FileId, PageNo, Event, WorldRefusal, IssuedCommand}
use Words.nodes
use Words.events
use Words.seen
use Words.Client as cl
use Words.ClientPages as pages
use Words.Events as ev
use Words.Events.{WorldTurn, counted, happens, world_step}
use Words.History.{Traced, traced, traced_after}
use Words.Safety as safety
use Words.Safety.{Promise, Step, Throughout, is_event, step, steps}
use Words.World as world
use Words.World.{World, WorldClient, fresh_world, numbered, site_of, site_runs}
use Words.Lists.{Has}
use Words.Tables.{and_true}
use Words.ClientState.{Association}
use Rattle.st_base.specs.declared.config.Config as base
use Rattle.st_rules.specs.declared.node.StepRefusal.TheVariants.{Crashed}
use Rattle.st_protocol.specs.Assoc.{Config}
use Rattle.st_lemmas.proofs.Steps.{step_happens}
use Rattle.st_laws_pages.specs.Disks.World.{PagesHold}
use Rattle.st_laws_pages.proofs.Disks.Steps.{steps_keep_pages as pages_law}
use Rattle.st_laws_pages.proofs.Disks.Whole.{fresh_holds}
use Rattle.st_laws_pages.specs.Asks.Law.{PlacesAfter}
use Rattle.st_laws_refine.specs.Server.Pair.{terms_of}
use Rattle.st_laws_leases.specs.Sides.World.{AllStand, IsFull}
use Rattle.st_laws_leases.proofs.Sides.FirstWorld.{begun}
use Rattle.st_laws_leases.proofs.Sides.AllAssociations.{stays}
use Rattle.st_laws_leases.proofs.Sides.Runs.{full}
use Rattle.st_laws_leases.proofs.Sides.Waiting.{waits_owed}
use Rattle.st_laws_reads.specs.Copies.World.{Taking, taken}
use Rattle.st_laws_reads.specs.AllClients.Events.{FrozenStandAlone, OthersOwed}
use Rattle.st_laws_reads.specs.AllClients.Obligations.{OthersLeft}
use Rattle.st_laws_reads.specs.AllClients.Runs.{TakenOwed}
use Rattle.st_laws_reads.specs.AllClients.World.{AllThere, CopiesHold, TakingOwed}
use Rattle.st_laws_reads.proofs.AllClients.Cleared.{clear_step}
use Rattle.st_laws_reads.proofs.AllClients.Cutting.{others_owed}
use Rattle.st_laws_reads.proofs.AllClients.Owing.{input_owed}
use Rattle.st_laws_reads.proofs.AllClients.Reading.{known, more_known, numbered_there}
use Rattle.st_laws_reads.proofs.AllClients.Runs as reads
use Rattle.st_laws_reads.proofs.AllClients.Runs.{Kept, Stood, at_first}
use Rattle.st_laws_reads.proofs.AllClients.Takings.{Takes, takes_event}
use Rattle.st_laws_pages.specs.Writes.Writes.{OpenHold}
use Rattle.st_laws_reads.specs.FrozenLives.PendingEntries.{FrozenHold}
use Rattle.st_laws_reads.specs.FrozenLives.Runs.{IsLeft, TakenLeft}
use Rattle.st_laws_reads.proofs.FrozenLives.Law.{alone, events_keep, first}
use Rattle.st_laws_reads.specs.OpenWrites.StandStill.{WritesHold}
use Rattle.st_laws_reads.proofs.OpenWrites.Falling.{writes_fall}
use Rattle.st_laws_reads.proofs.OpenWrites.Still.{writes_go_on}
use Rattle.st_laws_extents.proofs.CutRequests.Seen.{cuts_known}
use Rattle.st_laws_extents.specs.Submits.Obligations.{NoFrozenWrites, PagesLeft}
use Rattle.st_laws_extents.specs.Submits.Rest.{IsRest, TakenRest}
use Rattle.st_laws_extents.proofs.Submits.Zeros.{left as left_of, left_stopped}
use Rattle.st_laws_extents.specs.Submits.Submits.{LastIn}
use Rattle.st_laws_extents.proofs.Submits.Client as client_step
use Rattle.st_laws_extents.proofs.Submits.Cutting.{server_gives}
use Rattle.st_laws_extents.proofs.Submits.Others.{last_still, others_last}
use Rattle.st_laws_extents.proofs.Submits.Rows.{uncut_by}
use Rattle.st_laws_extents.proofs.Submits.Taking.{Gives, owed_of, taken_in}
use Rattle.st_laws_pages.proofs.Causes.Placed.{places_at}
use Rattle.st_laws_reads.proofs.AllClients.Others.{crash_runs}

-- What holds after the steps of a run.
pub record PagesStand (k : Config) (count : ℕ) (past : List Step) (t : Traced) : Type 0 where
  pub stood : Stood k count past t
  pub frozen_lives : FrozenHold k count t.world
  pub writes : WritesHold k count t.world
  pub last : LastIn t.world t.world.log
  pub pages : PagesHold t.world

counted_alone : (w : World) → FrozenStandAlone w → FrozenStandAlone (counted w)
counted_alone w o e i p el d other run = o e i p (λ c site a r h q. el c site a (record { there = r.there; runs = r.runs }) h q) d other (record { there = run.there; runs = run.runs })

others : (w : World) (e : Event) → FrozenStandAlone w → OthersLeft w e
others w (events.Crash (nodes.Client c)) o = o
others w (events.Advance steps) o = o
others w e o = tt

all_owed : (w : World) (e : Event) (o : Option Taking) → FrozenStandAlone w → TakenLeft o → TakenOwed w e o
all_owed w e None a l = others w e a
all_owed w e (Some x) a l = l

-- Lives that a crash ended are frozen after each event, while a write of them is not reported.
module _ (past : List Step) (k : Config) (count : ℕ) (t : Traced) (s : PagesStand k count past t) where
  abbrev w : World
  w = t.world

  counts : length w.commands ≡ length w.disks.commands
  counts = s.stood.stand.both.writes.commands.counts

  crash : (c : ClientId) (sc : WorldTurn) → IsFull w (events.Crash (nodes.Client c)) → world_step w (events.Crash (nodes.Client c)) ≡ Ok sc → WritesHold k count sc.world
  unfolding ev.happens ev.crashes
  crash c sc is_full took = go (site_of w c) refl
    where
      happened : sc.world ≡ (ev.crashes_client (counted w) c (site_of w c)).world
      happened = ap (λ (x : WorldTurn). x.world) (step_happens w (events.Crash (nodes.Client c)) sc took).1

      runs : site_runs (site_of w c) ≡ true
      runs = crash_runs w c (step_happens w (events.Crash (nodes.Client c)) sc took).0

      nobody : site_runs None ≡ true → ⊥
      nobody e = cc e

      go : (o : Option WorldClient) → site_of w c ≡ o → WritesHold k count sc.world
      go None f = absurd (nobody (ap site_runs (sym f) ∙ runs))
      go (Some site) f =
          let r : site.node.running ≡ true = ap site_runs (sym f) ∙ runs in
          let here : sc.world ≡ (ev.crashes_client (counted w) c (Some site)).world = happened ∙ ap (λ o. (ev.crashes_client (counted w) c o).world) f in
          subst (WritesHold k count) (sym here)
          (writes_fall (known past c.0) k count w c.0 site f r s.writes s.stood.stand.writes.open_ ((s.stood.copies c.0 site f).runs r)
          (subst (AllStand k count) here (stays k count w (events.Crash (nodes.Client c)) sc s.writes.all is_full took)))

  writes_step : (e : Event) (sc : WorldTurn) → IsFull w e → world_step w e ≡ Ok sc → WritesHold k count sc.world
  writes_step (events.Crash (nodes.Client c)) sc is_full took = crash c sc is_full took
  writes_step (events.Crash (nodes.Server n)) sc is_full took = writes_go_on k count w s.writes counts _ sc is_full took (λ c q. cc q)
  writes_step (events.Tick n) sc is_full took = writes_go_on k count w s.writes counts _ sc is_full took (λ c q. cc q)
  writes_step (events.App c ask) sc is_full took = writes_go_on k count w s.writes counts _ sc is_full took (λ d q. cc q)
  writes_step (events.Deliver n) sc is_full took = writes_go_on k count w s.writes counts _ sc is_full took (λ c q. cc q)
  writes_step (events.Lose n) sc is_full took = writes_go_on k count w s.writes counts _ sc is_full took (λ c q. cc q)
  writes_step (events.Cut x y) sc is_full took = writes_go_on k count w s.writes counts _ sc is_full took (λ c q. cc q)
  writes_step (events.Heal x y) sc is_full took = writes_go_on k count w s.writes counts _ sc is_full took (λ c q. cc q)
  writes_step (events.Advance steps) sc is_full took = writes_go_on k count w s.writes counts _ sc is_full took (λ c q. cc q)
  writes_step (events.Effect n) sc is_full took = writes_go_on k count w s.writes counts _ sc is_full took (λ c q. cc q)
  writes_step (events.Report n ok) sc is_full took = writes_go_on k count w s.writes counts _ sc is_full took (λ c q. cc q)
  writes_step (events.Start n) sc is_full took = writes_go_on k count w s.writes counts _ sc is_full took (λ c q. cc q)

  -- One step.
  module _ (e : Event) (sc : WorldTurn) (in_range : is_event count e ≡ true) (took : world_step w e ≡ Ok sc) (places : PlacesAfter past (step t e sc)) (left : IsLeft past (step t e sc)) (left_too : PagesLeft past (step t e sc)) where
    abbrev pub st : Step
    st = step t e sc

    pub is_full : IsFull w e
    is_full = full count w e s.stood.all.nodes in_range

    pub frozen_now : FrozenStandAlone (counted w)
    frozen_now = counted_alone w (alone past k count w s.frozen_lives s.stood.stand.both.flush)

    pub owed : TakenOwed (counted w) e (taken (counted w) e)
    owed = all_owed (counted w) e (taken (counted w) e) frozen_now left.taken

    pub behind : Kept past st × Stood k count (past ++ st ∷ []) (traced_after e t sc)
    behind = reads.next k count past t e sc in_range took s.stood places (record { taken = owed; cuts = left.cuts })

    frozen_v : FrozenHold k count sc.world
    frozen_v = events_keep past k count w e sc s.frozen_lives s.stood.stand.both.flush is_full took

    writes_v : WritesHold k count sc.world
    writes_v = writes_step e sc is_full took

    open_v : OpenHold sc.world
    open_v = behind.1.stand.writes.open_

    alone_v : FrozenStandAlone sc.world
    alone_v = alone (past ++ st ∷ []) k count sc.world frozen_v behind.1.stand.both.flush

    pub turn_happens : sc ≡ happens (counted w) e
    turn_happens = (step_happens w e sc took).1

    pub free : taken (counted w) e ≡ None → OthersOwed (counted w) e
    free q =
        others_owed k count (counted w) sc behind.1.all (clear_step w e sc took (λ c site q. (s.stood.all.fates.lives.lives.sites c site q).fit) s.stood.clear)
        left.cuts s.stood.waits e (waits_owed k count w s.stood.all e (step_happens w e sc took).0) turn_happens
        (subst (TakenOwed (counted w) e) q owed)

    pub all_there : (xs : List Association) → AllThere w xs → AllThere (counted w) xs
    all_there [] h = record {}
    all_there (a ∷ xs) h = record { one = record { node = h.one.node; is = h.one.is }; rest = all_there xs h.rest }

    pub copies_more : CopiesHold (known (past ++ st ∷ [])) w
    copies_more = more_known past st w s.stood.copies

    -- of a client that takes an input
    module _ (x : Taking) (q : taken (counted w) e ≡ Some x) where
      pub there : Takes (counted w) sc x
      there = subst (λ (z : WorldTurn). Takes (counted w) z x) (sym turn_happens) (takes_event (counted w) e x q)

      pub due : TakingOwed (known (past ++ st ∷ [])) x
      due =
          record {
            numbered = numbered_there past st (counted w) e x refl (λ c site f. let z = s.stood.stand.asks c site f in record { count = z.count; keys = z.keys }) q;
            owed = input_owed k count past t e sc took s.stood.all s.stood.places s.stood.stand s.stood.clear x q (subst (TakenOwed (counted w) e) q owed);
          }

      gives : Gives x
      unfolding cl.node_step
      gives = go x.site.node.running refl
        where
          go : (b : Bool) → x.site.node.running ≡ b → Gives x
          go true r =
              client_step.gives (known (past ++ st ∷ [])) k count past (past ++ st ∷ []) w e sc x s.stood.all behind.1.all took q there r due copies_more behind.1.copies s.stood.places s.stood.stand.both behind.1.stand.both.flush open_v writes_v alone_v s.last s.pages
              (taken_in (counted w) e x (at_places) q) (subst (Rattle.st_laws_extents.specs.Submits.Obligations.SubmitsLeft) q left_too.submits)
            where
              at_places : Rattle.st_laws_pages.proofs.Causes.Placed.PlacesAt (length w.servers) (counted w)
              at_places = let p = places_at w s.stood.places in record { count = p.count; told = p.told; known = p.known }
          go false r = subst (λ b. Rattle.st_laws_pages.specs.Disks.Obligations.NodeOwes x.world x.client x.site (if b then Ok (cl.node_turn x.site.node (cl.client_step x.site.node.state (world.clock_of x.world (nodes.Client x.client)) x.input)) else Err Crashed)) (sym r) tt

      last_taken : LastIn sc.world sc.world.log
      unfolding ev.client_takes ev.client_took cl.node_step
      last_taken = go x.site.node.running refl
        where
          go : (b : Bool) → x.site.node.running ≡ b → LastIn sc.world sc.world.log
          go true r =
              client_step.last_v (known (past ++ st ∷ [])) k count past (past ++ st ∷ []) w e sc x s.stood.all behind.1.all took q there r due copies_more behind.1.copies s.stood.places s.stood.stand.both behind.1.stand.both.flush open_v writes_v alone_v s.last s.pages
              (taken_in (counted w) e x (at_places) q)
            where
              at_places : Rattle.st_laws_pages.proofs.Causes.Placed.PlacesAt (length w.servers) (counted w)
              at_places = let p = places_at w s.stood.places in record { count = p.count; told = p.told; known = p.known }
          go false r =
              let stops : sc.world ≡ x.world = ap (λ (z : WorldTurn). z.world) there.is
              ∙ ap (λ b. (ev.client_took x.world x.client x.site (if b then Ok (cl.node_turn x.site.node (cl.client_step x.site.node.state (world.clock_of x.world (nodes.Client x.client)) x.input)) else Err Crashed)).world) r in
              last_still w sc.world (ap (λ (z : World). z.clients) stops ∙ there.clients) (ap (λ (z : World). z.clocks) stops ∙ there.clocks) (ap (λ (z : World). z.log) stops ∙ there.log) s.last

    last_v : LastIn sc.world sc.world.log
    last_v = go (taken (counted w) e) refl
      where
        go : (o : Option Taking) → taken (counted w) e ≡ o → LastIn sc.world sc.world.log
        go (Some x) q = last_taken x q
        go None q =
            subst (λ (z : WorldTurn). LastIn z.world z.world.log) (sym turn_happens)
            (others_last (known past) (counted w) e (λ c site f. let y = s.stood.copies c site f in record { servers = all_there site.node.state.associations y.servers; runs = y.runs; rests = y.rests }) q (free q) (last_still w (counted w) refl refl refl s.last))

    uncut : (f : FileId) (p : PageNo) → (index : ℕ) × Has (seen.CutAt index f p) (happens (counted w) e).seen → NoFrozenWrites w f
    uncut f p i =
        let j = subst (λ (z : WorldTurn). Has (seen.CutAt i.0 f p) z.seen) (sym turn_happens) i.1 in
        let c = (cuts_known w e sc (λ v n at. (s.stood.waits v n at).id) took i.0 f p j).0 in
        uncut_by k count w s.writes f p c (λ n y at tag bytes l. (s.pages.pages.carry n y at tag bytes l).server) (left_too.cuts i.0 f p j c)

    pages_v : PagesHold sc.world
    pages_v =
        pages_law w e sc took
        (owed_of (counted w) e gives
        (server_gives (known past) k count w s.writes s.stood.stand.writes.open_ s.stood.copies s.pages e free uncut))
        s.stood.all.fates.lives s.pages

    pub next : Kept past st × PagesStand k count (past ++ st ∷ []) (traced_after e t sc)
    next = (behind.0, record { stood = behind.1; frozen_lives = frozen_v; writes = writes_v; last = last_v; pages = pages_v })

run : (promise : Promise) → ((k : Config) (count : ℕ) (past : List Step) (t : Traced) (e : Event) (sc : WorldTurn) → Kept past (step t e sc) → PagesStand k count (past ++ step t e sc ∷ []) (traced_after e t sc) → promise past (step t e sc)) → (k : Config) (count : ℕ) (es : List Event) → list_all (is_event count) es ≡ true →
    (past : List Step) (t : Traced) → PagesStand k count past t → Throughout PlacesAfter past (steps es t) → Throughout IsLeft past (steps es t) → Throughout PagesLeft past (steps es t) → Throughout promise past (steps es t)
unfolding steps safety.steps_on Throughout
run promise pick k count [] all past t s o d d2 = tt
run promise pick k count (e ∷ es) all past t s o d d2 = go (world_step t.world e) refl o d d2 (λ past t. run promise pick k count es (and_true (is_event count e) (list_all (is_event count) es) all).1 past t)
  where
    go : (r : Result WorldTurn WorldRefusal) → world_step t.world e ≡ r → Throughout PlacesAfter past (safety.steps_on (steps es) t e r) → Throughout IsLeft past (safety.steps_on (steps es) t e r) → Throughout PagesLeft past (safety.steps_on (steps es) t e r) →
        ((past : List Step) (t : Traced) → PagesStand k count past t → Throughout PlacesAfter past (steps es t) → Throughout IsLeft past (steps es t) → Throughout PagesLeft past (steps es t) → Throughout promise past (steps es t)) →
        Throughout promise past (safety.steps_on (steps es) t e r)
    go (Err r) q o d d2 f = tt
    go (Ok sc) q o d d2 f =
        let z = next past k count t s e sc (and_true (is_event count e) (list_all (is_event count) es) all).0 q o.0 d.0 d2.0 in
        (pick k count past t e sc z.0 z.1, f (past ++ step t e sc ∷ []) (traced_after e t sc) z.1 o.1 d.1 d2.1)

-- The same, if what is left of an input follows from what is owed at the step.
module _ (past : List Step) (k : Config) (count : ℕ) (t : Traced) (s : PagesStand k count past t) (e : Event) (sc : WorldTurn) (took : world_step t.world e ≡ Ok sc) where
  of_taken : (o : Option Taking) → taken (counted t.world) e ≡ o → TakenRest o → TakenLeft o
  of_taken None q r = tt
  of_taken (Some x) q r = go x.site.node.running refl
    where
      tk : Takes (counted t.world) sc x
      tk = subst (λ (z : WorldTurn). Takes (counted t.world) z x) (sym (step_happens t.world e sc took).1) (takes_event (counted t.world) e x q)

      go : (b : Bool) → x.site.node.running ≡ b → TakenLeft (Some x)
      go true runs = left_of (known past) k count t.world sc x s.stood.all s.stood.copies (alone past k count t.world s.frozen_lives s.stood.stand.both.flush) s.pages tk runs x.input refl r
      go false stops = left_stopped t.world sc x k count s.stood.all tk stops x.input refl r

  pub from_rest : IsRest past (step t e sc) → IsLeft past (step t e sc)
  from_rest r = record { taken = of_taken (taken (counted t.world) e) refl r.taken; cuts = r.cuts }

-- At the start nothing is submitted and nothing is logged.
module _ (k : base.Config) (clients servers d b form : ℕ) where
  fresh_writes : safety.IsHead k clients servers d b form → WritesHold (terms_of k) (clients + servers) (fresh_world k clients servers d b form)
  unfolding fresh_world
  fresh_writes head = record { all = begun k clients servers d b form head; there = λ n x at tag bytes o. absurd (none n x o.issued); writes = λ n x at tag bytes o. absurd (none n x o.issued) }
    where
      none : (j : ℕ) (x : IssuedCommand) → numbered {A = IssuedCommand} [] j ≡ Some x → ⊥
      none zero x e = cc
      none (suc j) x e = cc

  fresh_last : LastIn (fresh_world k clients servers d b form) (fresh_world k clients servers d b form).log
  unfolding fresh_world
  fresh_last c site run a i l ino p x e = record {}

  pub begins : safety.IsHead k clients servers d b form → PagesStand (terms_of k) (clients + servers) [] (traced (fresh_world k clients servers d b form))
  begins head =
      record {
        stood = at_first k clients servers d b form head;
        frozen_lives = first k clients servers d b form head;
        writes = fresh_writes head;
        last = fresh_last;
        pages = fresh_holds k clients servers d b form;
      }
