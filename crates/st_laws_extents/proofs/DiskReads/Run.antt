-- What outstanding reads find, throughout a run.
use Rattle.st_lemmas.proofs.Words
use Words.{◌≡◌, ℕ, ◌+◌, Bool, true, false, List, [], ◌∷◌, ◌++◌, Option, Some, None, Ok, Err, refl, sym, ap, ◌∙◌, subst, inl, if◌then◌else◌, Result, length}
use Words.{list_all, Event, ClientInput, WorldRefusal}
use Words.nodes
use Words.inputs
use Words.Client as cl
use Words.ClientState.{Association}
use Words.Disks as disks
use Words.Events as ev
use Words.Events.{WorldTurn, counted, world_step}
use Words.History.{Traced, traced, traced_after}
use Words.Safety as safety
use Words.Safety.{Promise, Step, Throughout, is_event, step, steps}
use Words.World as world
use Words.World.{World, WorldClient, fresh_world}
use Words.Lists.{Has}
use Words.Tables.{and_true, has_map}
use Words.Extents.{numbers}
use Words.Worlds.{counted_admits}
use Rattle.st_base.specs.declared.config.Config as base
use Rattle.st_rules.specs.declared.node.StepRefusal.TheVariants.{Crashed}
use Rattle.st_protocol.specs.Assoc.{Config}
use Rattle.st_lemmas.proofs.Steps.{step_happens}
use Rattle.st_laws_steps.specs.Client.Losses.{Fit}
use Rattle.st_laws_pages.proofs.Disks.Steps.{counted_pages}
use Rattle.st_laws_pages.specs.Asks.Law.{PlacesAfter}
use Rattle.st_laws_pages.proofs.Disks.Whole.{site_is}
use Rattle.st_laws_pages.proofs.Causes.Placed.{PlacesAt, places_at}
use Rattle.st_laws_refine.specs.Server.Pair.{terms_of}
use Rattle.st_laws_reads.specs.Copies.World.{Taking, taken}
use Rattle.st_laws_reads.specs.AllClients.Law.{Running}
use Rattle.st_laws_reads.proofs.AllClients.Reading.{known}
use Rattle.st_laws_reads.proofs.AllClients.Runs.{Kept}
use Rattle.st_laws_reads.proofs.AllClients.Takings.{Takes, takes_event}
use Rattle.st_laws_reads.specs.FrozenLives.Runs.{IsLeft}
use Rattle.st_laws_reads.proofs.FrozenLives.Law.{alone}
use Rattle.st_laws_extents.specs.Submits.Rest.{InputRest, IsRest, TakenRest}
use Rattle.st_laws_extents.proofs.Submits.Run as submits
use Rattle.st_laws_extents.proofs.Submits.Run.{PagesStand, begins, from_rest}
use Rattle.st_laws_extents.proofs.Submits.Taking.{TakenIn, taken_in}
use Rattle.st_laws_extents.specs.DiskReads.Law.{InputMaps, IsPlaced, TakenMaps, TakenReads}
use Rattle.st_laws_extents.specs.DiskReads.Reads.{ReadsHold, ReadsLie}
use Rattle.st_laws_extents.proofs.DiskReads.Client as client_step
use Rattle.st_laws_extents.proofs.DiskReads.Ending.{end_left, ends}
use Rattle.st_laws_extents.proofs.DiskReads.Others as others
use Rattle.st_laws_extents.proofs.DiskReads.Others.{ReadsSettled, reads_settled}

-- What holds after the steps of a run.
pub record ReadsStand (k : Config) (count : ℕ) (past : List Step) (t : Traced) : Type 0 where
  pub pages : PagesStand k count past t
  pub reads : ReadsHold t.world t.world.log

counted_reads : (w : World) → ReadsHold w w.log → ReadsHold (counted w) w.log
counted_reads w h =
    record {
      clean = λ c site run a i. h.clean c site (record { there = run.there; runs = run.runs }) a i;
      right = λ c site run a i l pc m r n y d yi its di. let z = h.right c site (record { there = run.there; runs = run.runs }) a i l pc m r n y d yi its di in record { extent = z.extent; is = z.is; what = z.what; sampled = z.sampled };
    }

counted_settled : (w : World) → ReadsSettled w → ReadsSettled (counted w)
counted_settled w h c site run a i l pc m r = h c site (record { there = run.there; runs = run.runs }) a i l pc m r

-- One step.
module _ (past : List Step) (k : Config) (count : ℕ) (t : Traced) (s : ReadsStand k count past t) (e : Event) (sc : WorldTurn) (in_range : is_event count e ≡ true) (took : world_step t.world e ≡ Ok sc) (places : PlacesAfter past (step t e sc)) (placed : IsPlaced past (step t e sc)) where
  w : World
  w = t.world

  fits : (x : Taking) (tk : Takes (counted t.world) sc x) → (a : Association) → Has a x.site.node.state.associations → Fit a
  fits x tk = subst (λ (n : cl.ClientNode). (b : Association) → Has b n.state.associations → Fit b) tk.same (s.pages.stood.all.fates.lives.lives.sites x.client tk.old tk.there).fit

  at_places : PlacesAt (length t.world.servers) (counted t.world)
  at_places = let p = places_at t.world s.pages.stood.places in record { count = p.count; told = p.told; known = p.known }

  input_rest : (x : Taking) → taken (counted t.world) e ≡ Some x → (input : ClientInput) → x.input ≡ input → InputMaps x input → InputRest x input
  input_rest x q inputs.Tick i m = tt
  input_rest x q (inputs.App op ask) i m = tt
  input_rest x q (inputs.Control y) i m = m
  input_rest x q (inputs.Done number result) i m =
      let tk : Takes (counted t.world) sc x = subst (λ (z : WorldTurn). Takes (counted t.world) z x) (sym (step_happens t.world e sc took).1) (takes_event (counted t.world) e x q) in
      end_left t.world sc x tk ((taken_in (counted t.world) e x at_places q).starts tk.old tk.there) (fits x tk) s.reads placed.known number result i (ends (counted t.world) e x q)

  taken_rest : (o : Option Taking) → taken (counted t.world) e ≡ o → TakenMaps o → TakenRest o
  taken_rest None q m = tt
  taken_rest (Some x) q m = input_rest x q x.input refl m

  rest : IsRest past (step t e sc)
  rest = record { taken = taken_rest (taken (counted t.world) e) refl placed.maps; cuts = placed.cuts; pages = placed.pages }

  left : IsLeft past (step t e sc)
  left = from_rest past k count t s.pages e sc took rest

  behind : Kept past (step t e sc) × PagesStand k count (past ++ step t e sc ∷ []) (traced_after e t sc)
  behind = submits.next past k count t s.pages e sc in_range took places left placed.pages

  settled : ReadsSettled t.world
  settled = reads_settled (known past) k count t.world s.pages.stood.all s.pages.stood.copies (alone past k count t.world s.pages.frozen_lives s.pages.stood.stand.both.flush) s.pages.pages s.reads

  reads_taken : (x : Taking) → taken (counted t.world) e ≡ Some x → ReadsLie x → ReadsHold sc.world sc.world.log
  unfolding ev.client_takes ev.client_took cl.node_step
  reads_taken x q lies = go x.site.node.running refl
    where
      tk : Takes (counted t.world) sc x
      tk = submits.there past k count t s.pages e sc in_range took places left placed.pages x q

      in_ : TakenIn (counted t.world) x
      in_ = taken_in (counted t.world) e x at_places q

      go : (b : Bool) → x.site.node.running ≡ b → ReadsHold sc.world sc.world.log
      go true r =
          client_step.reads_taken (known (past ++ step t e sc ∷ [])) k count past (past ++ step t e sc ∷ []) t.world e sc x s.pages.stood.all behind.1.stood.all took q tk r
          (submits.due past k count t s.pages e sc in_range took places left placed.pages x q)
          (submits.copies_more past k count t s.pages e sc in_range took places left placed.pages)
          behind.1.stood.copies s.pages.stood.stand.both behind.1.stood.stand.both in_ s.reads lies
      go false r =
          let stops : sc.world ≡ x.world = ap (λ (z : WorldTurn). z.world) tk.is
          ∙ ap (λ b. (ev.client_took x.world x.client x.site (if b then Ok (cl.node_turn x.site.node (cl.client_step x.site.node.state (world.clock_of x.world (nodes.Client x.client)) x.input)) else Err Crashed)).world) r in
          let goes : sc.world ≡ ev.with_disks in_.disks (counted t.world) = stops ∙ in_.is in
          others.quiet (known past) t.world s.pages.stood.copies s.pages.pages s.reads settled sc.world (ap (λ (z : World). z.clients) goes) (ap (λ (z : World). z.clocks) goes) (ap (λ (z : World). z.commands) goes)
          (λ n d i. inl (in_.open_.was n d (ap (λ (z : World). disks.command_at z.disks.commands n) (sym goes) ∙ i)))
          (ap (λ (z : World). z.servers) goes) (ap (λ (z : World). z.log) goes)

  reads_v : (o : Option Taking) → taken (counted t.world) e ≡ o → TakenReads o → ReadsHold sc.world sc.world.log
  reads_v (Some x) q lies = reads_taken x q lies
  reads_v None q lies =
      subst (λ (z : WorldTurn). ReadsHold z.world z.world.log) (sym (step_happens t.world e sc took).1)
      (others.others_reads (known past) (counted t.world)
      (λ c site f. let y = s.pages.stood.copies c site f in record { servers = submits.all_there past k count t s.pages e sc in_range took places left placed.pages site.node.state.associations y.servers; runs = y.runs; rests = y.rests })
      (counted_pages t.world s.pages.pages) (counted_reads t.world s.reads) (counted_settled t.world settled) e (counted_admits t.world e (step_happens t.world e sc took).0) q
      (submits.free past k count t s.pages e sc in_range took places left placed.pages q))

  pub next : Kept past (step t e sc) × ReadsStand k count (past ++ step t e sc ∷ []) (traced_after e t sc)
  next = (behind.0, record { pages = behind.1; reads = reads_v (taken (counted t.world) e) refl placed.reads })

run : (promise : Promise) → ((k : Config) (count : ℕ) (past : List Step) (t : Traced) (e : Event) (sc : WorldTurn) → Kept past (step t e sc) → ReadsStand k count (past ++ step t e sc ∷ []) (traced_after e t sc) → promise past (step t e sc)) → (k : Config) (count : ℕ) (es : List Event) → list_all (is_event count) es ≡ true →
    (past : List Step) (t : Traced) → ReadsStand k count past t → Throughout PlacesAfter past (steps es t) → Throughout IsPlaced past (steps es t) → Throughout promise past (steps es t)
unfolding steps safety.steps_on Throughout
run promise pick k count [] all past t s o d = tt
run promise pick k count (e ∷ es) all past t s o d = go (world_step t.world e) refl o d (λ past t. run promise pick k count es (and_true (is_event count e) (list_all (is_event count) es) all).1 past t)
  where
    go : (r : Result WorldTurn WorldRefusal) → world_step t.world e ≡ r → Throughout PlacesAfter past (safety.steps_on (steps es) t e r) → Throughout IsPlaced past (safety.steps_on (steps es) t e r) →
        ((past : List Step) (t : Traced) → ReadsStand k count past t → Throughout PlacesAfter past (steps es t) → Throughout IsPlaced past (steps es t) → Throughout promise past (steps es t)) →
        Throughout promise past (safety.steps_on (steps es) t e r)
    go (Err r) q o d f = tt
    go (Ok sc) q o d f =
        let z = next past k count t s e sc (and_true (is_event count e) (list_all (is_event count) es) all).0 q o.0 d.0 in
        (pick k count past t e sc z.0 z.1, f (past ++ step t e sc ∷ []) (traced_after e t sc) z.1 o.1 d.1)

-- At the start nothing is outstanding.
module _ (k : base.Config) (clients servers d b form : ℕ) where
  fresh_reads : ReadsHold (fresh_world k clients servers d b form) (fresh_world k clients servers d b form).log
  unfolding fresh_world cl.fresh_client
  fresh_reads = record { clean = λ c site run a i pc m r. absurd (none c site run a i pc m); right = λ c site run a i l pc m r n y e yi its ei. absurd (none c site run a i pc m) }
    where
      none : (c : ℕ) (site : WorldClient) → Running (fresh_world k clients servers d b form) c site → (a : Association) → Has a site.node.state.associations → (pc : Rattle.st_rules.specs.declared.client.PageCommand.PageCommand) → Has pc a.store.commands → ⊥
      none c site run a i pc m =
          let z = has_map cl.fresh_association (numbers 1 servers) a (subst (λ (s : WorldClient). Has a s.node.state.associations) (site_is k clients servers c site run.there).0 i) in
          nothing (subst (λ (y : Association). Has pc y.store.commands) z.2 m)
        where
          nothing : Has pc [] → ⊥
          nothing y = y

  pub starts : safety.IsHead k clients servers d b form → ReadsStand (terms_of k) (clients + servers) [] (traced (fresh_world k clients servers d b form))
  starts head = record { pages = begins k clients servers d b form head; reads = fresh_reads }
