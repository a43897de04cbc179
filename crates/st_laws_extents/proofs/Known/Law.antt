-- Known extents are the servers': at the start, after every event, and over whole runs.
use Rattle.st_lemmas.proofs.Words
use Words.{◌≡◌, ℕ, ◌+◌, Bool, true, false, List, [], ◌∷◌, ◌++◌, Option, Some, None, Ok, Err, refl, sym, ap, ◌∙◌, subst, Result, list_all, Event, WorldRefusal}
use Words.{ClientId}
use Words.nodes
use Words.events
use Words.Client as cl
use Words.ClientState.{Association}
use Words.Events.{WorldTurn, counted, happens, world_step}
use Words.Extents.{numbers}
use Words.History.{Traced, traced, traced_after}
use Words.Safety as safety
use Words.Safety.{IsHead, Promise, Step, Throughout, is_event, step, steps}
use Words.World.{World, WorldClient, fresh_world, site_of}
use Words.Lists.{Has}
use Words.Tables.{and_true, has_map}
use Rattle.st_base.specs.declared.config.Config as base
use Rattle.st_protocol.specs.Assoc.{Config}
use Rattle.st_lemmas.proofs.Steps.{step_happens}
use Rattle.st_laws_pages.specs.LockedCuts.CutLocks.{WaitsHold}
use Rattle.st_laws_steps.specs.Client.Losses.{Fit}
use Rattle.st_laws_pages.proofs.LockedCuts.CutLaw.{steps_lock_cuts as cut_law}
use Rattle.st_laws_pages.proofs.Disks.Whole.{fresh_waits, site_is}
use Rattle.st_laws_refine.specs.Server.Pair.{terms_of}
use Rattle.st_laws_leases.specs.Sides.World.{AllStand}
use Rattle.st_laws_leases.proofs.Sides.FirstWorld.{begun}
use Rattle.st_laws_leases.proofs.Sides.AllAssociations.{stays}
use Rattle.st_laws_leases.proofs.Sides.Runs.{full}
use Rattle.st_laws_leases.proofs.Sides.Waiting.{waits_owed}
use Rattle.st_laws_reads.specs.Copies.World.{Taking, taken}
use Rattle.st_laws_reads.specs.AllClients.CutFiles.{AllCleared}
use Rattle.st_laws_reads.specs.AllClients.Obligations.{CutsAsked}
use Rattle.st_laws_reads.proofs.AllClients.Cleared.{clear_step, fresh_clear}
use Rattle.st_laws_reads.proofs.AllClients.Cutting.{others_owed}
use Rattle.st_laws_reads.proofs.AllClients.Takings.{Takes, takes_event}
use Rattle.st_laws_extents.specs.CutRequests.Law.{CutsAreAsked}
use Rattle.st_laws_extents.proofs.CutRequests.Law as cutters
use Rattle.st_laws_extents.specs.Known.Law.{InRunsTold, IsTold, KnownAfter, SubmitsAt, SubmitsOf}
use Rattle.st_laws_extents.specs.Known.WritePlaces.{AllKnow, AllLocked, CutsOwed, ExtentsTold}
use Rattle.st_laws_extents.proofs.Known.Held.{held_mode}
use Rattle.st_laws_extents.proofs.Known.Locked.{fresh_locked, locked_step}
use Rattle.st_laws_extents.proofs.Known.World as worlds

-- What holds after every event.
pub record Hold (k : Config) (count : ℕ) (w : World) : Type 0 where
  pub all : AllStand k count w
  pub clear : AllCleared w
  pub waits : WaitsHold w
  pub locked : AllLocked w
  pub know : AllKnow w

-- What a step keeps, and what it promises.
pub record Kept (past : List Step) (x : Step) : Type 0 where
  pub known : KnownAfter past x
  pub submits : SubmitsAt past x

module _ (k : Config) (count : ℕ) (past : List Step) (t : Traced) (e : Event) (sc : WorldTurn) (in_range : is_event count e ≡ true) (is : world_step t.world e ≡ Ok sc) (s : Hold k count t.world) (cuts : CutsAsked (step t e sc)) (told : IsTold past (step t e sc)) where
  w : World
  w = t.world

  after : AllStand k count sc.world
  after = stays k count t.world e sc s.all (full count t.world e s.all.nodes in_range) is

  all_fit : (c : ClientId) (site : WorldClient) → site_of t.world c ≡ Some site → (a : Association) → Has a site.node.state.associations → Fit a
  all_fit c site q = (s.all.fates.lives.lives.sites c site q).fit

  clear_after : AllCleared sc.world
  clear_after = clear_step t.world e sc is all_fit s.clear

  -- the cuts of the event are free
  owed : (f : Event) → e ≡ f → CutsOwed (counted t.world) f
  owed (events.Tick (nodes.Server n)) q = others_owed k count (counted t.world) sc after clear_after cuts s.waits (events.Tick (nodes.Server n)) (subst (Rattle.st_laws_pages.specs.LockedCuts.CutLocks.WaitsOwed (counted t.world)) q (waits_owed k count t.world s.all e (step_happens t.world e sc is).0)) ((step_happens t.world e sc is).1 ∙ ap (happens (counted t.world)) q) tt
  owed (events.Deliver n) q = others_owed k count (counted t.world) sc after clear_after cuts s.waits (events.Deliver n) (subst (Rattle.st_laws_pages.specs.LockedCuts.CutLocks.WaitsOwed (counted t.world)) q (waits_owed k count t.world s.all e (step_happens t.world e sc is).0)) ((step_happens t.world e sc is).1 ∙ ap (happens (counted t.world)) q) tt
  owed (events.Tick (nodes.Client c)) q = tt
  owed (events.App c ask) q = tt
  owed (events.Lose n) q = tt
  owed (events.Cut x y) q = tt
  owed (events.Heal x y) q = tt
  owed (events.Advance ds) q = tt
  owed (events.Effect n) q = tt
  owed (events.Report n ok) q = tt
  owed (events.Crash n) q = tt
  owed (events.Start n) q = tt

  modes : worlds.ModesHeld (counted t.world)
  modes d site at a i there ino l = held_mode k count t.world s.all d site at a i (record { node = there.node; is = there.is }) ino l

  Goes : Option Taking → Type 0
  Goes o = AllKnow sc.world × SubmitsOf o

  goes : (o : Option Taking) → taken (counted t.world) e ≡ o → ExtentsTold o → Goes o
  unfolding Goes
  goes None q o = (
    subst (λ (z : WorldTurn). AllKnow z.world) (sym (step_happens t.world e sc is).1)
        (worlds.none_know (counted t.world) modes (λ n node at. (s.waits n node at).id) (worlds.still t.world (counted t.world) refl refl refl s.know) e q (owed e refl)),
    tt,
  )
  goes (Some x) q o = (by x.site.node.running refl, worlds.submits t.world sc x takes fits stopped s.clear s.locked s.know o)
    where
      takes : Takes (counted t.world) sc x
      takes = subst (λ (z : WorldTurn). Takes (counted t.world) z x) (sym (step_happens t.world e sc is).1) (takes_event (counted t.world) e x q)

      fits : (a : Association) → Has a takes.old.node.state.associations → Fit a
      fits = (s.all.fates.lives.lives.sites x.client takes.old takes.there).fit

      stopped : takes.old.node.running ≡ false → (a : Association) → Has a takes.old.node.state.associations → a.session ≡ None
      stopped r a i = ((s.all.fates.lives.lives.sites x.client takes.old takes.there).stopped r a i).session

      by : (b : Bool) → x.site.node.running ≡ b → AllKnow sc.world
      by true r = worlds.runs_know t.world sc x takes fits stopped s.clear s.locked s.know o r
      by false r = worlds.stops_know t.world sc x takes fits stopped s.clear s.locked s.know r

  pub next : Kept past (step t e sc) × Hold k count sc.world
  unfolding Goes
  next =
      let z = goes (taken (counted t.world) e) refl told in (
        record { known = z.0; submits = z.1 },
        record { all = after; clear = clear_after; waits = (cut_law t.world e sc is (waits_owed k count t.world s.all e (step_happens t.world e sc is).0) s.waits).holds; locked = locked_step t.world e sc is all_fit s.clear s.locked; know = z.0 },
      )

-- At the start nothing is known.
pub first : (k : base.Config) (clients servers disks blocks form : ℕ) → IsHead k clients servers disks blocks form → Hold (terms_of k) (clients + servers) (fresh_world k clients servers disks blocks form)
unfolding fresh_world cl.fresh_client
first k clients servers disks blocks form head =
    record {
      all = begun k clients servers disks blocks form head;
      clear = fresh_clear k clients servers disks blocks form;
      waits = fresh_waits k clients servers disks blocks form;
      locked = fresh_locked k clients servers disks blocks form;
      know = λ c site e. worlds.empty_knows (fresh_world k clients servers disks blocks form) c site
          (subst (λ (s : WorldClient). (a : Association) → Has a s.node.state.associations → a.store.extents ≡ []) (sym (site_is k clients servers c.0 site e).0)
          (λ a i. let z = has_map cl.fresh_association (numbers 1 servers) a i in ap (λ (y : Association). y.store.extents) z.2));
    }

module _ (promise : Promise) (pick : (past : List Step) (x : Step) → Kept past x → promise past x) where
  run : (k : Config) (count : ℕ) (es : List Event) → list_all (is_event count) es ≡ true → (past : List Step) (t : Traced) → Hold k count t.world → Throughout CutsAreAsked past (steps es t) → Throughout IsTold past (steps es t) → Throughout promise past (steps es t)
  unfolding steps safety.steps_on Throughout
  run k count [] all past t s c d = tt
  run k count (e ∷ es) all past t s c d = go (world_step t.world e) refl c d (λ past t. run k count es (and_true (is_event count e) (list_all (is_event count) es) all).1 past t)
    where
      go : (r : Result WorldTurn WorldRefusal) → world_step t.world e ≡ r → Throughout CutsAreAsked past (safety.steps_on (steps es) t e r) → Throughout IsTold past (safety.steps_on (steps es) t e r) →
          ((past : List Step) (t : Traced) → Hold k count t.world → Throughout CutsAreAsked past (steps es t) → Throughout IsTold past (steps es t) → Throughout promise past (steps es t)) →
          Throughout promise past (safety.steps_on (steps es) t e r)
      go (Err r) q c d f = tt
      go (Ok sc) q c d f =
          let z = next k count past t e sc (and_true (is_event count e) (list_all (is_event count) es) all).0 q s c.0 d.0 in
          (pick past (step t e sc) z.0, f (past ++ step t e sc ∷ []) (traced_after e t sc) z.1 c.1 d.1)

  -- from the start
  pub in_runs : InRunsTold promise
  in_runs k clients servers disks blocks form es head events told =
      run (terms_of k) (clients + servers) es events [] (traced (fresh_world k clients servers disks blocks form)) (first k clients servers disks blocks form head)
      (cutters.cuts_are_asked k clients servers disks blocks form es head events) told

pub known : InRunsTold KnownAfter
known = in_runs KnownAfter (λ past x z. z.known)

pub submits : InRunsTold SubmitsAt
submits = in_runs SubmitsAt (λ past x z. z.submits)
