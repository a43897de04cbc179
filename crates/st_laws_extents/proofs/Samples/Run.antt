-- Reads return the last writes and the pages hold throughout a run: what they submit goes to where pages lie.
use Rattle.st_lemmas.proofs.Words
use Words.{◌≡◌, ℕ, zero, suc, ◌+◌, true, List, [], ◌∷◌, ◌++◌, Option, Some, None, Ok, Err, refl, sym, ap, ◌∙◌, subst, ◌==◌, Result, list_all, Event}
use Words.{WorldRefusal, IssuedCommand, eqb-true, PageNo, KnownExtent, MappedBlock, Extent}
use Words.Client as cl
use Words.Events.{WorldTurn, counted, world_step}
use Words.History.{Traced, traced, traced_after}
use Words.Safety as safety
use Words.Safety.{Promise, ReadsReturnLastWrites, Step, Throughout, is_event, step, steps}
use Words.World.{fresh_world, numbered, World}
use Words.Tables.{and_true, found_at}
use Words.ClientPages as store
use Words.Keys.{client, same_page}
use Rattle.st_base.specs.declared.config.Config as base
use Rattle.st_protocol.specs.Assoc.{Config}
use Rattle.st_lemmas.proofs.Steps.{step_happens}
use Rattle.st_laws_pages.specs.Disks.Runs.{PagesAfter}
use Rattle.st_laws_pages.specs.Asks.Law.{PlacesAfter}
use Rattle.st_laws_pages.proofs.Asks.Law.{places_law}
use Rattle.st_laws_refine.specs.Server.Pair.{terms_of}
use Rattle.st_laws_leases.specs.Sides.World.{AllStand}
use Rattle.st_laws_reads.specs.Copies.World.{Taking, taken}
use Rattle.st_laws_reads.proofs.AllClients.Runs.{Kept}
use Rattle.st_laws_reads.proofs.AllClients.Takings.{Takes, takes_event}
use Rattle.st_laws_extents.proofs.CutRequests.Law as cutters
use Rattle.st_laws_extents.proofs.CutRequests.Law.{Hold, same_all}
use Rattle.st_laws_extents.specs.FrozenCuts.FrozenFiles.{FrozenFilesUncut}
use Rattle.st_laws_extents.proofs.FrozenCuts.Stays.{uncut_stays}
use Rattle.st_laws_extents.proofs.FrozenCuts.Uncut.{frozen_uncut}
use Rattle.st_laws_extents.specs.Known.WritePlaces.{ExtentsTold, AllKnow, LiesAs}
use Rattle.st_laws_extents.proofs.Known.Law as known
use Rattle.st_laws_extents.specs.DiskReads.Law.{IsPlaced, TakenReads}
use Rattle.st_laws_extents.proofs.DiskReads.Run as found
use Rattle.st_laws_extents.proofs.Samples.Lies.{reads_lie}
use Rattle.st_laws_extents.proofs.DiskReads.Run.{ReadsStand}
use Rattle.st_laws_extents.specs.Samples.Law.{InRunsToldRight, IsToldRight}
use Rattle.st_laws_pages.specs.Flush.Flush.{file_at}
use Rattle.st_laws_pages.specs.Disks.Pages.{mapping_of}
use Rattle.st_laws_pages.specs.Disks.World.{mapped_in}
use Rattle.st_laws_extents.specs.Known.Law.{SubmitsOf}
use Rattle.st_laws_extents.specs.Submits.Obligations.{SubmitsLeft}
use Rattle.st_laws_extents.specs.DiskReads.Reads.{KnownRight}

-- What clients know, as it is asked for.
known_right : (w : World) → AllKnow w → KnownRight w
known_right w h c site run a i l ino p m e = go (store.known_of a.store.extents ino p) refl e
  where
    none_some : ◌≡◌ {A = Option MappedBlock} None (Some m) → ⊥
    none_some z = cc

    of_lies : (server : Rattle.st_base.specs.declared.ids.ServerId.ServerId) → LiesAs (mapped_in w (record { server = a.server; ino = ino }) p) m → (x : Extent) × (mapped_in w (file_at a ino) p ≡ Some x) × (mapping_of x ≡ m)
    of_lies server z = (z.extent, z.is, (λ j. record { at = z.at j; birth = z.birth j }))

    go : (o : Option KnownExtent) → store.known_of a.store.extents ino p ≡ o → store.mapping_at o ≡ Some m → (x : Extent) × (mapped_in w (file_at a ino) p ≡ Some x) × (mapping_of x ≡ m)
    go None f q = absurd (none_some q)
    go (Some k) f q =
        let z = found_at (store.is_known_of ino p) a.store.extents k f in
        let b = and_true (k.ino == ino) (same_page k.page p) z.0 in
        let y = ((h (client c) site run.there).knows run.runs a i l k z.1).is m q in
        let n = eqb-true k.ino ino b.0 in
        let g : k.page ≡ p = ap (λ v. record { 0 = v }) (eqb-true k.page.0 p.0 b.1) in
        of_lies a.server (subst (λ (v : PageNo). LiesAs (mapped_in w (record { server = a.server; ino = ino }) v) m) g (subst (λ (v : ℕ). LiesAs (mapped_in w (record { server = a.server; ino = v }) k.page) m) n y))

submits_left : (o : Option Taking) → SubmitsOf o → SubmitsLeft o
submits_left None s = tt
submits_left (Some x) s = λ number at to tag bytes i. let z = s number at to tag bytes i in record { extent = z.extent; is = z.is; at = z.at; birth = z.birth }

-- What holds after the steps of a run.
record AllHold (k : Config) (count : ℕ) (past : List Step) (t : Traced) : Type 0 where
  reads : ReadsStand k count past t
  hold : Hold k count past t
  safe : FrozenFilesUncut k count t.world hold.all
  known : known.Hold k count t.world

module _ (k : Config) (count : ℕ) (past : List Step) (t : Traced) (s : AllHold k count past t) (e : Event) (sc : WorldTurn) (ranges : is_event count e ≡ true) (took : world_step t.world e ≡ Ok sc) (places : PlacesAfter past (step t e sc)) (told : IsToldRight past (step t e sc)) where
  extents : known.Kept past (step t e sc) × known.Hold k count sc.world
  extents = known.next k count past t e sc ranges took s.known (cutters.one k count past t e sc ranges s.hold took).0 told.told

  takes : (x : Taking) → taken (counted t.world) e ≡ Some x → Takes (counted t.world) sc x
  takes x q = subst (λ (z : WorldTurn). Takes (counted t.world) z x) (sym (step_happens t.world e sc took).1) (takes_event (counted t.world) e x q)

  -- reads that are submitted go to where the pages lie
  taken_reads : (o : Option Taking) → taken (counted t.world) e ≡ o → ExtentsTold o → TakenReads o
  taken_reads None q m = tt
  taken_reads (Some x) q m = λ r.
      let tk = takes x q in
      reads_lie t.world sc x tk (s.known.all.fates.lives.lives.sites x.client tk.old tk.there).fit s.known.clear s.known.locked s.known.know m r
      (λ a i. ((s.reads.pages.stood.stand.both.flush.sites x.client tk.old tk.there (ap (λ (n : cl.ClientNode). n.running) tk.same ∙ r)).cared a i).below) r

  placed : IsPlaced past (step t e sc)
  placed =
      record {
        known = known_right t.world s.known.know;
        maps = told.maps;
        reads = taken_reads (taken (counted t.world) e) refl told.told;
        cuts = (cutters.one k count past t e sc ranges s.hold took).0;
        pages = record { submits = submits_left (taken (counted t.world) e) extents.0.submits; cuts = frozen_uncut k count past t s.hold s.safe s.reads.pages.pages e sc };
      }

  next : Kept past (step t e sc) × AllHold k count (past ++ step t e sc ∷ []) (traced_after e t sc)
  next =
      let z = found.next past k count t s.reads e sc ranges took places placed in
      let o = same_all k count past t e sc ranges s.hold took in (
        z.0,
        record {
          reads = z.1;
          hold = o.0;
          safe = subst (FrozenFilesUncut k count sc.world) (sym o.1) (uncut_stays k count past t e sc ranges s.hold took s.safe s.reads.pages.writes.there s.reads.pages.stood.stand.both.writes.commands.counts s.reads.pages.stood.stand.writes.open_ s.reads.pages.stood.clear);
          known = extents.1;
        },
      )

run : (promise : Promise) → ((k : Config) (count : ℕ) (past : List Step) (t : Traced) (e : Event) (sc : WorldTurn) → Kept past (step t e sc) → ReadsStand k count (past ++ step t e sc ∷ []) (traced_after e t sc) → promise past (step t e sc)) → (k : Config) (count : ℕ) (es : List Event) → list_all (is_event count) es ≡ true →
    (past : List Step) (t : Traced) → AllHold k count past t → Throughout PlacesAfter past (steps es t) → Throughout IsToldRight past (steps es t) → Throughout promise past (steps es t)
unfolding steps safety.steps_on Throughout
run promise pick k count [] all past t s o d = tt
run promise pick k count (e ∷ es) all past t s o d = go (world_step t.world e) refl o d (λ past t. run promise pick k count es (and_true (is_event count e) (list_all (is_event count) es) all).1 past t)
  where
    go : (r : Result WorldTurn WorldRefusal) → world_step t.world e ≡ r → Throughout PlacesAfter past (safety.steps_on (steps es) t e r) → Throughout IsToldRight past (safety.steps_on (steps es) t e r) →
        ((past : List Step) (t : Traced) → AllHold k count past t → Throughout PlacesAfter past (steps es t) → Throughout IsToldRight past (steps es t) → Throughout promise past (steps es t)) →
        Throughout promise past (safety.steps_on (steps es) t e r)
    go (Err r) q o d f = tt
    go (Ok sc) q o d f =
        let z = next k count past t s e sc (and_true (is_event count e) (list_all (is_event count) es) all).0 q o.0 d.0 in
        (pick k count past t e sc z.0 z.1.reads, f (past ++ step t e sc ∷ []) (traced_after e t sc) z.1 o.1 d.1)

-- At the start nothing is submitted.
fresh_safe : (k : base.Config) (clients servers d b form : ℕ) (all : AllStand (terms_of k) (clients + servers) (fresh_world k clients servers d b form)) → FrozenFilesUncut (terms_of k) (clients + servers) (fresh_world k clients servers d b form) all
unfolding fresh_world
fresh_safe k clients servers d b form all n x at tag bytes o = absurd (none n x o.issued)
  where
    none : (j : ℕ) (x : IssuedCommand) → numbered {A = IssuedCommand} [] j ≡ Some x → ⊥
    none zero x e = cc
    none (suc j) x e = cc

in_run : (promise : Promise) → ((k : Config) (count : ℕ) (past : List Step) (t : Traced) (e : Event) (sc : WorldTurn) → Kept past (step t e sc) → ReadsStand k count (past ++ step t e sc ∷ []) (traced_after e t sc) → promise past (step t e sc)) → InRunsToldRight promise
in_run promise pick k clients servers d b form es head events told =
    let h = cutters.first k clients servers d b form head in
    run promise pick (terms_of k) (clients + servers) es events [] (traced (fresh_world k clients servers d b form))
    (record { reads = found.starts k clients servers d b form head; hold = h; safe = fresh_safe k clients servers d b form h.all; known = known.first k clients servers d b form head }) (places_law k clients servers d b form es head) told

pub pages : InRunsToldRight PagesAfter
pages = in_run PagesAfter (λ k count past t e sc kept z. z.pages.pages)

pub reads : InRunsToldRight ReadsReturnLastWrites
reads = in_run ReadsReturnLastWrites (λ k count past t e sc kept z. kept.reads)
