-- Reads return the last writes throughout a run in which each step has what is owed of it.
use Rattle.st_lemmas.proofs.Words
use Words.{◌≡◌, ℕ, ◌+◌, ◌<◌, true, false, List, [], ◌∷◌, ◌++◌, Option, Some, None, Ok, refl, sym, ap, ◌∙◌, subst, inl, inr, arith, map, suc, zero, ne_eqb}
use Words.{Event}
use Words.nodes
use Words.Client as cl
use Words.ClientPages.{empty_store}
use Words.Events.{WorldTurn, counted, world_step}
use Words.Extents.{numbers}
use Words.History.{Traced, traced, traced_after}
use Words.Keys.{client}
use Words.Lines.{AtEach}
use Words.Safety.{IsHead, IsLast, ReadsReturnLastWrites, Step, is_event, step}
use Words.World.{World, WorldClient, clock_of, fresh_site, fresh_world, node_at_start}
use Words.Lists.{Has}
use Words.Lengths.{length_map, numbered_there as numbered_is, numbers_length}
use Words.Members.{numbers_between}
use Rattle.st_base.specs.declared.config.Config as base
use Rattle.st_protocol.specs.Assoc.{Config}
use Rattle.st_lemmas.proofs.Steps.{step_happens}
use Rattle.st_laws_pages.specs.Asks.Law.{PlacesAfter, PlacesHold}
use Rattle.st_laws_pages.proofs.Causes.Law.{Stand, fresh_places, fresh_stand, one_step}
use Rattle.st_laws_pages.proofs.Disks.Whole.{site_is, fresh_waits}
use Rattle.st_laws_refine.specs.Server.Pair.{terms_of}
use Rattle.st_laws_leases.specs.Sides.World.{AllStand, There}
use Rattle.st_laws_leases.proofs.Sides.FirstWorld.{begun}
use Rattle.st_laws_leases.proofs.Sides.AllAssociations.{stays}
use Rattle.st_laws_leases.proofs.Sides.Runs.{full}
use Rattle.st_laws_reads.specs.Copies.Law.{EachStands, Apart, Differs}
use Rattle.st_laws_reads.specs.Copies.World.{Taking, taken}
use Rattle.st_laws_reads.proofs.Copies.Caches.{nothing_ok}
use Rattle.st_laws_reads.proofs.Copies.Rests.{clocks_law}
use Rattle.st_laws_reads.specs.AllClients.Runs.{IsOwed, TakenOwed}
use Rattle.st_laws_reads.specs.AllClients.World.{AllThere, CopiesHold, SiteHolds, TakingOwed}
use Rattle.st_laws_reads.proofs.AllClients.Others as others
use Rattle.st_laws_reads.specs.AllClients.CutFiles.{AllCleared}
use Rattle.st_laws_reads.proofs.AllClients.Cleared.{clear_step, fresh_clear}
use Rattle.st_laws_pages.specs.LockedCuts.CutLocks.{WaitsHold}
use Rattle.st_laws_pages.proofs.LockedCuts.CutLaw.{steps_lock_cuts as cut_law}
use Rattle.st_laws_leases.proofs.Sides.Waiting.{waits_owed}
use Rattle.st_laws_reads.specs.AllClients.Events.{OthersOwed}
use Rattle.st_laws_reads.specs.AllClients.Obligations.{CutsAsked}
use Rattle.st_laws_reads.specs.AllClients.CarriedContents.{IsCarried, WritesCarryTheContent}
use Rattle.st_laws_reads.proofs.AllClients.Carrying.{carried_taken, others_silent, silent_carried}
use Rattle.st_laws_reads.proofs.AllClients.Cutting.{others_owed}
use Rattle.st_laws_reads.proofs.AllClients.Owing.{input_owed}
use Rattle.st_laws_reads.proofs.AllClients.Reading.{dull_reads, known, more_known, numbered_there, others_dull, reads_taken}
use Rattle.st_laws_reads.proofs.AllClients.Takings as takings
use Rattle.st_laws_reads.proofs.AllClients.Takings.{Takes, takes_event}

-- What holds after the steps of a run.
pub record Stood (k : Config) (count : ℕ) (past : List Step) (t : Traced) : Type 0 where
  pub all : AllStand k count t.world
  pub places : PlacesHold t.world
  pub stand : Stand past t
  pub copies : CopiesHold (known past) t.world
  pub clear : AllCleared t.world
  pub waits : WaitsHold t.world

-- What is promised about a step.
pub record Kept (past : List Step) (x : Step) : Type 0 where
  pub reads : ReadsReturnLastWrites past x
  pub carry : WritesCarryTheContent past x

-- What a step leaves.
record LeavesAll (k : Config) (count : ℕ) (past : List Step) (t : Traced) (e : Event) (sc : WorldTurn) : Type 0 where
  kept : Kept past (step t e sc)
  copies : CopiesHold (known (past ++ step t e sc ∷ [])) sc.world

module _ (k : Config) (count : ℕ) (past : List Step) (t : Traced) (e : Event) (sc : WorldTurn) (is : world_step t.world e ≡ Ok sc) (s : Stood k count past t) (after : AllStand k count sc.world) (cuts : CutsAsked (step t e sc)) where
  abbrev st : Step
  st = step t e sc

  copies_hold_later : CopiesHold (known (past ++ st ∷ [])) t.world
  copies_hold_later = more_known past st t.world s.copies

  goes : (o : Option Taking) → taken (counted t.world) e ≡ o → TakenOwed (counted t.world) e o → LeavesAll k count past t e sc
  goes None q o =
      record {
        kept =
            record {
              reads = subst (λ os. AtEach (IsLast past st) sc.world t.world.log os) (ap (λ (z : WorldTurn). z.seen) (sym (step_happens t.world e sc is).1)) (dull_reads past st sc.world t.world.log _ (others_dull (counted t.world) e q));
              carry = subst (λ os. AtEach IsCarried sc.world t.world.log os) (ap (λ (z : WorldTurn). z.seen) (sym (step_happens t.world e sc is).1)) (silent_carried sc.world t.world.log _ (others_silent (counted t.world) e q));
            };
        copies = others.others_keep_copies (known (past ++ st ∷ [])) k count t.world e sc s.all is q free copies_hold_later;
      }
    where
      free : OthersOwed (counted t.world) e
      free =
          let p = step_happens t.world e sc is in
          others_owed k count (counted t.world) sc after (clear_step t.world e sc is (λ c site q. (s.all.fates.lives.lives.sites c site q).fit) s.clear) cuts s.waits e (waits_owed k count t.world s.all e p.0) p.1 o
  goes (Some x) q o =
      record {
        kept = record {
          reads = reads_taken k count past t e sc x s.all after is q there owed copies_hold_later;
          carry =
              carried_taken k count past t e sc x s.all after is q there owed copies_hold_later;
        };
        copies = takings.takings_keep_copies (known (past ++ st ∷ [])) k count t.world e sc x s.all after is q owed copies_hold_later;
      }
    where
      there : Takes (counted t.world) sc x
      there = subst (λ (z : WorldTurn). Takes (counted t.world) z x) (sym (step_happens t.world e sc is).1) (takes_event (counted t.world) e x q)

      owed : TakingOwed (known (past ++ st ∷ [])) x
      owed = record { numbered = numbered_there past st (counted t.world) e x refl (λ c site f. let z = s.stand.asks c site f in record { count = z.count; keys = z.keys }) q; owed = input_owed k count past t e sc is s.all s.places s.stand s.clear x q o }

-- A step of the run: it reads right, and everything holds after it.
pub next : (k : Config) (count : ℕ) (past : List Step) (t : Traced) (e : Event) (sc : WorldTurn) → is_event count e ≡ true → world_step t.world e ≡ Ok sc → Stood k count past t → PlacesAfter past (step t e sc) → IsOwed past (step t e sc) →
    Kept past (step t e sc) × Stood k count (past ++ step t e sc ∷ []) (traced_after e t sc)
next k count past t e sc in_range q s places owed =
    let after = stays k count t.world e sc s.all (full count t.world e s.all.nodes in_range) q in
    let z = goes k count past t e sc q s after owed.cuts (taken (counted t.world) e) refl owed.taken in
    (z.kept, record { all = after; places = places; stand = (one_step past t e sc q s.places s.stand).stand; copies = z.copies; clear = clear_step t.world e sc q (λ c site i. (s.all.fates.lives.lives.sites c site i).fit) s.clear; waits = (cut_law t.world e sc q (waits_owed k count t.world s.all e (step_happens t.world e sc q).0) s.waits).holds })

-- At the start nothing is cached.
differs : (n a c : ℕ) → n < a → Differs (record { 0 = n }) (map cl.fresh_association (numbers a c))
unfolding numbers
differs n a zero l = record {}
differs n a (suc c) l = record { one = ne_eqb n a (λ q. let z : n ≡ a = q in omega (arith, l, z)); rest = differs n (a + 1) c (omega (arith, l)) }

apart : (a c : ℕ) → Apart (map cl.fresh_association (numbers a c))
unfolding numbers
apart a zero = record {}
apart a (suc c) = record { one = differs a (a + 1) c (omega arith); rest = apart (a + 1) c }

stand_empty : (n : ℕ) (xs : List ℕ) → EachStands (client n) [] (map cl.fresh_association xs)
stand_empty n [] = record {}
stand_empty n (x ∷ xs) =
    record {
      one = record { pages = λ ino p. nothing_ok 0 _ empty_store ino p (record { dirty = refl; clean = refl; known = refl; reading = refl }); fates = record {}; lived = record {} };
      rest = stand_empty n xs;
    }

module _ (k : base.Config) (clients servers d b form : ℕ) where
  abbrev w : World
  w = fresh_world k clients servers d b form

  there : (n : ℕ) → Has n (numbers 1 servers) → There w (record { 0 = n })
  unfolding fresh_world
  there n i =
      let z = numbers_between 1 servers n i in
      let x = z.0 in
      let y = z.1 in
      let l = length_map (node_at_start k servers d b) (numbers 1 servers) ∙ numbers_length 1 servers in
      let f = numbered_is (map (node_at_start k servers d b) (numbers 1 servers)) n x (omega (arith, y, l)) in
      record { node = f.0; is = f.1 }

  all_there : (xs : List ℕ) → ((n : ℕ) → Has n xs → Has n (numbers 1 servers)) → AllThere w (map cl.fresh_association xs)
  all_there [] f = record {}
  all_there (x ∷ xs) f = record { one = there x (f x (inl refl)); rest = all_there xs (λ n i. f n (inr i)) }

  fresh_copies : CopiesHold (known []) w
  unfolding fresh_world cl.fresh_client
  fresh_copies c site e =
      subst (λ (s : WorldClient). SiteHolds (known [] c) w c s) (sym (site_is k clients servers c site e).0)
      (record {
        servers = all_there (numbers 1 servers) (λ n i. i);
        runs = λ r. (clocks_law (known [] c) (client c) [] (clock_of w (nodes.Client (client c))) (fresh_site k servers c).node.state).behind (record { apart = apart 1 servers; copies = stand_empty c (numbers 1 servers); asked = record {} });
        rests = λ r. absurd (no r);
      })
    where
      no : true ≡ false → ⊥
      no r = cc

-- Everything holds at the start.
pub at_first : (k : base.Config) (clients servers disks blocks form : ℕ) → IsHead k clients servers disks blocks form → Stood (terms_of k) (clients + servers) [] (traced (fresh_world k clients servers disks blocks form))
at_first k clients servers disks blocks form head =
    record {
      all = begun k clients servers disks blocks form head;
      places = fresh_places k clients servers disks blocks form;
      stand = fresh_stand k clients servers disks blocks form;
      copies = fresh_copies k clients servers disks blocks form;
      clear = fresh_clear k clients servers disks blocks form;
      waits = fresh_waits k clients servers disks blocks form;
    }
