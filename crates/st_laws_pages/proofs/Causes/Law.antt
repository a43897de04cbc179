-- Drops have a cause, hard is hard, and clients list the writes that are not reported: at each step and over whole runs, with no premise.
use Rattle.st_lemmas.proofs.Words
use Words.{◌≡◌, ℕ, ◌≤◌, true, subst, List, [], ◌∷◌, ◌++◌, Option, Some, None, Ok, Err, refl, sym, ap, ◌∙◌, arith, Result, length, map, suc}
use Words.{zero, Config, Event, WorldRefusal, IssuedCommand, DirtyPage, ClientId, list_all}
use Words.Extents.{numbers}
use Words.Server as server
use Words.Server.{ServerNode}
use Words.World.{World, WorldClient, numbered, fresh_world, node_at_start, fresh_site}
use Words.Events as ev
use Words.Events.{WorldTurn}
use Words.History.{Traced, traced, traced_after}
use Words.Safety as safety
use Words.Safety.{Step, step, steps, Throughout, DropsHaveACause, HardIsHard, Promise}
use Words.Tables.{has_map, all_pass}
use Words.Lists.{Has}
use Words.Client as cl
use Words.ClientState.{Association}
use Words.World as world
use Words.Admissible as adm
use Words.WorldInvariants.{knows_own, knows_own_at, maps_own}
use Words.ClientPages as pages
use Words.Lines.{AtEach}
use Words.Lengths.{length_map, numbers_length}
use Words.Members.{numbers_between}
use Rattle.st_laws_pages.specs.Drops.Causes.{CausesHold}
use Rattle.st_laws_pages.specs.Flush.Flush.{Cared, NumbersApart, NodeCared, FlushHold}
use Rattle.st_laws_pages.specs.Disks.Obligations.{FatesHold}
use Rattle.st_laws_pages.proofs.Drops.Dropping.{advance_owed}
use Rattle.st_laws_pages.proofs.Drops.Grows.{happens_causes}
use Rattle.st_laws_pages.proofs.Disks.Steps.{counted_fates, fates_law}
use Rattle.st_laws_pages.proofs.Disks.Whole.{fresh_fates, site_is}
use Rattle.st_laws_pages.specs.Asks.Law.{InEveryRun, PlacesAfter, PlacesHold}
use Rattle.st_laws_pages.proofs.Asks.Law.{places_law}
use Rattle.st_laws_pages.specs.Causes.Invariants.{LatestOwn, WritesStand}
use Rattle.st_laws_pages.proofs.Causes.Drops.{causes_owed}
use Rattle.st_laws_pages.proofs.Causes.Events.{counted_both, happens_both}
use Rattle.st_laws_pages.proofs.Causes.FlushSteps.{BothHold}
use Rattle.st_laws_pages.proofs.Causes.Placed.{PlacesAt, places_at}
use Rattle.st_laws_pages.proofs.Causes.HardEvents.{AskedHold, AskedSo, happens_left}
use Rattle.st_laws_pages.specs.Writes.Writes.{ListedAfter, ListsAgree, ListsAgreeAfter, OpenAfter}
use Rattle.st_laws_pages.proofs.Writes.Agreeing.{lists_agree}
use Rattle.st_laws_pages.proofs.Writes.Events.{WritesMatch, fresh_match, happens_matched}

fresh_causes : (k : Config) (clients servers d b form : ℕ) → CausesHold [] (fresh_world k clients servers d b form)
unfolding fresh_world
fresh_causes k clients servers d b form = record { caused = refl; crashes = record {} }

fresh_flush : (k : Config) (clients servers d b form : ℕ) → FlushHold [] (fresh_world k clients servers d b form)
unfolding fresh_world cl.fresh_client
fresh_flush k clients servers d b form =
    record {
      sites = λ c site e r. node c site (site_is k clients servers c.0 site e).0;
      starts = λ c site e x i. absurd i;
      flushes = λ x i. absurd i;
      servers = λ c site e a i. server a (has_map cl.fresh_association (numbers 1 servers) a (subst (λ (s : WorldClient). Has a s.node.state.associations) (site_is k clients servers c.0 site e).0 i));
    }
  where
    Came : Association → Type 0
    Came a = (n : ℕ) × Has n (numbers 1 servers) × (a ≡ cl.fresh_association n)

    no_page : (x : DirtyPage) → ◌≡◌ {A = Option DirtyPage} None (Some x) → ⊥
    no_page x e = cc

    fresh : (c : ClientId) (n : ℕ) → Cared [] [] [] c 0 1 (cl.fresh_association n)
    fresh c n =
        record {
          entries = record {};
          writes = λ pc i v q. absurd i;
          reads = λ pc i q. absurd i;
          first = omega arith;
          above = λ pc i. absurd i;
          below = λ pc i. absurd i;
          once = λ pc qc i j. absurd i;
          versions = λ ino p x e. absurd (no_page x e);
          failed = λ ino p x m e. absurd (no_page x e);
        }

    node : (c : ClientId) (site : WorldClient) → site ≡ fresh_site k servers c.0 → NodeCared [] [] [] c site
    node c site e =
        subst (NodeCared [] [] [] c) (sym e)
        (record {
          cared = λ a i. let z = has_map cl.fresh_association (numbers 1 servers) a i in subst (Cared [] [] [] c 0 1) (sym z.2) (fresh c z.0);
          apart = λ a i. let z = has_map cl.fresh_association (numbers 1 servers) a i in subst (λ (x : Association). NumbersApart x.store.commands) (sym z.2) (λ pc qc p q n. absurd p);
          numbers = λ x i. absurd i;
        })

    server : (a : Association) → Came a → (1 ≤ a.server.0) × (a.server.0 ≤ length (map (node_at_start k servers d b) (numbers 1 servers)))
    server a (n, i, e) =
        let z = numbers_between 1 servers n i in
        let x = z.0 in
        let y = z.1 in
        let s = ap (λ (u : Association). u.server.0) e in
        let l = length_map (node_at_start k servers d b) (numbers 1 servers) ∙ numbers_length 1 servers in
        (omega (arith, x, s), omega (arith, y, s, l))

-- What holds after steps.
pub record Stand (past : List Step) (t : Traced) : Type 0 where
  pub fates : FatesHold t.world
  pub both : BothHold past t.world
  pub causes : CausesHold past t.world
  pub asks : AskedHold past t.world
  pub writes : WritesMatch t.world

-- so what clients list is what the world has not reported
pub stand_agrees : (past : List Step) (t : Traced) → Stand past t → ListsAgree t.world
stand_agrees past t s = lists_agree t.world s.fates.lives s.writes.listed s.writes.open_ s.both.writes.commands

-- One step, in a world whose places are known.
pub record Left (past : List Step) (t : Traced) (e : Event) (sc : WorldTurn) : Type 0 where
  pub promise : DropsHaveACause past (step t e sc)
  pub hard : HardIsHard past (step t e sc)
  pub stand : Stand (past ++ step t e sc ∷ []) (traced_after e t sc)

pub one_step : (past : List Step) (t : Traced) (e : Event) (sc : WorldTurn) → ev.world_step t.world e ≡ Ok sc → PlacesHold t.world → Stand past t → Left past t e sc
unfolding ev.world_step ev.world_by adm.refusal adm.refused_delivery adm.clocks_refused adm.flush_missed adm.refused_effect adm.refused_report world.node_of_place adm.missed_by
one_step past t e sc is0 places s = go (adm.refusal t.world e) refl is0
  where
    u : World
    u = ev.counted t.world

    f : FatesHold u
    f = counted_fates t.world s.fates

    pl : PlacesAt (length u.servers) u
    pl = let z = places_at t.world places in record { count = z.count; told = z.told; known = z.known }

    b : BothHold past u
    b = counted_both past t.world s.both

    match : WritesMatch u
    match = record { open_ = s.writes.open_; listed = s.writes.listed }

    go : (r : Option WorldRefusal) → adm.refusal t.world e ≡ r → ev.world_by t.world e r ≡ Ok sc → Left past t e sc
    go None q is =
        let y : ev.happens u e ≡ sc = ok_is is in
        let c : CausesHold (past ++ step t e sc ∷ []) sc.world = subst (λ (z : WorldTurn). CausesHold (past ++ step t e sc ∷ []) z.world) y
        (happens_causes past (step t e sc) u e refl (λ k s. refl) (causes_owed past u (length u.servers) e (λ steps w. advance_owed past u steps (ap (adm.refusal u) (sym w) ∙ same q) f b.flush (stand_agrees past t s)) f pl s.causes.crashes)
        (record { caused = s.causes.caused; crashes = s.causes.crashes })) in
        let n : BothHold (past ++ step t e sc ∷ []) sc.world = subst (λ (z : WorldTurn). BothHold (past ++ step t e sc ∷ []) z.world) y (happens_both past (step t e sc) u e (length u.servers) (same q) refl f.lives pl b) in
        let h = happens_left past (step t e sc) u e (length u.servers) (same q) refl (ap (λ (z : WorldTurn). z.world) (sym y)) f pl b s.asks in
        record {
          promise = c.caused;
          hard = subst (λ (z : WorldTurn). AtEach (safety.IsHardAt past (step t e sc)) sc.world t.world.log z.seen) y h.hard;
          stand = record {
            fates = fates_law t.world e sc is0 s.fates;
            both = n;
            causes = c;
            asks = subst (λ (z : WorldTurn). AskedHold (past ++ step t e sc ∷ []) z.world) y h.asks;
            writes = subst (λ (z : WorldTurn). WritesMatch z.world) y (happens_matched past u f.lives pl b match e (same q));
          };
        }
      where
        ok_is : ◌≡◌ {A = Result WorldTurn WorldRefusal} (Ok (ev.happens u e)) (Ok sc) → ev.happens u e ≡ sc
        ok_is z = cc

        same : adm.refusal t.world e ≡ None → adm.refusal u e ≡ None
        same z = z
    go (Some x) q is = absurd (no is)
      where
        no : ◌≡◌ {A = Result WorldTurn WorldRefusal} (Err x) (Ok sc) → ⊥
        no z = cc

-- what is promised about a step
record Kept (past : List Step) (x : Step) : Type 0 where
  causes : DropsHaveACause past x
  hard : HardIsHard past x
  open_ : OpenAfter past x
  listed : ListedAfter past x
  agree : ListsAgreeAfter past x

kept : (past : List Step) (t : Traced) (e : Event) (sc : WorldTurn) → Left past t e sc → Kept past (step t e sc)
kept past t e sc z =
    record {
      causes = z.promise;
      hard = z.hard;
      open_ = z.stand.writes.open_;
      listed = z.stand.writes.listed;
      agree = stand_agrees (past ++ step t e sc ∷ []) (traced_after e t sc) z.stand;
    }

-- a promise that each step keeps is kept throughout
kept_throughout : (P : Promise) → ((past : List Step) (x : Step) → Kept past x → P past x) → (es : List Event) (past : List Step) (t : Traced) → PlacesHold t.world → Stand past t → Throughout PlacesAfter past (steps es t) → Throughout P past (steps es t)
unfolding steps safety.steps_on Throughout
kept_throughout P f [] past t pl s o = tt
kept_throughout P f (e ∷ es) past t pl s o = go (ev.world_step t.world e) refl o (λ past t. kept_throughout P f es past t)
  where
    go : (r : Result WorldTurn WorldRefusal) → ev.world_step t.world e ≡ r → Throughout PlacesAfter past (safety.steps_on (steps es) t e r) →
        ((past : List Step) (t : Traced) → PlacesHold t.world → Stand past t → Throughout PlacesAfter past (steps es t) → Throughout P past (steps es t)) → Throughout P past (safety.steps_on (steps es) t e r)
    go (Err r) q o g = tt
    go (Ok sc) q o g = let z = one_step past t e sc q pl s in (f past (step t e sc) (kept past t e sc z), g (past ++ step t e sc ∷ []) (traced_after e t sc) o.0 z.stand o.1)

-- The start.
pub fresh_places : (k : Config) (clients servers d b form : ℕ) → PlacesHold (fresh_world k clients servers d b form)
unfolding fresh_world server.fresh_server cl.fresh_client
fresh_places k clients servers d b form = record { maps = all_pass (maps_own w) w.servers (maps (numbers 1 servers)); told = refl; known = all_pass (knows_own w) w.clients (known (numbers 1 clients)) }
  where
    w : World
    w = fresh_world k clients servers d b form

    maps : (ns : List ℕ) (y : ServerNode) → Has y (map (node_at_start k servers d b) ns) → maps_own w y ≡ true
    maps ns y i = let z = has_map (node_at_start k servers d b) ns y i in ap (maps_own w) z.2

    none : (ns : List ℕ) → list_all (knows_own_at w) (map cl.fresh_association ns) ≡ true
    none [] = refl
    none (n ∷ ns) = none ns

    known : (ns : List ℕ) (y : WorldClient) → Has y (map (fresh_site k servers) ns) → knows_own w y ≡ true
    known ns y i = let z = has_map (fresh_site k servers) ns y i in ap (knows_own w) z.2 ∙ none (numbers 1 servers)

fresh_writes : (k : Config) (clients servers d b form : ℕ) → WritesStand (fresh_world k clients servers d b form)
unfolding fresh_world cl.fresh_client
fresh_writes k clients servers d b form =
    record {
      commands = record { counts = refl; reads = λ j x y at i e z. absurd (none j x i); writes = λ j x y at tag bytes i e z. absurd (none j x i); done = λ j x y at tag bytes i e z f. absurd (none j x i) };
      latest_own = λ c site e r a i. latest c a (has_map cl.fresh_association (numbers 1 servers) a (subst (λ (s : WorldClient). Has a s.node.state.associations) (site_is k clients servers c.0 site e).0 i));
    }
  where
    none : (j : ℕ) (x : IssuedCommand) → numbered {A = IssuedCommand} [] j ≡ Some x → ⊥
    none zero x e = cc
    none (suc j) x e = cc

    latest : (c : ClientId) (a : Association) → (n : ℕ) × Has n (numbers 1 servers) × (a ≡ cl.fresh_association n) → LatestOwn c [] a
    latest c a z = λ ino p x q. absurd (no x (ap (λ (y : Association). pages.dirty_of y.store.pages ino p) (sym z.2) ∙ q))
      where
        no : (x : DirtyPage) → ◌≡◌ {A = Option DirtyPage} None (Some x) → ⊥
        no x e = cc

fresh_asks : (k : Config) (clients servers d b form : ℕ) → AskedHold [] (fresh_world k clients servers d b form)
unfolding fresh_world cl.fresh_client
fresh_asks k clients servers d b form = λ c site e. subst (AskedSo [] c) (sym (site_is k clients servers c.0 site e).0) (record { count = refl; keys = λ k i. absurd i })

pub fresh_stand : (k : Config) (clients servers d b form : ℕ) → Stand [] (traced (fresh_world k clients servers d b form))
fresh_stand k clients servers d b form =
    record {
      fates = fresh_fates k clients servers d b form;
      both = record { flush = fresh_flush k clients servers d b form; writes = fresh_writes k clients servers d b form };
      causes = fresh_causes k clients servers d b form;
      asks = fresh_asks k clients servers d b form;
      writes = fresh_match k clients servers d b form;
    }

kept_law : (P : Promise) → ((past : List Step) (x : Step) → Kept past x → P past x) → InEveryRun P
kept_law P f k clients servers d b form es head =
    kept_throughout P f es [] (traced (fresh_world k clients servers d b form)) (fresh_places k clients servers d b form) (fresh_stand k clients servers d b form) (places_law k clients servers d b form es head)

-- drops have a cause, in every run
pub causes_law : InEveryRun DropsHaveACause
causes_law = kept_law DropsHaveACause (λ past x k. k.causes)

-- hard is hard, in every run
pub hard_law : InEveryRun HardIsHard
hard_law = kept_law HardIsHard (λ past x k. k.hard)

-- open writes of present lives are listed, in every run
pub open_law : InEveryRun OpenAfter
open_law = kept_law OpenAfter (λ past x k. k.open_)

-- listed writes are open, in every run
pub listed_law : InEveryRun ListedAfter
listed_law = kept_law ListedAfter (λ past x k. k.listed)

-- so the lists and the world agree, in every run
pub agree_law : InEveryRun ListsAgreeAfter
agree_law = kept_law ListsAgreeAfter (λ past x k. k.agree)
