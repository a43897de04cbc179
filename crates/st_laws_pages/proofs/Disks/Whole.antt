-- The laws of the pages at the start, and over whole runs.
use Rattle.st_lemmas.proofs.Words
use Words.{◌≡◌, ℕ, ◌+◌, ◌≤◌, ◌<◌, Bool, true, false, inl, inr, subst, List, [], ◌∷◌, ◌++◌, Option, Some, None, Ok, Err, refl, sym, ap, ◌∙◌, arith, Result, map}
use Words.{suc, zero, pred, slice_get, option_map, Config, ServerId, FileId, PageNo, Event, Extent, WorldRefusal, IssuedCommand, ClientId}
use Words.Extents.{numbers}
use Words.Server as server
use Words.Server.{ServerNode}
use Words.World.{World, WorldClient, numbered, fresh_world, node_at_start, fresh_site, fresh_clocks, client_clock, server_clock}
use Words.Events as ev
use Words.Events.{WorldTurn}
use Words.History.{Traced, traced, traced_after}
use Words.Safety as safety
use Words.Safety.{Step, step, steps, Throughout, TheReportTellsTheLog}
use Words.Lookups.{some_is}
use Words.Numbers.{get_map}
use Words.Lists.{Has}
use Words.Client as cl
use Words.ClientState.{Association}
use Words.Lengths.{get_longer, length_map, numbers_length}
use Rattle.st_laws_pages.specs.Disks.World.{PagesHold, mapped_at, mapped_in, block_in}
use Rattle.st_laws_pages.specs.Disks.Runs.{FatesAfter, RunsKeepFates}
use Rattle.st_laws_pages.specs.Disks.Obligations.{FatesHold}
use Rattle.st_laws_steps.specs.Client.Losses.{Fit}
use Rattle.st_laws_steps.specs.Lives.Lives.{Once, server_number, NodeHolds, LivesHold}
use Rattle.st_laws_pages.proofs.Lives.Turning.{fresh_fit}
use Rattle.st_lemmas.proofs.Steps.{throughout, throughout_all}
use Rattle.st_laws_pages.proofs.Disks.Steps as pages
use Rattle.st_laws_pages.specs.Disks.ToldLog.{RunsTellTheLog}
use Rattle.st_laws_pages.specs.LockedCuts.CutLocks.{TableHolds, WaitsHold, ReassertionsOwed, CutsAreLocked, RunsLockCuts}
use Rattle.st_laws_pages.proofs.LockedCuts.CutLaw.{steps_lock_cuts as cut_law}
use Rattle.st_laws_pages.proofs.Disks.Told.{step_told}
use Rattle.st_laws_pages.proofs.Lives.Fresh.{numbers_get}

-- a node of the start is the fresh one of its number
fresh_is : (k : Config) (servers d b : ℕ) (s : ServerId) (n : ServerNode) → numbered (map (node_at_start k servers d b) (numbers 1 servers)) s.0 ≡ Some n → n ≡ node_at_start k servers d b s.0
fresh_is k servers d b s n e = go s.0 e
  where
    go : (j : ℕ) → numbered (map (node_at_start k servers d b) (numbers 1 servers)) j ≡ Some n → n ≡ node_at_start k servers d b j
    go zero e = cc
    go (suc i) e = at (slice_get (numbers 1 servers) i) refl (sym (get_map (node_at_start k servers d b) (numbers 1 servers) i) ∙ e)
      where
        at : (o : Option ℕ) → slice_get (numbers 1 servers) i ≡ o → option_map (node_at_start k servers d b) o ≡ Some n → n ≡ node_at_start k servers d b (suc i)
        at None q e = cc
        at (Some m) q e = sym (some_is e) ∙ ap (node_at_start k servers d b) (numbers_get 1 servers i m q ∙ (let z : 1 + i ≡ suc i = omega arith in z))

fresh_mapped : (k : Config) (clients servers d b form : ℕ) (f : FileId) (p : PageNo) → mapped_in (fresh_world k clients servers d b form) f p ≡ None
unfolding fresh_world server.fresh_server
fresh_mapped k clients servers d b form f p = go (numbered (map (node_at_start k servers d b) (numbers 1 servers)) f.server.0) refl
  where
    go : (o : Option ServerNode) → numbered (map (node_at_start k servers d b) (numbers 1 servers)) f.server.0 ≡ o → mapped_at f p o ≡ None
    go None e = refl
    go (Some n) e = ap (λ (x : ServerNode). mapped_at f p (Some x)) (fresh_is k servers d b f.server n e)

pub fresh_holds : (k : Config) (clients servers d b form : ℕ) → PagesHold (fresh_world k clients servers d b form)
unfolding fresh_world server.fresh_server
fresh_holds k clients servers d b form =
    record {
      pages =
          record {
            stands = λ f p. ap (Rattle.st_laws_pages.specs.Disks.Pages.standing f p (block_in w)) (fresh_mapped k clients servers d b form f p);
            carry = λ j x at tag bytes l. absurd (none j x l.issued);
            one = λ i j x y a c s t bs ct l r e. absurd (none i x l.issued);
            apart = λ f g p q x y e u z. absurd (no x (sym (fresh_mapped k clients servers d b form f p) ∙ e));
            below = λ f p x e. absurd (no x (sym (fresh_mapped k clients servers d b form f p) ∙ e));
            tags = λ at. omega arith;
            cuts = record {};
          };
      commands = record { counts = refl; reads = λ j x y at i e z. absurd (none j x i); done = λ j x y at tag bytes i e z f. absurd (none j x i) };
      extents =
          record {
            settings = λ s n e. let z = fresh_is k servers d b s n e in
                (ap (λ (x : ServerNode). x.state.stable.extents.server) z, ap (λ (x : ServerNode). x.state.stable.extents.servers) z ∙ sym (length_map (node_at_start k servers d b) (numbers 1 servers) ∙ numbers_length 1 servers));
            ids = λ s n e. ap (λ (x : ServerNode). x.state.id) (fresh_is k servers d b s n e);
            lies = λ f p x e. absurd (no x (sym (fresh_mapped k clients servers d b form f p) ∙ e));
          };
    }
  where
    w : World
    w = fresh_world k clients servers d b form

    none : (j : ℕ) (x : IssuedCommand) → numbered {A = IssuedCommand} [] j ≡ Some x → ⊥
    none zero x e = cc
    none (suc j) x e = cc

    no : (x : Extent) → ◌≡◌ {A = Option Extent} None (Some x) → ⊥
    no x e = cc

-- The lives at the start.
numbers_once : (a c : ℕ) → Once (numbers a c)
unfolding numbers
numbers_once a zero = tt
numbers_once a (suc c) = record { first = λ m i e. high (a + 1) c m i (let z : m < a + 1 = omega (arith, e) in z); rest = numbers_once (a + 1) c }
  where
    high : (b d m : ℕ) → Has m (numbers b d) → m < b → ⊥
    high b zero m i z = absurd i
    high b (suc d) m (inl e) z = absurd (omega (arith, e, z))
    high b (suc d) m (inr i) z = high (b + 1) d m i (omega (arith, z))

server_numbers : (ns : List ℕ) → map server_number (map cl.fresh_association ns) ≡ ns
server_numbers [] = refl
server_numbers (n ∷ ns) = ap (λ z. n ∷ z) (server_numbers ns)

pub site_is : (k : Config) (clients servers : ℕ) (j : ℕ) (s : WorldClient) → numbered (map (fresh_site k servers) (numbers 1 clients)) j ≡ Some s →
    (s ≡ fresh_site k servers j) × (slice_get (numbers 1 clients) (pred j) ≡ Some j)
site_is k clients servers zero s e = cc
site_is k clients servers (suc i) s e = at (slice_get (numbers 1 clients) i) refl (sym (get_map (fresh_site k servers) (numbers 1 clients) i) ∙ e)
  where
    at : (o : Option ℕ) → slice_get (numbers 1 clients) i ≡ o → option_map (fresh_site k servers) o ≡ Some s → (s ≡ fresh_site k servers (suc i)) × (slice_get (numbers 1 clients) i ≡ Some (suc i))
    at None q e = cc
    at (Some m) q e = let z : m ≡ suc i = numbers_get 1 clients i m q ∙ (let z : 1 + i ≡ suc i = omega arith in z) in (sym (some_is e) ∙ ap (fresh_site k servers) z, q ∙ ap (λ n. Some n) z)

clock_there : (clients servers : ℕ) (j : ℕ) → slice_get (numbers 1 clients) (pred j) ≡ Some j → (m : ℕ) → j ≡ suc m → numbered (fresh_clocks clients servers) j ≡ Some (client_clock j)
clock_there clients servers zero q m e = cc
clock_there clients servers (suc i) q m e = get_longer (map client_clock (numbers 1 clients)) (map server_clock (numbers 1 servers)) i (client_clock (suc i)) (get_map client_clock (numbers 1 clients) i ∙ ap (option_map client_clock) q)

pub fresh_lives : (k : Config) (clients servers d b form : ℕ) → LivesHold (fresh_world k clients servers d b form)
unfolding fresh_world cl.fresh_client
fresh_lives k clients servers d b form =
    record { lives = record { sites = λ c site e. go c.0 site e c refl; ends = λ e i. absurd i }; known = record { commands = λ x i. absurd i; owners = λ o i. absurd i } }
  where
    fit : (ns : List ℕ) (a : Association) → Has a (map cl.fresh_association ns) → Fit a
    fit [] a i = absurd i
    fit (n ∷ ns) a (inl e) = subst Fit (sym e) (fresh_fit (record { 0 = 1 }) (record { 0 = n }))
    fit (n ∷ ns) a (inr i) = fit ns a i

    born : (ns : List ℕ) (a : Association) → Has a (map cl.fresh_association ns) → 1 ≤ a.life.0
    born [] a i = absurd i
    born (n ∷ ns) a (inl e) = let z = ap (λ (x : Association). x.life.0) e in omega (arith, z)
    born (n ∷ ns) a (inr i) = born ns a i

    no : ◌≡◌ {A = Bool} true false → ⊥
    no e = cc

    fresh_one : (j m : ℕ) → j ≡ suc m → slice_get (numbers 1 clients) (pred j) ≡ Some j → NodeHolds k (fresh_clocks clients servers) [] (record { 0 = j }) (fresh_site k servers j).node
    fresh_one j m e q =
        record {
          id = refl;
          config = refl;
          once = subst Once (sym (server_numbers (numbers 1 servers))) (numbers_once 1 servers);
          fit = fit (numbers 1 servers);
          stopped = λ r a i. absurd (no r);
          born = born (numbers 1 servers);
          clock = client_clock j;
          ticks = clock_there clients servers j q m e;
          below = λ x i z a f. absurd i;
        }

    go : (j : ℕ) (site : WorldClient) → numbered (map (fresh_site k servers) (numbers 1 clients)) j ≡ Some site → (c : ClientId) → c.0 ≡ j → NodeHolds k (fresh_clocks clients servers) [] c site.node
    go zero site e c n = cc
    go (suc i) site e c n =
        let z = site_is k clients servers (suc i) site e in
        subst (λ (d : ClientId). NodeHolds k (fresh_clocks clients servers) [] d site.node) (ap (λ m. record { 0 = m }) (sym n))
        (subst (λ (s : WorldClient). NodeHolds k (fresh_clocks clients servers) [] (record { 0 = suc i }) s.node) (sym z.0) (fresh_one (suc i) i refl z.1))

pub fresh_fates : (k : Config) (clients servers d b form : ℕ) → FatesHold (fresh_world k clients servers d b form)
unfolding fresh_world
fresh_fates k clients servers d b form = record { lives = fresh_lives k clients servers d b form; pending = record {}; gone = record {} }

-- Over whole runs.
fates_throughout : (es : List Event) (past : List Step) (t : Traced) → FatesHold t.world → Throughout FatesAfter past (steps es t)
fates_throughout = throughout FatesAfter (λ past t. FatesHold t.world) (λ past t e sc h q. let z = pages.fates_law t.world e sc q h in (z, z))

pub fates_law : RunsKeepFates
fates_law k clients servers d b form es = fates_throughout es [] (traced (fresh_world k clients servers d b form)) (fresh_fates k clients servers d b form)

pub told_law : RunsTellTheLog
told_law k clients servers d b form es = throughout_all TheReportTellsTheLog step_told es [] (traced (fresh_world k clients servers d b form))

-- Cuts are locked, over whole runs.
pub fresh_waits : (k : Config) (clients servers d b form : ℕ) → WaitsHold (fresh_world k clients servers d b form)
unfolding fresh_world server.fresh_server
fresh_waits k clients servers d b form = λ s n e. subst (TableHolds s) (sym (fresh_is k servers d b s n e)) (record { id = refl; waits = λ w i. absurd i })

cuts_throughout : (es : List Event) (past : List Step) (t : Traced) → WaitsHold t.world → Throughout ReassertionsOwed past (steps es t) → Throughout CutsAreLocked past (steps es t)
unfolding steps safety.steps_on Throughout
cuts_throughout [] past t h o = tt
cuts_throughout (e ∷ es) past t h o = go (ev.world_step t.world e) refl o (λ past t. cuts_throughout es past t)
  where
    go : (r : Result WorldTurn WorldRefusal) → ev.world_step t.world e ≡ r → Throughout ReassertionsOwed past (safety.steps_on (steps es) t e r) →
        ((past : List Step) (t : Traced) → WaitsHold t.world → Throughout ReassertionsOwed past (steps es t) → Throughout CutsAreLocked past (steps es t)) →
        Throughout CutsAreLocked past (safety.steps_on (steps es) t e r)
    go (Err r) q o f = tt
    go (Ok sc) q o f = let z = cut_law t.world e sc q o.0 h in (z.locked, f (past ++ step t e sc ∷ []) (traced_after e t sc) z.holds o.1)

pub cuts_law : RunsLockCuts
cuts_law k clients servers d b form es o = cuts_throughout es [] (traced (fresh_world k clients servers d b form)) (fresh_waits k clients servers d b form) o
