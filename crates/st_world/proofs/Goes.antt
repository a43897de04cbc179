-- A world to which a run leads, and one event more.
use Rattle.st_lemmas.proofs.Words
use Words.{◌≡◌, ℕ, ◌+◌, Bool, true, List, [], ◌∷◌, ◌++◌, length, refl, sym, ap, ◌∙◌, subst, Result, Ok, Err, Option, Some, None, list_all, and_parts, Config}
use Words.{Event, Observation, WorldRefusal}
use Words.Events.{WorldTurn, quiet, world_turn, world_step}
use Words.Run.{Run, RunsInParts, behind, go_on, run, run_on}
use Words.Safety.{IsHead, is_event}
use Words.World.{World, fresh_world}
use Rattle.st_world.specs.ReachedWorlds.{IsQuiet, IsReached}
use Rattle.st_world.proofs.Shaped.{clocks_are}

-- a run that led to a world, and was not refused, goes on with one event
goes_world : (r : Run) (x : Result WorldTurn WorldRefusal) (sc : WorldTurn) → x ≡ Ok sc → (behind r.seen (go_on (run []) r.world x)).world ≡ sc.world
unfolding go_on run
goes_world r (Ok s) sc h = let q : s ≡ sc = cc in ap (λ (y : WorldTurn). y.world) q
goes_world r (Err f) sc h = absurd (cc)

goes_stands : (r : Run) (x : Result WorldTurn WorldRefusal) (sc : WorldTurn) → x ≡ Ok sc → (behind r.seen (go_on (run []) r.world x)).refused ≡ None
unfolding go_on run
goes_stands r (Ok s) sc h = refl
goes_stands r (Err f) sc h = absurd (cc)

on_world : (e : Event) (r : Run) (o : Option WorldRefusal) (sc : WorldTurn) → o ≡ None → world_step r.world e ≡ Ok sc → (run_on (e ∷ []) r o).world ≡ sc.world
unfolding run run_on
on_world e r None sc q h = goes_world r (world_step r.world e) sc h
on_world e r (Some f) sc q h = absurd (cc)

on_stands : (e : Event) (r : Run) (o : Option WorldRefusal) (sc : WorldTurn) → o ≡ None → world_step r.world e ≡ Ok sc → (run_on (e ∷ []) r o).refused ≡ None
unfolding run run_on
on_stands e r None sc q h = goes_stands r (world_step r.world e) sc h
on_stands e r (Some f) sc q h = absurd (cc)

-- all events, and one more
pub all_more : (p : Event → Bool) (es : List Event) (e : Event) → list_all p es ≡ true → p e ≡ true → list_all p (es ++ e ∷ []) ≡ true
all_more p [] e h k = rw k refl
all_more p (x ∷ xs) e h k = let q = and_parts (p x) (list_all p xs) h in rw q.0 (all_more p xs e q.1 k)

-- the world of a head is reached by no events
pub reached_fresh : (k : Config) (clients servers disks blocks form : ℕ) → IsHead k clients servers disks blocks form → IsReached (fresh_world k clients servers disks blocks form)
unfolding run
reached_fresh k clients servers disks blocks form h =
    record { config = k; clients = clients; servers = servers; disks = disks; blocks = blocks; form = form; events = []; by = record { head = h; events = refl; world = refl; stands = refl } }

-- what an event leaves is reached
pub reached_step : RunsInParts → (w : World) (e : Event) (sc : WorldTurn) → IsReached w → is_event (length w.clocks) e ≡ true → world_step w e ≡ Ok sc → IsReached sc.world
reached_step in_parts w e sc r i h =
    let first = fresh_world r.config r.clients r.servers r.disks r.blocks r.form in
    let there : world_step (run r.events first).world e ≡ Ok sc = ap (λ (v : World). world_step v e) r.by.world ∙ h in
    let fit : is_event (r.clients + r.servers) e ≡ true = ap (λ n. is_event n e) (sym (clocks_are w r)) ∙ i in
    let parts = in_parts r.events (e ∷ []) first in
    record {
      config = r.config;
      clients = r.clients;
      servers = r.servers;
      disks = r.disks;
      blocks = r.blocks;
      form = r.form;
      events = r.events ++ e ∷ [];
      by = record {
        head = r.by.head;
        events = all_more (is_event (r.clients + r.servers)) r.events e r.by.events fit;
        world = ap (λ (x : Run). x.world) parts ∙ on_world e (run r.events first) (run r.events first).refused sc r.by.stands there;
        stands = ap (λ (x : Run). x.refused) parts ∙ on_stands e (run r.events first) (run r.events first).refused sc r.by.stands there;
      };
    }

-- the world of a head is quiet
pub quiet_fresh : (k : Config) (clients servers disks blocks form : ℕ) (m : WorldTurn) → IsHead k clients servers disks blocks form → m ≡ quiet (fresh_world k clients servers disks blocks form) → IsQuiet m
quiet_fresh k clients servers disks blocks form m h e =
    subst IsQuiet (sym e) (record { none = refl; reached = reached_fresh k clients servers disks blocks form h })

-- what an event leaves is quiet, if its observations are taken away
pub quiet_after : RunsInParts → (old new : WorldTurn) (e : Event) (seen : List Observation) → IsQuiet old → is_event (length old.world.clocks) e ≡ true → world_step old.world e ≡ Ok (world_turn new.world seen) → new.seen ≡ [] → IsQuiet new
quiet_after in_parts old new e seen q i h n = record { none = n; reached = reached_step in_parts old.world e (world_turn new.world seen) q.reached i h }
