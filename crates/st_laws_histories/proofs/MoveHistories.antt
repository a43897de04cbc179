-- Every history of moves, with crashes and starts of servers, keeps what is promised.
use Rattle.st_lemmas.proofs.Words
use Words.{◌≡◌, ◌+◌, ℕ, Bool, true, false, List, [], ◌∷◌, ◌++◌, length, Option, Some, None, Ok, Err, refl, ap, ◌∙◌, subst, arith, if◌then◌else◌, nat_le}
use Words.{ServerId}
use Words.Numbers.{length_more, numbered_own}
use Words.World.{numbered}
use Rattle.st_move.specs.declared.record.ContainerRecord.{ContainerRecord}
use Rattle.st_move.specs.declared.record.ContainerState.{ContainerState}
use Rattle.st_move.specs.declared.record.ContainerState.TheVariants.{Holding, Leaving, Sent, Gone}
use Rattle.st_move.specs.declared.refusal.MoveRefusal.TheVariants as refusals
use Rattle.st_move.specs.declared.site.MoveSite.{MoveSite}
use Rattle.st_move.specs.declared.world.MoveAnswer.TheVariants.{Counted, Listed}
use Rattle.st_move.specs.declared.world.MoveEvent.{MoveEvent}
use Rattle.st_move.specs.declared.world.MoveEvent.TheVariants as events
use Rattle.st_move.specs.Calls.{count_at, count_found}
use Rattle.st_move.specs.Containers.{changeable, changed, containers_open, found_at, readable, unless_leaving, unless_sent, updated, updated_with, updates_of}
use Rattle.st_move.specs.Containers.{with_record, with_records, with_updates}
use Rattle.st_move.specs.Law.{MoveHistory, NoUpdateIsLost, OneHolder, fresh_history, noted, run_moves}
use Rattle.st_move.specs.Updates.{added, bytes_of, most_bytes}
use Rattle.st_move.specs.World.{MoveWorld, happens, list_at, list_told, move_world_open, put_at, put_told}
use Rattle.st_laws_histories.specs.MoveHistories.{Crashes, Event, EveryMoveIsKept, Moves, Running, Starts, after_event, fresh_running, is_down, place_of, run}
use Rattle.st_laws_histories.specs.MoveHistories.{unlocks}

-- A history with crashes is one without.

run_both : (h : MoveHistory) (xs ys : List MoveEvent) → run_moves h (xs ++ ys) ≡ run_moves (run_moves h xs) ys
run_both h [] ys = refl
run_both h (e ∷ xs) ys = run_both (noted h e (happens h.world e)) xs ys

record IsRun (servers containers : ℕ) (h : MoveHistory) : Type 0 where
  events : List MoveEvent
  is : run_moves (fresh_history servers containers) events ≡ h

more_events : (servers containers : ℕ) (h : MoveHistory) (es : List MoveEvent) → IsRun servers containers h → IsRun servers containers (run_moves h es)
more_events servers containers h es r =
    record { events = r.events ++ es; is = run_both (fresh_history servers containers) r.events es ∙ ap (λ (k : MoveHistory). run_moves k es) r.is }

moved : (servers containers : ℕ) (r : Running) (e : MoveEvent) → IsRun servers containers r.history → IsRun servers containers (after_event containers r (Moves e)).history
moved servers containers r e is = go (is_down r.down (place_of r.history.world e))
  where
    go : (b : Bool) → IsRun servers containers (if b then r else record r { history = noted r.history e (happens r.history.world e) }).history
    go true = is
    go false = more_events servers containers r.history (e ∷ []) is

one_event : (servers containers : ℕ) (r : Running) (e : Event) → IsRun servers containers r.history → IsRun servers containers (after_event containers r e).history
one_event servers containers r (Moves e) is = moved servers containers r e is
one_event servers containers r (Crashes s) is = more_events servers containers r.history (unlocks s containers) is
one_event servers containers r (Starts s) is = is

all_events : (servers containers : ℕ) (r : Running) (es : List Event) → IsRun servers containers r.history → IsRun servers containers (run containers r es).history
all_events servers containers r [] is = is
all_events servers containers r (e ∷ es) is = all_events servers containers (after_event containers r e) es (one_event servers containers r e is)

-- Numbers of updates.

module _ (w : MoveWorld) (s : ServerId) (x : MoveSite) (c n : ℕ) (u : List ℕ) (accepted : List (List ℕ)) where
  by_room : (r : ContainerRecord) (b : Bool) → numbered x.containers.records c ≡ Some (Some r) → r.updates ≡ accepted →
      (put_told w s x c (changed x.containers c (updated_with r (if b then Ok (r.updates ++ u ∷ []) else Err (refusals.Full (bytes_of r.updates + length u)))))).answers ≡ Counted n ∷ [] →
      n ≡ length accepted + 1
  unfolding move_world_open containers_open
  by_room r true there same told =
      let new : ContainerRecord = with_updates r (r.updates ++ u ∷ []) in
      let count : count_at c (with_records x.containers (with_record c new x.containers.records)) ≡ n = cc in
      let own : count_at c (with_records x.containers (with_record c new x.containers.records)) ≡ length (r.updates ++ u ∷ []) =
      ap count_found (numbered_own x.containers.records c (Some new) (Some r) there) in
      let more = length_more r.updates u in
      let sizes : length r.updates ≡ length accepted = ap length same in
      omega (arith, count, own, more, sizes)
  by_room r false there same told = absurd (cc)

  by_state : (r : ContainerRecord) (state : ContainerState) → numbered x.containers.records c ≡ Some (Some r) →
      ((us : List (List ℕ)) → (list_told w (updates_of (unless_sent r state))).answers ≡ Listed us ∷ [] → us ≡ accepted) →
      (put_told w s x c (changed x.containers c (updated u (unless_leaving r state)))).answers ≡ Counted n ∷ [] → n ≡ length accepted + 1
  unfolding move_world_open containers_open added
  by_state r Holding there lists told = by_room r (nat_le (bytes_of r.updates + length u) most_bytes) there (lists r.updates refl) told
  by_state r (Leaving to) there lists told = absurd (cc)
  by_state r (Sent to) there lists told = absurd (cc)
  by_state r (Gone to) there lists told = absurd (cc)

  by_record : (o : Option (Option ContainerRecord)) → numbered x.containers.records c ≡ o →
      ((us : List (List ℕ)) → (list_told w (updates_of (readable (found_at c o)))).answers ≡ Listed us ∷ [] → us ≡ accepted) →
      (put_told w s x c (changed x.containers c (updated u (changeable (found_at c o))))).answers ≡ Counted n ∷ [] → n ≡ length accepted + 1
  unfolding move_world_open containers_open
  by_record None there lists told = absurd (cc)
  by_record (Some None) there lists told = absurd (cc)
  by_record (Some (Some r)) there lists told = by_state r r.state there lists told

counted_at : (w : MoveWorld) (s : ServerId) (c n : ℕ) (u : List ℕ) (accepted : List (List ℕ)) (o : Option MoveSite) →
    ((us : List (List ℕ)) → (list_at w s c o).answers ≡ Listed us ∷ [] → us ≡ accepted) → (put_at w s c u o).answers ≡ Counted n ∷ [] → n ≡ length accepted + 1
unfolding move_world_open containers_open
counted_at w s c n u accepted None lists told = absurd (cc)
counted_at w s c n u accepted (Some x) lists told = by_record w s x c n u accepted (numbered x.containers.records c) refl lists told

counted : (w : MoveWorld) (s : ServerId) (c n : ℕ) (u : List ℕ) (accepted : List (List ℕ)) → ((us : List (List ℕ)) → (happens w (events.List s c)).answers ≡ Listed us ∷ [] → us ≡ accepted) →
    (happens w (events.Put s c u)).answers ≡ Counted n ∷ [] → n ≡ length accepted + 1
unfolding happens
counted w s c n u accepted lists told = counted_at w s c n u accepted (numbered w.sites s.0) lists told

pub every_move : NoUpdateIsLost → EveryMoveIsKept
every_move none_lost servers containers es some =
    let r = all_events servers containers (fresh_running servers containers) es (record { events = []; is = refl }) in
    let h : MoveHistory = (run containers (fresh_running servers containers) es).history in
    let held : OneHolder containers h = subst (OneHolder containers) r.is (none_lost servers containers r.events some) in
    record { held = held; counted = λ s c n u told. counted h.world s c n u (h.accepted c) (λ us listed. held.listed s c us listed) told }
