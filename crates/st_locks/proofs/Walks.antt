-- A pass over the files that were touched is the pass over all that are waited for.
use Rattle.std.proofs.Common.{◌≡◌, ℕ, ◌<◌, Bool, true, false, cond, List, [], ◌∷◌, map, filter, length, refl, sym, ap, subst, ◌∙◌, true≢false}
use Rattle.std.specs.Prelude.{None, Option, Some, ◌==◌, ◌&&◌, ◌||◌}
use Rattle.std.specs.List.{AllByRecursion}
use Rattle.std.proofs.lemmas.Bool.{eqb-true, false_from_ne_true}
use Rattle.st_base.specs.declared.ids.ClientId.{ClientId}
use Rattle.st_base.specs.declared.ids.Stamp.{Stamp}
use Rattle.st_base.specs.declared.config.Config.{Config}
use Rattle.st_rules.specs.Keys.{rising}
use Rattle.st_rules.specs.Locks.{Locks, Demanding, Granting, demand_files, demand_for, demands_due, grant_file, grant_files, grantable, ino_of_wait, is_wait_on, next_grants, next_waiter, nothing_demanded, nothing_granted, waited_files, wish}
use Rattle.std.specs.Prelude.{find}
use Rattle.st_tables.proofs.RisingKeys.{IsRising, has, has_rising, one_rising, rising_rises}
use Rattle.st_base.specs.declared.ids.GrantNo.{GrantNo}
use Rattle.st_base.specs.declared.ids.Life.{Life}
use Rattle.st_base.specs.declared.mode.Mode.{Mode}
use Rattle.st_rules.specs.declared.locks.RowDemand.{RowDemand}
use Rattle.st_lock_tables.specs.Calls.{demanding}
use Rattle.st_lock_tables.specs.WaitedFiles.{is_one_of}
use Rattle.st_lock_tables.proofs.Rising.{and_turn, has_filter, rising_filter}
use Rattle.st_locks.specs.SettledFiles.{AreDemanded, AreTimed, NotesSuspects, IsQuiet, IsSettled, TouchedFiles, Moments, Times, Wakes, is_kept, is_marked, is_timed, walked}
use Rattle.st_locks.proofs.SettledFiles.{any_mapped, each_same, idle_grants, next_same, none_found, same_grant_file}
use Rattle.st_locks.proofs.Demanded.{AreIdle, all_demanded, idle_demands, is_idle, lowers_files, lowers_next, none_waits, same_for, settled_idle}

-- what two lists have in common, in rising order
common : (fs ws : List ℕ) → filter (λ k. has k fs) (rising ws) ≡ filter (λ k. has k ws) (rising fs)
common fs ws =
    one_rising (filter (λ k. has k fs) (rising ws)) (filter (λ k. has k ws) (rising fs))
    (rising_filter (λ k. has k fs) (rising ws) (rising_rises ws)) (rising_filter (λ k. has k ws) (rising fs) (rising_rises fs))
    (λ k.
    has_filter (λ k. has k fs) k (rising ws) ∙ ap (λ z. has k fs && z) (has_rising k ws)
    ∙ and_turn (has k fs) (has k ws)
    ∙ sym (has_filter (λ k. has k ws) k (rising fs) ∙ ap (λ z. has k ws && z) (has_rising k fs)))

-- Passes through fewer files.

apart : (t : ℕ → Bool) (x j : ℕ) → t x ≡ true → t j ≡ false → (x == j) ≡ false
apart t x j a b = false_from_ne_true (x == j) (λ s. true≢false (sym a ∙ ap t (eqb-true x j s) ∙ b))

grant_step : (t : ℕ → Bool) (x : ℕ) (xs : List ℕ) (p : Granting) (b : Bool) → ((q : Granting) → ((j : ℕ) → t j ≡ false → next_waiter q.locks j ≡ None) → grant_files xs q ≡ grant_files (filter t xs) q) → t x ≡ b
    → ((j : ℕ) → t j ≡ false → next_waiter p.locks j ≡ None) → grant_files xs (grant_file x (length p.locks.waiters) p) ≡ grant_files (cond b (x ∷ filter t xs) (filter t xs)) p
unfolding grant_files
grant_step t x xs p true rest e h =
    let q = grant_file x (length p.locks.waiters) p in
    rest q (λ j n. next_same j p.locks q.locks (same_grant_file x (length p.locks.waiters) p j (apart t x j e n)) ∙ h j n)
grant_step t x xs p false rest e h = ap (grant_files xs) (idle_grants x (length p.locks.waiters) p (h x e)) ∙ rest p h

-- a pass without the files that are settled
fewer_grants : (t : ℕ → Bool) (xs : List ℕ) (p : Granting) → ((j : ℕ) → t j ≡ false → next_waiter p.locks j ≡ None) → grant_files xs p ≡ grant_files (filter t xs) p
unfolding grant_files
fewer_grants t [] p h = refl
fewer_grants t (x ∷ xs) p h = grant_step t x xs p (t x) (fewer_grants t xs) refl h

not_waited : (l : Locks) (j : ℕ) → has j (map ino_of_wait l.waiters) ≡ false → find (is_wait_on j) l.waiters ≡ None
not_waited l j e = none_found (is_wait_on j) l.waiters (sym (any_mapped ino_of_wait j l.waiters) ∙ e)

walk_by : (l : Locks) (b : Bool) (fs : List ℕ) → ((j : ℕ) → b || has j fs ≡ false → next_waiter l j ≡ None) → grant_files (cond b (waited_files l) (rising fs)) (nothing_granted l) ≡ next_grants l
unfolding next_grants
walk_by l true fs h = refl
walk_by l false fs h =
    let ws = map ino_of_wait l.waiters in
    fewer_grants (λ k. has k ws) (rising fs) (nothing_granted l) (λ j e. ap (grantable l) (not_waited l j e))
    ∙ ap (λ xs. grant_files xs (nothing_granted l)) (sym (common fs ws))
    ∙ sym (fewer_grants (λ k. has k fs) (rising ws) (nothing_granted l) h)

-- the granting pass over the touched files is the whole pass
pub walk_grants : (l : Locks) (g d : TouchedFiles) (ms : Moments) (cs : List ClientId) → IsSettled l g d ms cs → grant_files (walked g (waited_files l)) (nothing_granted l) ≡ next_grants l
walk_grants l g d ms cs s = walk_by l g.all g.files s.granted

module _ (k : Config) (now : Stamp) (tick : Bool) (cs : List ClientId) (t : ℕ → Bool) where
  demand_step : (x : ℕ) (xs : List ℕ) (p : Demanding) (b : Bool) → ((q : Demanding) → ((j : ℕ) → t j ≡ false → AreIdle k now tick cs q.locks j) → demand_files k now tick cs xs q ≡ demand_files k now tick cs (filter t xs) q) → t x ≡ b
      → ((j : ℕ) → t j ≡ false → AreIdle k now tick cs p.locks j)
      → demand_files k now tick cs xs (demand_for k now tick cs (find (is_wait_on x) p.locks.waiters) p) ≡ demand_files k now tick cs (cond b (x ∷ filter t xs) (filter t xs)) p
  unfolding demand_files
  demand_step x xs p true rest e h =
      let q = demand_for k now tick cs (find (is_wait_on x) p.locks.waiters) p in
      rest q (λ j n. each_same (λ w o. is_idle k now tick (wish w.mode) o) j p.locks q.locks cs (same_for k now tick cs x j p (apart t x j e n)) (h j n))
  demand_step x xs p false rest e h = ap (demand_files k now tick cs xs) (idle_demands k now tick cs x p (h x e)) ∙ rest p h

  fewer_demands : (xs : List ℕ) (p : Demanding) → ((j : ℕ) → t j ≡ false → AreIdle k now tick cs p.locks j) → demand_files k now tick cs xs p ≡ demand_files k now tick cs (filter t xs) p
  unfolding demand_files
  fewer_demands [] p h = refl
  fewer_demands (x ∷ xs) p h = demand_step x xs p (t x) (fewer_demands xs) refl h

module _ (k : Config) (now : Stamp) (tick : Bool) (cs : List ClientId) (l : Locks) where
  demands_by : (b : Bool) (fs : List ℕ) → ((j : ℕ) → b || has j fs ≡ false → AreIdle k now tick cs l j) → demand_files k now tick cs (cond b (waited_files l) (rising fs)) (nothing_demanded l) ≡ demands_due l now tick cs k
  unfolding demands_due
  demands_by true fs h = refl
  demands_by false fs h =
      let ws = map ino_of_wait l.waiters in
      fewer_demands k now tick cs (λ j. has j ws) (rising fs) (nothing_demanded l) (λ j e. none_waits l cs j (λ w o. is_idle k now tick (wish w.mode) o) (not_waited l j e))
      ∙ ap (λ xs. demand_files k now tick cs xs (nothing_demanded l)) (sym (common fs ws))
      ∙ sym (fewer_demands k now tick cs (λ j. has j fs) (rising ws) (nothing_demanded l) h)

  -- the demanding pass over the touched files is the whole pass
  pub walk_demands : (g d : TouchedFiles) (ms : Moments) → IsSettled l g d ms cs → IsQuiet k now tick ms → demand_files k now tick cs (walked d (waited_files l)) (nothing_demanded l) ≡ demands_due l now tick cs k
  walk_demands g d ms s q = demands_by d.all d.files (λ j e. settled_idle k now tick cs ms l j q (s.demanded j e) (s.timed j e))

  -- a file that is not walked is not marked, or nobody waits for it
  timed_by : (d : TouchedFiles) (ms : Moments) (j : ℕ) (b : Bool) → d.all ≡ b → ((j : ℕ) → is_marked d j ≡ false → AreTimed ms l cs j) → has j (cond b (waited_files l) (rising d.files)) ≡ false → AreTimed ms l cs j
  timed_by d ms j true q h e = none_waits l cs j (λ w o. is_timed ms j o) (not_waited l j (sym (has_rising j (map ino_of_wait l.waiters)) ∙ e))
  timed_by d ms j false q h e = h j (ap (λ b. b || has j d.files) q ∙ sym (has_rising j d.files) ∙ e)

  -- what the demanding pass over the touched files leaves
  pub walk_settles : (g d e : TouchedFiles) (was ms : Moments) (m : Locks) (due : List (ClientId × Life × ℕ × GrantNo × Mode)) → IsSettled l g d was cs → IsQuiet k now tick was
      → demanding m due ≡ demand_files k now tick cs (walked d (waited_files l)) (nothing_demanded l)
      → Times cs (λ j. has j (walked d (waited_files l))) l was m ms → IsSettled m g e ms cs
  walk_settles g d e was ms m due s q w t = record {
    granted = λ j n. ap (λ (x : Locks). next_waiter x j) (ap (λ p. p.locks) w) ∙ lowers_next l (demand_files k now tick cs (walked d (waited_files l)) (nothing_demanded l)).locks j (lowers_files k now tick cs (walked d (waited_files l)) (nothing_demanded l)) ∙ s.granted j n;
    demanded = λ j n. subst (λ (x : Locks). AreDemanded x cs j) (sym (ap (λ p. p.locks) (w ∙ walk_demands g d was s q))) (all_demanded k now tick cs l j);
    timed = λ j n. t j (timed_by d was j d.all refl s.timed);
  }

-- A whole pass, as it is run.

module _ (k : Config) (now : Stamp) (tick : Bool) (besides cs : List ClientId) (l : Locks) (g d : TouchedFiles) (was ms : Moments) (m : Locks) (due start : List (ClientId × Life × ℕ × GrantNo × Mode)) (files : List ℕ)
    (s : IsSettled l g d was besides) (noted : besides ≡ cs) (q : IsQuiet k now tick was) (f : files ≡ walked d (waited_files l)) (none : start ≡ []) (w : demanding m due ≡ demand_files k now tick cs files (demanding l start)) where
  received_settled : IsSettled l g d was cs
  received_settled = subst (λ xs. IsSettled l g d was xs) noted s

  walked_so : demanding m due ≡ demand_files k now tick cs (walked d (waited_files l)) (nothing_demanded l)
  walked_so = w ∙ (λ i. demand_files k now tick cs (f i) (demanding l (none i)))

  pub pass_settles : (e : TouchedFiles) → Times cs (is_one_of files) l was m ms → IsSettled m g e ms besides
  pass_settles e t =
      subst (λ xs. IsSettled m g e ms xs) (sym noted)
      (walk_settles k now tick cs l g d e was ms m due received_settled q walked_so (subst (λ xs. Times cs (is_one_of xs) l was m ms) f t))

  pub pass_is_whole : demands_due l now tick cs k ≡ demanding m due
  pass_is_whole = sym (walked_so ∙ walk_demands k now tick cs l g d was received_settled q)

-- Before the pass.

-- files that are no longer marked keep what holds of them
pub settled_noted : (l : Locks) (g d e : TouchedFiles) (ms : Moments) (was cs : List ClientId) → IsSettled l g d ms was → NotesSuspects d was e cs → IsSettled l g e ms cs
settled_noted l g d e ms was cs s h = record {
  granted = s.granted;
  demanded = λ j n. subst (λ xs. AreDemanded l xs j) (sym (h j n).1) (s.demanded j (h j n).0);
  timed = λ j n. subst (λ xs. AreTimed ms l xs j) (sym (h j n).1) (s.timed j (h j n).0);
}

timed_still : (was ms : Moments) (j : ℕ) (o : Option RowDemand) → ((s : Stamp) → is_kept was j s ≡ true → is_kept ms j s ≡ true) → is_timed was j o ≡ true → is_timed ms j o ≡ true
timed_still was ms j None h e = refl
timed_still was ms j (Some d) h e = h d.sent e

pub settled_woken : (l : Locks) (g d e : TouchedFiles) (was ms : Moments) (cs : List ClientId) → IsSettled l g d was cs → Wakes d was e ms → IsSettled l g e ms cs
settled_woken l g d e was ms cs s h = record {
  granted = s.granted;
  demanded = λ j n. s.demanded j (h j n).0;
  timed = λ j n w f c t r q. timed_still was ms j r.demand (h j n).1 (s.timed j (h j n).0 w f c t r q);
}
