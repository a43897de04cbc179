-- In every run no orphaned ask has a result: an ask that took effect isn't orphaned, and one that is orphaned no longer is once it takes effect.
use Rattle.st_lemmas.proofs.Words
use Words.{◌≡◌, ◌⊎◌, ℕ, zero, suc, Bool, true, false, not, ◌&&◌, ◌||◌, ◌==◌, List, [], ◌∷◌, ◌++◌, length, Option, Some, None, refl, sym, subst, inl, inr, if◌then◌else◌}
use Words.{filter, find, is_some, option_and_then, option_map, AppAnswer, Ask, ClientId, Config, FileId, PageNo, ServerId}
use Words.answers
use Words.asks
use Words.History.{Traced, traced}
use Words.Lists.{Has}
use Words.Safety.{Step, step, steps}
use Words.Tables.{and_true, has_append, has_filter}
use Words.World.{fresh_world}
use Rattle.st_lemmas.proofs.Steps.{throughout_all}
use Rattle.st_laws_volume.specs.Logs.{InEveryRun}
use Rattle.st_laws_volume.specs.Options.{OnSome}
use Rattle.st_laws_volume.specs.Results.{OrphansHaveNone, OrphansHaveNoResult}
use Rattle.st_laws_volume.specs.Witness.{Witness, begun, if_told, led_by, steps_of, volume_after}
use Rattle.st_laws_volume.proofs.Carried.{IsKept, Led, carried}
use Rattle.st_laws_volume.proofs.Options.{on_all, on_else, on_if, on_map, on_more, on_then}
use Rattle.st_laws_volume.proofs.ReadPages.{throughout_more}
use Rattle.st_laws_volume.proofs.Trees.{Nothing}
use Rattle.st_volume.specs.declared.step.VolumeStep.{VolumeStep}
use Rattle.st_volume.specs.declared.step.VolumeStep.TheVariants as kinds
use Rattle.st_volume.specs.declared.step.Fate.{Fate}
use Rattle.st_volume.specs.declared.step.Fate.TheVariants as fates
use Rattle.st_volume.specs.Pages.{Entry, is_cause}
use Rattle.st_volume.specs.Trees.{Made}
use Rattle.st_volume.specs.Volume as volume
use Rattle.st_volume.specs.Volume.{Pending, Volume, acts, after_answer, answered, answers_so, closed, cuts, cuts_removed, done, effect, entry, epoch, is_ask, is_cut_or_name, made, notice, open_of, orphaned, run, takes, with_entry, with_tree}

-- An effect leaves the orphaned asks.
abbrev Same : Volume → Volume → Type 0
Same v u = u.orphans ≡ v.orphans

entry_same : (v : Volume) (f : FileId) (e : Entry) → OnSome (Same v) (with_entry v f e)
entry_same v f e = on_if (Same v) _ (Some (record v { log = v.log ++ e ∷ [] })) refl

cut_same : (v : Volume) (c : ClientId) (f : FileId) (p : PageNo) → OnSome (Same v) (cuts v c f p)
cut_same v c f p =
    on_if (Same v) _ (Some (record v { claims = volume.freed v (asks.Cut f p); log = v.log ++ entry c (asks.Cut f p) fates.Hard ∷ [] })) refl

removal_same : (v : Volume) (c : ClientId) (s : ServerId) (removed : Option ℕ) → OnSome (Same v) (cuts_removed v c s removed)
removal_same v c s None = refl
removal_same v c s (Some ino) = cut_same v c (record { server = s; ino = ino }) (record { 0 = 0 })

abbrev SameIn : Volume → Volume × AppAnswer → Type 0
SameIn v r = Same v r.0

with_answer : (v : Volume) (answer : AppAnswer) (o : Option Volume) → OnSome (Same v) o → OnSome (SameIn v) (option_map (λ w. (w, answer)) o)
with_answer v answer o h = on_map (SameIn v) (λ w. (w, answer)) o h

made_same : (v : Volume) (c : ClientId) (s : ServerId) (m : Made) → OnSome (SameIn v) (made v c s m)
made_same v c s (t, (answer, removed)) =
    with_answer v answer _
    (on_map (Same v) (with_tree s t) (cuts_removed v c s removed)
    (on_more (Same v) (λ w. Same v (with_tree s t w)) (λ w k. k) (cuts_removed v c s removed) (removal_same v c s removed)))

effect_same : (v : Volume) (c : ClientId) (ask : Ask) → OnSome (SameIn v) (effect v c ask)
effect_same v c (asks.Write f p bytes) = with_answer v answers.Written _ (entry_same v f (entry c (asks.Write f p bytes) fates.Open))
effect_same v c (asks.Patch f p at bytes) = with_answer v answers.Written _ (entry_same v f (entry c (asks.Patch f p at bytes) fates.Open))
effect_same v c (asks.Read f p) = tt
effect_same v c (asks.Sync f) = tt
effect_same v c (asks.Cut f p) = with_answer v answers.Cut _ (cut_same v c f p)
effect_same v c (asks.Name s ask) = on_then (SameIn v) (made v c s) _ (on_all _ (λ m. made_same v c s m) _)

-- Each step keeps it.
takes_none : (v : Volume) → OrphansHaveNone v → (a : Pending) → OnSome (λ u. OrphansHaveNone (notice u)) (takes v a)
takes_none v h a =
    on_else (λ u. OrphansHaveNone (notice u)) _ _
    (on_map (λ u. OrphansHaveNone (notice u)) (done a) (effect v a.client a.ask)
    (on_more (SameIn v) (λ r. OrphansHaveNone (notice (done a r))) left (effect v a.client a.ask) (effect_same v a.client a.ask)))
  where
    left : (r : Volume × AppAnswer) → SameIn v r → OrphansHaveNone (notice (done a r))
    left (w, answer) e b i = h b (subst (Has b) e (has_filter _ w.orphans b i).0)

none_of : (a : Pending) → not (is_some a.result) ≡ true → a.result ≡ None
none_of a = go a.result
  where
    go : (o : Option AppAnswer) → not (is_some o) ≡ true → o ≡ None
    go None q = refl
    go (Some x) q = cc q

orphaned_none : (v : Volume) (a : Pending) (old : ℕ) (b : Pending) → Has b (orphaned v a old) → b.result ≡ None
orphaned_none v a old b = go a.result refl (not (old == epoch v (volume.server_of a.ask)))
  where
    go : (o : Option AppAnswer) → a.result ≡ o → (k : Bool) → Has b (if is_some o || k then [] else a ∷ []) → b.result ≡ None
    go (Some x) e k i = absurd i
    go None e true i = absurd i
    go None e false (inl q) = subst (λ (y : Pending). y.result ≡ None) (sym q) e
    go None e false (inr i) = absurd i

after_none : (v : Volume) → OrphansHaveNone v → (a : Pending) (answer : AppAnswer) → OrphansHaveNone (closed a (after_answer v a answer))
after_none v h a (answers.Read bytes) = λ b i. h b (has_filter _ v.orphans b i).0
after_none v h a (answers.Uncertain old zero) = λ b i. go b (has_append v.orphans (orphaned v a old) b i)
  where
    go : (b : Pending) → Has b v.orphans ⊎ Has b (orphaned v a old) → b.result ≡ None
    go b (inl i) = h b i
    go b (inr i) = orphaned_none v a old b i
after_none v h a (answers.Uncertain old (suc new)) = h
after_none v h a answer = h

crash_none : (v : Volume) (c : ClientId) → OrphansHaveNone v → OrphansHaveNone (volume.crashed v c)
crash_none v c h b i = go (has_append v.orphans _ b i)
  where
    go : Has b v.orphans ⊎ Has b (filter (λ (a : Pending). is_cut_or_name a.ask && not (is_some a.result)) (open_of v c)) → b.result ≡ None
    go (inl j) = h b j
    go (inr j) =
        none_of b
        (and_true (is_cut_or_name b.ask) (not (is_some b.result))
        (has_filter (λ (a : Pending). is_cut_or_name a.ask && not (is_some a.result)) (open_of v c) b j).1).1

fate_none : (v : Volume) (i : ℕ) (test : Entry → Bool) (fate : Fate) → OrphansHaveNone v → OnSome OrphansHaveNone (volume.with_fate v i test fate)
fate_none v i test fate h = on_map OrphansHaveNone (volume.with_changed v i) _ (on_all _ (λ e. h) _)

acts_none : (v : Volume) (it : VolumeStep) → OrphansHaveNone v → OnSome OrphansHaveNone (acts v it)
acts_none v (kinds.Asked c ask) h = on_if OrphansHaveNone _ (Some (notice (volume.arrived v c ask))) h
acts_none v (kinds.TakesEffect c op) h =
    on_map OrphansHaveNone notice (option_and_then (takes v) (find (is_ask c op) (v.pending ++ v.orphans)))
    (on_then (λ u. OrphansHaveNone (notice u)) (takes v) _ (on_all _ (λ a. takes_none v h a) _))
acts_none v (kinds.Answered c op answer) h =
    on_then OrphansHaveNone (answered v answer) (find (is_ask c op) v.pending)
    (on_all _ (λ a. on_if OrphansHaveNone (answers_so v a answer a.result) (Some (closed a (after_answer v a answer))) (after_none v h a answer)) _)
acts_none v (kinds.Hardened i) h = fate_none v i (λ e. true) fates.Hard h
acts_none v (kinds.Dropped i cause) h = fate_none v i (is_cause cause) fates.Dropped h
acts_none v (kinds.Crashed c) h = crash_none v c h
acts_none v (kinds.Restarted s) h = λ b i. h b (has_filter _ v.orphans b i).0
acts_none v (kinds.WriteFailed c number i) h = on_map OrphansHaveNone (volume.failed v c number i) _ (on_all _ (λ x. h) _)
acts_none v (kinds.ReadFailed c s number) h = h
acts_none v (kinds.Joined i c what) h = tt

step_none : (v : Volume) (it : VolumeStep) → OrphansHaveNone v → OnSome OrphansHaveNone (volume.step v it)
step_none v (kinds.Joined i c what) h = on_if OrphansHaveNone _ (Some (record v { lines = i })) h
step_none v (kinds.Asked c ask) h = on_if OrphansHaveNone (v.lines == length v.log) _ (acts_none v (kinds.Asked c ask) h)
step_none v (kinds.TakesEffect c op) h = on_if OrphansHaveNone (v.lines == length v.log) _ (acts_none v (kinds.TakesEffect c op) h)
step_none v (kinds.Answered c op answer) h = on_if OrphansHaveNone (v.lines == length v.log) _ (acts_none v (kinds.Answered c op answer) h)
step_none v (kinds.Hardened i) h = on_if OrphansHaveNone (v.lines == length v.log) _ (acts_none v (kinds.Hardened i) h)
step_none v (kinds.Dropped i cause) h = on_if OrphansHaveNone (v.lines == length v.log) _ (acts_none v (kinds.Dropped i cause) h)
step_none v (kinds.Crashed c) h = on_if OrphansHaveNone (v.lines == length v.log) _ (acts_none v (kinds.Crashed c) h)
step_none v (kinds.Restarted s) h = on_if OrphansHaveNone (v.lines == length v.log) _ (acts_none v (kinds.Restarted s) h)
step_none v (kinds.WriteFailed c number i) h = on_if OrphansHaveNone (v.lines == length v.log) _ (acts_none v (kinds.WriteFailed c number i) h)
step_none v (kinds.ReadFailed c s number) h = on_if OrphansHaveNone (v.lines == length v.log) _ (acts_none v (kinds.ReadFailed c s number) h)

run_none : (its : List VolumeStep) (v : Volume) → OrphansHaveNone v → OnSome OrphansHaveNone (run its v)
unfolding run
run_none [] v h = h
run_none (it ∷ its) v h =
    on_then OrphansHaveNone (run its) (volume.step v it)
    (on_more OrphansHaveNone (λ u. OnSome OrphansHaveNone (run its u)) (λ u k. run_none its u k) (volume.step v it) (step_none v it h))

-- In every run.
event_none : (t : Witness) (x : Step) (o : Option Volume) → OnSome OrphansHaveNone o → OnSome OrphansHaveNone (volume_after t x o)
event_none t x None h = tt
event_none t x (Some v) h =
    on_then OrphansHaveNone if_told (run (steps_of t v x) v)
    (on_more OrphansHaveNone (λ u. OnSome OrphansHaveNone (if_told u)) (λ u k. on_if OrphansHaveNone (u.lines == length u.log) (Some u) k)
    (run (steps_of t v x) v) (run_none (steps_of t v x) v h))

abbrev pub OrphansHold : List Step → Traced → Witness → Type 0
OrphansHold past t it = OnSome OrphansHaveNone it.volume

pub orphans_kept : IsKept Nothing OrphansHold
unfolding led_by
orphans_kept past t e sc it f g h = event_none it (step t e sc) it.volume h

pub orphans_begin : (k : Config) (clients servers disks blocks form : ℕ) →
    OrphansHold [] (traced (fresh_world k clients servers disks blocks form))
    (begun (fresh_world k clients servers disks blocks form) (fresh_world k clients servers disks blocks form))
unfolding begun
orphans_begin k clients servers disks blocks form = λ a i. absurd i

pub orphans_have_no_result : InEveryRun OrphansHaveNoResult
orphans_have_no_result k clients servers disks blocks form es head events =
    throughout_more (Led OrphansHold) OrphansHaveNoResult (λ past x h. h) [] (steps es (traced (fresh_world k clients servers disks blocks form)))
    (carried Nothing OrphansHold orphans_kept es (traced (fresh_world k clients servers disks blocks form)) (orphans_begin k clients servers disks blocks form)
    (throughout_all Nothing (λ past t e sc f. tt) es [] (traced (fresh_world k clients servers disks blocks form))))
