-- No step of the volume changes for how many pages its servers have room.
use Rattle.std.proofs.Common.{◌≡◌, ℕ, zero, suc, Bool, true, false, ◌==◌, List, [], ◌∷◌, ◌++◌, length, Option, Some, None, refl, ◌∙◌}
use Rattle.std.specs.Prelude.{find, option_map, option_and_then}
use Rattle.st_base.specs.declared.ids.ClientId.{ClientId}
use Rattle.st_base.specs.declared.ids.FileId.{FileId}
use Rattle.st_base.specs.declared.ids.PageNo.{PageNo}
use Rattle.st_base.specs.declared.ids.ServerId.{ServerId}
use Rattle.st_messages.specs.declared.answer.AppAnswer.{AppAnswer}
use Rattle.st_messages.specs.declared.answer.AppAnswer.TheVariants as answers
use Rattle.st_messages.specs.declared.ask.Ask.{Ask}
use Rattle.st_messages.specs.declared.ask.Ask.TheVariants as asks
use Rattle.st_laws_volume.specs.Options.{OnSome}
use Rattle.st_laws_volume.proofs.Options.{on_all, on_else, on_if, on_map, on_more, on_then}
use Rattle.st_volume.specs.declared.step.Fate.{Fate}
use Rattle.st_volume.specs.declared.step.Fate.TheVariants as fates
use Rattle.st_volume.specs.declared.step.VolumeStep.{VolumeStep}
use Rattle.st_volume.specs.declared.step.VolumeStep.TheVariants as steps
use Rattle.st_volume.specs.Pages.{Entry, is_cause}
use Rattle.st_volume.specs.Trees.{Made}
use Rattle.st_volume.specs.Volume as volume
use Rattle.st_volume.specs.Volume.{Volume, Pending, acts, after_answer, answered, arrived, closed, cuts, cuts_removed, done, effect, ends, entry, failed, is_ask, made, notice, numbered, run, step, takes, with_changed, with_entry, with_fate, with_tree}

abbrev pub SameSizes : Volume → Volume → Type 0
SameSizes v u = u.sizes ≡ v.sizes

-- Effects.
abbrev Leaves : Volume → Volume × AppAnswer → Type 0
Leaves v r = SameSizes v r.0

joins : (v : Volume) (f : FileId) (e : Entry) → OnSome (SameSizes v) (with_entry v f e)
joins v f e = on_if (SameSizes v) _ (Some (record v { log = v.log ++ e ∷ [] })) refl

cut_sizes : (v : Volume) (c : ClientId) (f : FileId) (p : PageNo) → OnSome (SameSizes v) (cuts v c f p)
cut_sizes v c f p =
    on_if (SameSizes v) _ (Some (record v { claims = volume.freed v (asks.Cut f p); log = v.log ++ entry c (asks.Cut f p) fates.Hard ∷ [] })) refl

removal_sizes : (v : Volume) (c : ClientId) (s : ServerId) (removed : Option ℕ) → OnSome (SameSizes v) (cuts_removed v c s removed)
removal_sizes v c s None = refl
removal_sizes v c s (Some ino) = cut_sizes v c (record { server = s; ino = ino }) (record { 0 = 0 })

result_sizes : (v : Volume) (answer : AppAnswer) (o : Option Volume) → OnSome (SameSizes v) o → OnSome (Leaves v) (option_map (λ w. (w, answer)) o)
result_sizes v answer o h = on_map (Leaves v) (λ w. (w, answer)) o h

made_sizes : (v : Volume) (c : ClientId) (s : ServerId) (m : Made) → OnSome (Leaves v) (made v c s m)
made_sizes v c s (t, (answer, removed)) =
    result_sizes v answer _
    (on_map (SameSizes v) (with_tree s t) (cuts_removed v c s removed)
    (on_more (SameSizes v) (λ w. SameSizes v (with_tree s t w)) (λ w k. k) (cuts_removed v c s removed) (removal_sizes v c s removed)))

effect_sizes : (v : Volume) (c : ClientId) (ask : Ask) → OnSome (Leaves v) (effect v c ask)
effect_sizes v c (asks.Write f p bytes) = result_sizes v answers.Written _ (joins v f (entry c (asks.Write f p bytes) fates.Open))
effect_sizes v c (asks.Patch f p at bytes) = result_sizes v answers.Written _ (joins v f (entry c (asks.Patch f p at bytes) fates.Open))
effect_sizes v c (asks.Read f p) = tt
effect_sizes v c (asks.Sync f) = tt
effect_sizes v c (asks.Cut f p) = result_sizes v answers.Cut _ (cut_sizes v c f p)
effect_sizes v c (asks.Name s ask) = on_then (Leaves v) (made v c s) _ (on_all _ (λ m. made_sizes v c s m) _)

takes_sizes : (v : Volume) (a : Pending) → OnSome (λ u. SameSizes v (notice u)) (takes v a)
takes_sizes v a =
    on_else (λ u. SameSizes v (notice u)) _ _
    (on_map (λ u. SameSizes v (notice u)) (done a) (effect v a.client a.ask)
    (on_more (Leaves v) (λ r. SameSizes v (notice (done a r))) (λ r k. k) (effect v a.client a.ask) (effect_sizes v a.client a.ask)))

-- Answers.
after_sizes : (v : Volume) (a : Pending) (answer : AppAnswer) → SameSizes v (after_answer v a answer)
after_sizes v a answers.Hard = refl
after_sizes v a (answers.Lost rows) = refl
after_sizes v a (answers.Read bytes) = refl
after_sizes v a (answers.Uncertain old zero) = refl
after_sizes v a (answers.Uncertain old (suc new)) = refl
after_sizes v a answers.Written = refl
after_sizes v a answers.Cut = refl
after_sizes v a answers.Quiesced = refl
after_sizes v a answers.NoFile = refl
after_sizes v a (answers.NoSpace n m) = refl
after_sizes v a (answers.DiskFault n) = refl
after_sizes v a answers.OpsFull = refl
after_sizes v a answers.DirtyFull = refl
after_sizes v a answers.NotHolder = refl
after_sizes v a answers.TooManyLocks = refl
after_sizes v a (answers.Named ino) = refl
after_sizes v a (answers.Listed rows) = refl
after_sizes v a (answers.Refused code) = refl

fate_sizes : (v : Volume) (i : ℕ) (test : Entry → Bool) (fate : Fate) → OnSome (SameSizes v) (with_fate v i test fate)
fate_sizes v i test fate =
    on_map (SameSizes v) (with_changed v i) (option_and_then (ends test fate) (numbered v.log i))
    (on_all (λ e. SameSizes v (with_changed v i e)) (λ e. refl) (option_and_then (ends test fate) (numbered v.log i)))

-- Each step.
acts_size : (v : Volume) (it : VolumeStep) → OnSome (SameSizes v) (acts v it)
acts_size v (steps.Asked c ask) = on_if (SameSizes v) _ (Some (notice (arrived v c ask))) refl
acts_size v (steps.TakesEffect c op) =
    on_map (SameSizes v) notice (option_and_then (takes v) (find (is_ask c op) (v.pending ++ v.orphans)))
    (on_then (λ u. SameSizes v (notice u)) (takes v) (find (is_ask c op) (v.pending ++ v.orphans))
    (on_all (λ a. OnSome (λ u. SameSizes v (notice u)) (takes v a)) (λ a. takes_sizes v a) (find (is_ask c op) (v.pending ++ v.orphans))))
acts_size v (steps.Answered c op answer) =
    on_then (SameSizes v) (answered v answer) (find (is_ask c op) v.pending)
    (on_all (λ a. OnSome (SameSizes v) (answered v answer a))
    (λ a. on_if (SameSizes v) _ (Some (closed a (after_answer v a answer))) (after_sizes v a answer))
    (find (is_ask c op) v.pending))
acts_size v (steps.Hardened i) = fate_sizes v i (λ e. true) fates.Hard
acts_size v (steps.Dropped i cause) = fate_sizes v i (is_cause cause) fates.Dropped
acts_size v (steps.Crashed c) = refl
acts_size v (steps.Restarted s) = refl
acts_size v (steps.WriteFailed c number i) =
    on_map (SameSizes v) (failed v c number i) _ (on_all (λ x. SameSizes v (failed v c number i x)) (λ x. refl) _)
acts_size v (steps.ReadFailed c s number) = refl
acts_size v (steps.Joined i c what) = tt

step_sizes : (v : Volume) (it : VolumeStep) → OnSome (SameSizes v) (step v it)
step_sizes v (steps.Joined i c what) = on_if (SameSizes v) _ (Some (record v { lines = i })) refl
step_sizes v (steps.Asked c ask) =
    on_if (SameSizes v) (v.lines == length v.log) (acts v (steps.Asked c ask)) (acts_size v (steps.Asked c ask))
step_sizes v (steps.TakesEffect c op) =
    on_if (SameSizes v) (v.lines == length v.log) (acts v (steps.TakesEffect c op)) (acts_size v (steps.TakesEffect c op))
step_sizes v (steps.Answered c op answer) =
    on_if (SameSizes v) (v.lines == length v.log) (acts v (steps.Answered c op answer)) (acts_size v (steps.Answered c op answer))
step_sizes v (steps.Hardened i) =
    on_if (SameSizes v) (v.lines == length v.log) (acts v (steps.Hardened i)) (acts_size v (steps.Hardened i))
step_sizes v (steps.Dropped i cause) =
    on_if (SameSizes v) (v.lines == length v.log) (acts v (steps.Dropped i cause)) (acts_size v (steps.Dropped i cause))
step_sizes v (steps.Crashed c) = on_if (SameSizes v) (v.lines == length v.log) (acts v (steps.Crashed c)) (acts_size v (steps.Crashed c))
step_sizes v (steps.Restarted s) = on_if (SameSizes v) (v.lines == length v.log) (acts v (steps.Restarted s)) (acts_size v (steps.Restarted s))
step_sizes v (steps.WriteFailed c number i) =
    on_if (SameSizes v) (v.lines == length v.log) (acts v (steps.WriteFailed c number i))
    (acts_size v (steps.WriteFailed c number i))
step_sizes v (steps.ReadFailed c s number) =
    on_if (SameSizes v) (v.lines == length v.log) (acts v (steps.ReadFailed c s number)) (acts_size v (steps.ReadFailed c s number))

pub run_sizes : (its : List VolumeStep) (v : Volume) → OnSome (SameSizes v) (run its v)
unfolding run
run_sizes [] v = refl
run_sizes (it ∷ its) v =
    on_then (SameSizes v) (run its) (step v it)
    (on_more (SameSizes v) (λ u. OnSome (SameSizes v) (run its u)) (λ u k. on_more (SameSizes u) (SameSizes v) (λ z q. q ∙ k) (run its u) (run_sizes its u))
    (step v it) (step_sizes v it))
