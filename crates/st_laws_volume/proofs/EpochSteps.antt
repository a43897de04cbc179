-- What the steps of the volume do to its epochs: a start of a server is one more.
use Rattle.std.proofs.Common.{◌≡◌, ℕ, zero, suc, Bool, true, false, not, ◌&&◌, ◌==◌, List, [], ◌∷◌, ◌++◌, length, Option, Some, None, refl, ap, ◌∙◌, if◌then◌else◌}
use Rattle.std.specs.Prelude.{find, option_map, option_and_then}
use Rattle.std.specs.List.{list_all}
use Rattle.st_base.specs.declared.ids.ClientId.{ClientId}
use Rattle.st_base.specs.declared.ids.FileId.{FileId}
use Rattle.st_base.specs.declared.ids.PageNo.{PageNo}
use Rattle.st_base.specs.declared.ids.ServerId.{ServerId}
use Rattle.st_messages.specs.declared.answer.AppAnswer.{AppAnswer}
use Rattle.st_messages.specs.declared.answer.AppAnswer.TheVariants as answers
use Rattle.st_messages.specs.declared.ask.Ask.{Ask}
use Rattle.st_messages.specs.declared.ask.Ask.TheVariants as asks
use Rattle.st_lemmas.proofs.Tables.{and_true}
use Rattle.st_laws_volume.specs.Options.{OnSome}
use Rattle.st_laws_volume.proofs.StepKinds.{is_inside}
use Rattle.st_laws_volume.proofs.Options.{on_all, on_else, on_if, on_map, on_more, on_then}
use Rattle.st_volume.specs.declared.step.Fate.{Fate}
use Rattle.st_volume.specs.declared.step.Fate.TheVariants as fates
use Rattle.st_volume.specs.declared.step.VolumeStep.{VolumeStep}
use Rattle.st_volume.specs.declared.step.VolumeStep.TheVariants as steps
use Rattle.st_volume.specs.Pages.{Entry, is_cause}
use Rattle.st_volume.specs.Trees.{Made}
use Rattle.st_volume.specs.Volume as volume
use Rattle.st_volume.specs.Volume.{Volume, Pending, acts, after_answer, answered, arrived, closed, cuts, cuts_removed, done, effect, ends, entry, failed, is_ask, made, notice, numbered, run, step, takes, with_changed, with_entry, with_fate, with_tree}

abbrev SameStarts : Volume → Volume → Type 0
SameStarts v u = u.starts ≡ v.starts

abbrev pub started_by : VolumeStep → List ServerId → List ServerId
started_by (steps.Restarted s) xs = s ∷ xs
started_by it xs = xs

abbrev pub started_all : List VolumeStep → List ServerId → List ServerId
started_all [] xs = xs
started_all (it ∷ its) xs = started_all its (started_by it xs)

pub inside_starts : (its : List VolumeStep) (xs : List ServerId) → list_all is_inside its ≡ true → started_all its xs ≡ xs
inside_starts [] xs q = refl
inside_starts (it ∷ its) xs q =
    let b = and_true (is_inside it) (list_all is_inside its) q in ap (started_all its) (one it b.0) ∙ inside_starts its xs b.1
  where
    one : (it : VolumeStep) → is_inside it ≡ true → started_by it xs ≡ xs
    one (steps.Restarted s) q = cc
    one it q = refl

-- Effects.
abbrev Leaves : Volume → Volume × AppAnswer → Type 0
Leaves v r = SameStarts v r.0

joins : (v : Volume) (f : FileId) (e : Entry) → OnSome (SameStarts v) (with_entry v f e)
joins v f e = on_if (SameStarts v) _ (Some (record v { log = v.log ++ e ∷ [] })) refl

cut_starts : (v : Volume) (c : ClientId) (f : FileId) (p : PageNo) → OnSome (SameStarts v) (cuts v c f p)
cut_starts v c f p =
    on_if (SameStarts v) _ (Some (record v { claims = volume.freed v (asks.Cut f p); log = v.log ++ entry c (asks.Cut f p) fates.Hard ∷ [] })) refl

removal_starts : (v : Volume) (c : ClientId) (s : ServerId) (removed : Option ℕ) → OnSome (SameStarts v) (cuts_removed v c s removed)
removal_starts v c s None = refl
removal_starts v c s (Some ino) = cut_starts v c (record { server = s; ino = ino }) (record { 0 = 0 })

result_starts : (v : Volume) (answer : AppAnswer) (o : Option Volume) → OnSome (SameStarts v) o → OnSome (Leaves v) (option_map (λ w. (w, answer)) o)
result_starts v answer o h = on_map (Leaves v) (λ w. (w, answer)) o h

made_starts : (v : Volume) (c : ClientId) (s : ServerId) (m : Made) → OnSome (Leaves v) (made v c s m)
made_starts v c s (t, (answer, removed)) =
    result_starts v answer _
    (on_map (SameStarts v) (with_tree s t) (cuts_removed v c s removed)
    (on_more (SameStarts v) (λ w. SameStarts v (with_tree s t w)) (λ w k. k) (cuts_removed v c s removed) (removal_starts v c s removed)))

effect_starts : (v : Volume) (c : ClientId) (ask : Ask) → OnSome (Leaves v) (effect v c ask)
effect_starts v c (asks.Write f p bytes) = result_starts v answers.Written _ (joins v f (entry c (asks.Write f p bytes) fates.Open))
effect_starts v c (asks.Patch f p at bytes) = result_starts v answers.Written _ (joins v f (entry c (asks.Patch f p at bytes) fates.Open))
effect_starts v c (asks.Read f p) = tt
effect_starts v c (asks.Sync f) = tt
effect_starts v c (asks.Cut f p) = result_starts v answers.Cut _ (cut_starts v c f p)
effect_starts v c (asks.Name s ask) = on_then (Leaves v) (made v c s) _ (on_all _ (λ m. made_starts v c s m) _)

takes_starts : (v : Volume) (a : Pending) → OnSome (λ u. SameStarts v (notice u)) (takes v a)
takes_starts v a =
    on_else (λ u. SameStarts v (notice u)) _ _
    (on_map (λ u. SameStarts v (notice u)) (done a) (effect v a.client a.ask)
    (on_more (Leaves v) (λ r. SameStarts v (notice (done a r))) (λ r k. k) (effect v a.client a.ask) (effect_starts v a.client a.ask)))

-- Answers.
after_starts : (v : Volume) (a : Pending) (answer : AppAnswer) → SameStarts v (after_answer v a answer)
after_starts v a answers.Hard = refl
after_starts v a (answers.Lost rows) = refl
after_starts v a (answers.Read bytes) = refl
after_starts v a (answers.Uncertain old zero) = refl
after_starts v a (answers.Uncertain old (suc new)) = refl
after_starts v a answers.Written = refl
after_starts v a answers.Cut = refl
after_starts v a answers.Quiesced = refl
after_starts v a answers.NoFile = refl
after_starts v a (answers.NoSpace n m) = refl
after_starts v a (answers.DiskFault n) = refl
after_starts v a answers.OpsFull = refl
after_starts v a answers.DirtyFull = refl
after_starts v a answers.NotHolder = refl
after_starts v a answers.TooManyLocks = refl
after_starts v a (answers.Named ino) = refl
after_starts v a (answers.Listed rows) = refl
after_starts v a (answers.Refused code) = refl

fate_starts : (v : Volume) (i : ℕ) (test : Entry → Bool) (fate : Fate) → OnSome (SameStarts v) (with_fate v i test fate)
fate_starts v i test fate =
    on_map (SameStarts v) (with_changed v i) (option_and_then (ends test fate) (numbered v.log i))
    (on_all (λ e. SameStarts v (with_changed v i e)) (λ e. refl) (option_and_then (ends test fate) (numbered v.log i)))

-- Each step.
abbrev Told : VolumeStep → Volume → Volume → Type 0
Told it v u = u.starts ≡ started_by it v.starts

acts_start : (v : Volume) (it : VolumeStep) → OnSome (Told it v) (acts v it)
acts_start v (steps.Asked c ask) = on_if (SameStarts v) _ (Some (notice (arrived v c ask))) refl
acts_start v (steps.TakesEffect c op) =
    on_map (SameStarts v) notice (option_and_then (takes v) (find (is_ask c op) (v.pending ++ v.orphans)))
    (on_then (λ u. SameStarts v (notice u)) (takes v) (find (is_ask c op) (v.pending ++ v.orphans))
    (on_all (λ a. OnSome (λ u. SameStarts v (notice u)) (takes v a)) (λ a. takes_starts v a) (find (is_ask c op) (v.pending ++ v.orphans))))
acts_start v (steps.Answered c op answer) =
    on_then (SameStarts v) (answered v answer) (find (is_ask c op) v.pending)
    (on_all (λ a. OnSome (SameStarts v) (answered v answer a))
    (λ a. on_if (SameStarts v) _ (Some (closed a (after_answer v a answer))) (after_starts v a answer))
    (find (is_ask c op) v.pending))
acts_start v (steps.Hardened i) = fate_starts v i (λ e. true) fates.Hard
acts_start v (steps.Dropped i cause) = fate_starts v i (is_cause cause) fates.Dropped
acts_start v (steps.Crashed c) = refl
acts_start v (steps.Restarted s) = refl
acts_start v (steps.WriteFailed c number i) =
    on_map (SameStarts v) (failed v c number i) _ (on_all (λ x. SameStarts v (failed v c number i x)) (λ x. refl) _)
acts_start v (steps.ReadFailed c s number) = refl
acts_start v (steps.Joined i c what) = tt

pub step_starts : (v : Volume) (it : VolumeStep) → OnSome (Told it v) (step v it)
step_starts v (steps.Joined i c what) = on_if (SameStarts v) _ (Some (record v { lines = i })) refl
step_starts v (steps.Asked c ask) =
    on_if (Told (steps.Asked c ask) v) (v.lines == length v.log) (acts v (steps.Asked c ask)) (acts_start v (steps.Asked c ask))
step_starts v (steps.TakesEffect c op) =
    on_if (Told (steps.TakesEffect c op) v) (v.lines == length v.log) (acts v (steps.TakesEffect c op)) (acts_start v (steps.TakesEffect c op))
step_starts v (steps.Answered c op answer) =
    on_if (Told (steps.Answered c op answer) v) (v.lines == length v.log) (acts v (steps.Answered c op answer)) (acts_start v (steps.Answered c op answer))
step_starts v (steps.Hardened i) =
    on_if (Told (steps.Hardened i) v) (v.lines == length v.log) (acts v (steps.Hardened i)) (acts_start v (steps.Hardened i))
step_starts v (steps.Dropped i cause) =
    on_if (Told (steps.Dropped i cause) v) (v.lines == length v.log) (acts v (steps.Dropped i cause)) (acts_start v (steps.Dropped i cause))
step_starts v (steps.Crashed c) = on_if (Told (steps.Crashed c) v) (v.lines == length v.log) (acts v (steps.Crashed c)) (acts_start v (steps.Crashed c))
step_starts v (steps.Restarted s) = on_if (Told (steps.Restarted s) v) (v.lines == length v.log) (acts v (steps.Restarted s)) (acts_start v (steps.Restarted s))
step_starts v (steps.WriteFailed c number i) =
    on_if (Told (steps.WriteFailed c number i) v) (v.lines == length v.log) (acts v (steps.WriteFailed c number i))
    (acts_start v (steps.WriteFailed c number i))
step_starts v (steps.ReadFailed c s number) =
    on_if (Told (steps.ReadFailed c s number) v) (v.lines == length v.log) (acts v (steps.ReadFailed c s number)) (acts_start v (steps.ReadFailed c s number))

pub run_starts : (its : List VolumeStep) (v : Volume) → OnSome (λ u. u.starts ≡ started_all its v.starts) (run its v)
unfolding run
run_starts [] v = refl
run_starts (it ∷ its) v =
    on_then (λ z. z.starts ≡ started_all its (started_by it v.starts)) (run its) (step v it)
    (on_more (Told it v) (λ u. OnSome (λ z. z.starts ≡ started_all its (started_by it v.starts)) (run its u))
    (λ u k. on_more (λ z. z.starts ≡ started_all its u.starts) (λ z. z.starts ≡ started_all its (started_by it v.starts)) (λ z q. q ∙ ap (started_all its) k)
    (run its u) (run_starts its u))
    (step v it) (step_starts v it))
