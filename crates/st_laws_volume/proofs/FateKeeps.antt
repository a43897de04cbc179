-- Steps of the volume keep whose its entries are, that their clients crashed, and which command failed them last.
use Rattle.std.proofs.Common.{◌≡◌, ℕ, zero, suc, ◌+◌, Bool, true, false, not, ◌&&◌, ◌||◌, ◌==◌, List, [], ◌∷◌, ◌++◌, length, map, Option, Some, None, refl, sym, ◌∙◌, subst, if◌then◌else◌}
use Rattle.std.specs.Prelude.{find, option_map, option_and_then, set, slice_get}
use Rattle.std.specs.List.{list_all}
use Rattle.st_base.specs.declared.ids.ClientId.{ClientId}
use Rattle.st_base.specs.declared.ids.ServerId.{ServerId}
use Rattle.st_base.specs.declared.ids.FileId.{FileId}
use Rattle.st_base.specs.declared.ids.PageNo.{PageNo}
use Rattle.st_messages.specs.declared.answer.AppAnswer.{AppAnswer}
use Rattle.st_messages.specs.declared.answer.AppAnswer.TheVariants as answers
use Rattle.st_messages.specs.declared.ask.Ask.{Ask}
use Rattle.st_messages.specs.declared.ask.Ask.TheVariants as asks
use Rattle.st_lemmas.proofs.Lookups.{or_left, or_right}
use Rattle.st_lemmas.proofs.Tables.{and_true, not_true}
use Rattle.st_lemmas.proofs.Truth.{clash}
use Rattle.st_laws_volume.specs.Options.{OnSome}
use Rattle.st_laws_volume.specs.StepKinds.{is_failed_write}
use Rattle.st_laws_volume.proofs.LogLines.{numbered_suc}
use Rattle.st_laws_volume.proofs.Options.{on_all, on_else, on_if, on_map, on_more, on_then}
use Rattle.st_volume.specs.declared.step.VolumeStep.{VolumeStep}
use Rattle.st_volume.specs.declared.step.VolumeStep.TheVariants as steps
use Rattle.st_volume.specs.declared.step.Fate.{Fate}
use Rattle.st_volume.specs.declared.step.Fate.TheVariants as fates
use Rattle.st_volume.specs.Pages.{Entry, failed_up_to, is_cause, is_by, is_by_at, is_by_on, is_open}
use Rattle.st_volume.specs.Trees.{Made}
use Rattle.st_volume.specs.Volume.{Volume, Pending, acts, after_answer, answered, arrived, closed, crash_of, crashed, cuts, cuts_removed, done, effect, ends, entry, failed, file_of, freed, is_ask, is_told, made, notice, run, step, takes, with_changed, with_entry, with_fate, with_tree}

-- An entry that stays; and what failed it stays too, if nothing fails meanwhile.
pub record Keeps (quiet : Type 0) (e f : Entry) : Type 0 where
  pub what : f.what ≡ e.what
  pub client : f.client ≡ e.client
  pub crashed : e.crashed ≡ true → f.crashed ≡ true
  pub told : e.told ≡ true → f.told ≡ true
  pub failed : quiet → f.failed ≡ e.failed

abbrev pub AllKeep : Type 0 → List Entry → List Entry → Type 0
AllKeep q [] fs = Unit {0}
AllKeep q (e ∷ es) [] = ⊥
AllKeep q (e ∷ es) (f ∷ fs) = Keeps q e f × AllKeep q es fs

-- Lists of entries that stay, if nothing fails.
module _ (q : Type 0) where
  keeps_self : (e : Entry) → Keeps q e e
  keeps_self e = record { what = refl; client = refl; crashed = λ h. h; told = λ h. h; failed = λ z. refl }

  pub keep_self : (es : List Entry) → AllKeep q es es
  keep_self [] = tt
  keep_self (e ∷ es) = (keeps_self e, keep_self es)

  pub keep_then : (es fs gs : List Entry) → AllKeep q es fs → AllKeep q fs gs → AllKeep q es gs
  keep_then [] fs gs p r = tt
  keep_then (e ∷ es) [] gs p r = absurd p
  keep_then (e ∷ es) (f ∷ fs) [] p r = absurd r
  keep_then (e ∷ es) (f ∷ fs) (g ∷ gs) p r = (
    record {
      what = r.0.what ∙ p.0.what;
      client = r.0.client ∙ p.0.client;
      crashed = λ h. r.0.crashed (p.0.crashed h);
      told = λ h. r.0.told (p.0.told h);
      failed = λ z. r.0.failed z ∙ p.0.failed z;
    },
    keep_then es fs gs p.1 r.1,
  )

  keep_more : (es more : List Entry) → AllKeep q es (es ++ more)
  keep_more [] more = tt
  keep_more (e ∷ es) more = (keeps_self e, keep_more es more)

  keep_map : (f : Entry → Entry) → ((e : Entry) → Keeps q e (f e)) → (es : List Entry) → AllKeep q es (map f es)
  keep_map f h [] = tt
  keep_map f h (e ∷ es) = (h e, keep_map f h es)

  keep_set : (es : List Entry) (n : ℕ) (e f : Entry) → slice_get es n ≡ Some e → Keeps q e f → AllKeep q es (set es n f)
  keep_set [] n e f i k = tt
  keep_set (x ∷ es) zero e f i k = (subst (λ y. Keeps q y f) (some_is i) k, keep_self es)
    where
      some_is : Some x ≡ Some e → e ≡ x
      some_is i = cc
  keep_set (x ∷ es) (suc n) e f i k = (keeps_self x, keep_set es n e f i k)

  keep_failed : (q → ⊥) → (n : ℕ) (c : ClientId) (number : ℕ) (x : FileId × PageNo) (es : List Entry) → AllKeep q es (failed_up_to n c number x es)
  unfolding failed_up_to
  keep_failed never zero c number x es = keep_self es
  keep_failed never (suc n) c number x [] = tt
  keep_failed never (suc n) c number x (e ∷ es) = (go (is_by_at c x e && ((n == 0) || is_open e.fate)), keep_failed never n c number x es)
    where
      go : (b : Bool) → Keeps q e (if b then record e { failed = number } else e)
      go true = record { what = refl; client = refl; crashed = λ h. h; told = λ h. h; failed = λ z. absurd (never z) }
      go false = keeps_self e

  -- Each step.
  abbrev pub LogKept : Volume → Volume → Type 0
  LogKept v u = AllKeep q v.log u.log

  joins : (v : Volume) (f : FileId) (e : Entry) → OnSome (LogKept v) (with_entry v f e)
  joins v f e = on_if (LogKept v) _ (Some (record v { log = v.log ++ e ∷ [] })) (keep_more v.log (e ∷ []))

  cut_keeps : (v : Volume) (c : ClientId) (f : FileId) (p : PageNo) → OnSome (LogKept v) (cuts v c f p)
  cut_keeps v c f p =
      on_if (LogKept v) _ (Some (record v { claims = freed v (asks.Cut f p); log = v.log ++ entry c (asks.Cut f p) fates.Hard ∷ [] }))
      (keep_more v.log (entry c (asks.Cut f p) fates.Hard ∷ []))

  removal_keeps : (v : Volume) (c : ClientId) (s : ServerId) (removed : Option ℕ) → OnSome (LogKept v) (cuts_removed v c s removed)
  removal_keeps v c s None = keep_self v.log
  removal_keeps v c s (Some ino) = cut_keeps v c (record { server = s; ino = ino }) (record { 0 = 0 })

  abbrev Leaves : Volume → Volume × AppAnswer → Type 0
  Leaves v r = LogKept v r.0

  result_keeps : (v : Volume) (answer : AppAnswer) (o : Option Volume) → OnSome (LogKept v) o → OnSome (Leaves v) (option_map (λ w. (w, answer)) o)
  result_keeps v answer o h = on_map (Leaves v) (λ w. (w, answer)) o h

  made_keeps : (v : Volume) (c : ClientId) (s : ServerId) (m : Made) → OnSome (Leaves v) (made v c s m)
  made_keeps v c s (t, (answer, removed)) =
      result_keeps v answer _ (on_map (LogKept v) (with_tree s t) (cuts_removed v c s removed) (removal_keeps v c s removed))

  effect_keeps : (v : Volume) (c : ClientId) (ask : Ask) → OnSome (Leaves v) (effect v c ask)
  effect_keeps v c (asks.Write f p bytes) = result_keeps v answers.Written _ (joins v f (entry c (asks.Write f p bytes) fates.Open))
  effect_keeps v c (asks.Patch f p at bytes) = result_keeps v answers.Written _ (joins v f (entry c (asks.Patch f p at bytes) fates.Open))
  effect_keeps v c (asks.Read f p) = tt
  effect_keeps v c (asks.Sync f) = tt
  effect_keeps v c (asks.Cut f p) = result_keeps v answers.Cut _ (cut_keeps v c f p)
  effect_keeps v c (asks.Name s ask) = on_then (Leaves v) (made v c s) _ (on_all _ (λ m. made_keeps v c s m) _)

  takes_keeps : (v : Volume) (a : Pending) → OnSome (LogKept v) (takes v a)
  takes_keeps v a = on_else (LogKept v) _ _ (on_map (LogKept v) (done a) (effect v a.client a.ask) (effect_keeps v a.client a.ask))

  told_keeps : (e : Entry) (more : Bool) → Keeps q e (record e { told = e.told || more })
  told_keeps e more =
      record { what = refl; client = refl; crashed = λ h. h; told = λ h. or_left e.told more h; failed = λ z. refl }

  after_keeps : (v : Volume) (a : Pending) (answer : AppAnswer) → LogKept v (after_answer v a answer)
  after_keeps v a answers.Hard = keep_map _ (λ e. told_keeps e (is_by_on a.client (file_of a.ask) e)) v.log
  after_keeps v a (answers.Lost rows) = keep_map _ (λ e. told_keeps e (is_told a.client (file_of a.ask) rows e)) v.log
  after_keeps v a (answers.Read bytes) = keep_self v.log
  after_keeps v a (answers.Uncertain old zero) = keep_self v.log
  after_keeps v a (answers.Uncertain old (suc new)) = keep_self v.log
  after_keeps v a answers.Written = keep_self v.log
  after_keeps v a answers.Cut = keep_self v.log
  after_keeps v a answers.Quiesced = keep_self v.log
  after_keeps v a answers.NoFile = keep_self v.log
  after_keeps v a (answers.NoSpace n m) = keep_self v.log
  after_keeps v a (answers.DiskFault n) = keep_self v.log
  after_keeps v a answers.OpsFull = keep_self v.log
  after_keeps v a answers.DirtyFull = keep_self v.log
  after_keeps v a answers.NotHolder = keep_self v.log
  after_keeps v a answers.TooManyLocks = keep_self v.log
  after_keeps v a (answers.Named ino) = keep_self v.log
  after_keeps v a (answers.Listed rows) = keep_self v.log
  after_keeps v a (answers.Refused code) = keep_self v.log

  fate_keeps : (v : Volume) (i : ℕ) (test : Entry → Bool) (fate : Fate) → OnSome (LogKept v) (with_fate v i test fate)
  fate_keeps v zero test fate = tt
  fate_keeps v (suc n) test fate =
      subst (λ o. OnSome (LogKept v) (option_map (with_changed v (suc n)) (option_and_then (ends test fate) o))) (sym (numbered_suc v.log n))
      (go (slice_get v.log n) refl)
    where
      go : (o : Option Entry) → slice_get v.log n ≡ o → OnSome (LogKept v) (option_map (with_changed v (suc n)) (option_and_then (ends test fate) o))
      go None i = tt
      go (Some e) i =
          on_map (LogKept v) (with_changed v (suc n)) (ends test fate e)
          (on_if (λ f. LogKept v (with_changed v (suc n) f)) (is_open e.fate && test e) (Some (record e { fate = fate }))
          (keep_set v.log n e (record e { fate = fate }) i (record { what = refl; client = refl; crashed = λ h. h; told = λ h. h; failed = λ z. refl })))

  crash_keeps : (c : ClientId) (e : Entry) → Keeps q e (crash_of c e)
  crash_keeps c e = record { what = refl; client = refl; crashed = λ h. or_left e.crashed (is_by c e) h; told = λ h. h; failed = λ z. refl }

  acts_keep : (v : Volume) (it : VolumeStep) → (is_failed_write it ≡ true → q → ⊥) → OnSome (LogKept v) (acts v it)
  acts_keep v (steps.Asked d ask) never = on_if (LogKept v) _ (Some (notice (arrived v d ask))) (keep_self v.log)
  acts_keep v (steps.TakesEffect d op) never =
      on_map (LogKept v) notice (option_and_then (takes v) (find (is_ask d op) (v.pending ++ v.orphans)))
      (on_then (LogKept v) (takes v) (find (is_ask d op) (v.pending ++ v.orphans))
      (on_all (λ a. OnSome (LogKept v) (takes v a)) (takes_keeps v) (find (is_ask d op) (v.pending ++ v.orphans))))
  acts_keep v (steps.Answered d op answer) never =
      on_then (LogKept v) (answered v answer) (find (is_ask d op) v.pending)
      (on_all (λ a. OnSome (LogKept v) (answered v answer a)) (λ a. on_if (LogKept v) _ (Some (closed a (after_answer v a answer))) (after_keeps v a answer))
      (find (is_ask d op) v.pending))
  acts_keep v (steps.Hardened i) never = fate_keeps v i (λ e. true) fates.Hard
  acts_keep v (steps.Dropped i cause) never = fate_keeps v i (is_cause cause) fates.Dropped
  acts_keep v (steps.Crashed d) never = keep_map (crash_of d) (crash_keeps d) v.log
  acts_keep v (steps.Restarted s) never = keep_self v.log
  acts_keep v (steps.WriteFailed d number i) never =
      on_map (LogKept v) (failed v d number i) _ (on_all (λ x. LogKept v (failed v d number i x)) (λ x. keep_failed (never refl) i d number x v.log) _)
  acts_keep v (steps.ReadFailed d s number) never = keep_self v.log
  acts_keep v (steps.Joined i d what) never = tt

  step_keeps : (v : Volume) (it : VolumeStep) → (is_failed_write it ≡ true → q → ⊥) → OnSome (LogKept v) (step v it)
  step_keeps v (steps.Joined i d what) never = on_if (LogKept v) _ (Some (record v { lines = i })) (keep_self v.log)
  step_keeps v (steps.Asked d ask) never = on_if (LogKept v) (v.lines == length v.log) (acts v (steps.Asked d ask)) (acts_keep v (steps.Asked d ask) never)
  step_keeps v (steps.TakesEffect d op) never =
      on_if (LogKept v) (v.lines == length v.log) (acts v (steps.TakesEffect d op)) (acts_keep v (steps.TakesEffect d op) never)
  step_keeps v (steps.Answered d op answer) never =
      on_if (LogKept v) (v.lines == length v.log) (acts v (steps.Answered d op answer)) (acts_keep v (steps.Answered d op answer) never)
  step_keeps v (steps.Hardened i) never = on_if (LogKept v) (v.lines == length v.log) (acts v (steps.Hardened i)) (acts_keep v (steps.Hardened i) never)
  step_keeps v (steps.Dropped i cause) never =
      on_if (LogKept v) (v.lines == length v.log) (acts v (steps.Dropped i cause)) (acts_keep v (steps.Dropped i cause) never)
  step_keeps v (steps.Crashed d) never = on_if (LogKept v) (v.lines == length v.log) (acts v (steps.Crashed d)) (acts_keep v (steps.Crashed d) never)
  step_keeps v (steps.Restarted s) never = on_if (LogKept v) (v.lines == length v.log) (acts v (steps.Restarted s)) (acts_keep v (steps.Restarted s) never)
  step_keeps v (steps.WriteFailed d number i) never =
      on_if (LogKept v) (v.lines == length v.log) (acts v (steps.WriteFailed d number i)) (acts_keep v (steps.WriteFailed d number i) never)
  step_keeps v (steps.ReadFailed d s number) never =
      on_if (LogKept v) (v.lines == length v.log) (acts v (steps.ReadFailed d s number)) (acts_keep v (steps.ReadFailed d s number) never)

abbrev pub is_unfailed : VolumeStep → Bool
is_unfailed it = not (is_failed_write it)

pub run_keeps : (q : Type 0) (its : List VolumeStep) (v : Volume) → (q → list_all is_unfailed its ≡ true) → OnSome (LogKept q v) (run its v)
unfolding run
run_keeps q [] v h = keep_self q v.log
run_keeps q (it ∷ its) v h =
    on_then (LogKept q v) (run its) (step v it)
    (on_more (LogKept q v) _
    (λ u k. on_more (LogKept q u) (LogKept q v) (λ z r. keep_then q v.log u.log z.log k r) (run its u)
    (run_keeps q its u (λ z. (and_true (is_unfailed it) (list_all is_unfailed its) (h z)).1)))
    (step v it)
    (step_keeps q v it (λ p z. clash p (not_true (is_failed_write it) (and_true (is_unfailed it) (list_all is_unfailed its) (h z)).0))))

-- A crash marks all entries of its client.
abbrev pub AllCrashed : ClientId → List Entry → List Entry → Type 0
AllCrashed c [] fs = Unit {0}
AllCrashed c (e ∷ es) [] = ⊥
AllCrashed c (e ∷ es) (f ∷ fs) = (is_by c e ≡ true → f.crashed ≡ true) × AllCrashed c es fs

crashed_all : (c : ClientId) (es fs : List Entry) → AllKeep ⊥ (map (crash_of c) es) fs → AllCrashed c es fs
crashed_all c [] fs k = tt
crashed_all c (e ∷ es) [] k = absurd k
crashed_all c (e ∷ es) (f ∷ fs) k = (λ h. k.0.crashed (or_right e.crashed (is_by c e) h), crashed_all c es fs k.1)

pub crash_marks : (c : ClientId) (its : List VolumeStep) (v : Volume) → OnSome (λ u. AllCrashed c v.log u.log) (run (steps.Crashed c ∷ its) v)
unfolding run
crash_marks c its v =
    on_then (λ u. AllCrashed c v.log u.log) (run its) (step v (steps.Crashed c))
    (on_if (λ w. OnSome (λ u. AllCrashed c v.log u.log) (run its w)) (v.lines == length v.log) (Some (crashed v c))
    (on_more (LogKept ⊥ (crashed v c)) (λ u. AllCrashed c v.log u.log) (λ u k. crashed_all c v.log u.log k) (run its (crashed v c))
    (run_keeps ⊥ its (crashed v c) (λ z. absurd z))))
