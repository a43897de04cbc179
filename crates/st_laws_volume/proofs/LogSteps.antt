-- What the steps of the volume do to its log.
use Rattle.std.proofs.Common.{◌≡◌, ℕ, zero, suc, ◌+◌, Bool, true, false, ◌&&◌, ◌||◌, ◌==◌, List, [], ◌∷◌, ◌++◌, length, map, Option, Some, None, refl, ◌∙◌, if◌then◌else◌}
use Rattle.std.specs.Prelude.{find, option_map, option_and_then}
use Rattle.std.specs.List.{list_all}
use Rattle.st_base.specs.declared.ids.ClientId.{ClientId}
use Rattle.st_base.specs.declared.ids.ServerId.{ServerId}
use Rattle.st_base.specs.declared.ids.FileId.{FileId}
use Rattle.st_base.specs.declared.ids.PageNo.{PageNo}
use Rattle.st_messages.specs.declared.answer.AppAnswer.{AppAnswer}
use Rattle.st_messages.specs.declared.answer.AppAnswer.TheVariants as answers
use Rattle.st_messages.specs.declared.ask.Ask.{Ask}
use Rattle.st_messages.specs.declared.ask.Ask.TheVariants as asks
use Rattle.st_rules.specs.declared.log.LogEntry.{LogEntry}
use Rattle.st_lemmas.proofs.Tables.{and_true}
use Rattle.st_laws_volume.specs.Options.{OnSome}
use Rattle.st_laws_volume.proofs.Options.{on_all, on_else, on_if, on_map, on_more, on_then}
use Rattle.st_laws_volume.proofs.LogEntries.{AreFirst, IsLike, first_like, first_more, like_failed, like_map, new_fate}
use Rattle.st_volume.specs.declared.step.VolumeStep.{VolumeStep}
use Rattle.st_volume.specs.declared.step.VolumeStep.TheVariants as steps
use Rattle.st_volume.specs.declared.step.Fate.TheVariants as fates
use Rattle.st_volume.specs.Pages.{Entry}
use Rattle.st_volume.specs.Trees.{Made}
use Rattle.st_volume.specs.Volume.{Volume, Pending, acts, after_answer, answered, arrived, closed, crash_of, cuts, cuts_removed, done, effect, entry, failed, is_ask, made, notice, run, step, takes, with_entry, with_tree}

-- The lines have told these entries.
pub record IsTold (os : List LogEntry) (v : Volume) : Type 0 where
  pub lines : v.lines ≡ length os
  pub first : AreFirst os v.log

-- Steps that aren't lines of the log.
abbrev pub is_quiet : VolumeStep → Bool
is_quiet (steps.Joined i c what) = false
is_quiet (steps.Hardened i) = false
is_quiet (steps.Dropped i cause) = false
is_quiet it = true

-- Effects: an entry may join the log.
joins : (os : List LogEntry) (v : Volume) (f : FileId) (e : Entry) → e.fate ≡ new_fate e.what → IsTold os v → OnSome (IsTold os) (with_entry v f e)
joins os v f e n h =
    on_if (IsTold os) _ (Some (record v { log = v.log ++ e ∷ [] })) (record { lines = h.lines; first = first_more os v.log (e ∷ []) h.first (n, tt) })

cut_told : (os : List LogEntry) (v : Volume) (c : ClientId) (f : FileId) (p : PageNo) → IsTold os v → OnSome (IsTold os) (cuts v c f p)
cut_told os v c f p h = joins os _ f (entry c (asks.Cut f p) fates.Hard) refl (record { lines = h.lines; first = h.first })

removal_told : (os : List LogEntry) (v : Volume) (c : ClientId) (s : ServerId) (removed : Option ℕ) → IsTold os v →
    OnSome (IsTold os) (cuts_removed v c s removed)
removal_told os v c s None h = h
removal_told os v c s (Some ino) h = cut_told os v c (record { server = s; ino = ino }) (record { 0 = 0 }) h

abbrev LeavesTold : List LogEntry → Volume × AppAnswer → Type 0
LeavesTold os r = IsTold os r.0

result_told : (os : List LogEntry) (answer : AppAnswer) (o : Option Volume) → OnSome (IsTold os) o → OnSome (LeavesTold os) (option_map (λ w. (w, answer)) o)
result_told os answer o h = on_map (LeavesTold os) (λ w. (w, answer)) o h

made_told : (os : List LogEntry) (v : Volume) (c : ClientId) (s : ServerId) (m : Made) → IsTold os v → OnSome (LeavesTold os) (made v c s m)
made_told os v c s (t, (answer, removed)) h =
    result_told os answer _
    (on_map (IsTold os) (with_tree s t) (cuts_removed v c s removed)
    (on_more (IsTold os) (λ w. IsTold os (with_tree s t w)) (λ w k. record { lines = k.lines; first = k.first }) (cuts_removed v c s removed)
    (removal_told os v c s removed h)))

effect_told : (os : List LogEntry) (v : Volume) (c : ClientId) (ask : Ask) → IsTold os v → OnSome (LeavesTold os) (effect v c ask)
effect_told os v c (asks.Write f p bytes) h = result_told os answers.Written _ (joins os v f (entry c (asks.Write f p bytes) fates.Open) refl h)
effect_told os v c (asks.Patch f p at bytes) h = result_told os answers.Written _ (joins os v f (entry c (asks.Patch f p at bytes) fates.Open) refl h)
effect_told os v c (asks.Read f p) h = tt
effect_told os v c (asks.Sync f) h = tt
effect_told os v c (asks.Cut f p) h = result_told os answers.Cut _ (cut_told os v c f p h)
effect_told os v c (asks.Name s ask) h = on_then (LeavesTold os) (made v c s) _ (on_all _ (λ m. made_told os v c s m h) _)

takes_told : (os : List LogEntry) (v : Volume) (a : Pending) → IsTold os v → OnSome (IsTold os) (takes v a)
takes_told os v a h =
    on_else (IsTold os) _ _
    (on_map (IsTold os) (done a) (effect v a.client a.ask)
    (on_more (LeavesTold os) (λ r. IsTold os (done a r)) (λ r k. record { lines = k.lines; first = k.first }) (effect v a.client a.ask)
    (effect_told os v a.client a.ask h)))

-- Answers.
marked : (os : List LogEntry) (v : Volume) (f : Entry → Entry) → ((e : Entry) → IsLike e (f e)) → IsTold os v → IsTold os (record v { log = map f v.log })
marked os v f l h = record { lines = h.lines; first = first_like os v.log (map f v.log) h.first (like_map f l v.log) }

after_told : (os : List LogEntry) (v : Volume) (a : Pending) (answer : AppAnswer) → IsTold os v → IsTold os (after_answer v a answer)
after_told os v a answers.Hard h = marked os v _ (λ e. record { what = refl; client = refl; fate = refl }) h
after_told os v a (answers.Lost rows) h = marked os v _ (λ e. record { what = refl; client = refl; fate = refl }) h
after_told os v a (answers.Read bytes) h = record { lines = h.lines; first = h.first }
after_told os v a (answers.Uncertain old zero) h = record { lines = h.lines; first = h.first }
after_told os v a (answers.Uncertain old (suc new)) h = h
after_told os v a answers.Written h = h
after_told os v a answers.Cut h = h
after_told os v a answers.Quiesced h = h
after_told os v a answers.NoFile h = h
after_told os v a (answers.NoSpace n m) h = h
after_told os v a (answers.DiskFault n) h = h
after_told os v a answers.OpsFull h = h
after_told os v a answers.DirtyFull h = h
after_told os v a answers.NotHolder h = h
after_told os v a answers.TooManyLocks h = h
after_told os v a (answers.Named ino) h = h
after_told os v a (answers.Listed rows) h = h
after_told os v a (answers.Refused code) h = h

answered_told : (os : List LogEntry) (v : Volume) (answer : AppAnswer) (a : Pending) → IsTold os v → OnSome (IsTold os) (answered v answer a)
answered_told os v answer a h =
    let k = after_told os v a answer h in
    on_if (IsTold os) _ (Some (closed a (after_answer v a answer))) (record { lines = k.lines; first = k.first })

-- A step that isn't a line of the log keeps the entries that have had their lines.
acts_told : (os : List LogEntry) (v : Volume) (it : VolumeStep) → is_quiet it ≡ true → IsTold os v → OnSome (IsTold os) (acts v it)
acts_told os v (steps.Asked c ask) q h = on_if (IsTold os) _ (Some (notice (arrived v c ask))) (record { lines = h.lines; first = h.first })
acts_told os v (steps.TakesEffect c op) q h =
    on_map (IsTold os) notice (option_and_then (takes v) (find (is_ask c op) (v.pending ++ v.orphans)))
    (on_then (λ w. IsTold os (notice w)) (takes v) (find (is_ask c op) (v.pending ++ v.orphans))
    (on_all _ (λ a. on_more (IsTold os) (λ w. IsTold os (notice w)) (λ w k. record { lines = k.lines; first = k.first }) (takes v a) (takes_told os v a h))
    (find (is_ask c op) (v.pending ++ v.orphans))))
acts_told os v (steps.Answered c op answer) q h =
    on_then (IsTold os) (answered v answer) (find (is_ask c op) v.pending) (on_all _ (λ a. answered_told os v answer a h) (find (is_ask c op) v.pending))
acts_told os v (steps.Crashed c) q h =
    record {
      lines = h.lines;
      first = first_like os v.log (map (crash_of c) v.log) h.first (like_map (crash_of c) (λ e. record { what = refl; client = refl; fate = refl }) v.log);
    }
acts_told os v (steps.Restarted s) q h = record { lines = h.lines; first = h.first }
acts_told os v (steps.WriteFailed c number i) q h =
    on_map (IsTold os) (failed v c number i) _
    (on_all (λ x. IsTold os (failed v c number i x)) (λ x. record { lines = h.lines; first = first_like os v.log _ h.first (like_failed i c number x v.log) })
    _)
acts_told os v (steps.ReadFailed c s number) q h = record { lines = h.lines; first = h.first }
acts_told os v (steps.Joined i c what) q h = tt
acts_told os v (steps.Hardened i) q h = cc
acts_told os v (steps.Dropped i cause) q h = cc

pub quiet_told : (os : List LogEntry) (v : Volume) (it : VolumeStep) → is_quiet it ≡ true → IsTold os v → OnSome (IsTold os) (step v it)
quiet_told os v (steps.Joined i c what) q h = cc
quiet_told os v (steps.Asked c ask) q h = on_if (IsTold os) (v.lines == length v.log) (acts v (steps.Asked c ask)) (acts_told os v (steps.Asked c ask) q h)
quiet_told os v (steps.TakesEffect c op) q h =
    on_if (IsTold os) (v.lines == length v.log) (acts v (steps.TakesEffect c op)) (acts_told os v (steps.TakesEffect c op) q h)
quiet_told os v (steps.Answered c op answer) q h =
    on_if (IsTold os) (v.lines == length v.log) (acts v (steps.Answered c op answer)) (acts_told os v (steps.Answered c op answer) q h)
quiet_told os v (steps.Hardened i) q h = on_if (IsTold os) (v.lines == length v.log) (acts v (steps.Hardened i)) (acts_told os v (steps.Hardened i) q h)
quiet_told os v (steps.Dropped i cause) q h =
    on_if (IsTold os) (v.lines == length v.log) (acts v (steps.Dropped i cause)) (acts_told os v (steps.Dropped i cause) q h)
quiet_told os v (steps.Crashed c) q h = on_if (IsTold os) (v.lines == length v.log) (acts v (steps.Crashed c)) (acts_told os v (steps.Crashed c) q h)
quiet_told os v (steps.Restarted s) q h = on_if (IsTold os) (v.lines == length v.log) (acts v (steps.Restarted s)) (acts_told os v (steps.Restarted s) q h)
quiet_told os v (steps.WriteFailed c number i) q h =
    on_if (IsTold os) (v.lines == length v.log) (acts v (steps.WriteFailed c number i)) (acts_told os v (steps.WriteFailed c number i) q h)
quiet_told os v (steps.ReadFailed c s number) q h =
    on_if (IsTold os) (v.lines == length v.log) (acts v (steps.ReadFailed c s number)) (acts_told os v (steps.ReadFailed c s number) q h)

pub quiet_run : (os : List LogEntry) (its : List VolumeStep) (v : Volume) → list_all is_quiet its ≡ true → IsTold os v → OnSome (IsTold os) (run its v)
unfolding run
quiet_run os [] v q h = h
quiet_run os (it ∷ its) v q h =
    let b = and_true (is_quiet it) (list_all is_quiet its) q in
    on_then (IsTold os) (run its) (step v it)
    (on_more (IsTold os) (λ w. OnSome (IsTold os) (run its w)) (λ w k. quiet_run os its w b.1 k) (step v it) (quiet_told os v it b.0 h))
