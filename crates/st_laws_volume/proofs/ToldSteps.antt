-- Which entries of the volume's log have had their line, as it takes steps: each, or each but the last.
use Rattle.std.proofs.Common.{◌≡◌, ◌⊎◌, ℕ, zero, suc, ◌+◌, Bool, true, false, not, ◌&&◌, ◌==◌, List, [], ◌∷◌, ◌++◌, length, Option, Some, None, refl, sym, ap, ◌∙◌, inl, inr, if◌then◌else◌}
use Rattle.std.specs.Prelude.{find, option_map, option_and_then, pred, slice_get}
use Rattle.std.specs.List.{list_all, list_any}
use Rattle.std.proofs.lemmas.Bool.{eqb-true}
use Rattle.st_base.specs.declared.ids.ClientId.{ClientId}
use Rattle.st_base.specs.declared.ids.FileId.{FileId}
use Rattle.st_base.specs.declared.ids.NodeId.TheVariants as nodes
use Rattle.st_base.specs.declared.ids.PageNo.{PageNo}
use Rattle.st_base.specs.declared.ids.ServerId.{ServerId}
use Rattle.st_messages.specs.declared.answer.AppAnswer.{AppAnswer}
use Rattle.st_messages.specs.declared.answer.AppAnswer.TheVariants as answers
use Rattle.st_messages.specs.declared.ask.Ask.{Ask}
use Rattle.st_messages.specs.declared.ask.Ask.TheVariants as asks
use Rattle.st_messages.specs.declared.event.Event.{Event}
use Rattle.st_messages.specs.declared.event.Event.TheVariants as events
use Rattle.st_rules.specs.declared.observation.Observation.{Observation}
use Rattle.st_rules.specs.declared.observation.Observation.TheVariants as seen
use Rattle.st_rules.specs.declared.world.Carried.{Carried}
use Rattle.st_rules.specs.declared.world.IssuedCommand.{IssuedCommand}
use Rattle.st_rules.specs.Events.{is_same_instance}
use Rattle.st_rules.specs.World.{World, WorldClient, issued_of, site_of}
use Rattle.st_lemmas.proofs.Numbers.{length_more, set_length}
use Rattle.st_lemmas.proofs.Tables.{and_true}
use Rattle.st_lemmas.proofs.Lengths.{length_map}
use Rattle.st_promises.specs.Acknowledgements.{is_cut_line}
use Rattle.st_laws_volume.specs.StepKinds.{is_effect}
use Rattle.st_laws_volume.specs.Options.{OnSome}
use Rattle.st_laws_volume.specs.Seen.{cause_of, failure, failure_of, failure_told, of_event, of_line}
use Rattle.st_laws_volume.specs.Witness.{before_line, next_op, of_lines}
use Rattle.st_laws_volume.proofs.LogLines.{numbered_next, suc_is}
use Rattle.st_laws_volume.proofs.Options.{on_all, on_else, on_if, on_map, on_more, on_then, on_true}
use Rattle.st_volume.specs.declared.step.VolumeStep.{VolumeStep}
use Rattle.st_volume.specs.declared.step.VolumeStep.TheVariants as kinds
use Rattle.st_volume.specs.declared.step.Fate.{Fate}
use Rattle.st_volume.specs.declared.step.Fate.TheVariants as fates
use Rattle.st_volume.specs.Pages.{Entry, failed_up_to, is_any, is_by, is_cause, place_of}
use Rattle.st_volume.specs.Trees.{Made}
use Rattle.st_volume.specs.Volume.{Volume, Pending, acts, after_answer, answered, answers_so, arrived, closed, crash_of, cuts, cuts_removed, done, effect, ends, entry, failed, freed, is_ask, made, notice, numbered, run, same_change, step, takes, with_changed, with_entry, with_fate, with_tree}

abbrev pub Told : Volume → Type 0
Told v = v.lines ≡ length v.log

abbrev pub Near : Volume → Type 0
Near v = (v.lines ≡ length v.log) ⊎ (suc v.lines ≡ length v.log)

-- a step other than an effect
abbrev pub is_kept : VolumeStep → Bool
is_kept it = not (is_effect it)

-- Such a step leaves how many entries there are.
record SameSize (v u : Volume) : Type 0 where
  lines : u.lines ≡ v.lines
  log : length u.log ≡ length v.log

failed_length : (n : ℕ) (c : ClientId) (number : ℕ) (x : FileId × PageNo) (es : List Entry) → length (failed_up_to n c number x es) ≡ length es
unfolding failed_up_to
failed_length zero c number x es = refl
failed_length (suc n) c number x [] = refl
failed_length (suc n) c number x (e ∷ es) = ap suc (failed_length n c number x es)

after_size : (v : Volume) (a : Pending) (answer : AppAnswer) → SameSize v (after_answer v a answer)
after_size v a answers.Hard = record { lines = refl; log = length_map _ v.log }
after_size v a (answers.Lost rows) = record { lines = refl; log = length_map _ v.log }
after_size v a (answers.Read bytes) = record { lines = refl; log = refl }
after_size v a (answers.Uncertain old zero) = record { lines = refl; log = refl }
after_size v a (answers.Uncertain old (suc new)) = record { lines = refl; log = refl }
after_size v a answers.Written = record { lines = refl; log = refl }
after_size v a answers.Cut = record { lines = refl; log = refl }
after_size v a answers.Quiesced = record { lines = refl; log = refl }
after_size v a answers.NoFile = record { lines = refl; log = refl }
after_size v a (answers.NoSpace n m) = record { lines = refl; log = refl }
after_size v a (answers.DiskFault n) = record { lines = refl; log = refl }
after_size v a answers.OpsFull = record { lines = refl; log = refl }
after_size v a answers.DirtyFull = record { lines = refl; log = refl }
after_size v a answers.NotHolder = record { lines = refl; log = refl }
after_size v a answers.TooManyLocks = record { lines = refl; log = refl }
after_size v a (answers.Named ino) = record { lines = refl; log = refl }
after_size v a (answers.Listed rows) = record { lines = refl; log = refl }
after_size v a (answers.Refused code) = record { lines = refl; log = refl }

closed_size : (v u : Volume) (a : Pending) → SameSize v u → SameSize v (closed a u)
closed_size v u a k = record { lines = k.lines; log = k.log }

fate_size : (v : Volume) (i : ℕ) (test : Entry → Bool) (fate : Fate) → OnSome (SameSize v) (with_fate v i test fate)
fate_size v i test fate =
    on_map (SameSize v) (with_changed v i) (option_and_then (ends test fate) (numbered v.log i))
    (on_all (λ e. SameSize v (with_changed v i e)) (λ e. record { lines = refl; log = set_length v.log (pred i) e })
    (option_and_then (ends test fate) (numbered v.log i)))

acts_size : (v : Volume) (it : VolumeStep) → is_kept it ≡ true → OnSome (SameSize v) (acts v it)
acts_size v (kinds.Asked c ask) q = on_if (SameSize v) _ (Some (notice (arrived v c ask))) (record { lines = refl; log = refl })
acts_size v (kinds.TakesEffect c op) q = cc
acts_size v (kinds.Answered c op answer) q =
    on_then (SameSize v) (answered v answer) (find (is_ask c op) v.pending)
    (on_all (λ a. OnSome (SameSize v) (answered v answer a))
    (λ a. on_if (SameSize v) (answers_so v a answer a.result) (Some (closed a (after_answer v a answer)))
    (closed_size v (after_answer v a answer) a (after_size v a answer)))
    (find (is_ask c op) v.pending))
acts_size v (kinds.Hardened i) q = fate_size v i (λ e. true) fates.Hard
acts_size v (kinds.Dropped i cause) q = fate_size v i (is_cause cause) fates.Dropped
acts_size v (kinds.Crashed c) q = record { lines = refl; log = length_map (crash_of c) v.log }
acts_size v (kinds.Restarted s) q = record { lines = refl; log = refl }
acts_size v (kinds.WriteFailed c number i) q =
    on_map (SameSize v) (failed v c number i) (option_and_then (λ e. place_of e.what) (numbered v.log i))
    (on_all (λ x. SameSize v (failed v c number i x)) (λ x. record { lines = refl; log = failed_length i c number x v.log })
    (option_and_then (λ e. place_of e.what) (numbered v.log i)))
acts_size v (kinds.ReadFailed c s number) q = record { lines = refl; log = refl }
acts_size v (kinds.Joined i c what) q = tt

-- After a step other than an effect each entry has had its line, if at most one had none.
guarded : (v : Volume) (it : VolumeStep) → is_kept it ≡ true → OnSome Told (if v.lines == length v.log then acts v it else None)
guarded v it q =
    on_true Told (v.lines == length v.log) (acts v it)
    (λ m. on_more (SameSize v) Told (λ u k. k.lines ∙ (eqb-true v.lines (length v.log) m ∙ sym k.log)) (acts v it) (acts_size v it q))

past_last : {A : Type 0} (xs : List A) → slice_get xs (length xs) ≡ None
past_last [] = refl
past_last (x ∷ xs) = past_last xs

last_line : (v : Volume) (i : ℕ) (test : Entry → Bool) → Near v → i ≡ v.lines + 1 → is_any test (numbered v.log i) ≡ true → i ≡ length v.log
last_line v i test (inr k) e q = e ∙ (suc_is v.lines ∙ k)
last_line v i test (inl k) e q =
    absurd (no (sym q ∙ ap (is_any test) (numbered_next v.log (length v.log) i (e ∙ ap (λ (n : ℕ). n + 1) k) ∙ past_last v.log)))
  where
    no : true ≡ false → ⊥
    no q = cc

pub step_told : (v : Volume) (it : VolumeStep) → is_kept it ≡ true → Near v → OnSome Told (step v it)
step_told v (kinds.Joined i c what) q h =
    on_true Told ((i == v.lines + 1) && is_any (λ e. same_change e.what what && not (is_any (λ d. not (is_by d e)) c)) (numbered v.log i))
    (Some (record v { lines = i }))
    (λ m. let b = and_true (i == v.lines + 1) (is_any (λ e. same_change e.what what && not (is_any (λ d. not (is_by d e)) c)) (numbered v.log i)) m in
    last_line v i (λ e. same_change e.what what && not (is_any (λ d. not (is_by d e)) c)) h (eqb-true i (v.lines + 1) b.0) b.1)
step_told v (kinds.Asked c ask) q h = guarded v (kinds.Asked c ask) q
step_told v (kinds.TakesEffect c op) q h = cc
step_told v (kinds.Answered c op answer) q h = guarded v (kinds.Answered c op answer) q
step_told v (kinds.Hardened i) q h = guarded v (kinds.Hardened i) q
step_told v (kinds.Dropped i cause) q h = guarded v (kinds.Dropped i cause) q
step_told v (kinds.Crashed c) q h = guarded v (kinds.Crashed c) q
step_told v (kinds.Restarted s) q h = guarded v (kinds.Restarted s) q
step_told v (kinds.WriteFailed c number i) q h = guarded v (kinds.WriteFailed c number i) q
step_told v (kinds.ReadFailed c s number) q h = guarded v (kinds.ReadFailed c s number) q

-- An effect adds at most one entry.
record Grows (v u : Volume) : Type 0 where
  lines : u.lines ≡ v.lines
  log : (length u.log ≡ length v.log) ⊎ (length u.log ≡ suc (length v.log))

entry_grows : (v : Volume) (f : FileId) (e : Entry) → OnSome (Grows v) (with_entry v f e)
entry_grows v f e = on_if (Grows v) _ (Some (record v { log = v.log ++ e ∷ [] })) (record { lines = refl; log = inr (length_more v.log e) })

cut_grows : (v : Volume) (c : ClientId) (f : FileId) (p : PageNo) → OnSome (Grows v) (cuts v c f p)
cut_grows v c f p =
    on_if (Grows v) _ (Some (record v { claims = freed v (asks.Cut f p); log = v.log ++ entry c (asks.Cut f p) fates.Hard ∷ [] }))
    (record { lines = refl; log = inr (length_more v.log (entry c (asks.Cut f p) fates.Hard)) })

removal_grows : (v : Volume) (c : ClientId) (s : ServerId) (removed : Option ℕ) → OnSome (Grows v) (cuts_removed v c s removed)
removal_grows v c s None = record { lines = refl; log = inl refl }
removal_grows v c s (Some ino) = cut_grows v c (record { server = s; ino = ino }) (record { 0 = 0 })

abbrev GrowsTo : Volume → Volume × AppAnswer → Type 0
GrowsTo v r = Grows v r.0

result_grows : (v : Volume) (answer : AppAnswer) (o : Option Volume) → OnSome (Grows v) o → OnSome (GrowsTo v) (option_map (λ w. (w, answer)) o)
result_grows v answer o h = on_map (GrowsTo v) (λ w. (w, answer)) o h

made_grows : (v : Volume) (c : ClientId) (s : ServerId) (m : Made) → OnSome (GrowsTo v) (made v c s m)
made_grows v c s (t, (answer, removed)) =
    result_grows v answer _
    (on_map (Grows v) (with_tree s t) (cuts_removed v c s removed)
    (on_more (Grows v) (λ w. Grows v (with_tree s t w)) (λ w k. record { lines = k.lines; log = k.log }) (cuts_removed v c s removed)
    (removal_grows v c s removed)))

effect_grows : (v : Volume) (c : ClientId) (ask : Ask) → OnSome (GrowsTo v) (effect v c ask)
effect_grows v c (asks.Write f p bytes) = result_grows v answers.Written _ (entry_grows v f (entry c (asks.Write f p bytes) fates.Open))
effect_grows v c (asks.Patch f p at bytes) = result_grows v answers.Written _ (entry_grows v f (entry c (asks.Patch f p at bytes) fates.Open))
effect_grows v c (asks.Read f p) = tt
effect_grows v c (asks.Sync f) = tt
effect_grows v c (asks.Cut f p) = result_grows v answers.Cut _ (cut_grows v c f p)
effect_grows v c (asks.Name s ask) = on_then (GrowsTo v) (made v c s) _ (on_all _ (λ m. made_grows v c s m) _)

grown : (v : Volume) (a : Pending) (r : Volume × AppAnswer) → Told v → GrowsTo v r → Near (notice (done a r))
grown v a (u, answer) m k = go k.log
  where
    go : (length u.log ≡ length v.log) ⊎ (length u.log ≡ suc (length v.log)) → (u.lines ≡ length u.log) ⊎ (suc u.lines ≡ length u.log)
    go (inl e) = inl (k.lines ∙ (m ∙ sym e))
    go (inr e) = inr (ap suc (k.lines ∙ m) ∙ sym e)

takes_near : (v : Volume) (a : Pending) → Told v → OnSome (λ u. Near (notice u)) (takes v a)
takes_near v a m =
    on_else (λ u. Near (notice u)) _ _
    (on_map (λ u. Near (notice u)) (done a) (effect v a.client a.ask)
    (on_more (GrowsTo v) (λ r. Near (notice (done a r))) (λ r k. grown v a r m k) (effect v a.client a.ask) (effect_grows v a.client a.ask)))

pub effect_near : (v : Volume) (c : ClientId) (op : ℕ) → OnSome Near (step v (kinds.TakesEffect c op))
effect_near v c op =
    on_true Near (v.lines == length v.log) (acts v (kinds.TakesEffect c op))
    (λ m. on_map Near notice (option_and_then (takes v) (find (is_ask c op) (v.pending ++ v.orphans)))
    (on_then (λ u. Near (notice u)) (takes v) (find (is_ask c op) (v.pending ++ v.orphans))
    (on_all (λ a. OnSome (λ u. Near (notice u)) (takes v a)) (λ a. takes_near v a (eqb-true v.lines (length v.log) m))
    (find (is_ask c op) (v.pending ++ v.orphans)))))

-- Several steps.
pub one_then : (it : VolumeStep) (its : List VolumeStep) (v : Volume) → is_kept it ≡ true → Near v → ((u : Volume) → Told u → OnSome Told (run its u)) →
    OnSome Told (run (it ∷ its) v)
unfolding run
one_then it its v q h k = on_then Told (run its) (step v it) (on_more Told (λ u. OnSome Told (run its u)) k (step v it) (step_told v it q h))

pub two_then : (c : ClientId) (op : ℕ) (it : VolumeStep) (its : List VolumeStep) (v : Volume) → is_kept it ≡ true →
    ((u : Volume) → Told u → OnSome Told (run its u)) → OnSome Told (run (kinds.TakesEffect c op ∷ it ∷ its) v)
unfolding run
two_then c op it its v q k =
    on_then Told (run (it ∷ its)) (step v (kinds.TakesEffect c op))
    (on_more Near (λ u. OnSome Told (run (it ∷ its) u)) (λ u h. one_then it its u q h k) (step v (kinds.TakesEffect c op)) (effect_near v c op))

pub kept_told : (its : List VolumeStep) (v : Volume) → list_all is_kept its ≡ true → Told v → OnSome Told (run its v)
unfolding run
kept_told [] v q h = h
kept_told (it ∷ its) v q h =
    let b = and_true (is_kept it) (list_all is_kept its) q in
    on_then Told (run its) (step v it)
    (on_more Told (λ u. OnSome Told (run its u)) (λ u k. kept_told its u b.1 k) (step v it) (step_told v it b.0 (inl h)))

pub one_near : (v : Volume) (c : ClientId) (op : ℕ) → OnSome Near (run (kinds.TakesEffect c op ∷ []) v)
unfolding run
one_near v c op = on_then Near (run []) (step v (kinds.TakesEffect c op)) (effect_near v c op)

-- What is seen of an event itself holds none.
failure_kept : (k : IssuedCommand) (carries : Option Carried) → list_all is_kept (failure k carries ∷ []) ≡ true
failure_kept k None = refl
failure_kept k (Some x) = refl

told_kept : (k : IssuedCommand) (site : Option WorldClient) → list_all is_kept (failure_told k site) ≡ true
told_kept k None = refl
told_kept k (Some site) = go (is_same_instance k site)
  where
    go : (b : Bool) → list_all is_kept (if b then failure k k.carries ∷ [] else []) ≡ true
    go true = failure_kept k k.carries
    go false = refl

failed_kept : (w : World) (k : Option IssuedCommand) → list_all is_kept (failure_of w k) ≡ true
failed_kept w None = refl
failed_kept w (Some k) = told_kept k (site_of w k.client)

pub event_kept : (w : World) (e : Event) → list_all is_kept (of_event w e) ≡ true
unfolding of_event
event_kept w (events.App c ask) = refl
event_kept w (events.Tick n) = refl
event_kept w (events.Deliver k) = refl
event_kept w (events.Lose k) = refl
event_kept w (events.Cut from to) = refl
event_kept w (events.Heal from to) = refl
event_kept w (events.Advance increments) = refl
event_kept w (events.Effect k) = refl
event_kept w (events.Report k true) = refl
event_kept w (events.Report k false) = failed_kept w (issued_of w k)
event_kept w (events.Crash (nodes.Client c)) = refl
event_kept w (events.Crash (nodes.Server s)) = refl
event_kept w (events.Start (nodes.Client c)) = refl
event_kept w (events.Start (nodes.Server s)) = refl

-- Lines: an effect is followed by its line; and if there is a line of a cut, each entry has had its line after it.
module _ (w : World) where
  pub lines_told : (os : List Observation) (v : Volume) → Told v → OnSome Told (run (of_lines w os) v)
  unfolding of_lines before_line of_line run
  lines_told [] v h = h
  lines_told (seen.Wrote i c f p bytes ∷ os) v h =
      two_then c (next_op os) (kinds.Joined i (Some c) (asks.Write f p bytes)) (of_lines w os) v refl (λ u k. lines_told os u k)
  lines_told (seen.Patched i c f p at bytes ∷ os) v h =
      two_then c (next_op os) (kinds.Joined i (Some c) (asks.Patch f p at bytes)) (of_lines w os) v refl (λ u k. lines_told os u k)
  lines_told (seen.CutAt i f p ∷ os) v h = one_then (kinds.Joined i None (asks.Cut f p)) (of_lines w os) v refl (inl h) (λ u k. lines_told os u k)
  lines_told (seen.Hardened i ∷ os) v h = one_then (kinds.Hardened i) (of_lines w os) v refl (inl h) (λ u k. lines_told os u k)
  lines_told (seen.Dropped i cause ∷ os) v h = one_then (kinds.Dropped i (cause_of w cause)) (of_lines w os) v refl (inl h) (λ u k. lines_told os u k)
  lines_told (seen.Answered c op answer ∷ os) v h = one_then (kinds.Answered c op answer) (of_lines w os) v refl (inl h) (λ u k. lines_told os u k)
  lines_told (seen.Sent k m ∷ os) v h = lines_told os v h
  lines_told (seen.Submitted k c number what ∷ os) v h = lines_told os v h
  lines_told (seen.Leased c s end ∷ os) v h = lines_told os v h
  lines_told (seen.Lost c s life ∷ os) v h = lines_told os v h
  lines_told (seen.Suspected s c start ∷ os) v h = lines_told os v h
  lines_told (seen.Stolen s c life ∷ os) v h = lines_told os v h

  pub lines_end : (os : List Observation) (v : Volume) → list_any is_cut_line os ≡ true → Near v → OnSome Told (run (of_lines w os) v)
  unfolding of_lines before_line of_line run
  lines_end [] v q h = cc
  lines_end (seen.Wrote i c f p bytes ∷ os) v q h =
      two_then c (next_op os) (kinds.Joined i (Some c) (asks.Write f p bytes)) (of_lines w os) v refl (λ u k. lines_told os u k)
  lines_end (seen.Patched i c f p at bytes ∷ os) v q h =
      two_then c (next_op os) (kinds.Joined i (Some c) (asks.Patch f p at bytes)) (of_lines w os) v refl (λ u k. lines_told os u k)
  lines_end (seen.CutAt i f p ∷ os) v q h = one_then (kinds.Joined i None (asks.Cut f p)) (of_lines w os) v refl h (λ u k. lines_told os u k)
  lines_end (seen.Hardened i ∷ os) v q h = one_then (kinds.Hardened i) (of_lines w os) v refl h (λ u k. lines_told os u k)
  lines_end (seen.Dropped i cause ∷ os) v q h = one_then (kinds.Dropped i (cause_of w cause)) (of_lines w os) v refl h (λ u k. lines_told os u k)
  lines_end (seen.Answered c op answer ∷ os) v q h = one_then (kinds.Answered c op answer) (of_lines w os) v refl h (λ u k. lines_told os u k)
  lines_end (seen.Sent k m ∷ os) v q h = lines_end os v q h
  lines_end (seen.Submitted k c number what ∷ os) v q h = lines_end os v q h
  lines_end (seen.Leased c s end ∷ os) v q h = lines_end os v q h
  lines_end (seen.Lost c s life ∷ os) v q h = lines_end os v q h
  lines_end (seen.Suspected s c start ∷ os) v q h = lines_end os v q h
  lines_end (seen.Stolen s c life ∷ os) v q h = lines_end os v q h
