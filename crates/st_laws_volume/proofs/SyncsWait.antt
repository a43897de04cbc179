-- A sync that is open has no result: it never takes effect.
use Rattle.st_lemmas.proofs.Words
use Words.{◌≡◌, ℕ, zero, suc, ◌++◌, Bool, true, false, not, ◌&&◌, ◌||◌, ◌==◌, List, [], ◌∷◌, Option, Some, None, refl, sym, ap, ◌∙◌, subst, if◌then◌else◌}
use Words.{eqb-true, filter, find, is_some, length, list_all, map, option_and_then, ClientId, AppAnswer, Ask}
use Words.answers
use Words.asks
use Words.Lists.{Has}
use Words.Lookups.{or_right, some_is}
use Words.Tables.{all_pass, and_both, and_true, each_passes, found_at, has_filter, has_map, not_true}
use Words.Truth.{clash, client_is}
use Words.World as world
use Rattle.st_laws_volume.specs.Options.{OnSome}
use Rattle.st_laws_volume.specs.StepKinds.{is_effect}
use Rattle.st_laws_volume.proofs.AskedAsks.{AreOf, Asked, IsOf, Leaves, all_both, all_has, effect_leaves, step_right}
use Rattle.st_laws_volume.proofs.AsksTaken.{is_other}
use Rattle.st_laws_volume.proofs.ChangeLines.{on_both}
use Rattle.st_laws_volume.proofs.ToldSteps.{is_kept}
use Rattle.st_laws_volume.proofs.Options.{on_all, on_else, on_if, on_map, on_more, on_then}
use Rattle.st_volume.specs.declared.step.VolumeStep.{VolumeStep}
use Rattle.st_volume.specs.declared.step.VolumeStep.TheVariants as kinds
use Rattle.st_volume.specs.declared.step.Fate.{Fate}
use Rattle.st_volume.specs.declared.step.Fate.TheVariants as fates
use Rattle.st_volume.specs.Pages.{Entry, is_cause, place_of, failed_up_to}
use Rattle.st_volume.specs.Volume.{Pending, Volume, acts, after_answer, answered, answers_so, arrived, closed, done, effect, ends, failed, failing, fails, is_ask, is_of_client, is_read_of, is_sync, is_sync_of, new_ask, notice, noticing, numbered, resulting, run, step, takes, with_changed, with_fate}

abbrev pub waits : Pending → Bool
waits a = not (is_sync a.ask) || not (is_some a.result)

abbrev pub AllWait : Volume → Type 0
AllWait v = list_all waits v.pending ≡ true

mapped : (p : Pending → Bool) (f : Pending → Pending) → ((a : Pending) → p (f a) ≡ p a) → (xs : List Pending) → list_all p (map f xs) ≡ list_all p xs
mapped p f h [] = refl
mapped p f h (a ∷ xs) = ap (λ b. b && list_all p (map f xs)) (h a) ∙ ap (λ b. p a && b) (mapped p f h xs)

filtered : (p q : Pending → Bool) (xs : List Pending) → list_all p xs ≡ true → list_all p (filter q xs) ≡ true
filtered p q xs h = all_pass p (filter q xs) (λ a i. each_passes p xs h a (has_filter q xs a i).0)

all_last : (p : Pending → Bool) (xs : List Pending) (a : Pending) → list_all p xs ≡ true → p a ≡ true → list_all p (xs ++ a ∷ []) ≡ true
all_last p [] a h q = and_both (p a) true q refl
all_last p (x ∷ xs) a h q = let b = and_true (p x) (list_all p xs) h in and_both (p x) (list_all p (xs ++ a ∷ [])) b.0 (all_last p xs a b.1 q)

noticed : (v : Volume) → AllWait v → AllWait (notice v)
noticed v h = mapped waits (noticing v) (λ a. refl) v.pending ∙ h

failing_waits : (d : ClientId) (number : ℕ) (test : Ask → Bool) (v : Volume) → AllWait v → AllWait (failing v d number test)
failing_waits d number test v h = mapped waits (fails d number test) one v.pending ∙ h
  where
    one : (a : Pending) → waits (fails d number test a) ≡ waits a
    one a = go (is_of_client d a && test a.ask)
      where
        go : (b : Bool) → waits (if b then record a { faults = number ∷ a.faults } else a) ≡ waits a
        go true = refl
        go false = refl

-- an answer leaves the other asks
after_waits : (v : Volume) (a : Pending) (answer : AppAnswer) → AllWait v → AllWait (after_answer v a answer)
after_waits v a answers.Hard h = h
after_waits v a (answers.Lost rows) h = h
after_waits v a (answers.Read bytes) h = h
after_waits v a (answers.Uncertain old zero) h = h
after_waits v a (answers.Uncertain old (suc new)) h = h
after_waits v a answers.Written h = h
after_waits v a answers.Cut h = h
after_waits v a answers.Quiesced h = h
after_waits v a answers.NoFile h = h
after_waits v a (answers.NoSpace n m) h = h
after_waits v a (answers.DiskFault n) h = h
after_waits v a answers.OpsFull h = h
after_waits v a answers.DirtyFull h = h
after_waits v a answers.NotHolder h = h
after_waits v a answers.TooManyLocks h = h
after_waits v a (answers.Named ino) h = h
after_waits v a (answers.Listed rows) h = h
after_waits v a (answers.Refused code) h = h

closes : (v : Volume) (a : Pending) → AllWait v → AllWait (closed a v)
closes v a h = filtered waits (λ b. not (is_ask a.client a.op b)) v.pending h

fate_waits : (v : Volume) (i : ℕ) (test : Entry → Bool) (fate : Fate) → AllWait v → OnSome AllWait (with_fate v i test fate)
fate_waits v i test fate h =
    on_map AllWait (with_changed v i) (option_and_then (ends test fate) (numbered v.log i))
    (on_all (λ e. AllWait (with_changed v i e)) (λ e. h) (option_and_then (ends test fate) (numbered v.log i)))

module _ (as_ : Asked) where
  -- asks with one number are the same ask
  one_ask : (a b : Pending) → IsOf as_ a → IsOf as_ b → is_ask a.client a.op b ≡ true → b.ask ≡ a.ask
  one_ask a b i j q =
      let k = and_true (b.client.0 == a.client.0) (b.op == a.op) q in
      some_is (sym j ∙
      (ap (λ c. world.numbered (as_ c) b.op) (client_is b.client a.client k.0) ∙ (ap (λ n. world.numbered (as_ a.client) n) (eqb-true b.op a.op k.1) ∙ i)))

  -- what takes effect isn't a sync
  done_waits : (v : Volume) (r : AreOf as_ v) (a : Pending) → IsOf as_ a → is_sync a.ask ≡ false → (y : Volume × AppAnswer) → Leaves v y → AllWait v →
      AllWait (notice (done a y))
  done_waits v r a i n (u, answer) k h =
      noticed (done a (u, answer))
      (all_pass waits (map (resulting a answer) u.pending)
      (λ b j. let z = has_map (resulting a answer) u.pending b j in
      subst (λ (c : Pending). waits c ≡ true) (sym z.2)
      (one z.0 (subst (Has z.0) k.pending z.1) (is_ask a.client a.op z.0) refl)))
    where
      one : (b : Pending) → Has b v.pending → (t : Bool) → is_ask a.client a.op b ≡ t → waits (if t then record b { result = Some answer } else b) ≡ true
      one b j false q = each_passes waits v.pending h b j
      one b j true q =
          ap (λ ask. not (is_sync ask) || false) (one_ask a b i (all_has as_ v.pending b r.pending j) q) ∙ ap (λ t. not t || false) n

  effect_waits : (v : Volume) (r : AreOf as_ v) (a : Pending) → IsOf as_ a → (ask : Ask) → a.ask ≡ ask → AllWait v →
      OnSome (λ y. AllWait (notice (done a y))) (effect v a.client ask)
  effect_waits v r a i (asks.Sync f) e h = tt
  effect_waits v r a i (asks.Read f p) e h = tt
  effect_waits v r a i (asks.Write f p bytes) e h =
      on_more (Leaves v) (λ y. AllWait (notice (done a y))) (λ y k. done_waits v r a i (ap is_sync e) y k h) (effect v a.client (asks.Write f p bytes))
      (effect_leaves v a.client (asks.Write f p bytes))
  effect_waits v r a i (asks.Patch f p at bytes) e h =
      on_more (Leaves v) (λ y. AllWait (notice (done a y))) (λ y k. done_waits v r a i (ap is_sync e) y k h) (effect v a.client (asks.Patch f p at bytes))
      (effect_leaves v a.client (asks.Patch f p at bytes))
  effect_waits v r a i (asks.Cut f p) e h =
      on_more (Leaves v) (λ y. AllWait (notice (done a y))) (λ y k. done_waits v r a i (ap is_sync e) y k h) (effect v a.client (asks.Cut f p))
      (effect_leaves v a.client (asks.Cut f p))
  effect_waits v r a i (asks.Name s ask) e h =
      on_more (Leaves v) (λ y. AllWait (notice (done a y))) (λ y k. done_waits v r a i (ap is_sync e) y k h) (effect v a.client (asks.Name s ask))
      (effect_leaves v a.client (asks.Name s ask))

  takes_wait : (v : Volume) (c : ClientId) (op : ℕ) → AreOf as_ v → AllWait v →
      OnSome (λ a. OnSome (λ u. AllWait (notice u)) (takes v a)) (find (is_ask c op) (v.pending ++ v.orphans))
  takes_wait v c op r h = go (find (is_ask c op) (v.pending ++ v.orphans)) refl
    where
      go : (o : Option Pending) → find (is_ask c op) (v.pending ++ v.orphans) ≡ o → OnSome (λ a. OnSome (λ u. AllWait (notice u)) (takes v a)) o
      go None q = tt
      go (Some a) q =
          let i = all_has as_ (v.pending ++ v.orphans) a (all_both as_ v.pending v.orphans r.pending r.orphans)
          (found_at (is_ask c op) (v.pending ++ v.orphans) a q).1 in
          on_else (λ u. AllWait (notice u)) _ _ (on_map (λ u. AllWait (notice u)) (done a) (effect v a.client a.ask) (effect_waits v r a i a.ask refl h))

  acts_wait : (v : Volume) (it : VolumeStep) → (is_effect it ≡ true → AreOf as_ v) → AllWait v → OnSome AllWait (acts v it)
  acts_wait v (kinds.Asked c ask) r h =
      on_if AllWait _ (Some (notice (arrived v c ask)))
      (noticed (arrived v c ask) (all_last waits v.pending (new_ask v c ask) h (or_right (not (is_sync ask)) true refl)))
  acts_wait v (kinds.TakesEffect c op) r h =
      on_map AllWait notice (option_and_then (takes v) (find (is_ask c op) (v.pending ++ v.orphans)))
      (on_then (λ u. AllWait (notice u)) (takes v) (find (is_ask c op) (v.pending ++ v.orphans)) (takes_wait v c op (r refl) h))
  acts_wait v (kinds.Answered c op answer) r h =
      on_then AllWait (answered v answer) (find (is_ask c op) v.pending)
      (on_all (λ a. OnSome AllWait (answered v answer a))
      (λ a. on_if AllWait (answers_so v a answer a.result) (Some (closed a (after_answer v a answer)))
      (closes (after_answer v a answer) a (after_waits v a answer h)))
      (find (is_ask c op) v.pending))
  acts_wait v (kinds.Hardened i) r h = fate_waits v i (λ e. true) fates.Hard h
  acts_wait v (kinds.Dropped i cause) r h = fate_waits v i (is_cause cause) fates.Dropped h
  acts_wait v (kinds.Crashed c) r h = filtered waits (λ a. not (is_of_client c a)) v.pending h
  acts_wait v (kinds.Restarted s) r h = h
  acts_wait v (kinds.WriteFailed c number i) r h =
      on_map AllWait (failed v c number i) (option_and_then (λ e. place_of e.what) (numbered v.log i))
      (on_all (λ x. AllWait (failed v c number i x)) (λ x. failing_waits c number (is_sync_of x.0) (record v { log = failed_up_to i c number x v.log }) h)
      (option_and_then (λ e. place_of e.what) (numbered v.log i)))
  acts_wait v (kinds.ReadFailed c s number) r h = failing_waits c number (is_read_of s) v h
  acts_wait v (kinds.Joined i c what) r h = tt

  pub step_waits : (v : Volume) (it : VolumeStep) → (is_effect it ≡ true → AreOf as_ v) → AllWait v → OnSome AllWait (step v it)
  step_waits v (kinds.Joined i c what) r h = on_if AllWait _ (Some (record v { lines = i })) h
  step_waits v (kinds.Asked c ask) r h = on_if AllWait (v.lines == length v.log) (acts v (kinds.Asked c ask)) (acts_wait v (kinds.Asked c ask) r h)
  step_waits v (kinds.TakesEffect c op) r h = on_if AllWait (v.lines == length v.log) (acts v (kinds.TakesEffect c op))
      (acts_wait v (kinds.TakesEffect c op) r h)
  step_waits v (kinds.Answered c op answer) r h =
      on_if AllWait (v.lines == length v.log) (acts v (kinds.Answered c op answer)) (acts_wait v (kinds.Answered c op answer) r h)
  step_waits v (kinds.Hardened i) r h = on_if AllWait (v.lines == length v.log) (acts v (kinds.Hardened i)) (acts_wait v (kinds.Hardened i) r h)
  step_waits v (kinds.Dropped i cause) r h = on_if AllWait (v.lines == length v.log) (acts v (kinds.Dropped i cause)) (acts_wait v (kinds.Dropped i cause) r h)
  step_waits v (kinds.Crashed c) r h = on_if AllWait (v.lines == length v.log) (acts v (kinds.Crashed c)) (acts_wait v (kinds.Crashed c) r h)
  step_waits v (kinds.Restarted s) r h = on_if AllWait (v.lines == length v.log) (acts v (kinds.Restarted s)) (acts_wait v (kinds.Restarted s) r h)
  step_waits v (kinds.WriteFailed c number i) r h =
      on_if AllWait (v.lines == length v.log) (acts v (kinds.WriteFailed c number i)) (acts_wait v (kinds.WriteFailed c number i) r h)
  step_waits v (kinds.ReadFailed c s number) r h = on_if AllWait (v.lines == length v.log) (acts v (kinds.ReadFailed c s number))
      (acts_wait v (kinds.ReadFailed c s number) r h)

  -- steps other than effects, and steps other than asks
  pub kept_wait : (its : List VolumeStep) (v : Volume) → list_all is_kept its ≡ true → AllWait v → OnSome AllWait (run its v)
  unfolding run
  kept_wait [] v q h = h
  kept_wait (it ∷ its) v q h =
      let b = and_true (is_kept it) (list_all is_kept its) q in
      on_then AllWait (run its) (step v it)
      (on_more AllWait (λ u. OnSome AllWait (run its u)) (λ u k. kept_wait its u b.1 k) (step v it)
      (step_waits v it (λ e. clash e (not_true (is_effect it) b.0)) h))

  pub other_wait : (its : List VolumeStep) (v : Volume) → list_all is_other its ≡ true → AreOf as_ v → AllWait v → OnSome AllWait (run its v)
  unfolding run
  other_wait [] v q r h = h
  other_wait (it ∷ its) v q r h =
      let b = and_true (is_other it) (list_all is_other its) q in
      on_then AllWait (run its) (step v it)
      (on_more (λ u. AreOf as_ u × AllWait u) (λ u. OnSome AllWait (run its u)) (λ u k. other_wait its u b.1 k.0 k.1) (step v it)
      (on_both (AreOf as_) AllWait (step v it) (step_right as_ v it b.0 r) (step_waits v it (λ e. r) h)))
