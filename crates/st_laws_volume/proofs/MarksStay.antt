-- What open asks have noticed they don't forget: no step of the volume takes such a mark from an ask that had come before.
use Rattle.std.proofs.Common.{◌≡◌, ◌≤◌, arith, ◌⊎◌, ℕ, ◌+◌, Bool, true, false, not, ◌&&◌, ◌||◌, ◌==◌, List, [], ◌∷◌, ◌++◌, length, map, Option, Some, None, refl, sym, ap, ◌∙◌, subst, inl, inr, if◌then◌else◌}
use Rattle.std.specs.Prelude.{cond, filter, find, is_some, nat_le, nat_lt, option_and_then, option_map}
use Rattle.std.specs.List.{list_all, list_any}
use Rattle.std.proofs.lemmas.Bool.{leb-true}
use Rattle.st_base.specs.declared.ids.ClientId.{ClientId}
use Rattle.st_messages.specs.declared.answer.AppAnswer.{AppAnswer}
use Rattle.st_messages.specs.declared.ask.Ask.{Ask}
use Rattle.st_rules.specs.Safety.{Step}
use Rattle.st_lemmas.specs.Lists.{Has}
use Rattle.st_lemmas.proofs.Lookups.{or_left, or_right}
use Rattle.st_lemmas.proofs.Tables.{all_pass, each_passes, has_append, has_filter, has_map}
use Rattle.st_lemmas.proofs.Truth.{client_is}
use Rattle.st_laws_volume.specs.Options.{OnSome}
use Rattle.st_laws_volume.specs.Witness.{Witness, if_told, steps_of, volume_after}
use Rattle.st_laws_volume.proofs.AskSteps.{Leaves, after_keeps, effect_keeps}
use Rattle.st_laws_volume.proofs.Options.{on_all, on_else, on_if, on_map, on_more, on_then}
use Rattle.st_volume.specs.declared.step.Fate.{Fate}
use Rattle.st_volume.specs.declared.step.Fate.TheVariants as fates
use Rattle.st_volume.specs.declared.step.VolumeStep.{VolumeStep}
use Rattle.st_volume.specs.declared.step.VolumeStep.TheVariants as kinds
use Rattle.st_volume.specs.Pages.{Entry, is_any, is_cause, place_of}
use Rattle.st_volume.specs.Volume as volume
use Rattle.st_volume.specs.Volume.{Pending, Volume, acts, after_answer, answered, answers_so, arrived, closed, done, effect, ends, exists, failed, fails, file_of, is_ask, is_before, is_full, is_of_client, is_read_of, is_sync_of, names_other, new_ask, notice, noticing, numbered, open_of, resulting, run, server_of, takes, tree_of, with_changed, with_fate}

all_mapped : (p : Pending → Bool) (f : Pending → Pending) → ((a : Pending) → p a ≡ true → p (f a) ≡ true) → (xs : List Pending) →
    list_all p xs ≡ true → list_all p (map f xs) ≡ true
all_mapped p f h xs k = all_pass p (map f xs) (λ b i. let z = has_map f xs b i in ap p z.2 ∙ h z.0 (each_passes p xs k z.0 z.1))

all_filtered : (p q : Pending → Bool) (xs : List Pending) → list_all p xs ≡ true → list_all p (filter q xs) ≡ true
all_filtered p q xs h = all_pass p (filter q xs) (λ a i. each_passes p xs h a (has_filter q xs a i).0)

all_joined : (p : Pending → Bool) (xs : List Pending) (a : Pending) → list_all p xs ≡ true → p a ≡ true → list_all p (xs ++ a ∷ []) ≡ true
all_joined p xs a h k = all_pass p (xs ++ a ∷ []) (λ b i. go b (has_append xs (a ∷ []) b i))
  where
    go : (b : Pending) → Has b xs ⊎ Has b (a ∷ []) → p b ≡ true
    go b (inl i) = each_passes p xs h b i
    go b (inr (inl e)) = ap p e ∙ k
    go b (inr (inr i)) = absurd i

-- A mark that is made of what an ask has noticed (that its file is missing, that its server is full, and that another file has the name), and that lasts while
-- more is noticed.
abbrev pub Lasts : (Bool → Bool → Bool → Bool) → Type 0
Lasts pick = (p q r x y z : Bool) → pick p q r ≡ true → pick (p || x) (q || y) (r || z) ≡ true

-- The open asks of a client that pass a test, and were among its first ones, have a mark; and the client had as many asks.
module _ (c : ClientId) (n : ℕ) (which : Ask → Bool) (pick : Bool → Bool → Bool → Bool) (lasts : Lasts pick) where
  abbrev pub marked : Pending → Bool
  marked a = not (which a.ask) || (not (is_of_client c a && nat_le a.op n) || pick a.missed a.full a.other)

  abbrev pub AllMarked : Volume → Type 0
  AllMarked v = (list_all marked v.pending ≡ true) × (n ≤ length (filter (λ x. x.0.0 == c.0) v.asked))

  noticed : (v : Volume) → AllMarked v → AllMarked (notice v)
  noticed v h = (all_mapped marked (noticing v) (λ a k. one a (which a.ask) (is_of_client c a && nat_le a.op n) k) v.pending h.0, h.1)
    where
      one : (a : Pending) (s t : Bool) → (not s || (not t || pick a.missed a.full a.other)) ≡ true →
          (not s || (not t || pick (a.missed || (nat_lt 0 (file_of a.ask).ino && not (exists v (file_of a.ask)))) (a.full || is_full v (server_of a.ask))
          (a.other || is_any (names_other a.ask) (tree_of v (server_of a.ask))))) ≡ true
      one a false t k = refl
      one a true false k = refl
      one a true true k = lasts a.missed a.full a.other _ _ _ k

  -- an ask that comes is a later one
  comes : (v : Volume) (d : ClientId) (ask : Ask) → AllMarked v → AllMarked (arrived v d ask)
  comes v d ask h = (
    all_joined marked v.pending (new_ask v d ask) h.0
        (or_right (not (which ask)) _ (or_left (not ((d.0 == c.0) && nat_le (m + 1) n)) _ (ap not (later (d.0 == c.0) refl)))),
    more (d.0 == c.0),
  )
    where
      m : ℕ
      m = length (filter (λ x. x.0.0 == d.0) v.asked)

      low : n ≤ m → (b : Bool) → nat_le (m + 1) n ≡ b → nat_le (m + 1) n ≡ false
      low l false q = q
      low l true q = let y = leb-true (m + 1) n q in absurd (no l y)
        where
          no : n ≤ m → m + 1 ≤ n → ⊥
          no l y = omega (arith, l, y)

      later : (b : Bool) → (d.0 == c.0) ≡ b → ((d.0 == c.0) && nat_le (m + 1) n) ≡ false
      later false e = ap (λ b. b && nat_le (m + 1) n) e
      later true e =
          ap (λ b. b && nat_le (m + 1) n) e
          ∙ low (subst (λ (y : ClientId). n ≤ length (filter (λ x. x.0.0 == y.0) v.asked)) (sym (client_is d c e)) h.1) (nat_le (m + 1) n) refl

      more : (b : Bool) → n ≤ length (cond b ((d, file_of ask) ∷ filter (λ x. x.0.0 == c.0) v.asked) (filter (λ x. x.0.0 == c.0) v.asked))
      more true = let l = h.1 in omega (arith, l)
      more false = h.1

  -- an ask takes effect
  done_marked : (v : Volume) (a : Pending) (y : Volume × AppAnswer) → Leaves v y → AllMarked v → AllMarked (done a y)
  done_marked v a y k h = (
    all_mapped marked (resulting a y.1) (λ b q. same b (is_ask a.client a.op b) q) y.0.pending (ap (list_all marked) k.pending ∙ h.0),
    subst (λ xs. n ≤ length (filter (λ x. x.0.0 == c.0) xs)) (sym k.asked) h.1,
  )
    where
      same : (b : Pending) (t : Bool) → marked b ≡ true → marked (if t then record b { result = Some y.1 } else b) ≡ true
      same b true q = q
      same b false q = q

  effect_marked : (v : Volume) (d : ClientId) (number : ℕ) → AllMarked v → OnSome AllMarked (acts v (kinds.TakesEffect d number))
  effect_marked v d number h =
      on_map AllMarked notice (option_and_then (takes v) (find (is_ask d number) (v.pending ++ v.orphans)))
      (on_then (λ u. AllMarked (notice u)) (takes v) (find (is_ask d number) (v.pending ++ v.orphans))
      (on_all (λ a. OnSome (λ u. AllMarked (notice u)) (takes v a))
      (λ a. on_else (λ u. AllMarked (notice u)) (is_some a.result || list_any (is_before a) v.pending) (option_map (done a) (effect v a.client a.ask))
      (on_map (λ u. AllMarked (notice u)) (done a) (effect v a.client a.ask)
      (on_more (Leaves v) (λ y. AllMarked (notice (done a y))) (λ y k. noticed (done a y) (done_marked v a y k h)) (effect v a.client a.ask)
      (effect_keeps v a.client a.ask)))) (find (is_ask d number) (v.pending ++ v.orphans))))

  fate_marked : (v : Volume) (i : ℕ) (test : Entry → Bool) (fate : Fate) → AllMarked v → OnSome AllMarked (with_fate v i test fate)
  fate_marked v i test fate h =
      on_map AllMarked (with_changed v i) (option_and_then (ends test fate) (numbered v.log i))
      (on_all (λ e. AllMarked (with_changed v i e)) (λ e. h) (option_and_then (ends test fate) (numbered v.log i)))

  failed_marks : (d : ClientId) (number : ℕ) (test : Ask → Bool) (xs : List Pending) → list_all marked xs ≡ true →
      list_all marked (map (fails d number test) xs) ≡ true
  failed_marks d number test xs h = all_mapped marked (fails d number test) (λ a q. same a (is_of_client d a && test a.ask) q) xs h
    where
      same : (a : Pending) (t : Bool) → marked a ≡ true → marked (if t then record a { faults = number ∷ a.faults } else a) ≡ true
      same a true q = q
      same a false q = q

  closes : (v u : Volume) (a : Pending) → u.pending ≡ v.pending → u.asked ≡ v.asked → AllMarked v → AllMarked (closed a u)
  closes v u a p q h = (
    all_filtered marked (λ b. not (is_ask a.client a.op b)) u.pending (ap (list_all marked) p ∙ h.0),
    subst (λ xs. n ≤ length (filter (λ x. x.0.0 == c.0) xs)) (sym q) h.1,
  )

  acts_marked : (v : Volume) (it : VolumeStep) → AllMarked v → OnSome AllMarked (acts v it)
  acts_marked v (kinds.Asked d ask) h =
      on_if AllMarked (nat_le (length (open_of v d)) 16) (Some (notice (arrived v d ask))) (noticed (arrived v d ask) (comes v d ask h))
  acts_marked v (kinds.TakesEffect d number) h = effect_marked v d number h
  acts_marked v (kinds.Answered d number answer) h =
      on_then AllMarked (answered v answer) (find (is_ask d number) v.pending)
      (on_all (λ a. OnSome AllMarked (answered v answer a))
      (λ a. on_if AllMarked (answers_so v a answer a.result) (Some (closed a (after_answer v a answer)))
      (closes v (after_answer v a answer) a (after_keeps v a answer).pending (after_keeps v a answer).asked h))
      (find (is_ask d number) v.pending))
  acts_marked v (kinds.Hardened i) h = fate_marked v i (λ e. true) fates.Hard h
  acts_marked v (kinds.Dropped i cause) h = fate_marked v i (is_cause cause) fates.Dropped h
  acts_marked v (kinds.Crashed d) h = (all_filtered marked (λ a. not (is_of_client d a)) v.pending h.0, h.1)
  acts_marked v (kinds.Restarted s) h = h
  acts_marked v (kinds.WriteFailed d number i) h =
      on_map AllMarked (failed v d number i) (option_and_then (λ e. place_of e.what) (numbered v.log i))
      (on_all (λ x. AllMarked (failed v d number i x)) (λ x. (failed_marks d number (is_sync_of x.0) v.pending h.0, h.1))
      (option_and_then (λ e. place_of e.what) (numbered v.log i)))
  acts_marked v (kinds.ReadFailed d s number) h = (failed_marks d number (is_read_of s) v.pending h.0, h.1)
  acts_marked v (kinds.Joined i d what) h = tt

  pub step_marked : (v : Volume) (it : VolumeStep) → AllMarked v → OnSome AllMarked (volume.step v it)
  step_marked v (kinds.Joined i d what) h = on_if AllMarked _ (Some (record v { lines = i })) h
  step_marked v (kinds.Asked d ask) h = on_if AllMarked (v.lines == length v.log) (acts v (kinds.Asked d ask)) (acts_marked v (kinds.Asked d ask) h)
  step_marked v (kinds.TakesEffect d number) h =
      on_if AllMarked (v.lines == length v.log) (acts v (kinds.TakesEffect d number)) (acts_marked v (kinds.TakesEffect d number) h)
  step_marked v (kinds.Answered d number answer) h =
      on_if AllMarked (v.lines == length v.log) (acts v (kinds.Answered d number answer)) (acts_marked v (kinds.Answered d number answer) h)
  step_marked v (kinds.Hardened i) h = on_if AllMarked (v.lines == length v.log) (acts v (kinds.Hardened i)) (acts_marked v (kinds.Hardened i) h)
  step_marked v (kinds.Dropped i cause) h =
      on_if AllMarked (v.lines == length v.log) (acts v (kinds.Dropped i cause)) (acts_marked v (kinds.Dropped i cause) h)
  step_marked v (kinds.Crashed d) h = on_if AllMarked (v.lines == length v.log) (acts v (kinds.Crashed d)) (acts_marked v (kinds.Crashed d) h)
  step_marked v (kinds.Restarted s) h = on_if AllMarked (v.lines == length v.log) (acts v (kinds.Restarted s)) (acts_marked v (kinds.Restarted s) h)
  step_marked v (kinds.WriteFailed d number i) h =
      on_if AllMarked (v.lines == length v.log) (acts v (kinds.WriteFailed d number i)) (acts_marked v (kinds.WriteFailed d number i) h)
  step_marked v (kinds.ReadFailed d s number) h =
      on_if AllMarked (v.lines == length v.log) (acts v (kinds.ReadFailed d s number)) (acts_marked v (kinds.ReadFailed d s number) h)

  pub run_marked : (its : List VolumeStep) (v : Volume) → AllMarked v → OnSome AllMarked (run its v)
  unfolding run
  run_marked [] v h = h
  run_marked (it ∷ its) v h =
      on_then AllMarked (run its) (volume.step v it)
      (on_more AllMarked (λ u. OnSome AllMarked (run its u)) (λ u k. run_marked its u k) (volume.step v it) (step_marked v it h))

  -- an event
  pub after_marked : (it : Witness) (x : Step) (o : Option Volume) → OnSome AllMarked o → OnSome AllMarked (volume_after it x o)
  after_marked it x None h = tt
  after_marked it x (Some v) h =
      on_then AllMarked if_told (run (steps_of it v x) v)
      (on_more AllMarked (λ u. OnSome AllMarked (if_told u)) (λ u k. on_if AllMarked (u.lines == length u.log) (Some u) k) (run (steps_of it v x) v)
      (run_marked (steps_of it v x) v h))
