-- Which open asks have a result: those of which a fact is known, and between the line of a write or a patch and its answer the one that is answered next.
use Rattle.std.proofs.Common.{◌≡◌, ◌⊎◌, ℕ, arith, ◌+◌, Bool, true, false, not, ◌&&◌, ◌==◌, List, [], ◌∷◌, ◌++◌, length, map, Option, Some, None, refl, sym, ap, ◌∙◌, subst, inl, inr, if◌then◌else◌}
use Rattle.std.specs.Prelude.{filter, find, is_some, option_and_then, option_map}
use Rattle.std.specs.List.{list_all}
use Rattle.std.proofs.lemmas.Bool.{eqb-true}
use Rattle.st_base.specs.declared.ids.ClientId.{ClientId}
use Rattle.st_messages.specs.declared.answer.AppAnswer.{AppAnswer}
use Rattle.st_messages.specs.declared.answer.AppAnswer.TheVariants as answers
use Rattle.st_messages.specs.declared.ask.Ask.{Ask}
use Rattle.st_messages.specs.declared.ask.Ask.TheVariants as asks
use Rattle.st_rules.specs.declared.observation.Observation.{Observation}
use Rattle.st_rules.specs.declared.observation.Observation.TheVariants as seen
use Rattle.st_rules.specs.Safety.{all_followed, begins_written, is_followed}
use Rattle.st_rules.specs.World.{World}
use Rattle.st_lemmas.specs.Lists.{Has}
use Rattle.st_lemmas.proofs.Tables.{and_both, and_true, found_at, has_append, has_filter, has_map, not_true}
use Rattle.st_lemmas.proofs.Truth.{client_is, clash}
use Rattle.st_laws_volume.specs.Options.{OnSome}
use Rattle.st_laws_volume.specs.Seen.{cause_of, of_line}
use Rattle.st_laws_volume.specs.Witness.{before_line, next_op, of_lines}
use Rattle.st_laws_volume.proofs.AskSteps.{Leaves, after_keeps, effect_keeps}
use Rattle.st_laws_volume.proofs.Options.{on_all, on_else, on_if, on_map, on_more, on_then}
use Rattle.st_laws_volume.proofs.ReadRanges.{Written, written_is}
use Rattle.st_laws_volume.proofs.ToldSteps.{is_kept}
use Rattle.st_volume.specs.declared.step.VolumeStep.{VolumeStep}
use Rattle.st_volume.specs.declared.step.VolumeStep.TheVariants as kinds
use Rattle.st_volume.specs.declared.step.Fate.{Fate}
use Rattle.st_volume.specs.declared.step.Fate.TheVariants as fates
use Rattle.st_volume.specs.Pages.{Entry, failed_up_to, is_any, is_cause}
use Rattle.st_volume.specs.Volume as volume
use Rattle.st_volume.specs.Volume.{Pending, Volume, acts, after_answer, answered, answers_so, arrived, closed, done, effect, ends, failed, failing, fails, is_ask, is_of_client, is_read_of, is_sync_of, new_ask, notice, noticing, numbered, resulting, run, takes, with_changed, with_fate}

abbrev pub Closing : Type 0
Closing = Option (ClientId × ℕ)

module _ (S : ClientId → ℕ → Type 0) where
  abbrev pub Fine : Closing → Pending → Type 0
  Fine o a = is_some a.result ≡ true → S a.client a.op ⊎ (is_any (λ x. is_ask x.0 x.1 a) o ≡ true)

  abbrev pub AllFine : Closing → Volume → Type 0
  AllFine o v = (a : Pending) → Has a v.pending → Fine o a

  abbrev Each : Closing → List Pending → Type 0
  Each o xs = (a : Pending) → Has a xs → Fine o a

  each_mapped : (o : Closing) (f : Pending → Pending) → ((a : Pending) → Fine o a → Fine o (f a)) → (xs : List Pending) → Each o xs → Each o (map f xs)
  each_mapped o f k xs h a i = let z = has_map f xs a i in subst (Fine o) (sym z.2) (k z.0 (h z.0 z.1))

  each_filtered : (o : Closing) (p : Pending → Bool) (xs : List Pending) → Each o xs → Each o (filter p xs)
  each_filtered o p xs h a i = h a (has_filter p xs a i).0

  noticed : (o : Closing) (v : Volume) → AllFine o v → AllFine o (notice v)
  noticed o v h = each_mapped o (noticing v) (λ a k. k) v.pending h

  failing_fine : (o : Closing) (d : ClientId) (number : ℕ) (test : Ask → Bool) (v : Volume) → AllFine o v → AllFine o (failing v d number test)
  failing_fine o d number test v h = each_mapped o (fails d number test) one v.pending h
    where
      one : (a : Pending) → Fine o a → Fine o (fails d number test a)
      one a k = go (is_of_client d a && test a.ask)
        where
          go : (b : Bool) → Fine o (if b then record a { faults = number ∷ a.faults } else a)
          go true = k
          go false = k

  arrives : (o : Closing) (v : Volume) (c : ClientId) (ask : Ask) → AllFine o v → AllFine o (arrived v c ask)
  arrives o v c ask h a i = go (has_append v.pending (new_ask v c ask ∷ []) a i)
    where
      go : Has a v.pending ⊎ Has a (new_ask v c ask ∷ []) → Fine o a
      go (inl j) = h a j
      go (inr (inl e)) = subst (Fine o) (sym e) (λ q. cc q)
      go (inr (inr j)) = absurd j

  fate_fine : (o : Closing) (v : Volume) (i : ℕ) (test : Entry → Bool) (fate : Fate) → AllFine o v → OnSome (AllFine o) (with_fate v i test fate)
  fate_fine o v i test fate h =
      on_map (AllFine o) (with_changed v i) (option_and_then (ends test fate) (numbered v.log i))
      (on_all (λ e. AllFine o (with_changed v i e)) (λ e. h) (option_and_then (ends test fate) (numbered v.log i)))

  closes : (o : Closing) (v u : Volume) (a : Pending) → u.pending ≡ v.pending → AllFine o v → AllFine o (closed a u)
  closes o v u a k h = each_filtered o (λ b. not (is_ask a.client a.op b)) u.pending (subst (Each o) (sym k) h)

  acts_fine : (o : Closing) (v : Volume) (it : VolumeStep) → is_kept it ≡ true → AllFine o v → OnSome (AllFine o) (acts v it)
  acts_fine o v (kinds.Asked c ask) q h = on_if (AllFine o) _ (Some (notice (arrived v c ask))) (noticed o (arrived v c ask) (arrives o v c ask h))
  acts_fine o v (kinds.TakesEffect c op) q h = cc q
  acts_fine o v (kinds.Answered c op answer) q h =
      on_then (AllFine o) (answered v answer) (find (is_ask c op) v.pending)
      (on_all (λ a. OnSome (AllFine o) (answered v answer a))
      (λ a. on_if (AllFine o) (answers_so v a answer a.result) (Some (closed a (after_answer v a answer)))
      (closes o v (after_answer v a answer) a (after_keeps v a answer).pending h))
      (find (is_ask c op) v.pending))
  acts_fine o v (kinds.Hardened i) q h = fate_fine o v i (λ e. true) fates.Hard h
  acts_fine o v (kinds.Dropped i cause) q h = fate_fine o v i (is_cause cause) fates.Dropped h
  acts_fine o v (kinds.Crashed c) q h = each_filtered o (λ a. not (is_of_client c a)) v.pending h
  acts_fine o v (kinds.Restarted s) q h = h
  acts_fine o v (kinds.WriteFailed c number i) q h =
      on_map (AllFine o) (failed v c number i) _
      (on_all (λ x. AllFine o (failed v c number i x))
      (λ x. failing_fine o c number (is_sync_of x.0) (record v { log = failed_up_to i c number x v.log }) h) _)
  acts_fine o v (kinds.ReadFailed c s number) q h = failing_fine o c number (is_read_of s) v h
  acts_fine o v (kinds.Joined i c what) q h = tt

  pub step_fine : (o : Closing) (v : Volume) (it : VolumeStep) → is_kept it ≡ true → AllFine o v → OnSome (AllFine o) (volume.step v it)
  step_fine o v (kinds.Joined i c what) q h = on_if (AllFine o) _ (Some (record v { lines = i })) h
  step_fine o v (kinds.TakesEffect c op) q h = cc q
  step_fine o v (kinds.Asked c ask) q h = on_if (AllFine o) (v.lines == length v.log) (acts v (kinds.Asked c ask)) (acts_fine o v (kinds.Asked c ask) q h)
  step_fine o v (kinds.Answered c op answer) q h =
      on_if (AllFine o) (v.lines == length v.log) (acts v (kinds.Answered c op answer)) (acts_fine o v (kinds.Answered c op answer) q h)
  step_fine o v (kinds.Hardened i) q h = on_if (AllFine o) (v.lines == length v.log) (acts v (kinds.Hardened i)) (acts_fine o v (kinds.Hardened i) q h)
  step_fine o v (kinds.Dropped i cause) q h =
      on_if (AllFine o) (v.lines == length v.log) (acts v (kinds.Dropped i cause)) (acts_fine o v (kinds.Dropped i cause) q h)
  step_fine o v (kinds.Crashed c) q h = on_if (AllFine o) (v.lines == length v.log) (acts v (kinds.Crashed c)) (acts_fine o v (kinds.Crashed c) q h)
  step_fine o v (kinds.Restarted s) q h = on_if (AllFine o) (v.lines == length v.log) (acts v (kinds.Restarted s)) (acts_fine o v (kinds.Restarted s) q h)
  step_fine o v (kinds.WriteFailed c number i) q h =
      on_if (AllFine o) (v.lines == length v.log) (acts v (kinds.WriteFailed c number i)) (acts_fine o v (kinds.WriteFailed c number i) q h)
  step_fine o v (kinds.ReadFailed c s number) q h =
      on_if (AllFine o) (v.lines == length v.log) (acts v (kinds.ReadFailed c s number)) (acts_fine o v (kinds.ReadFailed c s number) q h)

  pub run_fine : (o : Closing) (its : List VolumeStep) (v : Volume) → list_all is_kept its ≡ true → AllFine o v → OnSome (AllFine o) (run its v)
  unfolding run
  run_fine o [] v q h = h
  run_fine o (it ∷ its) v q h =
      let b = and_true (is_kept it) (list_all is_kept its) q in
      on_then (AllFine o) (run its) (volume.step v it)
      (on_more (AllFine o) (λ u. OnSome (AllFine o) (run its u)) (λ u k. run_fine o its u b.1 k) (volume.step v it) (step_fine o v it b.0 h))

  -- an ask takes effect
  module _ (o : Closing) (v : Volume) (c : ClientId) (op : ℕ)
      (own : (b : Pending) → is_ask c op b ≡ true → S b.client b.op ⊎ (is_any (λ x. is_ask x.0 x.1 b) o ≡ true))
      (h : AllFine None v) where
    done_fine : (a : Pending) → is_ask c op a ≡ true → (y : Volume × AppAnswer) → Leaves v y → AllFine o (notice (done a y))
    done_fine a i (u, answer) k = noticed o (done a (u, answer)) (λ b j. go b (has_map (resulting a answer) u.pending b j))
      where
        same : (b : Pending) → is_ask a.client a.op b ≡ is_ask c op b
        same b =
            let x = and_true (is_of_client c a) (a.op == op) i in
            ap (λ e. is_ask e a.op b) (client_is a.client c x.0) ∙ ap (λ n. is_ask c n b) (eqb-true a.op op x.1)

        one : (b : Pending) → Fine None b → Fine o (resulting a answer b)
        one b f = by (is_ask a.client a.op b) refl
          where
            other : S b.client b.op ⊎ (false ≡ true) → S b.client b.op ⊎ (is_any (λ x. is_ask x.0 x.1 b) o ≡ true)
            other (inl s) = inl s
            other (inr z) = cc z

            by : (t : Bool) → is_ask a.client a.op b ≡ t → Fine o (if t then record b { result = Some answer } else b)
            by true e = λ q. own b (sym (same b) ∙ e)
            by false e = λ q. other (f q)

        go : (b : Pending) → (x : Pending) × Has x u.pending × (b ≡ resulting a answer x) → Fine o b
        go b (x, j, e) = subst (Fine o) (sym e) (one x (h x (subst (Has x) k.pending j)))

    pub effect_fine : OnSome (AllFine o) (volume.step v (kinds.TakesEffect c op))
    effect_fine =
        on_if (AllFine o) (v.lines == length v.log) (acts v (kinds.TakesEffect c op))
        (on_map (AllFine o) notice (option_and_then (takes v) (find (is_ask c op) (v.pending ++ v.orphans)))
        (on_then (λ u. AllFine o (notice u)) (takes v) (find (is_ask c op) (v.pending ++ v.orphans)) (go (find (is_ask c op) (v.pending ++ v.orphans)) refl)))
      where
        go : (f : Option Pending) → find (is_ask c op) (v.pending ++ v.orphans) ≡ f → OnSome (λ a. OnSome (λ u. AllFine o (notice u)) (takes v a)) f
        go None q = tt
        go (Some a) q =
            on_else (λ u. AllFine o (notice u)) _ _
            (on_map (λ u. AllFine o (notice u)) (done a) (effect v a.client a.ask)
            (on_more (Leaves v) (λ y. AllFine o (notice (done a y))) (λ y k. done_fine a (found_at (is_ask c op) (v.pending ++ v.orphans) a q).0 y k)
            (effect v a.client a.ask) (effect_keeps v a.client a.ask)))

  -- the one of a line is answered next
  pub change_fine : (v : Volume) (c : ClientId) (op : ℕ) → AllFine None v → OnSome (AllFine (Some (c, op))) (volume.step v (kinds.TakesEffect c op))
  change_fine v c op h = effect_fine (Some (c, op)) v c op (λ b e. inr e) h

  pub answer_fine : (v : Volume) (c : ClientId) (op : ℕ) (answer : AppAnswer) → AllFine (Some (c, op)) v →
      OnSome (AllFine None) (volume.step v (kinds.Answered c op answer))
  answer_fine v c op answer h =
      on_if (AllFine None) (v.lines == length v.log) (acts v (kinds.Answered c op answer))
      (on_then (AllFine None) (answered v answer) (find (is_ask c op) v.pending) (go (find (is_ask c op) v.pending) refl))
    where
      rest : (a : Pending) → find (is_ask c op) v.pending ≡ Some a → (b : Pending) → Has b (filter (λ z. not (is_ask a.client a.op z)) v.pending) → Fine None b
      rest a f b i q =
          let k = and_true (is_of_client c a) (a.op == op) (found_at (is_ask c op) v.pending a f).0 in
          let g = has_filter (λ z. not (is_ask a.client a.op z)) v.pending b i in
          let gone : is_ask c op b ≡ false =
          ap (λ d. is_ask d op b) (sym (client_is a.client c k.0))
          ∙ (ap (λ n. is_ask a.client n b) (sym (eqb-true a.op op k.1)) ∙ not_true (is_ask a.client a.op b) g.1) in
          by gone (h b g.0 q)
        where
          by : is_ask c op b ≡ false → S b.client b.op ⊎ (is_ask c op b ≡ true) → S b.client b.op ⊎ (false ≡ true)
          by n (inl s) = inl s
          by n (inr m) = clash m n

      go : (o : Option Pending) → find (is_ask c op) v.pending ≡ o → OnSome (λ a. OnSome (AllFine None) (answered v answer a)) o
      go None f = tt
      go (Some a) f =
          on_if (AllFine None) (answers_so v a answer a.result) (Some (closed a (after_answer v a answer)))
          (λ b i. rest a f b (subst (λ xs. Has b (filter (λ z. not (is_ask a.client a.op z)) xs)) (after_keeps v a answer).pending i))

  -- Lines.
  module _ (w : World) where
    abbrev Goes : List Observation → Volume → Type 0
    Goes os v = OnSome (AllFine None) (run (of_lines w os) v)

    answered_then : (c : ClientId) (op : ℕ) (it : VolumeStep) (os : List Observation) (v : Volume) → is_kept it ≡ true → AllFine None v →
        ((u : Volume) → AllFine None u → Goes os u) →
        OnSome (AllFine None) (run (kinds.TakesEffect c op ∷ it ∷ kinds.Answered c op answers.Written ∷ of_lines w os) v)
    unfolding run
    answered_then c op it os v q h k =
        on_then (AllFine None) (run (it ∷ kinds.Answered c op answers.Written ∷ of_lines w os)) (volume.step v (kinds.TakesEffect c op))
        (on_more (AllFine (Some (c, op))) (λ u. OnSome (AllFine None) (run (it ∷ kinds.Answered c op answers.Written ∷ of_lines w os) u))
        (λ u m. on_then (AllFine None) (run (kinds.Answered c op answers.Written ∷ of_lines w os)) (volume.step u it)
        (on_more (AllFine (Some (c, op))) (λ z. OnSome (AllFine None) (run (kinds.Answered c op answers.Written ∷ of_lines w os) z))
        (λ z n. on_then (AllFine None) (run (of_lines w os)) (volume.step z (kinds.Answered c op answers.Written))
        (on_more (AllFine None) (λ y. Goes os y) k (volume.step z (kinds.Answered c op answers.Written)) (answer_fine z c op answers.Written n)))
        (volume.step u it) (step_fine (Some (c, op)) u it q m)))
        (volume.step v (kinds.TakesEffect c op)) (change_fine v c op h))

    change_then : (c : ClientId) (it : VolumeStep) (a : Observation) (os : List Observation) (v : Volume) → is_kept it ≡ true →
        begins_written c (a ∷ os) ≡ true → AllFine None v → ((u : Volume) → AllFine None u → Goes os u) →
        OnSome (AllFine None) (run (kinds.TakesEffect c (next_op (a ∷ os)) ∷ it ∷ of_lines w (a ∷ os)) v)
    unfolding of_lines before_line of_line
    change_then c it a os v q b h k = go (written_is c a b)
      where
        go : Written a → OnSome (AllFine None) (run (kinds.TakesEffect c (next_op (a ∷ os)) ∷ it ∷ of_lines w (a ∷ os)) v)
        go (d, op, e) =
            let same : d ≡ c = client_is d c (subst (λ y. begins_written c (y ∷ os) ≡ true) e b) in
            subst (λ y. OnSome (AllFine None) (run (kinds.TakesEffect c (next_op (y ∷ os)) ∷ it ∷ of_lines w (y ∷ os)) v)) (sym e)
            (subst (λ z. OnSome (AllFine None) (run (kinds.TakesEffect c op ∷ it ∷ kinds.Answered z op answers.Written ∷ of_lines w os) v)) (sym same)
            (answered_then c op it os v q h k))

    one_then : (it : VolumeStep) (os : List Observation) (v : Volume) → is_kept it ≡ true → AllFine None v → ((u : Volume) → AllFine None u → Goes os u) →
        OnSome (AllFine None) (run (it ∷ of_lines w os) v)
    unfolding run
    one_then it os v q h k =
        on_then (AllFine None) (run (of_lines w os)) (volume.step v it)
        (on_more (AllFine None) (λ u. Goes os u) k (volume.step v it) (step_fine None v it q h))

    pub lines_fine : (os : List Observation) (v : Volume) → all_followed os ≡ true → AllFine None v → Goes os v
    unfolding of_lines before_line of_line all_followed run
    lines_fine [] v g h = h
    lines_fine (seen.Wrote i c f p bytes ∷ []) v g h = cc g
    lines_fine (seen.Wrote i c f p bytes ∷ (a ∷ os)) v g h =
        let b = and_true (begins_written c (a ∷ os)) (all_followed (a ∷ os)) g in
        let t = and_true (is_followed a os) (all_followed os) b.1 in
        change_then c (kinds.Joined i (Some c) (asks.Write f p bytes)) a os v refl b.0 h (λ u k. lines_fine os u t.1 k)
    lines_fine (seen.Patched i c f p at bytes ∷ []) v g h = cc g
    lines_fine (seen.Patched i c f p at bytes ∷ (a ∷ os)) v g h =
        let b = and_true (begins_written c (a ∷ os)) (all_followed (a ∷ os)) g in
        let t = and_true (is_followed a os) (all_followed os) b.1 in
        change_then c (kinds.Joined i (Some c) (asks.Patch f p at bytes)) a os v refl b.0 h (λ u k. lines_fine os u t.1 k)
    lines_fine (seen.CutAt i f p ∷ os) v g h = one_then (kinds.Joined i None (asks.Cut f p)) os v refl h (λ u k. lines_fine os u g k)
    lines_fine (seen.Hardened i ∷ os) v g h = one_then (kinds.Hardened i) os v refl h (λ u k. lines_fine os u g k)
    lines_fine (seen.Dropped i cause ∷ os) v g h = one_then (kinds.Dropped i (cause_of w cause)) os v refl h (λ u k. lines_fine os u g k)
    lines_fine (seen.Answered c op answer ∷ os) v g h = one_then (kinds.Answered c op answer) os v refl h (λ u k. lines_fine os u g k)
    lines_fine (seen.Sent k m ∷ os) v g h = lines_fine os v g h
    lines_fine (seen.Submitted k c number what ∷ os) v g h = lines_fine os v g h
    lines_fine (seen.Leased c s end ∷ os) v g h = lines_fine os v g h
    lines_fine (seen.Lost c s life ∷ os) v g h = lines_fine os v g h
    lines_fine (seen.Suspected s c start ∷ os) v g h = lines_fine os v g h
    lines_fine (seen.Stolen s c life ∷ os) v g h = lines_fine os v g h
