-- In every run only cuts and asks for names keep a result: a write or a patch that takes effect is answered at once.
use Rattle.std.proofs.Common.{◌≡◌, ◌⊎◌, ℕ, Bool, true, false, not, ◌&&◌, ◌||◌, ◌==◌, List, [], ◌∷◌, ◌++◌, length, map, Option, Some, None, refl, sym, ap, ◌∙◌, subst, inl, inr, arith, if◌then◌else◌}
use Rattle.std.specs.Prelude.{filter, find, option_and_then}
use Rattle.std.specs.List.{list_all}
use Rattle.std.proofs.lemmas.Bool.{eqb-true}
use Rattle.st_base.specs.declared.config.Config.{Config}
use Rattle.st_base.specs.declared.ids.ClientId.{ClientId}
use Rattle.st_base.specs.declared.ids.NodeId.{NodeId}
use Rattle.st_base.specs.declared.ids.NodeId.TheVariants as nodes
use Rattle.st_base.specs.declared.ids.ServerId.{ServerId}
use Rattle.st_messages.specs.declared.answer.AppAnswer.{AppAnswer}
use Rattle.st_messages.specs.declared.answer.AppAnswer.TheVariants as answers
use Rattle.st_messages.specs.declared.ask.Ask.{Ask}
use Rattle.st_messages.specs.declared.ask.Ask.TheVariants as asks
use Rattle.st_messages.specs.declared.event.Event.{Event}
use Rattle.st_messages.specs.declared.event.Event.TheVariants as events
use Rattle.st_messages.specs.declared.message.Body.{Body}
use Rattle.st_messages.specs.declared.message.Body.TheVariants as bodies
use Rattle.st_messages.specs.declared.message.Message.{Message}
use Rattle.st_rules.specs.declared.observation.Observation.{Observation}
use Rattle.st_rules.specs.declared.observation.Observation.TheVariants as seen
use Rattle.st_rules.specs.declared.world.SentMessage.{SentMessage}
use Rattle.st_rules.specs.History.{Traced, traced}
use Rattle.st_rules.specs.Safety.{AsksAreAnsweredOnce, Step, all_answered_once, all_followed, begins_written, is_followed, step, steps}
use Rattle.st_rules.specs.Server.{sender}
use Rattle.st_rules.specs.World as world
use Rattle.st_rules.specs.World.{World, fresh_world, message_of, node_of, receiver_of}
use Rattle.st_lemmas.specs.Lists.{Has}
use Rattle.st_lemmas.proofs.Lookups.{or_cases, or_left, or_right, some_is}
use Rattle.st_lemmas.proofs.Tables.{all_pass, and_both, and_true, each_passes, found_at, has_filter, not_true}
use Rattle.st_lemmas.proofs.Tests.{all_last}
use Rattle.st_lemmas.proofs.Truth.{client_is, clash, none_not_some}
use Rattle.st_promises.specs.Safe.{EveryRunIsSafe, IsSafeRun}
use Rattle.st_laws_pages.proofs.Asks.World.{asks_of}
use Rattle.st_laws_volume.specs.Logs.{InEveryRun}
use Rattle.st_laws_volume.specs.Options.{OnSome}
use Rattle.st_laws_volume.specs.Results.{ResultsAreOfCutsAndNames, may_have_result}
use Rattle.st_laws_volume.specs.Seen.{cause_of, of_event, of_line}
use Rattle.st_laws_volume.specs.Witness.{Behind, Witness, above_all, before_line, begun, does_at, if_told, is_behind, is_request_for, is_there, led_by, next_op, of_delivery, of_lines, of_message, op_of, steps_of, takes_op, to_node, volume_after}
use Rattle.st_laws_volume.proofs.AskedAsks.{AreOf, Asked, IsOf, RightHold, all_both, all_has, right_begins, right_kept}
use Rattle.st_laws_volume.proofs.AskSteps.{Kept, Leaves, after_keeps, effect_keeps}
use Rattle.st_laws_volume.proofs.Carried.{IsKept, Led, carried}
use Rattle.st_laws_volume.proofs.LogLines.{run_then}
use Rattle.st_laws_volume.proofs.Options.{on_all, on_else, on_if, on_map, on_more, on_then}
use Rattle.st_laws_volume.proofs.ReadPages.{throughout_more}
use Rattle.st_laws_volume.proofs.ReadRanges.{Written, written_is}
use Rattle.st_laws_volume.proofs.ToldSteps.{event_kept, is_kept}
use Rattle.st_laws_volume.proofs.TreeSteps.{none_above}
use Rattle.st_volume.specs.declared.step.VolumeStep.{VolumeStep}
use Rattle.st_volume.specs.declared.step.VolumeStep.TheVariants as kinds
use Rattle.st_volume.specs.declared.step.Fate.{Fate}
use Rattle.st_volume.specs.declared.step.Fate.TheVariants as fates
use Rattle.st_volume.specs.Pages.{Entry, failed_up_to, is_any, is_cause}
use Rattle.st_volume.specs.Volume as volume
use Rattle.st_volume.specs.Volume.{Pending, Volume, acts, after_answer, answered, answers_so, arrived, closed, done, effect, ends, failed, failing, fails, is_ask, is_cut_or_name, is_of_client, is_read_of, is_sync_of, new_ask, notice, noticing, numbered, resulting, run, takes, with_changed, with_fate}

-- All open asks are right, but for one that has just taken effect.
abbrev pub Closing : Type 0
Closing = Option (ClientId × ℕ)

abbrev pub right : Closing → Pending → Bool
right o a = may_have_result a || is_any (λ x. is_ask x.0 x.1 a) o

abbrev pub AllRight : Closing → Volume → Type 0
AllRight o v = list_all (right o) v.pending ≡ true

pub mapped : (p : Pending → Bool) (f : Pending → Pending) → ((a : Pending) → p (f a) ≡ p a) → (xs : List Pending) → list_all p (map f xs) ≡ list_all p xs
mapped p f h [] = refl
mapped p f h (a ∷ xs) = ap (λ b. b && list_all p (map f xs)) (h a) ∙ ap (λ b. p a && b) (mapped p f h xs)

pub filtered : (p q : Pending → Bool) (xs : List Pending) → list_all p xs ≡ true → list_all p (filter q xs) ≡ true
filtered p q xs h = all_pass p (filter q xs) (λ a i. each_passes p xs h a (has_filter q xs a i).0)

module _ (o : Closing) where
  noticed : (v : Volume) → AllRight o v → AllRight o (notice v)
  noticed v h = mapped (right o) (noticing v) (λ a. refl) v.pending ∙ h

  failing_right : (d : ClientId) (number : ℕ) (test : Ask → Bool) (v : Volume) → AllRight o v → AllRight o (failing v d number test)
  failing_right d number test v h = mapped (right o) (fails d number test) one v.pending ∙ h
    where
      one : (a : Pending) → right o (fails d number test a) ≡ right o a
      one a = go (is_of_client d a && test a.ask)
        where
          go : (b : Bool) → right o (if b then record a { faults = number ∷ a.faults } else a) ≡ right o a
          go true = refl
          go false = refl

  arrives : (v : Volume) (c : ClientId) (ask : Ask) → AllRight o v → AllRight o (arrived v c ask)
  arrives v c ask h =
      all_last (right o) v.pending (new_ask v c ask) h
      (or_left (may_have_result (new_ask v c ask)) _ (or_right (is_cut_or_name ask) true refl))

  fate_right : (v : Volume) (i : ℕ) (test : Entry → Bool) (fate : Fate) → AllRight o v → OnSome (AllRight o) (with_fate v i test fate)
  fate_right v i test fate h =
      on_map (AllRight o) (with_changed v i) (option_and_then (ends test fate) (numbered v.log i))
      (on_all (λ e. AllRight o (with_changed v i e)) (λ e. h) (option_and_then (ends test fate) (numbered v.log i)))

  closes : (v u : Volume) (a : Pending) → u.pending ≡ v.pending → AllRight o v → AllRight o (closed a u)
  closes v u a k h = filtered (right o) (λ b. not (is_ask a.client a.op b)) u.pending (ap (list_all (right o)) k ∙ h)

  acts_right : (v : Volume) (it : VolumeStep) → is_kept it ≡ true → AllRight o v → OnSome (AllRight o) (acts v it)
  acts_right v (kinds.Asked c ask) q h = on_if (AllRight o) _ (Some (notice (arrived v c ask))) (noticed (arrived v c ask) (arrives v c ask h))
  acts_right v (kinds.TakesEffect c op) q h = cc q
  acts_right v (kinds.Answered c op answer) q h =
      on_then (AllRight o) (answered v answer) (find (is_ask c op) v.pending)
      (on_all (λ a. OnSome (AllRight o) (answered v answer a))
      (λ a. on_if (AllRight o) (answers_so v a answer a.result) (Some (closed a (after_answer v a answer)))
      (closes v (after_answer v a answer) a (after_keeps v a answer).pending h))
      (find (is_ask c op) v.pending))
  acts_right v (kinds.Hardened i) q h = fate_right v i (λ e. true) fates.Hard h
  acts_right v (kinds.Dropped i cause) q h = fate_right v i (is_cause cause) fates.Dropped h
  acts_right v (kinds.Crashed c) q h = filtered (right o) (λ a. not (is_of_client c a)) v.pending h
  acts_right v (kinds.Restarted s) q h = h
  acts_right v (kinds.WriteFailed c number i) q h =
      on_map (AllRight o) (failed v c number i) _
      (on_all (λ x. AllRight o (failed v c number i x))
      (λ x. failing_right c number (is_sync_of x.0) (record v { log = failed_up_to i c number x v.log }) h) _)
  acts_right v (kinds.ReadFailed c s number) q h = failing_right c number (is_read_of s) v h
  acts_right v (kinds.Joined i c what) q h = tt

  pub step_right : (v : Volume) (it : VolumeStep) → is_kept it ≡ true → AllRight o v → OnSome (AllRight o) (volume.step v it)
  step_right v (kinds.Joined i c what) q h = on_if (AllRight o) _ (Some (record v { lines = i })) h
  step_right v (kinds.Asked c ask) q h = on_if (AllRight o) (v.lines == length v.log) (acts v (kinds.Asked c ask)) (acts_right v (kinds.Asked c ask) q h)
  step_right v (kinds.TakesEffect c op) q h = cc q
  step_right v (kinds.Answered c op answer) q h =
      on_if (AllRight o) (v.lines == length v.log) (acts v (kinds.Answered c op answer)) (acts_right v (kinds.Answered c op answer) q h)
  step_right v (kinds.Hardened i) q h = on_if (AllRight o) (v.lines == length v.log) (acts v (kinds.Hardened i)) (acts_right v (kinds.Hardened i) q h)
  step_right v (kinds.Dropped i cause) q h =
      on_if (AllRight o) (v.lines == length v.log) (acts v (kinds.Dropped i cause)) (acts_right v (kinds.Dropped i cause) q h)
  step_right v (kinds.Crashed c) q h = on_if (AllRight o) (v.lines == length v.log) (acts v (kinds.Crashed c)) (acts_right v (kinds.Crashed c) q h)
  step_right v (kinds.Restarted s) q h = on_if (AllRight o) (v.lines == length v.log) (acts v (kinds.Restarted s)) (acts_right v (kinds.Restarted s) q h)
  step_right v (kinds.WriteFailed c number i) q h =
      on_if (AllRight o) (v.lines == length v.log) (acts v (kinds.WriteFailed c number i)) (acts_right v (kinds.WriteFailed c number i) q h)
  step_right v (kinds.ReadFailed c s number) q h =
      on_if (AllRight o) (v.lines == length v.log) (acts v (kinds.ReadFailed c s number)) (acts_right v (kinds.ReadFailed c s number) q h)

  pub run_kept : (its : List VolumeStep) (v : Volume) → list_all is_kept its ≡ true → AllRight o v → OnSome (AllRight o) (run its v)
  unfolding run
  run_kept [] v q h = h
  run_kept (it ∷ its) v q h =
      let b = and_true (is_kept it) (list_all is_kept its) q in
      on_then (AllRight o) (run its) (volume.step v it)
      (on_more (AllRight o) (λ u. OnSome (AllRight o) (run its u)) (λ u k. run_kept its u b.1 k) (volume.step v it) (step_right v it b.0 h))

-- An ask that takes effect.
pub taken : (P : Volume → Type 0) (v : Volume) (c : ClientId) (op : ℕ) →
    ((a : Pending) → find (is_ask c op) (v.pending ++ v.orphans) ≡ Some a → (y : Volume × AppAnswer) → Kept v y.0 → P (notice (done a y))) →
    OnSome P (volume.step v (kinds.TakesEffect c op))
taken P v c op h =
    on_if P (v.lines == length v.log) (acts v (kinds.TakesEffect c op))
    (on_map P notice (option_and_then (takes v) (find (is_ask c op) (v.pending ++ v.orphans)))
    (on_then (λ u. P (notice u)) (takes v) (find (is_ask c op) (v.pending ++ v.orphans)) (go (find (is_ask c op) (v.pending ++ v.orphans)) h)))
  where
    go : (o : Option Pending) → ((a : Pending) → o ≡ Some a → (y : Volume × AppAnswer) → Kept v y.0 → P (notice (done a y))) →
        OnSome (λ a. OnSome (λ u. P (notice u)) (takes v a)) o
    go None h = tt
    go (Some a) h =
        on_else (λ u. P (notice u)) _ _
        (on_map (λ u. P (notice u)) (done a) (effect v a.client a.ask)
        (on_more (Leaves v) (λ y. P (notice (done a y))) (λ y k. h a refl y k) (effect v a.client a.ask) (effect_keeps v a.client a.ask)))

-- what it leaves of the open asks
after_effect : (p q : Pending → Bool) (v : Volume) (a : Pending) (y : Volume × AppAnswer) → Kept v y.0 → ((b : Pending) → p (noticing (done a y) b) ≡ p b) →
    ((b : Pending) → Has b v.pending → q b ≡ true → is_ask a.client a.op b ≡ true → p (record b { result = Some y.1 }) ≡ true) →
    ((b : Pending) → q b ≡ true → p b ≡ true) → list_all q v.pending ≡ true → list_all p (notice (done a y)).pending ≡ true
after_effect p q v a y k same own other h =
    mapped p (noticing (done a y)) same (map (resulting a y.1) y.0.pending)
    ∙ (ap (λ xs. list_all p (map (resulting a y.1) xs)) k.pending ∙ all v.pending (λ b i. i) h)
  where
    one : (b : Pending) → Has b v.pending → q b ≡ true → p (resulting a y.1 b) ≡ true
    one b i r = go (is_ask a.client a.op b) refl
      where
        go : (t : Bool) → is_ask a.client a.op b ≡ t → p (if t then record b { result = Some y.1 } else b) ≡ true
        go true e = own b i r e
        go false e = other b r

    all : (xs : List Pending) → ((b : Pending) → Has b xs → Has b v.pending) → list_all q xs ≡ true → list_all p (map (resulting a y.1) xs) ≡ true
    all [] i r = refl
    all (b ∷ xs) i r =
        let z = and_true (q b) (list_all q xs) r in
        and_both (p (resulting a y.1 b)) (list_all p (map (resulting a y.1) xs)) (one b (i b (inl refl)) z.0) (all xs (λ x j. i x (inr j)) z.1)

-- A write or a patch: it is the one that is answered next.
pub change_right : (v : Volume) (c : ClientId) (op : ℕ) → AllRight None v → OnSome (AllRight (Some (c, op))) (volume.step v (kinds.TakesEffect c op))
change_right v c op h =
    taken (AllRight (Some (c, op))) v c op
    (λ a f y k. after_effect (right (Some (c, op))) (right None) v a y k (λ b. refl) (λ b i r e. own a f b e y.1) (λ b r. other b r) h)
  where
    other : (b : Pending) → right None b ≡ true → right (Some (c, op)) b ≡ true
    other b r = go (or_cases (may_have_result b) false r)
      where
        go : (may_have_result b ≡ true) ⊎ (false ≡ true) → right (Some (c, op)) b ≡ true
        go (inl m) = or_left (may_have_result b) (is_ask c op b) m
        go (inr m) = cc m

    own : (a : Pending) → find (is_ask c op) (v.pending ++ v.orphans) ≡ Some a → (b : Pending) → is_ask a.client a.op b ≡ true → (answer : AppAnswer) →
        right (Some (c, op)) (record b { result = Some answer }) ≡ true
    own a f b e answer =
        let k = and_true (is_of_client c a) (a.op == op) (found_at (is_ask c op) (v.pending ++ v.orphans) a f).0 in
        or_right (may_have_result (record b { result = Some answer })) (is_ask c op b)
        (ap (λ d. is_ask d op b) (sym (client_is a.client c k.0)) ∙ (ap (λ n. is_ask a.client n b) (sym (eqb-true a.op op k.1)) ∙ e))

-- its answer closes it
pub answer_right : (v : Volume) (c : ClientId) (op : ℕ) (answer : AppAnswer) → AllRight (Some (c, op)) v →
    OnSome (AllRight None) (volume.step v (kinds.Answered c op answer))
answer_right v c op answer h =
    on_if (AllRight None) (v.lines == length v.log) (acts v (kinds.Answered c op answer))
    (on_then (AllRight None) (answered v answer) (find (is_ask c op) v.pending) (go (find (is_ask c op) v.pending) refl))
  where
    rest : (a : Pending) → find (is_ask c op) v.pending ≡ Some a → (b : Pending) → Has b (filter (λ z. not (is_ask a.client a.op z)) v.pending) →
        right None b ≡ true
    rest a f b i =
        let k = and_true (is_of_client c a) (a.op == op) (found_at (is_ask c op) v.pending a f).0 in
        let g = has_filter (λ z. not (is_ask a.client a.op z)) v.pending b i in
        let gone : is_ask c op b ≡ false =
        ap (λ d. is_ask d op b) (sym (client_is a.client c k.0))
        ∙ (ap (λ n. is_ask a.client n b) (sym (eqb-true a.op op k.1)) ∙ not_true (is_ask a.client a.op b) g.1) in
        by gone (or_cases (may_have_result b) (is_ask c op b) (each_passes (right (Some (c, op))) v.pending h b g.0))
      where
        by : is_ask c op b ≡ false → (may_have_result b ≡ true) ⊎ (is_ask c op b ≡ true) → right None b ≡ true
        by n (inl m) = or_left (may_have_result b) false m
        by n (inr m) = clash m n

    go : (o : Option Pending) → find (is_ask c op) v.pending ≡ o → OnSome (λ a. OnSome (AllRight None) (answered v answer a)) o
    go None f = tt
    go (Some a) f =
        on_if (AllRight None) (answers_so v a answer a.result) (Some (closed a (after_answer v a answer)))
        (ap (λ xs. list_all (right None) (filter (λ z. not (is_ask a.client a.op z)) xs)) (after_keeps v a answer).pending
        ∙ all_pass (right None) (filter (λ z. not (is_ask a.client a.op z)) v.pending) (rest a f))

-- A request that is served: what takes effect is a cut or an ask for a name.
requested : (s : ServerId) (b : Body) (a : Ask) → is_request_for s b a ≡ true → is_cut_or_name a ≡ true
requested s (bodies.Cut ino g from) (asks.Cut f p) q = refl
requested s (bodies.Name op) (asks.Name r ask) q = refl
requested s b a q = cc

module _ (as_ : Asked) (bs : List Behind) (v : Volume) (r : AreOf as_ v) (h : AllRight None v) where
  same_words : (a b : Pending) → Has a (v.pending ++ v.orphans) → Has b v.pending → is_ask a.client a.op b ≡ true → b.ask ≡ a.ask
  same_words a b i j q =
      let k = and_true (is_of_client a.client b) (b.op == a.op) q in
      let mine : IsOf as_ a = all_has as_ (v.pending ++ v.orphans) a (all_both as_ v.pending v.orphans r.pending r.orphans) i in
      let its : IsOf as_ b = all_has as_ v.pending b r.pending j in
      some_is
      (sym its
      ∙ (ap (λ d. world.numbered (as_ d) b.op) (client_is b.client a.client k.0) ∙ (ap (λ n. world.numbered (as_ a.client) n) (eqb-true b.op a.op k.1) ∙ mine)))

  -- a cut or an ask for a name
  kind_right : (a : Pending) → Has a (v.pending ++ v.orphans) → is_cut_or_name a.ask ≡ true → (y : Volume × AppAnswer) → Kept v y.0 →
      AllRight None (notice (done a y))
  kind_right a i q y k = after_effect (right None) (right None) v a y k (λ b. refl) own (λ b m. m) h
    where
      own : (b : Pending) → Has b v.pending → right None b ≡ true → is_ask a.client a.op b ≡ true → right None (record b { result = Some y.1 }) ≡ true
      own b j m e =
          or_left (may_have_result (record b { result = Some y.1 })) false
          (or_left (is_cut_or_name b.ask) false (ap is_cut_or_name (same_words a b i j e) ∙ q))

  request_right : (s : ServerId) (m : Message) → OnSome (AllRight None) (run (takes_op bs v s m ∷ []) v)
  unfolding run
  request_right s m = found (find (is_behind s m.header) bs)
    where
      step_of : (op : ℕ) → ((a : Pending) → find (is_ask (sender m.header) op) (v.pending ++ v.orphans) ≡ Some a → is_cut_or_name a.ask ≡ true) →
          OnSome (AllRight None) (run (kinds.TakesEffect (sender m.header) op ∷ []) v)
      step_of op kind =
          on_then (AllRight None) (run []) (volume.step v (kinds.TakesEffect (sender m.header) op))
          (taken (AllRight None) v (sender m.header) op
          (λ a f y k. kind_right a (found_at (is_ask (sender m.header) op) (v.pending ++ v.orphans) a f).1 (kind a f) y k))

      none : OnSome (AllRight None) (run (kinds.TakesEffect (sender m.header) (above_all (v.pending ++ v.orphans)) ∷ []) v)
      none =
          step_of (above_all (v.pending ++ v.orphans))
          (λ a f. absurd (none_not_some a
          (sym (none_above (sender m.header) (above_all (v.pending ++ v.orphans)) (v.pending ++ v.orphans) (omega arith)) ∙ f)))

      matched : (op : ℕ) (b : Bool) → is_there v s m op ≡ b →
          OnSome (AllRight None) (run (kinds.TakesEffect (sender m.header) (if b then op else above_all (v.pending ++ v.orphans)) ∷ []) v)
      matched op false q = none
      matched op true q =
          step_of op (λ a f. requested s m.body a.ask (sym (ap (is_any (λ (x : Pending). is_request_for s m.body x.ask)) f) ∙ q))

      found : (o : Option Behind) → OnSome (AllRight None) (run (kinds.TakesEffect (sender m.header) (op_of v s m o) ∷ []) v)
      found None = none
      found (Some b) = matched b.op (is_there v s m b.op) refl

  pub delivery_right : (w : World) (e : Event) → OnSome (AllRight None) (run (of_delivery bs v w e) v)
  unfolding run
  delivery_right w (events.Deliver k) = by (message_of w k)
    where
      to : (m : Message) (n : NodeId) → OnSome (AllRight None) (run (to_node bs v w m n) v)
      to m (nodes.Client c) = h
      to m (nodes.Server s) = go (does_at w s (node_of w s) m)
        where
          go : (b : Bool) → OnSome (AllRight None) (run (if b then takes_op bs v s m ∷ [] else []) v)
          go true = request_right s m
          go false = h

      by : (m : Option SentMessage) → OnSome (AllRight None) (run (of_message bs v w m) v)
      by None = h
      by (Some m) = to m.message (receiver_of m)
  delivery_right w (events.Tick n) = h
  delivery_right w (events.App c ask) = h
  delivery_right w (events.Lose k) = h
  delivery_right w (events.Cut from to) = h
  delivery_right w (events.Heal from to) = h
  delivery_right w (events.Advance increments) = h
  delivery_right w (events.Effect k) = h
  delivery_right w (events.Report k ok) = h
  delivery_right w (events.Crash n) = h
  delivery_right w (events.Start n) = h

-- Lines: a write or a patch takes effect, and is answered.
module _ (w : World) where
  abbrev Goes : List Observation → Volume → Type 0
  Goes os v = OnSome (AllRight None) (run (of_lines w os) v)

  answered_then : (c : ClientId) (op : ℕ) (it : VolumeStep) (os : List Observation) (v : Volume) → is_kept it ≡ true → AllRight None v →
      ((u : Volume) → AllRight None u → Goes os u) →
      OnSome (AllRight None) (run (kinds.TakesEffect c op ∷ it ∷ kinds.Answered c op answers.Written ∷ of_lines w os) v)
  unfolding run
  answered_then c op it os v q h k =
      on_then (AllRight None) (run (it ∷ kinds.Answered c op answers.Written ∷ of_lines w os)) (volume.step v (kinds.TakesEffect c op))
      (on_more (AllRight (Some (c, op))) (λ u. OnSome (AllRight None) (run (it ∷ kinds.Answered c op answers.Written ∷ of_lines w os) u))
      (λ u m. on_then (AllRight None) (run (kinds.Answered c op answers.Written ∷ of_lines w os)) (volume.step u it)
      (on_more (AllRight (Some (c, op))) (λ z. OnSome (AllRight None) (run (kinds.Answered c op answers.Written ∷ of_lines w os) z))
      (λ z n. on_then (AllRight None) (run (of_lines w os)) (volume.step z (kinds.Answered c op answers.Written))
      (on_more (AllRight None) (λ y. Goes os y) k (volume.step z (kinds.Answered c op answers.Written)) (answer_right z c op answers.Written n)))
      (volume.step u it) (step_right (Some (c, op)) u it q m)))
      (volume.step v (kinds.TakesEffect c op)) (change_right v c op h))

  change_then : (c : ClientId) (it : VolumeStep) (a : Observation) (os : List Observation) (v : Volume) → is_kept it ≡ true →
      begins_written c (a ∷ os) ≡ true → AllRight None v → ((u : Volume) → AllRight None u → Goes os u) →
      OnSome (AllRight None) (run (kinds.TakesEffect c (next_op (a ∷ os)) ∷ it ∷ of_lines w (a ∷ os)) v)
  unfolding of_lines before_line of_line
  change_then c it a os v q b h k = go (written_is c a b)
    where
      go : Written a → OnSome (AllRight None) (run (kinds.TakesEffect c (next_op (a ∷ os)) ∷ it ∷ of_lines w (a ∷ os)) v)
      go (d, op, e) =
          let same : d ≡ c = client_is d c (subst (λ y. begins_written c (y ∷ os) ≡ true) e b) in
          subst (λ y. OnSome (AllRight None) (run (kinds.TakesEffect c (next_op (y ∷ os)) ∷ it ∷ of_lines w (y ∷ os)) v)) (sym e)
          (subst (λ z. OnSome (AllRight None) (run (kinds.TakesEffect c op ∷ it ∷ kinds.Answered z op answers.Written ∷ of_lines w os) v)) (sym same)
          (answered_then c op it os v q h k))

  one_then : (it : VolumeStep) (os : List Observation) (v : Volume) → is_kept it ≡ true → AllRight None v → ((u : Volume) → AllRight None u → Goes os u) →
      OnSome (AllRight None) (run (it ∷ of_lines w os) v)
  unfolding run
  one_then it os v q h k =
      on_then (AllRight None) (run (of_lines w os)) (volume.step v it)
      (on_more (AllRight None) (λ u. Goes os u) k (volume.step v it) (step_right None v it q h))

  lines_right : (os : List Observation) (v : Volume) → all_followed os ≡ true → AllRight None v → Goes os v
  unfolding of_lines before_line of_line all_followed run
  lines_right [] v g h = h
  lines_right (seen.Wrote i c f p bytes ∷ []) v g h = cc g
  lines_right (seen.Wrote i c f p bytes ∷ (a ∷ os)) v g h =
      let b = and_true (begins_written c (a ∷ os)) (all_followed (a ∷ os)) g in
      let t = and_true (is_followed a os) (all_followed os) b.1 in
      change_then c (kinds.Joined i (Some c) (asks.Write f p bytes)) a os v refl b.0 h (λ u k. lines_right os u t.1 k)
  lines_right (seen.Patched i c f p at bytes ∷ []) v g h = cc g
  lines_right (seen.Patched i c f p at bytes ∷ (a ∷ os)) v g h =
      let b = and_true (begins_written c (a ∷ os)) (all_followed (a ∷ os)) g in
      let t = and_true (is_followed a os) (all_followed os) b.1 in
      change_then c (kinds.Joined i (Some c) (asks.Patch f p at bytes)) a os v refl b.0 h (λ u k. lines_right os u t.1 k)
  lines_right (seen.CutAt i f p ∷ os) v g h = one_then (kinds.Joined i None (asks.Cut f p)) os v refl h (λ u k. lines_right os u g k)
  lines_right (seen.Hardened i ∷ os) v g h = one_then (kinds.Hardened i) os v refl h (λ u k. lines_right os u g k)
  lines_right (seen.Dropped i cause ∷ os) v g h = one_then (kinds.Dropped i (cause_of w cause)) os v refl h (λ u k. lines_right os u g k)
  lines_right (seen.Answered c op answer ∷ os) v g h = one_then (kinds.Answered c op answer) os v refl h (λ u k. lines_right os u g k)
  lines_right (seen.Sent k m ∷ os) v g h = lines_right os v g h
  lines_right (seen.Submitted k c number what ∷ os) v g h = lines_right os v g h
  lines_right (seen.Leased c s end ∷ os) v g h = lines_right os v g h
  lines_right (seen.Lost c s life ∷ os) v g h = lines_right os v g h
  lines_right (seen.Suspected s c start ∷ os) v g h = lines_right os v g h
  lines_right (seen.Stolen s c life ∷ os) v g h = lines_right os v g h

-- All steps of an event.
plain_right : (v : Volume) (w : World) (e : Event) (os : List Observation) → all_followed os ≡ true → AllRight None v →
    OnSome (AllRight None) (run (of_event w e ++ of_lines w os) v)
plain_right v w e os b h =
    run_then (AllRight None) (of_event w e) (of_lines w os) v
    (on_more (AllRight None) (λ u. Goes w os u) (λ u k. lines_right w os u b k) (run (of_event w e) v) (run_kept None (of_event w e) v (event_kept w e) h))

results_of : (as_ : Asked) (bs : List Behind) (v : Volume) (w : World) (e : Event) (os : List Observation) → AreOf as_ v → all_followed os ≡ true →
    AllRight None v → OnSome (AllRight None) (run (of_event w e ++ (of_delivery bs v w e ++ of_lines w os)) v)
unfolding of_event
results_of as_ bs v w (events.Deliver k) os r b h =
    run_then (AllRight None) (of_delivery bs v w (events.Deliver k)) (of_lines w os) v
    (on_more (AllRight None) (λ u. Goes w os u) (λ u m. lines_right w os u b m) (run (of_delivery bs v w (events.Deliver k)) v)
    (delivery_right as_ bs v r h w (events.Deliver k)))
results_of as_ bs v w (events.Tick n) os r b h = plain_right v w (events.Tick n) os b h
results_of as_ bs v w (events.App c ask) os r b h = plain_right v w (events.App c ask) os b h
results_of as_ bs v w (events.Lose k) os r b h = plain_right v w (events.Lose k) os b h
results_of as_ bs v w (events.Cut from to) os r b h = plain_right v w (events.Cut from to) os b h
results_of as_ bs v w (events.Heal from to) os r b h = plain_right v w (events.Heal from to) os b h
results_of as_ bs v w (events.Advance increments) os r b h = plain_right v w (events.Advance increments) os b h
results_of as_ bs v w (events.Effect k) os r b h = plain_right v w (events.Effect k) os b h
results_of as_ bs v w (events.Report k ok) os r b h = plain_right v w (events.Report k ok) os b h
results_of as_ bs v w (events.Crash n) os r b h = plain_right v w (events.Crash n) os b h
results_of as_ bs v w (events.Start n) os r b h = plain_right v w (events.Start n) os b h

-- In every run.
after_results : (past : List Step) (it : Witness) (x : Step) → all_followed x.seen ≡ true → (o : Option Volume) → OnSome (AreOf (asks_of past)) o →
    OnSome (AllRight None) o → OnSome (AllRight None) (volume_after it x o)
after_results past it x b None r h = tt
after_results past it x b (Some v) r h =
    on_then (AllRight None) if_told (run (steps_of it v x) v)
    (on_more (AllRight None) (λ u. OnSome (AllRight None) (if_told u)) (λ u k. on_if (AllRight None) (u.lines == length u.log) (Some u) k)
    (run (steps_of it v x) v)
    (results_of (asks_of past) it.behind v x.before.world x.event x.seen r b h))

pub record ResultsHold (past : List Step) (t : Traced) (it : Witness) : Type 0 where
  pub results : OnSome (AllRight None) it.volume
  pub asks : RightHold past t it

pub results_kept : IsKept AsksAreAnsweredOnce ResultsHold
unfolding led_by
results_kept past t e sc it f g h =
    let x : Step = step t e sc in
    record {
      results =
          after_results past it x (and_true (all_answered_once past x [] x.seen) (all_followed x.seen) g).1 it.volume h.asks h.results;
      asks = right_kept past t e sc it f tt h.asks;
    }

pub results_begin : (k : Config) (clients servers disks blocks form : ℕ) →
    ResultsHold [] (traced (fresh_world k clients servers disks blocks form))
    (begun (fresh_world k clients servers disks blocks form) (fresh_world k clients servers disks blocks form))
unfolding begun
results_begin k clients servers disks blocks form = record { results = refl; asks = right_begins k clients servers disks blocks form }

pub only_those : (v : Volume) → AllRight None v → list_all may_have_result v.pending ≡ true
only_those v h = all_pass may_have_result v.pending (λ a i. go a (or_cases (may_have_result a) false (each_passes (right None) v.pending h a i)))
  where
    go : (a : Pending) → (may_have_result a ≡ true) ⊎ (false ≡ true) → may_have_result a ≡ true
    go a (inl m) = m
    go a (inr m) = cc m

pub results_are_of_cuts_and_names : EveryRunIsSafe → InEveryRun ResultsAreOfCutsAndNames
results_are_of_cuts_and_names safe k clients servers disks blocks form es head events =
    let t : Traced = traced (fresh_world k clients servers disks blocks form) in
    let kept : IsSafeRun (fresh_world k clients servers disks blocks form) es = safe k clients servers disks blocks form es head events in
    throughout_more (Led ResultsHold) ResultsAreOfCutsAndNames
    (λ past x h. on_more (AllRight None) (λ v. list_all may_have_result v.pending ≡ true) only_those _ h.results) [] (steps es t)
    (carried AsksAreAnsweredOnce ResultsHold results_kept es t (results_begin k clients servers disks blocks form) kept.once)
