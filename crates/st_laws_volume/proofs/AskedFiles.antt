-- The volume remembers of which files each client was asked: every ask that was made, at any later
-- step.
use Rattle.std.proofs.Common.{◌≡◌, ◌⊎◌, ℕ, zero, suc, Bool, true, false, ◌==◌, List, [], ◌∷◌, ◌++◌, length, Option, Some, None, refl, sym, ap, ◌∙◌, subst, inl, inr, if◌then◌else◌}
use Rattle.std.specs.Prelude.{find, option_map, option_and_then}
use Rattle.st_base.specs.declared.ids.ClientId.{ClientId}
use Rattle.st_base.specs.declared.ids.FileId.{FileId}
use Rattle.st_base.specs.declared.ids.PageNo.{PageNo}
use Rattle.st_base.specs.declared.ids.ServerId.{ServerId}
use Rattle.st_messages.specs.declared.answer.AppAnswer.{AppAnswer}
use Rattle.st_messages.specs.declared.answer.AppAnswer.TheVariants as answers
use Rattle.st_messages.specs.declared.ask.Ask.{Ask}
use Rattle.st_messages.specs.declared.ask.Ask.TheVariants as asks
use Rattle.st_messages.specs.declared.event.Event.{Event}
use Rattle.st_messages.specs.declared.event.Event.TheVariants as events
use Rattle.st_rules.specs.Safety.{Step, ask_in}
use Rattle.st_lemmas.specs.Lists.{Has}
use Rattle.st_lemmas.proofs.Tables.{has_append}
use Rattle.st_lemmas.proofs.Words
use Words.{cons_option}
use Words.Safety as safety
use Words.Truth.{client_is}
use Rattle.st_laws_pages.proofs.Asks.World.{asks_more, asks_of}
use Rattle.st_laws_volume.specs.Options.{OnSome}
use Rattle.st_laws_volume.specs.Seen.{of_event}
use Rattle.st_laws_volume.specs.Witness.{Witness, if_told, led_by, of_delivery, of_lines, steps_of, volume_after}
use Rattle.st_laws_volume.proofs.LogLines.{run_then}
use Rattle.st_laws_volume.proofs.Options.{on_all, on_else, on_if, on_map, on_more, on_then}
use Rattle.st_volume.specs.declared.step.Fate.{Fate}
use Rattle.st_volume.specs.declared.step.Fate.TheVariants as fates
use Rattle.st_volume.specs.declared.step.VolumeStep.{VolumeStep}
use Rattle.st_volume.specs.declared.step.VolumeStep.TheVariants as steps
use Rattle.st_volume.specs.Pages.{Entry, is_cause}
use Rattle.st_volume.specs.Trees.{Made}
use Rattle.st_volume.specs.Volume as volume
use Rattle.st_volume.specs.Volume.{Volume, Pending, acts, after_answer, answered, arrived, closed, cuts, cuts_removed, done, effect, ends, entry, failed, is_ask, made, notice, numbered, run, step, takes, with_changed, with_entry, with_fate, with_tree}

-- what was asked before was asked
abbrev pub KeptAsked : Volume → Volume → Type 0
KeptAsked v u = (y : ClientId × FileId) → Has y v.asked → Has y u.asked

same : (v : Volume) → KeptAsked v v
same v y i = i

-- Effects.
abbrev Leaves : Volume → Volume × AppAnswer → Type 0
Leaves v r = KeptAsked v r.0

joins : (v : Volume) (f : FileId) (e : Entry) → OnSome (KeptAsked v) (with_entry v f e)
joins v f e = on_if (KeptAsked v) _ (Some (record v { log = v.log ++ e ∷ [] })) (λ y i. i)

cut_asked : (v : Volume) (c : ClientId) (f : FileId) (p : PageNo) →
    OnSome (KeptAsked v) (cuts v c f p)
cut_asked v c f p =
    on_if (KeptAsked v) _
    (Some
    (record v {
      claims = volume.freed v (asks.Cut f p);
      log =
          v.log ++ entry c (asks.Cut f p) fates.Hard ∷ [];
    })) (λ y i. i)

removal_asked : (v : Volume) (c : ClientId) (s : ServerId) (removed : Option ℕ) →
    OnSome (KeptAsked v) (cuts_removed v c s removed)
removal_asked v c s None = same v
removal_asked v c s (Some ino) = cut_asked v c (record { server = s; ino = ino }) (record { 0 = 0 })

result_asked : (v : Volume) (answer : AppAnswer) (o : Option Volume) → OnSome (KeptAsked v) o →
    OnSome (Leaves v) (option_map (λ w. (w, answer)) o)
result_asked v answer o h = on_map (Leaves v) (λ w. (w, answer)) o h

made_asked : (v : Volume) (c : ClientId) (s : ServerId) (m : Made) →
    OnSome (Leaves v) (made v c s m)
made_asked v c s (t, (answer, removed)) =
    result_asked v answer _
    (on_map (KeptAsked v) (with_tree s t) (cuts_removed v c s removed)
    (on_more (KeptAsked v) (λ w. KeptAsked v (with_tree s t w)) (λ w k. k)
    (cuts_removed v c s removed) (removal_asked v c s removed)))

effect_asked : (v : Volume) (c : ClientId) (ask : Ask) → OnSome (Leaves v) (effect v c ask)
effect_asked v c (asks.Write f p bytes) =
    result_asked v answers.Written _ (joins v f (entry c (asks.Write f p bytes) fates.Open))
effect_asked v c (asks.Patch f p at bytes) =
    result_asked v answers.Written _ (joins v f (entry c (asks.Patch f p at bytes) fates.Open))
effect_asked v c (asks.Read f p) = tt
effect_asked v c (asks.Sync f) = tt
effect_asked v c (asks.Cut f p) = result_asked v answers.Cut _ (cut_asked v c f p)
effect_asked v c (asks.Name s ask) =
    on_then (Leaves v) (made v c s) _ (on_all _ (λ m. made_asked v c s m) _)

takes_asked : (v : Volume) (a : Pending) → OnSome (λ u. KeptAsked v (notice u)) (takes v a)
takes_asked v a =
    on_else (λ u. KeptAsked v (notice u)) _ _
    (on_map (λ u. KeptAsked v (notice u)) (done a) (effect v a.client a.ask)
    (on_more (Leaves v) (λ r. KeptAsked v (notice (done a r))) (λ r k. k) (effect v a.client a.ask)
    (effect_asked v a.client a.ask)))

-- Answers.
after_asked : (v : Volume) (a : Pending) (answer : AppAnswer) →
    KeptAsked v (after_answer v a answer)
after_asked v a answers.Hard = same v
after_asked v a (answers.Lost rows) = same v
after_asked v a (answers.Read bytes) = same v
after_asked v a (answers.Uncertain old zero) = same v
after_asked v a (answers.Uncertain old (suc new)) = same v
after_asked v a answers.Written = same v
after_asked v a answers.Cut = same v
after_asked v a answers.Quiesced = same v
after_asked v a answers.NoFile = same v
after_asked v a (answers.NoSpace n m) = same v
after_asked v a (answers.DiskFault n) = same v
after_asked v a answers.OpsFull = same v
after_asked v a answers.DirtyFull = same v
after_asked v a answers.NotHolder = same v
after_asked v a answers.TooManyLocks = same v
after_asked v a (answers.Named ino) = same v
after_asked v a (answers.Listed rows) = same v
after_asked v a (answers.Refused code) = same v

fate_asked : (v : Volume) (i : ℕ) (test : Entry → Bool) (fate : Fate) →
    OnSome (KeptAsked v) (with_fate v i test fate)
fate_asked v i test fate =
    on_map (KeptAsked v) (with_changed v i) (option_and_then (ends test fate) (numbered v.log i))
    (on_all (λ e. KeptAsked v (with_changed v i e)) (λ e y i. i)
    (option_and_then (ends test fate) (numbered v.log i)))

-- Each step.
acts_asked : (v : Volume) (it : VolumeStep) → OnSome (KeptAsked v) (acts v it)
acts_asked v (steps.Asked c ask) =
    on_if (KeptAsked v) _ (Some (notice (arrived v c ask))) (λ y i. inr i)
acts_asked v (steps.TakesEffect c op) =
    on_map (KeptAsked v) notice
    (option_and_then (takes v) (find (is_ask c op) (v.pending ++ v.orphans)))
    (on_then (λ u. KeptAsked v (notice u)) (takes v) (find (is_ask c op) (v.pending ++ v.orphans))
    (on_all (λ a. OnSome (λ u. KeptAsked v (notice u)) (takes v a)) (λ a. takes_asked v a)
    (find (is_ask c op) (v.pending ++ v.orphans))))
acts_asked v (steps.Answered c op answer) =
    on_then (KeptAsked v) (answered v answer) (find (is_ask c op) v.pending)
    (on_all (λ a. OnSome (KeptAsked v) (answered v answer a))
    (λ a. on_if (KeptAsked v) _ (Some (closed a (after_answer v a answer)))
    (after_asked v a answer))
    (find (is_ask c op) v.pending))
acts_asked v (steps.Hardened i) = fate_asked v i (λ e. true) fates.Hard
acts_asked v (steps.Dropped i cause) = fate_asked v i (is_cause cause) fates.Dropped
acts_asked v (steps.Crashed c) = λ y i. i
acts_asked v (steps.Restarted s) = λ y i. i
acts_asked v (steps.WriteFailed c number i) =
    on_map (KeptAsked v) (failed v c number i) _
    (on_all (λ x. KeptAsked v (failed v c number i x)) (λ x y i. i) _)
acts_asked v (steps.ReadFailed c s number) = λ y i. i
acts_asked v (steps.Joined i c what) = tt

pub step_asked : (v : Volume) (it : VolumeStep) → OnSome (KeptAsked v) (step v it)
step_asked v (steps.Joined i c what) =
    on_if (KeptAsked v) _ (Some (record v { lines = i })) (λ y j. j)
step_asked v (steps.Asked c ask) =
    on_if (KeptAsked v) (v.lines == length v.log) (acts v (steps.Asked c ask))
    (acts_asked v (steps.Asked c ask))
step_asked v (steps.TakesEffect c op) =
    on_if (KeptAsked v) (v.lines == length v.log) (acts v (steps.TakesEffect c op))
    (acts_asked v (steps.TakesEffect c op))
step_asked v (steps.Answered c op answer) =
    on_if (KeptAsked v) (v.lines == length v.log) (acts v (steps.Answered c op answer))
    (acts_asked v (steps.Answered c op answer))
step_asked v (steps.Hardened i) =
    on_if (KeptAsked v) (v.lines == length v.log) (acts v (steps.Hardened i))
    (acts_asked v (steps.Hardened i))
step_asked v (steps.Dropped i cause) =
    on_if (KeptAsked v) (v.lines == length v.log) (acts v (steps.Dropped i cause))
    (acts_asked v (steps.Dropped i cause))
step_asked v (steps.Crashed c) = on_if (KeptAsked v) (v.lines == length v.log)
    (acts v (steps.Crashed c)) (acts_asked v (steps.Crashed c))
step_asked v (steps.Restarted s) =
    on_if (KeptAsked v) (v.lines == length v.log) (acts v (steps.Restarted s))
    (acts_asked v (steps.Restarted s))
step_asked v (steps.WriteFailed c number i) =
    on_if (KeptAsked v) (v.lines == length v.log) (acts v (steps.WriteFailed c number i))
    (acts_asked v (steps.WriteFailed c number i))
step_asked v (steps.ReadFailed c s number) =
    on_if (KeptAsked v) (v.lines == length v.log) (acts v (steps.ReadFailed c s number))
    (acts_asked v (steps.ReadFailed c s number))

pub run_asked : (its : List VolumeStep) (v : Volume) → OnSome (KeptAsked v) (run its v)
unfolding run
run_asked [] v = same v
run_asked (it ∷ its) v =
    on_then (KeptAsked v) (run its) (step v it)
    (on_more (KeptAsked v) (λ u. OnSome (KeptAsked v) (run its u))
    (λ u k. on_more (KeptAsked u) (KeptAsked v) (λ z q y i. q y (k y i)) (run its u)
    (run_asked its u))
    (step v it) (step_asked v it))

-- A volume that remembers all asks.
abbrev pub AllThere : (ClientId → List Ask) → Volume → Type 0
AllThere as_ v = (c : ClientId) (ask : Ask) → Has ask (as_ c) → Has (c, volume.file_of ask) v.asked

module _ (past : List Step) (x : Step) (it : Witness) where
  abbrev after : ClientId → List Ask
  after = asks_of (past ++ x ∷ [])

  -- what comes in the event
  comes : (v : Volume) (c : ClientId) (ask : Ask) → ask_in c x.event ≡ Some ask →
      OnSome (λ u. Has (c, volume.file_of ask) u.asked) (run (of_event x.before.world x.event) v)
  unfolding of_event run safety.ask_of_client
  comes v c ask q = by x.event q
    where
      asked : (d : ClientId) (y : Ask) → d ≡ c → y ≡ ask →
          OnSome (λ u. Has (c, volume.file_of ask) u.asked) (run (steps.Asked d y ∷ []) v)
      asked d y same is =
          on_then (λ u. Has (c, volume.file_of ask) u.asked) (run []) (step v (steps.Asked d y))
          (on_if (λ u. Has (c, volume.file_of ask) u.asked) (v.lines == length v.log)
          (acts v (steps.Asked d y))
          (on_if (λ u. Has (c, volume.file_of ask) u.asked) _ (Some (notice (arrived v d y)))
          (inl (ap (λ z. (z, volume.file_of ask)) (sym same) ∙
          ap (λ z. (d, volume.file_of z)) (sym is)))))

      its : (b : Bool) (y : Ask) → (if b then Some y else None) ≡ Some ask → (b ≡ true) × (y ≡ ask)
      its true y z = (refl, Words.Lookups.some_is z)
      its false y z = cc z

      by : (e : Event) → ask_in c e ≡ Some ask →
          OnSome (λ u. Has (c, volume.file_of ask) u.asked) (run (of_event x.before.world e) v)
      by (events.App d y) z = let k = its (c.0 == d.0) y z in
          asked d y (sym (client_is c d k.0)) k.1
      by e z = cc z

  all_asked : (v u : Volume) → AllThere (asks_of past) v → KeptAsked v u →
      ((c : ClientId) (ask : Ask) → ask_in c x.event ≡ Some ask →
      Has (c, volume.file_of ask) u.asked) →
      AllThere after u
  all_asked v u h kept new c ask i =
      go (ask_in c x.event) refl
      (has_append (asks_of past c) (cons_option (ask_in c x.event) []) ask
      (subst (Has ask) (asks_more past x c) i))
    where
      go : (o : Option Ask) → ask_in c x.event ≡ o →
          Has ask (asks_of past c) ⊎ Has ask (cons_option o []) →
          Has (c, volume.file_of ask) u.asked
      go o q (inl j) = kept (c, volume.file_of ask) (h c ask j)
      go None q (inr j) = absurd j
      go (Some y) q (inr (inl e)) =
          subst (λ z. Has (c, volume.file_of z) u.asked) (sym e) (new c y q)
      go (Some y) q (inr (inr j)) = absurd j

  -- after what the event is, and after its other steps
  pub event_asked : (v : Volume) → AllThere (asks_of past) v →
      OnSome (AllThere after) (run (of_event x.before.world x.event) v)
  event_asked v h =
      first (run (of_event x.before.world x.event) v)
      (run_asked (of_event x.before.world x.event) v) (λ c ask q. comes v c ask q)
    where
      first : (o : Option Volume) → OnSome (KeptAsked v) o →
          ((c : ClientId) (ask : Ask) → ask_in c x.event ≡ Some ask →
          OnSome (λ u. Has (c, volume.file_of ask) u.asked) o) →
          OnSome (AllThere after) o
      first None kept new = tt
      first (Some u) kept new = all_asked v u h kept new

  volume_asked : (o : Option Volume) → OnSome (AllThere (asks_of past)) o →
      OnSome (AllThere after) (volume_after it x o)
  volume_asked None h = tt
  volume_asked (Some v) h =
      let rest : List VolumeStep =
      of_delivery it.behind v x.before.world x.event ++ of_lines x.before.world x.seen in
      on_then (AllThere after) if_told (run (steps_of it v x) v)
      (on_more (AllThere after) (λ u. OnSome (AllThere after) (if_told u))
      (λ u k. on_if (AllThere after) (u.lines == length u.log) (Some u) k) (run (steps_of it v x) v)
      (run_then (AllThere after) (of_event x.before.world x.event) rest v
      (on_more (AllThere after) (λ u. OnSome (AllThere after) (run rest u))
      (λ u k. on_more (KeptAsked u) (AllThere after)
      (λ z q c ask i. q (c, volume.file_of ask) (k c ask i)) (run rest u) (run_asked rest u))
      (run (of_event x.before.world x.event) v) (event_asked v h))))

  pub asked_after : OnSome (AllThere (asks_of past)) it.volume →
      OnSome (AllThere after) (led_by it x).volume
  unfolding led_by
  asked_after h = volume_asked it.volume h
