-- In every run the volume takes each answer `written`: the ask that it answers is open, and has just taken effect as a write or a patch.
use Rattle.std.proofs.Common.{◌≡◌, ℕ, Bool, true, false, ◌==◌, List, [], ◌∷◌, ◌++◌, length, map, Option, Some, None, refl, sym, ap, ◌∙◌, subst, append_assoc, if◌then◌else◌}
use Rattle.std.specs.Prelude.{find, is_some, option_and_then, option_map}
use Rattle.std.proofs.lemmas.Bool.{eq-eqb, eqb-true}
use Rattle.st_base.specs.declared.ids.ClientId.{ClientId}
use Rattle.st_base.specs.declared.ids.FileId.{FileId}
use Rattle.st_messages.specs.declared.answer.AppAnswer.{AppAnswer}
use Rattle.st_messages.specs.declared.answer.AppAnswer.TheVariants as answers
use Rattle.st_messages.specs.declared.ask.Ask.{Ask}
use Rattle.st_messages.specs.declared.ask.Ask.TheVariants as asks
use Rattle.st_rules.specs.declared.observation.Observation.{Observation}
use Rattle.st_rules.specs.declared.observation.Observation.TheVariants as seen
use Rattle.st_rules.specs.History.{Traced, traced}
use Rattle.st_rules.specs.Safety.{AnswersAreLogged, AreLogged, AsksAreAnsweredOnce, IsLogged, IsLoggedAfter, IsLoggedWrite, Promise, Step, all_answered_once, all_followed, begins_written, is_followed, step, steps}
use Rattle.st_rules.specs.World as world
use Rattle.st_rules.specs.World.{World, fresh_world, site_of}
use Rattle.st_lemmas.proofs.Lookups.{if_true, some_is}
use Rattle.st_lemmas.proofs.Tables.{and_both, and_true, find_map, found_at}
use Rattle.st_lemmas.proofs.Truth.{client_is, eqb_self}
use Rattle.st_promises.specs.Safe.{EveryRunIsSafe, IsSafeRun}
use Rattle.st_laws_pages.specs.Asks.Law.{PlacesHold}
use Rattle.st_laws_pages.specs.Disks.Obligations.{FatesHold}
use Rattle.st_laws_pages.proofs.Asks.Law.{places_law}
use Rattle.st_laws_pages.proofs.Asks.World.{asks_more, asks_of}
use Rattle.st_laws_pages.proofs.Disks.Whole.{fates_law}
use Rattle.st_laws_volume.specs.Asks.{AsksOf, HasAsksOf, at_site, in_volume}
use Rattle.st_laws_volume.specs.StepKinds.{AreTaken, StepsAreTaken, is_written}
use Rattle.st_laws_volume.specs.Logs.{InEveryRun}
use Rattle.st_laws_volume.specs.Options.{OnSome}
use Rattle.st_laws_volume.specs.Seen.{cause_of, of_event, of_line}
use Rattle.st_laws_volume.specs.Witness.{Witness, before_line, next_op, of_delivery, of_lines, steps_of}
use Rattle.st_laws_volume.proofs.AnswerSteps.{OnlyAnswers, delivery_silent, event_silent, none_answered, open_there}
use Rattle.st_laws_volume.proofs.AskedAsks.{AreOf, Asked, IsOf, RightHold, all_has, asked_after, event_right, moved, right_begins, right_kept, run_right}
use Rattle.st_laws_volume.proofs.AskEvents.{AllOpenFor, OpenFor}
use Rattle.st_laws_volume.proofs.Asks.{AsksHold, asks_begin, asks_kept}
use Rattle.st_laws_volume.proofs.AskSteps.{is_open_op, told_all}
use Rattle.st_laws_volume.proofs.AsksTaken.{all_other}
use Rattle.st_laws_volume.proofs.Carried.{IsGiven, given_in}
use Rattle.st_laws_volume.proofs.ChangeLines.{block_other, followed_asked, on_both, patched_is, taken_both, wrote_is}
use Rattle.st_laws_volume.proofs.OpenAnswers.{Open, block, block_open, first_open, open_left, served_open}
use Rattle.st_laws_volume.proofs.Options.{on_all, on_else, on_if, on_map, on_more, on_then}
use Rattle.st_laws_volume.proofs.ReadPages.{throughout_both}
use Rattle.st_laws_volume.proofs.ReadRanges.{Written, written_is}
use Rattle.st_laws_volume.proofs.StepKinds.{delivery_inside}
use Rattle.st_laws_volume.proofs.ToldSteps.{Near, Told, effect_near, step_told}
use Rattle.st_volume.specs.declared.step.VolumeStep.{VolumeStep}
use Rattle.st_volume.specs.declared.step.VolumeStep.TheVariants as kinds
use Rattle.st_volume.specs.declared.step.Fate.TheVariants as fates
use Rattle.st_volume.specs.Pages.{Entry, is_any, place_of}
use Rattle.st_volume.specs.Volume as volume
use Rattle.st_volume.specs.Volume.{Pending, Volume, acts, answered, answers_so, done, effect, entry, is_ask, is_result, notice, noticing, resulting, takes, with_entry}

only_written : OnlyAnswers is_written
only_written (kinds.Answered c op answer) q = cc q
only_written (kinds.Asked c ask) q = refl
only_written (kinds.TakesEffect c op) q = refl
only_written (kinds.Joined i c what) q = refl
only_written (kinds.Hardened i) q = refl
only_written (kinds.Dropped i cause) q = refl
only_written (kinds.Crashed c) q = refl
only_written (kinds.Restarted s) q = refl
only_written (kinds.WriteFailed c number i) q = refl
only_written (kinds.ReadFailed c s number) q = refl

-- An open ask that has taken effect as a write or a patch.
abbrev is_change_result : AppAnswer → Bool
is_change_result result = is_result result answers.Written

abbrev has_written : Pending → Bool
has_written a = is_any is_change_result a.result

abbrev HasWritten : ClientId → ℕ → Volume → Type 0
HasWritten c op v = is_any has_written (find (is_ask c op) v.pending) ≡ true

find_front : {A : Type 0} (p : A → Bool) (xs ys : List A) (x : A) → find p xs ≡ Some x → find p (xs ++ ys) ≡ Some x
find_front p [] ys x q = cc q
find_front p (y ∷ xs) ys x q = go (p y) (find_front p xs ys x) q
  where
    go : (b : Bool) → (find p xs ≡ Some x → find p (xs ++ ys) ≡ Some x) → (if b then Some y else find p xs) ≡ Some x →
        (if b then Some y else find p (xs ++ ys)) ≡ Some x
    go true r e = e
    go false r e = r e

is_self : (a : Pending) → is_ask a.client a.op a ≡ true
is_self a = and_both (a.client.0 == a.client.0) (a.op == a.op) (eqb_self a.client.0) (eqb_self a.op)

resulted : (c : ClientId) (op : ℕ) (a : Pending) (answer : AppAnswer) (b : Pending) → is_ask c op (resulting a answer b) ≡ is_ask c op b
resulted c op a answer b = go (is_ask a.client a.op b)
  where
    go : (t : Bool) → is_ask c op (if t then record b { result = Some answer } else b) ≡ is_ask c op b
    go true = refl
    go false = refl

-- A write or a patch takes effect.
module _ (as_ : Asked) (v : Volume) (r : AreOf as_ v) (c : ClientId) (op : ℕ) (what : Ask) (asked : world.numbered (as_ c) op ≡ Some what)
    (kind : is_some (place_of what) ≡ true) (there : is_some (find (is_ask c op) v.pending) ≡ true) where
  abbrev Result : Volume × AppAnswer → Type 0
  Result y = (y.1 ≡ answers.Written) × (y.0.pending ≡ v.pending)

  joined : (f : FileId) (e : Entry) → OnSome (λ u. Result (u, answers.Written)) (with_entry v f e)
  joined f e = on_if (λ u. Result (u, answers.Written)) _ (Some (record v { log = v.log ++ e ∷ [] })) (refl, refl)

  result_is : (d : ClientId) (ask : Ask) → is_some (place_of ask) ≡ true → OnSome Result (effect v d ask)
  result_is d (asks.Write f p bytes) k = on_map Result (λ u. (u, answers.Written)) _ (joined f (entry d (asks.Write f p bytes) fates.Open))
  result_is d (asks.Patch f p at bytes) k = on_map Result (λ u. (u, answers.Written)) _ (joined f (entry d (asks.Patch f p at bytes) fates.Open))
  result_is d (asks.Read f p) k = tt
  result_is d (asks.Sync f) k = tt
  result_is d (asks.Cut f p) k = cc k
  result_is d (asks.Name s ask) k = cc k

  module _ (a : Pending) (found : find (is_ask c op) v.pending ≡ Some a) where
    written_at : (y : Volume × AppAnswer) → Result y → HasWritten c op (notice (done a y))
    written_at y n =
        ap (is_any has_written)
        (find_map (is_ask c op) (noticing (done a y)) (λ x. refl) (map (resulting a y.1) y.0.pending)
        ∙ ap (option_map (noticing (done a y)))
        (find_map (is_ask c op) (resulting a y.1) (resulted c op a y.1) y.0.pending
        ∙ ap (option_map (resulting a y.1)) (ap (find (is_ask c op)) n.1 ∙ found)))
        ∙ (ap (λ b. is_any is_change_result (if b then record a { result = Some y.1 } else a).result) (is_self a) ∙ ap is_change_result n.0)

    words : a.ask ≡ what
    words =
        let b = found_at (is_ask c op) v.pending a found in
        let k = and_true (a.client.0 == c.0) (a.op == op) b.0 in
        let own : IsOf as_ a = all_has as_ v.pending a r.pending b.1 in
        some_is
        (sym own ∙ (ap (λ d. world.numbered (as_ d) a.op) (client_is a.client c k.0) ∙ (ap (λ n. world.numbered (as_ c) n) (eqb-true a.op op k.1) ∙ asked)))

    takes_written : OnSome (λ u. HasWritten c op (notice u)) (takes v a)
    takes_written =
        on_else (λ u. HasWritten c op (notice u)) _ _
        (on_map (λ u. HasWritten c op (notice u)) (done a) (effect v a.client a.ask)
        (on_more Result (λ y. HasWritten c op (notice (done a y))) written_at (effect v a.client a.ask)
        (result_is a.client a.ask (ap (λ ask. is_some (place_of ask)) words ∙ kind))))

  found_written : (o : Option Pending) → find (is_ask c op) v.pending ≡ o → is_some o ≡ true →
      OnSome (λ a. OnSome (λ u. HasWritten c op (notice u)) (takes v a)) (find (is_ask c op) (v.pending ++ v.orphans))
  found_written None q k = cc k
  found_written (Some a) q k =
      subst (OnSome (λ a. OnSome (λ u. HasWritten c op (notice u)) (takes v a))) (sym (find_front (is_ask c op) v.pending v.orphans a q)) (takes_written a q)

  pub effect_written : OnSome (HasWritten c op) (volume.step v (kinds.TakesEffect c op))
  effect_written =
      on_if (HasWritten c op) (v.lines == length v.log) (acts v (kinds.TakesEffect c op))
      (on_map (HasWritten c op) notice (option_and_then (takes v) (find (is_ask c op) (v.pending ++ v.orphans)))
      (on_then (λ u. HasWritten c op (notice u)) (takes v) (find (is_ask c op) (v.pending ++ v.orphans))
      (found_written (find (is_ask c op) v.pending) refl there)))

-- The answer is taken then.
abbrev Done : ClientId → ℕ → Volume → Type 0
Done c op v = HasWritten c op v × Told v

answer_taken : (c : ClientId) (op : ℕ) (v : Volume) → Done c op v → is_some (volume.step v (kinds.Answered c op answers.Written)) ≡ true
answer_taken c op v h =
    ap is_some (if_true (v.lines == length v.log) (acts v (kinds.Answered c op answers.Written)) None (eq-eqb v.lines (length v.log) h.1))
    ∙ at (find (is_ask c op) v.pending) h.0
  where
    so : (a : Pending) (o : Option AppAnswer) → is_any is_change_result o ≡ true →
        is_some (if answers_so v a answers.Written o then Some (volume.closed a (volume.after_answer v a answers.Written)) else None) ≡ true
    so a None q = cc q
    so a (Some result) q =
        ap is_some (if_true (answers_so v a answers.Written (Some result)) (Some (volume.closed a (volume.after_answer v a answers.Written))) None q)

    at : (o : Option Pending) → is_any has_written o ≡ true → is_some (option_and_then (answered v answers.Written) o) ≡ true
    at None q = cc q
    at (Some a) q = so a a.result q

-- The lines of an effect and of its entry.
joined_done : (c : ClientId) (op : ℕ) (v : Volume) (i : ℕ) (d : Option ClientId) (what : Ask) → HasWritten c op v → Near v →
    OnSome (Done c op) (volume.step v (kinds.Joined i d what))
joined_done c op v i d what h n =
    on_both (HasWritten c op) Told (volume.step v (kinds.Joined i d what)) (on_if (HasWritten c op) _ (Some (record v { lines = i })) h)
    (step_told v (kinds.Joined i d what) refl n)

two_done : (c : ClientId) (op : ℕ) (v : Volume) (i : ℕ) (d : Option ClientId) (what : Ask) → OnSome (HasWritten c op) (volume.step v (kinds.TakesEffect c op)) →
    OnSome (Done c op) (volume.run (kinds.TakesEffect c op ∷ kinds.Joined i d what ∷ []) v)
unfolding volume.run
two_done c op v i d what h =
    on_then (Done c op) (volume.run (kinds.Joined i d what ∷ [])) (volume.step v (kinds.TakesEffect c op))
    (on_more (λ u. HasWritten c op u × Near u) (λ u. OnSome (Done c op) (volume.run (kinds.Joined i d what ∷ []) u))
    (λ u k. on_then (Done c op) (volume.run []) (volume.step u (kinds.Joined i d what)) (joined_done c op u i d what k.0 k.1))
    (volume.step v (kinds.TakesEffect c op))
    (on_both (HasWritten c op) Near (volume.step v (kinds.TakesEffect c op)) h (effect_near v c op)))

-- After the line of a write or a patch the ask that is answered next has taken effect.
abbrev Ready : Option Observation → List Observation → Volume → Type 0
Ready (Some (seen.Wrote i c f p bytes)) os u = Done c (next_op os) u
Ready (Some (seen.Patched i c f p at bytes)) os u = Done c (next_op os) u
Ready line os u = Unit {0}

abbrev whose : Observation → Option ClientId
whose (seen.Wrote i c f p bytes) = Some c
whose (seen.Patched i c f p at bytes) = Some c
whose o = None

write_ready : (c : ClientId) (op : ℕ) (os : List Observation) (u : Volume) (asked : Option Ask) (o : Observation) → IsLoggedWrite c asked o →
    Ready (Some o) (seen.Answered c op answers.Written ∷ os) u → Done c op u
write_ready c op os u (Some (asks.Write f p bytes)) (seen.Wrote i d g q old) l r = subst (λ y. Done y op u) (some_is (ap whose l)) r
write_ready c op os u (Some (asks.Write f p bytes)) o l r = absurd l
write_ready c op os u (Some (asks.Patch f p at bytes)) (seen.Patched i d g q place old) l r = subst (λ y. Done y op u) (some_is (ap whose l)) r
write_ready c op os u (Some (asks.Patch f p at bytes)) o l r = absurd l
write_ready c op os u (Some (asks.Read f p)) o l r = absurd l
write_ready c op os u (Some (asks.Sync f)) o l r = absurd l
write_ready c op os u (Some (asks.Cut f p)) o l r = absurd l
write_ready c op os u (Some (asks.Name s ask)) o l r = absurd l
write_ready c op os u None o l r = absurd l

answer_ready : (c : ClientId) (op : ℕ) (os : List Observation) (u : Volume) (asked : Option Ask) (line : Option Observation) → IsLoggedAfter c asked line →
    Ready line (seen.Answered c op answers.Written ∷ os) u → Done c op u
answer_ready c op os u asked None l r = absurd l
answer_ready c op os u asked (Some o) l r = write_ready c op os u asked o l r

-- the ask that is answered next is open
next_open : (w : World) (c : ClientId) (os : List Observation) (a : AsksOf) → begins_written c os ≡ true → AllOpenFor w c os a →
    is_open_op (next_op os) a.pending ≡ true
next_open w c [] a b h = cc b
next_open w c (o ∷ os) a b h = go (written_is c o b)
  where
    go : Written o → is_open_op (next_op (o ∷ os)) a.pending ≡ true
    go (d, op, e) =
        ap (λ y. is_open_op (next_op (y ∷ os)) a.pending) e
        ∙ (subst (λ y. OpenFor c y a) e h.0) (subst (λ y. begins_written c (y ∷ os) ≡ true) e b)

one_taken : (it : VolumeStep) (v : Volume) → (is_written it ≡ true → is_some (volume.step v it) ≡ true) → AreTaken is_written (it ∷ []) v
unfolding AreTaken
one_taken it v h = (h, on_all (AreTaken is_written []) (λ u. tt) (volume.step v it))

module _ (past : List Step) (x : Step) (w : World) where
  abbrev as_ : Asked
  as_ = asks_of (past ++ x ∷ [])

  abbrev State : Option Observation → List Observation → Volume → Type 0
  State line os u = AreOf as_ u × (Open w os u × Ready line os u)

  -- what a line leaves
  block_ready : (o : Observation) (os : List Observation) (u : Volume) → AreLogged past x (Some o) os → is_followed o os ≡ true → AreOf as_ u →
      Open w (o ∷ os) u → OnSome (Ready (Some o) os) (volume.run (block w o os) u)
  unfolding before_line of_line
  block_ready (seen.Wrote i c f p bytes) os u l b r h =
      two_done c (next_op os) u i (Some c) (asks.Write f p bytes)
      (effect_written as_ u r c (next_op os) (asks.Write f p bytes)
      (followed_asked past x (seen.Wrote i c f p bytes) c (asks.Write f p bytes) (λ d asked z. wrote_is d asked i c f p bytes z) os b l) refl
      (open_there c (next_op os) u (next_open w c os (in_volume u c) b (h c).1)))
  block_ready (seen.Patched i c f p at bytes) os u l b r h =
      two_done c (next_op os) u i (Some c) (asks.Patch f p at bytes)
      (effect_written as_ u r c (next_op os) (asks.Patch f p at bytes)
      (followed_asked past x (seen.Patched i c f p at bytes) c (asks.Patch f p at bytes) (λ d asked z. patched_is d asked i c f p at bytes z) os b l) refl
      (open_there c (next_op os) u (next_open w c os (in_volume u c) b (h c).1)))
  block_ready (seen.CutAt i f p) os u l b r h = on_all (Ready (Some (seen.CutAt i f p)) os) (λ z. tt) _
  block_ready (seen.Hardened i) os u l b r h = on_all (Ready (Some (seen.Hardened i)) os) (λ z. tt) _
  block_ready (seen.Dropped i cause) os u l b r h = on_all (Ready (Some (seen.Dropped i cause)) os) (λ z. tt) _
  block_ready (seen.Answered c op answer) os u l b r h = on_all (Ready (Some (seen.Answered c op answer)) os) (λ z. tt) _
  block_ready (seen.Sent k m) os u l b r h = on_all (Ready (Some (seen.Sent k m)) os) (λ z. tt) _
  block_ready (seen.Submitted k c number what) os u l b r h = on_all (Ready (Some (seen.Submitted k c number what)) os) (λ z. tt) _
  block_ready (seen.Leased c s end) os u l b r h = on_all (Ready (Some (seen.Leased c s end)) os) (λ z. tt) _
  block_ready (seen.Lost c s life) os u l b r h = on_all (Ready (Some (seen.Lost c s life)) os) (λ z. tt) _
  block_ready (seen.Suspected s c start) os u l b r h = on_all (Ready (Some (seen.Suspected s c start)) os) (λ z. tt) _
  block_ready (seen.Stolen s c life) os u l b r h = on_all (Ready (Some (seen.Stolen s c life)) os) (λ z. tt) _

  -- one line
  answer_block : (line : Option Observation) (c : ClientId) (op : ℕ) (answer : AppAnswer) (os : List Observation) (u : Volume) →
      IsLogged past x line (seen.Answered c op answer) → Ready line (seen.Answered c op answer ∷ os) u →
      is_written (kinds.Answered c op answer) ≡ true → is_some (volume.step u (kinds.Answered c op answer)) ≡ true
  answer_block line c op answers.Written os u l r q = answer_taken c op u (answer_ready c op os u _ line l r)
  answer_block line c op answer os u l r q = cc q

  block_taken : (line : Option Observation) (o : Observation) (os : List Observation) (u : Volume) → IsLogged past x line o → Ready line (o ∷ os) u →
      AreTaken is_written (block w o os) u
  unfolding before_line of_line AreTaken
  block_taken line (seen.Answered c op answer) os u l r =
      one_taken (kinds.Answered c op answer) u (answer_block line c op answer os u l r)
  block_taken line (seen.Wrote i c f p bytes) os u l r =
      none_answered is_written only_written (kinds.TakesEffect c (next_op os) ∷ kinds.Joined i (Some c) (asks.Write f p bytes) ∷ []) u refl
  block_taken line (seen.Patched i c f p at bytes) os u l r =
      none_answered is_written only_written (kinds.TakesEffect c (next_op os) ∷ kinds.Joined i (Some c) (asks.Patch f p at bytes) ∷ []) u refl
  block_taken line (seen.CutAt i f p) os u l r = none_answered is_written only_written (kinds.Joined i None (asks.Cut f p) ∷ []) u refl
  block_taken line (seen.Hardened i) os u l r = none_answered is_written only_written (kinds.Hardened i ∷ []) u refl
  block_taken line (seen.Dropped i cause) os u l r = none_answered is_written only_written (kinds.Dropped i (cause_of w cause) ∷ []) u refl
  block_taken line (seen.Sent k m) os u l r = tt
  block_taken line (seen.Submitted k c number what) os u l r = tt
  block_taken line (seen.Leased c s end) os u l r = tt
  block_taken line (seen.Lost c s life) os u l r = tt
  block_taken line (seen.Suspected s c start) os u l r = tt
  block_taken line (seen.Stolen s c life) os u l r = tt

  lines_taken : (line : Option Observation) (os : List Observation) (u : Volume) → AreLogged past x line os → all_followed os ≡ true → State line os u →
      AreTaken is_written (of_lines w os) u
  unfolding of_lines AreTaken AreLogged all_followed
  lines_taken line [] u l b k = tt
  lines_taken line (o ∷ os) u l b k =
      let g = and_true (is_followed o os) (all_followed os) b in
      subst (λ its. AreTaken is_written its u) (append_assoc (before_line o os) (of_line w o) (of_lines w os))
      (taken_both is_written (block w o os) (of_lines w os) u (block_taken line o os u l.0 k.1.1)
      (on_more (State (Some o) os) (AreTaken is_written (of_lines w os)) (λ z j. lines_taken (Some o) os z l.1 g.1 j) (volume.run (block w o os) u)
      (on_both (AreOf as_) (λ z. Open w os z × Ready (Some o) os z) (volume.run (block w o os) u) (run_right as_ (block w o os) u (block_other w o os) k.0)
      (on_both (Open w os) (Ready (Some o) os) (volume.run (block w o os) u) (block_open w o os u k.1.0) (block_ready o os u l.1 g.0 k.0 k.1.0)))))

-- All steps of an event.
event_written : (past : List Step) (x : Step) (it : Witness) (v : Volume) → all_followed x.seen ≡ true → AnswersAreLogged past x → AreOf (asks_of past) v →
    ((c : ClientId) → AllOpenFor x.before.world c x.seen (told_all c (of_event x.before.world x.event) (in_volume v c))) →
    AreTaken is_written (steps_of it v x) v
event_written past x it v b l r h =
    let w : World = x.before.world in
    let bs : Asked = asks_of (past ++ x ∷ []) in
    let first : List VolumeStep = of_event w x.event in
    let served : List VolumeStep = of_delivery it.behind v w x.event in
    let all : List VolumeStep = of_lines w x.seen in
    taken_both is_written first (served ++ all) v (none_answered is_written only_written first v (event_silent w x.event))
    (on_more (λ y. AreOf bs y × Open w x.seen y) (AreTaken is_written (served ++ all))
    (λ y k. taken_both is_written served all y (none_answered is_written only_written served y (delivery_silent it.behind v w x.event))
    (on_more (State past x w None x.seen) (AreTaken is_written all) (λ z j. lines_taken past x w None x.seen z l b j) (volume.run served y)
    (on_both (AreOf bs) (λ z. Open w x.seen z × Unit {0}) (volume.run served y)
    (run_right bs served y (all_other served (delivery_inside it.behind v w x.event)) k.0)
    (on_more (Open w x.seen) (λ z. Open w x.seen z × Unit {0}) (λ z j. (j, tt)) (volume.run served y)
    (served_open w x.event x.seen it.behind v y k.1)))))
    (volume.run first v)
    (on_both (AreOf bs) (Open w x.seen) (volume.run first v)
    (on_more (AreOf (asked_after (asks_of past) x.event)) (AreOf bs) (λ y k. moved (asked_after (asks_of past) x.event) bs (λ c. asks_more past x c) y k)
    (volume.run first v)
    (event_right (asks_of past) w x.event v r))
    (first_open w x.event x.seen v h)))

-- In every run.
WrittenToo : List Step → Step → Witness → Type 0
WrittenToo past x it = OnSome (λ v. AreTaken is_written (steps_of it v x) v) it.volume

record WrittenHold (past : List Step) (t : Traced) (it : Witness) : Type 0 where
  asks : AsksHold past t it
  right : RightHold past t it

abbrev Known : Promise
Known past x = AsksAreAnsweredOnce past x × (AnswersAreLogged past x × (FatesHold x.after.world × PlacesHold x.after.world))

written_on : IsGiven Known WrittenHold WrittenToo
unfolding WrittenToo
written_on past t e sc it f g h =
    let x : Step = step t e sc in
    let left : (c : ClientId) → AllOpenFor t.world c sc.seen (told_all c (of_event t.world e) (at_site (site_of t.world c))) =
    open_left past t e sc it f h.asks in (
      on_more (λ v. HasAsksOf t.world v × AreOf (asks_of past) v) (λ v. AreTaken is_written (steps_of it v x) v)
          (λ v k. event_written past x it v (and_true (all_answered_once past x [] x.seen) (all_followed x.seen) g.0).1 g.1.0 k.1
          (λ c. subst (λ a. AllOpenFor t.world c sc.seen (told_all c (of_event t.world e) a)) (sym (k.0 c)) (left c)))
          it.volume
          (on_both (HasAsksOf t.world) (AreOf (asks_of past)) it.volume h.asks.agree h.right),
      record { asks = asks_kept past t e sc it f g.1.1 h.asks; right = right_kept past t e sc it f tt h.right },
    )

pub written_answers_are_taken : EveryRunIsSafe → InEveryRun (StepsAreTaken is_written)
unfolding WrittenToo
written_answers_are_taken safe k clients servers disks blocks form es head events =
    let t : Traced = traced (fresh_world k clients servers disks blocks form) in
    let kept : IsSafeRun (fresh_world k clients servers disks blocks form) es = safe k clients servers disks blocks form es head events in
    given_in Known WrittenHold WrittenToo written_on es t
    (record { asks = asks_begin k clients servers disks blocks form; right = right_begins k clients servers disks blocks form })
    (throughout_both AsksAreAnsweredOnce (λ past x. AnswersAreLogged past x × (FatesHold x.after.world × PlacesHold x.after.world)) [] (steps es t) kept.once
    (throughout_both AnswersAreLogged (λ past x. FatesHold x.after.world × PlacesHold x.after.world) [] (steps es t) kept.logged
    (throughout_both (λ past x. FatesHold x.after.world) (λ past x. PlacesHold x.after.world) [] (steps es t)
    (fates_law k clients servers disks blocks form es) (places_law k clients servers disks blocks form es head))))
