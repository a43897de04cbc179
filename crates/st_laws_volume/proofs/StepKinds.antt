-- A run is accepted if the steps of each kind are taken; and those that are free always are.
use Rattle.std.proofs.Common.{◌≡◌, ℕ, Bool, true, false, ◌==◌, length, List, [], ◌∷◌, ◌++◌, Option, Some, None, Ok, refl, ap, ◌∙◌, subst, if◌then◌else◌}
use Rattle.std.specs.Prelude.{is_some, option_and_then, Result}
use Rattle.std.specs.List.{list_all}
use Rattle.std.proofs.lemmas.Bool.{eq-eqb}
use Rattle.st_base.specs.declared.ids.NodeId.{NodeId}
use Rattle.st_base.specs.declared.ids.NodeId.TheVariants as nodes
use Rattle.st_base.specs.declared.ids.ServerId.{ServerId}
use Rattle.st_messages.specs.declared.event.Event.{Event}
use Rattle.st_messages.specs.declared.event.Event.TheVariants as events
use Rattle.st_messages.specs.declared.message.Message.{Message}
use Rattle.st_rules.specs.declared.observation.Observation.{Observation}
use Rattle.st_rules.specs.declared.observation.Observation.TheVariants as seen
use Rattle.st_rules.specs.declared.world.Carried.{Carried}
use Rattle.st_rules.specs.declared.world.IssuedCommand.{IssuedCommand}
use Rattle.st_rules.specs.declared.world.SentMessage.{SentMessage}
use Rattle.st_rules.specs.Events.{WorldTurn, is_same_instance}
use Rattle.st_rules.specs.History.{Traced, traced}
use Rattle.st_rules.specs.Safety.{Promise, Step, TheReportTellsTheLog, Throughout, step, steps}
use Rattle.st_rules.specs.World.{World, WorldClient, fresh_world, issued_of, message_of, node_of, receiver_of, site_of}
use Rattle.st_lemmas.proofs.Lookups.{if_true}
use Rattle.st_lemmas.proofs.Tables.{and_both, and_true}
use Rattle.st_lemmas.proofs.Truth.{clash}
use Rattle.st_promises.specs.Safe.{EveryRunIsSafe}
use Rattle.st_laws_volume.specs.StepKinds.{AllKindsAre, AreTaken, EntriesAreTold, KindsAreEnough, StepsAreTaken, is_answer, is_ask, is_effect, is_failed_write, is_fate, is_free, is_line}
use Rattle.st_laws_volume.specs.Logs.{InEveryRun, IsLogOf}
use Rattle.st_laws_volume.specs.Options.{OnSome}
use Rattle.st_laws_volume.specs.Seen.{failure, failure_of, failure_told, of_event, of_line}
use Rattle.st_laws_volume.specs.Witness.{Accepted, Behind, IsAccepted, Witness, before_line, begun, does_at, if_told, led_by, led_from, led_to, of_delivery, of_lines, of_message, shows, steps_of, takes_op, to_node, volume_after}
use Rattle.st_laws_volume.proofs.Carried.{IsGiven, IsLed, given_in, led_more}
use Rattle.st_laws_volume.proofs.Logs.{LogHolds, log_begins, log_kept}
use Rattle.st_laws_volume.proofs.Options.{on_all, on_more}
use Rattle.st_laws_volume.proofs.Shown.{steps_show}
use Rattle.st_volume.specs.declared.step.VolumeStep.{VolumeStep}
use Rattle.st_volume.specs.declared.step.VolumeStep.TheVariants as kinds
use Rattle.st_volume.specs.Volume as volume
use Rattle.st_volume.specs.Volume.{Volume, run}

-- All steps of an event, if each kind is taken.
abbrev Each : List VolumeStep → Volume → Type 0
Each its v = AllKindsAre (λ which. AreTaken which its v)

first_taken : (it : VolumeStep) (its : List VolumeStep) (v : Volume) → Each (it ∷ its) v → is_some (volume.step v it) ≡ true
unfolding AreTaken
first_taken (kinds.Asked c ask) its v h = h.asks.0 refl
first_taken (kinds.TakesEffect c op) its v h = h.effects.0 refl
first_taken (kinds.Joined i c what) its v h = h.lines.0 refl
first_taken (kinds.Answered c op answer) its v h = h.answers.0 refl
first_taken (kinds.Hardened i) its v h = h.fates.0 refl
first_taken (kinds.Dropped i cause) its v h = h.fates.0 refl
first_taken (kinds.Crashed c) its v h = h.free.0 refl
first_taken (kinds.Restarted s) its v h = h.free.0 refl
first_taken (kinds.WriteFailed c number i) its v h = h.failures.0 refl
first_taken (kinds.ReadFailed c s number) its v h = h.free.0 refl

all_taken : (its : List VolumeStep) (v : Volume) → Each its v → is_some (run its v) ≡ true
unfolding run AreTaken
all_taken [] v h = refl
all_taken (it ∷ its) v h =
    go (volume.step v it) (first_taken it its v h) h.asks.1 h.effects.1 h.lines.1 h.answers.1 h.fates.1 h.failures.1 h.free.1 (λ u. all_taken its u)
  where
    go : (o : Option Volume) → is_some o ≡ true → OnSome (AreTaken is_ask its) o → OnSome (AreTaken is_effect its) o → OnSome (AreTaken is_line its) o →
        OnSome (AreTaken is_answer its) o → OnSome (AreTaken is_fate its) o → OnSome (AreTaken is_failed_write its) o → OnSome (AreTaken is_free its) o →
        ((u : Volume) → Each its u → is_some (run its u) ≡ true) → is_some (option_and_then (run its) o) ≡ true
    go None q a b c d e f g h = cc
    go (Some u) q a b c d e f g h = h u (record { asks = a; effects = b; lines = c; answers = d; fates = e; failures = f; free = g })

-- What is given at a step, and what is carried: there is a volume, which the witness has led to.
record IsGivenAt (past : List Step) (x : Step) : Type 0 where
  kinds : AllKindsAre (λ which. StepsAreTaken which past x)
  told : EntriesAreTold past x

record HasVolume (past : List Step) (t : Traced) (it : Witness) : Type 0 where
  there : is_some it.volume ≡ true
  led : IsLed past t it

abbrev AllTakenBy : Witness → Step → Option Volume → Type 0
AllTakenBy it x o = AllKindsAre (λ which. OnSome (λ v. AreTaken which (steps_of it v x) v) o)

abbrev ToldBy : Witness → Step → Option Volume → Type 0
ToldBy it x o = OnSome (λ v. OnSome (λ u. u.lines ≡ length u.log) (run (steps_of it v x) v)) o

accepted : (it : Witness) (x : Step) (o : Option Volume) → is_some o ≡ true → AllTakenBy it x o → ToldBy it x o →
    shows it x o × (is_some (volume_after it x o) ≡ true)
accepted it x None q k l = cc
accepted it x (Some v) q k l = (steps_show it v x, go (run (steps_of it v x) v) (all_taken (steps_of it v x) v k) l)
  where
    go : (o : Option Volume) → is_some o ≡ true → OnSome (λ u. u.lines ≡ length u.log) o → is_some (option_and_then if_told o) ≡ true
    go None q l = cc
    go (Some u) q l = ap is_some (if_true (u.lines == length u.log) (Some u) None (eq-eqb u.lines (length u.log) l))

AccToo : List Step → Step → Witness → Type 0
AccToo past x it = IsAccepted it x

enough_on : IsGiven IsGivenAt HasVolume AccToo
unfolding led_by AccToo
enough_on past t e sc it f g h =
    let x : Step = step t e sc in
    let q : led_to past x ≡ it = h.led x refl in
    let r : IsAccepted it x =
    accepted it x it.volume h.there (subst (λ (w : Witness). AllTakenBy w x w.volume) q g.kinds) (subst (λ (w : Witness). ToldBy w x w.volume) q g.told) in
    (r, record { there = r.1; led = λ y i. led_more past x y ∙ ap (λ j. led_by j x) q })

given_all : (past xs : List Step) → AllKindsAre (λ which. Throughout (StepsAreTaken which) past xs) → Throughout EntriesAreTold past xs →
    Throughout IsGivenAt past xs
unfolding Throughout
given_all past [] k l = tt
given_all past (x ∷ xs) k l = (
  record {
    kinds =
        record {
          asks = k.asks.0;
          effects = k.effects.0;
          lines = k.lines.0;
          answers = k.answers.0;
          fates = k.fates.0;
          failures = k.failures.0;
          free = k.free.0;
        };
    told = l.0;
  },
  given_all (past ++ x ∷ []) xs
      (record {
        asks = k.asks.1;
        effects = k.effects.1;
        lines = k.lines.1;
        answers = k.answers.1;
        fates = k.fates.1;
        failures = k.failures.1;
        free = k.free.1;
      })
      l.1,
)

pub kinds_enough : KindsAreEnough
unfolding led_from begun AccToo
kinds_enough w es k l =
    given_in IsGivenAt HasVolume AccToo enough_on es (traced w) (record { there = refl; led = λ x i. ap (λ (s : Traced). begun s.world s.world) i })
    (given_all [] (steps es (traced w)) k l)

-- Steps inside an event: what servers do, and lines. No test of the event itself passes them.
abbrev pub is_inside : VolumeStep → Bool
is_inside (kinds.TakesEffect c op) = true
is_inside (kinds.Joined i c what) = true
is_inside (kinds.Answered c op answer) = true
is_inside (kinds.Hardened i) = true
is_inside (kinds.Dropped i cause) = true
is_inside it = false

abbrev pub IsApart : (VolumeStep → Bool) → Type 0
IsApart which = (it : VolumeStep) → is_inside it ≡ true → which it ≡ false

pub none_inside : (which : VolumeStep → Bool) → IsApart which → (its : List VolumeStep) (v : Volume) → list_all is_inside its ≡ true → AreTaken which its v
unfolding AreTaken
none_inside which apart [] v q = tt
none_inside which apart (it ∷ its) v q =
    let b = and_true (is_inside it) (list_all is_inside its) q in
    (λ p. clash p (apart it b.0), on_all (AreTaken which its) (λ u. none_inside which apart its u b.1) (volume.step v it))

pub one_before : (which : VolumeStep → Bool) → IsApart which → (it : VolumeStep) (its : List VolumeStep) (v : Volume) →
    (which it ≡ true → is_some (volume.step v it) ≡ true) → list_all is_inside its ≡ true → AreTaken which (it ∷ its) v
unfolding AreTaken
one_before which apart it its v h q = (h, on_all (AreTaken which its) (λ u. none_inside which apart its u q) (volume.step v it))

-- Crashes, starts and failed reads.
free_apart : IsApart is_free
free_apart (kinds.TakesEffect c op) q = refl
free_apart (kinds.Joined i c what) q = refl
free_apart (kinds.Answered c op answer) q = refl
free_apart (kinds.Hardened i) q = refl
free_apart (kinds.Dropped i cause) q = refl
free_apart (kinds.Crashed c) q = cc
free_apart (kinds.Restarted s) q = cc
free_apart (kinds.ReadFailed c s number) q = cc
free_apart (kinds.Asked c ask) q = cc
free_apart (kinds.WriteFailed c number i) q = cc

none_free : (its : List VolumeStep) (v : Volume) → list_all is_inside its ≡ true → AreTaken is_free its v
none_free = none_inside is_free free_apart

first_free : (it : VolumeStep) (its : List VolumeStep) (v : Volume) → v.lines ≡ length v.log → list_all is_inside its ≡ true → AreTaken is_free (it ∷ its) v
first_free it its v l q = one_before is_free free_apart it its v (free it) q
  where
    now : (u : Volume) → is_some (if v.lines == length v.log then Some u else None) ≡ true
    now u = ap is_some (if_true (v.lines == length v.log) (Some u) None (eq-eqb v.lines (length v.log) l))

    free : (it : VolumeStep) → is_free it ≡ true → is_some (volume.step v it) ≡ true
    free (kinds.Crashed c) p = now (volume.crashed v c)
    free (kinds.Restarted s) p = now (volume.restarted v s)
    free (kinds.ReadFailed c s number) p = now (volume.failing v c number (volume.is_read_of s))
    free (kinds.Asked c ask) p = cc
    free (kinds.TakesEffect c op) p = cc
    free (kinds.Joined i c what) p = cc
    free (kinds.Answered c op answer) p = cc
    free (kinds.Hardened i) p = cc
    free (kinds.Dropped i cause) p = cc
    free (kinds.WriteFailed c number i) p = cc

module _ (v : Volume) (l : v.lines ≡ length v.log) (rest : List VolumeStep) (q : list_all is_inside rest ≡ true) where
  told_free : (k : IssuedCommand) (site : Option WorldClient) → AreTaken is_free (failure_told k site ++ rest) v
  told_free k None = none_free rest v q
  told_free k (Some site) = go (is_same_instance k site)
    where
      go : (b : Bool) → AreTaken is_free ((if b then failure k k.carries ∷ [] else []) ++ rest) v
      go true = first_free (failure k k.carries) rest v l q
      go false = none_free rest v q

  failed_free : (w : World) (k : Option IssuedCommand) → AreTaken is_free (failure_of w k ++ rest) v
  failed_free w None = none_free rest v q
  failed_free w (Some k) = told_free k (site_of w k.client)

  event_free : (w : World) (e : Event) → AreTaken is_free (of_event w e ++ rest) v
  unfolding of_event
  event_free w (events.Tick n) = none_free rest v q
  event_free w (events.App c ask) = first_free (kinds.Asked c ask) rest v l q
  event_free w (events.Deliver k) = none_free rest v q
  event_free w (events.Lose k) = none_free rest v q
  event_free w (events.Cut from to) = none_free rest v q
  event_free w (events.Heal from to) = none_free rest v q
  event_free w (events.Advance increments) = none_free rest v q
  event_free w (events.Effect k) = none_free rest v q
  event_free w (events.Report k true) = none_free rest v q
  event_free w (events.Report k false) = failed_free w (issued_of w k)
  event_free w (events.Crash (nodes.Client c)) = first_free (kinds.Crashed c) rest v l q
  event_free w (events.Crash (nodes.Server s)) = none_free rest v q
  event_free w (events.Start (nodes.Client c)) = none_free rest v q
  event_free w (events.Start (nodes.Server s)) = first_free (kinds.Restarted s) rest v l q

-- neither a delivery nor a line is one of them
pub both_inside : (xs ys : List VolumeStep) → list_all is_inside xs ≡ true → list_all is_inside ys ≡ true → list_all is_inside (xs ++ ys) ≡ true
both_inside [] ys p q = q
both_inside (x ∷ xs) ys p q =
    let b = and_true (is_inside x) (list_all is_inside xs) p in and_both (is_inside x) (list_all is_inside (xs ++ ys)) b.0 (both_inside xs ys b.1 q)

node_inside : (bs : List Behind) (v : Volume) (w : World) (m : Message) (n : NodeId) → list_all is_inside (to_node bs v w m n) ≡ true
node_inside bs v w m (nodes.Client c) = refl
node_inside bs v w m (nodes.Server s) = go (does_at w s (node_of w s) m)
  where
    go : (b : Bool) → list_all is_inside (if b then takes_op bs v s m ∷ [] else []) ≡ true
    go true = refl
    go false = refl

message_inside : (bs : List Behind) (v : Volume) (w : World) (m : Option SentMessage) → list_all is_inside (of_message bs v w m) ≡ true
message_inside bs v w None = refl
message_inside bs v w (Some m) = node_inside bs v w m.message (receiver_of m)

pub delivery_inside : (bs : List Behind) (v : Volume) (w : World) (e : Event) → list_all is_inside (of_delivery bs v w e) ≡ true
delivery_inside bs v w (events.Deliver k) = message_inside bs v w (message_of w k)
delivery_inside bs v w (events.Tick n) = refl
delivery_inside bs v w (events.App c ask) = refl
delivery_inside bs v w (events.Lose k) = refl
delivery_inside bs v w (events.Cut from to) = refl
delivery_inside bs v w (events.Heal from to) = refl
delivery_inside bs v w (events.Advance increments) = refl
delivery_inside bs v w (events.Effect k) = refl
delivery_inside bs v w (events.Report k ok) = refl
delivery_inside bs v w (events.Crash n) = refl
delivery_inside bs v w (events.Start n) = refl

line_inside : (w : World) (o : Observation) (rest : List Observation) (xs : List VolumeStep) → list_all is_inside xs ≡ true →
    list_all is_inside (before_line o rest ++ (of_line w o ++ xs)) ≡ true
unfolding before_line of_line
line_inside w (seen.Wrote i c f p bytes) rest xs q = q
line_inside w (seen.Patched i c f p at bytes) rest xs q = q
line_inside w (seen.CutAt i f p) rest xs q = q
line_inside w (seen.Hardened i) rest xs q = q
line_inside w (seen.Dropped i cause) rest xs q = q
line_inside w (seen.Answered c op answer) rest xs q = q
line_inside w (seen.Sent k m) rest xs q = q
line_inside w (seen.Submitted k c number what) rest xs q = q
line_inside w (seen.Leased c s end) rest xs q = q
line_inside w (seen.Lost c s life) rest xs q = q
line_inside w (seen.Suspected s c start) rest xs q = q
line_inside w (seen.Stolen s c life) rest xs q = q

pub lines_inside : (w : World) (os : List Observation) → list_all is_inside (of_lines w os) ≡ true
unfolding of_lines
lines_inside w [] = refl
lines_inside w (o ∷ os) = line_inside w o os (of_lines w os) (lines_inside w os)

FreeToo : List Step → Step → Witness → Type 0
FreeToo past x it = OnSome (λ v. AreTaken is_free (steps_of it v x) v) it.volume

free_on : IsGiven TheReportTellsTheLog LogHolds FreeToo
unfolding FreeToo
free_on past t e sc it f g h = (
  on_more (IsLogOf t.world.log) (λ v. AreTaken is_free (steps_of it v (step t e sc)) v)
      (λ v k. event_free v k.lines (of_delivery it.behind v t.world e ++ of_lines t.world sc.seen)
      (both_inside (of_delivery it.behind v t.world e) (of_lines t.world sc.seen) (delivery_inside it.behind v t.world e) (lines_inside t.world sc.seen))
      t.world e)
      it.volume h,
  log_kept past t e sc it f g h,
)

pub free_steps_are_taken : EveryRunIsSafe → InEveryRun (StepsAreTaken is_free)
unfolding FreeToo
free_steps_are_taken safe k clients servers disks blocks form es head events =
    given_in TheReportTellsTheLog LogHolds FreeToo free_on es (traced (fresh_world k clients servers disks blocks form))
    (log_begins k clients servers disks blocks form)
    (safe k clients servers disks blocks form es head events).told
