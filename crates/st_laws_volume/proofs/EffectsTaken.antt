-- In every run the volume takes each effect: of a request that a server serves, as its ask is there and is the next one; and of a change, at its line.
use Rattle.st_lemmas.proofs.Words
use Words.{◌≡◌, ℕ, Bool, true, false, List, [], ◌∷◌, ◌++◌, Option, Some, None, refl, sym, subst, append_assoc, if◌then◌else◌}
use Words.{is_some, Event, Message, NodeId, SentMessage, ServerId}
use Words.events
use Words.nodes
use Words.History.{Traced, traced}
use Words.Safety.{Promise, Step, steps}
use Words.World.{World, fresh_world, message_of, node_of, receiver_of}
use Rattle.st_promises.specs.Safe.{EveryRunIsSafe}
use Rattle.st_laws_volume.specs.Effects.{ChangesTakeEffect, steps_before}
use Rattle.st_laws_volume.specs.Logs.{InEveryRun}
use Rattle.st_laws_volume.specs.Options.{OnSome}
use Rattle.st_laws_volume.specs.Requests.{AskIsNext, AsksOfRequestsAreNext, AtNode, OfDelivery, OfMessage, RequestsTakeEffectInOrder, TakesEffect}
use Rattle.st_laws_volume.specs.Seen.{of_event}
use Rattle.st_laws_volume.specs.StepKinds.{AreTaken, StepsAreTaken, is_effect}
use Rattle.st_laws_volume.specs.Witness.{Witness, does_at, led_to, of_delivery, of_lines, of_message, takes_op, to_node}
use Rattle.st_laws_volume.proofs.ChangeEffects.{changes_take_effect, none_taken}
use Rattle.st_laws_volume.proofs.ChangeLines.{on_both, taken_both}
use Rattle.st_laws_volume.proofs.OpenRequests.{asks_of_requests_are_next}
use Rattle.st_laws_volume.proofs.Options.{on_all, on_more}
use Rattle.st_laws_volume.proofs.ReadPages.{throughout_both, throughout_more}
use Rattle.st_laws_volume.proofs.ServedEffects.{requests_take_effect_in_order}
use Rattle.st_laws_volume.proofs.ToldSteps.{event_kept}
use Rattle.st_volume.specs.declared.step.VolumeStep.{VolumeStep}
use Rattle.st_volume.specs.Volume as volume
use Rattle.st_volume.specs.Volume.{Volume, run}

one_taken : (it : VolumeStep) (v : Volume) → is_some (volume.step v it) ≡ true → AreTaken is_effect (it ∷ []) v
unfolding AreTaken
one_taken it v h = (λ q. h, on_all (AreTaken is_effect []) (λ u. tt) (volume.step v it))

nothing_taken : (v : Volume) → AreTaken is_effect [] v
unfolding AreTaken
nothing_taken v = tt

module _ (t : Witness) (v : Volume) (w : World) where
  abbrev Next : ServerId → Message → Type 0
  Next s m = AskIsNext t v s m

  abbrev Takes : ServerId → Message → Type 0
  Takes s m = TakesEffect t v s m

  at_node : (m : Message) (n : NodeId) → AtNode Next w m n → AtNode Takes w m n → AreTaken is_effect (to_node t.behind v w m n) v
  at_node m (nodes.Client c) next takes = nothing_taken v
  at_node m (nodes.Server s) next takes = go (does_at w s (node_of w s) m) next takes
    where
      go : (b : Bool) → (b ≡ true → Next s m) → (b ≡ true → Takes s m) → AreTaken is_effect (if b then takes_op t.behind v s m ∷ [] else []) v
      go false n p = nothing_taken v
      go true n p = let z = n refl in one_taken (takes_op t.behind v s m) v ((p refl).taken z.behind z.found z.ask z.there z.first)

  message_taken : (o : Option SentMessage) → OfMessage Next w o → OfMessage Takes w o → AreTaken is_effect (of_message t.behind v w o) v
  message_taken None next takes = nothing_taken v
  message_taken (Some m) next takes = at_node m.message (receiver_of m) next takes

  plain : (e : Event) → of_delivery t.behind v w e ≡ [] → AreTaken is_effect (of_event w e ++ of_delivery t.behind v w e) v
  plain e q =
      subst (λ xs. AreTaken is_effect (of_event w e ++ xs) v) (sym q)
      (taken_both is_effect (of_event w e) [] v (none_taken (of_event w e) v (event_kept w e))
      (on_all (AreTaken is_effect []) nothing_taken (run (of_event w e) v)))

  delivered : (k : ℕ) → of_event w (events.Deliver k) ≡ []
  unfolding of_event
  delivered k = refl

  -- what comes before the lines
  before_taken : (e : Event) → OfDelivery Next w e → OfDelivery Takes w e → AreTaken is_effect (of_event w e ++ of_delivery t.behind v w e) v
  before_taken (events.Deliver k) next takes =
      subst (λ xs. AreTaken is_effect (xs ++ of_message t.behind v w (message_of w k)) v) (sym (delivered k)) (message_taken (message_of w k) next takes)
  before_taken (events.Tick n) next takes = plain (events.Tick n) refl
  before_taken (events.App c ask) next takes = plain (events.App c ask) refl
  before_taken (events.Lose k) next takes = plain (events.Lose k) refl
  before_taken (events.Cut from to) next takes = plain (events.Cut from to) refl
  before_taken (events.Heal from to) next takes = plain (events.Heal from to) refl
  before_taken (events.Advance increments) next takes = plain (events.Advance increments) refl
  before_taken (events.Effect k) next takes = plain (events.Effect k) refl
  before_taken (events.Report k ok) next takes = plain (events.Report k ok) refl
  before_taken (events.Crash n) next takes = plain (events.Crash n) refl
  before_taken (events.Start n) next takes = plain (events.Start n) refl

abbrev Given : Promise
Given past x = AsksOfRequestsAreNext past x × (RequestsTakeEffectInOrder past x × ChangesTakeEffect past x)

all_taken : (past : List Step) (x : Step) → Given past x → StepsAreTaken is_effect past x
all_taken past x g =
    on_more
    (λ v. OfDelivery (AskIsNext t v) w x.event
    × (OfDelivery (TakesEffect t v) w x.event × OnSome (AreTaken is_effect (of_lines w x.seen)) (run (steps_before t v x) v)))
    (λ v. AreTaken is_effect (of_event w x.event ++ (of_delivery t.behind v w x.event ++ of_lines w x.seen)) v)
    (λ v k.
    subst (λ its. AreTaken is_effect its v) (append_assoc (of_event w x.event) (of_delivery t.behind v w x.event) (of_lines w x.seen))
    (taken_both is_effect (steps_before t v x) (of_lines w x.seen) v (before_taken t v w x.event k.0 k.1.0) k.1.1)) t.volume
    (on_both (λ v. OfDelivery (AskIsNext t v) w x.event)
    (λ v. OfDelivery (TakesEffect t v) w x.event × OnSome (AreTaken is_effect (of_lines w x.seen)) (run (steps_before t v x) v)) t.volume g.0
    (on_both (λ v. OfDelivery (TakesEffect t v) w x.event) (λ v. OnSome (AreTaken is_effect (of_lines w x.seen)) (run (steps_before t v x) v)) t.volume
    g.1.0 g.1.1))
  where
    t : Witness
    t = led_to past x

    w : World
    w = x.before.world

pub effects_are_taken : EveryRunIsSafe → InEveryRun (StepsAreTaken is_effect)
effects_are_taken safe k clients servers disks blocks form es head events =
    let t : Traced = traced (fresh_world k clients servers disks blocks form) in
    throughout_more Given (StepsAreTaken is_effect) all_taken [] (steps es t)
    (throughout_both AsksOfRequestsAreNext (λ past x. RequestsTakeEffectInOrder past x × ChangesTakeEffect past x) [] (steps es t)
    (asks_of_requests_are_next safe k clients servers disks blocks form es head events)
    (throughout_both RequestsTakeEffectInOrder ChangesTakeEffect [] (steps es t)
    (requests_take_effect_in_order safe k clients servers disks blocks form es head events)
    (changes_take_effect safe k clients servers disks blocks form es head events)))
