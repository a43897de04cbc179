-- In every run the volume takes the effect as a server serves a request, if the ask is pending or orphaned, and none must take effect before it.
use Rattle.st_lemmas.proofs.Words
use Words.{◌≡◌, ◌⊎◌, ℕ, true, false, ◌||◌, ◌==◌, List, [], ◌++◌, length, Option, Some, None, ap, ◌∙◌, subst, inl, inr, if◌then◌else◌}
use Words.{eq-eqb, eqb-true, find, is_some, list_any, option_and_then, option_map, AppAnswer, ClientId, Event, Message, NodeId, SentMessage, ServerId}
use Words.events
use Words.nodes
use Words.History.{Traced, traced}
use Words.Lists.{Has}
use Words.Lookups.{if_true}
use Words.Safety.{Promise, Step, TheReportTellsTheLog, step, steps}
use Words.Server.{sender}
use Words.Tables.{and_true, found_at, has_append}
use Words.Truth.{client_is}
use Words.World as world
use Words.World.{World, fresh_world, message_of, receiver_of}
use Rattle.st_promises.specs.Safe.{EveryRunIsSafe, IsSafeRun}
use Rattle.st_laws_requests.specs.Cuts.Cuts.{asks_of}
use Rattle.st_laws_volume.specs.Logs.{InEveryRun, IsLogOf}
use Rattle.st_laws_volume.specs.Requests.{AtNode, CanBeDone, FindsNone, IsForAsk, OfDelivery, OfMessage, RequestsAreForTheirAsks, RequestsFindNone, RequestsHaveEffects, RequestsTakeEffectInOrder, TakesEffect}
use Rattle.st_laws_volume.specs.Results.{OrphansHaveNone}
use Rattle.st_laws_volume.specs.Witness.{Behind, Witness, is_behind, is_request_for, is_there, led_to, op_of, takes_op}
use Rattle.st_laws_volume.proofs.AskedAsks.{AreOf, RightHold, all_has, right_begins, right_kept}
use Rattle.st_laws_volume.proofs.Carried.{IsGiven, Wants, given_in}
use Rattle.st_laws_volume.proofs.ChangeLines.{on_both}
use Rattle.st_laws_volume.proofs.Logs.{LogHolds, log_begins, log_kept}
use Rattle.st_laws_volume.proofs.Options.{on_more}
use Rattle.st_laws_volume.proofs.OrphanResults.{OrphansHold, orphans_begin, orphans_kept}
use Rattle.st_laws_volume.proofs.ReadPages.{throughout_both, throughout_more}
use Rattle.st_laws_volume.proofs.RequestEffects.{requests_have_effects, some_map}
use Rattle.st_laws_volume.proofs.RequestGrants.{requests_are_for_their_asks}
use Rattle.st_laws_volume.proofs.UnservedAsks.{requests_find_none}
use Rattle.st_volume.specs.declared.step.VolumeStep.TheVariants as kinds
use Rattle.st_volume.specs.Pages.{is_any}
use Rattle.st_volume.specs.Volume as volume
use Rattle.st_volume.specs.Volume.{Pending, Volume, acts, done, effect, is_ask, is_before, is_of_client, notice, takes}

-- What is known of the volume before an event.
record Facts (past : List Step) (w : World) (v : Volume) : Type 0 where
  log_ : IsLogOf w.log v
  right_ : AreOf (asks_of past) v
  orphans_ : OrphansHaveNone v

-- A request that a server serves.
module _ (t : Witness) (past : List Step) (w : World) (v : Volume) (facts : Facts past w v) (s : ServerId) (m : Message) (is_for : IsForAsk t past s m)
    (can : CanBeDone t past v s m) (none : FindsNone t v s m) where
  abbrev c : ClientId
  c = sender m.header

  module _ (b : Behind) (found : find (is_behind s m.header) t.behind ≡ Some b) (a : Pending)
      (there : find (is_ask c b.op) (v.pending ++ v.orphans) ≡ Some a) (order : list_any (is_before a) v.pending ≡ false) where
    its : (is_ask c b.op a ≡ true) × Has a (v.pending ++ v.orphans)
    its = found_at (is_ask c b.op) (v.pending ++ v.orphans) a there

    key : (a.client ≡ c) × (a.op ≡ b.op)
    key = let q = and_true (is_of_client c a) (a.op == b.op) its.0 in (client_is a.client c q.0, eqb-true a.op b.op q.1)

    own : world.numbered (asks_of past a.client) a.op ≡ Some a.ask
    own = go (has_append v.pending v.orphans a its.1)
      where
        go : Has a v.pending ⊎ Has a v.orphans → world.numbered (asks_of past a.client) a.op ≡ Some a.ask
        go (inl i) = all_has (asks_of past) v.pending a facts.right_.pending i
        go (inr i) = all_has (asks_of past) v.orphans a facts.right_.orphans i

    asked : world.numbered (asks_of past c) b.op ≡ Some a.ask
    asked =
        subst (λ (d : ClientId). world.numbered (asks_of past d) b.op ≡ Some a.ask) key.0
        (subst (λ (n : ℕ). world.numbered (asks_of past a.client) n ≡ Some a.ask) key.1 own)

    fresh : a.result ≡ None
    fresh = go (has_append v.pending v.orphans a its.1)
      where
        go : Has a v.pending ⊎ Has a v.orphans → a.result ≡ None
        go (inl i) = none.none b found a i its.0
        go (inr i) = facts.orphans_ a i

    can_be : is_some (effect v a.client a.ask) ≡ true
    can_be = ap (λ (d : ClientId). is_some (effect v d a.ask)) key.0 ∙ can.done b found a.ask asked

    taken_op : is_some (volume.step v (kinds.TakesEffect c b.op)) ≡ true
    taken_op =
        ap is_some (if_true (v.lines == length v.log) (acts v (kinds.TakesEffect c b.op)) None (eq-eqb v.lines (length v.log) facts.log_.lines))
        ∙ (ap (λ o. is_some (option_map notice (option_and_then (takes v) o))) there
        ∙ (ap (λ (r : Option AppAnswer). is_some
        (option_map notice (if is_some r || list_any (is_before a) v.pending then None else option_map (done a) (effect v a.client a.ask)))) fresh
        ∙ (ap (λ z. is_some (option_map notice (if z then None else option_map (done a) (effect v a.client a.ask)))) order
        ∙ some_map notice (option_map (done a) (effect v a.client a.ask)) (some_map (done a) (effect v a.client a.ask) can_be))))

    op_is : op_of v s m (find (is_behind s m.header) t.behind) ≡ b.op
    op_is =
        ap (op_of v s m) found
        ∙ if_true (is_there v s m b.op) b.op _
        (ap (is_any (λ (x : Pending). is_request_for s m.body x.ask)) there ∙ is_for.is b found a.ask asked)

    taken : is_some (volume.step v (takes_op t.behind v s m)) ≡ true
    taken = ap (λ n. is_some (volume.step v (kinds.TakesEffect c n))) op_is ∙ taken_op

  takes_effect : TakesEffect t v s m
  takes_effect = record { taken = taken }

-- Facts of the message that an event delivers.
delivery_all : (P Q R S : ServerId → Message → Type 0) → ((s : ServerId) (m : Message) → P s m → Q s m → R s m → S s m) → (w : World) (e : Event) →
    OfDelivery P w e → OfDelivery Q w e → OfDelivery R w e → OfDelivery S w e
delivery_all P Q R S f w (events.Deliver k) p q r = go (message_of w k) p q r
  where
    to : (m : Message) (n : NodeId) → AtNode P w m n → AtNode Q w m n → AtNode R w m n → AtNode S w m n
    to m (nodes.Server s) p q r = λ d. f s m (p d) (q d) (r d)
    to m (nodes.Client c) p q r = tt

    go : (o : Option SentMessage) → OfMessage P w o → OfMessage Q w o → OfMessage R w o → OfMessage S w o
    go None p q r = tt
    go (Some m) p q r = to m.message (receiver_of m) p q r
delivery_all P Q R S f w e p q r = tt

-- What is carried.
record Holds (past : List Step) (t : Traced) (it : Witness) : Type 0 where
  log_ : LogHolds past t it
  right_ : RightHold past t it
  orphans_ : OrphansHold past t it

HoldsBefore : List Step → Step → Witness → Type 0
HoldsBefore past x it = Holds past x.before it

holds_on : IsGiven TheReportTellsTheLog Holds HoldsBefore
unfolding HoldsBefore
holds_on past t e sc it f g h = (
  h,
  record {
    log_ = log_kept past t e sc it f g h.log_;
    right_ = right_kept past t e sc it f tt h.right_;
    orphans_ = orphans_kept past t e sc it f tt h.orphans_;
  },
)

abbrev Given : Promise
Given past x = Wants HoldsBefore past x × (RequestsAreForTheirAsks past x × (RequestsHaveEffects past x × RequestsFindNone past x))

in_order : (past : List Step) (x : Step) → Given past x → RequestsTakeEffectInOrder past x
unfolding HoldsBefore
in_order past x g =
    on_more
    (λ v. (IsLogOf w.log v × (AreOf (asks_of past) v × OrphansHaveNone v))
    × (OfDelivery (CanBeDone t past v) w x.event × OfDelivery (FindsNone t v) w x.event))
    (λ v. OfDelivery (TakesEffect t v) w x.event) by t.volume
    (on_both (λ v. IsLogOf w.log v × (AreOf (asks_of past) v × OrphansHaveNone v))
    (λ v. OfDelivery (CanBeDone t past v) w x.event × OfDelivery (FindsNone t v) w x.event) t.volume
    (on_both (IsLogOf w.log) (λ v. AreOf (asks_of past) v × OrphansHaveNone v) t.volume g.0.log_
    (on_both (AreOf (asks_of past)) OrphansHaveNone t.volume g.0.right_ g.0.orphans_))
    (on_both (λ v. OfDelivery (CanBeDone t past v) w x.event) (λ v. OfDelivery (FindsNone t v) w x.event) t.volume g.1.1.0 g.1.1.1))
  where
    t : Witness
    t = led_to past x

    w : World
    w = x.before.world

    by : (v : Volume) →
        ((IsLogOf w.log v × (AreOf (asks_of past) v × OrphansHaveNone v))
        × (OfDelivery (CanBeDone t past v) w x.event × OfDelivery (FindsNone t v) w x.event)) →
        OfDelivery (TakesEffect t v) w x.event
    by v k =
        delivery_all (IsForAsk t past) (CanBeDone t past v) (FindsNone t v) (TakesEffect t v)
        (λ s m p q r. takes_effect t past w v (record { log_ = k.0.0; right_ = k.0.1.0; orphans_ = k.0.1.1 }) s m p q r) w x.event g.1.0 k.1.0 k.1.1

-- In every run.
pub requests_take_effect_in_order : EveryRunIsSafe → InEveryRun RequestsTakeEffectInOrder
requests_take_effect_in_order safe k clients servers disks blocks form es head events =
    let t : Traced = traced (fresh_world k clients servers disks blocks form) in
    let kept : IsSafeRun (fresh_world k clients servers disks blocks form) es = safe k clients servers disks blocks form es head events in
    throughout_more Given RequestsTakeEffectInOrder in_order [] (steps es t)
    (throughout_both (Wants HoldsBefore) (λ past x. RequestsAreForTheirAsks past x × (RequestsHaveEffects past x × RequestsFindNone past x)) [] (steps es t)
    (given_in TheReportTellsTheLog Holds HoldsBefore holds_on es t
    (record {
      log_ = log_begins k clients servers disks blocks form;
      right_ = right_begins k clients servers disks blocks form;
      orphans_ = orphans_begin k clients servers disks blocks form;
    }) kept.told)
    (throughout_both RequestsAreForTheirAsks (λ past x. RequestsHaveEffects past x × RequestsFindNone past x) [] (steps es t)
    (requests_are_for_their_asks k clients servers disks blocks form es head events)
    (throughout_both RequestsHaveEffects RequestsFindNone [] (steps es t) (requests_have_effects safe k clients servers disks blocks form es head events)
    (requests_find_none safe k clients servers disks blocks form es head events))))
