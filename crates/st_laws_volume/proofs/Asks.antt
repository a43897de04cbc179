-- In every run the open asks of each client in the volume are its pending operations.
use Rattle.std.proofs.Common.{◌≡◌, ◌==◌, ℕ, zero, suc, ◌+◌, Bool, true, false, map, if◌then◌else◌, List, [], ◌∷◌, ◌++◌, Option, Some, None, refl, sym, ap, ◌∙◌, subst}
use Rattle.std.specs.Prelude.{length, find, option_map, slice_get}
use Rattle.std.specs.List.{flat_map, list_any}
use Rattle.st_base.specs.declared.config.Config.{Config}
use Rattle.st_base.specs.declared.ids.ClientId.{ClientId}
use Rattle.st_messages.specs.declared.message.Message.{Message}
use Rattle.st_base.specs.declared.ids.NodeId.{NodeId}
use Rattle.st_base.specs.declared.ids.ServerId.{ServerId}
use Rattle.st_base.specs.declared.ids.NodeId.TheVariants as nodes
use Rattle.st_messages.specs.declared.event.Event.{Event}
use Rattle.st_messages.specs.declared.event.Event.TheVariants as events
use Rattle.st_rules.specs.declared.observation.Observation.{Observation}
use Rattle.st_rules.specs.declared.observation.Observation.TheVariants as seen
use Rattle.st_rules.specs.declared.client.Operation.{Operation}
use Rattle.st_rules.specs.declared.world.SentMessage.{SentMessage}
use Rattle.st_rules.specs.Client.{fresh_client}
use Rattle.st_rules.specs.Extents.{numbers}
use Rattle.st_rules.specs.Events.{WorldTurn}
use Rattle.st_rules.specs.History.{Traced, traced}
use Rattle.st_rules.specs.Safety.{Promise, Step, step}
use Rattle.st_rules.specs.Safety as safety
use Rattle.st_rules.specs.World.{World, fresh_site, fresh_world, message_of, node_of, numbered, receiver_of, site_of}
use Rattle.st_lemmas.proofs.Numbers.{get_map}
use Rattle.st_laws_pages.specs.Disks.Obligations.{FatesHold}
use Rattle.st_laws_pages.specs.Asks.Law.{PlacesHold}
use Rattle.st_laws_pages.proofs.Asks.Law.{places_law}
use Rattle.st_laws_pages.proofs.Causes.Law.{fresh_places}
use Rattle.st_laws_pages.proofs.Causes.Placed.{places_at}
use Rattle.st_laws_pages.proofs.Disks.Whole.{fates_law, fresh_fates}
use Rattle.st_laws_volume.specs.Asks.{AsksAgree, AsksOf, HasAsksOf, at_site, in_volume, operation_key}
use Rattle.st_laws_volume.specs.Logs.{InEveryRun}
use Rattle.st_laws_volume.specs.Options.{OnSome}
use Rattle.st_laws_volume.specs.Seen.{of_event, of_line}
use Rattle.st_laws_volume.specs.Witness.{Behind, Witness, before_line, begun, does_at, if_told, led_by, of_delivery, of_lines, of_message, steps_of, takes_op, to_node, volume_after}
use Rattle.st_laws_volume.proofs.AskEvents.{AsksLeft, IsCounted, Rests, all_counted, event_leaves, lined}
use Rattle.st_laws_volume.proofs.AskSteps.{run_tells, told_all, told_both}
use Rattle.st_laws_volume.proofs.Carried.{IsKept, Led, carried}
use Rattle.st_laws_volume.proofs.Options.{on_if, on_more, on_then}
use Rattle.st_laws_volume.proofs.ReadPages.{throughout_both, throughout_more}
use Rattle.st_volume.specs.declared.step.VolumeStep.{VolumeStep}
use Rattle.st_volume.specs.declared.step.VolumeStep.TheVariants as steps
use Rattle.st_volume.specs.Volume.{Volume, run}

-- What is seen of the steps of an event tells the same as its lines.
effect_dull : (c : ClientId) (b : Bool) (x : VolumeStep) (a : AsksOf) → told_all c (x ∷ []) a ≡ a → told_all c (if b then x ∷ [] else []) a ≡ a
effect_dull c true x a h = h
effect_dull c false x a h = refl

node_dull : (c : ClientId) (bs : List Behind) (v : Volume) (w : World) (m : Message) (n : NodeId) (a : AsksOf) → told_all c (to_node bs v w m n) a ≡ a
node_dull c bs v w m (nodes.Client d) a = refl
node_dull c bs v w m (nodes.Server s) a = effect_dull c (does_at w s (node_of w s) m) (takes_op bs v s m) a refl

message_dull : (c : ClientId) (bs : List Behind) (v : Volume) (w : World) (m : Option SentMessage) (a : AsksOf) → told_all c (of_message bs v w m) a ≡ a
message_dull c bs v w None a = refl
message_dull c bs v w (Some m) a = node_dull c bs v w m.message (receiver_of m) a

pub delivery_dull : (c : ClientId) (bs : List Behind) (v : Volume) (w : World) (e : Event) (a : AsksOf) → told_all c (of_delivery bs v w e) a ≡ a
delivery_dull c bs v w (events.Tick n) a = refl
delivery_dull c bs v w (events.App d ask) a = refl
delivery_dull c bs v w (events.Deliver k) a = message_dull c bs v w (message_of w k) a
delivery_dull c bs v w (events.Lose k) a = refl
delivery_dull c bs v w (events.Cut from to) a = refl
delivery_dull c bs v w (events.Heal from to) a = refl
delivery_dull c bs v w (events.Advance increments) a = refl
delivery_dull c bs v w (events.Effect k) a = refl
delivery_dull c bs v w (events.Report k ok) a = refl
delivery_dull c bs v w (events.Crash n) a = refl
delivery_dull c bs v w (events.Start n) a = refl

pub before_dull : (c : ClientId) (o : Observation) (os : List Observation) (a : AsksOf) → told_all c (before_line o os) a ≡ a
unfolding before_line
before_dull c (seen.Sent k m) os a = refl
before_dull c (seen.Submitted k d number what) os a = refl
before_dull c (seen.Answered d op answer) os a = refl
before_dull c (seen.Wrote i d f p bytes) os a = refl
before_dull c (seen.Patched i d f p at bytes) os a = refl
before_dull c (seen.CutAt i f p) os a = refl
before_dull c (seen.Hardened i) os a = refl
before_dull c (seen.Dropped i cause) os a = refl
before_dull c (seen.Leased d s end) os a = refl
before_dull c (seen.Lost d s life) os a = refl
before_dull c (seen.Suspected s d start) os a = refl
before_dull c (seen.Stolen s d life) os a = refl

lines_tell : (w : World) (c : ClientId) (os : List Observation) (a : AsksOf) → told_all c (of_lines w os) a ≡ lined w c os a
unfolding of_lines
lines_tell w c [] a = refl
lines_tell w c (o ∷ os) a =
    told_both c (before_line o os) (of_line w o ++ of_lines w os) a
    ∙ (ap (told_all c (of_line w o ++ of_lines w os)) (before_dull c o os a)
    ∙ (told_both c (of_line w o) (of_lines w os) a
    ∙ (lines_tell w c os (told_all c (of_line w o) a)
    ∙ sym (told_both c (of_line w o) (flat_map (of_line w) os) a))))

pub steps_tell : (t : Witness) (v : Volume) (x : Step) (c : ClientId) (a : AsksOf) →
    told_all c (steps_of t v x) a ≡ lined x.before.world c x.seen (told_all c (of_event x.before.world x.event) a)
steps_tell t v x c a =
    let w = x.before.world in
    told_both c (of_event w x.event) (of_delivery t.behind v w x.event ++ of_lines w x.seen) a
    ∙ (told_both c (of_delivery t.behind v w x.event) (of_lines w x.seen) (told_all c (of_event w x.event) a)
    ∙ (ap (told_all c (of_lines w x.seen)) (delivery_dull c t.behind v w x.event (told_all c (of_event w x.event) a))
    ∙ lines_tell w c x.seen (told_all c (of_event w x.event) a)))

-- An event keeps it.
pub of_each : (its : List VolumeStep) (v : Volume) (o : Option Volume) → ((c : ClientId) → OnSome (λ u. in_volume u c ≡ told_all c its (in_volume v c)) o) →
    OnSome (λ u. (c : ClientId) → in_volume u c ≡ told_all c its (in_volume v c)) o
of_each its v None h = tt
of_each its v (Some u) h = h

after_asks : (t : Witness) (x : Step) (sc : WorldTurn) (o : Option Volume) → x.seen ≡ sc.seen → x.after.world ≡ sc.world →
    AsksLeft x.before.world x.event sc → OnSome (HasAsksOf x.before.world) o → OnSome (HasAsksOf x.after.world) (volume_after t x o)
after_asks t x sc None s a l h = tt
after_asks t x sc (Some v) s a l h =
    on_then (HasAsksOf x.after.world) if_told (run (steps_of t v x) v)
    (on_more (λ u. (c : ClientId) → in_volume u c ≡ told_all c (steps_of t v x) (in_volume v c)) (λ u. OnSome (HasAsksOf x.after.world) (if_told u))
    (λ u k. on_if (HasAsksOf x.after.world) (u.lines == length u.log) (Some u)
    (λ c. k c
    ∙ (ap (told_all c (steps_of t v x)) (h c)
    ∙ (steps_tell t v x c (at_site (site_of x.before.world c))
    ∙ (ap (λ os. lined x.before.world c os (told_all c (of_event x.before.world x.event) (at_site (site_of x.before.world c)))) s
    ∙ (l.told c ∙ ap (λ (w : World). at_site (site_of w c)) (sym a)))))))
    (run (steps_of t v x) v) (of_each (steps_of t v x) v (run (steps_of t v x) v) (λ c. run_tells c (steps_of t v x) v)))

-- What is carried.
pub record AsksHold (past : List Step) (t : Traced) (it : Witness) : Type 0 where
  pub agree : OnSome (HasAsksOf t.world) it.volume
  pub counted : (c : ClientId) → IsCounted (at_site (site_of t.world c))
  pub rests : Rests t.world
  pub fates : FatesHold t.world
  pub places : PlacesHold t.world

abbrev pub Given : Promise
Given past x = FatesHold x.after.world × PlacesHold x.after.world

pub asks_kept : IsKept Given AsksHold
unfolding led_by
asks_kept past t e sc it f g h =
    let x : Step = step t e sc in
    let sites = h.fates.lives.lives.sites in
    let l : AsksLeft t.world e sc = event_leaves t.world e h.rests sites (places_at t.world h.places) h.counted sc f in
    record {
      agree = after_asks it x sc it.volume refl refl l h.agree;
      counted = λ c. subst IsCounted (l.told c) (all_counted c (flat_map (of_line t.world) sc.seen) _ (all_counted c (of_event t.world e) _ (h.counted c)));
      rests = l.rests;
      fates = g.0;
      places = g.1;
    }

-- At the start.
fresh_at : (k : Config) (servers : ℕ) (o : Option ℕ) → at_site (option_map (fresh_site k servers) o) ≡ record { count = 0; pending = [] }
unfolding fresh_client
fresh_at k servers None = refl
fresh_at k servers (Some n) = refl

pub fresh_asks : (k : Config) (clients servers disks blocks form : ℕ) (c : ClientId) →
    at_site (site_of (fresh_world k clients servers disks blocks form) c) ≡ record { count = 0; pending = [] }
unfolding fresh_world
fresh_asks k clients servers disks blocks form c = go c.0
  where
    go : (n : ℕ) → at_site (numbered (map (fresh_site k servers) (numbers 1 clients)) n) ≡ record { count = 0; pending = [] }
    go zero = refl
    go (suc n) = ap at_site (get_map (fresh_site k servers) (numbers 1 clients) n) ∙ fresh_at k servers (slice_get (numbers 1 clients) n)

no_operations : (os : List Operation) → map operation_key os ≡ [] → os ≡ []
no_operations [] q = refl
no_operations (o ∷ os) q = cc

pub asks_begin : (k : Config) (clients servers disks blocks form : ℕ) →
    AsksHold [] (traced (fresh_world k clients servers disks blocks form))
    (begun (fresh_world k clients servers disks blocks form) (fresh_world k clients servers disks blocks form))
unfolding begun
asks_begin k clients servers disks blocks form =
    record {
      agree = λ c. sym (fresh_asks k clients servers disks blocks form c);
      counted = λ c. subst IsCounted (sym (fresh_asks k clients servers disks blocks form c)) (record { below = λ j i. absurd i; apart = tt });
      rests =
          λ c site at r. no_operations site.node.state.operations
          (ap (λ (a : AsksOf). a.pending) (ap at_site (sym at) ∙ fresh_asks k clients servers disks blocks form c));
      fates = fresh_fates k clients servers disks blocks form;
      places = fresh_places k clients servers disks blocks form;
    }

pub asks_agree : InEveryRun AsksAgree
asks_agree k clients servers disks blocks form es head events =
    let t : Traced = traced (fresh_world k clients servers disks blocks form) in
    throughout_more (Led AsksHold) AsksAgree (λ past x h. h.agree) [] (safety.steps es t)
    (carried Given AsksHold asks_kept es t (asks_begin k clients servers disks blocks form)
    (throughout_both (λ past x. FatesHold x.after.world) (λ past x. PlacesHold x.after.world) [] (safety.steps es t)
    (fates_law k clients servers disks blocks form es) (places_law k clients servers disks blocks form es head)))
