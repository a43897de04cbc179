-- What is seen of the steps that an event is, is what is seen of the event.
use Rattle.std.proofs.Common.{◌≡◌, Bool, true, false, List, [], ◌∷◌, ◌++◌, Option, Some, None, refl, ap, ◌∙◌, if◌then◌else◌}
use Rattle.std.proofs.lemmas.List.Elements.{filter-append}
use Rattle.std.specs.List.{flat_map, list_any}
use Rattle.std.specs.Prelude.{filter, find}
use Rattle.st_base.specs.declared.ids.NodeId.TheVariants as nodes
use Rattle.st_messages.specs.declared.message.Message.{Message}
use Rattle.st_base.specs.declared.ids.NodeId.{NodeId}
use Rattle.st_base.specs.declared.ids.ServerId.{ServerId}
use Rattle.st_messages.specs.declared.event.Event.{Event}
use Rattle.st_messages.specs.declared.event.Event.TheVariants as events
use Rattle.st_rules.specs.declared.observation.Observation.{Observation}
use Rattle.st_rules.specs.declared.observation.Observation.TheVariants as seen
use Rattle.st_rules.specs.declared.world.Carried.{Carried}
use Rattle.st_rules.specs.declared.world.IssuedCommand.{IssuedCommand}
use Rattle.st_rules.specs.declared.world.SentMessage.{SentMessage}
use Rattle.st_rules.specs.Events.{is_same_instance}
use Rattle.st_rules.specs.World.{World, WorldClient, issued_of, message_of, node_of, receiver_of, site_of}
use Rattle.st_laws_volume.specs.Laws.{StepsShowTheEvent}
use Rattle.st_laws_volume.specs.Seen.{failure, failure_of, failure_told, is_seen, of_event, of_line}
use Rattle.st_laws_volume.specs.Witness.{Behind, Witness, before_line, does_at, of_delivery, of_lines, of_message, of_request, takes_op, to_node}
use Rattle.st_volume.specs.declared.step.VolumeStep.{VolumeStep}
use Rattle.st_volume.specs.Volume.{Volume}

-- What is seen of three lists of steps.
three_shown : (a b c x y z : List VolumeStep) → filter is_seen a ≡ x → filter is_seen b ≡ y → filter is_seen c ≡ z → filter is_seen (a ++ (b ++ c)) ≡ x ++ (y ++ z)
three_shown a b c x y z p q r =
    filter-append is_seen a (b ++ c)
    ∙ (ap (λ l. filter is_seen a ++ l) (filter-append is_seen b c)
    ∙ (ap (λ l. l ++ (filter is_seen b ++ filter is_seen c)) p
    ∙ (ap (λ l. x ++ (l ++ filter is_seen c)) q ∙ ap (λ l. x ++ (y ++ l)) r)))

-- The event.
failure_shown : (k : IssuedCommand) (carries : Option Carried) → filter is_seen (failure k carries ∷ []) ≡ failure k carries ∷ []
failure_shown k None = refl
failure_shown k (Some x) = refl

shown_if : (b : Bool) (xs : List VolumeStep) → filter is_seen xs ≡ xs → filter is_seen (if b then xs else []) ≡ (if b then xs else [])
shown_if true xs p = p
shown_if false xs p = refl

told_shown : (k : IssuedCommand) (site : Option WorldClient) → filter is_seen (failure_told k site) ≡ failure_told k site
told_shown k None = refl
told_shown k (Some site) = shown_if (is_same_instance k site) (failure k k.carries ∷ []) (failure_shown k k.carries)

failed_shown : (w : World) (k : Option IssuedCommand) → filter is_seen (failure_of w k) ≡ failure_of w k
failed_shown w None = refl
failed_shown w (Some k) = told_shown k (site_of w k.client)

event_shown : (w : World) (e : Event) → filter is_seen (of_event w e) ≡ of_event w e
unfolding of_event
event_shown w (events.Tick n) = refl
event_shown w (events.App c ask) = refl
event_shown w (events.Deliver k) = refl
event_shown w (events.Lose k) = refl
event_shown w (events.Cut from to) = refl
event_shown w (events.Heal from to) = refl
event_shown w (events.Advance increments) = refl
event_shown w (events.Effect k) = refl
event_shown w (events.Report k true) = refl
event_shown w (events.Report k false) = failed_shown w (issued_of w k)
event_shown w (events.Crash (nodes.Client c)) = refl
event_shown w (events.Crash (nodes.Server s)) = refl
event_shown w (events.Start (nodes.Client c)) = refl
event_shown w (events.Start (nodes.Server s)) = refl

-- What a server does with a request is not seen.
hidden_if : (b : Bool) (xs : List VolumeStep) → filter is_seen xs ≡ [] → filter is_seen (if b then xs else []) ≡ []
hidden_if true xs p = p
hidden_if false xs p = refl

request_hidden : (bs : List Behind) (v : Volume) (w : World) (s : ServerId) (m : Message) → filter is_seen (of_request bs v w s m) ≡ []
request_hidden bs v w s m = hidden_if (does_at w s (node_of w s) m) (takes_op bs v s m ∷ []) refl

node_hidden : (bs : List Behind) (v : Volume) (w : World) (m : Message) (n : NodeId) → filter is_seen (to_node bs v w m n) ≡ []
node_hidden bs v w m (nodes.Client c) = refl
node_hidden bs v w m (nodes.Server s) = request_hidden bs v w s m

message_hidden : (bs : List Behind) (v : Volume) (w : World) (m : Option SentMessage) → filter is_seen (of_message bs v w m) ≡ []
message_hidden bs v w None = refl
message_hidden bs v w (Some m) = node_hidden bs v w m.message (receiver_of m)

delivery_hidden : (bs : List Behind) (v : Volume) (w : World) (e : Event) → filter is_seen (of_delivery bs v w e) ≡ []
delivery_hidden bs v w (events.Tick n) = refl
delivery_hidden bs v w (events.App c ask) = refl
delivery_hidden bs v w (events.Deliver k) = message_hidden bs v w (message_of w k)
delivery_hidden bs v w (events.Lose k) = refl
delivery_hidden bs v w (events.Cut from to) = refl
delivery_hidden bs v w (events.Heal from to) = refl
delivery_hidden bs v w (events.Advance increments) = refl
delivery_hidden bs v w (events.Effect k) = refl
delivery_hidden bs v w (events.Report k ok) = refl
delivery_hidden bs v w (events.Crash n) = refl
delivery_hidden bs v w (events.Start n) = refl

-- The lines.
before_hidden : (o : Observation) (os : List Observation) → filter is_seen (before_line o os) ≡ []
unfolding before_line
before_hidden (seen.Sent k m) os = refl
before_hidden (seen.Submitted k c number what) os = refl
before_hidden (seen.Answered c op answer) os = refl
before_hidden (seen.Wrote i c f p bytes) os = refl
before_hidden (seen.Patched i c f p at bytes) os = refl
before_hidden (seen.CutAt i f p) os = refl
before_hidden (seen.Hardened i) os = refl
before_hidden (seen.Dropped i cause) os = refl
before_hidden (seen.Leased c s end) os = refl
before_hidden (seen.Lost c s life) os = refl
before_hidden (seen.Suspected s c start) os = refl
before_hidden (seen.Stolen s c life) os = refl

line_shown : (w : World) (o : Observation) → filter is_seen (of_line w o) ≡ of_line w o
unfolding of_line
line_shown w (seen.Sent k m) = refl
line_shown w (seen.Submitted k c number what) = refl
line_shown w (seen.Answered c op answer) = refl
line_shown w (seen.Wrote i c f p bytes) = refl
line_shown w (seen.Patched i c f p at bytes) = refl
line_shown w (seen.CutAt i f p) = refl
line_shown w (seen.Hardened i) = refl
line_shown w (seen.Dropped i cause) = refl
line_shown w (seen.Leased c s end) = refl
line_shown w (seen.Lost c s life) = refl
line_shown w (seen.Suspected s c start) = refl
line_shown w (seen.Stolen s c life) = refl

lines_shown : (w : World) (os : List Observation) → filter is_seen (of_lines w os) ≡ flat_map (of_line w) os
unfolding of_lines
lines_shown w [] = refl
lines_shown w (o ∷ os) =
    three_shown (before_line o os) (of_line w o) (of_lines w os) [] (of_line w o) (flat_map (of_line w) os)
    (before_hidden o os) (line_shown w o) (lines_shown w os)

pub steps_show : StepsShowTheEvent
steps_show t v x =
    three_shown
    (of_event x.before.world x.event)
    (of_delivery t.behind v x.before.world x.event)
    (of_lines x.before.world x.seen)
    (of_event x.before.world x.event)
    []
    (flat_map (of_line x.before.world) x.seen)
    (event_shown x.before.world x.event)
    (delivery_hidden t.behind v x.before.world x.event)
    (lines_shown x.before.world x.seen)
