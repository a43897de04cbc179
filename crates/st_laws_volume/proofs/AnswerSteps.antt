-- Which steps of an event are answers: only lines are; and what is answered is open in the volume.
use Rattle.std.proofs.Common.{◌≡◌, ℕ, Bool, true, false, not, ◌||◌, ◌==◌, List, [], ◌∷◌, map, Option, Some, None, refl, sym, ap, ◌∙◌, if◌then◌else◌}
use Rattle.std.specs.Prelude.{filter, find, is_some}
use Rattle.std.specs.List.{list_all}
use Rattle.st_base.specs.declared.ids.ClientId.{ClientId}
use Rattle.st_base.specs.declared.ids.NodeId.{NodeId}
use Rattle.st_base.specs.declared.ids.NodeId.TheVariants as nodes
use Rattle.st_messages.specs.declared.event.Event.{Event}
use Rattle.st_messages.specs.declared.event.Event.TheVariants as events
use Rattle.st_messages.specs.declared.message.Message.{Message}
use Rattle.st_rules.specs.declared.world.Carried.{Carried}
use Rattle.st_rules.specs.declared.world.IssuedCommand.{IssuedCommand}
use Rattle.st_rules.specs.declared.world.SentMessage.{SentMessage}
use Rattle.st_rules.specs.Events.{is_same_instance}
use Rattle.st_rules.specs.World.{World, WorldClient, issued_of, message_of, node_of, receiver_of, site_of}
use Rattle.st_lemmas.proofs.Tables.{and_both, and_left, and_right, and_true, find_first, find_next, not_true}
use Rattle.st_lemmas.proofs.Truth.{clash}
use Rattle.st_laws_volume.specs.Asks.{ask_key, in_volume}
use Rattle.st_laws_volume.specs.StepKinds.{AreTaken, is_answer}
use Rattle.st_laws_volume.specs.Seen.{failure, failure_of, failure_told, of_event}
use Rattle.st_laws_volume.specs.Witness.{Behind, does_at, of_delivery, of_message, takes_op, to_node}
use Rattle.st_laws_volume.proofs.AskSteps.{is_open_op}
use Rattle.st_laws_volume.proofs.Options.{on_all}
use Rattle.st_volume.specs.declared.step.VolumeStep.{VolumeStep}
use Rattle.st_volume.specs.Volume as volume
use Rattle.st_volume.specs.Volume.{Pending, Volume, is_ask, is_of_client}

abbrev pub is_silent : VolumeStep → Bool
is_silent it = not (is_answer it)

-- a test that only answers pass
abbrev pub OnlyAnswers : (VolumeStep → Bool) → Type 0
OnlyAnswers which = (it : VolumeStep) → is_answer it ≡ false → which it ≡ false

pub none_answered : (which : VolumeStep → Bool) → OnlyAnswers which → (its : List VolumeStep) (v : Volume) → list_all is_silent its ≡ true →
    AreTaken which its v
unfolding AreTaken
none_answered which only [] v q = tt
none_answered which only (it ∷ its) v q =
    let b = and_true (is_silent it) (list_all is_silent its) q in
    (λ p. clash p (only it (not_true (is_answer it) b.0)), on_all (AreTaken which its) (λ u. none_answered which only its u b.1) (volume.step v it))

-- What is seen of the event itself holds no answer, nor does what a server does with a request.
failure_silent : (k : IssuedCommand) (carries : Option Carried) → list_all is_silent (failure k carries ∷ []) ≡ true
failure_silent k None = refl
failure_silent k (Some x) = refl

told_silent : (k : IssuedCommand) (site : Option WorldClient) → list_all is_silent (failure_told k site) ≡ true
told_silent k None = refl
told_silent k (Some site) = go (is_same_instance k site)
  where
    go : (b : Bool) → list_all is_silent (if b then failure k k.carries ∷ [] else []) ≡ true
    go true = failure_silent k k.carries
    go false = refl

failed_silent : (w : World) (k : Option IssuedCommand) → list_all is_silent (failure_of w k) ≡ true
failed_silent w None = refl
failed_silent w (Some k) = told_silent k (site_of w k.client)

pub event_silent : (w : World) (e : Event) → list_all is_silent (of_event w e) ≡ true
unfolding of_event
event_silent w (events.App c ask) = refl
event_silent w (events.Tick n) = refl
event_silent w (events.Deliver k) = refl
event_silent w (events.Lose k) = refl
event_silent w (events.Cut from to) = refl
event_silent w (events.Heal from to) = refl
event_silent w (events.Advance increments) = refl
event_silent w (events.Effect k) = refl
event_silent w (events.Report k true) = refl
event_silent w (events.Report k false) = failed_silent w (issued_of w k)
event_silent w (events.Crash (nodes.Client c)) = refl
event_silent w (events.Crash (nodes.Server s)) = refl
event_silent w (events.Start (nodes.Client c)) = refl
event_silent w (events.Start (nodes.Server s)) = refl

node_silent : (bs : List Behind) (v : Volume) (w : World) (m : Message) (n : NodeId) → list_all is_silent (to_node bs v w m n) ≡ true
node_silent bs v w m (nodes.Client c) = refl
node_silent bs v w m (nodes.Server s) = go (does_at w s (node_of w s) m)
  where
    go : (b : Bool) → list_all is_silent (if b then takes_op bs v s m ∷ [] else []) ≡ true
    go true = refl
    go false = refl

message_silent : (bs : List Behind) (v : Volume) (w : World) (m : Option SentMessage) → list_all is_silent (of_message bs v w m) ≡ true
message_silent bs v w None = refl
message_silent bs v w (Some m) = node_silent bs v w m.message (receiver_of m)

pub delivery_silent : (bs : List Behind) (v : Volume) (w : World) (e : Event) → list_all is_silent (of_delivery bs v w e) ≡ true
delivery_silent bs v w (events.Deliver k) = message_silent bs v w (message_of w k)
delivery_silent bs v w (events.Tick n) = refl
delivery_silent bs v w (events.App c ask) = refl
delivery_silent bs v w (events.Lose k) = refl
delivery_silent bs v w (events.Cut from to) = refl
delivery_silent bs v w (events.Heal from to) = refl
delivery_silent bs v w (events.Advance increments) = refl
delivery_silent bs v w (events.Effect k) = refl
delivery_silent bs v w (events.Report k ok) = refl
delivery_silent bs v w (events.Crash n) = refl
delivery_silent bs v w (events.Start n) = refl

-- An open ask of a client is found by its number.
abbrev keys_if : ℕ → Pending → List Pending → Bool → Bool
keys_if op a xs b = is_open_op op (map ask_key (if b then a ∷ xs else xs))

found_ask : (c : ClientId) (op : ℕ) (xs : List Pending) → is_open_op op (map ask_key (filter (is_of_client c) xs)) ≡ true →
    is_some (find (is_ask c op) xs) ≡ true
found_ask c op [] q = cc q
found_ask c op (a ∷ xs) q = go (is_of_client c a) refl (found_ask c op xs)
  where
    same : (b : Bool) → (a.op == op) ≡ b → is_of_client c a ≡ true → ((b || is_open_op op (map ask_key (filter (is_of_client c) xs))) ≡ true) →
        (is_open_op op (map ask_key (filter (is_of_client c) xs)) ≡ true → is_some (find (is_ask c op) xs) ≡ true) →
        is_some (find (is_ask c op) (a ∷ xs)) ≡ true
    same true n e k r = ap is_some (find_first (is_ask c op) a xs (and_both (is_of_client c a) (a.op == op) e n))
    same false n e k r = ap is_some (find_next (is_ask c op) a xs (and_right (is_of_client c a) (a.op == op) n)) ∙ r k

    go : (b : Bool) → is_of_client c a ≡ b →
        (is_open_op op (map ask_key (filter (is_of_client c) xs)) ≡ true → is_some (find (is_ask c op) xs) ≡ true) →
        is_some (find (is_ask c op) (a ∷ xs)) ≡ true
    go true e r = same (a.op == op) refl e (sym (ap (keys_if op a (filter (is_of_client c) xs)) e) ∙ q) r
    go false e r =
        ap is_some (find_next (is_ask c op) a xs (and_left (is_of_client c a) (a.op == op) e))
        ∙ r (sym (ap (keys_if op a (filter (is_of_client c) xs)) e) ∙ q)

pub open_there : (c : ClientId) (op : ℕ) (v : Volume) → is_open_op op (in_volume v c).pending ≡ true → is_some (find (is_ask c op) v.pending) ≡ true
open_there c op v q = found_ask c op v.pending q
