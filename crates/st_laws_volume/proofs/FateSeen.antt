-- Only effects, crashes of clients and advances give entries their fates: the lines of other events tell of none.
use Rattle.std.proofs.Common.{◌≡◌, ℕ, Bool, true, false, not, List, [], ◌∷◌, ◌++◌, Option, Some, None, Ok, Err, refl, if◌then◌else◌}
use Rattle.std.specs.Prelude.{Result, is_some, option_and_then}
use Rattle.std.specs.List.{list_all}
use Rattle.st_base.specs.declared.ids.ClientId.{ClientId}
use Rattle.st_base.specs.declared.ids.ServerId.{ServerId}
use Rattle.st_base.specs.declared.ids.NodeId.{NodeId}
use Rattle.st_base.specs.declared.ids.NodeId.TheVariants as nodes
use Rattle.st_base.specs.declared.disk.BlockAt.{BlockAt}
use Rattle.st_base.specs.declared.disk.Command.{Command}
use Rattle.st_messages.specs.declared.ask.Ask.{Ask}
use Rattle.st_messages.specs.declared.event.Event.{Event}
use Rattle.st_messages.specs.declared.event.Event.TheVariants as events
use Rattle.st_messages.specs.declared.message.Message.{Message}
use Rattle.st_messages.specs.declared.output.Note.{Note}
use Rattle.st_messages.specs.declared.output.Note.TheVariants as notes
use Rattle.st_messages.specs.declared.output.Output.{Output}
use Rattle.st_messages.specs.declared.output.Output.TheVariants as outputs
use Rattle.st_rules.specs.declared.client.ClientInput.{ClientInput}
use Rattle.st_rules.specs.declared.input.ServerInput.{ServerInput}
use Rattle.st_rules.specs.declared.node.StepRefusal.{StepRefusal}
use Rattle.st_rules.specs.declared.observation.Observation.{Observation}
use Rattle.st_rules.specs.declared.observation.Observation.TheVariants as seen
use Rattle.st_rules.specs.declared.world.IssuedCommand.{IssuedCommand}
use Rattle.st_rules.specs.declared.world.SentMessage.{SentMessage}
use Rattle.st_rules.specs.Client as cl
use Rattle.st_rules.specs.ClientState.{ClientState}
use Rattle.st_rules.specs.Events as ev
use Rattle.st_rules.specs.Events.{WorldTurn, is_same_instance}
use Rattle.st_rules.specs.Server as server
use Rattle.st_rules.specs.Server.{ServerNode}
use Rattle.st_rules.specs.World.{World, WorldClient, clock_of, issued_of, message_of, node_of, receiver_of, site_of}
use Rattle.st_lemmas.proofs.Tables.{and_both, and_true, not_true}
use Rattle.st_lemmas.proofs.Truth.{clash}
use Rattle.st_laws_volume.specs.StepKinds.{AreTaken, is_fate}
use Rattle.st_laws_volume.specs.Options.{OnSome}
use Rattle.st_laws_volume.specs.Seen.{failure, failure_of, failure_told, of_event, of_line}
use Rattle.st_laws_volume.specs.Witness.{Behind, before_line, does_at, of_delivery, of_lines, of_message, takes_op, to_node}
use Rattle.st_laws_volume.proofs.Options.{on_all}
use Rattle.st_volume.specs.declared.step.VolumeStep.{VolumeStep}
use Rattle.st_volume.specs.Volume as volume
use Rattle.st_volume.specs.Volume.{Volume, run}

-- Lines that tell no fate.
abbrev pub tells_none : Observation → Bool
tells_none (seen.Hardened i) = false
tells_none (seen.Dropped i cause) = false
tells_none o = true

all_last : {A : Type 0} (p : A → Bool) (xs : List A) (x : A) → p x ≡ true → list_all p xs ≡ true → list_all p (xs ++ x ∷ []) ≡ true
all_last p [] x q h = and_both (p x) true q refl
all_last p (y ∷ xs) x q h = let b = and_true (p y) (list_all p xs) h in and_both (p y) (list_all p (xs ++ x ∷ [])) b.0 (all_last p xs x q b.1)

abbrev Silent : WorldTurn → Type 0
Silent sc = list_all tells_none sc.seen ≡ true

one_more : (w : World) (sc : WorldTurn) (o : Observation) → tells_none o ≡ true → Silent sc → Silent (ev.observe w sc o)
one_more w sc o q h = all_last tells_none sc.seen o q h

-- A client's outputs.
note_silent : (c : ClientId) (before : ClientState) (n : Note) (sc : WorldTurn) → Silent sc → Silent (ev.client_notes sc c before n)
unfolding ev.client_notes ev.accepts ev.patches ev.loses
note_silent c before (notes.Leased s end) sc h = one_more sc.world sc (seen.Leased c s end) refl h
note_silent c before (notes.Lost s life) sc h = all_last tells_none sc.seen (seen.Lost c s life) refl h
note_silent c before (notes.Accepted f p bytes) sc h = all_last tells_none sc.seen _ refl h
note_silent c before (notes.Patched f p at bytes) sc h = all_last tells_none sc.seen _ refl h
note_silent c before n sc h = h

submit_silent : (c : ClientId) (site : Option WorldClient) (number : ℕ) (at : BlockAt) (what : Command) (sc : WorldTurn) → Silent sc →
    Silent (ev.submits sc c site number at what)
unfolding ev.submits
submit_silent c None number at what sc h = h
submit_silent c (Some site) number at what sc h = all_last tells_none sc.seen _ refl h

output_silent : (c : ClientId) (before : ClientState) (x : Output) (sc : WorldTurn) → Silent sc → Silent (ev.client_says sc c before x)
unfolding ev.client_says ev.sends ev.answers_with
output_silent c before (outputs.Send m) sc h = all_last tells_none sc.seen _ refl h
output_silent c before (outputs.Submit number at what) sc h = submit_silent c (site_of sc.world c) number at what sc h
output_silent c before (outputs.Answer op answer) sc h = all_last tells_none sc.seen (seen.Answered c op answer) refl h
output_silent c before (outputs.Note n) sc h = note_silent c before n sc h

outputs_silent : (c : ClientId) (before : ClientState) (os : List Output) (sc : WorldTurn) → Silent sc → Silent (ev.client_says_all c before os sc)
unfolding ev.client_says_all
outputs_silent c before [] sc h = h
outputs_silent c before (x ∷ os) sc h = outputs_silent c before os (ev.client_says sc c before x) (output_silent c before x sc h)

-- A server's outputs.
served_note : (s : ServerId) (n : Note) (sc : WorldTurn) → Silent sc → Silent (ev.server_notes sc s n)
unfolding ev.server_notes ev.cuts
served_note s (notes.Suspected c t) sc h = all_last tells_none sc.seen _ refl h
served_note s (notes.Stolen c life) sc h = all_last tells_none sc.seen _ refl h
served_note s (notes.CutDone f p) sc h = all_last tells_none sc.seen _ refl h
served_note s n sc h = h

served_one : (s : ServerId) (x : Output) (sc : WorldTurn) → Silent sc → Silent (ev.server_says sc s x)
unfolding ev.server_says ev.sends
served_one s (outputs.Send m) sc h = all_last tells_none sc.seen _ refl h
served_one s (outputs.Note n) sc h = served_note s n sc h
served_one s x sc h = h

served_all : (s : ServerId) (os : List Output) (sc : WorldTurn) → Silent sc → Silent (ev.server_says_all s os sc)
unfolding ev.server_says_all
served_all s [] sc h = h
served_all s (x ∷ os) sc h = served_all s os (ev.server_says sc s x) (served_one s x sc h)

-- Events: all but those that give fates.
abbrev pub gives_fates : Event → Bool
gives_fates (events.Advance increments) = true
gives_fates (events.Effect k) = true
gives_fates (events.Crash (nodes.Client c)) = true
gives_fates e = false

module _ (w : World) where
  client_takes : (v : World) (c : ClientId) (i : ClientInput) (site : WorldClient) → Silent (ev.client_takes v c i site)
  unfolding ev.client_takes ev.client_took
  client_takes v c i site = go (cl.node_step site.node (clock_of v (nodes.Client c)) i)
    where
      go : (r : Result cl.NodeTurn StepRefusal) → Silent (ev.client_took v c site r)
      go (Err x) = refl
      go (Ok u) = outputs_silent c site.node.state u.out (ev.quiet (ev.with_site c (ev.at_node u.node site) v)) refl

  by_client : (v : World) (c : ClientId) (i : ClientInput) (o : Option WorldClient) → Silent (ev.at_client v c i o)
  unfolding ev.at_client
  by_client v c i None = refl
  by_client v c i (Some site) = client_takes v c i site

  by_server : (s : ServerId) (i : ServerInput) (o : Option ServerNode) → Silent (ev.at_server w s i o)
  unfolding ev.at_server ev.server_takes ev.server_took
  by_server s i None = refl
  by_server s i (Some node) = go (server.node_step node (clock_of w (nodes.Server s)) i)
    where
      go : (r : Result server.NodeTurn StepRefusal) → Silent (ev.server_took w s r)
      go (Err x) = refl
      go (Ok u) = served_all s u.out (ev.quiet (ev.with_node s u.node w)) refl

  asked : (c : ClientId) (ask : Ask) (o : Option WorldClient) → Silent (ev.asks_at w c ask o)
  unfolding ev.asks_at
  asked c ask None = refl
  asked c ask (Some site) = client_takes w c _ (ev.asked_once_more site)

  delivered : (o : Option SentMessage) → Silent (ev.delivers w o)
  unfolding ev.delivers ev.delivers_to
  delivered None = refl
  delivered (Some m) = to (receiver_of m)
    where
      to : (r : NodeId) → Silent (ev.delivers_to w m.message r)
      to (nodes.Client c) = by_client w c _ (site_of w c)
      to (nodes.Server s) = by_server s _ (node_of w s)

  reported : (k : ℕ) (ok : Bool) → Silent (ev.reports_of w k ok)
  unfolding ev.reports_of ev.tells ev.tells_client ev.tells_site
  reported k ok = go (issued_of w k)
    where
      v : World
      v = ev.with_disks (ev.disks_after w.disks (Rattle.st_rules.specs.Disks.done w.disks k ok)) w

      same : (x : IssuedCommand) (site : WorldClient) (b : Bool) → Silent (if b then ev.client_takes v x.client (ev.end_told v k ok x) site else ev.quiet v)
      same x site true = client_takes v x.client (ev.end_told v k ok x) site
      same x site false = refl

      at : (x : IssuedCommand) (o : Option WorldClient) → Silent (ev.tells_client v k ok x o)
      at x None = refl
      at x (Some site) = same x site (is_same_instance x site)

      go : (o : Option IssuedCommand) → Silent (ev.tells v k ok o)
      go None = refl
      go (Some x) = at x (site_of w x.client)

  pub event_silent : (e : Event) → gives_fates e ≡ false → Silent (ev.happens w e)
  unfolding ev.happens ev.ticks ev.crashes ev.starts
  event_silent (events.Tick (nodes.Client c)) q = by_client w c _ (site_of w c)
  event_silent (events.Tick (nodes.Server s)) q = by_server s _ (node_of w s)
  event_silent (events.App c ask) q = asked c ask (site_of w c)
  event_silent (events.Deliver k) q = delivered (message_of w k)
  event_silent (events.Lose k) q = refl
  event_silent (events.Cut from to) q = refl
  event_silent (events.Heal from to) q = refl
  event_silent (events.Report k ok) q = reported k ok
  event_silent (events.Crash (nodes.Server s)) q = refl
  event_silent (events.Start n) q = refl
  event_silent (events.Advance increments) q = cc q
  event_silent (events.Effect k) q = cc q
  event_silent (events.Crash (nodes.Client c)) q = cc q

-- Steps of the volume that aren't fates.
abbrev pub no_fate : VolumeStep → Bool
no_fate it = not (is_fate it)

pub both_fateless : (xs ys : List VolumeStep) → list_all no_fate xs ≡ true → list_all no_fate ys ≡ true → list_all no_fate (xs ++ ys) ≡ true
both_fateless [] ys p q = q
both_fateless (x ∷ xs) ys p q =
    let b = and_true (no_fate x) (list_all no_fate xs) p in and_both (no_fate x) (list_all no_fate (xs ++ ys)) b.0 (both_fateless xs ys b.1 q)

line_fateless : (w : World) (o : Observation) (rest : List Observation) (xs : List VolumeStep) → tells_none o ≡ true → list_all no_fate xs ≡ true →
    list_all no_fate (before_line o rest ++ (of_line w o ++ xs)) ≡ true
unfolding before_line of_line
line_fateless w (seen.Wrote i c f p bytes) rest xs t q = q
line_fateless w (seen.Patched i c f p at bytes) rest xs t q = q
line_fateless w (seen.CutAt i f p) rest xs t q = q
line_fateless w (seen.Answered c op answer) rest xs t q = q
line_fateless w (seen.Sent k m) rest xs t q = q
line_fateless w (seen.Submitted k c number what) rest xs t q = q
line_fateless w (seen.Leased c s end) rest xs t q = q
line_fateless w (seen.Lost c s life) rest xs t q = q
line_fateless w (seen.Suspected s c start) rest xs t q = q
line_fateless w (seen.Stolen s c life) rest xs t q = q
line_fateless w (seen.Hardened i) rest xs t q = cc t
line_fateless w (seen.Dropped i cause) rest xs t q = cc t

pub lines_fateless : (w : World) (os : List Observation) → list_all tells_none os ≡ true → list_all no_fate (of_lines w os) ≡ true
unfolding of_lines
lines_fateless w [] h = refl
lines_fateless w (o ∷ os) h =
    let b = and_true (tells_none o) (list_all tells_none os) h in line_fateless w o os (of_lines w os) b.0 (lines_fateless w os b.1)

failure_fateless : (w : World) (k : Option IssuedCommand) → list_all no_fate (failure_of w k) ≡ true
failure_fateless w None = refl
failure_fateless w (Some k) = at (site_of w k.client)
  where
    told : (b : Bool) (x : VolumeStep) → no_fate x ≡ true → list_all no_fate (if b then x ∷ [] else []) ≡ true
    told true x q = and_both (no_fate x) true q refl
    told false x q = refl

    one : no_fate (failure k k.carries) ≡ true
    one = by k.carries
      where
        by : (o : Option Rattle.st_rules.specs.declared.world.Carried.Carried) → no_fate (failure k o) ≡ true
        by None = refl
        by (Some x) = refl

    at : (site : Option WorldClient) → list_all no_fate (failure_told k site) ≡ true
    at None = refl
    at (Some site) = told (is_same_instance k site) (failure k k.carries) one

pub event_fateless : (w : World) (e : Event) → list_all no_fate (of_event w e) ≡ true
unfolding of_event
event_fateless w (events.App c ask) = refl
event_fateless w (events.Tick n) = refl
event_fateless w (events.Deliver k) = refl
event_fateless w (events.Lose k) = refl
event_fateless w (events.Cut from to) = refl
event_fateless w (events.Heal from to) = refl
event_fateless w (events.Advance increments) = refl
event_fateless w (events.Effect k) = refl
event_fateless w (events.Report k true) = refl
event_fateless w (events.Report k false) = failure_fateless w (issued_of w k)
event_fateless w (events.Crash (nodes.Client c)) = refl
event_fateless w (events.Crash (nodes.Server s)) = refl
event_fateless w (events.Start (nodes.Client c)) = refl
event_fateless w (events.Start (nodes.Server s)) = refl

node_fateless : (bs : List Behind) (v : Volume) (w : World) (m : Message) (n : NodeId) → list_all no_fate (to_node bs v w m n) ≡ true
node_fateless bs v w m (nodes.Client c) = refl
node_fateless bs v w m (nodes.Server s) = go (does_at w s (node_of w s) m)
  where
    go : (b : Bool) → list_all no_fate (if b then takes_op bs v s m ∷ [] else []) ≡ true
    go true = refl
    go false = refl

message_fateless : (bs : List Behind) (v : Volume) (w : World) (m : Option SentMessage) → list_all no_fate (of_message bs v w m) ≡ true
message_fateless bs v w None = refl
message_fateless bs v w (Some m) = node_fateless bs v w m.message (receiver_of m)

pub delivery_fateless : (bs : List Behind) (v : Volume) (w : World) (e : Event) → list_all no_fate (of_delivery bs v w e) ≡ true
delivery_fateless bs v w (events.Deliver k) = message_fateless bs v w (message_of w k)
delivery_fateless bs v w (events.App c ask) = refl
delivery_fateless bs v w (events.Tick n) = refl
delivery_fateless bs v w (events.Lose k) = refl
delivery_fateless bs v w (events.Cut from to) = refl
delivery_fateless bs v w (events.Heal from to) = refl
delivery_fateless bs v w (events.Advance increments) = refl
delivery_fateless bs v w (events.Effect k) = refl
delivery_fateless bs v w (events.Report k ok) = refl
delivery_fateless bs v w (events.Crash n) = refl
delivery_fateless bs v w (events.Start n) = refl

-- they need not be taken
pub none_to_take : (its : List VolumeStep) (v : Volume) → list_all no_fate its ≡ true → AreTaken is_fate its v
unfolding AreTaken
none_to_take [] v q = tt
none_to_take (it ∷ its) v q =
    let b = and_true (no_fate it) (list_all no_fate its) q in
    (λ p. clash p (not_true (is_fate it) b.0), on_all (AreTaken is_fate its) (λ u. none_to_take its u b.1) (volume.step v it))

-- and steps that are all taken are taken one by one
pub all_are_taken : (which : VolumeStep → Bool) (its : List VolumeStep) (v : Volume) → is_some (run its v) ≡ true → AreTaken which its v
unfolding AreTaken run
all_are_taken which [] v q = tt
all_are_taken which (it ∷ its) v q = go (volume.step v it) q (λ u. all_are_taken which its u)
  where
    go : (o : Option Volume) → is_some (option_and_then (run its) o) ≡ true → ((u : Volume) → is_some (run its u) ≡ true → AreTaken which its u) → (which it ≡ true → is_some o ≡ true) × OnSome (AreTaken which its) o
    go None q r = cc q
    go (Some u) q r = (λ p. refl, r u q)
