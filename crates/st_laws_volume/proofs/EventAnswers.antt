-- The answers that are seen of an event are those that a client gives in the step that it takes, in their order.
use Rattle.std.proofs.Common.{◌≡◌, ℕ, ◌+◌, Bool, true, false, List, [], ◌∷◌, ◌++◌, Option, Some, None, Ok, Err, refl, sym, ap, ◌∙◌, subst, append_assoc, if◌then◌else◌}
use Rattle.std.specs.Prelude.{Result, unwrap_or}
use Rattle.std.proofs.lemmas.List.{append-nil}
use Rattle.st_base.specs.declared.disk.BlockAt.{BlockAt}
use Rattle.st_base.specs.declared.disk.Command.{Command}
use Rattle.st_base.specs.declared.disk.Tag.{Tag}
use Rattle.st_base.specs.declared.ids.ClientId.{ClientId}
use Rattle.st_base.specs.declared.ids.NodeId.{NodeId}
use Rattle.st_base.specs.declared.ids.NodeId.TheVariants as nodes
use Rattle.st_base.specs.declared.ids.ServerId.{ServerId}
use Rattle.st_base.specs.declared.ids.Stamp.{Stamp}
use Rattle.st_messages.specs.declared.answer.AppAnswer.{AppAnswer}
use Rattle.st_messages.specs.declared.ask.Ask.{Ask}
use Rattle.st_messages.specs.declared.event.Event.{Event}
use Rattle.st_messages.specs.declared.event.Event.TheVariants as events
use Rattle.st_messages.specs.declared.output.Note.{Note}
use Rattle.st_messages.specs.declared.output.Note.TheVariants as notes
use Rattle.st_messages.specs.declared.output.Output.{Output}
use Rattle.st_messages.specs.declared.output.Output.TheVariants as outputs
use Rattle.st_rules.specs.declared.client.ClientInput.{ClientInput}
use Rattle.st_rules.specs.declared.client.ClientInput.TheVariants as inputs
use Rattle.st_rules.specs.declared.disks.Block.{Block}
use Rattle.st_rules.specs.declared.input.ServerInput.{ServerInput}
use Rattle.st_rules.specs.declared.input.ServerInput.TheVariants as serving
use Rattle.st_rules.specs.declared.log.Fate.{Fate}
use Rattle.st_rules.specs.declared.log.Fate.TheVariants as fates
use Rattle.st_rules.specs.declared.log.LogEntry.{LogEntry}
use Rattle.st_rules.specs.declared.node.StepRefusal.TheVariants.{Crashed}
use Rattle.st_rules.specs.declared.observation.Observation.{Observation}
use Rattle.st_rules.specs.declared.observation.Observation.TheVariants as seen
use Rattle.st_rules.specs.declared.world.IssuedCommand.{IssuedCommand}
use Rattle.st_rules.specs.declared.world.SentMessage.{SentMessage}
use Rattle.st_rules.specs.Client as cl
use Rattle.st_rules.specs.ClientState.{ClientState}
use Rattle.st_rules.specs.Disks as disks
use Rattle.st_rules.specs.Events as ev
use Rattle.st_rules.specs.Events.{WorldTurn, world_step}
use Rattle.st_rules.specs.Server as server
use Rattle.st_rules.specs.Server.{ServerNode}
use Rattle.st_rules.specs.World as world
use Rattle.st_rules.specs.World.{World, WorldClient, clock_of, node_of, site_of}
use Rattle.st_lemmas.proofs.Numbers.{numbered_own}
use Rattle.st_lemmas.proofs.Steps.{step_happens}
use Rattle.st_laws_pages.proofs.Lives.Lasting.{flush_parts}
use Rattle.st_laws_pages.proofs.Lives.Turning.{says_lives}

-- an answer to a client
pub record Given : Type 0 where
  pub client : ClientId
  pub op : ℕ
  pub answer : AppAnswer

-- of an output, and of a line
abbrev pub of_output : ClientId → Output → List Given
of_output c (outputs.Answer op a) = record { client = c; op = op; answer = a } ∷ []
of_output c o = []

abbrev pub given_by : ClientId → List Output → List Given
given_by c [] = []
given_by c (o ∷ os) = of_output c o ++ given_by c os

abbrev pub of_seen : Observation → List Given
of_seen (seen.Answered c op a) = record { client = c; op = op; answer = a } ∷ []
of_seen o = []

abbrev pub given_in_lines : List Observation → List Given
given_in_lines [] = []
given_in_lines (o ∷ os) = of_seen o ++ given_in_lines os

pub given_both : (c : ClientId) (xs ys : List Output) → given_by c (xs ++ ys) ≡ given_by c xs ++ given_by c ys
given_both c [] ys = refl
given_both c (x ∷ xs) ys = ap (λ z. of_output c x ++ z) (given_both c xs ys) ∙ sym (append_assoc (of_output c x) (given_by c xs) (given_by c ys))

pub given_last : (c : ClientId) (xs : List Output) (o : Output) → given_by c (xs ++ o ∷ []) ≡ given_by c xs ++ of_output c o
given_last c xs o = given_both c xs (o ∷ []) ∙ ap (λ z. given_by c xs ++ z) (append-nil (of_output c o))

lines_last : (os : List Observation) (o : Observation) → given_in_lines (os ++ o ∷ []) ≡ given_in_lines os ++ of_seen o
lines_last [] o = append-nil (of_seen o)
lines_last (x ∷ os) o = ap (λ z. of_seen x ++ z) (lines_last os o) ∙ sym (append_assoc (of_seen x) (given_in_lines os) (of_seen o))

-- a line that isn't an answer
silent_line : (os : List Observation) (o : Observation) → of_seen o ≡ [] → given_in_lines (os ++ o ∷ []) ≡ given_in_lines os
silent_line os o e = lines_last os o ∙ (ap (λ z. given_in_lines os ++ z) e ∙ append-nil (given_in_lines os))

-- An output of a client.
pub record After (old : List Observation) (more : List Given) (new : List Observation) : Type 0 where
  pub is : given_in_lines new ≡ given_in_lines old ++ more

nothing_more : (os : List Observation) → After os [] os
nothing_more os = record { is = sym (append-nil (given_in_lines os)) }

silent_more : (os : List Observation) (o : Observation) → of_seen o ≡ [] → After os [] (os ++ o ∷ [])
silent_more os o e = record { is = silent_line os o e ∙ sym (append-nil (given_in_lines os)) }

note_gives : (c : ClientId) (before : ClientState) (n : Note) (sc : WorldTurn) → After sc.seen [] (ev.client_notes sc c before n).seen
unfolding ev.client_notes ev.accepts ev.patches ev.loses
note_gives c before (notes.Leased s end) sc = silent_more sc.seen _ refl
note_gives c before (notes.Lost s life) sc = silent_more sc.seen _ refl
note_gives c before (notes.Accepted f p bytes) sc = silent_more sc.seen _ refl
note_gives c before (notes.Patched f p at bytes) sc = silent_more sc.seen _ refl
note_gives c before n sc = nothing_more sc.seen

submit_gives : (c : ClientId) (o : Option WorldClient) (number : ℕ) (at : BlockAt) (what : Command) (sc : WorldTurn) →
    After sc.seen [] (ev.submits sc c o number at what).seen
unfolding ev.submits
submit_gives c None number at what sc = nothing_more sc.seen
submit_gives c (Some site) number at what sc = silent_more sc.seen _ refl

one_gives : (c : ClientId) (before : ClientState) (o : Output) (sc : WorldTurn) → After sc.seen (of_output c o) (ev.client_says sc c before o).seen
unfolding ev.client_says ev.sends ev.answers_with
one_gives c before (outputs.Send m) sc = silent_more sc.seen _ refl
one_gives c before (outputs.Submit number at what) sc = submit_gives c (site_of sc.world c) number at what sc
one_gives c before (outputs.Answer op answer) sc = record { is = lines_last sc.seen (seen.Answered c op answer) }
one_gives c before (outputs.Note n) sc = note_gives c before n sc

pub all_give : (c : ClientId) (before : ClientState) (os : List Output) (sc : WorldTurn) → After sc.seen (given_by c os) (ev.client_says_all c before os sc).seen
unfolding ev.client_says_all
all_give c before [] sc = nothing_more sc.seen
all_give c before (o ∷ os) sc =
    record {
      is =
          (all_give c before os (ev.client_says sc c before o)).is
          ∙ (ap (λ z. z ++ given_by c os) (one_gives c before o sc).is ∙ append_assoc (given_in_lines sc.seen) (of_output c o) (given_by c os));
    }

-- An output of a server, and fates.
record Silent (os : List Observation) : Type 0 where
  none : given_in_lines os ≡ []

silent_too : (os : List Observation) (o : Observation) → of_seen o ≡ [] → Silent os → Silent (os ++ o ∷ [])
silent_too os o e h = record { none = silent_line os o e ∙ h.none }

server_silent_one : (s : ServerId) (o : Output) (sc : WorldTurn) → Silent sc.seen → Silent (ev.server_says sc s o).seen
unfolding ev.server_says ev.sends ev.server_notes ev.cuts
server_silent_one s (outputs.Send m) sc h = silent_too sc.seen _ refl h
server_silent_one s (outputs.Note n) sc h = note n
  where
    note : (n : Note) → Silent (ev.server_notes sc s n).seen
    note (notes.Suspected c t) = silent_too sc.seen _ refl h
    note (notes.Stolen c life) = silent_too sc.seen _ refl h
    note (notes.CutDone f p) = silent_too sc.seen _ refl h
    note n = h
server_silent_one s o sc h = h

server_silent : (s : ServerId) (os : List Output) (sc : WorldTurn) → Silent sc.seen → Silent (ev.server_says_all s os sc).seen
unfolding ev.server_says_all
server_silent s [] sc h = h
server_silent s (o ∷ os) sc h = server_silent s os (ev.server_says sc s o) (server_silent_one s o sc h)

fates_silent : (n : ℕ) (es fs : List LogEntry) → Silent (ev.fates_from n es fs)
unfolding ev.fates_from
fates_silent n [] fs = record { none = refl }
fates_silent n (e ∷ es) [] = record { none = refl }
fates_silent n (e ∷ es) (f ∷ fs) = go e.fate f.fate (fates_silent (n + 1) es fs)
  where
    go : (x y : Fate) → Silent (ev.fates_from (n + 1) es fs) → Silent (ev.fate_seen n x y ++ ev.fates_from (n + 1) es fs)
    go fates.Pending fates.Hard h = record { none = h.none }
    go fates.Pending (fates.Gone cause) h = record { none = h.none }
    go fates.Pending fates.Pending h = h
    go fates.Hard y h = h
    go (fates.Gone cause) y h = h

-- What a client takes at an event.
pub data TakesAt (t : World) (e : Event) (c : ClientId) (site : WorldClient) : ClientInput → Type 0 where
  ByTick : e ≡ events.Tick (nodes.Client c) → TakesAt t e c site inputs.Tick
  ByAsk : (ask : Ask) → e ≡ events.App c ask → TakesAt t e c site (inputs.App (site.asks + 1) ask)
  ByMessage : (k : ℕ) (m : SentMessage) → e ≡ events.Deliver k → world.message_of t k ≡ Some m → world.receiver_of m ≡ nodes.Client c →
      TakesAt t e c site (inputs.Control m.message)
  ByReport : (k : ℕ) (ok : Bool) (x : IssuedCommand) (r : Option (Option (Tag × List ℕ))) → e ≡ events.Report k ok → world.issued_of t k ≡ Some x →
      x.client ≡ c → ev.is_same_instance x site ≡ true → (r ≡ None → ok ≡ false) → TakesAt t e c site (inputs.Done x.number r)

-- a step of a client, with its lines and what it answers
pub record Stepping (t : World) (e : Event) (sc : WorldTurn) : Type 0 where
  pub client : ClientId
  pub site : WorldClient
  pub input : ClientInput
  pub now : Stamp
  pub at : site_of t client ≡ Some site
  pub runs : site.node.running ≡ true
  pub clock : now ≡ clock_of t (nodes.Client client)
  pub takes : TakesAt t e client site input
  pub before : WorldTurn
  pub unseen : before.seen ≡ []
  pub says : sc.seen ≡ (ev.client_says_all client site.node.state (cl.client_step site.node.state now input).out before).seen
  pub after : WorldClient
  pub left : site_of sc.world client ≡ Some after
  pub time : clock_of sc.world (nodes.Client client) ≡ now
  pub runs_on : after.node.running ≡ true
  pub state_is : after.node.state ≡ (cl.client_step site.node.state now input).state
  pub gives : given_in_lines sc.seen ≡ given_by client (cl.client_step site.node.state now input).out

pub data AnswersOf (t : World) (e : Event) (sc : WorldTurn) : Type 0 where
  GivesNone : given_in_lines sc.seen ≡ [] → AnswersOf t e sc
  Steps : Stepping t e sc → AnswersOf t e sc

module _ (t : World) (e : Event) where
  abbrev A : WorldTurn → Type 0
  A sc = AnswersOf t e sc

  abbrev w : World
  w = ev.counted t

  takes : (v : World) (c : ClientId) (site new : WorldClient) (i : ClientInput) → v.clients ≡ t.clients →
      clock_of v (nodes.Client c) ≡ clock_of t (nodes.Client c) → site_of t c ≡ Some site → new.node ≡ site.node → TakesAt t e c site i →
      A (ev.client_takes v c i new)
  unfolding ev.client_takes ev.client_took cl.node_step
  takes v c site new i alike clock at same z = go new.node.running refl
    where
      now : Stamp
      now = clock_of v (nodes.Client c)

      first : WorldTurn
      first = ev.quiet (ev.with_site c (ev.at_node (cl.node_turn new.node (cl.client_step new.node.state now i)).node new) v)

      next : WorldClient
      next = ev.at_node (cl.node_turn new.node (cl.client_step new.node.state now i)).node new

      said : WorldTurn
      said = ev.client_says_all c new.node.state (cl.client_step new.node.state now i).out first

      left : site_of (ev.flushes c (cl.client_step new.node.state now i).state (world.all_servers said.world) said.world) c ≡ Some next
      left =
          ap (λ zs. world.numbered zs c.0)
          ((flush_parts c (cl.client_step new.node.state now i).state (world.all_servers said.world) said.world).clients
          ∙ (says_lives c new.node.state (cl.client_step new.node.state now i).out first).clients)
          ∙ numbered_own v.clients c.0 next site (ap (λ zs. world.numbered zs c.0) alike ∙ at)

      time : clock_of (ev.flushes c (cl.client_step new.node.state now i).state (world.all_servers said.world) said.world) (nodes.Client c) ≡ now
      time =
          ap (λ ts. unwrap_or {T = Stamp} (world.numbered ts c.0) (record { 0 = 0 }))
          ((flush_parts c (cl.client_step new.node.state now i).state (world.all_servers said.world) said.world).clocks
          ∙ (says_lives c new.node.state (cl.client_step new.node.state now i).out first).clocks)

      go : (b : Bool) → new.node.running ≡ b →
          A (ev.client_took v c new (if b then Ok (cl.node_turn new.node (cl.client_step new.node.state now i)) else Err Crashed))
      go true q =
          Steps
          (record {
            client = c;
            site = site;
            input = i;
            now = now;
            at = at;
            runs = ap (λ (y : cl.ClientNode). y.running) (sym same) ∙ q;
            clock = clock;
            takes = z;
            before = first;
            unseen = refl;
            says = ap (λ (y : cl.ClientNode). (ev.client_says_all c y.state (cl.client_step y.state now i).out first).seen) same;
            after = next;
            left = left;
            time = time;
            runs_on = q;
            state_is = ap (λ (y : cl.ClientNode). (cl.client_step y.state now i).state) same;
            gives =
                (all_give c new.node.state (cl.client_step new.node.state now i).out first).is
                ∙ ap (λ (y : cl.ClientNode). given_by c (cl.client_step y.state now i).out) same;
          })
      go false q = GivesNone refl

  by_client : (v : World) (c : ClientId) (i : ClientInput) → v.clients ≡ t.clients → clock_of v (nodes.Client c) ≡ clock_of t (nodes.Client c) →
      ((site : WorldClient) → site_of t c ≡ Some site → TakesAt t e c site i) → (o : Option WorldClient) → site_of t c ≡ o → A (ev.at_client v c i o)
  unfolding ev.at_client
  by_client v c i a k z None at = GivesNone refl
  by_client v c i a k z (Some site) at = takes v c site site i a k at refl (z site at)

  by_server : (s : ServerId) (i : ServerInput) (o : Option ServerNode) → A (ev.at_server w s i o)
  unfolding ev.at_server ev.server_takes ev.server_took
  by_server s i None = GivesNone refl
  by_server s i (Some node) = go (server.node_step node (clock_of w (nodes.Server s)) i)
    where
      go : (r : Result server.NodeTurn _) → A (ev.server_took w s r)
      go (Err x) = GivesNone refl
      go (Ok u) = GivesNone (server_silent s u.out (ev.quiet (ev.with_node s u.node w)) (record { none = refl })).none

  asks : (c : ClientId) (ask : Ask) → e ≡ events.App c ask → (o : Option WorldClient) → site_of t c ≡ o → A (ev.asks_at w c ask o)
  unfolding ev.asks_at
  asks c ask i None at = GivesNone refl
  asks c ask i (Some site) at = takes w c site (ev.asked_once_more site) (inputs.App (site.asks + 1) ask) refl refl at refl (ByAsk ask i)

  delivered : (k : ℕ) → e ≡ events.Deliver k → (o : Option SentMessage) → world.message_of t k ≡ o → A (ev.delivers w o)
  unfolding ev.delivers ev.delivers_to
  delivered k i None q = GivesNone refl
  delivered k i (Some m) q = to (world.receiver_of m) refl
    where
      to : (n : NodeId) → world.receiver_of m ≡ n → A (ev.delivers_to w m.message n)
      to (nodes.Client c) r = by_client w c (inputs.Control m.message) refl refl (λ site at. ByMessage k m i q r) (site_of t c) refl
      to (nodes.Server s) r = by_server s (serving.Control m.message) (node_of t s)

  reported : (k : ℕ) (ok : Bool) → e ≡ events.Report k ok → A (ev.reports_of w k ok)
  unfolding ev.reports_of ev.tells ev.tells_client ev.tells_site
  reported k ok i = go (world.issued_of t k) refl
    where
      v : World
      v = ev.with_disks (ev.disks_after w.disks (disks.done w.disks k ok)) w

      failed : (b : Bool) (s : Option Block) → ev.result_of b s ≡ None → b ≡ false
      failed true s q = cc
      failed false s q = refl

      same : (x : IssuedCommand) → world.issued_of t k ≡ Some x → (site : WorldClient) → site_of t x.client ≡ Some site → (b : Bool) →
          ev.is_same_instance x site ≡ b → A (if b then ev.client_takes v x.client (ev.end_told v k ok x) site else ev.quiet v)
      same x q site at true r =
          takes v x.client site site (ev.end_told v k ok x) refl refl at refl
          (ByReport k ok x (ev.result_of ok (disks.sample v.disks k)) i q refl r (failed ok (disks.sample v.disks k)))
      same x q site at false r = GivesNone refl

      told : (x : IssuedCommand) → world.issued_of t k ≡ Some x → (o : Option WorldClient) → site_of t x.client ≡ o → A (ev.tells_client v k ok x o)
      told x q None at = GivesNone refl
      told x q (Some site) at = same x q site at (ev.is_same_instance x site) refl

      go : (o : Option IssuedCommand) → world.issued_of t k ≡ o → A (ev.tells v k ok o)
      go None q = GivesNone refl
      go (Some x) q = told x q (site_of t x.client) refl

  crashes : (c : ClientId) (o : Option WorldClient) → A (ev.crashes_client w c o)
  unfolding ev.crashes_client ev.marks
  crashes c None = GivesNone refl
  crashes c (Some site) = GivesNone (fates_silent 1 _ _).none

  happens : A (ev.happens w e)
  unfolding ev.happens ev.ticks ev.crashes ev.advances ev.effects ev.marks
  happens = by e refl
    where
      by : (f : Event) → e ≡ f → A (ev.happens w f)
      by (events.Tick (nodes.Client c)) i = by_client w c inputs.Tick refl refl (λ site at. ByTick i) (site_of t c) refl
      by (events.Tick (nodes.Server s)) i = by_server s serving.Tick (node_of t s)
      by (events.App c ask) i = asks c ask i (site_of t c) refl
      by (events.Deliver k) i = delivered k i (world.message_of t k) refl
      by (events.Lose k) i = GivesNone refl
      by (events.Cut from to) i = GivesNone refl
      by (events.Heal from to) i = GivesNone refl
      by (events.Advance increments) i = GivesNone (fates_silent 1 _ _).none
      by (events.Effect k) i = GivesNone (fates_silent 1 _ _).none
      by (events.Report k ok) i = reported k ok i
      by (events.Crash (nodes.Client c)) i = crashes c (site_of t c)
      by (events.Crash (nodes.Server s)) i = GivesNone refl
      by (events.Start n) i = GivesNone refl

-- an event's answers
pub event_answers : (t : World) (e : Event) (sc : WorldTurn) → world_step t e ≡ Ok sc → AnswersOf t e sc
event_answers t e sc f = subst (AnswersOf t e) (sym (step_happens t e sc f).1) (happens t e)
