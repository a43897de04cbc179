-- In the world: an event at which a client takes an input keeps its copies, by the log of the world that it leaves.
use Rattle.std.specs.Prelude.{◌≡◌, ℕ, ◌+◌, ◌≤◌, Bool, true, false, List, [], ◌∷◌, ◌++◌, Option, Some, None, Ok, if◌then◌else◌}
use Rattle.st_base.specs.declared.ids.ClientId.{ClientId}
use Rattle.st_base.specs.declared.ids.FileId.{FileId}
use Rattle.st_base.specs.declared.ids.PageNo.{PageNo}
use Rattle.st_base.specs.declared.ids.Stamp.{Stamp}
use Rattle.st_base.specs.declared.ids.NodeId.{NodeId}
use Rattle.st_base.specs.declared.ids.NodeId.TheVariants as nodes
use Rattle.st_messages.specs.declared.ask.Ask.{Ask}
use Rattle.st_messages.specs.declared.event.Event.{Event}
use Rattle.st_messages.specs.declared.event.Event.TheVariants as events
use Rattle.st_messages.specs.declared.message.Message.{Message}
use Rattle.st_rules.specs.declared.client.ClientInput.{ClientInput}
use Rattle.st_rules.specs.declared.client.ClientInput.TheVariants as inputs
use Rattle.st_rules.specs.declared.log.Cause.{Cause}
use Rattle.st_rules.specs.declared.log.LogEntry.{LogEntry}
use Rattle.st_rules.specs.declared.log.LogOwner.{LogOwner}
use Rattle.st_rules.specs.declared.world.Carried.{Carried}
use Rattle.st_rules.specs.declared.world.IssuedCommand.{IssuedCommand}
use Rattle.st_rules.specs.declared.world.SentMessage.{SentMessage}
use Rattle.st_rules.specs.Client as cl
use Rattle.st_rules.specs.ClientState.{Association, ClientState, ClientTurn, client_turn}
use Rattle.st_rules.specs.Disks as disks
use Rattle.st_rules.specs.World.{World, WorldClient, site_of, clock_of, issued_of, life_with, message_of, receiver_of}
use Rattle.st_rules.specs.FlatLog as log
use Rattle.st_rules.specs.FlatLog.{is_of_client, is_of_life, is_pending}
use Rattle.st_rules.specs.Events as ev
use Rattle.st_rules.specs.Events.{WorldTurn}
use Rattle.st_laws_refine.specs.Views.Halves.{held_in}
use Rattle.st_lemmas.specs.Lists.{Has}
use Rattle.st_laws_refine.specs.Client.World.{logged}
use Rattle.st_laws_refine.specs.Client.Invariants.{Lasts}
use Rattle.st_laws_reads.specs.Copies.Copies.{Right}
use Rattle.st_laws_reads.specs.Copies.Obligations.{Numbered}
use Rattle.st_laws_reads.specs.Copies.Law.{Apart, AllLived, ClientStands, ClientCopies, AllOwed}

-- What a client takes at an event: in which world, which input, and where it is then.
pub record Taking : Type 0 where
  pub world : World
  pub client : ClientId
  pub input : ClientInput
  pub site : WorldClient

-- a client that is there takes it
abbrev pub taking : World → ClientId → ClientInput → Option WorldClient → Option Taking
taking w c input None = None
taking w c input (Some site) = Some (record { world = w; client = c; input = input; site = site })

-- an ask is counted at its client
abbrev pub asking : World → ClientId → Ask → Option WorldClient → Option Taking
asking w c ask None = None
asking w c ask (Some site) = Some (record { world = w; client = c; input = inputs.App (site.asks + 1) ask; site = ev.asked_once_more site })

-- a message for a client
abbrev pub receiving : World → Message → NodeId → Option Taking
receiving w m (nodes.Client c) = taking w c (inputs.Control m) (site_of w c)
receiving w m (nodes.Server s) = None

-- the message of a number
abbrev pub receiving_of : World → Option SentMessage → Option Taking
receiving_of w None = None
receiving_of w (Some m) = receiving w m.message (receiver_of m)

-- a client is told the end of its command, if the instance that submitted it runs
abbrev pub told_at : World → ℕ → Bool → IssuedCommand → Option WorldClient → Option Taking
told_at w k ok x None = None
told_at w k ok x (Some site) = if ev.is_same_instance x site then taking w x.client (ev.end_told w k ok x) (Some site) else None

-- the client of a command
abbrev pub told_of : World → ℕ → Bool → Option IssuedCommand → Option Taking
told_of w k ok None = None
told_of w k ok (Some x) = told_at w k ok x (site_of w x.client)

-- What is taken at an event.
abbrev pub taken : World → Event → Option Taking
taken w (events.Tick (nodes.Client c)) = taking w c inputs.Tick (site_of w c)
taken w (events.App c ask) = asking w c ask (site_of w c)
taken w (events.Deliver k) = receiving_of w (message_of w k)
taken w (events.Report k ok) = told_of (ev.with_disks (ev.disks_after w.disks (disks.done w.disks k ok)) w) k ok (issued_of w k)
taken w e = None

-- the step that it takes then, and the associations after its losses
abbrev pub now_at : Taking → Stamp
now_at x = clock_of x.world (nodes.Client x.client)

-- the step
abbrev pub turn_of : Taking → ClientTurn
turn_of x = cl.client_step x.site.node.state (now_at x) x.input

-- What is owed of it: of the client after its losses, under the lives after its step.
abbrev pub OwedOf : Taking → Type 0
OwedOf x = AllOwed x.client (life_with (turn_of x).state) x.world.log x.input (cl.losses (client_turn x.site.node.state []) (now_at x)).state.associations

-- an entry that is pending, of the life of one of these associations
pub record OwnEntry (c : ClientId) (xs : List Association) (e : LogEntry) : Type 0 where
  pub association : Association
  pub listed : Has association xs
  pub own : is_of_life c association.server association.life e.of ≡ true
  pub pending : is_pending e.fate ≡ true

-- entries of which each is one
abbrev pub AllOwn : ClientId → List Association → List LogEntry → Type 0
AllOwn c xs [] = Unit {0}
AllOwn c xs (e ∷ es) = record { one : OwnEntry c xs e; rest : AllOwn c xs es }

-- What it leaves: the copies hold for the log of the world left, each output is right by the log at it, and that log is the one before with what the outputs
-- log: pending entries of the lives after the step.
pub record WorldKeeps (asked_as : ℕ → Option Ask) (c : ClientId) (es fs : List LogEntry) (t : ClientTurn) : Type 0 where
  pub stands : ClientStands asked_as c fs t.state
  pub right : Right asked_as c (life_with t.state) es t.out
  pub log : fs ≡ logged c (life_with t.state) t.out es
  pub more : List LogEntry
  pub joined : fs ≡ es ++ more
  pub own : AllOwn c t.state.associations more

-- An event at which a client that runs takes an input keeps its copies, under what other laws owe of it.
abbrev pub EventsKeepCopies : Type 0
EventsKeepCopies =
    (asked_as : ℕ → Option Ask) (w : World) (e : Event) (sc : WorldTurn) (x : Taking) → ev.world_step w e ≡ Ok sc → taken (ev.counted w) e ≡ Some x →
    x.site.node.running ≡ true → ClientCopies asked_as x.client x.world.log (now_at x) x.site.node.state → Numbered asked_as x.input → OwedOf x →
    WorldKeeps asked_as x.client x.world.log sc.world.log (turn_of x)

-- What joins and changes the log elsewhere.

-- this client has no lock on the file under a lease that is not over
abbrev pub Unheld : FileId → ℕ → ℕ → List Association → Type 0
Unheld f lease now [] = Unit {0}
Unheld f lease now (a ∷ xs) =
    record { one : Lasts lease now a.session → f.server ≡ a.server → (held_in a.session f.ino).mode ≡ 0; rest : Unheld f lease now xs }

-- What holds of a client's copies holds for a log to which an entry of nobody or of another client joins, on a file of which this client has no lock.
abbrev pub EntriesKeepCopies : Type 0
EntriesKeepCopies =
    (asked_as : ℕ → Option Ask) (c : ClientId) (es : List LogEntry) (now : Stamp) (s : ClientState) (e : LogEntry) → is_of_client c e.of ≡ false →
    Unheld e.of.file s.config.lease now.0 s.associations → ClientCopies asked_as c es now s → ClientCopies asked_as c (es ++ e ∷ []) now s

-- And it holds for a log in which what a disk command carries becomes hard.
abbrev pub EffectsKeepCopies : Type 0
EffectsKeepCopies =
    (asked_as : ℕ → Option Ask) (c : ClientId) (es : List LogEntry) (now : Stamp) (s : ClientState) (x : Option Carried) → ClientCopies asked_as c es now s →
    ClientCopies asked_as c (ev.log_hard es x) now s

-- an entry of this owner is of none of the client's present lives whose lease is not over
abbrev pub OfNoPresentLife : ClientId → LogOwner → ℕ → ℕ → List Association → Type 0
OfNoPresentLife c o lease now [] = Unit {0}
OfNoPresentLife c o lease now (a ∷ xs) =
    record { one : Lasts lease now a.session → is_of_life c a.server a.life o ≡ false; rest : OfNoPresentLife c o lease now xs }

-- What is dropped of a log, from a number on, is of none of this client's present lives, on files of which it has no lock: as far as its
-- leases are not over.
abbrev pub DropsUnheld : ClientId → (ℕ → LogOwner → Bool) → ℕ → ℕ → List Association → ℕ → List LogEntry → Type 0
DropsUnheld c picked lease now xs n [] = Unit {0}
DropsUnheld c picked lease now xs n (e ∷ es) =
    record {
      other : picked n e.of ≡ true → is_pending e.fate ≡ true → OfNoPresentLife c e.of lease now xs;
      unheld : picked n e.of ≡ true → is_pending e.fate ≡ true → Unheld e.of.file lease now xs;
      rest : DropsUnheld c picked lease now xs (n + 1) es;
    }

-- It holds for a log of which such entries are dropped.
abbrev pub DropsKeepCopies : Type 0
DropsKeepCopies =
    (asked_as : ℕ → Option Ask) (c : ClientId) (es : List LogEntry) (now : Stamp) (s : ClientState) (picked : ℕ → LogOwner → Bool)
    (cause : FileId → PageNo → Cause) → DropsUnheld c picked s.config.lease now.0 s.associations 1 es → ClientCopies asked_as c es now s →
    ClientCopies asked_as c (log.drop_picked es picked cause) now s

-- What holds of a client that does not run: its servers differ, and no entry of it belongs to a life beyond its association's.
pub record ClientRests (c : ClientId) (es : List LogEntry) (s : ClientState) : Type 0 where
  pub apart : Apart s.associations
  pub lived : AllLived c es s.associations

-- A client that crashes rests, and one that starts has its copies, of which there are none.
abbrev pub RestartsKeepCopies : Type 0
RestartsKeepCopies =
    (asked_as : ℕ → Option Ask) (c : ClientId) (es : List LogEntry) (now : Stamp) (s : ClientState) →
    record {
      crashes : ClientCopies asked_as c es now s → ClientRests c es (cl.crash s);
      starts : ClientRests c es s → ClientStands asked_as c es (cl.start s);
    }

-- What holds of a client that does not run holds for a log that changes elsewhere: entries of others, effects, drops.
pub record RestsOn (c : ClientId) (es : List LogEntry) (s : ClientState) : Type 0 where
  pub entry : (e : LogEntry) → is_of_client c e.of ≡ false → ClientRests c (es ++ e ∷ []) s
  pub effect : (x : Option Carried) → ClientRests c (ev.log_hard es x) s
  pub drop : (picked : ℕ → LogOwner → Bool) (cause : FileId → PageNo → Cause) → ClientRests c (log.drop_picked es picked cause) s

-- A client that does not run goes on to rest.
abbrev pub RestsStay : Type 0
RestsStay = (c : ClientId) (es : List LogEntry) (s : ClientState) → ClientRests c es s → RestsOn c es s

-- What holds after a step holds at each moment, and what holds at a moment holds later, when more leases are over.
abbrev pub ClocksKeepCopies : Type 0
ClocksKeepCopies =
    (asked_as : ℕ → Option Ask) (c : ClientId) (es : List LogEntry) (now : Stamp) (s : ClientState) →
    record {
      behind : ClientStands asked_as c es s → ClientCopies asked_as c es now s;
      later : (then_ : Stamp) → now.0 ≤ then_.0 → ClientCopies asked_as c es now s → ClientCopies asked_as c es then_ s;
    }
