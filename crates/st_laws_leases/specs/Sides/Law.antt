-- The fold over events: the invariant of a server and all its clients holds again after each event of a client, and everything holds in every run.
use Rattle.std.specs.Prelude.{◌≡◌, ◌+◌, Bool, true, ℕ, List, [], Some, Ok}
use Rattle.std.specs.List.{list_all}
use Rattle.st_base.specs.declared.config.Config as base
use Rattle.st_base.specs.declared.ids.NodeId.{NodeId}
use Rattle.st_base.specs.declared.ids.NodeId.TheVariants as nodes
use Rattle.st_messages.specs.declared.ask.Ask.{Ask}
use Rattle.st_messages.specs.declared.event.Event.{Event}
use Rattle.st_messages.specs.declared.event.Event.TheVariants as events
use Rattle.st_rules.specs.declared.world.SentMessage.{SentMessage}
use Rattle.st_rules.specs.Keys.{client}
use Rattle.st_rules.specs.Server.{ServerNode}
use Rattle.st_rules.specs.World.{World, fresh_world, message_of, receiver_of}
use Rattle.st_rules.specs.Events.{WorldTurn, world_step}
use Rattle.st_rules.specs.History.{traced}
use Rattle.st_rules.specs.Safety.{IsHead, Promise, Throughout, is_event, steps}
use Rattle.st_protocol.specs.Assoc.{Config}
use Rattle.st_laws_refine.specs.Server.Pair.{terms_of}
use Rattle.st_laws_refine.specs.Views.Halves.{Ghost}
use Rattle.st_laws_leases.specs.Sides.Invariants.{Both, BothAfter, GrantsHaveModes}
use Rattle.st_laws_leases.specs.Sides.World.{AllStand}

-- an event of a client, or one that no node takes part in
pub data ClientEvent (w : World) (e : Event) : Type 0 where
  ByTick : (c : ℕ) → e ≡ events.Tick (nodes.Client (client c)) → ClientEvent w e
  ByAsk : (c : ℕ) (ask : Ask) → e ≡ events.App (client c) ask → ClientEvent w e
  ByMessage : (c n : ℕ) (m : SentMessage) → e ≡ events.Deliver n → message_of w n ≡ Some m → receiver_of m ≡ nodes.Client (client c) → ClientEvent w e
  ByReport : (n : ℕ) (ok : Bool) → e ≡ events.Report n ok → ClientEvent w e
  ByCrash : (c : ℕ) → e ≡ events.Crash (nodes.Client (client c)) → ClientEvent w e
  ByStart : (c : ℕ) → e ≡ events.Start (nodes.Client (client c)) → ClientEvent w e
  ByLoss : (n : ℕ) → e ≡ events.Lose n → ClientEvent w e
  ByCut : (a b : NodeId) → e ≡ events.Cut a b → ClientEvent w e
  ByHeal : (a b : NodeId) → e ≡ events.Heal a b → ClientEvent w e
  ByEffect : (n : ℕ) → e ≡ events.Effect n → ClientEvent w e

-- After each of these events the invariant of a server and all its clients holds again.
abbrev pub ClientEventsKeep : Type 0
ClientEventsKeep =
    (k : Config) (s : ℕ) (w : World) (node : ServerNode) (ended : ℕ → ℕ → ℕ) (G : ℕ → Ghost) (e : Event) (sc : WorldTurn) →
    Both k s w node ended G → GrantsHaveModes w → ClientEvent w e → world_step w e ≡ Ok sc → BothAfter k s w sc.world node G

-- Everything holds after every event of every run from the world of a head.
abbrev pub RunsStand : Type 0
RunsStand =
    (k : base.Config) (clients servers disks blocks form : ℕ) (es : List Event) → IsHead k clients servers disks blocks form →
    list_all (is_event (clients + servers)) es ≡ true →
    Throughout (λ past x. AllStand (terms_of k) (clients + servers) x.after.world) [] (steps es (traced (fresh_world k clients servers disks blocks form)))

-- A promise is kept at every step of every run from the world of a head, over events in their ranges.
abbrev pub InEveryRun : Promise → Type 0
InEveryRun promise =
    (k : base.Config) (clients servers disks blocks form : ℕ) (es : List Event) → IsHead k clients servers disks blocks form →
    list_all (is_event (clients + servers)) es ≡ true →
    Throughout promise [] (steps es (traced (fresh_world k clients servers disks blocks form)))
