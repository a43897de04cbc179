-- In every run of the third form, a client that left has nothing.
use Rattle.std.specs.Prelude.{◌≡◌, ◌≤◌, ◌⊎◌, ℕ, true, List, [], filter_map, length, map, Some}
use Rattle.std.specs.List.{list_all}
use Rattle.st_base.specs.declared.config.Config.{Config}
use Rattle.st_base.specs.declared.ids.ClientId.{ClientId}
use Rattle.st_base.specs.declared.ids.ServerId.{ServerId}
use Rattle.st_messages.specs.declared.ask.Ask.{Ask}
use Rattle.st_messages.specs.declared.ask.Ask.TheVariants as asks
use Rattle.st_messages.specs.declared.message.Message.{Message}
use Rattle.st_rules.specs.Safety.{ask_in, event_of}
use Rattle.st_rules.specs.ClientState.{Association}
use Rattle.st_rules.specs.Server.{ServerNode}
use Rattle.st_rules.specs.World.{World, WorldClient, node_of, numbered, site_of}
use Rattle.st_lemmas.specs.Lists.{Has}
use Rattle.st_third.specs.declared.beside.Leave.{Leave}
use Rattle.st_third.specs.declared.event.ThirdEvent.{ThirdEvent}
use Rattle.st_third.specs.declared.limits.Limits.{Limits}
use Rattle.st_third.specs.Limits.{IsHead}
use Rattle.st_third.specs.Promises.{Leaver, ThirdPromise, Throughout, WhoLeftHasNothing, has_nothing, left_along, left_from}
use Rattle.st_third.specs.State.{ClientBeside}
use Rattle.st_third.specs.Steps.{ThirdStep, no_file, plain_step, steps, third_traced}
use Rattle.st_third.specs.World.{ThirdWorld, third_world}
use Rattle.st_laws_leaving.specs.Quiet.{IsQuiet, IsSent, IsTo}
use Rattle.st_laws_leaving.specs.Serving.{IsCalm}

-- A client that left: its server, if it is there, is quiet, and got nothing from it of a later epoch.
pub record IsGone (w : World) (l : Leaver) : Type 0 where
  pub low : 1 ≤ l.client.0
  pub few : l.client.0 ≤ 64
  pub quiet : (node : ServerNode) → node_of w l.server ≡ Some node → IsQuiet w l.client l.server node
  pub epochs : (node : ServerNode) → node_of w l.server ≡ Some node → (m : Message) → IsSent w m → IsTo l.client l.server m →
      (IsCalm m.body) ⊎ (m.header.epoch ≤ node.state.stable.epoch.0)

-- A client is there, with this server.
pub record HasHome (w : World) (c : ClientId) (s : ServerId) : Type 0 where
  pub site : WorldClient
  pub there : site_of w c ≡ Some site
  pub association : Association
  pub has : Has association site.node.state.associations
  pub is : association.server.0 ≡ s.0

-- so are these
abbrev pub AllHome : World → List Leaver → Type 0
AllHome w ls = (l : Leaver) → Has l ls → HasHome w l.client l.server

-- so it is with these
abbrev pub AllGone : World → List Leaver → Type 0
AllGone w ls = (l : Leaver) → Has l ls → IsGone w l

-- what a client was asked, in these steps
abbrev pub asks_of : ℕ → List ThirdStep → List Ask
asks_of n xs = filter_map (ask_in (record { 0 = n })) (map event_of (map plain_step xs))

-- The asks of each client are counted, and each pending leave was asked.
pub record AsksKnown (past : List ThirdStep) (w : ThirdWorld) : Type 0 where
  pub count : (n : ℕ) (site : WorldClient) → numbered w.world.clients n ≡ Some site → length (asks_of n past) ≡ site.asks
  pub leaves : (n : ℕ) (b : ClientBeside) → numbered w.besides n ≡ Some b → (l : Leave) → Has l b.leaves →
      numbered (asks_of n past) l.op ≡ Some (asks.Sync (no_file l.server))

-- Who has left has neither row nor wait at its server, after each event.
abbrev pub LeaversHaveNothing : ThirdPromise
LeaversHaveNothing past x = list_all (has_nothing x.after.third.world) (left_along past x (left_from [] [] past) x.seen) ≡ true

-- In every run of the third form
abbrev pub EveryLeaverHasNothing : Type 0
EveryLeaverHasNothing =
    (k : Config) (m : Limits) (clients servers disks blocks : ℕ) (es : List ThirdEvent) → IsHead k m clients servers disks blocks 3 →
    Throughout LeaversHaveNothing [] (steps es (third_traced (third_world k m clients servers disks blocks 3)))

-- In every run of the third form, who left has nothing, and is welcomed at once.
abbrev pub EveryoneWhoLeftHasNothing : Type 0
EveryoneWhoLeftHasNothing =
    (k : Config) (m : Limits) (clients servers disks blocks : ℕ) (es : List ThirdEvent) → IsHead k m clients servers disks blocks 3 →
    Throughout WhoLeftHasNothing [] (steps es (third_traced (third_world k m clients servers disks blocks 3)))
