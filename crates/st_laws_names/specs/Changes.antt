-- Asks change names once: by which ask of which client an event changed the names of a server, and that no ask does so twice.
use Rattle.std.specs.Prelude.{◌≡◌, ℕ, true, false, List, Some}
use Rattle.std.specs.List.{list_any}
use Rattle.std.proofs.Common.{◌⊎◌}
use Rattle.st_base.specs.declared.ids.ClientId.{ClientId}
use Rattle.st_base.specs.declared.ids.ServerId.{ServerId}
use Rattle.st_base.specs.declared.names.NameAsk.{NameAsk}
use Rattle.st_messages.specs.declared.ask.Ask.TheVariants as asks
use Rattle.st_messages.specs.declared.message.Message.{Message}
use Rattle.st_rules.specs.Safety.{Step}
use Rattle.st_rules.specs.Server.{ServerNode}
use Rattle.st_rules.specs.World.{World, node_of, numbered}
use Rattle.st_lemmas.specs.Lists.{Has}
use Rattle.st_laws_leases.specs.Dates.Dates.{messages}
use Rattle.st_laws_requests.specs.Cuts.Cuts.{asks_of}
use Rattle.st_promises.specs.CutAsks.{settles_in}
use Rattle.st_promises.specs.NameAnswers.{becomes_at, changes_in}
use Rattle.st_laws_cuts.specs.EndedRequests.{AllPast}
use Rattle.st_laws_cuts.specs.ServedRequests.{NamesBy}
use Rattle.st_laws_names.specs.OutstandingKeys.{WaitsUnder}

-- a world after one of these steps, or before this one
abbrev pub IsBefore : List Step → Step → World → Type 0
IsBefore past y v = ((z : Step) × Has z past × (v ≡ z.after.world)) ⊎ (v ≡ y.before.world)

-- In the event of a step, the names of a server became what a request of a client asks: the server would serve it next before the event, and no longer serves
-- it after it; and the operation of this number waited under the key of the request, which is a life, an epoch and a number.
pub record ChangedBy (past : List Step) (y : Step) (s : ServerId) (c : ClientId) (op : ℕ) : Type 0 where
  pub old : ServerNode
  pub was : node_of y.before.world s ≡ Some old
  pub running : old.running ≡ true
  pub new : ServerNode
  pub became : node_of y.after.world s ≡ Some new
  pub message : Message
  pub among : Has message (messages y.before.world)
  pub from : message.header.from ≡ c.0
  pub by : NamesBy old.state message new.state.stable.names
  pub gone : AllPast y.after.world c s message
  pub before : World
  pub is_before : IsBefore past y before
  pub waits : WaitsUnder before c s message.header.life message.header.epoch message.header.number op

-- An ask did so: it was asked before and not settled, and the names became what it makes of them.
pub record AskChanges (past : List Step) (x : Step) (s : ServerId) : Type 0 where
  pub c : ClientId
  pub op : ℕ
  pub ask : NameAsk
  pub changed : ChangedBy past x s c op
  pub asked : numbered (asks_of past c) op ≡ Some (asks.Name s ask)
  pub becomes : becomes_at ask (node_of x.before.world s) (node_of x.after.world s) ≡ true
  pub unsettled : list_any (settles_in c op) past ≡ false

-- Asks change names once: each event that changed the names of a server has an ask that did so, and no ask did so at two events.
pub record AsksChangeOnce (past : List Step) (x : Step) : Type 0 where
  pub each : (s : ServerId) → changes_in s x ≡ true → AskChanges past x s
  pub once : (y : Step) → Has y past → (s u : ServerId) (c : ClientId) (op : ℕ) → ChangedBy past y s c op → ChangedBy past x u c op → ⊥
