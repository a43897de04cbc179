-- What an input does of a client's turn: nothing, an answer at once, or one rule at each of its servers.
use Rattle.std.specs.Prelude.{◌≡◌, ℕ, true, false, ◌==◌, List, Option}
use Rattle.st_base.specs.declared.disk.Tag.{Tag}
use Rattle.st_base.specs.declared.ids.Stamp.{Stamp}
use Rattle.st_messages.specs.declared.answer.AppAnswer.TheVariants as answers
use Rattle.st_messages.specs.declared.ask.Ask.{Ask}
use Rattle.st_messages.specs.declared.message.Message.{Message}
use Rattle.st_rules.specs.declared.client.ClientInput.{ClientInput}
use Rattle.st_rules.specs.declared.client.ClientInput.TheVariants as inputs
use Rattle.st_rules.specs.Client as cl
use Rattle.st_rules.specs.ClientReplies as cr
use Rattle.st_rules.specs.ClientState.{Association, ClientTurn, at_each, only_at, server_of}
use Rattle.st_lemmas.specs.Lists.{Has}

-- a fact of each association
abbrev pub Each : (Association → Type 0) → List Association → Type 0
Each P xs = (a : Association) → Has a xs → P a

pub data Taken (t : ClientTurn) (now : Stamp) : ClientInput → ClientTurn → Type 0 where
  -- nothing: at a tick, or with a message to another client
  Nothing : (i : ClientInput) → Taken t now i t
  -- an ask is answered at once: too many operations are pending, or there is no such server
  Full : (op : ℕ) (ask : Ask) → cl.is_full t.state ≡ true → Taken t now (inputs.App op ask) (cl.answered_at_once t op answers.OpsFull)
  Unknown : (op : ℕ) (ask : Ask) → cl.is_full t.state ≡ false → cl.is_configured t.state (server_of ask) ≡ false →
      Taken t now (inputs.App op ask) (cl.answered_at_once t op answers.NoFile)
  -- an ask is taken at its server
  Takes : (op : ℕ) (ask : Ask) → cl.is_full t.state ≡ false → cl.is_configured t.state (server_of ask) ≡ true →
      Taken t now (inputs.App op ask) (at_each (only_at (server_of ask) (cl.take_ask op ask)) t)
  -- a message is received
  Receives : (m : Message) → (m.header.to == t.state.id.0) ≡ true → Taken t now (inputs.Control m) (at_each (cr.receive_at now m.header m.body) t)
  -- the end of a command is reported
  Finishes : (number : ℕ) (result : Option (Option (Tag × List ℕ))) → Taken t now (inputs.Done number result) (at_each (cl.finish number result) t)
