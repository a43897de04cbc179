-- What a step does to the part of a server that a crash keeps: nothing, or what one request asked for.
use Rattle.st_base.specs.declared.ids.Stamp.{Stamp}
use Rattle.st_messages.specs.declared.message.Body.{Body}
use Rattle.st_messages.specs.declared.message.Message.{Message}
use Rattle.st_rules.specs.declared.input.ServerInput.{ServerInput}
use Rattle.st_rules.specs.Server.{ServerState, ServerTurn, Stable}
use Rattle.st_trace.specs.Server.Edits.{Served, Ruled}

-- the stable part stays, or is what the rule of a served request made of it
pub data StableChange (n : ServerState) (now : Stamp) (i : ServerInput) : Stable → Type 0 where
  Stays : StableChange n now i n.stable
  Changes : (m : Message) (t u : ServerTurn) (b : Body) → Served n now i t m → Ruled now t m.header m.body u b → StableChange n now i u.state.stable
