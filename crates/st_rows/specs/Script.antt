-- Scripts: a server is given inputs at moments, and what it says is compared.
use Rattle.std.specs.Prelude.{ℕ, List, [], ◌∷◌, ◌++◌, ⊤}
use Rattle.st_base.specs.declared.config.Config.{Config}
use Rattle.st_messages.specs.declared.output.Output.{Output}
use Rattle.st_rules.specs.declared.input.ServerInput.{ServerInput}
use Rattle.st_rules.specs.Server.{ServerState, ServerTurn, server_step, fresh_server, crash, start}
use Rattle.st_rules.specs.Rules.{rules_open}
use Rattle.st_rows.specs.Words.{stamp}

-- the settings of the rows, without a grain and with one
abbrev pub settings : Config
settings = record { lease = 1000; renew = 500; quiesce = 700; flush = 850; demand = 100; retry = 50; num = 101; den = 100; grain = 0 }

abbrev pub grainy_settings : Config
grainy_settings = record settings { grain = 5 }

-- the only server of a world with one disk of this number of blocks
unfoldable pub server_with : ℕ → ServerState
server_with blocks = fresh_server (record { 0 = 1 }) settings 1 1 blocks

unfoldable pub grainy_server : ServerState
grainy_server = fresh_server (record { 0 = 1 }) grainy_settings 1 1 8

-- what happens to a server: an input at a moment, or a crash and a start
pub data Deed : Type 0 where
  Input : (now : ℕ) (input : ServerInput) → Deed
  Restart : (now : ℕ) → Deed

-- what a server says in a script, in order
abbrev pub and_then : (ServerState → List Output) → ServerTurn → List Output
and_then rest t = t.out ++ rest t.state

unfoldable pub said : List Deed → ServerState → List Output
said [] s = []
said (Input now x ∷ deeds) s = and_then (said deeds) (server_step s (stamp now) x)
said (Restart now ∷ deeds) s = said deeds (start (crash s) (stamp now))

unfoldable pub script_open : ⊤
unfolding rules_open server_with grainy_server said
script_open = tt
