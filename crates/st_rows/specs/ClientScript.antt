-- Scripts: a client is given inputs at moments, and what it says is compared.
use Rattle.std.specs.Prelude.{ℕ, List, [], ◌∷◌, ◌++◌, ⊤}
use Rattle.st_messages.specs.declared.output.Output.{Output}
use Rattle.st_rules.specs.declared.client.ClientInput.{ClientInput}
use Rattle.st_rules.specs.ClientState.{ClientState, ClientTurn}
use Rattle.st_rules.specs.Client.{client_step, fresh_client, crash, start, client_open}
use Rattle.st_rows.specs.Script.{settings}
use Rattle.st_rows.specs.Words.{c, stamp}

-- the first client of a world with this number of servers
unfoldable pub client_of : ℕ → ClientState
client_of servers = fresh_client (c 1) settings servers

-- what happens to a client: an input at a moment, or a crash and a start
pub data Deed : Type 0 where
  Given : (now : ℕ) (input : ClientInput) → Deed
  Restarted : Deed

-- what a client says in a script, in order
abbrev pub and_then : (ClientState → List Output) → ClientTurn → List Output
and_then rest t = t.out ++ rest t.state

unfoldable pub said : List Deed → ClientState → List Output
said [] s = []
said (Given now x ∷ deeds) s = and_then (said deeds) (client_step s (stamp now) x)
said (Restarted ∷ deeds) s = said deeds (start (crash s))

-- the state in which a script leaves a client
abbrev pub state_of : ClientTurn → ClientState
state_of t = t.state

unfoldable pub left : List Deed → ClientState → ClientState
left [] s = s
left (Given now x ∷ deeds) s = left deeds (state_of (client_step s (stamp now) x))
left (Restarted ∷ deeds) s = left deeds (start (crash s))

unfoldable pub client_script_open : ⊤
unfolding client_open client_of said left
client_script_open = tt
