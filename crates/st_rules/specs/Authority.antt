-- Suspicion: the clients whose timer runs, in rising order. Nothing is kept for a client that answers.
use Rattle.std.specs.Prelude.{ℕ, ◌+◌, Bool, not, nat_lt, nat_le, if◌then◌else◌, List, [], ◌∷◌, find, filter, map, Option, is_some, option_map, ⊤}
use Rattle.st_base.specs.declared.ids.ClientId.{ClientId}
use Rattle.st_base.specs.declared.ids.Stamp.{Stamp}
use Rattle.st_base.specs.declared.config.Config.{Config}
use Rattle.st_rules.specs.declared.authority.Suspect.{Suspect}
use Rattle.st_rules.specs.Keys.{same_client}
use Rattle.st_rules.specs.Leases.{steal_wait, leases_open}

-- the steal wait, and the clients whose timer runs
pub record Authority : Type 0 where
  pub wait : ℕ
  pub suspects : List Suspect

-- no timer runs
abbrev pub no_suspects : Config → Authority
no_suspects k = record { wait = steal_wait k; suspects = [] }

-- Look-ups.

-- the client's timer
abbrev pub is_suspect : ClientId → Suspect → Bool
is_suspect c s = same_client s.client c

-- a client's timer, if it runs
abbrev pub suspect_of : Authority → ClientId → Option Suspect
suspect_of a c = find (is_suspect c) a.suspects

-- when a timer began
abbrev pub start_of : Suspect → Stamp
start_of s = s.start

-- since when the client's timer runs
abbrev pub started : Authority → ClientId → Option Stamp
started a c = option_map start_of (suspect_of a c)

-- a server acknowledges nothing from a client whose timer runs
abbrev pub may_ack : Authority → ClientId → Bool
may_ack a c = not (is_some (suspect_of a c))

-- whose timer it is
abbrev pub client_of_suspect : Suspect → ClientId
client_of_suspect s = s.client

-- the clients whose timer runs
abbrev pub suspects_of : Authority → List ClientId
suspects_of a = map client_of_suspect a.suspects

-- Suspicion: the client's timer starts now; a timer that runs keeps its start.
unfoldable pub suspect_placed : Suspect → Suspect → List Suspect → List Suspect → List Suspect
suspect_placed s x xs rest = if nat_lt s.client.0 x.client.0 then s ∷ (x ∷ xs) else x ∷ rest

-- the suspects with one more
unfoldable pub with_suspect : Suspect → List Suspect → List Suspect
with_suspect s [] = s ∷ []
with_suspect s (x ∷ xs) = suspect_placed s x xs (with_suspect s xs)

-- a timer that begins now
abbrev pub new_suspect : ClientId → Stamp → Suspect
new_suspect c now = record { client = c; start = now }

-- with a new timer of this client
unfoldable pub start_timer : Authority → ClientId → Stamp → Authority
start_timer a c now = record a { suspects = with_suspect (new_suspect c now) a.suspects }

-- Suspicion: a timer that runs keeps its start
unfoldable pub suspect : Authority → ClientId → Stamp → Authority
suspect a c now = if may_ack a c then start_timer a c now else a

-- Theft, the timers that are over: from start + the steal wait on. They are taken out, in rising order of clients.
abbrev pub is_over : ℕ → Stamp → Suspect → Bool
is_over wait now s = nat_le (s.start.0 + wait) now.0

-- the clients whose timers are over
unfoldable pub over : Authority → Stamp → List ClientId
over a now = map client_of_suspect (filter (is_over a.wait now) a.suspects)

-- the timers that are not over
unfoldable pub still_running : Authority → Stamp → Authority
still_running a now = record a { suspects = filter (λ s. not (is_over a.wait now s)) a.suspects }

-- opens all of this file
unfoldable pub authority_open : ⊤
unfolding leases_open suspect_placed with_suspect start_timer suspect over still_running
authority_open = tt
