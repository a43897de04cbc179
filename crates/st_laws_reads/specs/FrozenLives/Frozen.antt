-- A life that a crash ended, as the machine of its server would have it if the client had taken no step since.
use Rattle.std.specs.Prelude.{◌≡◌, ◌≢◌, ◌⊎◌, ℕ, ◌+◌, ◌<◌, ◌≤◌, Bool, true, false, List}
use Rattle.st_protocol.specs.Assoc as net
use Rattle.st_laws_refine.specs.Server.Paths.{Path}
use Rattle.st_protocol.specs.Assoc.{Alive, Config, ConfigOk, Assoc, Body, Client, Msg, In, Reached, next_life, upd}
use Rattle.st_protocol.specs.Assoc.{Hello, Plain, Released, Reassert, Welcome, Ack, Reasserted, Granted, Demand, OfOtherEpoch}

-- what is said before a session begins
abbrev pub is_bare : Body → Bool
is_bare Hello = true
is_bare Plain = false
is_bare (Released ino g to) = false
is_bare (Reassert locks) = false
is_bare Welcome = false
is_bare Ack = false
is_bare Reasserted = false
is_bare (Granted ino g mode) = false
is_bare (Demand ino g to) = false
is_bare OfOtherEpoch = true

-- the association of a client's half that is frozen, at the present clocks and with the server as it is
abbrev pub stood : Client → ℕ → List Msg → Assoc → Assoc
stood C y N a = record { c = record C { clock = a.c.clock }; s = record a.s { glife = y }; net = N }

-- Messages up to a life, which are among others; and bare ones of later lives.
abbrev pub Split : ℕ → List Msg → List Msg → Type 0
Split l N M = (m : Msg) → In m M → ((m.life ≤ l) × In m N) ⊎ ((l < m.life) × (is_bare m.body ≡ true))

-- An association whose client is in a later life, to which the server has given nothing.
pub record Unserved (l : ℕ) (N : List Msg) (a : Assoc) : Type 0 where
  pub later : l < a.c.life
  pub unleased : a.c.leased ≡ false
  pub served : a.s.session ≤ l
  pub messages : Split l N a.net

-- a world of the machine with another association at one place
abbrev pub replaced : net.World → ℕ → Assoc → net.World
replaced W c a = record { at = upd W.at c a }

-- The client's half of the life is frozen beside the client's later lives: the machine can be in that state, too.
pub record FrozenLife (k : Config) (c l : ℕ) (C : Client) (W : net.World) : Type 0 where
  pub begun : ℕ
  pub messages : List Msg
  pub unserved : Unserved l messages (W.at c)
  pub reached : Reached k (replaced W c (stood C begun messages (W.at c)))

-- a crash of one client
pub record Crashed (k : Config) (c : ℕ) (A B : net.World) : Type 0 where
  pub own : B.at c ≡ net.client (next_life k (A.at c).c) (A.at c)
  pub others : (d : ℕ) → d ≢ c → B.at d ≡ A.at d

-- the lease of the life is over
abbrev pub IsOver : Config → Client → Assoc → Type 0
IsOver k C a = C.date + k.lease ≤ a.c.clock

-- a half of a client that has a lease, with a lock on a file
pub record LockedHalf (C : Client) (i : ℕ) : Type 0 where
  pub leased : C.leased ≡ true
  pub exclusive : 2 ≤ (C.held i).mode

-- A path leaves the life standing still, up to its lease end.
abbrev pub PathsKeepLives : Type 0
PathsKeepLives =
    (k : Config) (c i : ℕ) (C : Client) (W V : net.World) → ConfigOk k → LockedHalf C i → Path k W V →
    IsOver k C (W.at c) ⊎ FrozenLife k c C.life C W → IsOver k C (V.at c) ⊎ FrozenLife k c C.life C V

-- A crash leaves the client's half standing still.
abbrev pub CrashesLeaveLives : Type 0
CrashesLeaveLives =
    (k : Config) (c : ℕ) (A B : net.World) → ConfigOk k → Reached k A → Crashed k c A B → FrozenLife k c (A.at c).c.life (A.at c).c B

-- Beside a life that is frozen with an exclusive lock on a file, no client has a lock on it under a lease that lasts, the client's later lives included.
abbrev pub LivesStandAlone : Type 0
LivesStandAlone =
    (k : Config) (c i d : ℕ) (C : Client) (W : net.World) → ConfigOk k → LockedHalf C i → (W.at c).c.clock < C.date + k.lease →
    FrozenLife k c C.life C W → Alive k (W.at d).c → ((W.at d).c.held i).mode ≡ 0
