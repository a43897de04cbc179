-- What holds of a server while one wait is the first of its file, from one moment on, and no client answers for the file.
use Rattle.std.specs.Prelude.{◌≡◌, ◌≢◌, ◌≤◌, ◌<◌, ◌+◌, ◌*◌, ◌⊎◌, ◌&&◌, ◌==◌, ℕ, Bool, true, false, find, Option, Some, None}
use Rattle.st_base.specs.declared.config.Config.{Config}
use Rattle.st_base.specs.declared.ids.ClientId.{ClientId}
use Rattle.st_base.specs.declared.ids.GrantNo.{GrantNo}
use Rattle.st_base.specs.declared.ids.Stamp.{Stamp}
use Rattle.st_base.specs.Mode.{conflicts}
use Rattle.st_messages.specs.declared.message.Body.{Body}
use Rattle.st_messages.specs.declared.message.Body.TheVariants as bodies
use Rattle.st_rules.specs.declared.authority.Suspect.{Suspect}
use Rattle.st_rules.specs.declared.input.ServerInput.{ServerInput}
use Rattle.st_rules.specs.declared.input.ServerInput.TheVariants.{Tick, Control}
use Rattle.st_rules.specs.declared.locks.LockRow.{LockRow}
use Rattle.st_rules.specs.declared.locks.RowDemand.{RowDemand}
use Rattle.st_rules.specs.declared.locks.Waiter.{Waiter}
use Rattle.st_rules.specs.Authority.{Authority, may_ack, suspect_of}
use Rattle.st_rules.specs.Locks.{Locks, is_wait_on}
use Rattle.st_lemmas.specs.Lists.{Has}

-- an answer to a demand on this file, under this grant number: it was seen, or the lock is released
abbrev pub answers_for : ℕ → GrantNo → Body → Bool
answers_for ino g (bodies.DemandSeen i h) = (i == ino) && (h.0 == g.0)
answers_for ino g (bodies.Released i h to) = (i == ino) && (h.0 == g.0)
answers_for ino g b = false

-- the input isn't an answer of this client for this file, under this grant number
abbrev pub Silent : ServerInput → ℕ → GrantNo → ClientId → Type 0
Silent Tick ino g c = Unit {0}
Silent (Control m) ino g c = m.header.from ≡ c.0 → answers_for ino g m.body ≡ true → ⊥

-- A demand since a moment: answered, it was sent before the moment, and it is not old; otherwise it has waited for less than a retry and a gap.
abbrev pub ChasedSince : ℕ → Config → ℕ → ℕ → ℕ → Option Stamp → Type 0
ChasedSince from k gap last sent None = (sent ≤ from) × (last < from + k.retry)
ChasedSince from k gap last sent (Some t) = t.0 < from + k.retry + gap

-- of a row, which is demanded
abbrev pub ChasedDemand : ℕ → Config → ℕ → ℕ → Option RowDemand → Type 0
ChasedDemand from k gap last None = ⊥
ChasedDemand from k gap last (Some d) = ChasedSince from k gap last d.sent.0 d.since

-- of a row whose client is a suspect, or not
abbrev pub ChasedBy : ℕ → Config → ℕ → ℕ → Option RowDemand → Option Suspect → Type 0
ChasedBy from k gap last d None = ChasedDemand from k gap last d
ChasedBy from k gap last d (Some x) = x.start.0 + 1 < from + k.retry + k.demand + 2 * gap

-- A demand that was sent less than a retry before the last tick, or the last tick came before the moment.
abbrev pub Repeated : ℕ → Config → ℕ → Option RowDemand → Type 0
Repeated from k last None = Unit {0}
Repeated from k last (Some d) = (last < d.sent.0 + k.retry) ⊎ (last ≤ from)

-- a row that is in the way of the wait
abbrev pub ChasedRow : ℕ → Config → ℕ → ℕ → Waiter → Authority → LockRow → Type 0
ChasedRow from k gap last w a r = conflicts r.mode w.mode ≡ true → ChasedBy from k gap last r.demand (suspect_of a r.client)

-- a row that is in the way of the wait, of a client that isn't a suspect
abbrev pub RepeatedRow : ℕ → Config → ℕ → Waiter → Authority → LockRow → Type 0
RepeatedRow from k last w a r = conflicts r.mode w.mode ≡ true → may_ack a r.client ≡ true → Repeated from k last r.demand

-- each row of another client on the wait's file
abbrev pub Others : Waiter → (LockRow → Type 0) → Locks → Type 0
Others w P l = (r : LockRow) → Has r l.rows → r.ino ≡ w.ino → r.client.0 ≢ w.client.0 → P r

-- the wait is the first of its file
abbrev pub IsFirst : Waiter → Locks → Type 0
IsFirst w l = find (is_wait_on w.ino) l.waiters ≡ Some w
