-- A server's journal while it is kept, and what a crash may leave of it.
use Rattle.std.specs.Prelude.{◌≡◌, ◌⊎◌, ◌≤◌, ◌<◌, ◌+◌, ℕ, List, [], ◌∷◌, ◌++◌, length, Option, Some, None}
use Rattle.st_base.specs.declared.config.Config.{Config}
use Rattle.st_base.specs.declared.ids.ServerId.{ServerId}
use Rattle.st_base.specs.declared.ids.Stamp.{Stamp}
use Rattle.st_durable.specs.Durable.{Tells}
use Rattle.st_journal.specs.Journal.{StandsFor, all_opened, framed}
use Rattle.st_journal.specs.Appends.{IsTornAppend, with_open_gate}
use Rattle.st_journal.specs.declared.change.Change.{Change}
use Rattle.st_journal.specs.declared.change.Change.TheVariants.{Epoch}
use Rattle.st_rules.specs.Server.{Stable}
use Rattle.st_embed.specs.Servers.{EmbeddedServer, NotOpened, Opens, begun, node_of, stable_now, start_of, to_keep}
use Rattle.st_embed.specs.declared.fault.ServerFault.{ServerFault}
use Rattle.st_embed.specs.declared.fault.ServerFault.TheVariants as opening
use Rattle.st_embed.specs.declared.server.Shape.{Shape}

-- an epoch was begun, or nothing is kept yet and the change that begins the first epoch must be
abbrev pub IsBegun : List Change → Stable → Option Change → Type 0
IsBegun changes stable unkept = ((changes ≡ []) × (unkept ≡ Some Epoch)) ⊎ (1 ≤ stable.epoch.0)

-- The bytes are the journal of a server: they stand for its stable part, before the change that must still be kept if there is one, for which there is room.
pub record IsKeptIn (id : ServerId) (w : Shape) (bytes : List ℕ) (e : EmbeddedServer) : Type 0 where
  pub changes : List Change
  pub stable : Stable
  pub stands : StandsFor (start_of id w) bytes changes stable
  pub told : Tells stable (stable_now e) (to_keep e)
  pub epoch : IsBegun changes stable (to_keep e)
  pub gate : e.gate ≡ length (all_opened changes)
  pub size : e.size ≡ length bytes
  pub room : (x : Change) → to_keep e ≡ Some x → e.gate + 1 + length (framed x ++ 0 ∷ []) ≤ length bytes

-- the bytes with the change that must still be kept
abbrev pub written_by : Option Change → ℕ → List ℕ → List ℕ
written_by None gate bytes = bytes
written_by (Some x) gate bytes = with_open_gate bytes gate (framed x ++ 0 ∷ [])

-- what a crash may leave: the bytes; and while a change must still be kept, at any moment of its writing
abbrev pub MayBeLeft : Option Change → ℕ → List ℕ → List ℕ → Type 0
MayBeLeft None gate bytes left = left ≡ bytes
MayBeLeft (Some x) gate bytes left = (left ≡ bytes) ⊎ ((left ≡ with_open_gate bytes gate (framed x ++ 0 ∷ [])) ⊎ IsTornAppend bytes gate (framed x ++ 0 ∷ []) left)

-- The stable part is the one that the bytes stand for, before the change that must be kept, or the present one, after it. No frame mentions a change that must
-- still be kept.
abbrev pub IsLeftOf : Stable → Stable → Option Change → Stable → Type 0
IsLeftOf before now None s = s ≡ now
IsLeftOf before now (Some x) s = (s ≡ before) ⊎ (s ≡ now)

-- Why a server may not be opened on bytes that are not at fault: its settings, its shape, the time or the memory; or the journal was as long as this before the
-- crash, is full, or has begun the last epoch.
abbrev pub IsElsewhere : List ℕ → ServerFault → Type 0
IsElsewhere bytes (opening.Damaged at) = ⊥
IsElsewhere bytes opening.NoEpoch = ⊥
IsElsewhere bytes opening.Size = 4294967295 < length bytes
IsElsewhere bytes f = Unit {0}

-- The bytes that were left can be opened: they stand for a stable part, and no opening finds fault with them. The server opened on them is one that crashed
-- with that stable part, for which these bytes hold, and is started; or, if no change was ever kept, one that was never started.
pub record CanBeOpened (id : ServerId) (w : Shape) (bytes left : List ℕ) (e : EmbeddedServer) : Type 0 where
  pub before : Stable
  pub stood : (changes : List Change) × StandsFor (start_of id w) bytes changes before
  pub changes : List Change
  pub stable : Stable
  pub stands : StandsFor (start_of id w) left changes stable
  pub is : IsLeftOf before (stable_now e) (to_keep e) stable
  pub refused : (k : Config) (now : Stamp) (f : ServerFault) → NotOpened id k w now left f → IsElsewhere bytes f
  pub node : (k : Config) (now : Stamp) (again : EmbeddedServer) → Opens id k w now left again → node_of again ≡ begun id k w now (length changes) stable
