-- What a step changes in a server's stable part, and the server that tells it.
use Rattle.std.specs.Prelude.{◌≡◌, ◌≢◌, ℕ, ◌+◌, length, true, Option, Some, None, Result, Ok, Err}
use Rattle.st_journal.specs.Changes.{fits}
use Rattle.st_journal.specs.Stable.{apply, HasRoom}
use Rattle.st_journal.specs.declared.change.Change.{Change}
use Rattle.st_journal.specs.declared.change.Change.TheVariants as changes
use Rattle.st_messages.specs.declared.message.Body.{Body}
use Rattle.st_messages.specs.declared.message.Body.TheVariants as bodies
use Rattle.st_messages.specs.declared.message.NameOp.{NameOp}
use Rattle.st_messages.specs.declared.message.NameOp.TheVariants as ops
use Rattle.st_rules.specs.declared.input.ServerInput.{ServerInput}
use Rattle.st_rules.specs.declared.input.ServerInput.TheVariants.{Tick, Control}
use Rattle.st_rules.specs.declared.names.EntryRefusal.{EntryRefusal}
use Rattle.st_rules.specs.Names as names
use Rattle.st_rules.specs.Server.{ServerNode, ServerState, Stable}

-- The change that is asked for: by a request on names,
abbrev pub asked_of_names : NameOp → Option Change
asked_of_names (ops.Create dir n) = Some (changes.Create dir n)
asked_of_names (ops.Mkdir dir n) = Some (changes.Mkdir dir n)
asked_of_names (ops.Remove dir n g) = Some (changes.Remove dir n)
asked_of_names (ops.Rename dir n dir2 n2) = Some (changes.Rename dir n dir2 n2)
asked_of_names op = None

-- by any request,
abbrev pub asked_of : Body → Option Change
asked_of (bodies.Allocate ino g page count) = Some (changes.Allocate ino page count)
asked_of (bodies.Cut ino g from) = Some (changes.Cut ino from)
asked_of (bodies.Name op) = asked_of_names op
asked_of body = None

-- and by an input
abbrev pub asked : ServerInput → Option Change
asked Tick = None
asked (Control m) = asked_of m.body

-- This change was made: the stable part before has room for it, it is not refused there, and it gives the one after, which is
-- another one. Its fields are in their ranges.
pub record IsMade (old new : Stable) (x : Change) : Type 0 where
  pub applied : apply old x ≡ Ok new
  pub other : new ≢ old
  pub ranges : fits x ≡ true
  pub room : HasRoom old x

-- What is reported about a stable part before and after: the one change that was made, or none if it is as it was.
abbrev pub Tells : Stable → Stable → Option Change → Type 0
Tells old new None = new ≡ old
Tells old new (Some x) = IsMade old new x

-- what is reported is what the input asked for
abbrev pub IsAsked : ServerInput → Option Change → Type 0
IsAsked input None = Unit {0}
IsAsked input (Some x) = asked input ≡ Some x

-- A durable server: its node, and the change that its last step or start made.
pub record DurableServer : Type 0 where
  pub node : ServerNode
  pub changed : Option Change

-- the extents are those of this server
abbrev pub IsOwn : ServerState → Type 0
IsOwn s = s.stable.extents.server ≡ s.id

-- a name that is found counts 1
abbrev pub found_mark : Result ℕ EntryRefusal → ℕ
found_mark (Ok ino) = 1
found_mark (Err r) = 0

-- a number that stays the same exactly if the change leaves the stable part as it was
abbrev pub mark : Stable → Change → ℕ
mark t changes.Epoch = t.epoch.0
mark t (changes.Allocate ino page count) = t.extents.births + 1
mark t (changes.Cut ino from) = length t.extents.rows
mark t (changes.Create dir n) = t.names.next
mark t (changes.Mkdir dir n) = t.names.next
mark t (changes.Remove dir n) = found_mark (names.lookup t.names dir n)
mark t (changes.Rename dir n dir2 n2) = found_mark (names.lookup t.names dir n)
