-- What a step of a client discards if the lease of a server is over when it begins.
use Rattle.std.specs.Prelude.{◌≡◌, ℕ, Bool, true, false, ◌&&◌, ◌||◌, not, ◌==◌, List, [], ◌∷◌, ◌++◌, Option, Some, None}
use Rattle.std.specs.List.{list_all, list_any}
use Rattle.st_base.specs.declared.config.Config.{Config}
use Rattle.st_base.specs.declared.disk.BlockAt.{BlockAt}
use Rattle.st_base.specs.declared.disk.Command.{Command}
use Rattle.st_base.specs.declared.disk.Command.TheVariants as commands
use Rattle.st_base.specs.declared.ids.ServerId.{ServerId}
use Rattle.st_base.specs.declared.ids.Stamp.{Stamp}
use Rattle.st_base.specs.declared.rows.ExtentRow.{ExtentRow}
use Rattle.st_messages.specs.declared.answer.AppAnswer.{AppAnswer}
use Rattle.st_messages.specs.declared.answer.AppAnswer.TheVariants as answers
use Rattle.st_messages.specs.declared.message.Body.{Body}
use Rattle.st_messages.specs.declared.message.Body.TheVariants as bodies
use Rattle.st_messages.specs.declared.output.Output.{Output}
use Rattle.st_messages.specs.declared.output.Output.TheVariants as outputs
use Rattle.st_rules.specs.declared.client.ClientInput.{ClientInput}
use Rattle.st_rules.specs.declared.client.ClientInput.TheVariants.{App, Control}
use Rattle.st_rules.specs.declared.client.KnownExtent.{KnownExtent}
use Rattle.st_rules.specs.declared.client.MappedBlock.{MappedBlock}
use Rattle.st_rules.specs.declared.client.Operation.{Operation}
use Rattle.st_rules.specs.Client.{association_with, next_life}
use Rattle.st_rules.specs.ClientLease.{must_discard, standing_of}
use Rattle.st_rules.specs.ClientPages.{empty_store}
use Rattle.st_rules.specs.ClientState.{Association, ClientSession, ClientState, is_at, is_of, new_operation}
use Rattle.st_rules.specs.Keys.{same_block, same_server, server_node}

-- The lease of a server is over.

-- a session's lease is over at this moment
abbrev pub is_ended : Config → Stamp → Option ClientSession → Bool
is_ended k now None = false
is_ended k now (Some s) = must_discard (standing_of k s.lease now)

-- it is another server's, or its lease is over
abbrev pub is_over_at : ServerId → Config → Stamp → Association → Bool
is_over_at s k now a = not (is_at s a) || is_ended k now a.session

-- the lease of the server is over at this moment
abbrev pub IsOver : ServerId → ClientState → Stamp → Type 0
IsOver s c now = list_all (is_over_at s c.config now) c.associations ≡ true

-- What is left of the server: the life is one higher; there is no session, so no lock is listed; and no page, extent and command.
pub record IsEmptied (a b : Association) : Type 0 where
  pub life : b.life ≡ next_life a.life
  pub session : b.session ≡ None
  pub store : b.store ≡ empty_store

-- its association after the step
abbrev pub IsEmptiedIn : Association → Option Association → Type 0
IsEmptiedIn a None = ⊥
IsEmptiedIn a (Some b) = IsEmptied a b

-- Which block is of another server: one of its associations knew it before the step, or the message that came from it tells it.

-- a mapping at this block
abbrev pub is_mapping_at : BlockAt → Option MappedBlock → Bool
is_mapping_at at None = false
is_mapping_at at (Some m) = same_block m.at at

-- what is known of a page is at this block
abbrev pub is_known_at : BlockAt → KnownExtent → Bool
is_known_at at e = is_mapping_at at e.mapping

-- another server's association knows the block
abbrev pub knows_at : ServerId → BlockAt → Association → Bool
knows_at s at a = not (is_at s a) && list_any (is_known_at at) a.store.extents

-- a told row is at this block
abbrev pub is_row_at : BlockAt → ExtentRow → Bool
is_row_at at r = same_block r.at at

-- a message's body tells the block
abbrev pub tells_at : BlockAt → Body → Bool
tells_at at (bodies.Extents ino rows) = list_any (is_row_at at) rows
tells_at at body = false

-- another server's message tells the block
abbrev pub comes_at : ServerId → BlockAt → ClientInput → Bool
comes_at s at (Control m) = not (m.header.from == server_node s) && tells_at at m.body
comes_at s at input = false

-- the block is of another server
abbrev pub is_block_elsewhere : ServerId → ClientState → ClientInput → BlockAt → Bool
is_block_elsewhere s c input at = list_any (knows_at s at) c.associations || comes_at s at input

-- Which operation is of another server.

-- the operation that comes
abbrev pub coming : ClientInput → List Operation
coming (App op ask) = new_operation op ask ∷ []
coming input = []

-- an operation of this number, of another server
abbrev pub is_other_operation : ServerId → ℕ → Operation → Bool
is_other_operation s op o = (o.op == op) && not (is_of s o)

-- What goes out and is of no server that was lost.

-- a write names a file of another server; a read names none
abbrev pub is_tagged_elsewhere : ServerId → Command → Bool
is_tagged_elsewhere s (commands.Read at) = true
is_tagged_elsewhere s (commands.Write at tag bytes) = not (same_server tag.file.server s)

-- a read or a write that was answered
abbrev pub is_use : AppAnswer → Bool
is_use (answers.Read bytes) = true
is_use answers.Written = true
is_use answer = false

-- no Submit, no Read and no Written of this server: a submitted command is on a block of another one; and a read or a write that
-- is answered is an operation of another one
abbrev pub is_elsewhere : ServerId → (BlockAt → Bool) → List Operation → Output → Bool
is_elsewhere s known os (outputs.Submit number at what) = known at && is_tagged_elsewhere s what
is_elsewhere s known os (outputs.Answer op answer) = not (is_use answer) || list_any (is_other_operation s op) os
is_elsewhere s known os o = true

-- What a step of a client discards of a server whose lease is over: nothing of the server is left but the next life, and nothing of it
-- goes out.
pub record Discards (s : ServerId) (old : ClientState) (input : ClientInput) (new : ClientState) (out : List Output) : Type 0 where
  pub emptied : (a : Association) → association_with old s ≡ Some a → IsEmptiedIn a (association_with new s)
  pub unused : list_all (is_elsewhere s (is_block_elsewhere s old input) (old.operations ++ coming input)) out ≡ true
