-- What the calls on disks need, and what they leave.
use Rattle.std.specs.Prelude.{◌≡◌, ◌≤◌, ◌<◌, ◌+◌, ℕ, List, length, Some, None, Result, Ok, Err}
use Rattle.std.specs.declared.option.Option.{Option}
use Rattle.st_base.specs.declared.disk.BlockAt.{BlockAt}
use Rattle.st_base.specs.declared.disk.Tag.{Tag}
use Rattle.st_base.specs.declared.disk.Command.{Command}
use Rattle.st_base.specs.declared.disk.Command.TheVariants.{Read, Write}
use Rattle.st_rules.specs.declared.disks.Block.{Block}
use Rattle.st_rules.specs.declared.disks.CommandRefusal.{CommandRefusal}
use Rattle.st_rules.specs.declared.disks.CommandRefusal.TheVariants as command_refusals
use Rattle.st_disk.specs.declared.refusal.DiskRefusal.{DiskRefusal}
use Rattle.st_disk.specs.declared.refusal.DiskRefusal.TheVariants as refusals
use Rattle.st_rules.specs.declared.disks.DiskCommand.{DiskCommand}
use Rattle.st_rules.specs.Disks.{Disks, block, command_at, effected, sampled, with_block, with_command}

-- the block that a command is on
abbrev pub place : Command → BlockAt
place (Read at) = at
place (Write at tag bytes) = at

-- the command writes
abbrev pub IsWrite : Command → Type 0
IsWrite (Read at) = ⊥
IsWrite (Write at tag bytes) = Unit

-- the block is one of these disks': disks are numbered from 1, and their blocks from 0
pub record HasBlock (d : Disks) (at : BlockAt) : Type 0 where
  pub some : 1 ≤ at.disk.0
  pub disk : at.disk.0 ≤ d.disks
  pub block : at.block < d.blocks

-- the number of disks and of blocks of each is the same
pub record SameSize (old new : Disks) : Type 0 where
  pub disks : new.disks ≡ old.disks
  pub blocks : new.blocks ≡ old.blocks

-- the calls have the rules' refusals, and may also run out of memory
abbrev pub as_told : CommandRefusal → DiskRefusal
as_told (command_refusals.NoCommand n) = refusals.NoCommand n
as_told (command_refusals.Twice n) = refusals.Twice n
as_told (command_refusals.NotEffected n) = refusals.NotEffected n
as_told (command_refusals.Reported n) = refusals.Reported n

-- what the rule gives, as the calls tell it
abbrev pub told : Result Disks CommandRefusal → Result Disks DiskRefusal
told (Ok d) = Ok d
told (Err r) = Err (as_told r)

-- a call did what the rule says, or ran out of memory; if it refused, nothing changed
abbrev pub Answers : Disks → Disks → Result Unit DiskRefusal → Result Disks CommandRefusal → Type 0
Answers old new (Ok u) rule = rule ≡ Ok new
Answers old new (Err refusals.Memory) rule = new ≡ old
Answers old new (Err f) rule = (told rule ≡ Err f) × (new ≡ old)

-- the disks that a call leaves, or its refusal
abbrev pub ended : Result Unit DiskRefusal → Disks → Result Disks DiskRefusal
ended (Ok u) d = Ok d
ended (Err f) d = Err f

-- the tag and the bytes of a block
abbrev pub shown : Block → Tag × List ℕ
shown b = (b.tag, b.bytes)

-- the index of the command with number n, if there is one
abbrev pub IsIndex : List DiskCommand → ℕ → Option ℕ → Type 0
IsIndex cs n None = command_at cs n ≡ None
IsIndex cs n (Some i) = (n ≡ i + 1) × (i < length cs)

-- the disks after the read c at this index took its sample of the block at b
abbrev pub sampled_at : ℕ → BlockAt → DiskCommand → Disks → Disks
sampled_at index b c d = with_command (index + 1) (sampled (block d b) c) d

-- the disks after the write c at this index wrote its block
abbrev pub written_at : ℕ → Block → DiskCommand → Disks → Disks
written_at index b c d = with_block b (with_command (index + 1) (effected c) d)
