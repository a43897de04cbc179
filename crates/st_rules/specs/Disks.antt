-- Disks: blocks with their tags, and the commands that read and write them.
use Rattle.std.specs.Prelude.{ℕ, pred, zero, suc, Bool, true, false, not, ◌&&◌, if◌then◌else◌, List, [], ◌∷◌, ◌++◌, find, set, slice_get, Option, Some, None, unwrap_or, Result, Ok, Err, ⊤}
use Rattle.st_base.specs.declared.disk.BlockAt.{BlockAt}
use Rattle.st_base.specs.declared.disk.Tag.{Tag}
use Rattle.st_base.specs.declared.disk.Command.{Command}
use Rattle.st_base.specs.declared.disk.Command.TheVariants.{Read, Write}
use Rattle.st_base.specs.Page.{filled}
use Rattle.st_rules.specs.declared.disks.Block.{Block}
use Rattle.st_rules.specs.declared.disks.Report.{Report}
use Rattle.st_rules.specs.declared.disks.Report.TheVariants as reports
use Rattle.st_rules.specs.declared.disks.DiskCommand.{DiskCommand}
use Rattle.st_rules.specs.declared.disks.CommandRefusal.{CommandRefusal}
use Rattle.st_rules.specs.declared.disks.CommandRefusal.TheVariants.{NoCommand, Twice, NotEffected, Reported}
use Rattle.st_rules.specs.Keys.{same_block, put, keys_open}

-- The disks: how many there are, the blocks of each, the blocks that were written, and the commands in order of
-- submission.
pub record Disks : Type 0 where
  pub disks : ℕ
  pub blocks : ℕ
  pub written : List Block
  pub commands : List DiskCommand

-- disks that were never written, without commands
abbrev pub fresh_disks : ℕ → ℕ → Disks
fresh_disks disks blocks = record { disks = disks; blocks = blocks; written = []; commands = [] }

-- Blocks: one that was never written has birth 0 and zeros.
abbrev pub fresh_tag : Tag
fresh_tag = record { file = record { server = record { 0 = 0 }; ino = 0 }; page = record { 0 = 0 }; birth = 0 }

-- a block that was never written
abbrev pub fresh_block : BlockAt → Block
fresh_block at = record { at = at; tag = fresh_tag; bytes = filled 0 }

-- the block of this place
abbrev pub is_block_at : BlockAt → Block → Bool
is_block_at at b = same_block b.at at

-- the block at a place
abbrev pub block : Disks → BlockAt → Block
block d at = unwrap_or (find (is_block_at at) d.written) (fresh_block at)

-- the disks with this block in its place
abbrev pub with_block : Block → Disks → Disks
with_block b d = record d { written = put (is_block_at b.at) b d.written }

-- Submit: the command is the last one, and its number is their count.
abbrev pub new_command : Command → DiskCommand
new_command what = record { what = what; effected = false; report = reports.Open; sample = None }

-- Submit: the command is the last one
abbrev pub submit : Disks → Command → Disks
submit d what = record d { commands = d.commands ++ new_command what ∷ [] }

-- commands go by their numbers from 1
abbrev pub command_at : List DiskCommand → ℕ → Option DiskCommand
command_at cs zero = None
command_at cs (suc n) = slice_get cs n

-- the command of a number
abbrev pub command : Disks → ℕ → Option DiskCommand
command d n = command_at d.commands n

-- with this command under its number
abbrev pub with_command : ℕ → DiskCommand → Disks → Disks
with_command n c d = record d { commands = set d.commands (pred n) c }

-- Effect: a write makes the whole block its tag and bytes; a read samples the block. A command that was reported, and
-- then one that had its effect, is refused.
abbrev pub effected : DiskCommand → DiskCommand
effected c = record c { effected = true }

-- a read that found this block
abbrev pub sampled : Block → DiskCommand → DiskCommand
sampled b c = record c { effected = true; sample = Some b }

-- what a command does to the disks
unfoldable pub effect_of : Disks → ℕ → DiskCommand → Command → Disks
effect_of d n c (Read at) = with_command n (sampled (block d at) c) d
effect_of d n c (Write at tag bytes) = with_block (record { at = at; tag = tag; bytes = bytes }) (with_command n (effected c) d)

-- a command has its effect once
unfoldable pub effect_once : Disks → ℕ → DiskCommand → Result Disks CommandRefusal
effect_once d n c = if c.effected then Err (Twice n) else Ok (effect_of d n c c.what)

-- a command that was reported has no further effect
unfoldable pub effect_reported : Disks → ℕ → DiskCommand → Report → Result Disks CommandRefusal
effect_reported d n c reports.Open = effect_once d n c
effect_reported d n c report = Err (Reported n)

-- the effect of a command, if there is one
unfoldable pub effect_at : Disks → ℕ → Option DiskCommand → Result Disks CommandRefusal
effect_at d n None = Err (NoCommand n)
effect_at d n (Some c) = effect_reported d n c c.report

-- Effect of the command of a number
unfoldable pub effect : Disks → ℕ → Result Disks CommandRefusal
effect d n = effect_at d n (command d n)

-- Report: it ends a command. Success wants its effect; a command that is reported failed may have had it.
abbrev pub report_of : Bool → Report
report_of true = reports.Succeeded
report_of false = reports.Failed

-- a command with its report
abbrev pub reported : Bool → DiskCommand → DiskCommand
reported ok c = record c { report = report_of ok }

-- success is reported without an effect
abbrev pub lacks_effect : Bool → DiskCommand → Bool
lacks_effect ok c = ok && not c.effected

-- success wants the effect
unfoldable pub done_once : Disks → ℕ → Bool → DiskCommand → Result Disks CommandRefusal
done_once d n ok c = if lacks_effect ok c then Err (NotEffected n) else Ok (with_command n (reported ok c) d)

-- a command is reported once
unfoldable pub done_unreported : Disks → ℕ → Bool → DiskCommand → Report → Result Disks CommandRefusal
done_unreported d n ok c reports.Open = done_once d n ok c
done_unreported d n ok c report = Err (Twice n)

-- the report of a command, if there is one
unfoldable pub done_at : Disks → ℕ → Bool → Option DiskCommand → Result Disks CommandRefusal
done_at d n ok None = Err (NoCommand n)
done_at d n ok (Some c) = done_unreported d n ok c c.report

-- Report of the command of a number
unfoldable pub done : Disks → ℕ → Bool → Result Disks CommandRefusal
done d n ok = done_at d n ok (command d n)

-- Sample: the block that a read found.
abbrev pub sample_of : Option DiskCommand → Option Block
sample_of None = None
sample_of (Some c) = c.sample

-- Sample: the block that a read found, if it had its effect
abbrev pub sample : Disks → ℕ → Option Block
sample d n = sample_of (command d n)

-- opens all of this file
unfoldable pub disks_open : ⊤
unfolding keys_open effect_of effect_once effect_reported effect_at effect done_once done_unreported done_at done
disks_open = tt
