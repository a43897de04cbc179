-- Disks with a read and a write of one block, before and after.
use Rattle.std.specs.Prelude.{ℕ, true, false, [], ◌∷◌, Option, Some, None, ⊤}
use Rattle.st_base.specs.Page.{filled}
use Rattle.st_rules.specs.declared.disks.Block.{Block}
use Rattle.st_rules.specs.declared.disks.Report.{Report}
use Rattle.st_rules.specs.declared.disks.Report.TheVariants.{Open, Succeeded}
use Rattle.st_rules.specs.declared.disks.DiskCommand.{DiskCommand}
use Rattle.st_rules.specs.Disks.{Disks, fresh_disks, submit, fresh_block}
use Rattle.st_rules.specs.Rules.{rules_open}
use Rattle.st_rows.specs.Tables.{tag, read_of, write_of}
use Rattle.st_rows.specs.Words.{at}

-- both commands are submitted
abbrev pub before : Disks
before = submit (submit (fresh_disks 1 8) (read_of (at 1 3))) (write_of (at 1 3) (tag 2 0 1) 77)

abbrev pub a_read : Option Block → DiskCommand
a_read None = record { what = read_of (at 1 3); effected = false; report = Open; sample = None }
a_read (Some b) = record { what = read_of (at 1 3); effected = true; report = Open; sample = Some b }

abbrev pub a_write : Report → DiskCommand
a_write report = record { what = write_of (at 1 3) (tag 2 0 1) 77; effected = true; report = report; sample = None }

abbrev pub written : Block
written = record { at = at 1 3; tag = tag 2 0 1; bytes = filled 77 }

-- the block of both commands, with these bytes
abbrev pub block_of : ℕ → Block
block_of byte = record { at = at 1 3; tag = tag 2 0 2; bytes = filled byte }

-- the read had its effect
abbrev pub after_read : Disks
after_read = record before { commands = a_read (Some (fresh_block (at 1 3))) ∷ (write_command ∷ []) }
  where
    write_command : DiskCommand
    write_command = record { what = write_of (at 1 3) (tag 2 0 1) 77; effected = false; report = Open; sample = None }

-- the write had its effect
abbrev pub after_write : Disks
after_write = record before { written = written ∷ []; commands = a_read None ∷ (a_write Open ∷ []) }

abbrev pub after_effect : Disks
after_effect = after_write

-- and then it was reported
abbrev pub after_report : Disks
after_report = record before { written = written ∷ []; commands = a_read None ∷ (a_write Succeeded ∷ []) }

unfoldable pub disk_rows_open : ⊤
unfolding rules_open
disk_rows_open = tt
