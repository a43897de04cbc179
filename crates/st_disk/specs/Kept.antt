-- A command as the disks keep it.
use Rattle.std.specs.Prelude.{ℕ, Bool, true, false, List, Option, Some, None}
use Rattle.st_base.specs.declared.disk.BlockAt.{BlockAt}
use Rattle.st_base.specs.declared.disk.Command.TheVariants.{Read, Write}
use Rattle.st_base.specs.declared.disk.Tag.{Tag}
use Rattle.st_disk.specs.declared.kept.Stage.{Stage}
use Rattle.st_disk.specs.declared.kept.Stage.TheVariants as stages
use Rattle.st_rules.specs.declared.disks.DiskCommand.{DiskCommand}
use Rattle.st_rules.specs.declared.disks.Report.{Report}

-- whether a command had its effect
abbrev pub is_effected : Stage → Bool
is_effected stages.Read = false
is_effected stages.Sampled = true
is_effected stages.Write = false
is_effected stages.Written = true

-- a command of the block at this place, with the tag and the bytes that it writes or that it found
abbrev pub command_kept : Stage → BlockAt → Tag → List ℕ → Report → DiskCommand
command_kept stages.Read at tag bytes report = record { what = Read at; effected = false; report = report; sample = None }
command_kept stages.Sampled at tag bytes report = record { what = Read at; effected = true; report = report; sample = Some (record { at = at; tag = tag; bytes = bytes }) }
command_kept stages.Write at tag bytes report = record { what = Write at tag bytes; effected = false; report = report; sample = None }
command_kept stages.Written at tag bytes report = record { what = Write at tag bytes; effected = true; report = report; sample = None }
