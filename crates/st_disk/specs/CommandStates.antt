-- The state of a command.
use Rattle.st_disk.specs.declared.commands.CommandState.{CommandState}
use Rattle.st_rules.specs.declared.disks.DiskCommand.{DiskCommand}

-- whether the command had its effect, and how it was reported
abbrev pub standing_of : DiskCommand → CommandState
standing_of c = record { effected = c.effected; report = c.report }
