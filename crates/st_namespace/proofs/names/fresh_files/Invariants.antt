use Rattle.std.proofs.Common.{◌≡◌, ◌-◌}
use Rattle.st_namespace.proofs.FreshFiles.{files}
use Rattle.st_namespace.proofs.names.fresh_files.Given as goal

abbrev pub invariant-loop-ino : goal.invariant-loop-ino
invariant-loop-ino l = l.entries ≡ files (l.ino - 2)
