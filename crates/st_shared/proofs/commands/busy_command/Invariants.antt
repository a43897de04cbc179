use Rattle.st_lemmas.proofs.Words
use Words.{◌≡◌, drop}
use Rattle.st_shared.specs.Shared.{busy_above}
use Rattle.st_shared.proofs.commands.busy_command.Given as goal

abbrev pub invariant-loop-i : goal.invariant-loop-i
invariant-loop-i l = busy_above l.disks l.client l.i (drop l.i l.issuers) ≡ busy_above l.disks l.client 0 l.issuers
