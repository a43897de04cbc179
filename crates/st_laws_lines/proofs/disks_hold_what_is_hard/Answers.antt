use Rattle.st_laws_lines.proofs.Held.{held_throughout}
use Rattle.st_laws_lines.proofs.disks_hold_what_is_hard.Goals as goal

pub returns : goal.returns
returns c = held_throughout
