use Rattle.st_laws_reads.proofs.OpenWrites.Locked.{open_writes_stand_alone}
use Rattle.st_laws_reads.proofs.open_writes_stand_alone.Goals as goal

pub returns : goal.returns
returns c = open_writes_stand_alone
