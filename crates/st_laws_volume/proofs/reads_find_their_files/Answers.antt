use Rattle.st_laws_safe.proofs.Gathered.{every_run}
use Rattle.st_laws_volume.proofs.FreeReads as proved
use Rattle.st_laws_volume.proofs.reads_find_their_files.Goals as goal

pub returns : goal.returns
returns c = proved.reads_find_their_files every_run
