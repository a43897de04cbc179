use Rattle.st_laws_extents.proofs.CutRequests.Named.{numbers_name_files}
use Rattle.st_laws_extents.proofs.numbers_name_files.Goals as goal

pub returns : goal.returns
returns c = numbers_name_files
