use Rattle.st_laws_names.proofs.Facts.{operations_law}
use Rattle.st_laws_names.proofs.keys_have_one_operation.Goals as goal

pub returns : goal.returns
returns c = operations_law
