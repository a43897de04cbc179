use Rattle.std.proofs.Common.{refl}
use Rattle.st_tables.specs.Tables.{listed}
use Rattle.st_tables.proofs.table.Table.new.Goals as goal

pub returns : goal.returns
unfolding listed
returns g c = refl
