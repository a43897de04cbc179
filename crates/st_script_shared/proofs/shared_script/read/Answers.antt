use Rattle.std.proofs.Common.{refl}
use Rattle.st_shared.specs.History.{Read}
use Rattle.st_script_shared.proofs.SharedPlays.{numbers_performs}
use Rattle.st_script_shared.proofs.shared_script.read.Goals as goal

pub returns : goal.returns
returns c = numbers_performs c.args.file.now c.read.new.self (Read c.args.client c.args.page) c.read.result c.read.ensures.exact refl
