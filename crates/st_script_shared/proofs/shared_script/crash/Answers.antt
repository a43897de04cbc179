use Rattle.std.proofs.Common.{refl}
use Rattle.st_shared.specs.History.{Crash}
use Rattle.st_script_shared.proofs.SharedPlays.{does_performs}
use Rattle.st_script_shared.proofs.shared_script.crash.Goals as goal

pub returns : goal.returns
returns c = does_performs c.args.file.now c.crash.new.self (Crash c.args.client) c.crash.result c.crash.ensures.exact refl
