use Rattle.std.proofs.Common.{refl}
use Rattle.st_shared.specs.History.{Unlock}
use Rattle.st_script_shared.proofs.SharedPlays.{does_performs}
use Rattle.st_script_shared.proofs.shared_script.unlock.Goals as goal

pub returns : goal.returns
returns c = does_performs c.args.file.now c.unlock.new.self (Unlock c.args.client) c.unlock.result c.unlock.ensures.exact refl
