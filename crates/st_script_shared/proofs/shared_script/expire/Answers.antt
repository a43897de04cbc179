use Rattle.std.proofs.Common.{refl}
use Rattle.st_shared.specs.History.{Expire}
use Rattle.st_script_shared.proofs.SharedPlays.{does_performs}
use Rattle.st_script_shared.proofs.shared_script.expire.Goals as goal

pub returns : goal.returns
returns c = does_performs c.args.file.now c.expire.new.self (Expire c.args.client) c.expire.result c.expire.ensures.exact refl
