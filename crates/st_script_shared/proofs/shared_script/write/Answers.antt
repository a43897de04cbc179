use Rattle.std.proofs.Common.{refl}
use Rattle.st_shared.specs.History.{Write}
use Rattle.st_script_shared.proofs.SharedPlays.{numbers_performs}
use Rattle.st_script_shared.proofs.shared_script.write.Goals as goal

pub returns : goal.returns
returns c = numbers_performs c.args.file.now c.write.new.self (Write c.args.client c.args.page c.args.bytes.now) c.write.result c.write.ensures.exact refl
