use Rattle.std.proofs.Common.{arith}
use Rattle.st_journal.proofs.DecodedChanges.{told_found, told_only}
use Rattle.st_journal.proofs.decoder.decode.Goals as goal

pub returns-clause-found : goal.returns-clause-found
returns-clause-found c = told_found c.read_whole.result c.args.bytes.now (λ i. omega (arith, c.type_inv.bytes i)) c.read_whole.ensures

pub returns-clause-only : goal.returns-clause-only
returns-clause-only c = told_only c.read_whole.result c.args.bytes.now c.read_whole.ensures
