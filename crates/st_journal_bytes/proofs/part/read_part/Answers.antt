use Rattle.std.proofs.Common.{arith}
use Rattle.st_journal_bytes.proofs.Parts.{seen_found, seen_none, seen_short}
use Rattle.st_journal_bytes.proofs.part.read_part.Goals as goal

pub returns-clause-found : goal.returns-clause-found
returns-clause-found c = seen_found (λ x. x.now) c.part_at.result c.args.bytes.now (λ i. omega (arith, c.type_inv.bytes i)) c.part_at.ensures

pub returns-clause-short : goal.returns-clause-short
returns-clause-short c = seen_short (λ x. x.now) c.part_at.result c.args.bytes.now (λ i. omega (arith, c.type_inv.bytes i)) c.part_at.ensures

pub returns-clause-none : goal.returns-clause-none
returns-clause-none c = seen_none (λ x. x.now) c.part_at.result c.args.bytes.now c.part_at.ensures
