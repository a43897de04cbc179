use Rattle.std.proofs.Common.{length, ap, arith}
use Rattle.st_journal_bytes.proofs.Headers.{length-body}
use Rattle.st_journal_bytes.proofs.header.header_of.Goals as goal

pub put_part-requires : goal.put_part-requires
put_part-requires c = omega (arith, ap length c.as_slice.ensures.value, ap length c.in_ok-body.ensures, length-body c.args.header.now)
