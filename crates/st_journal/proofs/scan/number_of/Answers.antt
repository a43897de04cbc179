use Rattle.std.proofs.Common.{◌≡◌, ap, ◌∙◌, rules, arith}
use Rattle.std.specs.Int.{w32, from_be_bytes}
use Rattle.st_journal.specs.Changes.{word32}
use Rattle.st_journal.proofs.ScannedBytes.{number_is}
use Rattle.st_journal.proofs.scan.number_of.Goals as goal

pub returns-clause-number : goal.returns-clause-number
returns-clause-number c =
    let is : c.from.result ≡ from_be_bytes w32 c.args.room.now = search rules in
    ap word32 is ∙ number_is c.args.room.now c.requires (λ i. omega (arith, c.type_inv.room i))
