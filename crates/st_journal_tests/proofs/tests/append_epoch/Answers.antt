use Rattle.std.proofs.Common.{refl}
use Rattle.st_journal.specs.Changes.{is_ranged}
use Rattle.st_journal.specs.Stable.{apply, next_epoch}
use Rattle.st_journal_tests.proofs.tests.append_epoch.Goals as goal

pub append-requires-clause-ranges : goal.append-requires-clause-ranges
unfolding is_ranged
append-requires-clause-ranges c = refl

pub append-requires-clause-applies : goal.append-requires-clause-applies
unfolding apply
append-requires-clause-applies c = λ whole. let h = c.requires in (h.0, record { changes = h.1; state = h.2; next = next_epoch h.2; stands = h.3; applied = refl })
