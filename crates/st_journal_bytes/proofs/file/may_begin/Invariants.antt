use Rattle.std.proofs.Common.{ℕ, ◌<◌, get_or}
use Rattle.st_journal_file.specs.Histories.{IsEither}
use Rattle.st_journal_bytes.specs.Files.{START}
use Rattle.st_journal_bytes.proofs.file.may_begin.Given as goal

abbrev pub invariant-loop-place : goal.invariant-loop-place
invariant-loop-place l = (k : ℕ) → k < l.place → IsEither 0 (get_or START k 0) (get_or l.front k 0)
