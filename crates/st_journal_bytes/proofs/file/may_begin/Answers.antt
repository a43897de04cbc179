use Rattle.std.proofs.Common.{ℕ, get_or, rules}
use Rattle.st_journal_file.specs.Histories.{IsEither}
use Rattle.st_journal_bytes.specs.Files.{START}
use borrow.Author.Count.{below_more}
use Rattle.st_journal_bytes.proofs.file.may_begin.Goals as goal

pub loop-place-preserved : goal.loop-place-preserved
loop-place-preserved c =
    let here : IsEither 0 (get_or START c.loop-place.place 0) (get_or c.args.front.now c.loop-place.place 0) = search rules in
    below_more (λ (k : ℕ). IsEither 0 (get_or START k 0) (get_or c.args.front.now k 0)) c.loop-place.place c.loop-place.invariant here
