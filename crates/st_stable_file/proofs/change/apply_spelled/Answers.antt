use Rattle.std.proofs.Common.{◌≡◌, ◌<◌, ◌^◌, None, Some, arith, refl, rules}
use Rattle.std.proofs.lemmas.Result.{err_from_is_err_and}
use Rattle.st_journal.specs.Changes.{Spells}
use Rattle.st_journal.specs.Parts.{stable_of}
use Rattle.st_journal.specs.declared.change.Change.{Change}
use Rattle.st_journal_bytes.specs.Moments.{dated_bytes}
use Rattle.st_stable_file.proofs.Records.{no_applied, no_early, no_spelling}
use Rattle.st_stable_file.proofs.change.apply_spelled.Goals as goal

pub returns-then-moment-last-clause-err : goal.returns-then-moment-last-clause-err
returns-then-moment-last-clause-err c =
    no_early (stable_of c.args.stable.now) c.args.last c.args.at (dated_bytes c.args.moment c.args.bytes.now) c.args.moment c.args.bytes.now refl (omega (arith, c.ranges.moment.fits))
    c.if-moment-last.true

pub returns-in_default-found-clause-err : goal.returns-in_default-found-clause-err
returns-in_default-found-clause-err c =
    let none : (x : Change) → Spells c.args.bytes.now x → None ≡ Some x = search rules in
    no_spelling (stable_of c.args.stable.now) c.args.last c.args.at (dated_bytes c.args.moment c.args.bytes.now) c.args.moment c.args.bytes.now refl
    (omega (arith, c.ranges.moment.fits)) none

pub returns-in_err-apply_change-clause-err : goal.returns-in_err-apply_change-clause-err
returns-in_err-apply_change-clause-err c =
    let p = err_from_is_err_and c.from_residual.result c.from_residual.ensures.1 in
    let spells : Spells c.args.bytes.now c.in-Some.change = search rules in
    rw (p.1, p.2)
    (no_applied (stable_of c.args.stable.now) c.args.last c.args.at (dated_bytes c.args.moment c.args.bytes.now) c.args.moment c.args.bytes.now refl (omega (arith, c.ranges.moment.fits))
    c.in-Some.change c.in_err-apply_change.field-0.0 spells c.in_err-apply_change.ensures.err)
