use Rattle.std.proofs.Common.{◌≡◌, ◌+◌, ◌∷◌, [], length, ap, ◌∙◌, arith, length-append}
use Rattle.st_journal_bytes.proofs.Scans.{length-part}
use Rattle.st_journal_bytes.specs.Plain.{plain}
use Rattle.st_journal_file.specs.Layout.{CLOSED, part}
use Rattle.st_kept_journal.specs.Keeping.{Keeping, covered}
use Rattle.st_kept_journal.specs.declared.task.Task.TheVariants.{Rest}
use Rattle.st_kept_journal.proofs.keeper.JournalKeeper.snapshot.Goals as goal

pub invariant_of-self : goal.invariant_of-self
invariant_of-self c =
    let long : length c.in-Ok.bytes.items ≡ length c.args.snapshot.now + 13 =
    omega (arith, ap length c.in-Ok.ensures, length-append (part plain c.args.snapshot.now) (CLOSED ∷ []), length-part c.args.snapshot.now) in
    let rests : c.self.inside.task ≡ Rest = ap (λ (k : Keeping). k.task) c.self.view_is ∙ c.requires in
    let none : covered c.self.inside.task ≡ 0 = ap covered rests in
    record { within = omega arith; first = omega arith; room = omega arith; few = omega (arith, none); small = omega arith }
