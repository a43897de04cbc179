use Rattle.std.proofs.Common.{true, false, ap, ◌∙◌}
use Rattle.st_journal.specs.Parts.{names_checked, stable_of}
use Rattle.st_journal.proofs.CheckedChanges.{create_checked, mkdir_checked}
use Rattle.st_journal.proofs.stable.Stable.check_entry.Goals as goal

pub returns-clause-create : goal.returns-clause-create
returns-clause-create c =
    let told = rw c.as_slice.ensures at (c.check_add.ensures false) in
    c.checked.ensures ∙ ap names_checked told ∙ create_checked (stable_of c.args.self.now) c.args.dir c.args.name.now

pub returns-clause-mkdir : goal.returns-clause-mkdir
returns-clause-mkdir c =
    let told = rw c.as_slice.ensures at (c.check_add.ensures true) in
    c.checked.ensures ∙ ap names_checked told ∙ mkdir_checked (stable_of c.args.self.now) c.args.dir c.args.name.now
