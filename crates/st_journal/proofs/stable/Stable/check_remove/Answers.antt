use Rattle.std.proofs.Common.{ap, sym, ◌∙◌}
use Rattle.st_rules.specs.Names as names
use Rattle.st_journal.specs.Parts.{names_checked, stable_of}
use Rattle.st_journal.proofs.CheckedChanges.{removed_checked}
use Rattle.st_journal.proofs.stable.Stable.check_remove.Goals as goal

pub returns : goal.returns
returns c =
    let t = stable_of c.args.self.now in
    let told = rw c.as_slice.ensures at c.check_remove.ensures in
    c.checked.ensures ∙ ap names_checked told ∙ sym (removed_checked t (names.remove t.names c.args.dir c.args.name.now))
