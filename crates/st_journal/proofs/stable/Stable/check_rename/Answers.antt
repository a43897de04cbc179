use Rattle.std.proofs.Common.{ap, sym, ◌∙◌}
use Rattle.st_rules.specs.Names as names
use Rattle.st_journal.specs.Parts.{names_checked, stable_of}
use Rattle.st_journal.proofs.CheckedChanges.{named_checked}
use Rattle.st_journal.proofs.stable.Stable.check_rename.Goals as goal

pub returns : goal.returns
returns c =
    let t = stable_of c.args.self.now in
    let told = rw (c.as_slice.ensures, c.as_slice-2.ensures) at c.check_rename.ensures.told in
    c.checked.ensures ∙ ap names_checked told ∙ sym (named_checked t (names.rename t.names c.args.dir c.args.name.now c.args.dir2 c.args.name2.now))
