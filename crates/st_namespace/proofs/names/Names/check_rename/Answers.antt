use Rattle.std.proofs.Common.{sym, ◌∙◌, ap}
use Rattle.st_namespace.specs.Answers.{ino_told}
use Rattle.st_namespace.proofs.Rules.{rename_at_good, rename_first_place, rename_second_place}
use Rattle.st_namespace.proofs.names.Names.check_rename.Goals as goal

pub returns-in-Some-clause-told : goal.returns-in-Some-clause-told
returns-in-Some-clause-told c = rw c.told.ensures (ap ino_told (sym (rename_first_place _ _ _ _ _ _ (sym c.in-Some.is ∙ c.place_refusal.ensures))))

pub returns-in-Some-place_refusal-clause-told : goal.returns-in-Some-place_refusal-clause-told
returns-in-Some-place_refusal-clause-told c =
    rw c.told-in-Some-place_refusal.ensures
    (ap ino_told
    (sym (rename_second_place _ _ _ _ _ _ (sym c.in_default.is ∙ c.place_refusal.ensures) (sym c.in-Some-place_refusal.is ∙ c.place_refusal-2.ensures))))

pub returns-clause-told : goal.returns-clause-told
returns-clause-told c =
    c.moved.ensures.told ∙
    ap ino_told
    (sym (rename_at_good _ _ _ _ _ (sym c.in_default.is ∙ c.place_refusal.ensures) (sym c.in_default-place_refusal.is ∙ c.place_refusal-2.ensures)))
