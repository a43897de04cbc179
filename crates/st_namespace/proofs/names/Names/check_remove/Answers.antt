use Rattle.std.proofs.Common.{sym, ◌∙◌, ap}
use Rattle.st_rules.specs.declared.names.EntryRefusal.TheVariants.{NoEntry, NotEmpty}
use Rattle.st_namespace.specs.Answers.{ino_told}
use Rattle.st_namespace.proofs.Rules.{remove_place, remove_missing, remove_full, remove_gives}
use Rattle.st_namespace.proofs.names.Names.check_remove.Goals as goal

pub returns-in-Some : goal.returns-in-Some
returns-in-Some c = rw c.told.ensures (ap ino_told (sym (remove_place _ _ _ _ (sym c.in-Some.is ∙ c.place_refusal.ensures))))

pub returns-in_default-found : goal.returns-in_default-found
returns-in_default-found c =
    ap ino_told (sym (remove_missing _ _ _ (sym c.in_default.is ∙ c.place_refusal.ensures) (sym c.in_default-found.is ∙ c.found.ensures)))

pub returns-then-is_full : goal.returns-then-is_full
returns-then-is_full c =
    ap ino_told
    (sym (remove_full _ _ _ _ _ (sym c.in_default.is ∙ c.place_refusal.ensures) (sym c.in-Some-found.is ∙ c.found.ensures)
    (sym c.is_full.ensures ∙ c.if-is_full.true)))

pub returns : goal.returns
returns c =
    ap ino_told
    (sym (remove_gives c.args.self.now c.args.dir c.args.name.now c.in-Some-found.ino c.in-Some-found.directory (sym c.in_default.is ∙ c.place_refusal.ensures)
    (sym c.in-Some-found.is ∙ c.found.ensures) (sym c.is_full.ensures ∙ c.if-is_full.false)))
