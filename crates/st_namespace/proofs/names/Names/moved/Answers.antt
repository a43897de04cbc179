use Rattle.std.proofs.Common.{sym, ◌∙◌}
use Rattle.st_namespace.proofs.Rules.{moved_missing, moved_exists, moved_cycle, moved_gives}
use Rattle.st_namespace.proofs.names.Names.moved.Goals as goal

pub returns-in_default-clause-told : goal.returns-in_default-clause-told
returns-in_default-clause-told c = moved_missing _ _ _ _ _ _ (sym c.in_default.is ∙ c.found.ensures)

pub returns-then-has_entry-clause-told : goal.returns-then-has_entry-clause-told
returns-then-has_entry-clause-told c = moved_exists _ _ _ _ _ _ _ _ (sym c.in-Some.is ∙ c.found.ensures) (sym c.has_entry.ensures ∙ c.if-has_entry.true)

pub returns-then-comes_under_itself-clause-told : goal.returns-then-comes_under_itself-clause-told
returns-then-comes_under_itself-clause-told c = moved_cycle _ _ _ _ _ _ _ _ (sym c.in-Some.is ∙ c.found.ensures) (sym c.has_entry.ensures ∙ c.if-has_entry.false) (sym c.comes_under_itself.ensures ∙ c.if-comes_under_itself.true)

pub returns-clause-told : goal.returns-clause-told
returns-clause-told c = moved_gives _ _ _ _ _ _ _ _ (sym c.in-Some.is ∙ c.found.ensures) (sym c.has_entry.ensures ∙ c.if-has_entry.false) (sym c.comes_under_itself.ensures ∙ c.if-comes_under_itself.false)
