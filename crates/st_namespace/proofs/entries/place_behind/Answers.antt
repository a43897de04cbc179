use Rattle.std.proofs.Common.{arith, sym, ◌∙◌}
use Rattle.st_namespace.proofs.ByName.{before_entry, before_other, behind_entry, behind_other}
use Rattle.st_namespace.proofs.entries.place_behind.Goals as goal

pub returns-then-place-sorted-clause-before : goal.returns-then-place-sorted-clause-before
returns-then-place-sorted-clause-before c = before_other c.args.sorted.now c.requires c.args.dir c.args.name.now c.place_of-place.result c.place_of-place.ensures.before c.place_of-place.ensures.behind

pub returns-then-is_entry_at-clause-before : goal.returns-then-is_entry_at-clause-before
returns-then-is_entry_at-clause-before c =
    before_entry c.args.sorted.now c.requires c.args.dir c.args.name.now c.place_of-place.result c.place_of-place.ensures.before c.place_of-place.ensures.behind c.index-sorted-place.result (omega (arith, c.if-place-sorted.false)) c.index-sorted-place.is
    (sym c.is_entry_at.ensures ∙ c.if-is_entry_at.true)

pub returns-then-is_entry_at-clause-behind : goal.returns-then-is_entry_at-clause-behind
returns-then-is_entry_at-clause-behind c =
    behind_entry c.args.sorted.now c.requires c.args.dir c.args.name.now c.place_of-place.result c.place_of-place.ensures.before c.place_of-place.ensures.behind c.index-sorted-place.result (omega (arith, c.if-place-sorted.false)) c.index-sorted-place.is
    (sym c.is_entry_at.ensures ∙ c.if-is_entry_at.true)

pub returns-else-is_entry_at-clause-before : goal.returns-else-is_entry_at-clause-before
returns-else-is_entry_at-clause-before c = before_other c.args.sorted.now c.requires c.args.dir c.args.name.now c.place_of-place.result c.place_of-place.ensures.before c.place_of-place.ensures.behind

pub returns-else-is_entry_at-clause-behind : goal.returns-else-is_entry_at-clause-behind
returns-else-is_entry_at-clause-behind c =
    behind_other c.args.sorted.now c.requires c.args.dir c.args.name.now c.place_of-place.result c.place_of-place.ensures.before c.place_of-place.ensures.behind c.index-sorted-place.result (omega (arith, c.if-place-sorted.false)) c.index-sorted-place.is
    (sym c.is_entry_at.ensures ∙ c.if-is_entry_at.false)
