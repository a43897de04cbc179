use Rattle.std.proofs.Common.{arith, sym, ◌∙◌}
use Rattle.st_namespace.proofs.ByName.{all_before, no_entry}
use Rattle.st_namespace.proofs.entries.found_at.Goals as goal

pub returns-then-place-sorted-clause-none : goal.returns-then-place-sorted-clause-none
returns-then-place-sorted-clause-none c =
    all_before c.args.sorted.now c.requires c.args.dir c.args.name.now c.place_of-place.result c.place_of-place.ensures.before c.place_of-place.ensures.behind (omega (arith, c.if-place-sorted.true))

pub returns-else-is_entry_at-clause-none : goal.returns-else-is_entry_at-clause-none
returns-else-is_entry_at-clause-none c =
    no_entry c.args.sorted.now c.requires c.args.dir c.args.name.now c.place_of-place.result c.place_of-place.ensures.before c.place_of-place.ensures.behind c.index-sorted-place.result (omega (arith, c.if-place-sorted.false)) c.index-sorted-place.is
    (sym c.is_entry_at.ensures ∙ c.if-is_entry_at.false)
