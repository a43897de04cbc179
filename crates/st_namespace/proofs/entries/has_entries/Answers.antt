use Rattle.std.proofs.Common.{◌==◌, arith, ap, sym, ◌∙◌}
use Rattle.st_rules.specs.declared.names.NameEntry.{NameEntry}
use Rattle.st_namespace.proofs.ByName.{first_in, none_in}
use Rattle.st_namespace.proofs.entries.has_entries.Goals as goal

pub returns-then-place-sorted : goal.returns-then-place-sorted
returns-then-place-sorted c =
    sym (none_in c.args.sorted.now c.requires c.args.dir c.place_of-place.result (rw c.as_slice.ensures at c.place_of-place.ensures.before) (omega (arith, c.if-place-sorted.true)))

pub returns : goal.returns
returns c =
    ap (λ (e : NameEntry). e.dir == c.args.dir) (sym c.index-sorted-place.is)
    ∙ first_in c.args.sorted.now c.requires c.args.dir c.place_of-place.result (rw c.as_slice.ensures at c.place_of-place.ensures.before) (rw c.as_slice.ensures at c.place_of-place.ensures.behind)
    c.index-sorted-place.result (omega (arith, c.if-place-sorted.false)) c.index-sorted-place.is
