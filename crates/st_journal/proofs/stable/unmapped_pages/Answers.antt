use Rattle.std.proofs.Common.{◌+◌, arith, ap, sym, ◌∙◌}
use Rattle.std.specs.Prelude.{is_some}
use Rattle.st_rules.specs.Extents.{extent_of}
use Rattle.st_rules.specs.Keys.{page_no}
use Rattle.st_journal.proofs.CheckedChanges.{mapped_some, page_bare, page_mapped, pages_counted}
use Rattle.st_journal.proofs.stable.unmapped_pages.Goals as goal

pub loop-place-preserved-then-is_some : goal.loop-place-preserved-then-is_some
loop-place-preserved-then-is_some c =
    let x = c.args.extents.now in
    let some = sym (mapped_some (extent_of x c.args.file (page_no (c.args.page.0 + c.loop-place.place)))) ∙ ap is_some (sym c.map.ensures) ∙
    sym c.is_some.ensures ∙ c.if-is_some.true in
    record {
      pages = page_mapped x c.args.file c.args.page.0 c.loop-place.pages _ c.loop-place.place c.args.count c.loop-place-test.true some
          c.loop-place.invariant.pages;
      few = omega (arith, c.loop-place.invariant.few);
    }

pub loop-place-preserved : goal.loop-place-preserved
loop-place-preserved c =
    let x = c.args.extents.now in
    let none = sym (mapped_some (extent_of x c.args.file (page_no (c.args.page.0 + c.loop-place.place)))) ∙ ap is_some (sym c.map.ensures) ∙
    sym c.is_some.ensures ∙ c.if-is_some.false in
    record {
      pages = page_bare x c.args.file c.args.page.0 c.loop-place.pages _ c.loop-place.place c.args.count c.loop-place-test.true none
          c.loop-place.invariant.pages;
      few = omega (arith, c.loop-place.invariant.few);
    }

pub returns : goal.returns
returns c = pages_counted c.args.extents.now c.args.file c.args.page.0 c.loop-place.pages _ c.loop-place.place c.args.count c.loop-place-test.false
    c.loop-place.invariant.pages
