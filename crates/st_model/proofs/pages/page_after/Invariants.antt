use Rattle.std.proofs.Common.{◌≡◌, drop, length}
use Rattle.st_model.specs.PagePlaces as by_page
use Rattle.st_model.proofs.pages.page_after.Given as goal

abbrev pub invariant-loop-i : goal.invariant-loop-i
invariant-loop-i l = record {
  whole : length l.into ≡ 4096;
  so_far : by_page.page_after l.from l.file l.page l.entries l.into (drop l.i l.places) ≡ by_page.page_after l.from l.file l.page l.entries l.initial.into l.places;
}
