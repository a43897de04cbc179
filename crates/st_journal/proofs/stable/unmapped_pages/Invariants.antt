use Rattle.std.proofs.Common.{◌≡◌, ◌+◌, ◌-◌, ◌≤◌, length}
use Rattle.st_rules.specs.Extents.{unmapped}
use Rattle.st_journal.proofs.CheckedChanges.{bare_from}
use Rattle.st_journal.proofs.stable.unmapped_pages.Given as goal

abbrev pub invariant-loop-place : goal.invariant-loop-place
invariant-loop-place l = record {
  pages : l.pages + bare_from l.extents l.file (l.page.0 + l.place) (l.count - l.place) ≡ length (unmapped l.extents l.file l.page l.count);
  few : l.pages ≤ l.place;
}
