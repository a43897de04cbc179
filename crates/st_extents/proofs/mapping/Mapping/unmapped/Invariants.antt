use Rattle.std.proofs.Common.{◌≡◌, ◌-◌, ◌≤◌, ◌+◌, ◌++◌, vec_len}
use Rattle.st_extents.specs.Layout.{unmapped_of}
use Rattle.st_extents.proofs.Blocks.{pages_left}
use Rattle.st_extents.proofs.mapping.Mapping.unmapped.Given as goal

abbrev pub invariant-loop-place : goal.invariant-loop-place
invariant-loop-place l = record {
  pages : l.pages.items ++ pages_left l.self.rows l.file (l.page.0 + l.place) (l.count - l.place) ≡ unmapped_of l.self.rows l.file l.page l.count;
  few : vec_len l.pages ≤ l.place;
}
