use Rattle.std.proofs.Common.{◌≡◌, filter, length, not}
use Rattle.st_rules.specs.Extents.{is_at_or_behind}
use Rattle.st_extents.specs.Places.{IsLaid}
use Rattle.st_extents.proofs.mapping.release_all.Given as goal

abbrev pub invariant-pages : goal.invariant-pages
invariant-pages l = record {
  laid : IsLaid l.own l.taken l.runs.rows;
  rows : filter (λ e. not (is_at_or_behind l.file l.page e)) l.runs.rows ≡ filter (λ e. not (is_at_or_behind l.file l.page e)) l.fn.runs.rows;
  births : l.runs.births ≡ l.fn.runs.births;
}

abbrev pub decreases-pages : goal.decreases-pages
decreases-pages l = length l.runs.rows
