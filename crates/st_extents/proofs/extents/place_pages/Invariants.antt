use Rattle.std.proofs.Common.{◌≡◌, ◌+◌, ◌-◌, ◌≤◌, drop, filter, length, take}
use Rattle.st_rules.specs.Extents as extents
use Rattle.st_extents.specs.Layout.{AreFresh, Shape, none_at, with_shape}
use Rattle.st_extents.specs.Places.{AreAdded}
use Rattle.st_extents.proofs.extents.place_pages.Given as goal

abbrev pub invariant-loop-place : goal.invariant-loop-place
invariant-loop-place l = record {
  placed : (s : Shape) → l.fn.mapping.own ≡ extents.own_blocks (extents.no_extents s.server s.servers s.disks s.blocks) → extents.place_pages l.file (drop l.place l.pages) (with_shape s l.mapping.rows l.mapping.births) ≡ extents.place_pages l.file l.pages (with_shape s l.fn.mapping.rows l.fn.mapping.births);
  own : l.mapping.own ≡ l.fn.mapping.own;
  room : length l.pages - l.place ≤ length (filter (none_at l.mapping.rows) l.fn.mapping.own);
  births : l.mapping.births ≡ l.fn.mapping.births + l.place;
  added : AreAdded l.fn.mapping.rows l.fn.mapping.births l.file (take l.place l.pages) l.mapping.rows;
  fresh : AreFresh l.mapping.rows l.file (drop l.place l.pages);
}
