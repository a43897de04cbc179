use Rattle.std.proofs.Common.{◌≡◌, ◌++◌, length, take}
use Rattle.std.specs.List.{flat_map}
use Rattle.st_codec_fields.specs.Spelling.{word16}
use Rattle.st_third_codec.proofs.row.put_rows.Given as goal

abbrev pub invariant-loop-row : goal.invariant-loop-row
invariant-loop-row g l = l.out.items ≡ l.fn.out.items ++ word16 (length l.rows) ++ flat_map g.T.WideRow.spell (take l.row-index l.rows)
