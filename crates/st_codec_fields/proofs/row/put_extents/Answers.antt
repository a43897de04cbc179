use Rattle.st_messages.specs.Ranges.{are_extents, is_extent_row, after_extent}
use Rattle.st_codec_fields.proofs.Rows.{each_fits}
use Rattle.st_codec_fields.proofs.row.put_extents.Goals as goal
use Rattle.std.proofs.lemmas.Bool.{and_parts}

pub put_rows-requires-clause-each : goal.put_rows-requires-clause-each
unfolding are_extents
put_rows-requires-clause-each c = each_fits is_extent_row after_extent 0 c.args.rows.now (and_parts _ _ c.requires).1
