use Rattle.st_messages.specs.Ranges.{are_lost, is_lost_row, after_lost}
use Rattle.st_codec_fields.proofs.Rows.{each_fits}
use Rattle.st_codec_fields.proofs.row.put_lost.Goals as goal
use Rattle.std.proofs.lemmas.Bool.{and_parts}

pub put_rows-requires-clause-each : goal.put_rows-requires-clause-each
unfolding are_lost
put_rows-requires-clause-each c = each_fits is_lost_row after_lost 0 c.args.rows.now (and_parts _ _ c.requires).1
