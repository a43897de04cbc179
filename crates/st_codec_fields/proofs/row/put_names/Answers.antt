use Rattle.st_messages.specs.Ranges.{are_names, is_name_row, after_name}
use Rattle.st_codec_fields.proofs.Rows.{each_fits}
use Rattle.st_codec_fields.proofs.row.put_names.Goals as goal
use Rattle.std.proofs.lemmas.Bool.{and_parts}

pub put_rows-requires-clause-each : goal.put_rows-requires-clause-each
unfolding are_names
put_rows-requires-clause-each c = each_fits is_name_row after_name 1 c.args.rows.now (and_parts _ _ c.requires).1
