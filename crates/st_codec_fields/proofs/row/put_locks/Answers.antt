use Rattle.st_messages.specs.Ranges.{are_locks, is_lock_row, after_lock}
use Rattle.st_codec_fields.proofs.Rows.{each_fits}
use Rattle.st_codec_fields.proofs.row.put_locks.Goals as goal
use Rattle.std.proofs.lemmas.Bool.{and_parts}

pub put_rows-requires-clause-each : goal.put_rows-requires-clause-each
unfolding are_locks
put_rows-requires-clause-each c = each_fits is_lock_row after_lock 1 c.args.rows.now (and_parts _ _ c.requires).1
