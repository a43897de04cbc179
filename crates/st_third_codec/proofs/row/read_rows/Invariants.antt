use Rattle.std.proofs.Common.{◌≡◌, ◌-◌}
use Rattle.st_codec_fields.specs.Decoder.{rows_at}
use Rattle.st_codec_fields.proofs.Loop.{with_front}
use Rattle.st_third_codec.proofs.row.read_rows.Given as goal

abbrev pub invariant-loop : goal.invariant-loop
invariant-loop g l = with_front l.rows.items (rows_at g.T.WideRow.row_at g.T.Row.next (l.count - l.counter) l.least l.rest) ≡ rows_at g.T.WideRow.row_at
    g.T.Row.next l.count l.fn.least l.bytes
