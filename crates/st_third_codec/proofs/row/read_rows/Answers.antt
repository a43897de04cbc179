use Rattle.std.proofs.lemmas.Result.{err_from_is_err_and}
use Rattle.st_codec_fields.specs.Decoder.{rows_at}
use Rattle.st_codec_fields.proofs.Loop.{goes_on, ends, is_done}
use Rattle.st_third_codec.proofs.row.read_rows.Goals as goal

pub returns-in_err-row : goal.returns-in_err-row
returns-in_err-row g c =
    let p = err_from_is_err_and c.from_residual.result c.from_residual.ensures.1 in
    rw (p.1, p.2)
    (ends c.in_err-row.field-0.0 g.T.WideRow.row_at g.T.Row.next c.loop.rows.items c.args.count c.loop.counter c.loop.least c.loop.rest.now
    (rows_at g.T.WideRow.row_at g.T.Row.next c.args.count c.args.least c.args.bytes.now) c.loop-test.true c.in_err-row.ensures c.loop.invariant)

pub loop-preserved : goal.loop-preserved
loop-preserved g c =
    rw (c.in_ok-push.ensures.items, c.next-least.ensures)
    (goes_on g.T.WideRow.row_at g.T.Row.next c.loop.rows.items c.args.count c.loop.counter c.loop.least c.loop.rest.now c.in_ok-row.row
    c.in_ok-row.after.now (rows_at g.T.WideRow.row_at g.T.Row.next c.args.count c.args.least c.args.bytes.now) c.loop-test.true c.in_ok-row.ensures
    c.loop.invariant)

pub returns : goal.returns
returns g c =
    rw c.from_vec.ensures
    (is_done g.T.WideRow.row_at g.T.Row.next c.loop.rows.items c.args.count c.loop.counter c.loop.least c.loop.rest.now
    (rows_at g.T.WideRow.row_at g.T.Row.next c.args.count c.args.least c.args.bytes.now) c.loop-test.false c.loop.invariant)
