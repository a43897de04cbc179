use Rattle.std.proofs.Common.{◌≡◌, ◌≤◌, ap, arith, length}
use Rattle.st_rules.specs.declared.names.NameEntry.{NameEntry}
use Rattle.st_namespace.proofs.Rows.{rows_end, rows_full, rows_left, rows_past}
use Rattle.st_namespace.proofs.listing.rows_from.Goals as goal

pub returns-then-len-ge256 : goal.returns-then-len-ge256
returns-then-len-ge256 c =
    let full : length c.loop-place.rows.items ≡ 256 = omega (arith, c.if-len-ge256.true, c.len.ensures, c.loop-place.rows.ok.0, c.loop-place.invariant.few) in
    rows_full c.args.dir c.args.sorted.now c.requires.order (rows_left c.args.dir c.args.sorted.now c.args.start) c.loop-place.place c.loop-place.rows.items full c.loop-place.invariant.rows

pub returns-then-entry-dir : goal.returns-then-entry-dir
returns-then-entry-dir c =
    let ahead = c.requires.ahead c.loop-place.place c.index-sorted-place.result c.loop-place.auto.place c.loop-place-test.true in
    let same : c.index-sorted-place.result.dir ≡ _ = ap (λ (e : NameEntry). e.dir) c.index-sorted-place.is in
    let up : c.args.dir ≤ c.index-sorted-place.result.dir = omega (arith, ahead, same) in
    rows_past c.args.dir c.args.sorted.now c.requires.order (rows_left c.args.dir c.args.sorted.now c.args.start) c.loop-place.place c.index-sorted-place.result c.loop-place.rows.items c.loop-place-test.true c.index-sorted-place.is c.if-entry-dir.true
    up c.loop-place.invariant.few c.loop-place.invariant.rows

pub returns : goal.returns
returns c =
    rows_end c.args.dir c.args.sorted.now c.requires.order (rows_left c.args.dir c.args.sorted.now c.args.start) c.loop-place.place c.loop-place.rows.items c.loop-place-test.false c.loop-place.invariant.few c.loop-place.invariant.rows
