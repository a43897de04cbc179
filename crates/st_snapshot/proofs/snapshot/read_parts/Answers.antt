use Rattle.std.proofs.Common.{◌≡◌, length, rules}
use Rattle.std.proofs.lemmas.Result.{err_from_is_err_and}
use Rattle.st_snapshot.proofs.Read.{after_short, entries_refused, nothing_more, pages_refused, parts_read}
use Rattle.st_snapshot.proofs.snapshot.read_parts.Goals as goal

pub returns-in_err-behind-clause-err : goal.returns-in_err-behind-clause-err
returns-in_err-behind-clause-err c =
    let p = err_from_is_err_and c.from_residual.result c.from_residual.ensures.1 in
    let k = c.split_counters in
    rw (p.1, p.2) (entries_refused c.args.bytes.now k.result.1.now k.result.0 c.in_err-behind.field-0.0 k.ensures.bytes k.ensures.fits c.in_err-behind.ensures.err)

pub returns-in_err-more-clause-err : goal.returns-in_err-more-clause-err
returns-in_err-more-clause-err c =
    let p = err_from_is_err_and c.from_residual-in_err-more.result c.from_residual-in_err-more.ensures.1 in
    let k = c.split_counters in
    rw (p.1, p.2)
    (pages_refused c.args.bytes.now k.result.1.now c.in_ok-behind.behind.now k.result.0 c.read_entries.new.entries.items c.in_err-more.field-0.0 k.ensures.bytes k.ensures.fits
    c.in_ok-behind.ensures.ok c.in_err-more.ensures.err)

pub overflow_sub-at : goal.overflow_sub-at
overflow_sub-at c =
    let k = c.split_counters in
    (after_short c.args.bytes.now k.result.1.now c.in_ok-behind.behind.now c.in_ok-more.more.now k.result.0 c.read_entries.new.entries.items c.read_pages.new.pages.items k.ensures.bytes
    c.in_ok-behind.ensures.ok c.in_ok-more.ensures.ok).1

pub returns-clause-ok : goal.returns-clause-ok
returns-clause-ok c =
    let k = c.split_counters in
    let es = c.read_entries.new.entries.items in
    let xs = c.read_pages.new.pages.items in
    let whole = parts_read c.args.bytes.now k.result.1.now c.in_ok-behind.behind.now c.in_ok-more.more.now k.result.0 es xs k.ensures.bytes k.ensures.fits c.in_ok-behind.ensures.ok
    c.in_ok-more.ensures.ok in
    let none : length c.in_ok-more.more.now ≡ 0 = search rules in
    nothing_more c.args.bytes.now c.in_ok-more.more.now k.result.0 es xs whole none
