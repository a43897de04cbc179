use Rattle.std.proofs.Common.{◌≡◌, ◌+◌, ◌∙◌, sym, ap, arith, length, filter, lt-ltb, le-ltb}
use Rattle.std.specs.Prelude.{nat_lt}
use Rattle.st_rules.specs.Locks.{Locks, files_of, is_row_by}
use Rattle.st_lock_tables.specs.Calls.{has_no_row, waits_alone}
use Rattle.st_lock_tables.proofs.FoundRows.{lt_shift}
use Rattle.st_lock_tables.proofs.AloneFiles.{alone_among}
use Rattle.st_lock_tables.proofs.Files.{files_counted, fewer_alone}
use Rattle.st_lock_tables.proofs.table.PlainTable.has_few.Goals as goal

pub returns-then-rows-ge1024 : goal.returns-then-rows-ge1024
returns-then-rows-ge1024 c =
    let l : Locks =
    record { epoch = c.self.inside.epoch; grants = c.self.inside.grants; rows = c.self.inside.rows; waiters = c.self.inside.waits; limit = 1024 } in
    let n : length (files_of l c.args.client) ≡ length (filter (is_row_by c.args.client) l.rows) + length (filter (waits_alone l.rows c.args.client) l.waiters) = files_counted l c.args.client c.len-rows.ensures.distinct c.len-waits.ensures.distinct in
    rw (← c.self.view_is) (sym (le-ltb (length (files_of l c.args.client)) 1024 (omega (arith, n, c.count-rows.ensures, c.if-rows-ge1024.true))))

pub returns-then-count-rows : goal.returns-then-count-rows
returns-then-count-rows c =
    let l : Locks =
    record { epoch = c.self.inside.epoch; grants = c.self.inside.grants; rows = c.self.inside.rows; waiters = c.self.inside.waits; limit = 1024 } in
    let n : length (files_of l c.args.client) ≡ length (filter (is_row_by c.args.client) l.rows) + length (filter (waits_alone l.rows c.args.client) l.waiters) = files_counted l c.args.client c.len-rows.ensures.distinct c.len-waits.ensures.distinct in
    rw (← c.self.view_is) (sym (lt-ltb (length (files_of l c.args.client)) 1024 (omega (arith, n, c.count-rows.ensures, c.if-rows-ge1024.false, c.count.ensures, c.if-count-rows.true, fewer_alone l c.args.client))))

pub returns : goal.returns
returns c =
    let l : Locks =
    record { epoch = c.self.inside.epoch; grants = c.self.inside.grants; rows = c.self.inside.rows; waiters = c.self.inside.waits; limit = 1024 } in
    let n : length (files_of l c.args.client) ≡ length (filter (is_row_by c.args.client) l.rows) + length (filter (waits_alone l.rows c.args.client) l.waiters) = files_counted l c.args.client c.len-rows.ensures.distinct c.len-waits.ensures.distinct in
    let m : length (filter (has_no_row l.rows c.args.client) c.as_slice.result.now) ≡ length (filter (waits_alone l.rows c.args.client) l.waiters) = ap (λ fs. length (filter (has_no_row l.rows c.args.client) fs)) (c.as_slice.ensures.value ∙ c.in_ok-files.ensures) ∙ alone_among l c.args.client c.len-rows.ensures.distinct c.len-waits.ensures.distinct in
    let k : c.count-rows.result + c.count_alone.result ≡ length (files_of l c.args.client) = omega (arith, n, m, c.count-rows.ensures, c.count_alone.ensures) in
    rw (← c.self.view_is) (lt_shift c.count_alone.result c.count-rows.result (omega (arith, c.if-rows-ge1024.false)) ∙ ap (λ x. nat_lt x 1024) k)
