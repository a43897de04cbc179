use Rattle.std.proofs.Common.{ap, ◌∙◌, get_or}
use Rattle.st_base.specs.declared.mode.Mode.TheVariants as modes
use Rattle.st_lock_tables.specs.Calls.{is_lock_row, is_old_row}
use Rattle.st_lock_tables.proofs.Installing.{next_absent, next_free, one_of_all}
use Rattle.st_lock_tables.proofs.table.PlainTable.push_rows.Goals as goal

pub push_installed-requires-clause-new : goal.push_installed-requires-clause-new
push_installed-requires-clause-new c =
    next_absent c.args.client c.args.life c.loop-row.self.rows c.args.self.now.rows c.args.rows.now c.loop-row.row-index (0, record { 0 = 0 }, modes.None) (ap (λ l. l.rows) c.loop-row.invariant) c.requires.none c.requires.distinct c.loop-row-test.true

pub push_installed-requires-clause-free : goal.push_installed-requires-clause-free
push_installed-requires-clause-free c =
    next_free c.args.self.now c.args.client c.args.life c.loop-row.self.rows c.args.rows.now c.loop-row.row-index (0, record { 0 = 0 }, modes.None) (ap (λ l. l.rows) c.loop-row.invariant) c.requires.free c.loop-row-test.true

pub push_installed-requires-clause-lock : goal.push_installed-requires-clause-lock
push_installed-requires-clause-lock c = one_of_all is_lock_row c.args.rows.now c.loop-row.row-index (0, record { 0 = 0 }, modes.None) c.requires.modes c.loop-row-test.true

pub push_installed-requires-clause-earlier : goal.push_installed-requires-clause-earlier
push_installed-requires-clause-earlier c =
    ap (λ l. is_old_row l.epoch (get_or c.args.rows.now c.loop-row.row-index (0, record { 0 = 0 }, modes.None))) c.loop-row.invariant
    ∙ one_of_all (is_old_row c.args.self.now.epoch) c.args.rows.now c.loop-row.row-index (0, record { 0 = 0 }, modes.None) c.requires.earlier c.loop-row-test.true
