use Rattle.st_shared.proofs.OneRow.{forgotten_holder, forgotten_table}
use Rattle.st_shared.proofs.rows.drop_lock.Goals as goal

pub returns-clause-table : goal.returns-clause-table
returns-clause-table c = forgotten_table c.args.locks.now c.forget.new.self c.args.client c.forget.ensures c.requires.table c.requires.held

pub returns-clause-free : goal.returns-clause-free
returns-clause-free c = forgotten_holder c.args.locks.now c.forget.new.self c.args.client c.forget.ensures c.requires.table c.requires.held
