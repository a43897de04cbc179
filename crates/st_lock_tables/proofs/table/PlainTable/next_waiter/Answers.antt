use Rattle.std.proofs.Common.{sym}
use Rattle.st_tables.specs.Tables.{is_of_client, wait_key}
use Rattle.st_rules.specs.Locks.{is_wait_on}
use Rattle.st_lock_tables.specs.Calls.{is_wanted}
use Rattle.st_lock_tables.proofs.FoundRows.{found_is}
use Rattle.st_lock_tables.proofs.table.PlainTable.next_waiter.Goals as goal

pub returns-else-stands_against-clause-client : goal.returns-else-stands_against-clause-client
returns-else-stands_against-clause-client c = found_is (is_wait_on c.args.ino) (is_of_client wait_key) c.in_ok-w.w c.self.inside.waits c.len-waits.ensures.clients (sym c.in_ok-w.ensures)

pub returns-else-stands_against-clause-lock : goal.returns-else-stands_against-clause-lock
returns-else-stands_against-clause-lock c = found_is (is_wait_on c.args.ino) is_wanted c.in_ok-w.w c.self.inside.waits c.self.invariant.wanted (sym c.in_ok-w.ensures)
