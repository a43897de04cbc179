use Rattle.std.proofs.Common.{false}
use Rattle.st_journal.specs.Parts.{stable_of}
use Rattle.st_journal.proofs.OpenedJournal.{not_opened, only_faults, opens, opens_at_rest, opens_records}
use Rattle.st_journal.proofs.Unique.{prefix_state}
use Rattle.st_journal.proofs.journal.Journal.reopen.Goals as goal

pub invariant_of-journal : goal.invariant_of-journal
invariant_of-journal g c = λ whole.
    opens_at_rest g.D.Store.seen g.D.Store.may_leave c.requires.known.0 c.args.store c.read_synced.new.store c.in-Ok.scanned
    (stable_of c.read_synced.new.stable)
    (c.in-Ok.ensures.read c.requires.known.0 c.requires.known.1) c.in-Ok.ensures.seen c.in-Ok.ensures.durable c.requires.small

pub returns-in-Ok-clause-ok : goal.returns-in-Ok-clause-ok
returns-in-Ok-clause-ok g c = λ start known.
    opens g.D.Store.seen g.D.Store.may_leave start c.args.store c.read_synced.new.store c.in-Ok.scanned (stable_of c.read_synced.new.stable)
    (c.in-Ok.ensures.read start known) c.in-Ok.ensures.seen
    c.in-Ok.ensures.durable

pub returns-in-Ok-clause-prefix : goal.returns-in-Ok-clause-prefix
returns-in-Ok-clause-prefix g c = λ start acked under_way last known leads has.
    let read = c.in-Ok.ensures.read start known in
    prefix_state start (g.D.Store.seen c.args.store) acked under_way read.changes (stable_of c.read_synced.new.stable) has read.stands

pub returns-in-Ok-clause-records : goal.returns-in-Ok-clause-records
returns-in-Ok-clause-records g c = λ acked journal.
    let start = c.requires.known.0 in
    opens_records g.D.Store.seen g.D.Store.may_leave start c.args.store
    (record { store = c.read_synced.new.store; gate = c.in-Ok.scanned.gate; changes = c.in-Ok.scanned.changes; broken = false })
    (stable_of c.read_synced.new.stable)
    (opens g.D.Store.seen g.D.Store.may_leave start c.args.store c.read_synced.new.store c.in-Ok.scanned (stable_of c.read_synced.new.stable)
    (c.in-Ok.ensures.read start c.requires.known.1) c.in-Ok.ensures.seen
    c.in-Ok.ensures.durable) acked journal

pub returns-in-Err-clause-err : goal.returns-in-Err-clause-err
returns-in-Err-clause-err g c = λ start known.
    not_opened start (g.D.Store.seen c.args.store) (g.D.Store.faults c.args.store) (g.D.Store.faults c.read_synced.new.store) c.in-Err.fault
    (c.in-Err.ensures.fault start known)

pub returns-in-Err-clause-prefix : goal.returns-in-Err-clause-prefix
returns-in-Err-clause-prefix g c = λ start acked under_way last known leads has.
    only_faults start (g.D.Store.seen c.args.store) (g.D.Store.faults c.args.store) (g.D.Store.faults c.read_synced.new.store) c.in-Err.fault
    (c.in-Err.ensures.fault start known) acked under_way last leads has
