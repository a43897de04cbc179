use Rattle.std.proofs.Common.{length}
use Rattle.st_journal.proofs.TornWrites.{write_moments, sync_moments}
use Rattle.st_journal.proofs.record.write_synced.Goals as goal

pub returns-in_err-write-clause-any_moment : goal.returns-in_err-write-clause-any_moment
returns-in_err-write-clause-any_moment g c =
    write_moments g.D.Store.may_leave g.D.Store.moment g.D.Store.left_since c.args.at (length c.args.bytes.now) (g.D.Store.seen c.args.store.now) c.args.store.now c.write.new.self
    (g.met.D.Store.only_now c.args.store.now) c.requires.durable c.write.ensures.crash c.write.ensures.time

pub returns-clause-any_moment : goal.returns-clause-any_moment
returns-clause-any_moment g c =
    sync_moments g.D.Store.may_leave g.D.Store.moment g.D.Store.left_since c.args.at (length c.args.bytes.now) (g.D.Store.seen c.args.store.now) c.args.store.now c.write.new.self
    (g.met.D.Store.only_now c.args.store.now) c.requires.durable c.write.ensures.crash c.write.ensures.time c.sync.new.self c.sync.ensures.crash c.sync.ensures.time
