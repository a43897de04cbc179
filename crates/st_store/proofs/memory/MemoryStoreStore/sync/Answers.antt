use Rattle.std.proofs.Common.{refl}
use Rattle.st_store.specs.Plans as plans
use Rattle.st_store.proofs.StoreBytes.{sync_seen, sync_durable, sync_crash, sync_time, sync_cause}
use Rattle.st_store.proofs.Quiet.{sync_keeps}
use Rattle.st_store.proofs.memory.MemoryStoreStore.sync.Goals as goal

pub returns-clause-durable : goal.returns-clause-durable
returns-clause-durable c = sync_durable c.args.self.now c.sync_bytes.new.self (plans.outcome c.args.self.now.plan) c.sync_bytes.result c.sync_bytes.ensures.exact

pub returns-clause-seen : goal.returns-clause-seen
returns-clause-seen c = sync_seen c.args.self.now c.sync_bytes.new.self (plans.outcome c.args.self.now.plan) c.sync_bytes.result c.sync_bytes.ensures.exact

pub returns-clause-crash : goal.returns-clause-crash
returns-clause-crash c = sync_crash c.args.self.now c.sync_bytes.new.self (plans.outcome c.args.self.now.plan) c.sync_bytes.result c.sync_bytes.ensures.exact

pub returns-clause-time : goal.returns-clause-time
returns-clause-time c = sync_time c.args.self.now c.sync_bytes.new.self (plans.outcome c.args.self.now.plan) c.sync_bytes.result c.sync_bytes.ensures.exact

pub returns-clause-cause : goal.returns-clause-cause
returns-clause-cause c = sync_cause c.args.self.now c.sync_bytes.new.self c.sync_bytes.ensures.later (plans.outcome c.args.self.now.plan) c.sync_bytes.result c.sync_bytes.ensures.exact

pub returns-clause-kept : goal.returns-clause-kept
returns-clause-kept c = sync_keeps c.args.self.now c.sync_bytes.new.self (plans.outcome c.args.self.now.plan) c.sync_bytes.result refl c.sync_bytes.ensures.exact
