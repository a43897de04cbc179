use Rattle.std.proofs.Common.{arith, refl}
use Rattle.st_store.specs.InMemory.{with_write}
use Rattle.st_store.specs.Plans as plans
use Rattle.st_store.proofs.StoreBytes.{length-seen, write_seen, write_crash, write_time, write_cause}
use Rattle.st_store.proofs.Quiet.{write_keeps}
use Rattle.st_store.proofs.memory.MemoryStoreStore.write.Goals as goal

pub write_bytes-requires : goal.write_bytes-requires
write_bytes-requires c = omega (arith, c.requires, length-seen c.args.self.now.contents)

pub returns-clause-bytes : goal.returns-clause-bytes
returns-clause-bytes c = write_seen c.args.self.now c.write_bytes.new.self c.args.at c.args.bytes.now (plans.outcome c.args.self.now.plan) c.write_bytes.result c.write_bytes.ensures.exact

pub returns-clause-crash : goal.returns-clause-crash
returns-clause-crash c = write_crash c.args.self.now c.write_bytes.new.self c.args.at c.args.bytes.now c.requires (plans.outcome c.args.self.now.plan) c.write_bytes.result c.write_bytes.ensures.exact

pub returns-clause-time : goal.returns-clause-time
returns-clause-time c = write_time c.args.self.now c.write_bytes.new.self c.args.at c.args.bytes.now (plans.outcome c.args.self.now.plan) c.write_bytes.result c.write_bytes.ensures.exact

pub returns-clause-cause : goal.returns-clause-cause
returns-clause-cause c = write_cause c.args.self.now c.write_bytes.new.self c.args.at c.args.bytes.now c.write_bytes.ensures.later (plans.outcome c.args.self.now.plan) c.write_bytes.result c.write_bytes.ensures.exact

pub returns-clause-kept : goal.returns-clause-kept
returns-clause-kept c = write_keeps c.args.self.now c.write_bytes.new.self (with_write c.args.self.now.contents c.args.at c.args.bytes.now) refl (plans.outcome c.args.self.now.plan) c.write_bytes.result refl c.write_bytes.ensures.exact
