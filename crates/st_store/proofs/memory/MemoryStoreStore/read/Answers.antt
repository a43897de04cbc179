use Rattle.std.proofs.Common.{arith, refl}
use Rattle.st_store.specs.Plans as plans
use Rattle.st_store.proofs.StoreBytes.{length-seen, read_seen, read_within, read_time, read_cause}
use Rattle.st_store.proofs.Quiet.{read_keeps}
use Rattle.st_store.proofs.memory.MemoryStoreStore.read.Goals as goal

pub read_bytes-requires : goal.read_bytes-requires
read_bytes-requires c = omega (arith, c.requires, length-seen c.args.self.now.contents)

pub returns-clause-seen : goal.returns-clause-seen
returns-clause-seen c = read_seen c.args.self.now c.read_bytes.new.self (plans.outcome c.args.self.now.plan) c.read_bytes.result c.read_bytes.ensures.exact

pub returns-clause-crash : goal.returns-clause-crash
returns-clause-crash c = read_within c.args.self.now c.read_bytes.new.self (plans.outcome c.args.self.now.plan) c.read_bytes.result c.read_bytes.ensures.exact

pub returns-clause-time : goal.returns-clause-time
returns-clause-time c = read_time c.args.self.now c.read_bytes.new.self (plans.outcome c.args.self.now.plan) c.read_bytes.result c.read_bytes.ensures.exact

pub returns-clause-cause : goal.returns-clause-cause
returns-clause-cause c = read_cause c.args.self.now c.read_bytes.new.self c.read_bytes.ensures.later (plans.outcome c.args.self.now.plan) c.read_bytes.result c.read_bytes.ensures.exact

pub returns-clause-kept : goal.returns-clause-kept
returns-clause-kept c = read_keeps c.args.self.now c.read_bytes.new.self (plans.outcome c.args.self.now.plan) c.read_bytes.result refl c.read_bytes.ensures.exact
