use Rattle.st_journal.proofs.Moments.{rested}
use Rattle.st_journal.proofs.scan.read_bytes.Goals as goal

pub returns-clause-rests : goal.returns-clause-rests
returns-clause-rests g c = rested g.D.Store.moment g.D.Store.left_since g.D.Store.keeps g.D.Store.may_leave c.args.store.now c.read.new.self (g.met.D.Store.only_now c.args.store.now) c.read.ensures.time c.read.ensures.crash c.read.ensures.kept
