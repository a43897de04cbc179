use Rattle.std.proofs.Common.{arith, refl}
use Rattle.std.specs.Prelude.{codes}
use Rattle.st_tank.specs.Uses.{stream_use}
use Rattle.st_tank.specs.Words.{fault_text}
use Rattle.st_tank.proofs.Explained.{explained_by}
use Rattle.st_tank.proofs.program.explained.Goals as goal

pub returns-in-3-clause-explained : goal.returns-in-3-clause-explained
unfolding fault_text
returns-in-3-clause-explained g c =
    explained_by c.args.status 3 (stream_use g.E.Sink.written g.E.Sink.faults c.args.err.now c.tell.new.err)
    (codes "tank: read failed\n") c.in-3.is (omega arith) refl
    c.tell.ensures

pub returns-in-4-clause-explained : goal.returns-in-4-clause-explained
unfolding fault_text
returns-in-4-clause-explained g c =
    explained_by c.args.status 4 (stream_use g.E.Sink.written g.E.Sink.faults c.args.err.now c.tell-in-4.new.err)
    (codes "tank: write failed\n") c.in-4.is (omega arith) refl
    c.tell-in-4.ensures

pub returns-in-5-clause-explained : goal.returns-in-5-clause-explained
unfolding fault_text
returns-in-5-clause-explained g c =
    explained_by c.args.status 5 (stream_use g.E.Sink.written g.E.Sink.faults c.args.err.now c.tell-in-5.new.err)
    (codes "tank: out of memory\n") c.in-5.is (omega arith) refl
    c.tell-in-5.ensures
