use Rattle.st_move.proofs.Lifts.{may_serve}
use Rattle.st_move.proofs.mover.Mover.may_change.Goals as goal

pub returns-clause-ok : goal.returns-clause-ok
returns-clause-ok c = may_serve c.args.self.now.records c.args.c c.in_ok-record.record.now c.may_change.result c.in_ok-record.ensures.ok c.may_change.ensures
