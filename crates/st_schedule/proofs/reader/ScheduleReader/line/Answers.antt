use Rattle.st_schedule.proofs.LinesAsSpelled.{answer_is_spelled, answer_is_read}
use Rattle.st_schedule.proofs.reader.ScheduleReader.line.Goals as goal

pub returns-clause-spelled : goal.returns-clause-spelled
returns-clause-spelled c = answer_is_spelled c.args.self.now c.step.new.self c.args.bytes.now c.step.result c.step.ensures

pub returns-clause-reads : goal.returns-clause-reads
returns-clause-reads c = answer_is_read c.args.self.now c.step.new.self c.args.bytes.now c.step.result c.step.ensures
