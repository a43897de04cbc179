use Rattle.std.proofs.Common.{arith}
use Rattle.std.proofs.lemmas.Grind.{common_steps}
use Rattle.st_schedule_words.proofs.LineFronts.{one_more, at_newline, at_the_end}
use Rattle.st_schedule_words.proofs.lines.split_line.Goals as goal

pub returns-then-bytes-at-eq10-clause-lines : goal.returns-then-bytes-at-eq10-clause-lines
returns-then-bytes-at-eq10-clause-lines c = grind (arith, common_steps, at_newline c.args.bytes.now c.loop-at.at)

pub loop-at-preserved : goal.loop-at-preserved
loop-at-preserved c = record { in_range = omega arith; so_far = grind (arith, common_steps, one_more c.args.bytes.now c.loop-at.at) }

pub returns-clause-lines : goal.returns-clause-lines
returns-clause-lines c = grind (arith, common_steps, at_the_end c.args.bytes.now c.loop-at.at)
