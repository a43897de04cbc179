use Rattle.std.proofs.Common.{arith}
use Rattle.std.proofs.lemmas.Grind.{common_steps}
use Rattle.st_schedule_words.proofs.Words.{one_more, at_space, at_the_end}
use Rattle.st_schedule_words.proofs.word_values.split_word.Goals as goal

pub returns-then-bytes-at-eq32 : goal.returns-then-bytes-at-eq32
returns-then-bytes-at-eq32 c = grind (arith, common_steps, at_space c.args.bytes.now c.loop-at.at)

pub loop-at-preserved : goal.loop-at-preserved
loop-at-preserved c = record { in_range = omega arith; so_far = grind (arith, common_steps, one_more c.args.bytes.now c.loop-at.at) }

pub returns : goal.returns
returns c = grind (arith, common_steps, at_the_end c.args.bytes.now c.loop-at.at)
