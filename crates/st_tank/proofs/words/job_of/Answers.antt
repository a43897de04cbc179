use Rattle.std.proofs.Common.{arith, string_bytes}
use Rattle.st_tank.proofs.TwoWords.{two_words}
use Rattle.st_tank.proofs.words.job_of.Goals as goal

pub returns-in_default-2-clause-exact : goal.returns-in_default-2-clause-exact
returns-in_default-2-clause-exact c = two_words string_bytes c.args.words.now (omega arith)
