use Rattle.std.proofs.Common.{refl}
use Rattle.st_base.specs.Page.{filled}
use Rattle.st_rows_world.specs.GeneratedWords.{rows_open}
use Rattle.st_rows_world.proofs.generated_candidates.write.Goals as goal

pub returns-clause-full : goal.returns-clause-full
unfolding rows_open filled
returns-clause-full c = refl

pub returns-clause-first : goal.returns-clause-first
unfolding rows_open filled
returns-clause-first c = refl

pub returns-clause-none : goal.returns-clause-none
unfolding rows_open filled
returns-clause-none c = refl
