use Rattle.std.proofs.Common.{refl}
use Rattle.st_base.specs.Page.{filled}
use Rattle.st_rows_world.specs.GeneratedWords.{rows_open}
use Rattle.st_rows_world.proofs.generated_texts.seed_9.Goals as goal

pub returns-clause-schedule : goal.returns-clause-schedule
unfolding rows_open filled
returns-clause-schedule c = refl
