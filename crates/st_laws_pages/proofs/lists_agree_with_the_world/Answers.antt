use Rattle.st_laws_pages.proofs.Causes.Law.{agree_law}
use Rattle.st_laws_pages.proofs.lists_agree_with_the_world.Goals as goal

pub returns : goal.returns
returns c = agree_law
