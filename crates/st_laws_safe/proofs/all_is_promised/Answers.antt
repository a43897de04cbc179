use Rattle.st_laws_safe.proofs.Gathered.{all_promised}
use Rattle.st_laws_safe.proofs.all_is_promised.Goals as goal

pub returns : goal.returns
returns c = all_promised
