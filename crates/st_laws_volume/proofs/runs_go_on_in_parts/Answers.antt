use Rattle.st_laws_volume.proofs.Parts.{in_parts}
use Rattle.st_laws_volume.proofs.runs_go_on_in_parts.Goals as goal

pub returns : goal.returns
returns c = in_parts
