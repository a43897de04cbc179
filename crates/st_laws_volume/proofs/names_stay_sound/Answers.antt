use Rattle.st_laws_volume.proofs.TreeSound.{stay_sound}
use Rattle.st_laws_volume.proofs.names_stay_sound.Goals as goal

pub returns : goal.returns
returns c = stay_sound
