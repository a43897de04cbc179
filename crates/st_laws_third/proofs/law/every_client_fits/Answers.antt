use Rattle.st_laws_third.proofs.Sound.{every_client_fits}
use Rattle.st_laws_third.proofs.law.every_client_fits.Goals as goal

pub returns : goal.returns
returns c = every_client_fits
