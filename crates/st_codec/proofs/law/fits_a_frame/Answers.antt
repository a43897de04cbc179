use Rattle.st_codec.proofs.Framed.{size_bound}
use Rattle.st_codec.proofs.law.fits_a_frame.Goals as goal

pub returns : goal.returns
returns c = size_bound
