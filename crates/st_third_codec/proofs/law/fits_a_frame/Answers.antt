use Rattle.st_third_codec.proofs.Rooms.{fits_in_frame}
use Rattle.st_third_codec.proofs.law.fits_a_frame.Goals as goal

pub returns : goal.returns
returns c = fits_in_frame
