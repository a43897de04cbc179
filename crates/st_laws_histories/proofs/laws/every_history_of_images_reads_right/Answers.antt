use Rattle.st_laws_histories.proofs.ImageHistories.{every_image}
use Rattle.st_laws_histories.proofs.laws.every_history_of_images_reads_right.Goals as goal

pub returns : goal.returns
returns c = every_image
