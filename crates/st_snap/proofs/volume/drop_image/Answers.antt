use Rattle.st_lemmas.proofs.Words
use Words.{rules}
use Rattle.std.proofs.lemmas.Fn.{filter_same}
use Rattle.st_snap.proofs.volume.drop_image.Goals as goal

pub returns : goal.returns
returns c = filter_same _ _ _ (λ x b q k. search rules) _ _ c.retain.ensures.filtered
