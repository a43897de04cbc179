use Rattle.st_lemmas.proofs.Words
use Words.{subst}
use Rattle.st_shared.specs.History.{IsLedRightly}
use Rattle.st_shared.proofs.Led.{led_rightly}
use Rattle.st_shared.proofs.file.SharedFile.is_led_rightly.Goals as goal

pub returns : goal.returns
returns c = subst IsLedRightly c.self.view_is (led_rightly c.every_history_is_right.ensures c.self.inside.machine c.self.invariant)
