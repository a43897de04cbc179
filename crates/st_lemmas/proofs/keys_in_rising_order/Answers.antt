use Rattle.st_lemmas.proofs.Keys.{rising_rises, rising_has_in, rising_has}
use Rattle.st_lemmas.proofs.keys_in_rising_order.Goals as goal

pub returns-clause-rises : goal.returns-clause-rises
returns-clause-rises c = rising_rises

pub returns-clause-told : goal.returns-clause-told
returns-clause-told c = rising_has_in

pub returns-clause-there : goal.returns-clause-there
returns-clause-there c = rising_has
