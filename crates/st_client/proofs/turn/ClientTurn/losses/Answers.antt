use Rattle.st_lemmas.proofs.Words
use Words.{true, refl}
use Rattle.st_client.proofs.AllLast.{all_same}
use Rattle.st_client.proofs.turn.ClientTurn.losses.Goals as goal

pub at_each-requires : goal.at_each-requires
at_each-requires c = all_same true c.args.self.state.associations refl
