use Rattle.st_lemmas.proofs.Words
use Words.{◌≡◌}
use Words.Client.{lose}
use Rattle.st_client.specs.Machines.{Advances}
use Rattle.st_client.proofs.InputsGrow.{lose_grows}
use Rattle.st_client.proofs.Advancing.{advances_to, ok_by}
use Rattle.st_client.proofs.rules.LoseRule.apply.Goals as goal

pub returns-clause-advances : goal.returns-clause-advances
returns-clause-advances c =
    let run = lose c.args.self.now.now in
    ok_by c.lose.result (λ u. u ≡ run c.args.turn) (λ u. Advances c.args.turn u) (λ u h. advances_to run (lose_grows c.args.self.now.now) c.args.turn u h) c.lose.ensures
