use Rattle.st_lemmas.proofs.Words
use Words.{◌≡◌}
use Words.ClientReplies.{receive_at}
use Rattle.st_client.specs.Machines.{Advances}
use Rattle.st_client.proofs.ReceiveGrows.{receive_grows}
use Rattle.st_client.proofs.Advancing.{advances_to, ok_by}
use Rattle.st_client.proofs.rules.ReceiveRule.apply.Goals as goal

pub returns-clause-advances : goal.returns-clause-advances
returns-clause-advances c =
    let m = c.args.self.now.message.now in
    let run = receive_at c.args.self.now.now m.header m.body in
    ok_by c.receive_at.result (λ u. u ≡ run c.args.turn) (λ u. Advances c.args.turn u) (λ u h. advances_to run (receive_grows c.args.self.now.now m.header m.body) c.args.turn u h) c.receive_at.ensures
