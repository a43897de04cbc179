use Rattle.st_lemmas.proofs.Words
use Words.{◌≡◌, true, ap, ◌∙◌, ◌^◌, nat_le}
use Words.ClientInvariants.{all_last, lasts_here}
use Words.ClientState.{ClientTurn, at_each}
use Words.ClientReplies.{receive_at}
use Rattle.st_client.proofs.Advancing.{ok_by}
use Rattle.st_client.proofs.AllLast.{all_both, received_last}
use Rattle.st_client.proofs.turn.ClientTurn.receive_here.Goals as goal
use Rattle.std.proofs.lemmas.Bool.{le-leb}

pub at_each-requires : goal.at_each-requires
at_each-requires c = all_both (nat_le c.args.now.0 (2 ^ 62)) (lasts_here c.args.self.state.config c.args.now) c.args.self.state.associations
    (le-leb c.args.now.0 (2 ^ 62) c.requires.time) c.requires.last

pub returns-clause-last : goal.returns-clause-last
returns-clause-last c =
    ok_by c.at_each.result (λ t. t ≡ at_each (receive_at c.args.now c.args.message.now.header c.args.message.now.body) c.args.self) (λ t. all_last t.state c.args.now ≡ true)
    (λ t h. ap (λ (u : ClientTurn). all_last u.state c.args.now) h ∙ received_last c.args.now c.args.message.now.header c.args.message.now.body c.args.self c.requires.last) c.at_each.ensures
