use Rattle.st_lemmas.proofs.Words
use Words.{◌≡◌, true, refl, ap, ◌∙◌}
use Words.ClientInvariants.{all_last}
use Words.ClientState.{ClientTurn, at_each}
use Words.Client.{finish}
use Rattle.st_client.proofs.Advancing.{ok_by}
use Rattle.st_client.proofs.AllLast.{all_same, done_last}
use Rattle.st_client.proofs.turn.ClientTurn.done.Goals as goal

pub at_each-requires : goal.at_each-requires
at_each-requires c = all_same true c.args.self.state.associations refl

pub returns-clause-last : goal.returns-clause-last
returns-clause-last c =
    ok_by c.at_each.result (λ t. t ≡ at_each (finish c.args.number c.args.ended.now) c.args.self) (λ t. all_last t.state c.args.now ≡ true)
    (λ t h. ap (λ (u : ClientTurn). all_last u.state c.args.now) h ∙ done_last c.args.now c.args.number c.args.ended.now c.args.self c.requires.last) c.at_each.ensures
