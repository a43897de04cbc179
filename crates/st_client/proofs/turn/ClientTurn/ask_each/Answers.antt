use Rattle.st_lemmas.proofs.Words
use Words.{◌≡◌, true, ap, ◌∙◌}
use Words.ClientInvariants.{all_last}
use Words.ClientState.{ClientTurn, at_each, only_at, server_of}
use Words.Ranges.{is_ask}
use Words.Client.{take_ask}
use Rattle.st_client.proofs.Advancing.{ok_by}
use Rattle.st_client.proofs.AllLast.{all_same, taken_last}
use Rattle.st_client.proofs.turn.ClientTurn.ask_each.Goals as goal

pub at_each-requires : goal.at_each-requires
at_each-requires c = all_same (is_ask c.args.ask.now) c.args.self.state.associations c.requires.fits

pub returns-clause-last : goal.returns-clause-last
returns-clause-last c =
    ok_by c.at_each.result (λ t. t ≡ at_each (only_at (server_of c.args.ask.now) (take_ask c.args.op c.args.ask.now)) c.args.self) (λ t. all_last t.state c.args.now ≡ true)
    (λ t h. ap (λ (u : ClientTurn). all_last u.state c.args.now) h ∙ taken_last c.args.now (server_of c.args.ask.now) c.args.op c.args.ask.now c.args.self c.requires.last) c.at_each.ensures
