use Rattle.st_lemmas.proofs.Words
use Words.{ap}
use Words.ClientState.{ClientState}
use Rattle.st_client.proofs.Running.{start_is}
use Rattle.st_client.proofs.lives.started.Goals as goal

pub loop-i-init : goal.loop-i-init
loop-i-init c =
    record {
      is = start_is c.args.id c.args.config.now c.args.servers.now c.args.lives.now c.in_ok-state.state c.in_ok-state.ensures;
      config = ap (λ (s : ClientState). s.config) c.in_ok-state.ensures;
      known = c.requires.known;
      low = c.requires.low;
    }
