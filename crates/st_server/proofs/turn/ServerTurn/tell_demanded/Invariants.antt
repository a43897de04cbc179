use Rattle.st_lemmas.proofs.Words
use Words.{◌≡◌, drop}
use Words.Server.{tell_demanded, crash}
use Rattle.st_server.proofs.turn.ServerTurn.tell_demanded.Given as goal

abbrev pub invariant-loop-demand : goal.invariant-loop-demand
invariant-loop-demand l =
    record {
      done : tell_demanded (drop l.demand-index l.due) l.self ≡ tell_demanded l.due l.fn.self;
      kept : crash l.self.state ≡ crash l.fn.self.state;
    }
