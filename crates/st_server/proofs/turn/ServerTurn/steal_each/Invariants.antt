use Rattle.st_lemmas.proofs.Words
use Words.{◌≡◌, drop}
use Words.Server.{steal_each, crash}
use Rattle.st_server.proofs.turn.ServerTurn.steal_each.Given as goal

abbrev pub invariant-loop-client : goal.invariant-loop-client
invariant-loop-client l =
    record {
      done : steal_each (drop l.client-index l.clients) l.self ≡ steal_each l.clients l.fn.self;
      kept : crash l.self.state ≡ crash l.fn.self.state;
    }
