use Rattle.st_lemmas.proofs.Words
use Words.{◌≡◌, drop}
use Words.Server.{suspect_each, crash}
use Rattle.st_server.proofs.turn.ServerTurn.suspect_each.Given as goal

abbrev pub invariant-loop-client : goal.invariant-loop-client
invariant-loop-client l =
    record {
      done : suspect_each l.now (drop l.client-index l.clients) l.self ≡ suspect_each l.now l.clients l.fn.self;
      kept : crash l.self.state ≡ crash l.fn.self.state;
    }
