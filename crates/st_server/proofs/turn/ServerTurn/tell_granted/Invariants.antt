use Rattle.st_lemmas.proofs.Words
use Words.{◌≡◌, drop}
use Words.Server.{tell_granted, crash}
use Rattle.st_server.proofs.turn.ServerTurn.tell_granted.Given as goal

abbrev pub invariant-loop-grant : goal.invariant-loop-grant
invariant-loop-grant l =
    record {
      done : tell_granted (drop l.grant-index l.granted) l.self ≡ tell_granted l.granted l.fn.self;
      kept : crash l.self.state ≡ crash l.fn.self.state;
    }
