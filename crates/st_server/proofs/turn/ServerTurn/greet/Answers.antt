use Rattle.st_lemmas.proofs.Words
use Words.{◌∙◌}
use Words.Locks.{has_rows}
use Words.Sessions as sessions
use Words.Server.{ServerTurn, life_in}
use Rattle.std.proofs.lemmas.Result.{on_ok_weaker}
use Rattle.st_server.specs.Parts.{stable_of}
use Rattle.st_server.proofs.Crashes.{greet_told}
use Rattle.st_server.proofs.turn.ServerTurn.greet.Goals as goal

pub returns-clause-ok : goal.returns-clause-ok
returns-clause-ok c =
    let t : ServerTurn = record {
      state = record {
        id = c.self.inside.id;
        config = c.self.inside.config;
        stable = stable_of c.self.inside.stable;
        grace = c.self.inside.grace;
        sessions = c.self.inside.sessions;
        locks = c.self.inside.locks;
        authority = c.self.inside.authority;
      };
      out = c.self.inside.out.items;
    } in
    rw (← c.self.view_is)
    (on_ok_weaker c.greet_as.result
    (λ e. e ∙ greet_told t c.args.now c.args.h c.in_ok-hello.hello c.hello.new.self
    (c.in_ok-hello.ensures.ok
    ∙ (λ i. sessions.hello c.self.inside.sessions c.sender-client.result (life_in c.args.h) (c.has_rows-rows.ensures i))
    ∙ (λ i. sessions.hello c.self.inside.sessions (c.sender-client.ensures i) (life_in c.args.h) (has_rows c.self.inside.locks (c.sender-client.ensures i)))))
    c.greet_as.ensures.ok)
