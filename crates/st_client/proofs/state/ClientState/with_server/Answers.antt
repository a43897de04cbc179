use Rattle.st_lemmas.proofs.Words
use Words.{sym, subst}
use Rattle.st_client.proofs.Resting.{given_last}
use Rattle.st_client.specs.Nodes.{IsResting}
use Rattle.st_client.proofs.state.ClientState.with_server.Goals as goal

pub invariant_of-result : goal.invariant_of-result
invariant_of-result c =
    let x = c.deref_mut-here.result.now in
    let r = subst IsResting (sym c.deref_mut-here.ensures.value) c.self.invariant in
    record {
      given = given_last x.id x.config x.next_command x.associations.items c.push.new.self.items c.in_ok-a.a c.args.life c.args.server c.in_ok-push.ensures.items c.in_ok-a.ensures r.given;
      empty = r.empty;
    }
