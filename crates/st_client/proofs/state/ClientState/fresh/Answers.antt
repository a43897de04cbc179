use Rattle.st_lemmas.proofs.Words
use Words.{rules, ◌+◌, ◌≤◌, List, [], ◌∷◌, ap, sym, ◌∙◌}
use Words.Client.{fresh_association}
use Words.ClientState.{Association}
use Rattle.st_client.proofs.Growing.{numbers_next}
use Rattle.st_client.specs.Nodes.{with_more}
use Rattle.st_client.proofs.state.ClientState.fresh.Goals as goal

pub loop-server-preserved : goal.loop-server-preserved
loop-server-preserved c =
    let most : c.loop-server.server + 1 ≤ c.args.servers = search rules in
    record {
      is =
          c.in_ok-state-2.ensures
          ∙ ap (with_more (fresh_association (c.loop-server.server + 1) ∷ [])) c.loop-server.invariant.is
          ∙ ap (λ (xs : List Association). record { id = c.args.id; config = c.args.config.now; associations = xs; operations = []; next_command = 1 }) (sym (numbers_next c.loop-server.server));
      most = most;
    }
