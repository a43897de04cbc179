use Rattle.st_lemmas.proofs.Words
use Words.{◌≡◌, ◌≤◌, ◌-◌, [], map}
use Words.Client.{fresh_association}
use Words.Extents.{numbers}
use Rattle.st_client.proofs.state.ClientState.fresh.Given as goal

abbrev pub invariant-loop-server : goal.invariant-loop-server
invariant-loop-server l = record {
  is : l.state ≡ record { id = l.fn.id; config = l.config; associations = map fresh_association (numbers 1 l.server); operations = []; next_command = 1 };
  most : l.server ≤ l.servers;
}

abbrev pub decreases-loop-server : goal.decreases-loop-server
decreases-loop-server l = l.servers - l.server
