use Rattle.st_lemmas.proofs.Words
use Words.{◌≡◌, ◌++◌, map, drop}
use Rattle.st_client.specs.Machines.{here_of}
use Rattle.st_client.specs.Nodes.{server_at}
use Rattle.st_client.proofs.state.ClientState.servers.Given as goal

abbrev pub invariant-loop-a : goal.invariant-loop-a
invariant-loop-a l = l.servers.items ++ map server_at (map here_of (drop l.a-index l.a-items)) ≡ map server_at l.self.associations
