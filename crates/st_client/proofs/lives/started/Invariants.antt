use Rattle.st_lemmas.proofs.Words
use Words.{◌≡◌, drop, map, true, list_all}
use Words.Client.{start, started_association}
use Rattle.st_client.specs.Nodes.{crashed_at, crashed_client, is_low, is_server, with_more}
use Rattle.st_client.proofs.lives.started.Given as goal

abbrev pub invariant-loop-i : goal.invariant-loop-i
invariant-loop-i l = record {
  is : with_more (map started_association (crashed_at (drop l.i l.servers) (drop l.i l.lives))) l.state ≡ start (crashed_client l.fn.id l.config l.servers l.lives);
  config : l.state.config ≡ l.config;
  known : list_all is_server (drop l.i l.servers) ≡ true;
  low : list_all is_low (drop l.i l.lives) ≡ true;
}
