-- What was put and what is left to put are all of it.
use Rattle.st_lemmas.proofs.Words
use Words.{◌≡◌, ◌++◌, true, length, list_all, flat_map}
use Rattle.st_client.specs.Inputs.{is_sent}
use Rattle.st_node.specs.Runs.{client_frame}
use Rattle.st_node.proofs.client.put_outputs.Given as goal

abbrev pub invariant-loop-rest : goal.invariant-loop-rest
invariant-loop-rest l = record {
  whole : l.out.items ++ flat_map (client_frame l.id) l.rest ≡ l.fn.out.items ++ flat_map (client_frame l.id) l.outputs;
  each : list_all is_sent l.rest ≡ true;
}

abbrev pub decreases-loop-rest : goal.decreases-loop-rest
decreases-loop-rest l = length l.rest
