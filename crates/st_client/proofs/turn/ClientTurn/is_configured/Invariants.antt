use Rattle.st_lemmas.proofs.Words
use Words.{◌≡◌, drop, ◌||◌, map, list_any}
use Words.ClientState.{is_at}
use Rattle.st_client.specs.Machines.{here_of}
use Rattle.st_client.proofs.turn.ClientTurn.is_configured.Given as goal

abbrev pub invariant-loop-a : goal.invariant-loop-a
invariant-loop-a l = (l.found || list_any (is_at l.server) (map here_of (drop l.a-index l.a-items))) ≡ list_any (is_at l.server) l.self.state.associations
