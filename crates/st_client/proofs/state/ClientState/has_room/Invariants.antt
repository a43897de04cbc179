use Rattle.st_lemmas.proofs.Words
use Words.{◌≡◌, map, drop, ◌&&◌, list_all}
use Rattle.st_client_association.specs.Associations.{has_room_at}
use Rattle.st_client.specs.Machines.{here_of}
use Rattle.st_client.proofs.state.ClientState.has_room.Given as goal

abbrev pub invariant-loop-a : goal.invariant-loop-a
invariant-loop-a l = (l.each && list_all has_room_at (map here_of (drop l.a-index l.a-items))) ≡ list_all has_room_at l.self.associations
