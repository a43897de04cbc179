use Rattle.std.proofs.Common.{◌≡◌, take}
use Rattle.std.specs.List.{list_any}
use Rattle.st_client_due.specs.ClientDue.{is_reduced}
use Rattle.st_client_moments.proofs.reductions.is_one_reduced.Given as goal

abbrev pub invariant-loop-ino : goal.invariant-loop-ino
invariant-loop-ino l = l.found ≡ list_any (is_reduced l.t l.session.session) (take l.ino-index l.files)
