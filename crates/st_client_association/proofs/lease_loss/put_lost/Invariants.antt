use Rattle.st_lemmas.proofs.Words
use Words.{◌≡◌, take}
use Words.ClientPages.{with_lost_pages}
use Rattle.st_client_association.proofs.lease_loss.put_lost.Given as goal

abbrev pub invariant-loop-i : goal.invariant-loop-i
invariant-loop-i l = l.lost ≡ with_lost_pages l.store.store.commands (take l.i l.store.store.pages.dirty) l.initial.lost
