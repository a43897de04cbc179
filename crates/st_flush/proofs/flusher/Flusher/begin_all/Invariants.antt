use Rattle.st_lemmas.proofs.Words
use Words.{◌≡◌, ◌+◌, drop}
use Words.ClientPages.{begin_writes}
use Rattle.st_flush.proofs.Begun.{MayBegin}
use Rattle.st_flush.proofs.flusher.Flusher.begin_all.Given as goal

abbrev pub invariant-loop-i : goal.invariant-loop-i
invariant-loop-i l = record {
  server : l.self.server ≡ l.fn.self.server;
  begun : begin_writes l.self.commands (drop l.i l.writes) (l.first + l.i) ≡ begin_writes l.fn.self.commands l.writes l.first;
  may : MayBegin l.self.commands (drop l.i l.writes) (l.first + l.i);
}
