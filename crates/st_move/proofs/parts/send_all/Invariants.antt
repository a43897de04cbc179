use Rattle.st_lemmas.proofs.Words
use Words.{◌≡◌, ◌++◌, length, map}
use Rattle.st_move.specs.World.{sends_behind, sent_move}
use Rattle.st_move.proofs.parts.send_all.Given as goal

abbrev pub invariant-loop-to : goal.invariant-loop-to
invariant-loop-to l = record {
  sent : l.sent.items ≡ l.fn.sent.items ++ map (sent_move l.from) l.yielded;
  told : l.answers.items ≡ sends_behind (length l.fn.sent.items) (map (sent_move l.from) l.yielded);
}
