use Rattle.st_lemmas.proofs.Words
use Words.{sym}
use Rattle.st_client.proofs.turn.ClientTurn.at_next.Goals as goal

pub returns-else-is_touched_at : goal.returns-else-is_touched_at
returns-else-is_touched_at g c = sym (c.is_touched_at.ensures c.if-is_touched_at.false)
