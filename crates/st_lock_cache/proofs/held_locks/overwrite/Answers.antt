use Rattle.st_lemmas.proofs.Words
use Words.{◌∙◌}
use Words.ClientLocks.{ino_of_lock}
use Rattle.st_lock_cache.proofs.Tables.{put_over}
use Rattle.st_lock_cache.proofs.held_locks.overwrite.Goals as goal

pub returns : goal.returns
returns c = c.change.ensures.written ∙ put_over ino_of_lock c.args.lock.ino c.args.lock c.args.rows.now c.requires.once c.requires.held
