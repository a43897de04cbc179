use Rattle.st_lemmas.proofs.Words
use Words.{◌∙◌, refl, eq-eqb}
use Words.ClientLocks.{is_lock_on}
use Rattle.st_lock_cache.proofs.Tables.{put_out}
use Rattle.st_lock_cache.proofs.held_locks.put_new.Goals as goal

pub returns-in-Err-clause-err : goal.returns-in-Err-clause-err
returns-in-Err-clause-err c = (
  (rw (c.key.ensures, c.in_ok-put.ensures.ok) at c.remove.ensures)
      ∙ put_out (is_lock_on c.args.lock.ino) c.args.lock c.args.rows.now c.requires (eq-eqb c.args.lock.ino c.args.lock.ino refl),
  c.in-Err.ensures.err,
)
