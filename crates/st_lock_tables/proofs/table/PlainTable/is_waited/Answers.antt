use Rattle.std.proofs.Common.{◌∙◌, ap, length}
use Rattle.std.specs.Prelude.{not, ◌==◌}
use Rattle.st_tables.specs.Tables.{first_of, second_of, wait_key}
use Rattle.st_lock_tables.proofs.Waited.{waited_long}
use Rattle.st_lock_tables.proofs.table.PlainTable.is_waited.Goals as goal

pub returns : goal.returns
returns c =
    rw (← c.self.view_is)
    (ap not c.is_empty.ensures ∙ ap (λ ks. not (length ks == 0)) c.queue.ensures ∙ waited_long (first_of wait_key) (λ v. second_of wait_key v == c.args.ino) c.self.inside.waits)
