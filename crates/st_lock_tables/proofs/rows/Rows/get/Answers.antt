use Rattle.std.proofs.Common.{◌∙◌, ap, find}
use Rattle.st_tables.specs.Tables.{has_key, lock_key}
use Rattle.st_lock_tables.proofs.SinceRows.{found_keys}
use Rattle.st_lock_tables.proofs.rows.Rows.get.Goals as goal

pub returns-clause-same : goal.returns-clause-same
returns-clause-same c = found_keys c.args.client c.args.ino c.self.inside.table c.copied.result (c.copied.ensures ∙ c.get.ensures.found ∙ ap (λ k. find (has_key lock_key k) c.self.inside.table) c.key.ensures)
