use Rattle.std.proofs.Common.{◌≡◌, ◌∙◌, ap, subst, map, List}
use Rattle.std.specs.Prelude.{IfOk}
use Rattle.st_rules.specs.Keys.{rising}
use Rattle.st_rules.specs.Locks.{Locks, ino_of_wait}
use Rattle.st_rules.specs.declared.locks.Waiter.{Waiter}
use Rattle.st_lock_tables.proofs.FoundRows.{filter_true}
use Rattle.st_lock_tables.proofs.table.PlainTable.waited_files.Goals as goal

pub returns : goal.returns
returns c =
    subst (λ (ws : List Waiter). IfOk c.seconds.result (λ v. v.items ≡ rising (map ino_of_wait ws))) (filter_true c.self.inside.waits ∙ ap (λ (l : Locks). l.waiters) c.self.view_is) c.seconds.ensures
