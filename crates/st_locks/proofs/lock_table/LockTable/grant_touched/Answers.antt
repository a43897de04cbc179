use Rattle.std.proofs.Common.{ap, sym, ◌∙◌}
use Rattle.st_rules.specs.Locks.{grant_files}
use Rattle.st_lock_tables.specs.Calls.{granting}
use Rattle.st_locks.proofs.Walks.{walk_grants}
use Rattle.st_locks.proofs.lock_table.LockTable.grant_touched.Goals as goal

pub returns : goal.returns
returns c =
    rw (← c.self.view_is)
    (sym (walk_grants c.self.inside.parts.table c.self.inside.parts.granting c.self.inside.parts.demanding c.self.inside.parts.waking c.self.inside.parts.besides.items c.self.invariant)
    ∙ (λ i. grant_files (sym (c.as_slice.ensures.value ∙ c.in_ok-files.ensures) i) (granting c.self.inside.parts.table (sym c.new-granted.ensures.items i))))
    ∙ sym c.in_ok-grant_each.ensures
    ∙ ap (λ t. granting t c.grant_each.new.granted.items) (sym c.self-2.view_is)
