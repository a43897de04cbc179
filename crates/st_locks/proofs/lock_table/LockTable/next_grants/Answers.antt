use Rattle.std.proofs.Common.{◌≡◌, None, sym, ap, subst, ◌∙◌}
use Rattle.st_rules.specs.Locks.{Locks, next_waiter}
use Rattle.st_locks.proofs.SettledFiles.{all_granted}
use Rattle.st_locks.proofs.lock_table.LockTable.next_grants.Goals as goal

pub invariant_of-self : goal.invariant_of-self
invariant_of-self c = record {
  granted = λ j e. subst (λ (l : Locks). next_waiter l j ≡ None) (ap (λ p. p.locks) c.in_ok-granted.ensures ∙ sym c.self.view_is) (all_granted c.args.self.now j);
  demanded = c.self.invariant.demanded;
  timed = c.self.invariant.timed;
}
