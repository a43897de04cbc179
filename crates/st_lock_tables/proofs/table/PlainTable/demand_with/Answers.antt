use Rattle.std.proofs.Common.{◌≡◌, ℕ, List, map, if◌then◌else◌, sym, subst}
use Rattle.st_base.specs.declared.ids.ClientId.{ClientId}
use Rattle.st_base.specs.declared.ids.Epoch.{Epoch}
use Rattle.st_rules.specs.declared.locks.LockRow.{LockRow}
use Rattle.st_rules.specs.declared.locks.RowDemand.{RowDemand}
use Rattle.st_rules.specs.declared.locks.Waiter.{Waiter}
use Rattle.st_rules.specs.Locks.{demand_with, demanded, is_row_of}
use Rattle.st_lock_tables.specs.DemandStarts.{KeepsSince, since_of_demand}
use Rattle.st_lock_tables.specs.Calls.{IsSound}
use Rattle.st_lock_tables.proofs.Sound.{sound_rows, weakens_demanded, weakens_some}
use Rattle.st_lock_tables.proofs.FoundRows.{changed_moved, found_moved}
use Rattle.st_lock_tables.proofs.table.PlainTable.demand_with.Goals as goal

pub demand-requires-clause-since : goal.demand-requires-clause-since
demand-requires-clause-since c = subst (λ d. KeepsSince (since_of_demand c.args.row.demand) (since_of_demand d)) (sym c.demanded.ensures.demand) c.requires.kept

pub returns : goal.returns
unfolding demand_with
returns c =
    rw (← c.self.view_is)
    (λ i. record {
      locks = record {
        epoch = c.self.inside.epoch;
        grants = c.self.inside.grants;
        rows = changed_moved c.self.inside.rows c.demand.new.self (demanded c.args.d) c.args.row.client c.demanded.result.client c.args.row.ino c.demanded.result.ino c.demanded.ensures.same.0 c.demanded.ensures.same.1
            (c.in_ok-demand.ensures.ok (demanded c.args.d) c.args.row
            (found_moved c.self.inside.rows c.args.row.client c.demanded.result.client c.args.row.ino c.demanded.result.ino c.args.row c.demanded.ensures.same.0 c.demanded.ensures.same.1 (rw (← c.self.view_is) at c.requires.row))
            c.demanded.ensures.demanded) i;
        waiters = c.self.inside.waits;
        limit = 1024;
      };
      due = c.in_ok-push.ensures.items i;
    })

sound_after : (epoch : Epoch) (grants : ℕ) (rows news : List LockRow) (waits : List Waiter) (c : ClientId) (ino : ℕ) (d : RowDemand) → IsSound epoch grants rows waits
    → news ≡ map (λ r. if is_row_of c ino r then demanded d r else r) rows → IsSound epoch grants news waits
sound_after epoch grants rows news waits c ino d s e =
    subst (λ rs. IsSound epoch grants rs waits) (sym e)
    (sound_rows epoch grants rows waits s (λ r. if is_row_of c ino r then demanded d r else r) (λ r. weakens_some (is_row_of c ino) (demanded d) r (weakens_demanded d r)))

pub invariant_of-self-in_err-push : goal.invariant_of-self-in_err-push
invariant_of-self-in_err-push c =
    sound_after c.self.inside.epoch c.self.inside.grants c.self.inside.rows c.demand.new.self c.self.inside.waits c.demanded.result.client c.demanded.result.ino c.args.d c.self.invariant
    (c.in_ok-demand.ensures.ok (demanded c.args.d) c.args.row
    (found_moved c.self.inside.rows c.args.row.client c.demanded.result.client c.args.row.ino c.demanded.result.ino c.args.row c.demanded.ensures.same.0 c.demanded.ensures.same.1 (rw (← c.self.view_is) at c.requires.row))
    c.demanded.ensures.demanded)

pub invariant_of-self-2 : goal.invariant_of-self-2
invariant_of-self-2 c =
    sound_after c.self.inside.epoch c.self.inside.grants c.self.inside.rows c.demand.new.self c.self.inside.waits c.demanded.result.client c.demanded.result.ino c.args.d c.self.invariant
    (c.in_ok-demand.ensures.ok (demanded c.args.d) c.args.row
    (found_moved c.self.inside.rows c.args.row.client c.demanded.result.client c.args.row.ino c.demanded.result.ino c.args.row c.demanded.ensures.same.0 c.demanded.ensures.same.1 (rw (← c.self.view_is) at c.requires.row))
    c.demanded.ensures.demanded)
