use Rattle.std.proofs.Common.{◌≡◌, ◌≤◌, ◌-◌, length}
use Rattle.st_journal.specs.Parts.{stable_of}
use Rattle.st_journal.specs.Scan.{IsReadTo}
use Rattle.st_rules.specs.Server.{Stable}
use Rattle.st_store.specs.Store.{Rests}
use Rattle.st_journal.proofs.scan.read_on.Given as goal

abbrev pub invariant-changes : goal.invariant-changes
invariant-changes g l = record {
  read : (start : Stable) → IsReadTo (g.D.Store.seen l.fn.store) start (stable_of l.fn.stable) l.fn.known →
      IsReadTo (g.D.Store.seen l.fn.store) start (stable_of l.stable) l.scanned;
  seen : g.D.Store.seen l.store ≡ g.D.Store.seen l.fn.store;
  later : g.D.Store.faults l.fn.store ≤ g.D.Store.faults l.store;
  rests : Rests g.D.Store.keeps g.D.Store.may_leave g.D.Store.moment g.D.Store.left_since l.fn.store l.store;
}

abbrev pub decreases-changes : goal.decreases-changes
decreases-changes g l = length (g.D.Store.seen l.fn.store) - l.scanned.gate
