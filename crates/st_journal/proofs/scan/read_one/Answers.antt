use Rattle.std.proofs.Common.{subst}
use Rattle.std.proofs.lemmas.Result.{err_from_is_err_and}
use Rattle.st_journal.specs.Parts.{stable_of}
use Rattle.st_journal.specs.Scan.{StandsAt, IsOpenAt}
use Rattle.st_journal.proofs.Reached.{taken_refused}
use Rattle.st_journal.proofs.scan.read_one.Goals as goal

pub returns-in_err-apply_read-clause-fault : goal.returns-in_err-apply_read-clause-fault
returns-in_err-apply_read-clause-fault g c =
    let found : IsOpenAt (g.D.Store.seen c.args.store.now) c.args.scanned.now.gate c.in-Some.change c.in-Some.count =
    subst (λ o. StandsAt (g.D.Store.seen c.args.store.now) c.args.scanned.now.gate o) c.in-Some.is c.in_ok-change.ensures.found in
    let p = err_from_is_err_and c.from_residual-in_err-apply_read.result c.from_residual-in_err-apply_read.ensures.1 in
    rw (p.1, p.2) (taken_refused (g.D.Store.seen c.args.store.now) (stable_of c.args.stable.now) c.args.scanned.now.gate (g.D.Store.faults c.args.store.now) (g.D.Store.faults c.read_at.new.store)
    c.in-Some.change c.in-Some.count c.in_err-apply_read.field-0.0 found c.in_err-apply_read.ensures.fault)
