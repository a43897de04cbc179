use Rattle.std.proofs.Common.{◌<◌, ◌∙◌, Bool, List, ℕ, length, sym, subst, arith}
use Rattle.std.proofs.lemmas.Result.{err_from_is_err_and}
use Rattle.st_journal.specs.Parts.{stable_of}
use Rattle.st_journal.specs.Scan.{ReadsOn, ReadsOne, ReadsOut}
use Rattle.st_journal.proofs.Moments.{rests_then}
use Rattle.st_journal.proofs.ScannedBytes.{read_more, reads_all}
use Rattle.st_journal.proofs.Reached.{not_all_read}
use Rattle.st_journal.proofs.scan.read_on.Goals as goal

pub read_one-requires-clause-within : goal.read_one-requires-clause-within
read_one-requires-clause-within g c =
    subst (λ (b : List ℕ). c.changes.scanned.gate < length b) (sym c.changes.invariant.seen)
    (c.changes.invariant.read c.requires.known.0 c.requires.known.1).within

pub read_one-requires-clause-few : goal.read_one-requires-clause-few
read_one-requires-clause-few g c = (c.changes.invariant.read c.requires.known.0 c.requires.known.1).few

pub read_one-requires-clause-low : goal.read_one-requires-clause-low
read_one-requires-clause-low g c = (c.changes.invariant.read c.requires.known.0 c.requires.known.1).low

pub changes-preserved : goal.changes-preserved
changes-preserved g c =
    let read : ReadsOn (g.D.Store.seen c.changes.store) (stable_of c.changes.stable) (stable_of c.read_one.new.stable) c.changes.scanned c.read_one.new.scanned
    =
    subst (λ (b : Bool). ReadsOne (g.D.Store.seen c.changes.store) (stable_of c.changes.stable) (stable_of c.read_one.new.stable) c.changes.scanned
    c.read_one.new.scanned b) c.if-branch.true c.in_ok-read_one.ensures.read in
    record {
      read = λ start known. read_more (g.D.Store.seen c.args.store.now) start (stable_of c.changes.stable) (stable_of c.read_one.new.stable) c.changes.scanned
          c.read_one.new.scanned (c.changes.invariant.read start known)
          (rw c.changes.invariant.seen at read);
      seen = c.in_ok-read_one.ensures.seen ∙ c.changes.invariant.seen;
      later = omega (arith, c.changes.invariant.later, c.read_one.ensures.later);
      rests = rests_then g.D.Store.moment g.D.Store.left_since g.D.Store.keeps g.D.Store.may_leave g.met.D.Store.keeps_on c.args.store.now c.changes.store
          c.read_one.new.store c.changes.invariant.rests c.read_one.ensures.rests;
    }

pub returns-in_err-read_one-clause-fault : goal.returns-in_err-read_one-clause-fault
returns-in_err-read_one-clause-fault g c = λ start known.
    let p = err_from_is_err_and c.from_residual.result c.from_residual.ensures.1 in
    rw (p.1, p.2)
    (not_all_read (g.D.Store.seen c.args.store.now) start (stable_of c.changes.stable) c.changes.scanned (g.D.Store.faults c.args.store.now)
    (g.D.Store.faults c.changes.store)
    (g.D.Store.faults c.read_one.new.store) c.in_err-read_one.field-0.0 (c.changes.invariant.read start known)
    (rw c.changes.invariant.seen at c.in_err-read_one.ensures.fault) c.changes.invariant.later)

pub returns-clause-read : goal.returns-clause-read
returns-clause-read g c = λ start known.
    let out : ReadsOut (g.D.Store.seen c.changes.store) (stable_of c.changes.stable) (stable_of c.read_one.new.stable) c.changes.scanned c.read_one.new.scanned
    =
    subst (λ (b : Bool). ReadsOne (g.D.Store.seen c.changes.store) (stable_of c.changes.stable) (stable_of c.read_one.new.stable) c.changes.scanned
    c.read_one.new.scanned b) c.if-branch.false c.in_ok-read_one.ensures.read in
    reads_all (g.D.Store.seen c.args.store.now) start (stable_of c.changes.stable) (stable_of c.read_one.new.stable) c.changes.scanned c.read_one.new.scanned
    (c.changes.invariant.read start known)
    (rw c.changes.invariant.seen at out)
