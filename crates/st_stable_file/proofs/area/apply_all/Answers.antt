use Rattle.std.proofs.Common.{◌≡◌, ◌<◌, ◌+◌, ◌^◌, ◌++◌, ℕ, length, arith, refl, rules}
use Rattle.std.proofs.lemmas.Result.{err_from_is_err_and}
use Rattle.st_journal.specs.Parts.{stable_of}
use Rattle.st_journal_bytes.specs.Plain.{plain}
use Rattle.st_journal_file.specs.Layout.{opened}
use Rattle.st_stable_file.proofs.Applied.{applied_more, applied_none, refused_gate, refused_record, smaller}
use Rattle.st_stable_file.proofs.area.apply_all.Goals as goal

pub changes-init : goal.changes-init
changes-init c = record {
  applied = λ d made when. applied_none c.args.bytes.now d (stable_of c.args.stable.now) c.args.first made when;
  place = omega (arith, c.requires.within);
  few = omega arith;
}

pub returns-in_err-record_bytes-clause-err : goal.returns-in_err-record_bytes-clause-err
returns-in_err-record_bytes-clause-err c =
    let p = err_from_is_err_and c.from_residual.result c.from_residual.ensures.1 in
    let k = c.changes in
    rw (p.1, p.2)
    (λ d made when. refused_gate c.args.bytes.now d k.rest.now (stable_of k.stable) k.moment k.records c.args.whole k.at c.in_err-record_bytes.field-0.0 (k.invariant.applied d made when)
    k.invariant.place c.in_err-record_bytes.ensures.unread c.in_err-record_bytes.ensures.fault)

pub returns-in_err-moment-clause-err : goal.returns-in_err-moment-clause-err
returns-in_err-moment-clause-err c =
    let p = err_from_is_err_and c.from_residual-in_err-moment.result c.from_residual-in_err-moment.ensures.1 in
    let k = c.changes in
    let e : k.rest.now ≡ opened plain c.in-Some.record_bytes.now ++ c.in-Some.more.now = search rules in
    rw (p.1, p.2)
    (λ d made when. refused_record c.args.bytes.now d k.rest.now c.in-Some.more.now c.in-Some.record_bytes.now (stable_of k.stable) k.moment k.records c.args.whole k.at
    c.in_err-moment.field-0.0 (k.invariant.applied d made when) k.invariant.place (omega (arith, k.invariant.place, c.requires.small)) e c.in_err-moment.ensures.err)

pub changes-preserved : goal.changes-preserved
changes-preserved c =
    let k = c.changes in
    let e : k.rest.now ≡ opened plain c.in-Some.record_bytes.now ++ c.in-Some.more.now = search rules in
    let less = smaller k.rest.now c.in-Some.more.now c.in-Some.record_bytes.now e in
    record {
      applied = λ d made when. applied_more c.args.bytes.now d k.rest.now c.in-Some.more.now c.in-Some.record_bytes.now (stable_of k.stable) (stable_of c.apply_record.new.stable) k.moment
          c.in_ok-moment.moment k.records (k.invariant.applied d made when) e c.in_ok-moment.ensures.ok;
      place = omega (arith, k.invariant.place, less);
      few = omega (arith, k.invariant.few, less);
    }
