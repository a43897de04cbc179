use Rattle.std.proofs.Common.{◌≡◌, ◌+◌, ◌-◌, ◌++◌, length, arith, rules}
use Rattle.st_journal_bytes.specs.Plain.{plain}
use Rattle.st_journal_file.specs.Layout.{opened}
use Rattle.st_journal_bytes.proofs.Moments.{dated_more}
use Rattle.st_journal_bytes.proofs.Scans.{opened_size}
use Rattle.st_journal_bytes.proofs.moment.read_moments.Goals as goal

pub records-preserved : goal.records-preserved
records-preserved c =
    let e : c.records.rest.now ≡ opened plain c.in-Some.record_bytes.now ++ c.in-Some.more.now = search rules in
    dated_more c.args.bytes.now c.records.rest.now c.in-Some.record_bytes.now c.in-Some.more.now c.records.gate
    (c.records.gate + (length c.records.rest.now - length c.in-Some.more.now)) c.args.first c.records.last
    c.after_record-last.result c.records.invariant e (omega (arith, opened_size c.in-Some.record_bytes.now c.in-Some.more.now c.records.rest.now e))
    c.after_record-last.ensures
