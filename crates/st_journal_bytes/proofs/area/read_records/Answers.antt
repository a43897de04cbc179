use Rattle.std.proofs.Common.{◌≡◌, ◌+◌, ◌-◌, ◌++◌, length, arith, rules}
use Rattle.st_journal_bytes.specs.Plain.{plain}
use Rattle.st_journal_file.specs.Layout.{opened}
use Rattle.st_journal_bytes.proofs.Scans.{opened_size, read_more}
use Rattle.st_journal_bytes.proofs.area.read_records.Goals as goal

pub records-preserved : goal.records-preserved
records-preserved c =
    let e : c.records.rest.now ≡ opened plain c.in-Some.field-0-0.now ++ c.in-Some.more.now = search rules in
    read_more c.args.bytes.now c.records.rest.now c.in-Some.field-0-0.now c.in-Some.more.now c.records.gate c.records.records (c.records.gate + (length c.records.rest.now - length c.in-Some.more.now)) c.records.invariant e
    (omega (arith, opened_size c.in-Some.field-0-0.now c.in-Some.more.now c.records.rest.now e))
