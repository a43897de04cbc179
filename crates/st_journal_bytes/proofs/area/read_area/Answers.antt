use Rattle.std.proofs.Common.{◌≡◌, ◌+◌, ◌-◌, ◌++◌, length, ap, refl, arith, rules, length-append}
use Rattle.st_journal_bytes.specs.Areas.{HasNoSnapshot, HasRecords, StopsAt}
use Rattle.st_journal_bytes.specs.Plain.{plain}
use Rattle.st_journal_file.specs.Layout.{part}
use Rattle.st_journal_bytes.proofs.Scans.{area_read, no_area, no_snapshot}
use Rattle.st_journal_bytes.proofs.area.read_area.Goals as goal

pub returns-in_default-clause-no_area : goal.returns-in_default-clause-no_area
returns-in_default-clause-no_area c = let none : HasNoSnapshot c.args.area.now = search rules in λ s xs a. no_snapshot c.args.area.now s xs c.requires none a

pub returns-in-Ok-clause-ok : goal.returns-in-Ok-clause-ok
returns-in-Ok-clause-ok c =
    let p : c.args.area.now ≡ part plain c.in-Some.field-0-0.now ++ c.in-Some.rest.now = search rules in
    let h : HasRecords c.in-Some.rest.now c.in-Ok.end = search rules in
    area_read c.args.area.now c.in-Some.field-0-0.now c.in-Some.rest.now (length c.args.area.now - length c.in-Some.rest.now) c.in-Ok.end
    (record { gate = length c.args.area.now - length c.in-Some.rest.now + c.in-Ok.end.gate; records = c.in-Ok.end.records }) p h
    (omega (arith, ap length p, length-append (part plain c.in-Some.field-0-0.now) c.in-Some.rest.now)) refl refl

pub returns-in-Err-clause-no_area : goal.returns-in-Err-clause-no_area
returns-in-Err-clause-no_area c =
    let p : c.args.area.now ≡ part plain c.in-Some.field-0-0.now ++ c.in-Some.rest.now = search rules in
    let stop : StopsAt c.in-Some.rest.now c.in-Err.damaged.at = search rules in
    λ s xs a. no_area c.args.area.now c.in-Some.field-0-0.now c.in-Some.rest.now s c.in-Err.damaged.at xs c.requires p stop a
