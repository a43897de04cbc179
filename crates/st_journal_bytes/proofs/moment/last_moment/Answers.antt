use Rattle.std.proofs.Common.{◌≡◌, ◌++◌, Ok, rules}
use Rattle.st_journal_bytes.specs.Areas.{HasNoSnapshot, StopsAt}
use Rattle.st_journal_bytes.specs.Moments.{HasMoment, HaveMoment}
use Rattle.st_journal_bytes.specs.Plain.{plain}
use Rattle.st_journal_file.specs.Layout.{part}
use Rattle.st_journal_bytes.proofs.Moments.{area_dated, moment_exact}
use Rattle.st_journal_bytes.proofs.Scans.{no_area, no_snapshot}
use Rattle.st_journal_bytes.proofs.moment.last_moment.Goals as goal

pub returns-in_default-clause-exact : goal.returns-in_default-clause-exact
returns-in_default-clause-exact c =
    let none : HasNoSnapshot c.args.area.now = search rules in
    λ s xs a. absurd (no_snapshot c.args.area.now s xs c.requires none a)

pub returns-in-Ok-clause-ok : goal.returns-in-Ok-clause-ok
returns-in-Ok-clause-ok c =
    let p : c.args.area.now ≡ part plain c.in-Some.snapshot.now ++ c.in-Some.rest.now = search rules in
    let h : HaveMoment c.in-Some.rest.now c.moment_of.result c.in-Ok.last = search rules in
    area_dated c.args.area.now c.in-Some.snapshot.now c.in-Some.rest.now c.moment_of.result c.in-Ok.last p c.moment_of.ensures h

pub returns-in-Ok-clause-exact : goal.returns-in-Ok-clause-exact
returns-in-Ok-clause-exact c =
    let p : c.args.area.now ≡ part plain c.in-Some.snapshot.now ++ c.in-Some.rest.now = search rules in
    let h : HaveMoment c.in-Some.rest.now c.moment_of.result c.in-Ok.last = search rules in
    let has : HasMoment c.args.area.now c.in-Ok.last =
    area_dated c.args.area.now c.in-Some.snapshot.now c.in-Some.rest.now c.moment_of.result c.in-Ok.last p c.moment_of.ensures h in
    λ s xs a. moment_exact c.args.area.now (Ok c.in-Ok.last) s xs c.requires has tt a

pub returns-in-Err-clause-exact : goal.returns-in-Err-clause-exact
returns-in-Err-clause-exact c =
    let p : c.args.area.now ≡ part plain c.in-Some.snapshot.now ++ c.in-Some.rest.now = search rules in
    let stop : StopsAt c.in-Some.rest.now c.in-Err.damaged.at = search rules in
    λ s xs a. absurd (no_area c.args.area.now c.in-Some.snapshot.now c.in-Some.rest.now s c.in-Err.damaged.at xs c.requires p stop a)
