use Rattle.std.proofs.Common.{◌≡◌, ◌++◌, refl, rules}
use Rattle.std.proofs.lemmas.Result.{err_from_is_err_and}
use Rattle.st_extents.specs.Layout.{Shape}
use Rattle.st_journal.specs.Parts.{stable_of}
use Rattle.st_journal_bytes.specs.Plain.{plain}
use Rattle.st_journal_file.specs.Layout.{part}
use Rattle.st_stable_file.proofs.Applied.{not_opened, opens}
use Rattle.st_stable_file.proofs.area.read_area.Goals as goal

pub returns-in_err-end-clause-err : goal.returns-in_err-end-clause-err
returns-in_err-end-clause-err c =
    let p = err_from_is_err_and c.from_residual-in_err-end.result c.from_residual-in_err-end.ensures.1 in
    let s : Shape = record { server = c.args.server; servers = c.args.servers; disks = c.args.disks; blocks = c.args.blocks } in
    let parts : c.args.area.now ≡ part plain c.in-Some.snapshot_bytes.now ++ c.in-Some.rest.now = search rules in
    rw (p.1, p.2)
    (not_opened s c.args.area.now c.in-Some.snapshot_bytes.now c.in-Some.rest.now (stable_of c.in_ok-stable.stable) c.in_ok-stable.moment parts c.in_ok-stable.ensures.ok
    c.in_err-end.field-0.0 c.in_err-end.ensures.err)

pub returns-clause-ok : goal.returns-clause-ok
returns-clause-ok c =
    let s : Shape = record { server = c.args.server; servers = c.args.servers; disks = c.args.disks; blocks = c.args.blocks } in
    let parts : c.args.area.now ≡ part plain c.in-Some.snapshot_bytes.now ++ c.in-Some.rest.now = search rules in
    opens s c.args.area.now c.in-Some.snapshot_bytes.now c.in-Some.rest.now (stable_of c.in_ok-stable.stable) c.in_ok-stable.moment parts c.in_ok-stable.ensures.ok
    (stable_of c.apply_all.new.stable) (record { stable = c.apply_all.new.stable; end = c.in_ok-end.end }) c.in_ok-end.ensures.ok refl
