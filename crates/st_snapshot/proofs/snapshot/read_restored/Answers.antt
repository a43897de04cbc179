use Rattle.std.proofs.lemmas.Result.{err_from_is_err_and}
use Rattle.st_extents.specs.Layout.{Shape}
use Rattle.st_snapshot.proofs.Read.{fit_of, refused_of, refused_parts, shape_of, spelled_of}
use Rattle.st_snapshot.proofs.snapshot.read_restored.Goals as goal

pub returns-in_err-read-clause-err : goal.returns-in_err-read-clause-err
returns-in_err-read-clause-err c =
    let p = err_from_is_err_and c.from_residual.result c.from_residual.ensures.1 in
    let s : Shape = record { server = c.args.server; servers = c.args.servers; disks = c.args.disks; blocks = c.args.blocks } in
    rw (p.1, p.2) (refused_parts s c.args.bytes.now c.in_err-read.field-0.0 c.in_err-read.ensures.err)

pub returns-clause-bytes : goal.returns-clause-bytes
returns-clause-bytes c =
    let s : Shape = record { server = c.args.server; servers = c.args.servers; disks = c.args.disks; blocks = c.args.blocks } in
    let read = c.in_ok-read.read in
    spelled_of c.restored.result s c.args.bytes.now read.counters read.entries.items read.pages.items c.in_ok-read.ensures.ok c.restored.ensures.ok

pub returns-clause-fits : goal.returns-clause-fits
returns-clause-fits c =
    let s : Shape = record { server = c.args.server; servers = c.args.servers; disks = c.args.disks; blocks = c.args.blocks } in
    let read = c.in_ok-read.read in
    fit_of c.restored.result s c.args.bytes.now read.counters read.entries.items read.pages.items c.in_ok-read.ensures.ok c.restored.ensures.ok

pub returns-clause-shape : goal.returns-clause-shape
returns-clause-shape c =
    let s : Shape = record { server = c.args.server; servers = c.args.servers; disks = c.args.disks; blocks = c.args.blocks } in
    let read = c.in_ok-read.read in
    shape_of c.restored.result s read.counters read.entries.items read.pages.items c.restored.ensures.ok

pub returns-clause-err : goal.returns-clause-err
returns-clause-err c =
    let s : Shape = record { server = c.args.server; servers = c.args.servers; disks = c.args.disks; blocks = c.args.blocks } in
    let read = c.in_ok-read.read in
    refused_of c.restored.result s c.args.bytes.now read.counters read.entries.items read.pages.items c.in_ok-read.ensures.ok c.restored.ensures.err
