use Rattle.std.proofs.Common.{◌≡◌, refl, arith}
use Rattle.st_stable_file.specs.OpenedFile.{OpensFile, shape_of}
use Rattle.st_kept_opening.proofs.Opened.{file_shape, gate_within, of_some}
use Rattle.st_kept_opening.proofs.opening.open_server.Goals as goal

pub begin-requires-clause-shape : goal.begin-requires-clause-shape
begin-requires-clause-shape c =
    let i = c.args.wanted.now in
    let opens = of_some c.in-Ok.found c.in-Some.field-0 (OpensFile c.args.bytes.now i c.args.now.0) c.in-Some.is c.in-Ok.ensures.made in
    file_shape (shape_of i) (c.a_server_has_a_format.ensures.shape (shape_of i)) i c.args.bytes.now c.args.now.0 c.in-Some.field-0 refl opens

pub new-journal-requires-clause-within : goal.new-journal-requires-clause-within
new-journal-requires-clause-within c =
    let i = c.args.wanted.now in
    let opens = of_some c.in-Ok.found c.in-Some.field-0 (OpensFile c.args.bytes.now i c.args.now.0) c.in-Some.is c.in-Ok.ensures.made in
    let within = gate_within i c.args.bytes.now c.args.now.0 c.in-Some.field-0 opens in
    let size = c.from-size.ensures in
    omega (arith, within, size)
