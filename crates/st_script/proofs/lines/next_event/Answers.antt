use Rattle.std.specs.Io.KnownBytes.{prepend_known}
use Rattle.st_script.proofs.Outcomes.{missing_stops, read_on, stop_on}
use Rattle.st_script.proofs.lines.next_event.Goals as goal

pub returns-in-Ok-Some-clause-exact : goal.returns-in-Ok-Some-clause-exact
returns-in-Ok-Some-clause-exact g c = λ bytes known.
    let found = rw c.in-Ok-Some.field-0-is at c.in-Ok-Some.ensures.found in
    let line = rw c.as_slice.ensures.value at c.first_bytes.ensures in
    read_on g.S.Script.rules c.args.done bytes c.next_line.new.held.items c.pass_line.new.held.items (g.I.Source.left c.next_line.new.input) c.in-Ok-Some.n c.first_bytes.result.now
    c.read_line-read.result (found bytes known) c.pass_line.ensures line c.read_line-read.ensures.exact

pub returns-in-Ok-None-clause-exact : goal.returns-in-Ok-None-clause-exact
returns-in-Ok-None-clause-exact g c = λ bytes known.
    let found = rw c.in-Ok-None.field-0-is at c.in-Ok-None.ensures.found in
    missing_stops g.S.Script.rules c.args.done bytes (found bytes known)

pub returns-in-Err-clause-exact : goal.returns-in-Err-clause-exact
returns-in-Err-clause-exact g c = λ bytes known.
    stop_on g.S.Script.rules c.args.done bytes c.next_line.new.held.items (g.I.Source.left c.next_line.new.input)
    (prepend_known c.next_line.new.held.items (g.I.Source.left c.next_line.new.input)) c.in-Err.stop (c.in-Err.ensures.found bytes known)
