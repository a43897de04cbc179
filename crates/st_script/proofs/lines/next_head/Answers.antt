use Rattle.std.specs.Io.KnownBytes.{prepend_known}
use Rattle.st_script.proofs.Outcomes.{head_on, head_stop_on, no_head_stops}
use Rattle.st_script.proofs.lines.next_head.Goals as goal

pub returns-in-Ok-Some-clause-exact : goal.returns-in-Ok-Some-clause-exact
returns-in-Ok-Some-clause-exact g c = λ bytes known.
    let found = rw c.in-Ok-Some.field-0-is at c.in-Ok-Some.ensures.found in
    let line = rw c.as_slice.ensures.value at c.first_bytes.ensures in
    head_on (g.S.Script.stands 0) g.S.Script.head g.S.Script.rules bytes c.next_line.new.held.items c.pass_line.new.held.items (g.I.Source.left c.next_line.new.input) c.in-Ok-Some.n
    c.first_bytes.result.now c.begin-begun.result (found bytes known) c.pass_line.ensures line c.begin-begun.ensures

pub returns-in-Ok-None-clause-exact : goal.returns-in-Ok-None-clause-exact
returns-in-Ok-None-clause-exact g c = λ bytes known.
    let found = rw c.in-Ok-None.field-0-is at c.in-Ok-None.ensures.found in
    no_head_stops g.S.Script.head g.S.Script.rules bytes (found bytes known)

pub returns-in-Err-clause-exact : goal.returns-in-Err-clause-exact
returns-in-Err-clause-exact g c = λ bytes known.
    head_stop_on (g.S.Script.stands 0) g.S.Script.head g.S.Script.rules bytes c.next_line.new.held.items (g.I.Source.left c.next_line.new.input)
    (prepend_known c.next_line.new.held.items (g.I.Source.left c.next_line.new.input)) c.in-Err.stop (c.in-Err.ensures.found bytes known)
