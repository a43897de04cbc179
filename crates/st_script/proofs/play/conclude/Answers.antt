use Rattle.st_script.proofs.Outcomes.{more_behind, nothing_behind, unwritten}
use Rattle.st_script.proofs.play.conclude.Goals as goal

pub returns-in-Ok-None-clause-exact : goal.returns-in-Ok-None-clause-exact
returns-in-Ok-None-clause-exact g c = λ s h bytes known.
    let found = rw c.in-Ok-None.field-0-is at c.in-Ok-None.ensures.found in
    nothing_behind (λ t. g.S.Script.stands c.args.done t c.args.script.now) g.S.Script.rules c.args.done c.args.line s c.write_last.result _ _ bytes (found bytes known) h
    (c.write_last.ensures.exact s h)

pub returns-in-Ok-Some-clause-exact : goal.returns-in-Ok-Some-clause-exact
returns-in-Ok-Some-clause-exact g c = λ s h bytes known.
    let found = rw c.in-Ok-Some.field-0-is at c.in-Ok-Some.ensures.found in
    let line = found bytes known in
    more_behind (λ t. g.S.Script.stands c.args.done t c.args.script.now) g.S.Script.rules c.args.done c.args.line s c.refuse.result _ _ _ _ _ line.lines c.refuse.ensures.exact

pub returns-in-Err-Malformed-clause-exact : goal.returns-in-Err-Malformed-clause-exact
returns-in-Err-Malformed-clause-exact g c = λ s h bytes known.
    let found = rw c.in-Err-Malformed.field-0-is at c.in-Err-Malformed.ensures.found in
    let long = found bytes known in
    more_behind (λ t. g.S.Script.stands c.args.done t c.args.script.now) g.S.Script.rules c.args.done c.args.line s c.refuse-in-Err-Malformed.result _ _ _ _ _ long.lines
    c.refuse-in-Err-Malformed.ensures.exact

pub returns-in-Err-Read-clause-exact : goal.returns-in-Err-Read-clause-exact
returns-in-Err-Read-clause-exact g c = λ s h bytes known. unwritten _ _

pub returns-in-Err-Memory-clause-exact : goal.returns-in-Err-Memory-clause-exact
returns-in-Err-Memory-clause-exact g c = λ s h bytes known. unwritten _ _
