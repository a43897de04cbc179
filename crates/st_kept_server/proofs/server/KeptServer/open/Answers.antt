use Rattle.st_kept_server.proofs.Opened.{at_rest, first_not_opened, first_opens}
use Rattle.st_kept_server.proofs.server.KeptServer.open.Goals as goal

pub first-requires-clause-rest : goal.first-requires-clause-rest
first-requires-clause-rest c =
    at_rest c.args.bytes.now c.args.wanted.now c.args.now c.in-Ok.opening.server c.in-Ok.opening.journal c.in-Ok.ensures.ok

pub returns-in-Ok-clause-ok : goal.returns-in-Ok-clause-ok
returns-in-Ok-clause-ok c =
    first_opens c.args.bytes.now c.args.wanted.now c.args.now c.in-Ok.opening.server c.in-Ok.opening.journal c.in-Ok.ensures.ok c.args.limit
    c.requires.time c.first.result c.first.ensures.ok

pub returns-in-Ok-clause-err : goal.returns-in-Ok-clause-err
returns-in-Ok-clause-err c =
    first_not_opened c.args.bytes.now c.args.wanted.now c.args.now c.in-Ok.opening.server c.in-Ok.opening.journal c.in-Ok.ensures.ok c.first.result
    c.first.ensures.err
