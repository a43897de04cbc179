use Rattle.st_move.proofs.Networks.{release_some}
use Rattle.st_move.proofs.site.release.Goals as goal

pub returns-in-Some-clause-rows : goal.returns-in-Some-clause-rows
returns-in-Some-clause-rows c = (release_some c.args.locks.now c.released-found.new.self c.args.c c.in-Some.g c.in-Some.field-0-1 c.released-found.result c.requires c.in-Some.ensures c.released-found.ensures).1
