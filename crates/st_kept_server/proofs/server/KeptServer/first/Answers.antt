use Rattle.st_kept_server.proofs.Opened.{may_begin}
use Rattle.st_kept_server.proofs.server.KeptServer.first.Goals as goal

pub begin_epoch-requires-clause-may : goal.begin_epoch-requires-clause-may
begin_epoch-requires-clause-may c =
    may_begin c.args.opening.server c.args.opening.journal c.args.now c.args.limit c.begun-first.result c.begun-first.ensures c.requires.some
