use Rattle.st_kept_server.proofs.Full.{epoch_fits, epoch_full}
use Rattle.st_kept_server.proofs.server.KeptServer.begin_epoch.Goals as goal

pub record_change-requires : goal.record_change-requires
record_change-requires c = record { ranges = epoch_fits c.args.self.now.server.changed c.requires.changed }

pub returns-in-Err-Full-clause-err : goal.returns-in-Err-Full-clause-err
returns-in-Err-Full-clause-err c =
    epoch_full c.args.self.now.journal c.args.now.0 c.args.self.now.server.changed c.requires.changed
    (c.in-Err-Full.ensures.full c.in-Err-Full.field-0-is)
