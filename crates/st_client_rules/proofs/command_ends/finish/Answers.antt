use Rattle.st_client_rules.proofs.Commands.{own_number}
use Rattle.st_client_rules.proofs.command_ends.finish.Goals as goal

pub finish_by-requires : goal.finish_by-requires
finish_by-requires c = record { outstanding = own_number c.args.t.now.here.store.commands c.args.number c.in-Some.c c.in-Some.ensures.command }
