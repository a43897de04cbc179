use Rattle.st_laws_refine.proofs.Server.Old.{old_messages}
use Rattle.st_laws_refine.proofs.old_messages_change_no_server.Goals as goal

pub returns : goal.returns
returns c = old_messages
