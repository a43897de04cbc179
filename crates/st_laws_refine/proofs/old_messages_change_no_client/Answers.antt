use Rattle.st_laws_refine.proofs.Client.Old.{old_messages_change_no_client}
use Rattle.st_laws_refine.proofs.old_messages_change_no_client.Goals as goal

pub returns : goal.returns
returns c = old_messages_change_no_client
