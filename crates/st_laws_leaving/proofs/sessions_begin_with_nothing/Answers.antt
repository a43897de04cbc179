use Rattle.st_laws_leaving.proofs.BegunSessions.{sessions_begin_with_nothing}
use Rattle.st_laws_leaving.proofs.sessions_begin_with_nothing.Goals as goal

pub returns : goal.returns
returns c = sessions_begin_with_nothing
