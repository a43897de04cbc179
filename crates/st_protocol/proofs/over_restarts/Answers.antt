use Rattle.st_protocol.proofs.World.{exclusive, alone, exactly, one_life, no_conflict, theft_is_late}
use Rattle.st_protocol.proofs.over_restarts.Goals as goal

pub returns-clause-exclusive : goal.returns-clause-exclusive
returns-clause-exclusive c = exclusive

pub returns-clause-no_conflict : goal.returns-clause-no_conflict
returns-clause-no_conflict c k = no_conflict k

pub returns-clause-theft : goal.returns-clause-theft
returns-clause-theft c = theft_is_late

pub returns-clause-alone : goal.returns-clause-alone
returns-clause-alone c = alone

pub returns-clause-exactly : goal.returns-clause-exactly
returns-clause-exactly c = exactly

pub returns-clause-one_life : goal.returns-clause-one_life
returns-clause-one_life c = one_life
