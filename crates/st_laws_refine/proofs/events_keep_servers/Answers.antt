use Rattle.st_laws_refine.proofs.Server.Laws.{steps_keep, advances_keep, crashes_keep, starts_keep, calm_stays, few_stay}
use Rattle.st_laws_refine.proofs.events_keep_servers.Goals as goal

pub returns-clause-steps : goal.returns-clause-steps
returns-clause-steps c = steps_keep

pub returns-clause-advances : goal.returns-clause-advances
returns-clause-advances c = advances_keep

pub returns-clause-crashes : goal.returns-clause-crashes
returns-clause-crashes c = crashes_keep

pub returns-clause-starts : goal.returns-clause-starts
returns-clause-starts c = starts_keep

pub returns-clause-calm : goal.returns-clause-calm
returns-clause-calm c = calm_stays

pub returns-clause-few : goal.returns-clause-few
returns-clause-few c = few_stay
