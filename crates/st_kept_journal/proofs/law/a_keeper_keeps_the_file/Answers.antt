use Rattle.std.specs.Prelude.{[]}
use Rattle.st_kept_journal.proofs.Driven.{adds, begins_group, keeps_group, moves_switch, opens, opens_gate, prepares, switches, syncs_group, syncs_snapshot, writes_snapshot}
use Rattle.st_kept_journal.proofs.law.a_keeper_keeps_the_file.Goals as goal

pub returns-clause-opened : goal.returns-clause-opened
returns-clause-opened g c = λ f start k area e sum idle none s few r. opens f start [] sum k area e idle none s few r

pub returns-clause-added : goal.returns-clause-added
returns-clause-added g c = λ f start header j k x sum d. adds f start header sum j k x d

pub returns-clause-group : goal.returns-clause-group
returns-clause-group g c = λ f start header j k w x xs file sum d t waits writes put. begins_group f start header sum j k w x xs file d t waits writes put

pub returns-clause-group_synced : goal.returns-clause-group_synced
returns-clause-group_synced g c = λ f start header j k gate sum d e. syncs_group f start header sum j k gate d e

pub returns-clause-gate : goal.returns-clause-gate
returns-clause-gate g c = λ f start header j k w gate file sum r d e writes put. opens_gate f start header sum j k w gate file r d e writes put

pub returns-clause-gate_synced : goal.returns-clause-gate_synced
returns-clause-gate_synced g c = λ f start header j k gate count sum r d e t. keeps_group f start header sum j k gate count r d e t

pub returns-clause-snapshot : goal.returns-clause-snapshot
returns-clause-snapshot g c = λ f start header j k w state file sum d t writes put leads. writes_snapshot f start header sum j k w state file d t writes put leads

pub returns-clause-snapshot_synced : goal.returns-clause-snapshot_synced
returns-clause-snapshot_synced g c = λ f start header j k sum d e. syncs_snapshot f start header sum j k d e

pub returns-clause-prepared : goal.returns-clause-prepared
returns-clause-prepared g c = λ f start header j k count gate sum d t e same. prepares f start header sum j k count gate d t e same

pub returns-clause-switch : goal.returns-clause-switch
returns-clause-switch g c = λ f start header j k w group file sum d e writes put. moves_switch f start header sum j k w group file d e writes put

pub returns-clause-switch_synced : goal.returns-clause-switch_synced
returns-clause-switch_synced g c = λ f start header j k count gate group sum d t e. switches f start header sum j k count gate group d t e
