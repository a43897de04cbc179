use Rattle.st_stable_file.proofs.Formats.{opened_after}
use Rattle.st_server_states.specs.States.{states}
use Rattle.st_kept_histories.proofs.Kept.{gate_in, group_in, snapshot_in, starves_in, steps_in, switch_in, syncs_in, taken_in}
use Rattle.st_kept_histories.proofs.Opened.{opened_in}
use Rattle.st_kept_histories.proofs.law.a_kept_server_outlives_crashes.Goals as goal

pub returns-clause-opened : goal.returns-clause-opened
returns-clause-opened c = λ i k start header p bytes now limit e r h state leads o. opened_in i k start header p bytes now limit e r h state leads o

pub returns-clause-stepped : goal.returns-clause-stepped
returns-clause-stepped c = λ s k start header first old new p now input h e. steps_in s k start header first old new p now input h e

pub returns-clause-starved : goal.returns-clause-starved
returns-clause-starved c = λ s k start header first old new p now input h e. starves_in s k start header first old new p now input h e

pub returns-clause-group : goal.returns-clause-group
returns-clause-group c = λ s k start header first old new p w file h b put. group_in s k start header first old new p w file h b put

pub returns-clause-snapshot : goal.returns-clause-snapshot
returns-clause-snapshot c = λ s k start header first old new p w file h b put. snapshot_in s k start header first old new p w file h b put

pub returns-clause-gate : goal.returns-clause-gate
returns-clause-gate c = λ s k start header first old new p w file count h b task put. gate_in s k start header first old new p w file count h b task put

pub returns-clause-switch : goal.returns-clause-switch
returns-clause-switch c = λ s k start header first old new p w file count gate h b task put. switch_in s k start header first old new p w file count gate h b task put

pub returns-clause-synced : goal.returns-clause-synced
returns-clause-synced c = λ s k start header first e p h a b. syncs_in s k start header first e p h a b

pub returns-clause-taken : goal.returns-clause-taken
returns-clause-taken c = λ s k start header first e p h. taken_in s k start header first e p h

pub returns-clause-crashed : goal.returns-clause-crashed
returns-clause-crashed c = λ s k i start header first e p left h l. opened_after s (states s k) i start header p left h.state.state h.beside.reached l h.state.leads
