use Rattle.st_server_states.proofs.Formats.{fresh_may, is_of_stables}
use Rattle.st_server_states.proofs.StatesKept.{change_keeps, change_shape}
use Rattle.st_server_states.proofs.law.a_server_has_a_format.Goals as goal

pub returns-clause-fresh : goal.returns-clause-fresh
returns-clause-fresh c = fresh_may

pub returns-clause-keeps : goal.returns-clause-keeps
returns-clause-keeps c = change_keeps

pub returns-clause-shape : goal.returns-clause-shape
returns-clause-shape c = λ s t u x h e. change_shape s t u x h e

pub returns-clause-format : goal.returns-clause-format
returns-clause-format c = λ s k. is_of_stables s k
