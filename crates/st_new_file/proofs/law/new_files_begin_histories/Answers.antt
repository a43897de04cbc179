use Rattle.st_new_file.proofs.NewFiles as files
use Rattle.st_new_file.proofs.law.new_files_begin_histories.Goals as goal

pub returns-clause-formed : goal.returns-clause-formed
returns-clause-formed c = λ s k start h bytes rest b e f room. files.formed s k start h bytes rest b e f room

pub returns-clause-opened : goal.returns-clause-opened
returns-clause-opened c = λ s k start h bytes p fits r idle waiting f. files.opened s k start h bytes p fits r idle waiting f
