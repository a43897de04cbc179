use Rattle.st_laws_limits.proofs.LimitsKept.{every_server_has_few_files}
use Rattle.st_laws_limits.proofs.every_server_has_few_files.Goals as goal

pub returns : goal.returns
returns c = every_server_has_few_files
