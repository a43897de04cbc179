use Rattle.st_laws_sessions.proofs.TakenOnce.{each_number_is_taken_once}
use Rattle.st_laws_sessions.proofs.law.each_number_is_taken_once.Goals as goal

pub returns : goal.returns
returns c = each_number_is_taken_once
