use Rattle.st_journal_bytes.proofs.Scans.{area_once, gate_once}
use Rattle.st_journal_bytes.proofs.law.an_area_is_read_in_one_way.Goals as goal

pub returns-clause-one : goal.returns-clause-one
returns-clause-one c = area_once

pub returns-clause-read : goal.returns-clause-read
returns-clause-read c = gate_once
