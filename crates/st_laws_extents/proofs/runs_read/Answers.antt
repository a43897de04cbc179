use Rattle.st_laws_extents.proofs.EveryRun.Law.{pages, reads}
use Rattle.st_laws_extents.proofs.runs_read.Goals as goal

pub returns-clause-reads : goal.returns-clause-reads
returns-clause-reads c = reads

pub returns-clause-pages : goal.returns-clause-pages
returns-clause-pages c = pages
