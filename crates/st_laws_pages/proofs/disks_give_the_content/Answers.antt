use Rattle.st_laws_pages.proofs.Disks.Data.{unmapped_law, block_law, hard_law}
use Rattle.st_laws_pages.proofs.disks_give_the_content.Goals as goal

pub returns-clause-unmapped : goal.returns-clause-unmapped
returns-clause-unmapped c = unmapped_law

pub returns-clause-mapped : goal.returns-clause-mapped
returns-clause-mapped c = block_law

pub returns-clause-hard : goal.returns-clause-hard
returns-clause-hard c = hard_law
