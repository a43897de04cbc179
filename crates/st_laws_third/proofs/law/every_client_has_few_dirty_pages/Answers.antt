use Rattle.st_laws_third.proofs.FewPages.{every_client_has_few_dirty_pages}
use Rattle.st_laws_third.proofs.law.every_client_has_few_dirty_pages.Goals as goal

pub returns : goal.returns
returns c = every_client_has_few_dirty_pages
