use Rattle.st_client_association.proofs.PagesRead.{read_as}
use Rattle.st_client_association.proofs.session_turn.SessionTurn.read.Goals as goal

pub returns : goal.returns
returns c = read_as c.args.self.now c.read_page.new.self c.args.ino c.args.page c.read_page.result c.read_page.ensures.bytes c.read_page.ensures.used
