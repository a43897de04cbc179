use Rattle.st_laws_refine.proofs.Server.Replies.{replies_stay}
use Rattle.st_laws_refine.proofs.replies_stay_dated.Goals as goal

pub returns : goal.returns
returns c = replies_stay
