use Rattle.st_laws_requests.proofs.Replies.Last.{requests_are_last}
use Rattle.st_laws_requests.proofs.requests_are_last.Goals as goal

pub returns : goal.returns
returns c = requests_are_last
