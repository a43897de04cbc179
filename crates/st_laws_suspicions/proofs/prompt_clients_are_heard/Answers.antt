use Rattle.st_laws_suspicions.proofs.Prompt.{heard_law}
use Rattle.st_laws_suspicions.proofs.prompt_clients_are_heard.Goals as goal

pub returns : goal.returns
returns c = heard_law
