use Rattle.st_embed.proofs.StableParts.{is_of_server}
use Rattle.st_embed.proofs.law.journals_are_of_servers.Goals as goal

pub returns : goal.returns
returns c = is_of_server
