use Rattle.st_lemmas.proofs.Words
use Words.{refl, vec_capacity, None}
use Rattle.st_client.proofs.Running.{crashed_is, crashes_in}
use Rattle.st_client.proofs.node.ClientNode.crash.Goals as goal

pub invariant_of-self : goal.invariant_of-self
invariant_of-self c = crashes_in c.self.inside.id c.self.inside.config c.self.inside.servers.items c.self.inside.lives.items (vec_capacity c.self.inside.lives) c.self.inside.state None refl c.self.invariant

pub returns : goal.returns
returns c = crashed_is c.self.inside.id c.self.inside.config c.self.inside.servers.items c.self.inside.lives.items (vec_capacity c.self.inside.lives) c.self.inside.state None c.args.self.now refl c.self.invariant c.self.view_is
