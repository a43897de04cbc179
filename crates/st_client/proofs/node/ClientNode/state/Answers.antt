use Rattle.st_client.proofs.Looking.{nothing_else}
use Rattle.st_client.proofs.node.ClientNode.state.Goals as goal

pub returns-clause-crashed : goal.returns-clause-crashed
returns-clause-crashed c =
    nothing_else c.self.inside.id c.self.inside.config c.self.inside.servers.items c.self.inside.lives.items c.self.inside.state c.args.self.now c.self.view_is
