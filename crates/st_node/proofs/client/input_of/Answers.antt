use Rattle.st_node.proofs.Clients.{to_client}
use Rattle.st_node.proofs.client.input_of.Goals as goal

pub returns-in-Client-clause-exact : goal.returns-in-Client-clause-exact
returns-in-Client-clause-exact c =
    to_client c.args.message c.kind.result c.receiver.result c.own_input.result c.kind.ensures c.receiver.ensures (cc c.in-Client.is) c.own_input.ensures.exact
