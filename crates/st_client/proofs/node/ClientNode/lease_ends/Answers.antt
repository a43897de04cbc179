use Rattle.st_lemmas.proofs.Words
use Words.{◌≡◌, true, ap, subst, sym, ◌∙◌, None, map, list_all, ServerId}
use Words.Client.{ClientNode, lease_end_with}
use Rattle.st_client.proofs.Crashing.{no_end}
use Rattle.st_client.proofs.Running.{ends_are, servers_of}
use Rattle.st_client.specs.Nodes.{is_server, server_at, state_of}
use Rattle.st_client.proofs.node.ClientNode.lease_ends.Goals as goal

pub lease_ends-requires : goal.lease_ends-requires
lease_ends-requires c =
    subst (λ o. list_all is_server (map server_at (state_of c.self.inside.id c.self.inside.config c.self.inside.servers.items c.self.inside.lives.items o).associations) ≡ true) c.in-Some.is
    (ap (list_all is_server) (servers_of c.self.inside.id c.self.inside.config c.self.inside.servers.items c.self.inside.lives.items c.self.inside.state c.self.invariant.count c.self.invariant.runs) ∙ c.self.invariant.known)

pub returns-in-None : goal.returns-in-None
returns-in-None c =
    let none : (s : ServerId) → None ≡ lease_end_with c.args.self.now.state s =
    λ s. no_end c.self.inside.id c.self.inside.config c.self.inside.servers.items c.self.inside.lives.items s
    ∙ ap (λ o. lease_end_with (state_of c.self.inside.id c.self.inside.config c.self.inside.servers.items c.self.inside.lives.items o) s) (sym c.in-None.is)
    ∙ ap (λ (n : ClientNode). lease_end_with n.state s) c.self.view_is in
    let known : list_all is_server (map server_at c.args.self.now.state.associations) ≡ true =
    ap (λ (n : ClientNode). list_all is_server (map server_at n.state.associations)) (sym c.self.view_is)
    ∙ ap (list_all is_server) (servers_of c.self.inside.id c.self.inside.config c.self.inside.servers.items c.self.inside.lives.items c.self.inside.state c.self.invariant.count c.self.invariant.runs) ∙ c.self.invariant.known in
    ends_are c.args.self.now.state None None None None known (none (record { 0 = 1 })) (none (record { 0 = 2 })) (none (record { 0 = 3 })) (none (record { 0 = 4 }))
