use Rattle.st_lemmas.proofs.Words
use Words.{◌≡◌, ◌++◌, length, map, ap, sym, subst, ◌∙◌, arith, length-map}
use Words.Client.{ClientNode}
use Words.World.{lives_of}
use Rattle.st_client.proofs.Crashing.{crashed_lives_are}
use Rattle.st_client.proofs.Running.{servers_of}
use Rattle.st_client.specs.Nodes.{crashed_lives, server_at, state_of}
use Rattle.st_client.proofs.node.ClientNode.push_lives.Goals as goal

pub push_lives-requires : goal.push_lives-requires
push_lives-requires c =
    let all = ap length (servers_of c.self.inside.id c.self.inside.config c.self.inside.servers.items c.self.inside.lives.items c.self.inside.state c.self.invariant.count c.self.invariant.runs) in
    let own : length (map server_at c.in-Some.state.associations) ≡ length c.self.inside.servers.items =
    subst (λ o. length (map server_at (state_of c.self.inside.id c.self.inside.config c.self.inside.servers.items c.self.inside.lives.items o).associations) ≡ length c.self.inside.servers.items) c.in-Some.is all in
    let many = length-map c.in-Some.state.associations server_at in
    omega (arith, own, many, c.in_ok-reserve.ensures.ok, c.len.ensures)

pub returns-in-None-clause-added : goal.returns-in-None-clause-added
returns-in-None-clause-added c =
    let a = ap (λ xs. crashed_lives c.self.inside.id xs c.as_slice-in-None.result.now) c.as_slice.ensures.value in
    let b = ap (λ xs. crashed_lives c.self.inside.id c.self.inside.servers.items xs) c.as_slice-in-None.ensures.value in
    let d = crashed_lives_are c.self.inside.id c.self.inside.config c.self.inside.servers.items c.self.inside.lives.items in
    let e = ap (λ o. lives_of (state_of c.self.inside.id c.self.inside.config c.self.inside.servers.items c.self.inside.lives.items o)) (sym c.in-None.is) ∙ ap (λ (n : ClientNode). lives_of n.state) c.self.view_is in
    c.push_crashed.ensures ∙ ap (λ xs. xs ++ crashed_lives c.self.inside.id c.as_slice.result.now c.as_slice-in-None.result.now) c.reserve.ensures.items
    ∙ ap (λ xs. c.args.found.now.items ++ xs) (a ∙ b ∙ d ∙ e)
