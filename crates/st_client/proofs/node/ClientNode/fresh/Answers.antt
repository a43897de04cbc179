use Rattle.st_lemmas.proofs.Words
use Words.{rules, ◌≡◌, ◌≤◌, length, vec_capacity, Ok}
use Rattle.st_base.specs.Config.{check}
use Rattle.st_client.proofs.Running.{fresh_in}
use Rattle.st_client.proofs.node.ClientNode.fresh.Goals as goal

pub invariant_of-result : goal.invariant_of-result
invariant_of-result c =
    let checked : check c.args.config.now ≡ Ok tt = search rules in
    let room : length c.in_ok-servers.servers.items ≤ vec_capacity c.tell_lives.new.lives = search rules in
    fresh_in c.args.id c.args.config.now c.in_ok-servers.servers.items c.tell_lives.new.lives.items (vec_capacity c.tell_lives.new.lives) c.args.servers c.in_ok-state.state checked
    c.in_ok-state.ensures c.in_ok-servers.ensures c.tell_lives.ensures.told room c.requires.client c.requires.clients c.requires.servers
