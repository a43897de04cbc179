use Rattle.st_lemmas.proofs.Words
use Words.{◌≡◌, refl, vec_capacity, rules, Ok}
use Rattle.st_base.specs.Config.{check}
use Rattle.st_client.proofs.Restarts.{restored_in, restored_is}
use Rattle.st_client.proofs.node.ClientNode.restore.Goals as goal

pub invariant_of-result : goal.invariant_of-result
invariant_of-result c =
    let checked : check c.args.config.now ≡ Ok tt = search rules in
    restored_in c.args.id c.args.config.now c.in_ok-servers.servers.items c.args.lives.now c.in_ok-lives.lives.items c.in_ok-state.state _ c.in_ok-state.ensures c.in_ok-servers.ensures c.in_ok-lives.ensures.copy refl
    (vec_capacity c.in_ok-lives.lives) checked c.requires.client c.requires.clients c.requires.servers c.requires.begun c.in_ok-lives.ensures.room

pub returns : goal.returns
returns c =
    restored_is c.args.id c.args.config.now c.in_ok-servers.servers.items c.args.lives.now c.in_ok-lives.lives.items c.in_ok-state.state _ c.in_ok-state.ensures c.in_ok-servers.ensures c.in_ok-lives.ensures.copy refl
