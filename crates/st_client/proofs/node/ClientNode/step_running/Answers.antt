use Rattle.st_lemmas.proofs.Words
use Words.{sym, ◌∙◌, vec_capacity}
use Rattle.st_client.proofs.Running.{crashed_is, crashes_in, kept_fits, stepped, steps_in}
use Rattle.st_client.proofs.node.ClientNode.step_running.Goals as goal

pub tell_lives-requires : goal.tell_lives-requires
tell_lives-requires c =
    let s = stepped c.self.inside.id c.self.inside.config c.self.inside.servers.items c.self.inside.lives.items (vec_capacity c.self.inside.lives) c.self.inside.state c.in-Some.state c.in-Ok.state
    c.args.self.now c.args.now c.args.input.now c.in-Ok.out c.self.invariant (sym c.take.ensures.value ∙ c.in-Some.is) c.self.view_is c.in-Ok.ensures c.requires.room c.requires.time c.requires.fits in
    kept_fits c.self.inside.id c.self.inside.config c.self.inside.servers.items c.self.inside.lives.items (vec_capacity c.self.inside.lives) c.in-Some.state c.in-Ok.state s.node s.kept

pub invariant_of-self-in-Ok : goal.invariant_of-self-in-Ok
invariant_of-self-in-Ok c =
    let s = stepped c.self.inside.id c.self.inside.config c.self.inside.servers.items c.self.inside.lives.items (vec_capacity c.self.inside.lives) c.self.inside.state c.in-Some.state c.in-Ok.state
    c.args.self.now c.args.now c.args.input.now c.in-Ok.out c.self.invariant (sym c.take.ensures.value ∙ c.in-Some.is) c.self.view_is c.in-Ok.ensures c.requires.room c.requires.time c.requires.fits in
    steps_in c.self.inside.id c.self.inside.config c.self.inside.servers.items c.self.inside.lives.items c.tell_lives.new.lives.items (vec_capacity c.self.inside.lives) (vec_capacity c.tell_lives.new.lives)
    c.in-Some.state c.in-Ok.state s.node s.kept c.tell_lives.ensures.told c.tell_lives.ensures.room s.sound

pub invariant_of-self-in-Err : goal.invariant_of-self-in-Err
invariant_of-self-in-Err c = crashes_in c.self.inside.id c.self.inside.config c.self.inside.servers.items c.self.inside.lives.items (vec_capacity c.self.inside.lives) c.self.inside.state c.take.new.self c.take.ensures.after c.self.invariant

pub returns-in-Err : goal.returns-in-Err
returns-in-Err c = crashed_is c.self.inside.id c.self.inside.config c.self.inside.servers.items c.self.inside.lives.items (vec_capacity c.self.inside.lives) c.self.inside.state c.take.new.self c.args.self.now c.take.ensures.after c.self.invariant c.self.view_is
