use Rattle.st_lemmas.proofs.Words
use Words.{ap, sym, subst, ◌∙◌, vec_capacity, list_all}
use Words.Client.{ClientNode, start}
use Words.Truth.{nothing_there}
use Rattle.st_client_association.specs.Associations.{has_room_at}
use Rattle.st_client.proofs.Crashing.{low_there}
use Rattle.st_client.proofs.Running.{started_fits, starts_in}
use Rattle.st_client.proofs.Sends.{start_sound}
use Rattle.st_client.specs.Nodes.{crashed_client, is_low, state_of}
use Rattle.st_client.specs.Invariants.{IsSound}
use Rattle.st_client.proofs.node.ClientNode.start.Goals as goal

pub started-requires-clause-low : goal.started-requires-clause-low
started-requires-clause-low c =
    let n = nothing_there c.self.inside.state (ap (λ (m : ClientNode). m.running) c.self.view_is ∙ c.requires.crashed) in
    ap (list_all is_low) c.as_slice-2.ensures.value
    ∙ sym (low_there c.self.inside.servers.items c.self.inside.lives.items c.self.invariant.count)
    ∙ ap (λ o. list_all has_room_at (state_of c.self.inside.id c.self.inside.config c.self.inside.servers.items c.self.inside.lives.items o).associations) (sym n)
    ∙ ap (λ (m : ClientNode). list_all has_room_at m.state.associations) c.self.view_is
    ∙ c.requires.room.each

pub tell_lives-requires : goal.tell_lives-requires
tell_lives-requires c =
    let e =
    c.in_ok-state.ensures
    ∙ ap (λ xs. start (crashed_client c.self.inside.id c.self.inside.config xs c.as_slice-2.result.now)) c.as_slice.ensures.value
    ∙ ap (λ xs. start (crashed_client c.self.inside.id c.self.inside.config c.self.inside.servers.items xs)) c.as_slice-2.ensures.value in
    started_fits c.self.inside.id c.self.inside.config c.self.inside.servers.items c.self.inside.lives.items (vec_capacity c.self.inside.lives) c.in_ok-state.state e c.self.invariant.count c.self.invariant.room

pub invariant_of-self : goal.invariant_of-self
invariant_of-self c =
    let n = nothing_there c.self.inside.state (ap (λ (m : ClientNode). m.running) c.self.view_is ∙ c.requires.crashed) in
    let e =
    c.in_ok-state.ensures
    ∙ ap (λ xs. start (crashed_client c.self.inside.id c.self.inside.config xs c.as_slice-2.result.now)) c.as_slice.ensures.value
    ∙ ap (λ xs. start (crashed_client c.self.inside.id c.self.inside.config c.self.inside.servers.items xs)) c.as_slice-2.ensures.value in
    starts_in c.self.inside.id c.self.inside.config c.self.inside.servers.items c.self.inside.lives.items c.tell_lives.new.lives.items (vec_capacity c.self.inside.lives) (vec_capacity c.tell_lives.new.lives)
    c.in_ok-state.state c.self.invariant.checked e c.self.invariant.count c.self.invariant.room c.tell_lives.ensures.told c.tell_lives.ensures.room
    (subst IsSound (sym e)
    (start_sound (crashed_client c.self.inside.id c.self.inside.config c.self.inside.servers.items c.self.inside.lives.items)
    (subst (λ o. IsSound (state_of c.self.inside.id c.self.inside.config c.self.inside.servers.items c.self.inside.lives.items o)) n c.self.invariant.sound)))
