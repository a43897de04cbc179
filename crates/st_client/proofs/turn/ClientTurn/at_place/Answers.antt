use Rattle.st_lemmas.proofs.Words
use Words.{◌≡◌, ◌≤◌, true, length, map, refl, ap, sym, subst, ◌∙◌, arith, remove}
use Words.ClientState.{ClientTurn, with_associations}
use Rattle.st_client_association.specs.Associations.{IsCounted}
use Rattle.st_client.proofs.Growing.{machine_run, one_in, others_in}
use Rattle.st_client.proofs.Placing.{entered_is, place_fits, place_is, placed_is, within_items}
use Rattle.st_client.specs.Machines.{IsMachineOf, at_place, here_of, is_ready_at, turn_of}
use Rattle.st_client.proofs.turn.ClientTurn.at_place.Goals as goal

pub swap_remove-a-requires : goal.swap_remove-a-requires
swap_remove-a-requires g c =
    let x = c.deref_mut-here.result.now in
    let told = ap turn_of c.deref_mut-here.ensures.value ∙ c.self.view_is in
    let l = within_items x.associations.items c.args.self.state.associations c.args.place (ap (λ (t : ClientTurn). t.state.associations) told) c.requires.within in
    omega (arith, l, x.associations.ok.0)

pub enter-turn-requires : goal.enter-turn-requires
enter-turn-requires g c =
    let x = c.deref_mut-here.result.now in
    let told = ap turn_of c.deref_mut-here.ensures.value ∙ c.self.view_is in
    let l = within_items x.associations.items c.args.self.state.associations c.args.place (ap (λ (t : ClientTurn). t.state.associations) told) c.requires.within in
    let one = one_in x.id x.config x.next_command x.out.items x.associations.items c.args.place c.swap_remove-a.result l c.swap_remove-a.ensures.value (subst IsMachineOf (sym c.deref_mut-here.ensures.value) c.self.invariant) in
    record { counted = subst (IsCounted c.swap_remove-a.result.here x.next_command) (sym (ap (λ v. v.items) c.replace-out.ensures.value)) one.counted }

pub apply-requires : goal.apply-requires
apply-requires g c =
    let x = c.deref_mut-here.result.now in
    let told = ap turn_of c.deref_mut-here.ensures.value ∙ c.self.view_is in
    let l = within_items x.associations.items c.args.self.state.associations c.args.place (ap (λ (t : ClientTurn). t.state.associations) told) c.requires.within in
    let one = one_in x.id x.config x.next_command x.out.items x.associations.items c.args.place c.swap_remove-a.result l c.swap_remove-a.ensures.value (subst IsMachineOf (sym c.deref_mut-here.ensures.value) c.self.invariant) in
    let ready = g.R.Rule.is_ready c.args.rule.now in
    ap (λ t. ready t.config t.here) c.enter-turn.ensures
    ∙ ap (λ k. ready k c.swap_remove-a.result.here) one.config
    ∙ place_fits (ready x.config) x.associations.items (map here_of x.associations.items) c.args.place c.swap_remove-a.result l c.swap_remove-a.ensures.value refl
    (subst (λ (t : ClientTurn). is_ready_at (ready t.state.config) c.args.place t.state.associations ≡ true) (sym told) c.requires.ready)

pub invariant_of-result : goal.invariant_of-result
invariant_of-result g c =
    let x = c.deref_mut-here.result.now in
    let told = ap turn_of c.deref_mut-here.ensures.value ∙ c.self.view_is in
    let l = within_items x.associations.items c.args.self.state.associations c.args.place (ap (λ (t : ClientTurn). t.state.associations) told) c.requires.within in
    let m = subst IsMachineOf (sym c.deref_mut-here.ensures.value) c.self.invariant in
    let one = one_in x.id x.config x.next_command x.out.items x.associations.items c.args.place c.swap_remove-a.result l c.swap_remove-a.ensures.value m in
    let e = c.enter-turn.ensures in
    let k = c.leave-a.ensures.left in
    let n = c.in_ok-turn.ensures.advances.0.0 in
    let o = c.in_ok-turn.ensures.advances.0.1 in
    let na = ap (λ t. t.next_command) e in
    let nb = ap (λ t. t.next_command) k in
    let oa = ap (λ t. length t.out) e in
    let ob = ap (λ t. length t.out) k in
    let oc = ap (λ v. length v.items) c.replace-out.ensures.value in
    let next : x.next_command ≤ c.leave-a.result.2 = omega (arith, n, na, nb) in
    let out : length x.out.items ≤ length c.leave-a.result.3.items = omega (arith, o, oa, ob, oc) in
    let id = ap (λ t. t.id) k ∙ c.in_ok-turn.ensures.advances.1.0 ∙ ap (λ t. t.id) e ∙ one.id in
    let config = ap (λ t. t.config) k ∙ c.in_ok-turn.ensures.advances.1.1 ∙ ap (λ t. t.config) e ∙ one.config in
    let count = c.swap_remove-a.ensures.len in
    let back = c.in_ok-put_back.ensures x.associations.items c.swap_remove-a.result l (omega (arith, count, x.associations.ok.0, c.swap_remove-a.new.self.ok.0)) c.swap_remove-a.ensures.items in
    machine_run x.id x.config x.next_command c.leave-a.result.2 x.out.items c.leave-a.result.3.items (remove x.associations.items c.args.place) c.put_back.new.associations.items c.args.place c.leave-a.result.0
    back next out (record { id = id; config = config; counted = c.leave-a.ensures.counted })
    (others_in x.id x.config x.next_command x.out.items x.associations.items (remove x.associations.items c.args.place) c.args.place refl m)

pub returns : goal.returns
returns g c =
    let x = c.deref_mut-here.result.now in
    let told = ap turn_of c.deref_mut-here.ensures.value ∙ c.self.view_is in
    let l = within_items x.associations.items c.args.self.state.associations c.args.place (ap (λ (t : ClientTurn). t.state.associations) told) c.requires.within in
    let m = subst IsMachineOf (sym c.deref_mut-here.ensures.value) c.self.invariant in
    let one = one_in x.id x.config x.next_command x.out.items x.associations.items c.args.place c.swap_remove-a.result l c.swap_remove-a.ensures.value m in
    let run = g.R.Rule.run c.args.rule.now in
    let rest = remove x.associations.items c.args.place in
    let t = with_associations (map here_of rest) (turn_of x) in
    let count = c.swap_remove-a.ensures.len in
    let back = c.in_ok-put_back.ensures x.associations.items c.swap_remove-a.result l (omega (arith, count, x.associations.ok.0, c.swap_remove-a.new.self.ok.0)) c.swap_remove-a.ensures.items in
    placed_is run t t rest c.put_back.new.associations.items c.args.place c.swap_remove-a.result c.leave-a.result.0 _ c.enter-turn.result
    c.leave-a.result.1 c.leave-a.result.2 c.leave-a.result.3.items refl refl back c.leave-a.ensures.left c.in_ok-turn.ensures.run
    (entered_is t c.swap_remove-a.result c.enter-turn.result _ _ _ c.enter-turn.ensures one.id one.config c.take_all-operations.ensures.taken refl (ap (λ v. v.items) c.replace-out.ensures.value))
    ∙ place_is run (turn_of x) x.associations.items rest c.args.place c.swap_remove-a.result l c.swap_remove-a.ensures.value refl refl
    ∙ ap (at_place run c.args.place) told
