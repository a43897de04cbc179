use Rattle.st_lemmas.proofs.Words
use Words.{[], ap, sym, ◌∙◌, get_or, length, ltb-true, subst, ◌<◌}
use Rattle.st_client_association.specs.Associations.{left_as}
use Rattle.st_client.specs.declared.parts.ClientParts.{ClientParts}
use Rattle.st_client.proofs.Looking.{looked_at}
use Rattle.st_client.proofs.state.ClientState.look.Goals as goal

pub returns-in-Some : goal.returns-in-Some
returns-in-Some c =
    let i = c.args.place in
    let a = c.in-Some.a.now in
    let p = c.self.inside.parts.value in
    let items = c.deref-2.ensures.value ∙ ap (λ (q : ClientParts). q.associations.items) c.deref.ensures in
    let within = ltb-true i (length c.deref-2.result.now) (sym c.in-Some.ensures.lookup.0) in
    looked_at p c.args.self.now i a c.look.result c.self.invariant.given c.self.view_is
    (subst (λ xs. i < length xs) items within)
    (c.in-Some.ensures.lookup.1 ∙ ap (λ xs. get_or xs i a) items)
    (c.look.ensures ∙ ap (λ (q : ClientParts). left_as a q.operations c.deref-in-Some-2.result.now.next_command []) c.deref-in-Some.ensures
    ∙ ap (λ (q : ClientParts). left_as a p.operations q.next_command []) c.deref-in-Some-2.ensures)
