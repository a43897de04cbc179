use Rattle.st_lemmas.proofs.Words
use Words.{◌^◌, ◌<◌, ap, sym, subst, ◌∙◌, list_all}
use Words.ClientState.{ClientState}
use Rattle.st_client_association.specs.Associations.{has_room_at}
use Rattle.st_client.proofs.Resting.{begins}
use Rattle.st_client.proofs.state.ClientState.begin.Goals as goal

pub invariant_of-result : goal.invariant_of-result
invariant_of-result c =
    let x = c.self.inside.parts.value in
    begins x.id x.config x.next_command x.associations.items x.out.items c.self.invariant.empty
    (subst (λ (s : ClientState). s.next_command < 2 ^ 62) (sym c.self.view_is) c.requires.commands)
    (ap (λ (s : ClientState). list_all has_room_at s.associations) c.self.view_is ∙ c.requires.each) c.self.invariant.given
