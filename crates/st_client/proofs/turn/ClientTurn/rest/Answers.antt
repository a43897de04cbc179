use Rattle.st_lemmas.proofs.Words
use Words.{ap, sym, subst, ◌∙◌}
use Rattle.st_client.proofs.Resting.{rests}
use Rattle.st_client.specs.Machines.{IsMachineOf}
use Rattle.st_client.proofs.turn.ClientTurn.rest.Goals as goal

pub invariant_of-state : goal.invariant_of-state
invariant_of-state c =
    let x = c.deref_mut-here.result.now in
    let m = subst IsMachineOf (sym c.deref_mut-here.ensures.value) c.self.invariant in
    record { given = rests x.id x.config x.next_command x.out.items x.associations.items m.each; empty = ap (λ v. v.items) c.replace-out.ensures.after ∙ c.new.ensures.items }
