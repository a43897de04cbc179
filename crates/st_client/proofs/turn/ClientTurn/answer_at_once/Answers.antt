use Rattle.st_lemmas.proofs.Words
use Words.{sym, subst}
use Rattle.st_client.proofs.Growing.{machine_said}
use Rattle.st_client.specs.Machines.{IsMachineOf}
use Rattle.st_client.proofs.turn.ClientTurn.answer_at_once.Goals as goal

pub invariant_of-result : goal.invariant_of-result
invariant_of-result c =
    let x = c.deref_mut.result.now in
    machine_said x.id x.config x.next_command x.out.items c.push.new.self.items _ x.associations.items c.in_ok-push.ensures.items (subst IsMachineOf (sym c.deref_mut.ensures.value) c.self.invariant)
