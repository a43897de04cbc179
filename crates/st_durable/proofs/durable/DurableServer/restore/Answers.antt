use Rattle.st_lemmas.proofs.Words
use Words.{ap, sym, ◌∙◌}
use Words.Server.{ServerNode}
use Rattle.st_durable.proofs.durable.DurableServer.restore.Goals as goal

pub invariant_of-result : goal.invariant_of-result
invariant_of-result c = ap (λ (n : ServerNode). n.state.stable.extents.server) c.restore.ensures ∙ c.requires.own ∙ sym (ap (λ (n : ServerNode). n.state.id) c.restore.ensures)
