use Rattle.st_lemmas.proofs.Words
use Words.{ap, ◌∙◌, ◌==◌}
use Words.Server.{Stable}
use Rattle.st_durable.specs.Durable.{mark}
use Rattle.st_durable.proofs.ToldChanges.{asks, stays_own, tells}
use Rattle.st_durable.proofs.durable.step_asked.Goals as goal

pub returns-clause-told : goal.returns-clause-told
returns-clause-told c =
    tells c.args.node.now c.step-outputs.new.self c.step-outputs.result c.args.now c.args.input c.args.change c.requires.own c.requires.room c.requires.fits c.requires.asks
    c.mark-before.result c.mark-after.result c.if_moved-changed.result c.step-outputs.ensures.exact
    (c.mark-before.ensures ∙ ap (λ (t : Stable). mark t c.args.change) c.stable.ensures)
    (c.mark-after.ensures ∙ ap (λ (t : Stable). mark t c.args.change) c.stable-2.ensures) c.if_moved-changed.ensures

pub returns-clause-asked : goal.returns-clause-asked
returns-clause-asked c =
    asks c.args.input c.args.change (c.mark-after.result == c.mark-before.result) c.if_moved-changed.result c.requires.asks c.if_moved-changed.ensures

pub returns-clause-own : goal.returns-clause-own
returns-clause-own c = stays_own c.args.node.now c.step-outputs.new.self c.step-outputs.result c.args.now c.args.input c.requires.own c.step-outputs.ensures.exact
