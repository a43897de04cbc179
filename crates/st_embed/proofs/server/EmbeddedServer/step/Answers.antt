use Rattle.st_lemmas.proofs.Words
use Words.{◌∙◌, rules}
use Rattle.st_embed.proofs.ServerSteps.{has_placed, has_stepped, of_some}
use Rattle.st_embed.proofs.server.EmbeddedServer.step.Goals as goal

pub invariant_of-self : goal.invariant_of-self
invariant_of-self c =
    let view = c.self.view_is ∙ c.in_ok-message.ensures.same in
    let some = c.in-Ok-Some.field-0-is in
    record {
      within = c.self.invariant.within;
      small = c.self.invariant.small;
      room = λ _. has_placed _ _ c.in_ok-message.message.body c.outputs_for.new.server.changed c.self.inside.size c.self.inside.gate (rw (← view) at c.in_ok-message.ensures.room)
          (of_some _ _ _ some c.in-Ok-Some.ensures.told) (of_some _ _ _ some c.in-Ok-Some.ensures.asked);
    }

pub returns-in-Ok-Some-clause-ok : goal.returns-in-Ok-Some-clause-ok
returns-in-Ok-Some-clause-ok c =
    let view = c.self.view_is ∙ c.in_ok-message.ensures.same in
    let some = c.in-Ok-Some.field-0-is in
    rw (← view) (has_stepped _ c.outputs_for.new.server _ c.put.new.self.left c.put.new.self.outputs c.args.now c.args.frame.now c.in_ok-message.message
    (rw (← view) at c.in_ok-message.ensures.ok) (rw (← view) at c.in_ok-message.ensures.kept) (rw (← view) at c.in_ok-message.ensures.room)
    c.in-Ok-Some.ensures.node (c.put.ensures.left ∙ of_some _ _ _ some c.in-Ok-Some.ensures.out) (c.put.ensures.outputs ∙ of_some _ _ _ some c.in-Ok-Some.ensures.outputs) (of_some _ _ _ some c.in-Ok-Some.ensures.told) (of_some _ _ _ some c.in-Ok-Some.ensures.asked) (search rules))
