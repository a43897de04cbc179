use Rattle.std.proofs.Common.{ap, sym, ◌∙◌, true≢false}
use Rattle.std.specs.List.{list_any}
use Rattle.st_operations.specs.PendingOperations.{may_act}
use Rattle.st_operations.proofs.Firsts.{none_acts}
use Rattle.st_operations.proofs.operations.Operations.any_may_act.Goals.{then-all, else-all}
use Rattle.st_operations.proofs.operations.Operations.any_may_act.Goals as goal

pub returns-else-has_sync : goal.returns-else-has_sync
returns-else-has_sync c = elim c.if-all.branch [
  | then-all w ↦ absurd (true≢false (sym w.if-all.true ∙ sym w.value-is ∙ c.if-has_sync.false))
  | else-all w ↦
      c.if-has_sync.false
      ∙ sym (ap (λ b. list_any (may_act c.args.server b) c.args.self.now) w.if-all.false
      ∙ none_acts c.args.server c.args.self.now (sym w.has_sync.ensures ∙ sym w.value-is ∙ c.if-has_sync.false))
]
