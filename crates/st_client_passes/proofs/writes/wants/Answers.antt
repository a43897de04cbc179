use Rattle.std.proofs.Common.{◌∙◌, sym}
use Rattle.std.specs.List.{list_any}
use Rattle.st_client_passes.specs.PassConditions.{wants_writes}
use Rattle.st_client_passes.proofs.Sessions.{none_demanded}
use Rattle.st_client_passes.proofs.writes.wants.Goals as goal

pub returns-else-has_demands : goal.returns-else-has_demands
returns-else-has_demands c = λ e. record {
  demanded = none_demanded c.args.session.now.session.locks (sym c.has_demands.ensures ∙ c.if-has_demands.false);
  waiting = (λ j. list_any (wants_writes (sym c.server.ensures j)) (sym c.operations.ensures j)) ∙ sym c.any.ensures ∙ e;
}
