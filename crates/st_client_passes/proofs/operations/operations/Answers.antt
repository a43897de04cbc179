use Rattle.std.proofs.Common.{◌≡◌, ◌∙◌, ap, sym}
use Rattle.std.specs.Prelude.{false}
use Rattle.std.specs.List.{list_any}
use Rattle.st_rules.specs.ClientState.{Turn, is_of}
use Rattle.st_client_passes.proofs.Idle.{operations_idle}
use Rattle.st_client_passes.proofs.operations.operations.Goals as goal

pub returns-else-has_operations : goal.returns-else-has_operations
returns-else-has_operations c =
    let none : list_any (is_of c.args.t.now.here.server) c.args.t.now.operations ≡ false =
    sym (c.has_operations.ensures ∙ ap (λ (u : Turn). list_any (is_of u.here.server) u.operations) c.turn.ensures) ∙ c.if-has_operations.false in
    sym (operations_idle c.args.now c.args.t.now none)
