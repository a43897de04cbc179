use Rattle.std.proofs.Common.{◌≡◌, ◌∙◌, ap}
use Rattle.std.specs.Prelude.{filter, []}
use Rattle.st_rules.specs.ClientPasses.{operate_each, operations}
use Rattle.st_rules.specs.ClientState.{Turn, is_sent, with_operations}
use Rattle.st_client_passes.proofs.SentOnes.{operate_each_sent}
use Rattle.st_client_passes.proofs.operations.operate_all.Goals as goal

pub returns : goal.returns
unfolding operations
returns c =
    let sent : c.in_ok-sent.sent ≡ filter is_sent c.args.t.now.operations = c.in_ok-sent.ensures ∙ ap (filter is_sent) (c.operations.ensures ∙ ap (λ (u : Turn). u.operations) c.turn.ensures) in
    c.set_operations.ensures
    ∙ c.in_ok-operate_each.ensures
    ∙ (λ i. operate_each (sent i) c.args.now (c.take_operations-all.ensures.0 i) (c.take_operations-all.ensures.1 i))
    ∙ operate_each_sent c.args.t.now.operations c.args.now c.args.t.now.operations (with_operations [] c.args.t.now)
