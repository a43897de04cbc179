use Rattle.std.proofs.Common.{◌∙◌, ◌++◌, ap, arith}
use Rattle.std.specs.Option.{option_to_list}
use Rattle.std.specs.Prelude.{filter, slice_get}
use Rattle.st_rules.specs.ClientState.{is_sent}
use Rattle.st_operations.proofs.Firsts.{picked_more, take_whole}
use Rattle.st_operations.proofs.operations.Operations.copy_sent.Goals as goal

pub loop-i-preserved : goal.loop-i-preserved
loop-i-preserved c =
    c.in_ok-keep_copy_at.ensures
    ∙ ap (λ l. l ++ filter is_sent (option_to_list (slice_get c.args.self.now c.loop-i.i))) c.loop-i.invariant
    ∙ picked_more is_sent c.args.self.now c.loop-i.i

pub returns : goal.returns
returns c = c.loop-i.invariant ∙ ap (filter is_sent) (take_whole c.args.self.now c.loop-i.i (omega (arith, c.loop-i-test.false, c.len-i-end.ensures.len)))
