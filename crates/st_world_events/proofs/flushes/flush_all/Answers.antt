use Rattle.std.proofs.Common.{ap, sym, ◌∙◌, ◌+◌, ◌-◌}
use Rattle.std.specs.Prelude.{map}
use Rattle.st_rules.specs.Extents.{numbers}
use Rattle.st_rules.specs.World.{server}
use Rattle.st_world_events.specs.FlushSteps.{flush_each, with_end}
use Rattle.st_world_events.proofs.Flushed.{numbers_on, numbers_end}
use Rattle.st_world_events.proofs.flushes.flush_all.Goals as goal

pub loop-i-preserved : goal.loop-i-preserved
loop-i-preserved c =
    let i = c.loop-i.i in
    let state = c.args.node.now.state in
    ap (flush_each c.args.client state c.args.clock (map server (numbers (i + 1 + 1) (c.args.servers - (i + 1)))))
    (c.in_ok-put_end.ensures ∙ ap (λ e. with_end c.args.client (server (i + 1)) e c.loop-i.flushed.items) c.flush_end-end.ensures)
    ∙ sym (ap (λ ns. flush_each c.args.client state c.args.clock (map server ns) c.loop-i.flushed.items) (numbers_on i c.args.servers c.loop-i-test.true))
    ∙ c.loop-i.invariant

pub returns : goal.returns
returns c =
    sym (ap (λ ns. flush_each c.args.client c.args.node.now.state c.args.clock (map server ns) c.loop-i.flushed.items) (numbers_end c.loop-i.i c.args.servers c.loop-i-test.false))
    ∙ c.loop-i.invariant
