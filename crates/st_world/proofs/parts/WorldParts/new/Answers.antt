use Rattle.st_world.specs.Heads.{least}
use Rattle.st_world.proofs.Goes.{quiet_fresh}
use Rattle.st_world.proofs.Shaped.{head_counts, least_head}
use Rattle.st_world.proofs.parts.WorldParts.new.Goals as goal

pub fresh-requires-2-clause-counts : goal.fresh-requires-2-clause-counts
fresh-requires-2-clause-counts c =
    let k = c.args.counts in
    head_counts c.args.config (least k.blocks) c.args.form (least_head c.args.config k.clients k.servers k.disks k.blocks c.args.form c.requires.head)

pub invariant_of-result : goal.invariant_of-result
invariant_of-result c =
    let k = c.args.counts in (
      quiet_fresh c.args.config k.clients k.servers k.disks k.blocks c.args.form c.in_ok-machine.machine c.requires.head c.in_ok-machine.ensures,
      λ whole.
          quiet_fresh c.args.config 1 1 1 k.blocks c.args.form c.in_ok-spare.spare
          (least_head c.args.config k.clients k.servers k.disks k.blocks c.args.form c.requires.head)
          c.in_ok-spare.ensures,
    )
