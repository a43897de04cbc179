use Rattle.st_lemmas.proofs.Words
use Words.{◌≡◌, ◌+◌, ◌-◌, ◌++◌, map}
use Words.Extents.{numbers}
use Words.World.{node_at_start}
use Rattle.st_world.proofs.first_parts.push_nodes.Given as goal

abbrev pub invariant-loop-i : goal.invariant-loop-i
invariant-loop-i l =
    l.nodes.items ++ map (node_at_start l.config l.counts.servers l.counts.disks l.counts.blocks) (numbers (l.i + 1) (l.counts.servers - l.i))
    ≡ l.initial.nodes.items ++ map (node_at_start l.config l.counts.servers l.counts.disks l.counts.blocks) (numbers 1 l.counts.servers)
