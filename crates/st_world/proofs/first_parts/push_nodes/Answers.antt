use Rattle.st_lemmas.proofs.Words
use Words.{ap, ◌∙◌, ◌+◌, ◌-◌, ◌∷◌, ◌++◌, [], map}
use Words.Extents.{numbers}
use Words.World.{node_at_start}
use Rattle.st_world.proofs.Counted.{counted_end, counted_on}
use Rattle.st_world.proofs.first_parts.push_nodes.Goals as goal

pub loop-i-preserved : goal.loop-i-preserved
loop-i-preserved c =
    let i = c.loop-i.i in
    let n = c.args.counts.now.servers in
    let f = node_at_start c.args.config.now c.args.counts.now.servers c.args.counts.now.disks c.args.counts.now.blocks in
    ap (λ xs. xs ++ map f (numbers (i + 1 + 1) (n - (i + 1)))) (c.in_ok-push.ensures.items ∙ ap (λ x. c.loop-i.nodes.items ++ x ∷ []) c.in_ok-fresh.ensures)
    ∙ counted_on f c.loop-i.nodes.items i n c.loop-i-test.true
    ∙ c.loop-i.invariant

pub returns : goal.returns
returns c = counted_end (node_at_start c.args.config.now c.args.counts.now.servers c.args.counts.now.disks c.args.counts.now.blocks) c.loop-i.nodes.items c.loop-i.i c.args.counts.now.servers c.loop-i-test.false ∙ c.loop-i.invariant
