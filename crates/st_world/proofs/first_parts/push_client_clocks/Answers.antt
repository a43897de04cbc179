use Rattle.st_lemmas.proofs.Words
use Words.{ap, ◌∙◌, ◌+◌, ◌-◌, ◌++◌, map}
use Words.Extents.{numbers}
use Words.World.{client_clock}
use Rattle.st_world.proofs.Counted.{counted_end, counted_on}
use Rattle.st_world.proofs.first_parts.push_client_clocks.Goals as goal

pub loop-i-preserved : goal.loop-i-preserved
loop-i-preserved c =
    let i = c.loop-i.i in
    let n = c.args.count in
    let f = client_clock in
    ap (λ xs. xs ++ map f (numbers (i + 1 + 1) (n - (i + 1)))) (c.in_ok-push.ensures.items)
    ∙ counted_on f c.loop-i.clocks.items i n c.loop-i-test.true
    ∙ c.loop-i.invariant

pub returns : goal.returns
returns c = counted_end client_clock c.loop-i.clocks.items c.loop-i.i c.args.count c.loop-i-test.false ∙ c.loop-i.invariant
