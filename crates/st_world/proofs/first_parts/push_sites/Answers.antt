use Rattle.st_lemmas.proofs.Words
use Words.{ap, ◌∙◌, ◌+◌, ◌-◌, ◌∷◌, ◌++◌, [], map}
use Words.Extents.{numbers}
use Words.Client.{ClientNode}
use Words.World.{WorldClient, fresh_site}
use Rattle.st_world.proofs.Counted.{counted_end, counted_on}
use Rattle.st_world.proofs.first_parts.push_sites.Goals as goal

pub loop-i-preserved : goal.loop-i-preserved
loop-i-preserved c =
    let i = c.loop-i.i in
    let n = c.args.counts.now.clients in
    let f = fresh_site c.args.config.now c.args.counts.now.servers in
    let site : ClientNode → WorldClient = λ n. record { node = n; asks = 0; starts = 0 } in
    ap (λ xs. xs ++ map f (numbers (i + 1 + 1) (n - (i + 1)))) (c.in_ok-push.ensures.items ∙ ap (λ n. c.loop-i.sites.items ++ site n ∷ []) c.in_ok-fresh.ensures)
    ∙ counted_on f c.loop-i.sites.items i n c.loop-i-test.true
    ∙ c.loop-i.invariant

pub returns : goal.returns
returns c = counted_end (fresh_site c.args.config.now c.args.counts.now.servers) c.loop-i.sites.items c.loop-i.i c.args.counts.now.clients c.loop-i-test.false ∙ c.loop-i.invariant
