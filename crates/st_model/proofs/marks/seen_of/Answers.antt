use Rattle.std.proofs.Common.{rules, ap, ◌∙◌, ◌++◌, refl, [], arith}
use Rattle.st_model.specs.Walks as walks
use Rattle.st_model.proofs.Walks.{seen_all, place_below}
use Rattle.st_model.proofs.marks.seen_of.Goals as goal

pub loop-i-init : goal.loop-i-init
loop-i-init g c =
    let next = g.M.Marking.becomes c.args.marking.now in
    ap (λ s. c.args.seen.now.items ++ s) (ap (λ ks. walks.seen_at next ks c.args.entries.now) c.requires ∙ seen_all next [] c.args.entries.now 0 refl)

pub next_at-fate-requires : goal.next_at-fate-requires
next_at-fate-requires g c = place_below _ _ _ _ c.requires (search rules)

pub overflow_add-k : goal.overflow_add-k
overflow_add-k g c = omega (arith, c.next_at-fate.ensures.number)
