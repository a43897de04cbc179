use Rattle.st_lemmas.proofs.Words
use Words.{◌++◌, ◌∷◌, [], ◌+◌, ◌-◌, ◌∙◌, sym, ap, append_assoc, append-nil}
use Rattle.st_move.specs.Containers.{beginning, beginnings}
use Rattle.st_move.proofs.Loops.{beginnings_end, beginnings_next}
use Rattle.st_move.proofs.mover.beginnings.Goals as goal

pub loop-place-preserved : goal.loop-place-preserved
loop-place-preserved c =
    ap (λ xs. xs ++ beginnings c.args.server c.args.servers (c.loop-place.place + 1) (c.args.count - (c.loop-place.place + 1)))
    (c.in_ok-push.ensures.items ∙ ap (λ r. c.loop-place.records.items ++ r ∷ []) c.beginning.ensures)
    ∙ append_assoc c.loop-place.records.items (beginning c.args.server c.args.servers c.loop-place.place ∷ []) (beginnings c.args.server c.args.servers (c.loop-place.place + 1) (c.args.count - (c.loop-place.place + 1)))
    ∙ ap (λ xs. c.loop-place.records.items ++ xs) (sym (beginnings_next c.args.server c.args.servers c.loop-place.place c.args.count c.loop-place-test.true))
    ∙ c.loop-place.invariant

pub returns : goal.returns
returns c =
    sym (ap (λ xs. c.loop-place.records.items ++ xs) (beginnings_end c.args.server c.args.servers c.loop-place.place c.args.count c.loop-place-test.false) ∙ append-nil c.loop-place.records.items)
    ∙ c.loop-place.invariant
