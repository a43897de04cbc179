use Rattle.st_lemmas.proofs.Words
use Words.{◌++◌, ◌∷◌, [], ◌+◌, ◌-◌, ◌∙◌, sym, ap, append_assoc, append-nil}
use Rattle.st_move.specs.World.{fresh_site, sites_behind}
use Rattle.st_move.proofs.Loops.{sites_end, sites_next}
use Rattle.st_move.proofs.parts.fresh_sites.Goals as goal

pub loop-place-preserved : goal.loop-place-preserved
loop-place-preserved c =
    ap (λ xs. xs ++ sites_behind c.args.servers c.args.containers (c.loop-place.place + 1) (c.args.servers - (c.loop-place.place + 1)))
    (c.in_ok-push.ensures.items ∙ ap (λ r. c.loop-place.sites.items ++ r ∷ []) c.in_ok-new.ensures)
    ∙ append_assoc c.loop-place.sites.items (fresh_site c.args.servers c.args.containers (c.loop-place.place + 1) ∷ []) (sites_behind c.args.servers c.args.containers (c.loop-place.place + 1) (c.args.servers - (c.loop-place.place + 1)))
    ∙ ap (λ xs. c.loop-place.sites.items ++ xs) (sym (sites_next c.args.servers c.args.containers c.loop-place.place c.args.servers c.loop-place-test.true))
    ∙ c.loop-place.invariant

pub returns : goal.returns
returns c =
    sym (ap (λ xs. c.loop-place.sites.items ++ xs) (sites_end c.args.servers c.args.containers c.loop-place.place c.args.servers c.loop-place-test.false) ∙ append-nil c.loop-place.sites.items)
    ∙ c.loop-place.invariant
