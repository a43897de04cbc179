use Rattle.st_lemmas.proofs.Words
use Words.{◌<◌, [], ◌∷◌, ◌++◌, get_or, length, sym, ap, ◌∙◌, arith}
use Rattle.std.specs.Prelude.{slice_set}
use Rattle.st_client.proofs.Returning.{returned_before}
use Rattle.st_client.proofs.turn.put_back.Goals as goal

pub returns-in_ok-push : goal.returns-in_ok-push
returns-in_ok-push c = λ xs b l n e.
    let old = c.args.associations.now.items in
    let last = c.replace-last.result in
    let m : c.args.place < length old = omega (arith, c.if-place-len.true, c.len.ensures, c.args.associations.now.ok.0) in
    returned_before xs c.args.place b c.args.a last old c.push.new.self.items l n e m
    (c.replace-last.ensures.value ∙ c.index_mut.ensures.value ∙ ap (get_or old c.args.place) (sym c.replace-last.ensures.value))
    (c.in_ok-push.ensures.items ∙ ap (λ y. slice_set old c.args.place y ++ last ∷ []) c.replace-last.ensures.after)
