use Rattle.st_lemmas.proofs.Words
use Words.{◌++◌, ◌<◌, ◌≤◌, ◌+◌, ◌∙◌, length, drop, get_or, false, sym, ap, append_assoc, arith, append-nil}
use Rattle.st_move.specs.Calls.{sent_by}
use Rattle.st_move.specs.Containers.{image_of, images_from, sent_if}
use Rattle.st_move.proofs.Loops.{images_end, images_next}
use Rattle.st_move.proofs.ticks.images.Goals as goal

pub loop-place-preserved : goal.loop-place-preserved
loop-place-preserved c =
    let h : c.loop-place.place < length c.args.records.now = omega arith in
    let i : c.loop-place.place < length c.args.leaving.now = omega arith in
    let goes = get_or c.args.leaving.now c.loop-place.place false in
    let sent = sent_if goes (get_or c.args.records.now c.loop-place.place c.index-records-place.result) in
    let more = images_from (c.loop-place.place + 1) (sent_by (drop (c.loop-place.place + 1) c.args.leaving.now) (drop (c.loop-place.place + 1) c.args.records.now)) in
    ap (λ xs. xs ++ more)
    (c.in_ok-push_image.ensures
    ∙ ap (λ k. c.loop-place.images.items ++ image_of k (sent_if goes c.index-records-place.result)) c.number_of-c.ensures
    ∙ ap (λ r. c.loop-place.images.items ++ image_of (c.loop-place.place + 1) (sent_if goes r)) c.index-records-place.is)
    ∙ append_assoc c.loop-place.images.items (image_of (c.loop-place.place + 1) sent) more
    ∙ ap (λ xs. c.loop-place.images.items ++ xs) (sym (images_next c.loop-place.place c.args.leaving.now c.args.records.now false c.index-records-place.result i h))
    ∙ c.loop-place.invariant

pub returns : goal.returns
returns c =
    let h : length c.args.leaving.now ≤ c.loop-place.place = omega arith in
    sym (ap (λ xs. c.loop-place.images.items ++ xs) (images_end c.loop-place.place c.args.leaving.now c.args.records.now h) ∙ append-nil c.loop-place.images.items) ∙ c.loop-place.invariant
