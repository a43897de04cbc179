use Rattle.st_lemmas.proofs.Words
use Words.{◌≡◌, ◌++◌, ◌<◌, ◌≤◌, ◌+◌, ◌∙◌, length, take, drop, get_or, set, false, sym, ap, subst, arith, list_all, append-nil, take_all}
use Rattle.std.proofs.lemmas.List.{drop-set-lt}
use Rattle.st_move.specs.Calls.{sent_by}
use Rattle.st_move.specs.Containers.{has_next, sent_if}
use Rattle.st_move.proofs.Loops.{next_at, sent_end, sent_turn}
use Rattle.st_move.proofs.ticks.send.Goals as goal

pub loop-place-preserved : goal.loop-place-preserved
loop-place-preserved c =
    let l : length c.loop-place.records ≡ length c.args.records.now = c.loop-place.auto.records in
    let h : c.loop-place.place < length c.args.leaving.now = omega arith in
    let i : c.loop-place.place < length c.loop-place.records = omega arith in
    let e : c.send_if.new.entry ≡ sent_if (get_or c.args.leaving.now c.loop-place.place false) (get_or c.loop-place.records c.loop-place.place c.index-records-place.result) =
    c.send_if.ensures in
    record {
      left =
          ap (list_all has_next) (drop-set-lt (c.loop-place.place + 1) c.loop-place.records c.loop-place.place c.send_if.new.entry (omega arith))
          ∙ (next_at c.loop-place.place c.loop-place.records c.index-records-place.result i c.loop-place.invariant.left).1;
      so_far =
          subst (λ y. take (c.loop-place.place + 1) (set c.loop-place.records c.loop-place.place y) ++ sent_by (drop (c.loop-place.place + 1) c.args.leaving.now) (drop (c.loop-place.place + 1) (set c.loop-place.records c.loop-place.place y)) ≡ sent_by c.args.leaving.now c.args.records.now)
          (sym e) (sent_turn c.loop-place.place c.args.leaving.now c.loop-place.records false c.index-records-place.result h i ∙ c.loop-place.invariant.so_far);
    }

pub returns : goal.returns
returns c =
    let l : length c.loop-place.records ≡ length c.args.records.now = c.loop-place.auto.records in
    let h : length c.args.leaving.now ≤ c.loop-place.place = omega arith in
    let i : length c.loop-place.records ≤ c.loop-place.place = omega arith in
    sym (ap (λ xs. xs ++ sent_by (drop c.loop-place.place c.args.leaving.now) (drop c.loop-place.place c.loop-place.records)) (take_all c.loop-place.place c.loop-place.records i)
    ∙ ap (λ xs. c.loop-place.records ++ xs) (sent_end c.loop-place.place c.args.leaving.now c.loop-place.records h) ∙ append-nil c.loop-place.records)
    ∙ c.loop-place.invariant.so_far
