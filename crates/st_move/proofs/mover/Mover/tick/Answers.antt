use Rattle.st_lemmas.proofs.Words
use Words.{◌≡◌, ◌∙◌, length, sym, ap, subst, arith}
use Rattle.std.specs.Vec.{with_items}
use Rattle.std.proofs.lemmas.List.{with_items_is}
use Rattle.st_move.specs.Calls.{leaving_from, sent_by}
use Rattle.st_move.specs.Containers.{Containers, after_tick, sent_from}
use Rattle.st_move.proofs.Loops.{leaving_length, sent_leaving}
use Rattle.st_move.proofs.mover.Mover.tick.Goals as goal

pub images-requires-clause-same : goal.images-requires-clause-same
images-requires-clause-same c =
    ap length (c.as_slice-3.ensures.value ∙ c.in_ok-leaving.ensures) ∙ leaving_length c.args.locks.now 0 c.as_slice.result.now ∙ ap length (c.as_slice.ensures.value ∙ sym c.as_slice-2.ensures.value)

pub send-requires-clause-same : goal.send-requires-clause-same
send-requires-clause-same c =
    ap length (c.as_slice-4.ensures.value ∙ c.in_ok-leaving.ensures) ∙ leaving_length c.args.locks.now 0 c.as_slice.result.now ∙ ap length (c.as_slice.ensures.value ∙ sym c.as_mut_slice.ensures.value)

pub returns-clause-ok : goal.returns-clause-ok
returns-clause-ok c =
    let records = c.self.inside.records in
    let sent : (with_items records c.send.new.records).items ≡ sent_from c.args.locks.now 0 records.items =
    with_items_is records c.send.new.records (omega arith)
    ∙ c.send.ensures
    ∙ ap (λ bs. sent_by bs c.as_mut_slice.result.now) (c.as_slice-4.ensures.value ∙ c.in_ok-leaving.ensures ∙ ap (leaving_from c.args.locks.now 0) c.as_slice.ensures.value)
    ∙ ap (sent_by (leaving_from c.args.locks.now 0 records.items)) c.as_mut_slice.ensures.value
    ∙ sent_leaving c.args.locks.now 0 records.items in
    subst (λ (m : Containers). record { server = c.self.inside.server; records = (with_items records c.send.new.records).items } ≡ after_tick m c.args.locks.now) c.self.view_is
    (ap (λ rs. record { server = c.self.inside.server; records = rs }) sent)
