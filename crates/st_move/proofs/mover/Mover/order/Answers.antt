use Rattle.st_lemmas.proofs.Words
use Words.{◌≡◌, ◌<◌, length, ap, sym, subst, ◌∙◌, refl, set, slice_get, Some, None}
use Words.World.{numbered}
use Rattle.std.proofs.lemmas.Result.{err_from_is_err_and}
use Rattle.st_move.specs.declared.refusal.MoveRefusal.TheVariants as refusals
use Rattle.std.proofs.lemmas.Option.{slice_get-get_or}
use Rattle.st_move.specs.Calls.{Answers}
use Rattle.st_move.specs.Containers.{Containers, after_order}
use Rattle.st_move.proofs.Lifts.{order_nowhere, order_answers}
use Rattle.st_move.proofs.mover.Mover.order.Goals as goal

pub returns-in_err-place : goal.returns-in_err-place
returns-in_err-place c =
    let p = err_from_is_err_and c.from_residual.result c.from_residual.ensures.1 in
    let h : (c.in_err-place.field-0.0 ≡ refusals.NoContainer c.args.c) × (numbered c.args.self.now.records c.args.c ≡ None) = c.in_err-place.ensures in
    rw (p.1, p.2, h.0) (order_nowhere c.args.self.now c.args.c c.args.to h.1, refl)

pub returns : goal.returns
returns c =
    let h : c.in_ok-place.place < length c.self.inside.records.items = subst (λ (m : Containers). c.in_ok-place.place < length m.records) (sym c.self.view_is) c.in_ok-place.ensures.1 in
    let g : slice_get c.self.inside.records.items c.in_ok-place.place ≡ Some c.index_mut.result.now = slice_get-get_or c.self.inside.records.items c.in_ok-place.place c.index_mut.result.now h ∙ ap Some (sym c.index_mut.ensures.value) in
    subst (λ (m : Containers). Answers m (record { server = c.self.inside.server; records = set c.self.inside.records.items c.in_ok-place.place c.order_in.new.entry }) c.order_in.result (after_order m c.args.c c.args.to)) c.self.view_is
    (order_answers (record { server = c.self.inside.server; records = c.self.inside.records.items }) c.args.c c.in_ok-place.place c.args.to c.index_mut.result.now c.order_in.new.entry c.order_in.result c.in_ok-place.ensures.0 g (c.order_in.ensures c.args.c))
