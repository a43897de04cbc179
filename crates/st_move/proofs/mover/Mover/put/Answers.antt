use Rattle.st_lemmas.proofs.Words
use Words.{◌≡◌, ◌<◌, length, ap, sym, subst, ◌∙◌, refl, set, slice_get, Some, None}
use Words.World.{numbered}
use Rattle.std.proofs.lemmas.Result.{err_from_is_err_and}
use Rattle.st_move.specs.declared.refusal.MoveRefusal.TheVariants as refusals
use Rattle.std.proofs.lemmas.Option.{slice_get-get_or}
use Rattle.st_move.specs.Calls.{Counts, count_at}
use Rattle.st_move.specs.Containers.{Containers, after_put}
use Rattle.st_move.proofs.Lifts.{put_nowhere, put_counts}
use Rattle.st_move.proofs.mover.Mover.put.Goals as goal

pub returns-in_err-place : goal.returns-in_err-place
returns-in_err-place c =
    let p = err_from_is_err_and c.from_residual.result c.from_residual.ensures.1 in
    let h : (c.in_err-place.field-0.0 ≡ refusals.NoContainer c.args.c) × (numbered c.args.self.now.records c.args.c ≡ None) = c.in_err-place.ensures in
    rw (p.1, p.2, h.0) (put_nowhere c.args.self.now c.args.c c.args.update.now h.1, refl)

pub returns : goal.returns
returns c =
    let h : c.in_ok-place.place < length c.self.inside.records.items = subst (λ (m : Containers). c.in_ok-place.place < length m.records) (sym c.self.view_is) c.in_ok-place.ensures.1 in
    let g : slice_get c.self.inside.records.items c.in_ok-place.place ≡ Some c.index_mut.result.now = slice_get-get_or c.self.inside.records.items c.in_ok-place.place c.index_mut.result.now h ∙ ap Some (sym c.index_mut.ensures.value) in
    subst (λ (m : Containers). Counts (count_at c.args.c) m (record { server = c.self.inside.server; records = set c.self.inside.records.items c.in_ok-place.place c.put_in.new.entry }) c.put_in.result (after_put m c.args.c c.args.update.now)) c.self.view_is
    (put_counts (record { server = c.self.inside.server; records = c.self.inside.records.items }) c.args.c c.in_ok-place.place c.args.update.now c.index_mut.result.now c.put_in.new.entry c.put_in.result c.in_ok-place.ensures.0 g (c.put_in.ensures c.args.c))
