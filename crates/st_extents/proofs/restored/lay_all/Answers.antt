use Rattle.std.proofs.Common.{◌≡◌, ◌+◌, ◌<◌, ◌++◌, ◌∷◌, [], ap, arith, get_or, length, refl, subst, sym, take, ◌∙◌}
use Rattle.std.proofs.lemmas.List.{take_more}
use Rattle.std.proofs.lemmas.Result.{err_from_is_err_and}
use Rattle.st_rules.specs.declared.extents.Extent.{Extent}
use Rattle.st_extents.specs.Restored.{AreLaid, IsRefusedAt}
use Rattle.st_extents.proofs.RestoredPages.{laid_none, laid_step, refused_at}
use Rattle.st_extents.proofs.restored.lay_all.Goals as goal

abbrev nothing : Extent
nothing =
    record { file = record { server = record { 0 = 0 }; ino = 0 }; page = record { 0 = 0 }; at = record { disk = record { 0 = 0 }; block = 0 }; birth = 0 }

pub loop-place-init : goal.loop-place-init
loop-place-init c = record {
  own = refl;
  rows = c.requires.none;
  laid = subst (λ n. AreLaid c.args.mapping.now.own n []) (sym c.requires.zero) (laid_none c.args.mapping.now.own);
}

pub returns-in_err-lay-clause-err : goal.returns-in_err-lay-clause-err
returns-in_err-lay-clause-err c =
    let p = err_from_is_err_and c.from_residual.result c.from_residual.ensures.1 in
    let rows = c.args.rows.now in
    let i = c.loop-place.place in
    let g = c.loop-place.mapping in
    let inside : i < length rows = omega (arith, c.loop-place-test.true) in
    let f = c.in_err-lay.field-0.0 in
    rw (p.1, p.2)
    (subst (λ o. IsRefusedAt f o rows) c.loop-place.invariant.own
    (refused_at f g rows i nothing inside c.loop-place.invariant.rows
    (subst (λ o. AreLaid o g.births (take i rows)) (sym c.loop-place.invariant.own) c.loop-place.invariant.laid) c.in_err-lay.ensures.err))

pub loop-place-preserved : goal.loop-place-preserved
loop-place-preserved c =
    let rows = c.args.rows.now in
    let i = c.loop-place.place in
    let inside : i < length rows = omega (arith, c.loop-place-test.true) in
    record {
      own = c.lay.ensures.own ∙ c.loop-place.invariant.own;
      rows = c.in_ok-lay.ensures.rows ∙ ap (λ es. es ++ get_or rows i nothing ∷ []) c.loop-place.invariant.rows ∙ sym (take_more rows i nothing inside);
      laid = laid_step c.loop-place.mapping c.args.mapping.now.own rows i c.lay.new.self.births nothing inside c.loop-place.invariant.own
          c.loop-place.invariant.rows c.loop-place.invariant.laid c.in_ok-lay.ensures.fits c.in_ok-lay.ensures.births;
    }
