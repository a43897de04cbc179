use Rattle.std.proofs.Common.{◌≡◌, ◌+◌, ◌<◌, ◌++◌, ◌∷◌, [], ℕ, get_or, length, take, drop, arith, refl, sym, ap, subst, ◌∙◌}
use Rattle.std.specs.Prelude.{IfErr}
use Rattle.std.proofs.lemmas.List.{take_all, take_more, get_or_read}
use Rattle.std.proofs.lemmas.Result.{err_from_is_err_and}
use Rattle.st_rules.specs.declared.names.NameEntry.{NameEntry}
use Rattle.st_namespace.specs.Restored.{AreRestored, ComesAfter, IsAgainst, IsRefused, names_of}
use Rattle.st_namespace.proofs.RestoredEntries.{against_all, restored_more, restored_none, rows_split}
use Rattle.st_namespace.proofs.restored.restored.Goals as goal

pub loop-place-init : goal.loop-place-init
loop-place-init c = record {
  same = c.new-entries.ensures;
  right = restored_none c.args.next;
}

pub returns-in_err-add-clause-err : goal.returns-in_err-add-clause-err
returns-in_err-add-clause-err c =
    let p = err_from_is_err_and c.from_residual.result c.from_residual.ensures.1 in
    let rows = c.args.rows.now in
    let i = c.loop-place.place in
    let row = c.index-rows-place.result in
    let inside : i < length rows = omega (arith, c.loop-place-test.true) in
    let against : IsAgainst c.in_err-add.field-0.0 c.loop-place.low c.args.next (take i rows) row =
    subst (λ es. IsAgainst c.in_err-add.field-0.0 c.loop-place.low c.args.next es row) c.loop-place.invariant.same c.in_err-add.ensures.err in
    rw (p.1, p.2)
    (λ limit. subst (λ es. IsRefused c.in_err-add.field-0.0 (names_of es c.args.next limit))
    (ap (λ e. take i rows ++ e ∷ drop (i + 1) rows) (get_or_read rows i row inside c.index-rows-place.is row) ∙ rows_split rows i row inside)
    (against_all c.in_err-add.field-0.0 c.loop-place.low c.args.next (take i rows) row (drop (i + 1) rows) c.loop-place.invariant.right.last against limit))

pub loop-place-preserved : goal.loop-place-preserved
loop-place-preserved c =
    let rows = c.args.rows.now in
    let i = c.loop-place.place in
    let row = c.index-rows-place.result in
    let inside : i < length rows = omega (arith, c.loop-place-test.true) in
    let more : take (i + 1) rows ≡ take i rows ++ row ∷ [] =
    take_more rows i row inside ∙ ap (λ e. take i rows ++ e ∷ []) (sym (get_or_read rows i row inside c.index-rows-place.is row)) in
    let fits : ComesAfter c.loop-place.low c.args.next (take i rows) row =
    subst (λ es. ComesAfter c.loop-place.low c.args.next es row) c.loop-place.invariant.same c.in_ok-add.ensures.fits in
    record {
      same = c.in_ok-add.ensures.ok ∙ ap (λ es. es ++ row ∷ []) c.loop-place.invariant.same ∙ sym more;
      right = subst (AreRestored (row.ino + 1) c.args.next) (sym more)
          (restored_more c.loop-place.low c.args.next (take i rows) row c.loop-place.invariant.right fits);
    }
