use Rattle.std.proofs.Common.{◌≡◌, ap, false, filter, refl, subst, sym, ◌∙◌}
use Rattle.std.specs.Prelude.{IfNone, not}
use Rattle.std.specs.List.{list_any}
use Rattle.st_rules.specs.Extents.{is_at_or_behind, is_extent_of}
use Rattle.st_extents.proofs.LaidPages.{behind_too, found_among, laid_drop, others_all, others_twice}
use Rattle.st_extents.proofs.mapping.release_all.Goals as goal

pub place_of-place-requires-clause-among : goal.place_of-place-requires-clause-among
place_of-place-requires-clause-among c = found_among c.args.own.now c.pages.taken c.pages.runs.rows c.pages.invariant.laid c.args.file c.in-Some.extent.page c.in-Some.extent c.in-Some.ensures.found

pub pages-preserved : goal.pages-preserved
pages-preserved c = record {
  laid = rw (c.give.ensures, c.in-Some.ensures.rows)
      (laid_drop c.args.own.now c.pages.taken c.pages.runs.rows c.pages.invariant.laid c.args.file c.in-Some.extent.page c.in-Some.extent c.place_of-place.result c.in-Some.ensures.found
      c.place_of-place.ensures.within c.place_of-place.ensures.at);
  rows = ap (filter (λ e. not (is_at_or_behind c.args.file c.args.page e))) c.in-Some.ensures.rows
      ∙ others_twice (is_at_or_behind c.args.file c.args.page) (is_extent_of c.args.file c.in-Some.extent.page)
      (λ x h. behind_too c.args.file c.args.page c.in-Some.extent.page c.in-Some.extent x c.in-Some.ensures.some refl h) c.pages.runs.rows
      ∙ c.pages.invariant.rows;
  births = c.pop_from.ensures.births ∙ c.pages.invariant.births;
}

pub returns-clause-rows : goal.returns-clause-rows
returns-clause-rows c =
    let none : list_any (is_at_or_behind c.args.file c.args.page) c.pages.runs.rows ≡ false = subst (λ o. IfNone o (list_any (is_at_or_behind c.args.file c.args.page) c.pages.runs.rows ≡ false)) c.in_default.is c.pop_from.ensures.none in
    let same : c.pop_from.new.self.rows ≡ c.pages.runs.rows = subst (λ o. IfNone o (c.pop_from.new.self.rows ≡ c.pages.runs.rows)) c.in_default.is c.pop_from.ensures.same in
    same ∙ sym (others_all (is_at_or_behind c.args.file c.args.page) c.pages.runs.rows none) ∙ c.pages.invariant.rows
