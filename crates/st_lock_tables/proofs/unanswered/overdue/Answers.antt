use Rattle.std.proofs.Common.{◌≡◌, ◌∷◌, ◌∙◌, true, false, sym, ap, subst}
use Rattle.std.specs.Prelude.{◌||◌, ◌==◌, slice_index_or}
use Rattle.std.specs.List.{list_any}
use Rattle.std.specs.List.Sorted.{IsStrictlySortedBy}
use Rattle.std.specs.Map.Iter.{deref}
use Rattle.std.proofs.lemmas.Map.Iter.{rest_more}
use Rattle.st_lock_tables.specs.DemandStarts.{is_late, is_late_of, wait_order}
use Rattle.st_lock_tables.proofs.Overdue.{marked_more, none_late, or_none, rest_sorted}
use Rattle.st_lock_tables.proofs.unanswered.overdue.Goals as goal

pub returns-then-not-passed : goal.returns-then-not-passed
returns-then-not-passed c = λ d l.
    let e : c.loop-demand.demand-iterator ≡ c.in-Some.demand.now ∷ c.next.new.self = rest_more deref _ _ _ c.in-Some.demand c.in-Some.is c.next.ensures.steps in
    let late : is_late c.args.wait c.args.now c.in-Some.demand.now ≡ false = sym c.passed.ensures ∙ c.if-not-passed.true in
    let none : list_any (is_late_of c.args.wait c.args.now d) c.loop-demand.demand-iterator ≡ false =
    ap (list_any (is_late_of c.args.wait c.args.now d)) e
    ∙ none_late c.in-Some.demand.now c.next.new.self c.args.wait c.args.now d (subst (IsStrictlySortedBy wait_order) e c.loop-demand.invariant.ordered) late in
    sym (or_none (slice_index_or c.loop-demand.late d false)) ∙ ap (λ b. slice_index_or c.loop-demand.late d false || b) (sym none) ∙ c.loop-demand.invariant.marked d l

pub loop-demand-preserved : goal.loop-demand-preserved
loop-demand-preserved c =
    let e : c.loop-demand.demand-iterator ≡ c.in-Some.demand.now ∷ c.next.new.self = rest_more deref _ _ _ c.in-Some.demand c.in-Some.is c.next.ensures.steps in
    let late : is_late c.args.wait c.args.now c.in-Some.demand.now ≡ true = sym c.passed.ensures ∙ c.if-not-passed.false in
    record {
      ordered = rest_sorted c.in-Some.demand.now c.next.new.self (subst (IsStrictlySortedBy wait_order) e c.loop-demand.invariant.ordered);
      marked = λ d l.
          ap (λ b. b || list_any (is_late_of c.args.wait c.args.now d) c.next.new.self) (c.mark.ensures d l)
          ∙ marked_more (slice_index_or c.loop-demand.late d false) (is_late c.args.wait c.args.now c.in-Some.demand.now) (c.in-Some.demand.now.2.0 == d) (list_any (is_late_of c.args.wait c.args.now d) c.next.new.self) late
          ∙ ap (λ xs. slice_index_or c.loop-demand.late d false || list_any (is_late_of c.args.wait c.args.now d) xs) (sym e) ∙ c.loop-demand.invariant.marked d l;
    }
