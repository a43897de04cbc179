use Rattle.std.proofs.Common.{◌≡◌, ◌+◌, ◌∙◌, ◌++◌, ◌∷◌, [], ◌<◌, sym, ap, subst, arith, map, filter, false, if◌then◌else◌}
use Rattle.std.specs.Prelude.{◌&&◌, ◌==◌, slice_index_or}
use Rattle.std.specs.List.{list_any}
use Rattle.st_rules.specs.Keys.{client}
use Rattle.st_rules.specs.Locks.{unanswered, is_overdue}
use Rattle.st_tables.proofs.RisingKeys.{numbers, probe_more}
use Rattle.st_lock_tables.proofs.Ways.{test_looked}
use Rattle.st_lock_tables.proofs.table.PlainTable.unanswered.Goals as goal

pub loop-i-preserved : goal.loop-i-preserved
loop-i-preserved c =
    let l : c.loop-i.i + 1 < 17 = omega arith in
    let marked = subst (λ t. slice_index_or c.overdue-late.result (c.loop-i.i + 1) false ≡ list_any (λ r. is_overdue c.args.config c.args.now r && (r.client.0 == (c.loop-i.i + 1))) t.rows) c.self.view_is (c.overdue-late.ensures (c.loop-i.i + 1) l) in
    c.in_ok-push_if.ensures ∙ (λ j. c.loop-i.invariant j ++ (if marked j then client (c.loop-i.i + 1) ∷ [] else []))
    ∙ sym (probe_more (λ x. list_any (λ r. is_overdue c.args.config c.args.now r && (r.client.0 == x)) c.args.self.now.rows) c.loop-i.i)

pub returns : goal.returns
unfolding unanswered
returns c =
    let end : c.loop-i.i ≡ 16 = omega arith in
    c.loop-i.invariant ∙ ap (λ n. map client (filter (λ x. list_any (λ r. is_overdue c.args.config c.args.now r && (r.client.0 == x)) c.args.self.now.rows) (numbers 1 n))) end
    ∙ subst (λ t. map client (filter (λ x. list_any (λ r. is_overdue c.args.config c.args.now r && (r.client.0 == x)) t.rows) (numbers 1 16)) ≡ unanswered t c.args.now c.args.config) c.self.view_is
    (ap (map client) (sym (test_looked (is_overdue c.args.config c.args.now) c.self.inside.rows c.len-rows.ensures.clients)))
