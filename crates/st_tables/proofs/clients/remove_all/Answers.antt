use Rattle.std.proofs.Common.{◌∙◌, ◌+◌, drop, get_or, sym, ap, subst, filter}
use Rattle.std.specs.Prelude.{not}
use Rattle.std.proofs.lemmas.List.{drop_all}
use Rattle.st_tables.specs.Indexes.{AreQueued, queue_in}
use Rattle.st_tables.proofs.Indexes.{drop_one, is_gone, none_gone, one_gone, queued_gone}
use Rattle.st_tables.proofs.Places.{key_on}
use Rattle.st_tables.proofs.clients.remove_all.Goals as goal

pub loop-second-preserved : goal.loop-second-preserved
loop-second-preserved g c =
    let i = c.loop-second.second-index in
    let ss = c.args.seconds.now in
    record {
      rows = ap (filter (λ v. not (is_gone g.V.Row.key_of c.args.first (drop (i + 1) ss) v))) c.remove.ensures
          ∙ one_gone g.V.Row.key_of c.args.first (get_or ss i 0) (drop (i + 1) ss) c.loop-second.table
          ∙ ap (λ ks. filter (λ v. not (is_gone g.V.Row.key_of c.args.first ks v)) c.loop-second.table) (sym (drop_one ss i c.loop-second-test.true)) ∙
          c.loop-second.invariant.rows;
      queued = subst (λ l. AreQueued g.V.Row.key_of l (queue_in c.leave.new.queues.entries)) (sym c.remove.ensures)
          (queued_gone g.V.Row.key_of c.loop-second.table (queue_in c.loop-second.queues.entries) (queue_in c.leave.new.queues.entries)
          (key_on c.args.first (get_or ss i 0)) c.loop-second.invariant.queued c.leave.ensures);
    }

pub returns-clause-rows : goal.returns-clause-rows
returns-clause-rows g c =
    none_gone g.V.Row.key_of c.args.first c.loop-second.table
    ∙ ap (λ ks. filter (λ v. not (is_gone g.V.Row.key_of c.args.first ks v)) c.loop-second.table)
    (sym (drop_all c.loop-second.second-index c.args.seconds.now c.loop-second-test.false)) ∙ c.loop-second.invariant.rows
