use Rattle.st_lemmas.proofs.Words
use Words.{◌∙◌}
use Rattle.st_server.proofs.Ranges.{rows_more, rows_all}
use Rattle.st_server.proofs.page_requests.rows_of_range.Goals as goal

pub loop-place-preserved : goal.loop-place-preserved
loop-place-preserved c =
    rows_more c.args.mapped.now c.args.file c.args.page.0 c.loop-place.place c.args.count c.loop-place.rows.items c.push_page.new.rows.items _ c.loop-place-test.true c.in_ok-push_page.ensures c.loop-place.invariant

pub returns : goal.returns
returns c = c.from_vec.ensures ∙ rows_all c.args.mapped.now c.args.file c.args.page.0 c.loop-place.place c.args.count c.loop-place.rows.items _ c.loop-place-test.false c.loop-place.invariant
