use Rattle.std.proofs.Common.{◌≡◌, ◌∙◌, ◌++◌, List, ℕ, ap, codes, subst}
use Rattle.std.specs.Io.KnownBytes.{Appends}
use Rattle.st_generate.specs.GeneratedText.{head_line}
use Rattle.st_link.specs.Prefixes.{AppendsPrefix}
use Rattle.st_generate_run.specs.Turns.{lines}
use Rattle.st_generate_run.proofs.Fronts.{longer, on_err, writes_end, writes_end_cut, writes_stop}
use Rattle.st_generate_run.proofs.Turning.{text_is}
use Rattle.st_generate_run.proofs.schedule.write_schedule.Goals as goal

-- the text begins as the line of the head
begun : (t u : List ℕ) → t ≡ u ++ head_line → u ≡ Rattle.std.proofs.Common.[] → t ≡ head_line
begun t u e f = e ∙ ap (λ v. v ++ head_line) f

pub returns-in_err-write_events-clause-front : goal.returns-in_err-write_events-clause-front
returns-in_err-write_events-clause-front g c =
    let t = c.put_head.new.text.items in
    on_err c.from_residual-in_err-write_events.result _
    (subst (AppendsPrefix (g.O.Sink.written c.args.out.now) (g.O.Sink.written c.write_events.new.out))
    (text_is t c.args.n c.args.world.now c.args.draws.now (begun t c.new-text.result.items c.in_ok-put_head.ensures c.new-text.ensures.items))
    (longer (g.O.Sink.written c.args.out.now) (g.O.Sink.written c.write_events.new.out) (t ++ lines c.args.n c.args.world.now c.args.draws.now) (codes "end\n") c.in_err-write_events.ensures.front))

pub returns-in_err-put_end-clause-front : goal.returns-in_err-put_end-clause-front
returns-in_err-put_end-clause-front g c =
    let t = c.put_head.new.text.items in
    on_err c.from_residual-in_err-put_end.result _
    (subst (AppendsPrefix (g.O.Sink.written c.args.out.now) (g.O.Sink.written c.write_events.new.out))
    (text_is t c.args.n c.args.world.now c.args.draws.now (begun t c.new-text.result.items c.in_ok-put_head.ensures c.new-text.ensures.items))
    (writes_stop (g.O.Sink.written c.args.out.now) (g.O.Sink.written c.write_events.new.out) (t ++ lines c.args.n c.args.world.now c.args.draws.now) c.write_events.new.text.items (codes "end\n") c.in_ok-write_events.ensures.wrote))

pub returns-in_err-flush-clause-front : goal.returns-in_err-flush-clause-front
returns-in_err-flush-clause-front g c =
    let t = c.put_head.new.text.items in
    on_err c.from_residual-in_err-flush.result _
    (subst (AppendsPrefix (g.O.Sink.written c.args.out.now) (g.O.Sink.written c.flush.new.out))
    (text_is t c.args.n c.args.world.now c.args.draws.now (begun t c.new-text.result.items c.in_ok-put_head.ensures c.new-text.ensures.items))
    (writes_end_cut (g.O.Sink.written c.args.out.now) (g.O.Sink.written c.write_events.new.out) (g.O.Sink.written c.flush.new.out) (t ++ lines c.args.n c.args.world.now c.args.draws.now) c.write_events.new.text.items (codes "end\n")
    c.in_ok-write_events.ensures.wrote (subst (AppendsPrefix (g.O.Sink.written c.write_events.new.out) (g.O.Sink.written c.flush.new.out)) c.in_ok-put_end.ensures c.in_err-flush.ensures.failed)))

pub returns-clause-text : goal.returns-clause-text
returns-clause-text g c =
    let t = c.put_head.new.text.items in
    subst (Appends (g.O.Sink.written c.args.out.now) (g.O.Sink.written c.flush.new.out))
    (text_is t c.args.n c.args.world.now c.args.draws.now (begun t c.new-text.result.items c.in_ok-put_head.ensures c.new-text.ensures.items))
    (writes_end (g.O.Sink.written c.args.out.now) (g.O.Sink.written c.write_events.new.out) (g.O.Sink.written c.flush.new.out) (t ++ lines c.args.n c.args.world.now c.args.draws.now) c.write_events.new.text.items (codes "end\n")
    c.in_ok-write_events.ensures.wrote (subst (Appends (g.O.Sink.written c.write_events.new.out) (g.O.Sink.written c.flush.new.out)) c.in_ok-put_end.ensures c.in_ok-flush.ensures.ok))
