use Rattle.std.proofs.Common.{◌<◌, ◌∙◌, sym, length, rules}
use Rattle.std.proofs.lemmas.Result.{err_from_is_err_and}
use Rattle.st_schedule_words.specs.Words.{words_behind}
use Rattle.st_schedule.specs.Parser.{steps_at, steps_of}
use Rattle.st_schedule.proofs.Increments.{goes_on, more_words, stops, is_done}
use Rattle.st_schedule.proofs.event_line.steps_of.Goals as goal

pub returns-in_err-step : goal.returns-in_err-step
returns-in_err-step c =
    let p = err_from_is_err_and c.from_residual-in_err-step.result c.from_residual-in_err-step.ensures.1 in
    let more : 0 < length c.args.rest.now = search rules in
    let total = steps_of c.args.least c.args.nodes c.args.step (words_behind c.args.all.now) (words_behind c.args.rest.now) in
    rw (p.1, p.2) (stops c.in_err-step.field-0.0 c.loop.steps.items c.args.least c.args.nodes c.loop.counter (words_behind c.loop.after.now) total c.loop-test.true c.in_err-step.ensures.value
    (c.loop.invariant ∙ sym (more_words c.args.least c.args.nodes c.args.step (words_behind c.args.all.now) c.args.rest.now more)))

pub loop-preserved : goal.loop-preserved
loop-preserved c =
    rw c.in_ok-push.ensures.items (goes_on c.loop.steps.items c.args.least c.args.nodes c.loop.counter (words_behind c.loop.after.now) c.in_ok-step.step (words_behind c.in_ok-step.behind.now)
    (steps_at c.args.least c.args.nodes (words_behind c.args.all.now)) c.loop-test.true c.in_ok-step.ensures.value c.loop.invariant)

pub returns : goal.returns
returns c =
    let more : 0 < length c.args.rest.now = search rules in
    more_words c.args.least c.args.nodes c.args.step (words_behind c.args.all.now) c.args.rest.now more
    ∙ is_done c.loop.steps.items c.args.least c.args.nodes c.loop.counter (words_behind c.loop.after.now) (steps_at c.args.least c.args.nodes (words_behind c.args.all.now)) c.loop-test.false c.loop.invariant
