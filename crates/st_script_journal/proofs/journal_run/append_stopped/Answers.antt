use Rattle.std.proofs.Common.{◌≡◌, ◌≤◌, ◌∙◌, ap, subst}
use Rattle.st_script_journal.proofs.JournalRuns.{stopped_left, with_stop}
use Rattle.st_script_journal.proofs.journal_run.append_stopped.Goals as goal

pub returns-in-Err-Store : goal.returns-in-Err-Store
returns-in-Err-Store c = λ changes state next o e.
    let j = c.args.journal in
    let set : c.stop.new.self ≡ with_stop j c.args.stop.call c.args.stop.byte =
    c.stop.ensures ∙ ap (λ n. with_stop j n c.byte.result) c.call.ensures.call ∙ ap (λ b. with_stop j c.args.stop.call b) c.byte.ensures in
    let some : 1 ≤ c.args.stop.call = subst (λ n. 1 ≤ n) c.call.ensures.call c.call.ensures.range.0 in
    let few : c.args.stop.call ≤ 4 = subst (λ n. n ≤ 4) c.call.ensures.call c.call.ensures.range.1 in
    stopped_left c.started_again.result j c.stop.new.self c.append.new.self c.into_store.result changes state c.args.change.now c.args.stop.call c.args.stop.byte o set some few
    (rw c.in-Err-Store.field-0-is at c.in-Err-Store.ensures.calls) (rw c.in-Err-Store.field-0-is at c.in-Err-Store.ensures.records) c.append.ensures.kept c.into_store.ensures c.started_again.ensures
