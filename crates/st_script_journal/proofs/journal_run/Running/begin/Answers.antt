use Rattle.std.proofs.Common.{[], None, refl}
use Rattle.st_journal.specs.Parts.{stable_of}
use Rattle.st_script_journal.specs.JournalScripts.{fresh_journal}
use Rattle.st_script_journal.proofs.JournalChanges.{holds_fresh}
use Rattle.st_script_journal.proofs.JournalRuns.{fresh_store, opened_again, starts_with}
use Rattle.st_script_journal.proofs.journal_run.Running.begin.Goals as goal

pub joined-requires : goal.joined-requires
joined-requires c =
    let h = fresh_store c.args.store c.requires in
    let t = stable_of c.in-Ok.stable in
    let l = c.in-Ok.ensures.prefix [] None fresh_journal.stable refl h.journal in
    ([], (opened_again c.args.store c.in-Ok.journal [] t t h l l (c.in-Ok.ensures.records [] h.journal) c.in-Ok.ensures.rests.kept).0)

pub returns-in-Ok : goal.returns-in-Ok
returns-in-Ok c =
    let h = fresh_store c.args.store c.requires in
    let t = stable_of c.in-Ok.stable in
    let l = c.in-Ok.ensures.prefix [] None fresh_journal.stable refl h.journal in
    let o = opened_again c.args.store c.in-Ok.journal [] fresh_journal.stable t h refl l (c.in-Ok.ensures.records [] h.journal) c.in-Ok.ensures.rests.kept in
    holds_fresh c.joined.result (starts_with c.in-Ok.journal [] fresh_journal.stable t c.joined.result c.joined.ensures o.0 o.1)
