use Rattle.std.proofs.Common.{None, arith}
use Rattle.st_journal.specs.Parts.{stable_of}
use Rattle.st_script_journal.specs.JournalScripts.{fresh_journal}
use Rattle.st_script_journal.proofs.JournalRuns.{opened_again, seen_size, starts_with}
use Rattle.st_script_journal.proofs.journal_run.reopen.Goals as goal

pub reopen-requires-clause-small : goal.reopen-requires-clause-small
reopen-requires-clause-small c = let a = c.requires in omega (arith, seen_size c.args.store a.2.size)

pub reopen-requires-clause-known : goal.reopen-requires-clause-known
reopen-requires-clause-known c = let a = c.requires in (fresh_journal.stable, a.4)

pub joined-requires : goal.joined-requires
joined-requires c =
    let a = c.requires in
    let l = c.in-Ok.ensures.prefix fresh_journal.stable a.0 None a.1 a.4 a.3 a.2.journal in
    let o =
    opened_again c.args.store c.in-Ok.journal a.0 (stable_of c.in-Ok.stable) (stable_of c.in-Ok.stable) a.2 l l (c.in-Ok.ensures.records a.0 a.2.journal)
    c.in-Ok.ensures.rests.kept in
    (a.0, o.0)

pub returns-in-Ok : goal.returns-in-Ok
returns-in-Ok c = λ changes state h l.
    let a = c.requires in
    let o =
    opened_again c.args.store c.in-Ok.journal changes state (stable_of c.in-Ok.stable) h l
    (c.in-Ok.ensures.prefix fresh_journal.stable changes None state a.4 l h.journal)
    (c.in-Ok.ensures.records changes h.journal) c.in-Ok.ensures.rests.kept in
    starts_with c.in-Ok.journal changes state (stable_of c.in-Ok.stable) c.joined.result c.joined.ensures o.0 o.1
