use Rattle.std.proofs.Common.{◌∙◌}
use Rattle.st_locks.proofs.Walks.{pass_is_whole, pass_settles, settled_noted, settled_woken}
use Rattle.st_locks.proofs.parts.LockTableParts.demands_due.Goals as goal

pub returns-in_err-note_suspects-clause-settled : goal.returns-in_err-note_suspects-clause-settled
returns-in_err-note_suspects-clause-settled c =
    settled_noted _ _ _ c.note_suspects.new.marks _ _ c.note_suspects.new.besides.items
    c.requires c.note_suspects.ensures.kept

pub returns-in_err-wake-clause-settled : goal.returns-in_err-wake-clause-settled
returns-in_err-wake-clause-settled c =
    settled_woken _ _ c.note_suspects.new.marks c.wake.new.marks _ c.wake.new.self c.note_suspects.new.besides.items
    (settled_noted _ _ _ c.note_suspects.new.marks _ _ c.note_suspects.new.besides.items
    c.requires c.note_suspects.ensures.kept)
    c.wake.ensures.kept

pub returns-in_err-files-clause-settled : goal.returns-in_err-files-clause-settled
returns-in_err-files-clause-settled c =
    settled_woken _ _ c.note_suspects.new.marks c.wake.new.marks _ c.wake.new.self c.note_suspects.new.besides.items
    (settled_noted _ _ _ c.note_suspects.new.marks _ _ c.note_suspects.new.besides.items
    c.requires c.note_suspects.ensures.kept)
    c.wake.ensures.kept

pub returns-in-Ok-clause-settled : goal.returns-in-Ok-clause-settled
returns-in-Ok-clause-settled c =
    pass_settles c.args.pass.config c.args.pass.now c.args.pass.tick c.note_suspects.new.besides.items c.args.suspects.now _ _ c.wake.new.marks c.wake.new.self c.demand_files.new.waking c.demand_files.new.table c.demand_files.new.due.items c.new-due.result.items c.as_slice.result.now
    (settled_woken _ _ c.note_suspects.new.marks c.wake.new.marks _ c.wake.new.self c.note_suspects.new.besides.items
    (settled_noted _ _ _ c.note_suspects.new.marks _ _ c.note_suspects.new.besides.items
    c.requires c.note_suspects.ensures.kept)
    c.wake.ensures.kept)
    c.in_ok-note_suspects.ensures.noted c.in_ok-wake.ensures.quiet (c.as_slice.ensures.value ∙ c.in_ok-files.ensures) c.new-due.ensures.items c.in-Ok.ensures.ok c.clear.new.self c.in-Ok.ensures.timed

pub returns-in-Ok-clause-due : goal.returns-in-Ok-clause-due
returns-in-Ok-clause-due c =
    pass_is_whole c.args.pass.config c.args.pass.now c.args.pass.tick c.note_suspects.new.besides.items c.args.suspects.now _ _ c.wake.new.marks c.wake.new.self c.demand_files.new.waking c.demand_files.new.table c.demand_files.new.due.items c.new-due.result.items c.as_slice.result.now
    (settled_woken _ _ c.note_suspects.new.marks c.wake.new.marks _ c.wake.new.self c.note_suspects.new.besides.items
    (settled_noted _ _ _ c.note_suspects.new.marks _ _ c.note_suspects.new.besides.items
    c.requires c.note_suspects.ensures.kept)
    c.wake.ensures.kept)
    c.in_ok-note_suspects.ensures.noted c.in_ok-wake.ensures.quiet (c.as_slice.ensures.value ∙ c.in_ok-files.ensures) c.new-due.ensures.items c.in-Ok.ensures.ok
