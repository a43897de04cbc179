use Rattle.std.proofs.Common.{◌≡◌, ◌+◌, ◌∙◌, ap, get_or, take}
use Rattle.st_rules.specs.Authority.{Authority}
use Rattle.st_rules.specs.declared.authority.Suspect.{Suspect}
use Rattle.st_due.proofs.EarliestFound.{next_mapped}
use Rattle.st_due.specs.Moments.{readable}
use Rattle.st_due.specs.ServerDue.{theft_of}
use Rattle.st_lease_server.proofs.authority.Authority.first_theft.Goals as goal

abbrev nobody : Suspect
nobody = record { client = record { 0 = 0 }; start = record { 0 = 0 } }

pub loop-timer-preserved : goal.loop-timer-preserved
loop-timer-preserved c =
    let items = c.as_slice-timer-items.result.now in
    c.sooner-first.ensures
    ∙ next_mapped (theft_of c.args.self.now.wait) items c.loop-timer.timer-index nobody c.loop-timer.first c.after.result c.loop-timer-test.true c.loop-timer.invariant
    (c.after.ensures ∙ ap (λ (a : Authority). readable ((get_or items c.loop-timer.timer-index nobody).start.0 + a.wait)) c.self.view_is)
