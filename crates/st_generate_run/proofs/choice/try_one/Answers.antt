use Rattle.std.proofs.Common.{◌≡◌, true, None, Some, sym, ap, ◌∙◌, subst}
use Rattle.st_rules.specs.Safety.{is_event}
use Rattle.st_generate_run.specs.Choice.{IsTry, found}
use Rattle.st_generate_run.proofs.Tries.{candidate_fits, tries}
use Rattle.st_generate_run.proofs.choice.try_one.Goals as goal

pub admits-requires-clause-event : goal.admits-requires-clause-event
admits-requires-clause-event g c =
    subst (λ n. is_event n c.candidate.new.event ≡ true) (sym c.requires.nodes)
    (candidate_fits c.sent.result c.submitted.result c.args.draws.now c.candidate.new.event c.candidate.new.draws
    (ap (λ b. (found b c.candidate.new.event, c.candidate.new.draws)) (sym c.if-branch.true) ∙ c.in_ok-candidate.ensures))

pub returns-then-branch : goal.returns-then-branch
returns-then-branch g c =
    subst (λ b. IsTry (g.J.Judge.world c.args.judge.now) c.args.draws.now (found b c.candidate.new.event) c.candidate.new.draws) (sym c.admits.ensures)
    (tries (g.J.Judge.world c.args.judge.now) _ c.sent.result c.submitted.result (Some c.candidate.new.event) _ c.sent.ensures c.submitted.ensures
    (ap (λ b. (found b c.candidate.new.event, c.candidate.new.draws)) (sym c.if-branch.true) ∙ c.in_ok-candidate.ensures))

pub returns-else-branch : goal.returns-else-branch
returns-else-branch g c =
    tries (g.J.Judge.world c.args.judge.now) _ c.sent.result c.submitted.result None _ c.sent.ensures c.submitted.ensures
    (ap (λ b. (found b c.candidate.new.event, c.candidate.new.draws)) (sym c.if-branch.false) ∙ c.in_ok-candidate.ensures)
