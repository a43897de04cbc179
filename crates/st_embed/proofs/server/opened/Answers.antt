use Rattle.st_lemmas.proofs.Words
use Words.{◌∙◌, arith, inr}
use Rattle.st_journal.specs.Parts as parts
use Rattle.st_embed.proofs.Opened.{begun_later, if_err, if_ok, not_started, not_started_fresh, on_both}
use Rattle.st_embed.proofs.server.opened.Goals as goal

pub returns-clause-node : goal.returns-clause-node
returns-clause-node c =
    if_ok c.restarted.result _ _ (λ d e. e ∙ begun_later c.args.id c.args.config.now c.args.shape c.args.now c.args.changes (parts.stable_of c.args.stable) (omega (arith, c.if-changes-eq0.false))) c.restarted.ensures.node

pub returns-clause-may : goal.returns-clause-may
returns-clause-may c = on_both c.restarted.result _ _ _ (λ some few. inr (some, few)) c.restarted.ensures.begun c.restarted.ensures.left

pub returns-then-changes-eq0-clause-err : goal.returns-then-changes-eq0-clause-err
returns-then-changes-eq0-clause-err c = if_err c.fresh.result _ _ (λ f e. not_started_fresh c.args.changes (parts.stable_of c.args.stable) f e) c.fresh.ensures.err

pub returns-clause-err : goal.returns-clause-err
returns-clause-err c =
    if_err c.restarted.result _ _ (λ f h. not_started c.args.changes (parts.stable_of c.args.stable) f (omega (arith, c.if-changes-eq0.false)) h) c.restarted.ensures.err
