use Rattle.std.proofs.Common.{ℕ, Option, sym, ◌∙◌, subst}
use Rattle.st_rules.specs.Grace.{accept_own}
use Rattle.st_reassert.specs.Acceptance.{Accepts}
use Rattle.st_reassert.proofs.OwnRows.{no_own}
use Rattle.st_reassert.proofs.acceptance.accept_own.Goals as goal

pub returns : goal.returns
unfolding accept_own
returns c =
    subst
    (λ (o : Option ℕ). Accepts (record { locks = c.args.locks.now; sessions = c.args.sessions.now })
    (record { locks = c.install.new.locks; sessions = c.install.new.sessions }) c.install.result
    (accept_own c.args.locks.now c.args.sessions.now c.args.client c.args.life c.args.rows.now o))
    (sym (no_own c.args.locks.now c.args.client c.args.life (sym c.has_rows.ensures ∙ c.if-has_rows.false))) c.install.ensures
