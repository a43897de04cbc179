use Rattle.std.proofs.Common.{◌≡◌, ◌∙◌, sym, true, subst}
use Rattle.std.specs.List.{list_all}
use Rattle.st_locks.specs.Calls.{is_old_row}
use Rattle.st_reassert.proofs.NewGrants.{none_fails}
use Rattle.st_reassert.proofs.acceptance.accept_rows.Goals as goal

pub accept_own-requires-clause-earlier : goal.accept_own-requires-clause-earlier
accept_own-requires-clause-earlier c =
    subst (λ e. list_all (is_old_row e) c.args.rows.now ≡ true) c.epoch.ensures.epoch
    (none_fails (is_old_row c.epoch.result) c.args.rows.now (sym c.first_new_grant.ensures ∙ c.in-None.is))
