use Rattle.st_lemmas.proofs.Words
use Words.{◌≡◌, sym, subst, true, List, ℕ, list_all, GrantNo, Mode}
use Rattle.std.specs.List.{IsDistinct}
use Rattle.st_locks.specs.Calls.{is_lock_row, same_file}
use Rattle.st_server.proofs.Distinct.{distinct, lock_modes}
use Rattle.st_server.proofs.turn.ServerTurn.reassert_new.Goals as goal

pub accept-requires-clause-distinct : goal.accept-requires-clause-distinct
accept-requires-clause-distinct c = subst (IsDistinct same_file) (sym c.as_slice.ensures) (distinct c.args.rows.now c.requires.fits)

pub accept-requires-clause-modes : goal.accept-requires-clause-modes
accept-requires-clause-modes c =
    subst (λ (rows : List (ℕ × GrantNo × Mode)). list_all is_lock_row rows ≡ true) (sym c.as_slice.ensures) (lock_modes c.args.rows.now c.requires.fits)
