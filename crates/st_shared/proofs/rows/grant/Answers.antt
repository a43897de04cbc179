use Rattle.st_lemmas.proofs.Words
use Words.{◌≡◌, sym, subst, Some, None}
use Rattle.std.specs.Bool.{OnTrue, OnFalse}
use Rattle.st_shared.specs.Rows.{holder_of}
use Rattle.st_shared.proofs.OneRow.{granted_holder, granted_table, refused_holder}
use Rattle.st_shared.proofs.rows.grant.Goals as goal

pub returns-clause-table : goal.returns-clause-table
returns-clause-table c = granted_table c.args.locks.now c.acquire.new.self c.args.client _ c.acquire.result c.requires.client c.requires.table c.requires.free c.acquire.ensures

pub returns-clause-done : goal.returns-clause-done
returns-clause-done c =
    subst (λ b. OnTrue b (holder_of c.acquire.new.self.rows ≡ Some c.args.client)) (sym c.is_ok.ensures.value)
    (granted_holder c.args.locks.now c.acquire.new.self c.args.client _ c.acquire.result c.requires.table c.requires.free c.acquire.ensures)

pub returns-clause-lacks : goal.returns-clause-lacks
returns-clause-lacks c =
    subst (λ b. OnFalse b (holder_of c.acquire.new.self.rows ≡ None)) (sym c.is_ok.ensures.value)
    (refused_holder c.args.locks.now c.acquire.new.self c.args.client _ c.acquire.result c.requires.free c.acquire.ensures)
