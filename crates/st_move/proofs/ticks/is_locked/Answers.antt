use Rattle.st_lemmas.proofs.Words
use Words.{◌∙◌, ap, length, not, ◌==◌}
use Rattle.st_move.proofs.Locked.{holders_are}
use Rattle.st_move.proofs.ticks.is_locked.Goals as goal

pub returns : goal.returns
returns c =
    ap not c.is_empty.ensures ∙ ap (λ n. not (n == 0)) c.in_ok-holders.holders.ok.0 ∙ ap (λ xs. not (length xs == 0)) c.in_ok-holders.ensures ∙ holders_are c.args.locks.now c.args.c
