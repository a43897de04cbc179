use Rattle.st_lemmas.proofs.Words
use Words.{◌≡◌, ℕ, ◌+◌, ◌-◌, ◌∙◌, ◌&&◌, Bool, true, false, sym, ap, not, List, length, take, drop, get_or, arith, length-drop, take_all, list_any, PageNo}
use Words.ServerInvariants.{are_once}
use Rattle.st_flush.specs.Calls.{same_page_write}
use Rattle.st_flush.proofs.Begun.{once_end, once_step}
use Rattle.st_flush.proofs.flusher.differ.Goals as goal

-- no write
abbrev none : ℕ × PageNo × ℕ
none = (0, record { 0 = 0 }, 0)

-- the rest of a list, as a slice of it has it
rest : (ws : List (ℕ × PageNo × ℕ)) (i : ℕ) → take (length ws - (i + 1)) (drop (i + 1) ws) ≡ drop (i + 1) ws
rest ws i = take_all (length ws - (i + 1)) (drop (i + 1) ws) (rw length-drop (omega arith))

-- whether a later write is of the page, as the slice has it
again : (ws : List (ℕ × PageNo × ℕ)) (i : ℕ) (b : Bool) → b ≡ list_any (same_page_write (get_or ws i none)) (take (length ws - (i + 1)) (drop (i + 1) ws)) →
    list_any (same_page_write (get_or ws i none)) (drop (i + 1) ws) ≡ b
again ws i b e = sym (e ∙ ap (list_any (same_page_write (get_or ws i none))) (rest ws i))

pub loop-i-preserved : goal.loop-i-preserved
loop-i-preserved c =
    sym
    (once_step c.args.writes.now c.loop-i.i none c.loop-i-test.true
    ∙ ap (λ (b : Bool). not b && are_once same_page_write (drop (c.loop-i.i + 1) c.args.writes.now)) (again c.args.writes.now c.loop-i.i false c.if-comes_again.ensures))
    ∙ c.loop-i.invariant

pub returns-then-comes_again : goal.returns-then-comes_again
returns-then-comes_again c =
    sym (ap (λ (b : Bool). not b && are_once same_page_write (drop (c.loop-i.i + 1) c.args.writes.now)) (again c.args.writes.now c.loop-i.i true c.if-comes_again.ensures))
    ∙ sym (once_step c.args.writes.now c.loop-i.i none c.loop-i-test.true) ∙ c.loop-i.invariant

pub returns : goal.returns
returns c = sym (once_end c.args.writes.now c.loop-i.i c.loop-i-test.false) ∙ c.loop-i.invariant
