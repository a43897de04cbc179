use Rattle.st_lemmas.proofs.Words
use Words.{◌≡◌, ℕ, ◌<◌, ◌≤◌, false}
use Words.Keys.{client}
use Words.Locks.{has_rows}
use Rattle.st_shared.proofs.rows.holder.Given as goal

abbrev pub invariant-loop-number : goal.invariant-loop-number
invariant-loop-number l = (k : ℕ) → 1 ≤ k → k < l.number → has_rows l.locks (client k) ≡ false
