-- Ranges stay in their pages.
use Rattle.std.proofs.Common.{◌≡◌, ℕ, zero, suc, ◌+◌, ◌<◌, List, [], ◌∷◌, ◌++◌, length, get_or, sym, subst, arith}
use Rattle.st_rules.specs.declared.log.Fate.{Fate}
use Rattle.st_rules.specs.declared.log.LogOwner.{LogOwner}
use Rattle.st_rules.specs.declared.log.LogEntry.{LogEntry}
use Rattle.st_model.specs.LogInvariants.{IsInPage, AreInPages}
use Rattle.st_model.specs.Walks.{mark_from}

pub ranged_more : (es : List LogEntry) (e : LogEntry) → AreInPages es → IsInPage e.change → AreInPages (es ++ e ∷ [])
ranged_more [] e a b = (b, tt)
ranged_more (x ∷ es) e a b = (a.0, ranged_more es e a.1 b)

pub ranged_marked : (next : ℕ → LogOwner → Fate) (k : ℕ) (es : List LogEntry) → AreInPages es → AreInPages (mark_from next k es)
ranged_marked next k [] a = tt
ranged_marked next k (e ∷ es) a = (a.0, ranged_marked next (k + 1) es a.1)

ranged_nth : (es : List LogEntry) (k : ℕ) (d : LogEntry) → AreInPages es → k < length es → IsInPage (get_or es k d).change
ranged_nth [] k d a l = absurd (omega arith)
ranged_nth (e ∷ es) zero d a l = a.0
ranged_nth (e ∷ es) (suc k) d a l = ranged_nth es k d a.1 (omega arith)

pub ranged_at : (es : List LogEntry) (k : ℕ) (x : LogEntry) → AreInPages es → k < length es → x ≡ get_or es k x → IsInPage x.change
ranged_at es k x a l q = subst (λ (y : LogEntry). IsInPage y.change) (sym q) (ranged_nth es k x a l)
