-- A status was explained by its text.
use Rattle.std.proofs.Common.{◌≡◌, ℕ, ◌≤◌, List, arith, sym, ap, ◌∙◌, subst}
use Rattle.st_tank.specs.Jobs.{IsExplained, GetsText}
use Rattle.st_tank.specs.Uses.{StreamUse}
use Rattle.st_tank.specs.Words.{fault_text}

pub explained_by : {Err : Type 0} (status number : ℕ) (err : StreamUse Err) (text : List ℕ) → status ≡ number → 2 ≤ number → fault_text number ≡ text →
    GetsText err text → IsExplained status err
explained_by status number err text is failed says told = record {
  quiet = λ low. absurd (omega (arith, is, failed, low));
  text = subst (GetsText err) (sym (ap fault_text is ∙ says)) told;
}
