-- What is owed as a disk command ends follows from its report and its effect.
use Rattle.st_lemmas.proofs.Words
use Words.{◌≡◌, ℕ, true, List, Some, sym, ap, ◌∙◌, subst, list_any, ClientId, PageCommand, LogEntry, IssuedCommand}
use Words.io
use Words.ClientState.{Association}
use Words.World.{numbered}
use Words.Safety.{Step, reports_failure}
use Words.Lists.{Has}
use Rattle.st_laws_pages.specs.Flush.Flush.{IsIts, Cared, Sent, file_at}
use Rattle.st_laws_pages.proofs.Flush.Ending.{FailureOwed}

-- The write of a number that was reported failed is the last write of its page, and carried the latest entry if the page is as it was.
pub failure_owed : (past : List Step) (cs : List IssuedCommand) (es : List LogEntry) (c : ClientId) (starts next : ℕ) (a : Association) (k : ℕ) (x : IssuedCommand) → numbered cs k ≡ Some x → list_any (reports_failure k) past ≡ true → Cared past cs es c starts next a →
    (pc : PageCommand) → Has pc a.store.commands → IsIts c starts pc.number x → (v : ℕ) → pc.kind ≡ io.Write v → FailureOwed past cs es c a pc v
failure_owed past cs es c starts next a k x j told h pc i s v q d e u =
    record {
      told = subst (λ n. list_any (reports_failure n) past ≡ true) (sym o.last) told;
      command = x;
      is = ap (numbered cs) o.last ∙ j;
      number_is = s.number_is;
      first = h.above pc i;
      carries = o.carries ∙ ap (λ n. Some (record { file = file_at a pc.ino; page = pc.page; index = n })) (o.latest_is d e u);
    }
  where
    o : Sent cs es c a pc v k x
    o = (h.writes pc i v q).world k x j s
