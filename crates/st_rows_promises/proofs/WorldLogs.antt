-- Logs of worked rows, entry by entry, and equality by way of one.
use Rattle.std.proofs.Common.{◌≡◌, ℕ, List}
use Rattle.st_rules.specs.declared.log.Change.TheVariants as changes
use Rattle.st_rules.specs.declared.log.Fate.{Fate}
use Rattle.st_rules.specs.declared.log.LogEntry.{LogEntry}
use Rattle.st_rules.specs.FlatLog.{hard_cut, owner}
use Rattle.st_rows.specs.Words.{c, life, page}
use Rattle.st_rows.specs.ClientWords.{on}

-- two that are the same as a third are the same
pub through : {A : Type 0} {x y : A} (z : A) → x ≡ z → z ≡ y → x ≡ y
through z p q = rw p q

-- a write: client, life, server, inode and page
abbrev pub written : ℕ → ℕ → ℕ → ℕ → ℕ → List ℕ → Fate → LogEntry
written n l s ino p bytes fate = record { of = owner (c n) (life l) (on s ino) (page p); change = changes.Write bytes; fate = fate }
