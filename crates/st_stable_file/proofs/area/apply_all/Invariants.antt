use Rattle.std.proofs.Common.{◌≡◌, ◌+◌, ◌≤◌, length}
use Rattle.st_journal.specs.Parts.{stable_of}
use Rattle.st_journal_bytes.specs.Moments.{Dated}
use Rattle.st_rules.specs.Server.{Stable}
use Rattle.st_stable_file.specs.Opened.{AreApplied}
use Rattle.st_stable_file.proofs.area.apply_all.Given as goal

abbrev pub invariant-changes : goal.invariant-changes
invariant-changes l = record {
  applied : (d : Dated Stable) → d.made ≡ stable_of l.fn.stable → d.moment ≡ l.first → AreApplied l.bytes d l.rest (stable_of l.stable) l.moment l.records;
  place : l.at + length l.rest ≡ l.whole;
  few : l.records ≤ l.at;
}

abbrev pub decreases-changes : goal.decreases-changes
decreases-changes l = length l.rest
