-- What was read of a journal.
use Rattle.std.specs.Prelude.{◌≡◌, ℕ, List, length}
use Rattle.st_journal.specs.Journal.{IsDamaged, StandsFor, all_opened}
use Rattle.st_journal.specs.Parts.{stable_of}
use Rattle.st_journal.specs.declared.change.Change.{Change}
use Rattle.st_rules.specs.Server.{Stable}
use Rattle.st_embed.specs.declared.journal_image.Read.{Read}
use Rattle.st_embed.specs.declared.journal_image.ReadFault.{ReadFault}
use Rattle.st_embed.specs.declared.journal_image.ReadFault.TheVariants.{Damaged, Memory}

-- The bytes stand for the stable part that was read, and its changes and the gate after them are reported.
pub record Reads (start : Stable) (bytes : List ℕ) (r : Read) : Type 0 where
  pub changes : List Change
  pub stands : StandsFor start bytes changes (stable_of r.stable)
  pub gate : r.gate ≡ length (all_opened changes)
  pub count : r.changes ≡ length changes

-- why nothing was read
abbrev pub NotRead : Stable → List ℕ → ReadFault → Type 0
NotRead start bytes (Damaged at) = IsDamaged start bytes at
NotRead start bytes Memory = Unit {0}
