-- The entries of a log that a summary counts.
use Rattle.std.specs.Prelude.{ℕ, Bool, true, false, ◌&&◌, not}
use Rattle.st_rules.specs.declared.log.EntryHead.{EntryHead}
use Rattle.st_rules.specs.declared.log.EntryHead.TheVariants as heads
use Rattle.st_rules.specs.declared.log.Fate.{Fate}
use Rattle.st_rules.specs.declared.log.LogEntry.{LogEntry}
use Rattle.st_rules.specs.Events.{is_change, is_gone, is_hard, is_hard_fate}
use Rattle.st_rules.specs.FlatLog as log
use Rattle.st_world_parts.specs.declared.counts.Sort.{Sort}
use Rattle.st_world_parts.specs.declared.counts.Sort.TheVariants as sorts

-- an entry of this sort
abbrev pub picks : Sort → LogEntry → Bool
picks sorts.Changes e = is_change e
picks sorts.Hard e = is_hard e
picks sorts.Gone e = is_gone e

-- a write or a patch
abbrev pub head_changes : EntryHead → Bool
head_changes (heads.Write client life file page) = true
head_changes (heads.Patch client life file page) = true
head_changes (heads.Cut file from) = false

-- the same, by what the entry is and its fate
abbrev pub picks_by : Sort → EntryHead → Fate → Bool
picks_by sorts.Changes h f = head_changes h
picks_by sorts.Hard h f = head_changes h && is_hard_fate f
picks_by sorts.Gone h f = not (log.counts f)

-- 1 for an entry that is picked
abbrev pub one_if : Bool → ℕ
one_if true = 1
one_if false = 0
