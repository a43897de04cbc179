-- Lines: the log at each observation of an event, and what observations say about it. An observation is a line of the report.
use Rattle.std.specs.Prelude.{◌≡◌, ℕ, ◌+◌, Bool, true, false, ◌&&◌, ◌==◌, List, [], ◌∷◌, length, Option, Some, None, ⊤}
use Rattle.st_rules.specs.declared.log.Fate.{Fate}
use Rattle.st_rules.specs.declared.log.Fate.TheVariants as fates
use Rattle.st_rules.specs.declared.log.LogEntry.{LogEntry}
use Rattle.st_rules.specs.declared.observation.Observation.{Observation}
use Rattle.st_rules.specs.declared.observation.Observation.TheVariants as seen
use Rattle.st_rules.specs.FlatLog as log
use Rattle.st_rules.specs.World.{World, with_numbered}
use Rattle.st_rules.specs.Events.{present_life}

-- The log at an observation: the one before the event, with what was observed before.
abbrev pub with_fate : ℕ → Fate → Option LogEntry → List LogEntry → List LogEntry
with_fate index fate None es = es
with_fate index fate (Some e) es = with_numbered index (record e { fate = fate }) es

-- an entry of the log has this fate
abbrev pub fated : List LogEntry → ℕ → Fate → List LogEntry
fated es index fate = with_fate index fate (log.entry_at es index) es

-- the log after an observation of a step that left this world; the life of an entry is its client's present one
unfoldable pub log_behind : World → List LogEntry → Observation → List LogEntry
log_behind w es (seen.Wrote index c f p bytes) = log.accept es c (present_life w c f.server) f p bytes
log_behind w es (seen.Patched index c f p at bytes) = log.patch es c (present_life w c f.server) f p at bytes
log_behind w es (seen.CutAt index f p) = log.cut es f p
log_behind w es (seen.Hardened index) = fated es index fates.Hard
log_behind w es (seen.Dropped index cause) = fated es index (fates.Gone cause)
log_behind w es o = es

-- a fact of each observation and the log at it
unfoldable pub AtEach : (List LogEntry → Observation → Type 0) → World → List LogEntry → List Observation → Type 0
AtEach fact w es [] = ⊤
AtEach fact w es (o ∷ os) = fact es o × AtEach fact w (log_behind w es o) os

-- What the lines of an event make of the log before it, in their order.
unfoldable pub log_told : World → List LogEntry → List Observation → List LogEntry
log_told w es [] = es
log_told w es (o ∷ os) = log_told w (log_behind w es o) os

-- a new entry has the next number
abbrev pub is_next : List LogEntry → ℕ → Bool
is_next es index = index == length es + 1

-- an entry is there and pending
abbrev pub is_pending_entry : Option LogEntry → Bool
is_pending_entry None = false
is_pending_entry (Some e) = log.is_pending e.fate

-- the entry of a number is pending
abbrev pub is_pending_at : List LogEntry → ℕ → Bool
is_pending_at es index = is_pending_entry (log.entry_at es index)

-- the line of a new entry has the next number, and a line of a fate names a pending entry
abbrev pub tells_log : List LogEntry → Observation → Bool
tells_log es (seen.Wrote index c f p bytes) = is_next es index
tells_log es (seen.Patched index c f p at bytes) = is_next es index
tells_log es (seen.CutAt index f p) = is_next es index
tells_log es (seen.Hardened index) = is_pending_at es index
tells_log es (seen.Dropped index cause) = is_pending_at es index
tells_log es o = true

-- each line does, in the log at it
unfoldable pub all_tell_log : World → List LogEntry → List Observation → Bool
all_tell_log w es [] = true
all_tell_log w es (o ∷ os) = tells_log es o && all_tell_log w (log_behind w es o) os

-- the lines of a step that left this world make this log of the one before it
pub record IsLogTold (w : World) (old : List LogEntry) (lines : List Observation) : Type 0 where
  pub entries : log_told w old lines ≡ w.log
  pub numbers : all_tell_log w old lines ≡ true

-- opens all of this file
unfoldable pub lines_open : ⊤
unfolding log_behind AtEach log_told all_tell_log
lines_open = tt
