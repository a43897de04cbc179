-- Marks of pending entries, and the places of the pending ones.
use Rattle.std.specs.Prelude.{ℕ, ◌+◌, Bool, ◌&&◌, not, nat_le, if◌then◌else◌, List, [], ◌∷◌, ◌++◌, get_or, set}
use Rattle.std.specs.List.{list_any}
use Rattle.st_base.specs.declared.ids.ClientId.{ClientId}
use Rattle.st_base.specs.declared.ids.FileId.{FileId}
use Rattle.st_base.specs.declared.ids.PageNo.{PageNo}
use Rattle.st_model.specs.declared.marking.Spare.{Spare}
use Rattle.st_rules.specs.declared.log.Cause.{Cause}
use Rattle.st_rules.specs.declared.log.Cause.TheVariants as causes
use Rattle.st_rules.specs.declared.log.Fate.{Fate}
use Rattle.st_rules.specs.declared.log.Fate.TheVariants.{Pending, Hard, Gone}
use Rattle.st_rules.specs.declared.log.LogOwner.{LogOwner}
use Rattle.st_rules.specs.declared.log.LogEntry.{LogEntry}
use Rattle.st_rules.specs.declared.observation.Observation.{Observation}
use Rattle.st_rules.specs.FlatLog.{is_pending, hard_cut, same_owner, is_of_client, drop_picked, always}
use Rattle.st_rules.specs.Events.{fate_seen, fates_from}

-- a fate, if a pending one becomes the next
abbrev pub marked_fate : Fate → Fate → Fate
marked_fate Pending next = next
marked_fate Hard next = Hard
marked_fate (Gone cause) next = Gone cause

-- an entry with this fate
abbrev pub with_fate : Fate → LogEntry → LogEntry
with_fate fate e = record e { fate = fate }

-- an entry, by its number, when it is marked
abbrev pub marked : (ℕ → LogOwner → Fate) → ℕ → LogEntry → LogEntry
marked next number e = with_fate (marked_fate e.fate (next number e.of)) e

-- the entries from a number on, when they are marked
abbrev pub mark_from : (ℕ → LogOwner → Fate) → ℕ → List LogEntry → List LogEntry
mark_from next number [] = []
mark_from next number (e ∷ es) = marked next number e ∷ mark_from next (number + 1) es

-- the places of the pending entries, rising, the first of these entries at this place
abbrev pub pending_from : ℕ → List LogEntry → List ℕ
pending_from k [] = []
pending_from k (e ∷ es) = if is_pending e.fate then k ∷ pending_from (k + 1) es else pending_from (k + 1) es

-- the entry of a place
abbrev pub nth : List LogEntry → ℕ → LogEntry
nth es k = get_or es k (hard_cut (record { server = record { 0 = 0 }; ino = 0 }) (record { 0 = 0 }))

-- what becomes of the entry of a place, if it is pending
abbrev pub next_at : (ℕ → LogOwner → Fate) → ℕ → List LogEntry → Fate
next_at next k es = next (k + 1) (nth es k).of

-- the entry of a place gets a fate
abbrev pub put_fate : ℕ → Fate → List LogEntry → List LogEntry
put_fate k fate es = set es k (with_fate fate (nth es k))

-- the entry of a place gets its next fate
abbrev pub step : (ℕ → LogOwner → Fate) → ℕ → List LogEntry → List LogEntry
step next k es = put_fate k (next_at next k es) es

-- the entries of these places get their next fates, one after another
abbrev pub walk : (ℕ → LogOwner → Fate) → List ℕ → List LogEntry → List LogEntry
walk next [] es = es
walk next (k ∷ ks) es = walk next ks (step next k es)

-- a place, if the fate is pending
abbrev pub if_pending : Fate → ℕ → List ℕ
if_pending fate k = if is_pending fate then k ∷ [] else []

-- the places that stay pending on this walk
abbrev pub left : (ℕ → LogOwner → Fate) → List ℕ → List LogEntry → List ℕ
left next [] es = []
left next (k ∷ ks) es = if_pending (next_at next k es) k ++ left next ks (step next k es)

-- what is seen of the fates on a walk
abbrev pub seen_at : (ℕ → LogOwner → Fate) → List ℕ → List LogEntry → List Observation
seen_at next [] es = []
seen_at next (k ∷ ks) es = fate_seen (k + 1) Pending (next_at next k es) ++ seen_at next ks es

-- What becomes of a pending entry when the entry of this index and owner hardens.
abbrev pub hardens : ℕ → LogOwner → ℕ → LogOwner → Fate
hardens index o number of = if nat_le number index && same_owner of o then Hard else Pending

-- What becomes of a pending entry when the picked ones are dropped.
abbrev pub drops : (ℕ → LogOwner → Bool) → (FileId → PageNo → Cause) → ℕ → LogOwner → Fate
drops picked cause number of = if picked number of then Gone (cause of.file of.page) else Pending

-- an entry of this number and owner is spared by what was issued
abbrev pub spares : ℕ → LogOwner → Spare → Bool
spares number of s = nat_le number s.index && same_owner s.owner of

-- an entry that goes with its client
abbrev pub is_crashed : ClientId → List Spare → ℕ → LogOwner → Bool
is_crashed client spared number of = is_of_client client of && not (list_any (spares number of) spared)

-- the log after its client crashed
abbrev pub without_crashed : ClientId → List Spare → List LogEntry → List LogEntry
without_crashed client spared log = drop_picked log (is_crashed client spared) (always causes.Crash)

-- what is observed when a log is marked
abbrev pub marks_seen : (ℕ → LogOwner → Fate) → List LogEntry → List Observation
marks_seen next log = fates_from 1 log (mark_from next 1 log)
