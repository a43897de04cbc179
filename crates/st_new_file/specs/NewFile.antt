-- The file of a journal as it is made.
use Rattle.std.specs.Prelude.{◌<◌, ◌+◌, ℕ, List, [], ◌∷◌, ◌++◌, length}
use Rattle.st_journal_bytes.specs.Headers.{header}
use Rattle.st_journal_bytes.specs.Plain.{plain}
use Rattle.st_journal_bytes.specs.declared.header.Header.{Header}
use Rattle.st_journal_file.specs.Layout.{CLOSED, part}
use Rattle.st_kept_histories.specs.Kept.{snapshot_of}
use Rattle.st_rules.specs.Server.{Stable}

-- what is written at its beginning: the header, two closed marks, and a first area with a snapshot of this stable part, made at this moment
abbrev pub new_file : Header → ℕ → Stable → List ℕ
new_file h moment t = header h ++ (CLOSED ∷ CLOSED ∷ (part plain (snapshot_of moment t) ++ CLOSED ∷ []))

-- an area has too little room for the snapshot
abbrev pub IsTooLong : Header → ℕ → Stable → Type 0
IsTooLong h moment t = h.area < length (snapshot_of moment t) + 13
