-- What a crash leaves while a change is appended, over plain byte lists, and which calls of a store append it.
use Rattle.std.specs.Prelude.{◌⊎◌, ℕ, ◌+◌, List, [], ◌∷◌, length, Result}
use Rattle.st_link.specs.declared.link.Failed.{Failed}
use Rattle.st_store.specs.Store.{Step, Then, Torn, written}

-- the bytes with a record after the gate at this place, and with the gate open
abbrev pub with_record : List ℕ → ℕ → List ℕ → List ℕ
with_record bytes gate new = written bytes (gate + 1) new

abbrev pub with_open_gate : List ℕ → ℕ → List ℕ → List ℕ
with_open_gate bytes gate new = written (with_record bytes gate new) gate (1 ∷ [])

-- a crash while the record is written, or while the gate is
abbrev pub IsTornAppend : List ℕ → ℕ → List ℕ → List ℕ → Type 0
IsTornAppend bytes gate new c = Torn (gate + 1) (length new) bytes c ⊎ Torn gate 1 (with_record bytes gate new) c

-- a write of these bytes, and a sync
abbrev pub WritesSynced : {D : Type 0} → (D → ℕ → List ℕ → Result Unit Failed → D → Type 0) → Step D → ℕ → List ℕ → Step D
WritesSynced writes syncs at new = Then (λ old result mid. writes old at new result mid) syncs

-- a record after the gate, and then the open gate
abbrev pub Puts : {D : Type 0} → (D → ℕ → List ℕ → Result Unit Failed → D → Type 0) → Step D → ℕ → List ℕ → Step D
Puts writes syncs gate new = Then (WritesSynced writes syncs (gate + 1) new) (WritesSynced writes syncs gate (1 ∷ []))
