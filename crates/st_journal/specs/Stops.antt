-- What becomes of an append in which a store in memory stops.
use Rattle.std.specs.Prelude.{◌≡◌, ◌⊎◌, ℕ, Bool, true, false, ◌&&◌, ◌==◌, if◌then◌else◌, nat_le, List, [], ◌∷◌, ◌++◌, Some, Result, Ok, Err}
use Rattle.st_store.specs.InMemory.{InMemory, held}
use Rattle.st_journal.specs.Journal.{IsJournal}
use Rattle.st_journal.specs.declared.change.Change.{Change}
use Rattle.st_journal.specs.declared.fault.JournalFault.{JournalFault}
use Rattle.st_journal.specs.declared.fault.JournalFault.TheVariants.{Store}
use Rattle.st_store.specs.declared.plan.Plan.{Plan}

-- no call fails but that of a stop, which comes in this call, counting the next one as 1, and leaves this byte
pub record IsArmed (p : Plan) (call byte : ℕ) : Type 0 where
  pub none : p.failing.items ≡ []
  pub runs : p.stopped ≡ false
  pub set : p.stop ≡ Some (record { left = call; byte = byte })

-- an append has four calls: in the third the gate is written, and a stop leaves its byte there
abbrev pub is_kept : ℕ → ℕ → Bool
is_kept call byte = nat_le 3 call && byte == 1

-- the changes that are read after a stop
abbrev pub after_stop : ℕ → ℕ → Change → List Change → List Change
after_stop call byte x acked = if is_kept call byte then acked ++ x ∷ [] else acked

-- The append answers that the store failed. The journal has the change if the stop left an open gate, and otherwise as before; or the store found no memory
-- for its record.
abbrev pub EndsAtStop : InMemory → List Change → Change → ℕ → ℕ → Result Unit JournalFault → Type 0
EndsAtStop store acked x call byte (Ok done) = ⊥
EndsAtStop store acked x call byte (Err Store) = (store.starved ≡ true) ⊎ IsJournal (held store.contents).seen (after_stop call byte x acked)
EndsAtStop store acked x call byte (Err f) = Unit {0}
