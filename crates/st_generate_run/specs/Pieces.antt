-- A text that is written in pieces.
use Rattle.std.specs.Prelude.{◌≡◌, ℕ, List, ◌++◌, Option, Result, Ok, Err}
use Rattle.std.specs.Io.KnownBytes.{Appends}
use Rattle.st_link.specs.Causes.{Rose}
use Rattle.st_generate_run.specs.declared.fault.WorkFault.{WorkFault}
use Rattle.st_generate_run.specs.declared.fault.WorkFault.TheVariants as faults

-- the front of a text was written, and this is what is left of it
pub record Writes (before now : Option (List ℕ)) (text rest : List ℕ) : Type 0 where
  pub written : List ℕ
  pub wrote : Appends before now written
  pub whole : written ++ rest ≡ text

-- the count of the sink's faults rose if a write failed, and stayed otherwise
abbrev pub HasCauses : {T : Type 0} → Result T WorkFault → ℕ → ℕ → Type 0
HasCauses (Ok r) before now = now ≡ before
HasCauses (Err faults.Write) before now = Rose before now
HasCauses (Err faults.Memory) before now = now ≡ before
