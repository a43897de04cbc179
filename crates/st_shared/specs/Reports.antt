-- What a shared file ends as, once the bytes that a report lent are given back.
use Rattle.std.specs.Prelude.{◌≡◌, ℕ, Bool, ⊤}
use Rattle.std.specs.Borrow.{Fml, MutBor, follows_so}
use mathlib.Core.Option.{none}
use Rattle.st_shared.specs.Calls.{state_after}
use Rattle.st_shared.specs.History.{IsLedRightly}
use Rattle.st_shared.specs.Shared.{Shared, report}
use Rattle.st_shared.specs.contracts.file.SharedFile.{the_row}

-- the command is reported, if that is not refused, and calls lead to the state that this leaves
abbrev pub EndsReported : MutBor Shared → ℕ → Bool → Fml
EndsReported f n ok =
    follows_so the_row the_row f.ghost_name none (λ _ _. ⊤) (λ s. (s ≡ state_after f.now (report f.now n ok)) × IsLedRightly s)
