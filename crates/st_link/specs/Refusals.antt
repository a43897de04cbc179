-- A write that failed, or took nothing.
use Rattle.std.specs.Prelude.{◌≡◌, ℕ, ◌<◌, List, length, Result, Ok, Err}

-- the fact holds if a write returned an error, and if it took no byte of a piece that has some
abbrev pub OnRefusal : {E : Type 0} → Result ℕ E → List ℕ → Type 0 → Type 0
OnRefusal (Ok n) piece fact = n ≡ 0 → 0 < length piece → fact
OnRefusal (Err e) piece fact = fact
