-- Clocks: the future readings, if a clock knows them.
use Rattle.std.specs.Prelude.{◌≡◌, ◌≤◌, ◌^◌, ℕ, List, [], ◌∷◌, slice_get, Some, None}
use Rattle.std.specs.declared.option.Option.{Option}
use Rattle.st_base.specs.declared.ids.Stamp.{Stamp}

-- the readings to come after the next one: the last one stays
abbrev pub after : List Stamp → List Stamp
after [] = []
after (x ∷ []) = x ∷ []
after (x ∷ (y ∷ rest)) = y ∷ rest

-- the reading was the first of those to come, if the clock tells them
abbrev pub Tells : Option (List Stamp) → Option (List Stamp) → Stamp → Type 0
Tells None new reading = new ≡ None
Tells (Some rs) new reading = (slice_get rs 0 ≡ Some reading) × (new ≡ Some (after rs))

-- readings from this one on never fall, and none is above 2^62
abbrev pub Rise : ℕ → List Stamp → Type 0
Rise least [] = Unit {0}
Rise least (x ∷ rest) = (least ≤ x.0) × ((x.0 ≤ 2 ^ 62) × Rise x.0 rest)

-- a reading is not below the greatest so far, which it now is, and is at most 2^62
pub record IsReading (before now : ℕ) (reading : Stamp) : Type 0 where
  pub later : before ≤ reading.0
  pub latest : now ≡ reading.0
  pub most : reading.0 ≤ 2 ^ 62

-- a clock in memory: its last reading, and those to come
pub record MemoryClock : Type 0 where
  pub latest : ℕ
  pub readings : List Stamp
