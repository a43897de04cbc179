-- Clocks and leases: how far clocks may drift apart, how long a server waits before it steals, and the phases of a lease.
use Rattle.std.specs.Prelude.{◌≡◌, ℕ, ◌+◌, ◌-◌, ◌*◌, ◌≤◌, ◌<◌, min, max, Bool, true, ◌&&◌, ◌||◌, nat_lt, nat_le, if◌then◌else◌, List, [], ◌∷◌, ◌++◌, length, fold, sum_by, slice_index, replicate, Option, Some, None, Result, Ok, Err, ⊤}
use Rattle.std.specs.List.{list_all}
use Rattle.std.specs.Int.{div_ceil}
use Rattle.st_base.specs.declared.ids.Stamp.{Stamp}
use Rattle.st_base.specs.declared.config.Config.{Config}
use Rattle.st_rules.specs.declared.lease.Phase.{Phase}
use Rattle.st_rules.specs.declared.lease.Phase.TheVariants.{Valid, Renewal, Quiesce, Flush, Expired}
use Rattle.st_rules.specs.declared.lease.Excess.{Excess}

-- Elapsed time: what a clock gained between two readings.
abbrev pub elapsed : Stamp → Stamp → ℕ
elapsed from now = now.0 - from.0

-- The steal wait: the least w with w * den ≥ lease * num + den * grain.
unfoldable pub steal_wait : Config → ℕ
steal_wait k = div_ceil (k.lease * k.num + k.den * k.grain) k.den

-- what a steal wait is
pub record IsStealWait (k : Config) (w : ℕ) : Type 0 where
  pub enough : k.lease * k.num + k.den * k.grain ≤ w * k.den
  pub least : (v : ℕ) → k.lease * k.num + k.den * k.grain ≤ v * k.den → w ≤ v

-- An advance in bound: every increment is at least 1, and den * greatest ≤ num * least.
abbrev pub greatest_of : List ℕ → ℕ
greatest_of [] = 0
greatest_of (x ∷ xs) = fold max x xs

-- the least increment
abbrev pub least_of : List ℕ → ℕ
least_of [] = 0
least_of (x ∷ xs) = fold min x xs

-- the increments of one advance are in bound
abbrev pub rate_ok : List ℕ → ℕ → ℕ → Bool
rate_ok steps num den = list_all (nat_le 1) steps && nat_le (den * greatest_of steps) (num * least_of steps)

-- A run in bound: over every interval of its advances den * D(m) ≤ num * D(n) + den * grain for all nodes m and n, where
-- D is the sum of a node's increments. Nodes go by their places in an advance.
abbrev pub gain : ℕ → List (List ℕ) → ℕ
gain node advances = sum_by (λ steps. slice_index steps node) advances

-- the advances of a run are in bound
pub record IsInBound (k : Config) (nodes : ℕ) (advances : List (List ℕ)) : Type 0 where
  pub over : (before during after : List (List ℕ)) → advances ≡ before ++ (during ++ after) → (m n : ℕ) → m < nodes → n < nodes →
      k.den * gain m during ≤ k.num * gain n during + k.den * k.grain

-- Drift: for each pair of nodes one number, the greatest value of den * D(m) - num * D(n) over all intervals of advances that end with the last one, or 0. The
-- numbers of a node m are in one row, by n.
abbrev pub raised : ℕ → ℕ → ℕ → ℕ → ℕ → ℕ
raised num den e sm sn = (e + den * sm) - num * sn

-- one node's numbers after one more advance, by the others
unfoldable pub raise_row : ℕ → ℕ → ℕ → List ℕ → List ℕ → List ℕ
raise_row num den sm [] es = []
raise_row num den sm (sn ∷ ss) [] = []
raise_row num den sm (sn ∷ ss) (e ∷ es) = raised num den e sm sn ∷ raise_row num den sm ss es

-- all nodes' numbers after one more advance
unfoldable pub raise_rows : ℕ → ℕ → List ℕ → List ℕ → List (List ℕ) → List (List ℕ)
raise_rows num den steps [] rows = []
raise_rows num den steps (sm ∷ ss) [] = []
raise_rows num den steps (sm ∷ ss) (row ∷ rows) = raise_row num den sm steps row ∷ raise_rows num den steps ss rows

-- the numbers of all pairs after one more advance
unfoldable pub drift_after : List (List ℕ) → List ℕ → ℕ → ℕ → List (List ℕ)
drift_after drift steps num den = raise_rows num den steps steps drift

-- the numbers before the first advance
unfoldable pub no_drift : ℕ → List (List ℕ)
no_drift nodes = replicate nodes (replicate nodes 0)

-- the pair that is named, and its number
unfoldable pub excess_of : ℕ → ℕ → ℕ → Option Excess
excess_of m n e = Some (record { m = m; n = n; excess = e })

-- the first pair by m and then n whose number is above the limit
unfoldable pub excess_at : ℕ → ℕ → ℕ → ℕ → Option Excess → Option Excess
excess_at limit m n e rest = if nat_lt limit e then excess_of m n e else rest

-- the first number of a row that is above the limit
unfoldable pub excess_in_row : ℕ → ℕ → ℕ → List ℕ → Option Excess
excess_in_row limit m n [] = None
excess_in_row limit m n (e ∷ es) = excess_at limit m n e (excess_in_row limit m (n + 1) es)

-- the first of two, if there is one
unfoldable pub excess_or : Option Excess → Option Excess → Option Excess
excess_or None rest = rest
excess_or (Some x) rest = Some x

-- the first number above the limit, from a row on
unfoldable pub excess_from : ℕ → ℕ → List (List ℕ) → Option Excess
excess_from limit m [] = None
excess_from limit m (row ∷ rows) = excess_or (excess_in_row limit m 0 row) (excess_from limit (m + 1) rows)

-- the first pair that is above den * grain
unfoldable pub first_excess : List (List ℕ) → ℕ → ℕ → Option Excess
first_excess drift den grain = excess_from (den * grain) 0 drift

-- an advance that is too much leaves the numbers as they were
unfoldable pub drift_judged : List (List ℕ) → Option Excess → Result (List (List ℕ)) Excess
drift_judged drift None = Ok drift
drift_judged drift (Some x) = Err x

-- Drift after an advance, or the pair that ran apart too far
unfoldable pub drift_step : List (List ℕ) → List ℕ → ℕ → ℕ → ℕ → Result (List (List ℕ)) Excess
drift_step drift steps num den grain = drift_judged (drift_after drift steps num den) (first_excess (drift_after drift steps num den) den grain)

-- every advance was accepted, from these numbers on
abbrev pub AllAccepted : Config → List (List ℕ) → List (List ℕ) → Type 0
AllAccepted k drift [] = ⊤
AllAccepted k drift (steps ∷ rest) =
    (drift_step drift steps k.num k.den k.grain ≡ Ok (drift_after drift steps k.num k.den)) × AllAccepted k (drift_after drift steps k.num k.den) rest

-- every advance has one increment per node
abbrev pub AllFull : ℕ → List (List ℕ) → Type 0
AllFull nodes [] = ⊤
AllFull nodes (steps ∷ rest) = (length steps ≡ nodes) × AllFull nodes rest

-- a run whose advances are all accepted is in bound
abbrev pub AcceptedIsInBound : Type 0
AcceptedIsInBound =
    (k : Config) (nodes : ℕ) (advances : List (List ℕ)) → AllFull nodes advances → AllAccepted k (no_drift nodes) advances → IsInBound k nodes advances

-- all advances of a run in bound are accepted
abbrev pub InBoundIsAccepted : Type 0
InBoundIsAccepted =
    (k : Config) (nodes : ℕ) (advances : List (List ℕ)) → AllFull nodes advances → IsInBound k nodes advances → AllAccepted k (no_drift nodes) advances

-- each advance of a run is in bound
abbrev pub AllRated : Config → List (List ℕ) → Type 0
AllRated k [] = ⊤
AllRated k (steps ∷ rest) = (rate_ok steps k.num k.den ≡ true) × AllRated k rest

-- a run whose advances are each in bound is in bound
abbrev pub RatedIsInBound : Type 0
RatedIsInBound = (k : Config) (nodes : ℕ) (advances : List (List ℕ)) → AllFull nodes advances → AllRated k advances → IsInBound k nodes advances

-- every increment is at least 1
abbrev pub AllRunning : List (List ℕ) → Type 0
AllRunning [] = ⊤
AllRunning (steps ∷ rest) = (list_all (nat_le 1) steps ≡ true) × AllRunning rest

-- without a grain, a run in bound whose increments are all at least 1 has each of its advances in bound
abbrev pub InBoundIsRated : Type 0
InBoundIsRated =
    (k : Config) (nodes : ℕ) (advances : List (List ℕ)) → k.grain ≡ 0 → AllFull nodes advances → AllRunning advances →
    IsInBound k nodes advances → AllRated k advances

-- The phase of a lease: by the age of its date, and whether it was condemned.
unfoldable pub phase_young : Config → Stamp → Stamp → Phase
phase_young k date now = if nat_le (date.0 + k.renew) now.0 then Renewal else Valid

-- before flush
unfoldable pub phase_serving : Config → Stamp → Bool → Stamp → Phase
phase_serving k date condemned now = if nat_le (date.0 + k.quiesce) now.0 || condemned then Quiesce else phase_young k date now

-- before the end
unfoldable pub phase_living : Config → Stamp → Bool → Stamp → Phase
phase_living k date condemned now = if nat_le (date.0 + k.flush) now.0 then Flush else phase_serving k date condemned now

-- the phase of a lease at a moment
unfoldable pub phase : Config → Stamp → Bool → Stamp → Phase
phase k date condemned now = if nat_le (date.0 + k.lease) now.0 then Expired else phase_living k date condemned now

-- The lease end: a lease is over from here on.
abbrev pub lease_end : Config → Stamp → Stamp
lease_end k date = record { 0 = date.0 + k.lease }

-- opens all of this file
unfoldable pub leases_open : ⊤
unfolding steal_wait raise_row raise_rows drift_after no_drift excess_of excess_at excess_in_row excess_or excess_from first_excess drift_judged drift_step phase_young phase_serving phase_living phase
leases_open = tt
