-- What a drift has accepted, and what its numbers are.
use Rattle.std.specs.Prelude.{◌≡◌, ◌≤◌, ◌<◌, ◌+◌, ◌*◌, ◌^◌, ◌↔◌, ◌⊎◌, ℕ, List, [], ◌∷◌, ◌++◌, length, Result, Ok, Err, IsOk, IfErr, OnOk}
use Rattle.std.specs.List.{AllByRecursion}
use Rattle.st_base.specs.declared.config.Config.{Config}
use Rattle.st_rules.specs.declared.lease.Excess.{Excess}
use Rattle.st_rules.specs.Leases.{AllAccepted, AllFull, AllRated, AllRunning, IsInBound, drift_after, gain, no_drift}

-- without a grain, a run whose increments are all at least 1 is in bound exactly if each of its advances is
abbrev pub InBoundWhereRated : Type 0
InBoundWhereRated =
    (k : Config) (nodes : ℕ) (advances : List (List ℕ)) → k.grain ≡ 0 → AllFull nodes advances → AllRunning advances →
    IsInBound k nodes advances ↔ AllRated k advances

-- no number of a row is above 2^60, the most that den * grain can be
abbrev pub IsLow : List ℕ → Type 0
IsLow = AllByRecursion (λ e. e ≤ 2 ^ 60)

-- no number of any of these rows is above 2^60
abbrev pub AllLow : List (List ℕ) → Type 0
AllLow = AllByRecursion IsLow

-- each row has this many numbers
abbrev pub IsWide : ℕ → List (List ℕ) → Type 0
IsWide nodes = AllByRecursion (λ row. length row ≡ nodes)

-- settings with this rate and this grain
pub record HasRate (k : Config) (num den grain : ℕ) : Type 0 where
  pub has_num : k.num ≡ num
  pub has_den : k.den ≡ den
  pub has_grain : k.grain ≡ grain

-- what a step leaves, or the pair that it names
abbrev pub after_step : Result Unit Excess → List (List ℕ) → Result (List (List ℕ)) Excess
after_step (Ok u) drift = Ok drift
after_step (Err x) drift = Err x

-- the numbers after these advances, one after another
abbrev pub drift_over : Config → List (List ℕ) → List (List ℕ) → List (List ℕ)
drift_over k drift [] = drift
drift_over k drift (steps ∷ rest) = drift_over k (drift_after drift steps k.num k.den) rest

-- the numbers of this many nodes after these advances, all of which were accepted
pub record HasAccepted (k : Config) (nodes : ℕ) (advances drift : List (List ℕ)) : Type 0 where
  pub full : AllFull nodes advances
  pub accepted : AllAccepted k (no_drift nodes) advances
  pub numbers : drift ≡ drift_over k (no_drift nodes) advances

-- The number e of a pair: over no last advances did node m gain more than e above what node n gained, and over some it gained
-- exactly e more. Gains are scaled by den and num; over no advances the gain is 0.
pub record IsExcess (k : Config) (advances : List (List ℕ)) (m n e : ℕ) : Type 0 where
  pub most : (before during : List (List ℕ)) → advances ≡ before ++ during → k.den * gain m during ≤ k.num * gain n during + e
  pub before : List (List ℕ)
  pub during : List (List ℕ)
  pub split : advances ≡ before ++ during
  pub reached : e + k.num * gain n during ≡ k.den * gain m during

-- one pair comes before another: by the first node, and then by the second
abbrev pub Before : ℕ → ℕ → ℕ → ℕ → Type 0
Before m n p q = (m < p) ⊎ ((m ≡ p) × (n < q))

-- the first pair whose number is above den * grain after these advances, and that number
pub record IsFirstExcess (k : Config) (nodes : ℕ) (advances : List (List ℕ)) (x : Excess) : Type 0 where
  pub ahead : x.m < nodes
  pub behind : x.n < nodes
  pub exact : IsExcess k advances x.m x.n x.excess
  pub above : k.den * k.grain < x.excess
  pub first : (m n e : ℕ) → m < nodes → n < nodes → Before m n x.m x.n → IsExcess k advances m n e → e ≤ k.den * k.grain

-- what an answer says about the accepted advances and the last one: they are in bound over every interval, or the first pair is
-- named that ran apart too far, and how far
pub record IsVerdict (k : Config) (nodes : ℕ) (advances : List (List ℕ)) (result : Result Unit Excess) : Type 0 where
  pub in_bound : IsOk result ↔ IsInBound k nodes advances
  pub named : IfErr result (λ x. IsFirstExcess k nodes advances x)

-- under any settings with this rate and grain: after any advances that these numbers accepted, the answer is the verdict on
-- those advances and this one
abbrev pub Judges : (num den grain : ℕ) (drift : List (List ℕ)) (steps : List ℕ) (result : Result Unit Excess) → Type 0
Judges num den grain drift steps result =
    (k : Config) (advances : List (List ℕ)) →
    HasRate k num den grain → HasAccepted k (length drift) advances drift → IsVerdict k (length drift) (advances ++ steps ∷ []) result

-- under any settings with this rate and grain: at Ok the new numbers accepted what the old numbers accepted, and this advance
abbrev pub Accepts : (num den grain : ℕ) (old : List (List ℕ)) (steps : List ℕ) (result : Result Unit Excess) (new : List (List ℕ)) → Type 0
Accepts num den grain old steps result new =
    (k : Config) (advances : List (List ℕ)) →
    HasRate k num den grain → HasAccepted k (length old) advances old →
    OnOk result (HasAccepted k (length old) (advances ++ steps ∷ []) new)
