-- What the calls of a store do to its bytes, and which bytes a crash may leave.
use Rattle.std.specs.Prelude.{◌≡◌, ◌⊎◌, ℕ, zero, suc, ◌+◌, ◌≤◌, Bool, false, ◌&&◌, nat_le, nat_lt, List, [], ◌∷◌, length, get_or, Result, Ok, Err}
use Rattle.st_link.specs.declared.link.Failed.{Failed}

-- the list with these bytes from a place on, over what was there; its length stays
abbrev pub written : List ℕ → ℕ → List ℕ → List ℕ
written [] at new = []
written (b ∷ old) zero [] = b ∷ old
written (b ∷ old) zero (n ∷ new) = n ∷ written old zero new
written (b ∷ old) (suc at) new = b ∷ written old at new

-- the index is in the range of that many bytes from a place on
abbrev pub is_within : ℕ → ℕ → ℕ → Bool
is_within at count i = nat_le at i && nat_lt i (at + count)

-- any bytes in a range, and all others as they were
pub record Torn (at count : ℕ) (old new : List ℕ) : Type 0 where
  pub size : length new ≡ length old
  pub others : (i : ℕ) → is_within at count i ≡ false → get_or new i 0 ≡ get_or old i 0

-- what a crash may leave now is what it might have left before, after this step
abbrev pub Follows : (List ℕ → List ℕ → Type 0) → (List ℕ → Type 0) → (List ℕ → Type 0) → Type 0
Follows step old new = (c : List ℕ) → new c → (d : List ℕ) × old d × step d c

-- what a crash may leave now it might have left before
abbrev pub IsWithin : (List ℕ → Type 0) → (List ℕ → Type 0) → Type 0
IsWithin old new = (c : List ℕ) → new c → old c

-- a crash leaves these bytes and no others
abbrev pub Only : List ℕ → (List ℕ → Type 0) → Type 0
Only bytes may_leave = (c : List ℕ) → may_leave c → c ≡ bytes

-- Time goes on in a call: what a crash at a moment since t might have left is what it might have left before the call, or
-- what it may leave now.
pub record Elapses (before now : ℕ) (past since : ℕ → List ℕ → Type 0) (may_leave : List ℕ → Type 0) : Type 0 where
  pub later : before ≤ now
  pub nothing_else : (t : ℕ) (c : List ℕ) → t ≤ before → since t c → past t c ⊎ may_leave c
  pub keeps : (t : ℕ) (c : List ℕ) → t ≤ before → past t c → since t c

-- A crash at any moment since the store was old leaves bytes that have P.
pub record LeavesOnly {D : Type 0} (moment : D → ℕ) (left_since : D → ℕ → List ℕ → Type 0) (old new : D) (P : List ℕ → Type 0) : Type 0 where
  pub later : moment old ≤ moment new
  pub each : (c : List ℕ) → left_since new (moment old) c → P c
  -- for a run that began earlier
  pub before : (t : ℕ) (c : List ℕ) → t ≤ moment old → left_since new t c → left_since old t c ⊎ P c

-- calls that wrote nothing: a crash at any moment since leaves what it might have left before
pub record Rests {D : Type 0} (keeps : D → D → Type 0) (may_leave : D → List ℕ → Type 0) (moment : D → ℕ) (left_since : D → ℕ → List ℕ → Type 0) (old new : D) : Type 0 where
  pub any_moment : LeavesOnly moment left_since old new (may_leave old)
  pub crash : IsWithin (may_leave old) (may_leave new)
  pub kept : keeps old new

-- a step of a store, with what it answered
abbrev pub Step : Type 0 → Type 1
Step D = D → Result Unit Failed → D → Type 0

-- one step went well and the next one answered so; or the first one failed, and that was all
abbrev pub Then : {D : Type 0} → Step D → Step D → Step D
Then {D = D} first next old result new = ((mid : D) × first old (Ok tt) mid × next mid result new) ⊎ ((f : Failed) × (result ≡ Err f) × first old (Err f) new)
