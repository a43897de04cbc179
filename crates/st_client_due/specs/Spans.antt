-- Spans of moments, and the first moment of several spans from a moment on.
use Rattle.std.specs.Prelude.{ℕ, Bool, true, ◌&&◌, if◌then◌else◌, max, nat_le, nat_lt, List, [], ◌∷◌, filter_map, Option, Some, None}
use Rattle.st_due.specs.Moments.{earliest}

-- A span: the moments from its start on, before its end if it has one.
pub record Span : Type 0 where
  pub start : ℕ
  pub end : Option ℕ

-- all moments from this one on
abbrev pub from_on : ℕ → Span
from_on m = record { start = m; end = None }

-- all moments before this one
abbrev pub until : ℕ → Span
until m = record { start = 0; end = Some m }

-- a moment is before the end
abbrev pub is_before : Option ℕ → ℕ → Bool
is_before None m = true
is_before (Some end) m = nat_lt m end

-- a moment is within a span
abbrev pub is_within : ℕ → Span → Bool
is_within m x = nat_le x.start m && is_before x.end m

-- the span, if this is so
abbrev pub if_so : Bool → Span → List Span
if_so b x = if b then x ∷ [] else []

-- this moment, if it is within the span
abbrev pub if_within : Span → ℕ → Option ℕ
if_within x m = if is_within m x then Some m else None

-- the first moment of a span from a moment on
abbrev pub first_in : ℕ → Span → Option ℕ
first_in from x = if_within x (max from x.start)

-- the first moment of several spans from a moment on
abbrev pub first_of : ℕ → List Span → Option ℕ
first_of from xs = earliest (filter_map (first_in from) xs)
