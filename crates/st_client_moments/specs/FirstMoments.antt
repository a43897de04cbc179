-- The first moment of several spans, from a moment on, if a clock may read it.
use Rattle.std.specs.Prelude.{ℕ, List, Option}
use Rattle.st_base.specs.declared.ids.Stamp.{Stamp}
use Rattle.st_client_due.specs.Spans.{Span, first_of}
use Rattle.st_due.specs.Moments.{readable_by}

-- the first moment of several spans from a moment on, if a clock may read it
abbrev pub first_readable : Stamp → List Span → Option ℕ
first_readable from xs = readable_by (first_of from.0 xs)
