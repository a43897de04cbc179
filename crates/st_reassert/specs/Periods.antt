-- The grace that a period stands for.
use Rattle.std.specs.Prelude.{Option, Some, None}
use Rattle.st_rules.specs.Grace.{Grace}
use Rattle.st_reassert.specs.declared.grace.Period.{Period}

-- the grace of a period, or none
abbrev pub grace_of : Option Period → Option Grace
grace_of None = None
grace_of (Some p) = Some (record { start = p.start; wait = p.wait })
