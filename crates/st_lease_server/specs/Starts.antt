-- The timers by their starts.
use Rattle.std.specs.Prelude.{◌≡◌, ℕ, ◌+◌, Bool, nat_le, List}
use Rattle.std.specs.BTreeSet.{BTreeSet, contains}
use Rattle.std.specs.List.{list_any}
use Rattle.std.specs.declared.cmp.Ordering.{Ordering}
use Rattle.std.specs.Ordering.{is_eq, nat_cmp, ordering_then}
use Rattle.st_base.specs.declared.ids.ClientId.{ClientId}
use Rattle.st_base.specs.declared.ids.Stamp.{Stamp}
use Rattle.st_rules.specs.declared.authority.Suspect.{Suspect}

-- starts in order: by the moment, then by the client
abbrev pub start_order : Stamp × ClientId → Stamp × ClientId → Ordering
start_order a b = ordering_then (nat_cmp a.0.0 b.0.0) (nat_cmp a.1.0 b.1.0)

-- the start of a timer, with its client
abbrev pub start_of : Suspect → Stamp × ClientId
start_of t = (t.start, t.client)

-- the timer began so
abbrev pub began : Stamp × ClientId → Suspect → Bool
began k t = is_eq (start_order k (start_of t))

-- the set has each timer's start and client, and nothing else
abbrev pub AreStarts : List Suspect → BTreeSet (Stamp × ClientId) → Type 0
AreStarts timers starts = (k : Stamp × ClientId) → contains start_order starts k ≡ list_any (began k) timers

-- a timer that began so is over
abbrev pub is_past : ℕ → Stamp → Stamp × ClientId → Bool
is_past wait now k = nat_le (k.0.0 + wait) now.0
