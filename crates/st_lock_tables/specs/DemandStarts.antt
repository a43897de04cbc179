-- Since when a row waits for an answer.
use Rattle.std.specs.Prelude.{◌≡◌, ℕ, ◌+◌, nat_le, Bool, true, false, not, ◌&&◌, ◌||◌, ◌==◌, List, find, Option, Some, None, ⊤}
use Rattle.std.specs.BTreeSet.{BTreeSet, contains}
use Rattle.st_tables.specs.Tables.{is_client}
use Rattle.st_rules.specs.Locks.{is_row_of}
use Rattle.std.specs.declared.cmp.Ordering.{Ordering}
use Rattle.std.specs.Ordering.{nat_cmp, ordering_then}
use Rattle.st_base.specs.declared.ids.ClientId.{ClientId}
use Rattle.st_base.specs.declared.ids.Stamp.{Stamp}
use Rattle.st_rules.specs.Keys.{same_client}
use Rattle.st_rules.specs.declared.locks.LockRow.{LockRow}
use Rattle.st_rules.specs.declared.locks.RowDemand.{RowDemand}

-- it waits since this moment
abbrev pub is_since : Stamp → Option Stamp → Bool
is_since s None = false
is_since s (Some t) = s.0 == t.0

-- since when a demand waits for its answer
abbrev pub since_of_demand : Option RowDemand → Option Stamp
since_of_demand None = None
since_of_demand (Some d) = d.since

-- since when the row found waits for an answer, if one was found and it does
abbrev pub since_of : Option LockRow → Option Stamp
since_of None = None
since_of (Some r) = since_of_demand r.demand

-- one moment, one file and one client
abbrev pub same_wait : Stamp × ℕ × ClientId → Stamp × ℕ × ClientId → Bool
same_wait a b = (a.0.0 == b.0.0) && (same_client a.2 b.2 && (a.1 == b.1))

-- waits in order: by the moment, then by the file, then by the client
abbrev pub wait_order : Stamp × ℕ × ClientId → Stamp × ℕ × ClientId → Ordering
wait_order a b = ordering_then (ordering_then (nat_cmp a.0.0 b.0.0) (nat_cmp a.1 b.1)) (nat_cmp a.2.0 b.2.0)

-- a client's number goes from 1 to 16
abbrev pub IsClient : ClientId → Type 0
IsClient c = is_client c.0 ≡ true

-- a demand that waits for an answer goes on waiting since the same moment
abbrev pub KeepsSince : Option Stamp → Option Stamp → Type 0
KeepsSince None new = ⊤
KeepsSince (Some since) new = new ≡ Some since

-- the set has each row's moment, file and client, if the row waits for an answer, and nothing else
abbrev pub AreListed : List LockRow → BTreeSet (Stamp × ℕ × ClientId) → Type 0
AreListed rows set = (s : Stamp) (i : ℕ) (c : ClientId) → contains wait_order set (s, i, c) ≡ is_since s (since_of (find (is_row_of c i) rows))

-- the set of waiting demands
abbrev pub Waits : Type 0
Waits = BTreeSet (Stamp × ℕ × ClientId)

-- the demand on this client and file, which waits since then
abbrev pub is_wait : Option Stamp → ℕ → ClientId → Stamp → ℕ → ClientId → Bool
is_wait since ino client s i c = is_since s since && (same_client c client && (i == ino))

-- one demand, if it waits, is no longer in the set
abbrev pub TakesOut : Option Stamp → ℕ → ClientId → Waits → Waits → Type 0
TakesOut since ino client old new =
    (s : Stamp) (i : ℕ) (c : ClientId) → contains wait_order new (s, i, c) ≡ contains wait_order old (s, i, c) && not (is_wait since ino client s i c)

-- one demand, if it waits, is in the set too
abbrev pub PutsIn : Option Stamp → ℕ → ClientId → Waits → Waits → Type 0
PutsIn since ino client old new =
    (s : Stamp) (i : ℕ) (c : ClientId) → contains wait_order new (s, i, c) ≡ contains wait_order old (s, i, c) || is_wait since ino client s i c

-- the set no longer has a demand on this client
abbrev pub Forgets : ClientId → Waits → Waits → Type 0
Forgets client old new =
    (s : Stamp) (i : ℕ) (c : ClientId) → contains wait_order new (s, i, c) ≡ contains wait_order old (s, i, c) && not (same_client c client)

-- a demand waits for that long or longer
abbrev pub is_late : ℕ → Stamp → Stamp × ℕ × ClientId → Bool
is_late wait now k = nat_le (k.0.0 + wait) now.0

-- a demand on the client waits for that long or longer
abbrev pub is_late_of : ℕ → Stamp → ℕ → Stamp × ℕ × ClientId → Bool
is_late_of wait now c k = is_late wait now k && (k.2.0 == c)
