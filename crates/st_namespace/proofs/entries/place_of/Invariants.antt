use Rattle.std.proofs.Common.{◌≡◌, ◌≤◌, ◌<◌, ◌-◌, ℕ, true, false, get_or, length}
use Rattle.st_rules.specs.declared.names.NameEntry.{NameEntry}
use Rattle.st_namespace.specs.StoredEntries.{stands_before}
use Rattle.st_namespace.proofs.entries.place_of.Given as goal

abbrev pub invariant-halves : goal.invariant-halves
invariant-halves l = record {
  order : l.low ≤ l.high;
  within : l.high ≤ length l.sorted;
  before : (j : ℕ) (d : NameEntry) → j < l.low → stands_before l.dir l.name (get_or l.sorted j d) ≡ true;
  behind : (j : ℕ) (d : NameEntry) → l.high ≤ j → j < length l.sorted → stands_before l.dir l.name (get_or l.sorted j d) ≡ false;
}

abbrev pub decreases-halves : goal.decreases-halves
decreases-halves l = l.high - l.low
