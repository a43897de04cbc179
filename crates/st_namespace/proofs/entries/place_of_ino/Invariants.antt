use Rattle.std.proofs.Common.{◌≤◌, ◌<◌, ◌-◌, ℕ, get_or, length}
use Rattle.st_namespace.specs.declared.entries.Inode.{Inode}
use Rattle.st_namespace.proofs.entries.place_of_ino.Given as goal

abbrev pub invariant-halves : goal.invariant-halves
invariant-halves l = record {
  order : l.low ≤ l.high;
  within : l.high ≤ length l.inodes;
  below : (j : ℕ) (d : Inode) → j < l.low → (get_or l.inodes j d).ino < l.ino;
  above : (j : ℕ) (d : Inode) → l.high ≤ j → j < length l.inodes → l.ino ≤ (get_or l.inodes j d).ino;
}

abbrev pub decreases-halves : goal.decreases-halves
decreases-halves l = l.high - l.low
