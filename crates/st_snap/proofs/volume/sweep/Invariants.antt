use Rattle.st_lemmas.proofs.Words
use Words.{◌≡◌, true}
use Rattle.st_snap.specs.declared.versions.VersionKey.{VersionKey}
use Rattle.st_snap.specs.Versions.{has_version, latest, version}
use Rattle.st_snap.specs.Volumes.{IsSeen, is_among, take_of}
use Rattle.st_snap.proofs.Sweeping.{IsBehind, IsThere, left_before}
use Rattle.st_snap.proofs.volume.sweep.Given as goal

abbrev pub invariant-versions : goal.invariant-versions
invariant-versions l = record {
  blocks : l.versions.blocks ≡ l.fn.versions.blocks;
  left : (k : VersionKey) → has_version l.versions k ≡ true → version l.versions k ≡ version l.fn.versions k;
  same : (view f p : _) → is_among l.kept view ≡ true → latest (has_version l.versions) f p (take_of l.next view) ≡ latest (has_version l.fn.versions) f p (take_of l.next view);
  done : (k : VersionKey) → has_version l.versions k ≡ true → IsBehind l.cursor k → IsSeen (record { versions = l.versions; kept = l.kept; next = l.next }) k;
  there : IsThere l.versions l.cursor;
}

abbrev pub decreases-versions : goal.decreases-versions
decreases-versions l = left_before l.cursor l.fn.versions.slots
