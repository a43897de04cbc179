use Rattle.std.proofs.Common.{◌≡◌, drop, length}
use Rattle.st_store.specs.InMemory.{filled}
use Rattle.st_store.specs.Invariants.{AreInside}
use Rattle.st_store.proofs.contents.fill_spans.Given as goal

abbrev pub invariant-loop-place : goal.invariant-loop-place
invariant-loop-place l = record {
  done : filled l.byte (drop l.place l.spans) l.bytes ≡ filled l.byte l.spans l.fn.bytes;
  inside : AreInside (length l.bytes) (drop l.place l.spans);
}
