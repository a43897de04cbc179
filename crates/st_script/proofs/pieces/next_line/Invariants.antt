use Rattle.std.proofs.Common.{◌≡◌, ◌-◌, ℕ, List, length}
use Rattle.std.specs.Prelude.{Some}
use Rattle.std.specs.Io.KnownBytes.{prepend_known}
use Rattle.st_script.proofs.pieces.next_line.Given as goal

abbrev pub invariant-pieces : goal.invariant-pieces
invariant-pieces g l = record {
  same : (bytes : List ℕ) → prepend_known l.fn.held.items (g.I.Source.left l.fn.input) ≡ Some bytes → prepend_known l.held.items (g.I.Source.left l.input) ≡ Some bytes;
  reads : g.I.Source.faults l.input ≡ g.I.Source.faults l.fn.input;
}

abbrev pub decreases-pieces : goal.decreases-pieces
decreases-pieces g l = 257 - length l.held.items
