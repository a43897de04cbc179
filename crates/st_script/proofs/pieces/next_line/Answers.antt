use Rattle.std.proofs.Common.{◌∙◌, rules}
use Rattle.st_script.proofs.SourceLines.{found_fault, found_last, found_line, found_long, none_taken, piece_taken}
use Rattle.st_script.proofs.pieces.next_line.Goals as goal

pub returns-in-Some-clause-found : goal.returns-in-Some-clause-found
returns-in-Some-clause-found g c = λ bytes known.
    let first = rw c.as_slice.ensures.value at c.in-Some.ensures in
    found_line bytes c.pieces.held.items (g.I.Source.left c.pieces.input) c.in-Some.at (c.pieces.invariant.same bytes known) first.0 first.1 first.2

pub returns-then-len-gt-LONGEST_LINE-clause-found : goal.returns-then-len-gt-LONGEST_LINE-clause-found
returns-then-len-gt-LONGEST_LINE-clause-found g c = λ bytes known.
    let none = rw c.as_slice.ensures.value at c.in_default.ensures in
    found_long bytes c.pieces.held.items (g.I.Source.left c.pieces.input) (c.pieces.invariant.same bytes known) none (search rules)

pub returns-in-Err-clause-found : goal.returns-in-Err-clause-found
returns-in-Err-clause-found g c = λ bytes known.
    found_fault c.in-Err.stop bytes c.take_piece.new.held.items (g.I.Source.left c.take_piece.new.input) c.in-Err.ensures.fault

pub returns-then-n-eq0-clause-found : goal.returns-then-n-eq0-clause-found
returns-then-n-eq0-clause-found g c = λ bytes known.
    let before = g.I.Source.left c.pieces.input in
    let now = g.I.Source.left c.take_piece.new.input in
    let none = rw c.as_slice.ensures.value at c.in_default.ensures in
    let some = rw c.as_slice-then-n-eq0.ensures.value at c.last_line.ensures.some in
    let nothing = rw c.as_slice-then-n-eq0.ensures.value at c.last_line.ensures.none in
    found_last c.last_line.result bytes c.take_piece.new.held.items now
    (piece_taken before now c.pieces.held.items c.take_piece.new.held.items c.in-Ok.n bytes c.in-Ok.ensures.piece (c.pieces.invariant.same bytes known))
    (c.in-Ok.ensures.piece.ended c.if-n-eq0.true)
    (none_taken before now c.pieces.held.items c.take_piece.new.held.items c.in-Ok.n c.in-Ok.ensures.piece c.if-n-eq0.true none) some nothing

pub pieces-preserved : goal.pieces-preserved
pieces-preserved g c = record {
  same = λ bytes known.
      piece_taken (g.I.Source.left c.pieces.input) (g.I.Source.left c.take_piece.new.input) c.pieces.held.items c.take_piece.new.held.items c.in-Ok.n bytes c.in-Ok.ensures.piece
      (c.pieces.invariant.same bytes known);
  reads = c.in-Ok.ensures.causes ∙ c.pieces.invariant.reads;
}
