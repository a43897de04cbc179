-- Pieces that are read one after another.
use Rattle.std.proofs.Common.{◌≢◌, ℕ, ◌≤◌, ◌<◌, List, ◌++◌, length, take, arith}
use Rattle.std.proofs.lemmas.List.{length-append, length-take-le}

-- a piece that has some bytes leaves no empty list
pub some_read : (read piece : List ℕ) (n : ℕ) → n ≤ length piece → n ≢ 0 → 0 < length (read ++ take n piece)
some_read read piece n within some = omega (arith, length-append read (take n piece), length-take-le n piece within, some)
