-- How a list of updates is kept: in chunks, and after them the rest.
use Rattle.std.specs.Prelude.{ℕ, Bool, List, [], ◌==◌, length, flat_map}
use Rattle.st_move.specs.declared.chunks.Chunks.{Chunks}
use Rattle.st_move.specs.declared.chunks.Chunks.TheVariants.{Empty, Shared}

-- the chunks
abbrev pub chunks_of : Chunks → List (List (List ℕ))
chunks_of Empty = []
chunks_of (Shared chunks) = chunks.value.items

-- a chunk has 32 updates
abbrev pub is_chunk : List (List ℕ) → Bool
is_chunk c = length c == 32

-- the updates in chunks
abbrev pub in_chunks : List (List (List ℕ)) → List (List ℕ)
in_chunks cs = flat_map (λ c. c) cs
