-- What the calls of a volume give, by the list of its changes.
use Rattle.std.specs.Prelude.{ℕ, ◌+◌, Bool, ◌&&◌, ◌==◌, nat_le, if◌then◌else◌, List, ◌∷◌, length, Result, Ok, Err, Option}
use Rattle.std.specs.List.{list_any}
use Rattle.std.specs.Option.{option_map}
use Rattle.st_snap.specs.declared.refusal.SnapRefusal.{SnapRefusal}
use Rattle.st_snap.specs.declared.refusal.SnapRefusal.TheVariants.{NoSpace, NoImage, TooMany}
use Rattle.st_snap.specs.Changes.{Change, Wrote, Took, Forgot, Write, images, is_view, page_of, shown, takes, takes_block}

-- no block is free for the write, and it takes one
abbrev pub is_full : ℕ → List Change → ℕ → ℕ → Bool
is_full blocks changes f p = takes_block changes f p && nat_le blocks (shown changes)

-- Write: refused if it takes a block and none is free
unfoldable pub write : ℕ → List Change → ℕ → ℕ → List ℕ → Result (Unit {0} × List Change) SnapRefusal
write blocks changes f p bytes = if is_full blocks changes f p then Err (NoSpace 0 1) else Ok (tt, Wrote f p bytes ∷ changes)

-- the bytes of a write
abbrev pub bytes_of : Write → List ℕ
bytes_of w = w.bytes

-- Read: nothing, if the page was never written; refused if the image was never taken or was forgotten
unfoldable pub read : List Change → ℕ → ℕ → ℕ → Result (Option (List ℕ)) SnapRefusal
read changes image f p = if is_view changes image then Ok (option_map bytes_of (page_of changes image f p)) else Err (NoImage image)

-- Take: the next number; refused if 64 images are kept
unfoldable pub take : List Change → Result (ℕ × List Change) SnapRefusal
take changes = if nat_le 64 (length (images changes)) then Err (TooMany 64) else Ok (takes changes + 1, Took ∷ changes)

-- Forget: refused if the image was never taken or was forgotten, and for the live one
unfoldable pub forget : List Change → ℕ → Result (Unit {0} × List Change) SnapRefusal
forget changes image = if list_any (λ other. image == other) (images changes) then Ok (tt, Forgot image ∷ changes) else Err (NoImage image)
