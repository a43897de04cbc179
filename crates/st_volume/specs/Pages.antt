-- Pages: the log of entries, and what it makes of a page.
use Rattle.std.specs.Prelude.{ℕ, zero, suc, ◌+◌, ◌-◌, Bool, true, false, ◌&&◌, ◌||◌, not, ◌==◌}
use Rattle.std.specs.Prelude.{nat_lt, nat_le, if◌then◌else◌, List, [], ◌∷◌, length}
use Rattle.std.specs.Prelude.{slice_index, Option, Some, None}
use Rattle.st_base.specs.declared.ids.ClientId.{ClientId}
use Rattle.st_base.specs.declared.ids.FileId.{FileId}
use Rattle.st_base.specs.declared.ids.PageNo.{PageNo}
use Rattle.st_base.specs.Page.{filled}
use Rattle.st_messages.specs.declared.ask.Ask.{Ask}
use Rattle.st_messages.specs.declared.ask.Ask.TheVariants.{Write, Patch, Cut}
use Rattle.st_volume.specs.declared.step.Fate.{Fate}
use Rattle.st_volume.specs.declared.step.Fate.TheVariants.{Open, Dropped}

-- An entry of the log: its client; the write, patch or cut that it is; its fate; and since it
-- joined the log: whether its client crashed, the last command that carried it, or carried it
-- along, and was reported failed, or 0, and whether `hard` or `lost` told its client its fate.
pub record Entry : Type 0 where
  pub client : ClientId
  pub what : Ask
  pub fate : Fate
  pub crashed : Bool
  pub failed : ℕ
  pub told : Bool

abbrev pub same_file : FileId → FileId → Bool
same_file f g = (f.server.0 == g.server.0) && (f.ino == g.ino)

abbrev pub same_place : FileId × PageNo → FileId × PageNo → Bool
same_place x y = same_file x.0 y.0 && (x.1.0 == y.1.0)

abbrev pub is_open : Fate → Bool
is_open Open = true
is_open fate = false

abbrev pub is_dropped : Fate → Bool
is_dropped Dropped = true
is_dropped fate = false

-- the page that is written or patched
abbrev pub place_of : Ask → Option (FileId × PageNo)
place_of (Write f p bytes) = Some (f, p)
place_of (Patch f p at bytes) = Some (f, p)
place_of ask = None

-- there is one, and it passes the test
abbrev pub is_any : {A : Type 0} → (A → Bool) → Option A → Bool
is_any test None = false
is_any test (Some x) = test x

abbrev pub is_at : FileId × PageNo → Ask → Bool
is_at x what = is_any (same_place x) (place_of what)

abbrev pub is_on : FileId → Ask → Bool
is_on f what = is_any (λ x. same_file f x.0) (place_of what)

-- an entry touches the pages that it writes, patches or cuts
abbrev pub touches : FileId × PageNo → Ask → Bool
touches x (Cut f p) = same_file x.0 f && nat_le p.0 x.1.0
touches x what = is_at x what

-- Bytes: byte `i` of a page is the patch's if `at ≤ i < at + length`, and otherwise the old one. A write gives all bytes, and a cut zeros.
abbrev pub patched_byte : ℕ → ℕ → List ℕ → ℕ → ℕ
patched_byte i at bytes old =
    if nat_le at i && nat_lt i (at + length bytes) then slice_index bytes (i - at) else old

-- the bytes of a page from `i` on
unfoldable pub patched : ℕ → ℕ → List ℕ → List ℕ → List ℕ
patched i at bytes [] = []
patched i at bytes (old ∷ rest) = patched_byte i at bytes old ∷ patched (i + 1) at bytes rest

abbrev pub changed : Ask → List ℕ → List ℕ
changed (Write f p bytes) page = bytes
changed (Patch f p at bytes) page = patched 0 at bytes page
changed ask page = filled 0

-- a page after one more entry: one that was dropped changes nothing
abbrev pub after : FileId × PageNo → Entry → List ℕ → List ℕ
after x e page = if touches x e.what && not (is_dropped e.fate) then changed e.what page else page

unfoldable pub content_from : List ℕ → FileId × PageNo → List Entry → List ℕ
content_from page x [] = page
content_from page x (e ∷ es) = content_from (after x e page) x es

-- what a page contains now
abbrev pub content : List Entry → FileId × PageNo → List ℕ
content log x = content_from (filled 0) x log

-- Whose an entry is: all writes and patches of this client, of a file, or of a page.
abbrev pub is_by : ClientId → Entry → Bool
is_by c e = c.0 == e.client.0

abbrev pub is_by_on : ClientId → FileId → Entry → Bool
is_by_on c f e = is_by c e && is_on f e.what

abbrev pub is_by_at : ClientId → FileId × PageNo → Entry → Bool
is_by_at c x e = is_by c e && is_at x e.what

-- What is open of a file belongs to one client: nobody else reads, changes or cuts the file meanwhile.
abbrev pub is_clear : ClientId → FileId → Entry → Bool
is_clear c f e = is_by c e || not (is_on f e.what && is_open e.fate)

-- Why an entry is dropped: its client has crashed since, or the last write that carried it failed.
abbrev pub is_cause : Option ℕ → Entry → Bool
is_cause None e = e.crashed
is_cause (Some number) e = nat_lt 0 number && (e.failed == number)

-- A write that failed carried one entry, and along with it those before that are open.
abbrev pub failure_of : ClientId → ℕ → FileId × PageNo → Bool → Entry → Entry
failure_of c number x carried e =
    if is_by_at c x e && (carried || is_open e.fate) then record e { failed = number } else e

unfoldable pub failed_up_to : ℕ → ClientId → ℕ → FileId × PageNo → List Entry → List Entry
failed_up_to zero c number x es = es
failed_up_to (suc n) c number x [] = []
failed_up_to (suc n) c number x (e ∷ es) =
    failure_of c number x (n == 0) e ∷ failed_up_to n c number x es

-- it is hard; or was dropped, and its client told so; or its client has crashed since
abbrev pub is_settled : Entry → Bool
is_settled e = e.crashed || not (is_open e.fate || (is_dropped e.fate && not e.told))
