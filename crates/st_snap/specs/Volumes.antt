-- What a volume keeps, and when it stands for a list of changes.
use Rattle.std.specs.Prelude.{ℕ, zero, suc, ◌≡◌, ◌≤◌, ◌<◌, ◌+◌, ◌^◌, ◌==◌, Bool, true, false, cond, List, [], ◌∷◌, length, find, is_some, unwrap_or, nat_lt, Option, Some, None, Result, Ok, Err, ⊤}
use Rattle.std.specs.List.{AllByRecursion, list_any}
use Rattle.std.specs.Option.{option_map}
use Rattle.st_snap.specs.declared.refusal.SnapRefusal.{SnapRefusal}
use Rattle.st_snap.specs.declared.refusal.SnapRefusal.TheVariants as refusals
use Rattle.st_snap.specs.declared.versions.VersionKey.{VersionKey}
use Rattle.st_snap.specs.Changes.{Change, Write, images, page_of, takes}
use Rattle.st_snap.specs.Versions.{Versions, has_version, key_of, latest, same_key, version}

-- the versions of pages, the kept images, and the number that the next image gets
pub record Volume : Type 0 where
  pub versions : Versions
  pub kept : List ℕ
  pub next : ℕ

-- numbers in rising order
abbrev pub AreRising : List ℕ → Type 0
AreRising [] = ⊤
AreRising (n ∷ ns) = AllByRecursion (λ m. n < m) ns × AreRising ns

-- the number is that of an image that was taken
pub record IsTaken (next image : ℕ) : Type 0 where
  pub some : 1 ≤ image
  pub below : image < next

-- the kept images are in order and were taken, and each version began before the next take
pub record IsHeld (h : Volume) : Type 0 where
  pub rising : AreRising h.kept
  pub taken : AllByRecursion (IsTaken h.next) h.kept
  pub few : length h.kept ≤ 64
  pub some : 1 ≤ h.next
  pub fits : h.next < 2 ^ 32
  pub begun : (k : VersionKey) → has_version h.versions k ≡ true → k.takes < h.next

-- the take that a view is before: an image's own, and the next one for the live pages
abbrev pub take_of : ℕ → ℕ → ℕ
take_of next zero = next
take_of next (suc image) = suc image

-- there is this image, or it is the live one
abbrev pub is_among : List ℕ → ℕ → Bool
is_among kept image = list_any (λ view. image == view) (0 ∷ kept)

-- if there is one, the take that a view is before
abbrev pub IsTakeOf : Volume → ℕ → Option ℕ → Type 0
IsTakeOf h image None = is_among h.kept image ≡ false
IsTakeOf h image (Some t) = (is_among h.kept image ≡ true) × (t ≡ take_of h.next image)

-- the last version of a page that began before the take of a view
abbrev pub seen : Volume → ℕ → ℕ → ℕ → Option ℕ
seen h image f p = latest (has_version h.versions) f p (take_of h.next image)

-- a write, by its number and bytes
abbrev pub numbered : ℕ → List ℕ → Write
numbered number bytes = record { number = number; bytes = bytes }

-- the write of a version, whose number follows from the page and the number of takes
abbrev pub write_of : (ℕ → ℕ → ℕ → ℕ) → Versions → ℕ → ℕ → Option ℕ → Option Write
write_of number v f p None = None
write_of number v f p (Some t) = option_map (numbered (number f p t)) (version v (key_of f p t))

-- a view in which a version is seen
pub record IsSeen (h : Volume) (k : VersionKey) : Type 0 where
  pub view : ℕ
  pub among : is_among h.kept view ≡ true
  pub found : seen h view k.file k.page ≡ Some k.takes

-- A volume of that many blocks stands for a list of changes: the kept images are those of the list; each page in each view is the write that the list gives;
-- each version is seen in a view; and later versions of a page are later writes.
pub record IsAfter (blocks : ℕ) (changes : List Change) (h : Volume) : Type 0 where
  pub size : h.versions.blocks ≡ blocks
  pub kept : h.kept ≡ images changes
  pub next : h.next ≡ takes changes + 1
  pub number : ℕ → ℕ → ℕ → ℕ
  pub pages : (view f p : ℕ) → is_among h.kept view ≡ true → page_of changes view f p ≡ write_of number h.versions f p (seen h view f p)
  pub each : (k : VersionKey) → has_version h.versions k ≡ true → IsSeen h k
  pub rises : (f p s t : ℕ) → s < t → has_version h.versions (key_of f p s) ≡ true → has_version h.versions (key_of f p t) ≡ true → number f p s < number f p t

-- What a call answers and leaves: what the definition gives. If it is refused nothing is changed; if memory runs out nothing is promised.
abbrev pub Ends : {T : Type 0} → ℕ → Volume → Volume → Result T SnapRefusal → Result (T × List Change) SnapRefusal → Type 0
Ends blocks old new (Ok x) rule = (changes : List Change) × ((rule ≡ Ok (x, changes)) × IsAfter blocks changes new)
Ends blocks old new (Err refusals.Memory) rule = ⊤
Ends blocks old new (Err e) rule = (rule ≡ Err e) × (new ≡ old)

-- the versions that are seen in a view are those that there were, and each that is left is seen
pub record IsSwept (old new : Versions) (kept : List ℕ) (next : ℕ) : Type 0 where
  pub blocks : new.blocks ≡ old.blocks
  pub left : (k : VersionKey) → has_version new k ≡ true → version new k ≡ version old k
  pub same : (view f p : ℕ) → is_among kept view ≡ true → latest (has_version new) f p (take_of next view) ≡ latest (has_version old) f p (take_of next view)
  pub each : (k : VersionKey) → has_version new k ≡ true → IsSeen (record { versions = new; kept = kept; next = next }) k

-- the first image that was taken after this many, if one is kept
abbrev pub first_after : List ℕ → ℕ → Option ℕ
first_after kept t = find (nat_lt t) kept

-- the number is the one that was found
abbrev pub option_is : ℕ → Option ℕ → Bool
option_is n None = false
option_is n (Some m) = m == n

-- the version is seen live or in an image, which is so exactly if it is the last one before the first take after it
abbrev pub is_seen : Versions → List ℕ → ℕ → VersionKey → Bool
is_seen v kept next k = option_is k.takes (latest (has_version v) k.file k.page (unwrap_or (first_after kept k.takes) next))

-- the live version of a page, if no image shares it; if there is none, none began after the last take
abbrev pub IsUnshared : Volume → ℕ → ℕ → Option VersionKey → Type 0
IsUnshared h f p (Some k) = (t : ℕ) × ((k ≡ key_of f p t) × ((seen h 0 f p ≡ Some t) × (first_after h.kept t ≡ None)))
IsUnshared h f p None = (t : ℕ) → seen h 0 f p ≡ Some t → is_some (first_after h.kept t) ≡ true

-- the bytes of a version are new
pub record Puts (old new : Volume) (k : VersionKey) (bytes : List ℕ) : Type 0 where
  pub versions : (q : VersionKey) → version new.versions q ≡ cond (same_key k q) (Some bytes) (version old.versions q)
  pub blocks : new.versions.blocks ≡ old.versions.blocks
  pub kept : new.kept ≡ old.kept
  pub next : new.next ≡ old.next

-- why a version is not begun: each block has one, and nothing is changed; or memory runs out
abbrev pub HasNoRoom : Volume → Volume → SnapRefusal → Type 0
HasNoRoom old new (refusals.NoSpace free asked) = (free ≡ 0) × ((asked ≡ 1) × ((old.versions.blocks ≤ length old.versions.slots) × (new ≡ old)))
HasNoRoom old new refusals.Memory = ⊤
HasNoRoom old new e = ⊥
