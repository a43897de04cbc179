-- Versions of pages, by the page and how many images were taken before the version began.
use Rattle.std.specs.Prelude.{ℕ, zero, suc, ◌≡◌, Bool, true, false, if◌then◌else◌, List, length, Option, Some, None, is_some}
use Rattle.std.specs.Map.{keys_of, lookup}
use Rattle.std.specs.List.Sorted.{IsStrictlySortedBy}
use Rattle.std.specs.declared.cmp.Ordering.{Ordering}
use Rattle.std.specs.Ordering.{nat_cmp, ordering_then, is_eq, is_lt}
use Rattle.st_snap.specs.declared.versions.VersionKey.{VersionKey}
use Rattle.st_snap.specs.Slots as slots

-- keys in order: by the file, then by the page, then by the number of takes
abbrev pub key_order : VersionKey → VersionKey → Ordering
key_order a b = ordering_then (nat_cmp a.file b.file) (ordering_then (nat_cmp a.page b.page) (nat_cmp a.takes b.takes))

-- one key
abbrev pub same_key : VersionKey → VersionKey → Bool
same_key a b = is_eq (key_order a b)

-- the slot of a version
abbrev pub slot_under : List (VersionKey × ℕ) → VersionKey → Option ℕ
slot_under es k = lookup (same_key k) es

-- the versions with their slots, the slots with their bytes, and the number of blocks
pub record Versions : Type 0 where
  pub slots : List (VersionKey × ℕ)
  pub pages : List (ℕ × List ℕ)
  pub blocks : ℕ

-- the bytes of a slot, if there is one
abbrev pub page_in : List (ℕ × List ℕ) → Option ℕ → Option (List ℕ)
page_in pages None = None
page_in pages (Some slot) = slots.slot_at pages slot

-- the bytes of a version
abbrev pub version : Versions → VersionKey → Option (List ℕ)
version v k = page_in v.pages (slot_under v.slots k)

-- there is the version
abbrev pub has_version : Versions → VersionKey → Bool
has_version v k = is_some (version v k)

-- each version has a slot of its own, and there are no other slots
pub record AreVersions (v : Versions) : Type 0 where
  pub ordered : IsStrictlySortedBy key_order (keys_of v.slots)
  pub held : (k : VersionKey) (s : ℕ) → slot_under v.slots k ≡ Some s → is_some (slots.slot_at v.pages s) ≡ true
  pub apart : (j k : VersionKey) (s : ℕ) → slot_under v.slots j ≡ Some s → slot_under v.slots k ≡ Some s → j ≡ k
  pub counted : length v.slots ≡ length v.pages

-- the key of a version of a page
abbrev pub key_of : ℕ → ℕ → ℕ → VersionKey
key_of f p takes = record { file = f; page = p; takes = takes }

-- the last version of a page that began before the take of an image
abbrev pub latest : (VersionKey → Bool) → ℕ → ℕ → ℕ → Option ℕ
latest has f p zero = None
latest has f p (suc n) = if has (key_of f p n) then Some n else latest has f p n

-- the bytes of a page before the take of an image
abbrev pub page_at : Versions → ℕ → ℕ → Option ℕ → Option (List ℕ)
page_at v f p None = None
page_at v f p (Some takes) = version v (key_of f p takes)

-- the key is there, and comes before another
pub record IsBelow (v : Versions) (bound k : VersionKey) : Type 0 where
  pub there : has_version v k ≡ true
  pub below : is_lt (key_order k bound) ≡ true

-- no version before the bound comes after this one
abbrev pub IsLastBelow : Versions → VersionKey → Option VersionKey → Type 0
IsLastBelow v bound None = (q : VersionKey) → has_version v q ≡ true → is_lt (key_order q bound) ≡ true → ⊥
IsLastBelow v bound (Some k) = IsBelow v bound k × ((q : VersionKey) → has_version v q ≡ true → is_lt (key_order q bound) ≡ true → is_lt (key_order k q) ≡ false)

-- no version comes after this one
abbrev pub IsLast : Versions → Option VersionKey → Type 0
IsLast v None = (q : VersionKey) → has_version v q ≡ true → ⊥
IsLast v (Some k) = (has_version v k ≡ true) × ((q : VersionKey) → has_version v q ≡ true → is_lt (key_order k q) ≡ false)
