-- The bytes of a snapshot: numbers, then the entries of names, and then the mapped pages.
use Rattle.std.specs.Prelude.{◌≡◌, ◌<◌, ◌^◌, ℕ, Bool, true, false, List, [], ◌∷◌, ◌++◌, length}
use Rattle.std.specs.List.{AllByRecursion}
use Rattle.st_extents.specs.Layout.{Shape, with_shape}
use Rattle.st_extents.specs.Restored as extents
use Rattle.st_journal_bytes.specs.Words.{word16, word64}
use Rattle.st_journal_file.specs.Layout.{word32}
use Rattle.st_namespace.specs.Order.{IsInOrder}
use Rattle.st_rules.specs.Server.{Stable}
use Rattle.st_rules.specs.declared.extents.Extent.{Extent}
use Rattle.st_rules.specs.declared.names.NameEntry.{NameEntry}
use Rattle.st_snapshot.specs.declared.counters.Counters.{Counters}

-- rows, one after another
abbrev pub rows : {A : Type 0} → (A → List ℕ) → List A → List ℕ
rows f [] = []
rows f (x ∷ xs) = f x ++ rows f xs

-- how many bytes the counters have
abbrev pub COUNTERS_LENGTH : ℕ
COUNTERS_LENGTH = 32

unfoldable pub counters : Counters → List ℕ
counters c = word64 c.epoch ++ (word64 c.births ++ (word32 c.next ++ (word32 c.limit ++ (word32 c.entries ++ word32 c.pages))))

-- the mark of a directory, and that of a file
abbrev pub mark : Bool → ℕ
mark true = 1
mark false = 0

-- an entry: its directory, its inode, how long its name is, whether it is a directory, and its name
unfoldable pub entry : NameEntry → List ℕ
entry e = word32 e.dir ++ (word32 e.ino ++ (word64 (length e.name) ++ mark e.directory ∷ e.name))

-- a mapped page: its file and its number there, its block, and its birth
unfoldable pub page : Extent → List ℕ
page e = word16 e.file.server.0 ++ (word32 e.file.ino ++ (word32 e.page.0 ++ (word16 e.at.disk.0 ++ (word32 e.at.block ++ word64 e.birth))))

abbrev pub counters_of : Stable → Counters
counters_of t =
    record {
      epoch = t.epoch.0;
      births = t.extents.births;
      next = t.names.next;
      limit = t.names.limit;
      entries = length t.names.entries;
      pages = length t.extents.rows;
    }

-- a snapshot of a stable part
unfoldable pub snapshot : Stable → List ℕ
snapshot t = counters (counters_of t) ++ (rows entry t.names.entries ++ rows page t.extents.rows)

-- Each number has its width.

pub record CountersFit (c : Counters) : Type 0 where
  pub epoch : c.epoch < 2 ^ 64
  pub births : c.births < 2 ^ 64
  pub next : c.next < 2 ^ 32
  pub limit : c.limit < 2 ^ 32
  pub entries : c.entries < 2 ^ 32
  pub pages : c.pages < 2 ^ 32

pub record EntryFits (e : NameEntry) : Type 0 where
  pub dir : e.dir < 2 ^ 32
  pub ino : e.ino < 2 ^ 32
  pub name : length e.name < 2 ^ 64

pub record PageFits (e : Extent) : Type 0 where
  pub server : e.file.server.0 < 2 ^ 16
  pub ino : e.file.ino < 2 ^ 32
  pub page : e.page.0 < 2 ^ 32
  pub disk : e.at.disk.0 < 2 ^ 16
  pub block : e.at.block < 2 ^ 32
  pub birth : e.birth < 2 ^ 64

pub record Fits (t : Stable) : Type 0 where
  pub counters : CountersFit (counters_of t)
  pub entries : AllByRecursion EntryFits t.names.entries
  pub pages : AllByRecursion PageFits t.extents.rows

-- what always holds of a server's names and extents
pub record CanBe (t : Stable) : Type 0 where
  pub names : IsInOrder t.names
  pub extents : extents.CanBe t.extents

-- the extents are those of a server in a world of this shape
abbrev pub HasShape : Shape → Stable → Type 0
HasShape s t = t.extents ≡ with_shape s t.extents.rows t.extents.births
