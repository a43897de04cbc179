-- Mapped pages as runs: pages of one file one after another, on blocks of one disk one after another, under births one after
-- another.
use Rattle.std.specs.Prelude.{ℕ, ◌≡◌, ◌≤◌, ◌<◌, ◌^◌, ◌+◌, ◌-◌, ◌==◌, ◌&&◌, nat_le, nat_lt, Bool, true, false, if◌then◌else◌, List, [], ◌∷◌, ◌++◌, length, map, find, is_some, Option, Some, None}
use Rattle.std.specs.Option.{IsSome, IsSomeAnd, option_map}
use Rattle.std.specs.Map.{keys_of, lookup}
use Rattle.std.specs.List.Sorted.{IsStrictlySortedBy}
use Rattle.std.specs.declared.cmp.Ordering.{Ordering}
use Rattle.std.specs.Ordering.{nat_cmp, ordering_then, is_eq}
use Rattle.st_base.specs.declared.ids.FileId.{FileId}
use Rattle.st_base.specs.declared.ids.PageNo.{PageNo}
use Rattle.st_base.specs.declared.disk.BlockAt.{BlockAt}
use Rattle.st_rules.specs.declared.extents.Extent.{Extent}
use Rattle.st_rules.specs.Keys.{page_no, same_file}
use Rattle.st_rules.specs.Extents.{is_extent_of, numbers}
use Rattle.st_tables.specs.Tables.{listed}
use Rattle.st_extents.specs.declared.run_map.Run.{Run}

-- where a run begins: its file and its first page
abbrev pub RunKey : Type 0
RunKey = FileId × PageNo

-- keys in order: by the file's server, then by its inode, then by the first page
abbrev pub run_order : RunKey → RunKey → Ordering
run_order a b = ordering_then (ordering_then (nat_cmp a.0.server.0 b.0.server.0) (nat_cmp a.0.ino b.0.ino)) (nat_cmp a.1.0 b.1.0)

-- one key
abbrev pub same_start : RunKey → RunKey → Bool
same_start a b = is_eq (run_order a b)

-- the run that begins there
abbrev pub run_at : List (RunKey × Run) → RunKey → Option Run
run_at es k = lookup (same_start k) es

-- where a run of this file that begins at this page is
abbrev pub key_of : FileId → PageNo → RunKey
key_of f p = (f, p)

-- the file of a run
abbrev pub file_of : RunKey → FileId
file_of k = k.0

-- a page that is mapped to a block under a birth
abbrev pub mapped_to : FileId → PageNo → BlockAt → ℕ → Extent
mapped_to f p at birth = record { file = f; page = p; at = at; birth = birth }

-- the block this many places further
abbrev pub block_on : BlockAt → ℕ → BlockAt
block_on at i = record { disk = at.disk; block = at.block + i }

-- the extent of the page this many places after the run's first one
abbrev pub extent_in : ℕ → RunKey × Run → Extent
extent_in i e = mapped_to (file_of e.0) (page_no (e.0.1.0 + i)) (block_on e.1.at i) (e.1.birth + i)

-- the extents of a run's pages
abbrev pub pages_of : RunKey × Run → List Extent
pages_of e = map (λ i. extent_in i e) (numbers 0 e.1.length)

-- what follows a run's last page has numbers of their widths
pub record HasWords (e : RunKey × Run) : Type 0 where
  pub page : e.0.1.0 + e.1.length < 2 ^ 32
  pub block : e.1.at.block + e.1.length ≤ 2 ^ 32
  pub birth : e.1.birth + e.1.length < 2 ^ 64

-- the birth of a run's first page
abbrev pub birth_of : RunKey × Run → ℕ
birth_of e = e.1.birth

-- the page is in the run
abbrev pub has_page : FileId → PageNo → RunKey × Run → Bool
has_page f p e = same_file (file_of e.0) f && (nat_le e.0.1.0 p.0 && nat_lt p.0 (e.0.1.0 + e.1.length))

-- the birth is in the run
abbrev pub has_birth : ℕ → RunKey × Run → Bool
has_birth b e = nat_le e.1.birth b && nat_lt b (e.1.birth + e.1.length)

-- the page after a run's last one
abbrev pub end_of : RunKey × Run → ℕ
end_of e = e.0.1.0 + e.1.length

-- two runs have a page in common
abbrev pub share_page : RunKey × Run → RunKey × Run → Bool
share_page a b = same_file (file_of a.0) (file_of b.0) && (nat_lt a.0.1.0 (end_of b) && nat_lt b.0.1.0 (end_of a))

-- the block this many places further is the other one
abbrev pub reaches : BlockAt → ℕ → BlockAt → Bool
reaches a n b = (a.disk.0 == b.disk.0) && (a.block + n == b.block)

-- the second run goes on where the first one ends: in pages, in blocks and in births
abbrev pub goes_on : RunKey × Run → RunKey × Run → Bool
goes_on a b = same_file (file_of a.0) (file_of b.0) && ((end_of a == b.0.1.0) && (reaches a.1.at a.1.length b.1.at && (a.1.birth + a.1.length == b.1.birth)))

-- Runs, by where they begin, are those of the mapped pages: each page of a run is mapped to its block under its birth; each mapped page is in a run; a run has
-- a page; no page is in two runs; and no run continues where another one ends.
pub record AreRunsOf (rows : List Extent) (at : RunKey → Option Run) : Type 0 where
  pub told : (k : RunKey) (r : Run) (i : ℕ) → at k ≡ Some r → i < r.length
      → find (is_extent_of (file_of k) (page_no (k.1.0 + i))) rows ≡ Some (extent_in i (k, r))
  pub all : (f : FileId) (p : PageNo) → is_some (find (is_extent_of f p) rows) ≡ true
      → (k : RunKey) × ((r : Run) × ((at k ≡ Some r) × (has_page f p (k, r) ≡ true)))
  pub some : (k : RunKey) (r : Run) → at k ≡ Some r → 1 ≤ r.length
  pub once : (j k : RunKey) (q r : Run) → at j ≡ Some q → at k ≡ Some r → share_page (j, q) (k, r) ≡ true → j ≡ k
  pub joined : (j k : RunKey) (q r : Run) → at j ≡ Some q → at k ≡ Some r → goes_on (j, q) (k, r) ≡ false

-- the extent under a birth, as the runs tell it
abbrev pub extent_under : List (RunKey × Run) → ℕ → Option Extent
extent_under es b = option_map (λ e. extent_in (b - e.1.birth) e) (find (has_birth b) es)

-- the extents of the runs, in the order of their births, of which this many were given
abbrev pub rows_of : ℕ → List (RunKey × Run) → List Extent
rows_of births es = listed (births + 1) (extent_under es)

-- what always holds of runs by where they begin, after this many births
pub record AreKept (births : ℕ) (at : RunKey → Option Run) : Type 0 where
  pub some : (k : RunKey) (r : Run) → at k ≡ Some r → 1 ≤ r.length
  pub given : (k : RunKey) (r : Run) → at k ≡ Some r → (1 ≤ r.birth) × (r.birth + r.length ≤ births + 1)
  pub fits : (k : RunKey) (r : Run) → at k ≡ Some r → (k.1.0 + r.length ≤ 1048576) × (r.at.block + r.length ≤ 4294967296)
  pub born : (j k : RunKey) (q r : Run) (b : ℕ) → at j ≡ Some q → at k ≡ Some r
      → has_birth b (j, q) ≡ true → has_birth b (k, r) ≡ true → j ≡ k
  pub once : (j k : RunKey) (q r : Run) → at j ≡ Some q → at k ≡ Some r → share_page (j, q) (k, r) ≡ true → j ≡ k
  pub joined : (j k : RunKey) (q r : Run) → at j ≡ Some q → at k ≡ Some r → goes_on (j, q) (k, r) ≡ false

-- the runs are in order of where they begin, they hold what always holds, and their extents are counted
pub record IsRunTable (births count : ℕ) (es : List (RunKey × Run)) : Type 0 where
  pub ordered : IsStrictlySortedBy run_order (keys_of es)
  pub kept : AreKept births (run_at es)
  pub counted : length (rows_of births es) ≡ count
  pub few : births < 9223372036854775808

-- mapped pages in the order of their births, how many births were given, and the runs of the pages
pub record Runs : Type 0 where
  pub rows : List Extent
  pub births : ℕ
  pub runs : List (RunKey × Run)

-- a run of one page
abbrev pub one_page : FileId → PageNo → BlockAt → ℕ → RunKey × Run
one_page f p at birth = (key_of f p, record { length = 1; at = at; birth = birth })

-- a run with one page more
abbrev pub longer : Run → Run
longer r = record r { length = r.length + 1 }

-- a run without its last page
abbrev pub shorter : Run → Option Run
shorter r = if r.length == 1 then None else Some (record r { length = r.length - 1 })

-- if a page continues this run, the run with the page, and otherwise a run of that page
abbrev pub grown_by : RunKey × Run → RunKey × Run → RunKey × Run
grown_by e new = if goes_on e new then (e.0, longer e.1) else new

-- the same, if there may be no run before the page
abbrev pub grown : Option (RunKey × Run) → RunKey × Run → RunKey × Run
grown None new = new
grown (Some e) new = grown_by e new

-- the run begins at this page of the file or before it
abbrev pub IsRunUpTo : List (RunKey × Run) → FileId → PageNo → RunKey × Run → Type 0
IsRunUpTo es f p e = (run_at es e.0 ≡ Some e.1) × (file_of e.0 ≡ f) × (e.0.1.0 ≤ p.0)

-- the extent was last and is gone, and this is its block
abbrev pub Unmaps : List Extent → List Extent → BlockAt → Extent → Type 0
Unmaps old new at e = (old ≡ new ++ e ∷ []) × (at ≡ e.at)

-- no run of the file that begins at the page or before it begins after this one
abbrev pub IsLastUpTo : List (RunKey × Run) → FileId → PageNo → Option (RunKey × Run) → Type 0
IsLastUpTo es f p o = (k : RunKey) → file_of k ≡ f → k.1.0 ≤ p.0 → IsSome (run_at es k) → IsSomeAnd o (λ e. k.1.0 ≤ e.0.1.0)
