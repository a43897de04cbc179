-- What always holds of the names of a server.
use Rattle.std.specs.Prelude.{◌≤◌, ◌<◌, Bool, ◌==◌, All, List, [], ◌∷◌, length, ⊤}
use Rattle.std.specs.List.{AllByRecursion, IsDistinct}
use Rattle.st_rules.specs.declared.names.NameEntry.{NameEntry}
use Rattle.st_rules.specs.Names.{Names, is_entry_at}

-- two entries have one name in one directory
abbrev pub of_one_name : NameEntry → NameEntry → Bool
of_one_name a b = is_entry_at a.dir a.name b

-- two entries have one inode
abbrev pub of_one_inode : NameEntry → NameEntry → Bool
of_one_inode a b = b.ino == a.ino

-- the inodes of entries rise
abbrev pub IsRising : List NameEntry → Type 0
IsRising [] = ⊤
IsRising (e ∷ es) = AllByRecursion (λ d. e.ino < d.ino) es × IsRising es

-- No name occurs twice in a directory, no inode has two entries, entries are in the order of their inodes, the numbers of inodes are below the next one, and
-- there are fewer entries than inodes may live.
pub record IsInOrder (n : Names) : Type 0 where
  pub names : IsDistinct of_one_name n.entries
  pub inodes : IsDistinct of_one_inode n.entries
  pub rising : IsRising n.entries
  pub used : All (λ e. e.ino < n.next) n.entries
  pub few : length n.entries < n.limit

-- what the calls keep: the order, and a limit of four bytes
pub record IsKept (n : Names) : Type 0 where
  pub order : IsInOrder n
  pub small : n.limit < 4294967296
