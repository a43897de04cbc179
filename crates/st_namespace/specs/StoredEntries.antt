-- How the entries of a server are stored: by directory and name, with what is kept of each inode beside them.
use Rattle.std.specs.Prelude.{ℕ, ◌≡◌, ◌<◌, ◌==◌, Bool, true, List, [], ◌∷◌, map, filter_map, find, Some, ⊤}
use Rattle.std.specs.List.{AllByRecursion, list_any}
use Rattle.st_rules.specs.declared.names.NameEntry.{NameEntry}
use Rattle.st_rules.specs.Names.{is_of_ino, name_below}
use Rattle.st_namespace.specs.declared.entries.Inode.{Inode}
use Rattle.st_namespace.specs.Order.{IsRising}

-- what is kept of an entry's inode
abbrev pub inode_of : NameEntry → Inode
inode_of e = record { ino = e.ino; dir = e.dir; directory = e.directory }

-- the inode has this number
abbrev pub has_number : ℕ → Inode → Bool
has_number ino n = n.ino == ino

-- an inode in another directory
abbrev pub moved_to : ℕ → Inode → Inode
moved_to dir n = record n { dir = dir }

-- where an entry is: its directory, and its name
abbrev pub key_of : NameEntry → List ℕ
key_of e = e.dir ∷ e.name

-- the entry comes before a name in a directory
abbrev pub stands_before : ℕ → List ℕ → NameEntry → Bool
stands_before dir name e = name_below (key_of e) (dir ∷ name)

-- the entry comes after a name in a directory
abbrev pub stands_behind : ℕ → List ℕ → NameEntry → Bool
stands_behind dir name e = name_below (dir ∷ name) (key_of e)

-- entries by directory, and by name in a directory
abbrev pub AreByName : List NameEntry → Type 0
AreByName [] = ⊤
AreByName (e ∷ es) = AllByRecursion (λ d. name_below (key_of e) (key_of d) ≡ true) es × AreByName es

-- the directory of an entry
abbrev pub dir_of : NameEntry → ℕ
dir_of e = e.dir

-- the entries by rising inode
abbrev pub entries_of : List Inode → List NameEntry → List NameEntry
entries_of inodes sorted = filter_map (λ (n : Inode). find (is_of_ino n.ino) sorted) inodes

-- the inodes are those of these entries by rising inode, and the entries by name are the same ones
pub record Stores (es : List NameEntry) (ns : List Inode) (sorted : List NameEntry) : Type 0 where
  pub inodes : ns ≡ map inode_of es
  pub found : AllByRecursion (λ e. find (is_of_ino e.ino) sorted ≡ Some e) es
  pub same : (p : NameEntry → Bool) → list_any p sorted ≡ list_any p es
  pub order : AreByName sorted
  pub rising : IsRising es

-- inodes by rising number
abbrev pub AreRising : List Inode → Type 0
AreRising [] = ⊤
AreRising (n ∷ ns) = AllByRecursion (λ m. n.ino < m.ino) ns × AreRising ns

-- whether the inode is a directory
abbrev pub mark_in : Inode → Bool
mark_in n = n.directory

-- the directory of the inode's entry
abbrev pub dir_in : Inode → ℕ
dir_in n = n.dir
