-- A server's names are a tree of the volume: what an ask makes of the tree is what the names do.
use Rattle.std.specs.Prelude.{◌≡◌, ◌<◌, ◌⊎◌, ℕ, suc, true, false, ◌==◌, List, map, Option, Some, None}
use Rattle.std.specs.Prelude.{Result, Ok, Err}
use Rattle.st_base.specs.declared.names.NameAsk.TheVariants as asked
use Rattle.st_base.specs.declared.names.NameRow.{NameRow}
use Rattle.st_messages.specs.declared.answer.AppAnswer.TheVariants as answers
use Rattle.st_rules.specs.declared.names.EntryRefusal.{EntryRefusal}
use Rattle.st_rules.specs.declared.names.NameEntry.{NameEntry}
use Rattle.st_rules.specs.Names as names
use Rattle.st_rules.specs.Names.{Names}
use Rattle.st_lemmas.specs.Lists.{Has}
use Rattle.st_volume.specs.Trees.{DirEntry, Made, Tree, does, makes, refuses}

-- the names of a server, as a tree
abbrev pub entry_of : NameEntry → DirEntry
entry_of e = record { dir = e.dir; name = e.name; ino = e.ino; directory = e.directory }

abbrev pub tree_of : Names → Tree
tree_of n = record { entries = map entry_of n.entries; next = n.next; limit = n.limit }

-- Sound names: each inode has one entry, each place has one; inode numbers are above the root's and
-- below the next one; and each entry lies in the root or in a directory that has an entry.
abbrev pub IsDirectory : List NameEntry → ℕ → Type 0
IsDirectory es ino =
    (ino ≡ names.ROOT) ⊎ ((d : NameEntry) × Has d es × (d.ino ≡ ino) × (d.directory ≡ true))

pub record IsSound (n : Names) : Type 0 where
  pub inodes : (e f : NameEntry) → Has e n.entries → Has f n.entries → e.ino ≡ f.ino → e ≡ f
  pub places :
      (dir : ℕ) (name : List ℕ) (e f : NameEntry)
      → Has e n.entries
      → Has f n.entries
      → names.is_entry_at dir name e ≡ true
      → names.is_entry_at dir name f ≡ true
      → e ≡ f
  pub numbers : (e : NameEntry) → Has e n.entries → (names.ROOT < e.ino) × (e.ino < n.next)
  pub next : names.ROOT < n.next
  pub within : (e : NameEntry) → Has e n.entries → IsDirectory n.entries e.dir

-- What names do, as what an ask makes of a tree.
abbrev pub as_found : Names → Result ℕ EntryRefusal → Option Made
as_found n (Ok ino) = makes (tree_of n) (answers.Named ino) None
as_found n (Err r) = refuses (tree_of n) (names.code_of r)

-- an inode is removed with its content, or none
abbrev pub as_changed : Names → Option ℕ → Result names.Changed EntryRefusal → Option Made
as_changed n removed (Ok d) = makes (tree_of d.names) (answers.Named d.ino) removed
as_changed n removed (Err r) = refuses (tree_of n) (names.code_of r)

abbrev pub as_listed : Names → Result (List NameRow) EntryRefusal → Option Made
as_listed n (Ok rows) = makes (tree_of n) (answers.Listed rows) None
as_listed n (Err r) = refuses (tree_of n) (names.code_of r)

-- The tree does the same. A remove goes by what the name is: nothing; a file that is meant, or
-- another one; or a directory, which inode 0 means.
pub record DoesTheSame (n : Names) : Type 0 where
  pub lookup :
      (dir : ℕ) (name : List ℕ)
      → does (tree_of n) (asked.Lookup dir name) ≡ as_found n (names.lookup n dir name)
  pub create :
      (dir : ℕ) (name : List ℕ)
      → does (tree_of n) (asked.Create dir name) ≡ as_changed n None (names.create n dir name)
  pub mkdir :
      (dir : ℕ) (name : List ℕ)
      → does (tree_of n) (asked.Mkdir dir name) ≡ as_changed n None (names.mkdir n dir name)
  pub rename :
      (dir : ℕ) (name : List ℕ) (dir2 : ℕ) (name2 : List ℕ)
      → does (tree_of n) (asked.Rename dir name dir2 name2)
      ≡ as_changed n None (names.rename n dir name dir2 name2)
  pub list :
      (dir : ℕ) (after : List ℕ)
      → does (tree_of n) (asked.List dir after) ≡ as_listed n (names.list n dir after)
  pub remove_nothing :
      (dir : ℕ) (name : List ℕ) (ino : ℕ) (r : EntryRefusal)
      → names.lookup n dir name ≡ Err r
      → does (tree_of n) (asked.Remove dir name ino) ≡ refuses (tree_of n) (names.code_of r)
  pub remove_file :
      (dir : ℕ) (name : List ℕ) (ino : ℕ)
      → names.lookup n dir name ≡ Ok ino
      → names.is_file n ino ≡ true
      → does (tree_of n) (asked.Remove dir name ino)
      ≡ as_changed n (Some ino) (names.remove n dir name)
  pub remove_other :
      (dir : ℕ) (name : List ℕ) (ino there : ℕ)
      → names.lookup n dir name ≡ Ok there
      → names.is_file n there ≡ true
      → (there == ino) ≡ false
      → does (tree_of n) (asked.Remove dir name ino) ≡ None
  pub remove_directory :
      (dir : ℕ) (name : List ℕ) (there : ℕ)
      → names.lookup n dir name ≡ Ok there
      → names.is_file n there ≡ false
      → does (tree_of n) (asked.Remove dir name 0) ≡ as_changed n None (names.remove n dir name)
  pub remove_refused :
      (dir : ℕ) (name : List ℕ) (ino there : ℕ)
      → names.lookup n dir name ≡ Ok there
      → names.is_file n there ≡ false
      → does (tree_of n) (asked.Remove dir name (suc ino)) ≡ refuses (tree_of n) 4

abbrev pub SoundNamesDoTheSame : Type 0
SoundNamesDoTheSame = (n : Names) → IsSound n → DoesTheSame n

-- Sound names stay sound: those of a fresh server are, and each change keeps it.
abbrev pub IsKeptBy : (Names → Result names.Changed EntryRefusal) → Type 0
IsKeptBy change = (n : Names) (d : names.Changed) → IsSound n → change n ≡ Ok d → IsSound d.names

pub record NamesStaySound : Type 0 where
  pub fresh : IsSound names.fresh_names
  pub create : (dir : ℕ) (name : List ℕ) → IsKeptBy (λ n. names.create n dir name)
  pub mkdir : (dir : ℕ) (name : List ℕ) → IsKeptBy (λ n. names.mkdir n dir name)
  pub remove : (dir : ℕ) (name : List ℕ) → IsKeptBy (λ n. names.remove n dir name)
  pub rename :
      (dir : ℕ) (name : List ℕ) (dir2 : ℕ) (name2 : List ℕ)
      → IsKeptBy (λ n. names.rename n dir name dir2 name2)
