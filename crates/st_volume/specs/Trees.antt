-- Trees: the directories and files of a server, and what an ask for a name makes of them.
use Rattle.std.specs.Prelude.{ℕ, zero, suc, ◌+◌, Bool, true, false, ◌&&◌, ◌||◌, not, ◌==◌, nat_lt}
use Rattle.std.specs.Prelude.{nat_le, if◌then◌else◌, List, [], ◌∷◌, ◌++◌, length, take, find}
use Rattle.std.specs.Prelude.{filter, map, Option, Some, None, bytes_eq}
use Rattle.std.specs.List.{list_any, list_all}
use Rattle.st_base.specs.declared.names.NameAsk.{NameAsk}
use Rattle.st_base.specs.declared.names.NameAsk.TheVariants as names
use Rattle.st_base.specs.declared.names.NameRow.{NameRow}
use Rattle.st_messages.specs.declared.answer.AppAnswer.{AppAnswer}
use Rattle.st_messages.specs.declared.answer.AppAnswer.TheVariants as answers
use Rattle.st_volume.specs.Pages.{is_any}

-- An entry: its directory, its name there, its inode number, and whether it is a directory.
pub record DirEntry : Type 0 where
  pub dir : ℕ
  pub name : List ℕ
  pub ino : ℕ
  pub directory : Bool

-- A tree: its entries, the next inode number, and how many inodes it may have. The root directory is
-- inode 1, and has no entry.
pub record Tree : Type 0 where
  pub entries : List DirEntry
  pub next : ℕ
  pub limit : ℕ

abbrev pub entry : Bool → ℕ → List ℕ → ℕ → DirEntry
entry directory dir name ino = record { dir = dir; name = name; ino = ino; directory = directory }

-- at the start the root contains the files `f2` to `f9`, which are the inodes 2 to 9, and there is
-- room for 4,096 inodes
abbrev pub fresh_file : ℕ → DirEntry
fresh_file ino = entry false 1 (102 ∷ (48 + ino) ∷ []) ino

abbrev pub fresh_tree : Tree
fresh_tree = record { entries = map fresh_file (2 ∷ 3 ∷ 4 ∷ 5 ∷ 6 ∷ 7 ∷ 8 ∷ 9 ∷ []); next = 10; limit = 4096 }

-- What is there.
abbrev pub is_named : ℕ → List ℕ → DirEntry → Bool
is_named dir name e = (e.dir == dir) && bytes_eq e.name name

-- the entry of a name in a directory
abbrev pub entry_at : Tree → ℕ → List ℕ → Option DirEntry
entry_at t dir name = find (is_named dir name) t.entries

abbrev pub is_dir_of : ℕ → DirEntry → Bool
is_dir_of ino e = (e.ino == ino) && e.directory

-- the inode is a file
abbrev pub is_file : ℕ → Tree → Bool
is_file ino t = list_any (λ e. (e.ino == ino) && not e.directory) t.entries

-- the inode is a directory
abbrev pub is_dir : ℕ → Tree → Bool
is_dir ino t = (ino == 1) || list_any (is_dir_of ino) t.entries

-- Good names: 1 to 64 bytes, each a letter, a digit, `.`, `_` or `-`, and neither `.` nor `..`.
abbrev pub is_between : ℕ → ℕ → ℕ → Bool
is_between low high b = nat_le low b && nat_le b high

abbrev pub is_name_byte : ℕ → Bool
is_name_byte b =
    (is_between 97 122 b || is_between 65 90 b)
    || (is_between 48 57 b || ((b == 46) || ((b == 95) || (b == 45))))

abbrev pub is_good : List ℕ → Bool
is_good name =
    is_between 1 64 (length name)
    && (list_all is_name_byte name && not (bytes_eq name (46 ∷ []) || bytes_eq name (46 ∷ 46 ∷ [])))

-- What an ask makes of a tree: the tree, the answer, and the file that is removed with its content.
abbrev pub Made : Type 0
Made = Tree × (AppAnswer × Option ℕ)

abbrev pub makes : Tree → AppAnswer → Option ℕ → Option Made
makes t answer removed = Some (t, (answer, removed))

-- Refusals: 1 no entry; 2 it exists; 3 no directory; 4 a directory; 5 not empty; 6 it would lie in
-- itself; 7 no good name; 8 too many inodes.
abbrev pub refuses : Tree → ℕ → Option Made
refuses t code = makes t (answers.Refused code) None

-- what is wrong with a directory, or 0
abbrev pub fault_of_dir : Tree → ℕ → ℕ
fault_of_dir t dir = if is_dir dir t then 0 else if is_file dir t then 3 else 1

-- what is wrong with a place, or 0
abbrev pub fault_of : Tree → ℕ → List ℕ → ℕ
fault_of t dir name = if is_dir dir t && not (is_good name) then 7 else fault_of_dir t dir

-- the rest, if nothing is wrong
abbrev pub unless : Tree → ℕ → Option Made → Option Made
unless t zero rest = rest
unless t (suc n) rest = refuses t (suc n)

-- Look up: the inode of a name.
abbrev pub looks_up : Tree → Option DirEntry → Option Made
looks_up t None = refuses t 1
looks_up t (Some e) = makes t (answers.Named e.ino) None

-- Create and mkdir: one more entry at a free place, with the next inode number.
abbrev pub with_new : Tree → DirEntry → Tree
with_new t e = record t { entries = t.entries ++ e ∷ []; next = t.next + 1 }

abbrev pub creates : Tree → DirEntry → Option DirEntry → Option Made
creates t e (Some other) = refuses t 2
creates t e None =
    if nat_lt (length t.entries + 1) t.limit
    then makes (with_new t e) (answers.Named e.ino) None else refuses t 8

-- Remove: exactly that entry goes: a directory's only if 0 was named and it is empty, and a
-- file's only if its inode was named. If another file has the name, a remove has no effect.
abbrev pub without : Tree → ℕ → List ℕ → Tree
without t dir name = record t { entries = filter (λ e. not (is_named dir name e)) t.entries }

abbrev pub takes_out : Tree → ℕ → List ℕ → ℕ → Option ℕ → Option Made
takes_out t dir name ino removed = makes (without t dir name) (answers.Named ino) removed

abbrev pub removes_dir : Tree → ℕ → List ℕ → ℕ → DirEntry → Option Made
removes_dir t dir name (suc ino) e = refuses t 4
removes_dir t dir name zero e =
    if list_any (λ d. d.dir == e.ino) t.entries
    then refuses t 5 else takes_out t dir name e.ino None

abbrev pub removes_file : Tree → ℕ → List ℕ → ℕ → DirEntry → Option Made
removes_file t dir name ino e =
    if e.ino == ino then takes_out t dir name ino (Some ino) else None

abbrev pub removes : Tree → ℕ → List ℕ → ℕ → Option DirEntry → Option Made
removes t dir name ino None = refuses t 1
removes t dir name ino (Some e) =
    if e.directory then removes_dir t dir name ino e else removes_file t dir name ino e

-- whether a directory is the first one, or lies in it at this depth at most
unfoldable pub lies_in : Tree → ℕ → ℕ → ℕ → Bool
lies_in t top zero dir = dir == top
lies_in t top (suc depth) dir =
    (dir == top) || is_any (λ e. lies_in t top depth e.dir) (find (is_dir_of dir) t.entries)

-- Rename: one entry moves to a free place; a directory never into itself.
abbrev pub moved : ℕ → List ℕ → DirEntry → DirEntry → DirEntry
moved dir name to e = if is_named dir name e then to else e

abbrev pub move : Tree → ℕ → List ℕ → DirEntry → Option Made
move t dir name e =
    makes (record t { entries = map (moved dir name e) t.entries }) (answers.Named e.ino) None

abbrev pub goes : Tree → ℕ → List ℕ → ℕ → List ℕ → Option DirEntry → Option DirEntry → Option Made
goes t dir name dir2 name2 None there = refuses t 1
goes t dir name dir2 name2 (Some e) (Some other) = refuses t 2
goes t dir name dir2 name2 (Some e) None =
    if e.directory && lies_in t e.ino (length t.entries) dir2
    then refuses t 6 else move t dir name (entry e.directory dir2 name2 e.ino)

-- List: the first 256 entries of a directory whose names are above a name, in the order of their
-- bytes.
unfoldable pub is_below : List ℕ → List ℕ → Bool
is_below as_ [] = false
is_below [] (b ∷ bs) = true
is_below (a ∷ as_) (b ∷ bs) = nat_lt a b || ((a == b) && is_below as_ bs)

abbrev pub row : DirEntry → NameRow
row e = record { ino = e.ino; directory = e.directory; name = e.name }

-- in their order
unfoldable pub placed : NameRow → List NameRow → List NameRow
placed r [] = r ∷ []
placed r (x ∷ xs) = if is_below r.name x.name then r ∷ (x ∷ xs) else x ∷ placed r xs

unfoldable pub in_order : List NameRow → List NameRow
in_order [] = []
in_order (r ∷ rs) = placed r (in_order rs)

abbrev pub listed : Tree → ℕ → List ℕ → List NameRow
listed t dir after =
    take 256 (in_order (map row (filter (λ e. (e.dir == dir) && is_below after e.name) t.entries)))

-- What an ask makes of a tree; nothing if it can have no effect.
abbrev pub at_place : Tree → ℕ → List ℕ → (Option DirEntry → Option Made) → Option Made
at_place t dir name rest = unless t (fault_of t dir name) (rest (entry_at t dir name))

abbrev pub does : Tree → NameAsk → Option Made
does t (names.Lookup dir name) = at_place t dir name (looks_up t)
does t (names.Create dir name) = at_place t dir name (creates t (entry false dir name t.next))
does t (names.Mkdir dir name) = at_place t dir name (creates t (entry true dir name t.next))
does t (names.Remove dir name ino) = at_place t dir name (removes t dir name ino)
does t (names.Rename dir name dir2 name2) =
    at_place t dir name (λ e. at_place t dir2 name2 (goes t dir name dir2 name2 e))
does t (names.List dir after) =
    unless t (fault_of_dir t dir) (makes t (answers.Listed (listed t dir after)) None)
