-- Names: the directories of a server and their entries.
use Rattle.std.specs.Prelude.{ℕ, zero, suc, ◌+◌, Bool, true, false, ◌&&◌, ◌||◌, not, ◌==◌, nat_lt, nat_le, if◌then◌else◌, List, [], ◌∷◌, length, take, find, filter, map, ◌++◌, Option, Some, None, is_some, option_map, unwrap_or, Result, Ok, Err, bytes_eq, ⊤}
use Rattle.std.specs.List.{list_any, list_all}
use Rattle.std.specs.Option.{option_or}
use Rattle.st_base.specs.declared.names.NameRow.{NameRow}
use Rattle.st_rules.specs.declared.names.NameEntry.{NameEntry}
use Rattle.st_rules.specs.declared.names.EntryRefusal.{EntryRefusal}
use Rattle.st_rules.specs.declared.names.EntryRefusal.TheVariants.{NoEntry, Exists, NotDir, IsDir, NotEmpty, Cycle, BadName, TooMany}

-- The names of a server: the entries of all directories, the next inode number, and the limit: how many inodes may live.
-- Each inode but the root has one entry, so an inode lives as long as its entry.
pub record Names : Type 0 where
  pub entries : List NameEntry
  pub next : ℕ
  pub limit : ℕ

-- the root directory
abbrev pub ROOT : ℕ
ROOT = 1

-- a fresh server has the root, and the files 2 to 9 in it
abbrev pub fresh_file : ℕ → NameEntry
fresh_file ino = record { dir = ROOT; name = 102 ∷ (48 + ino) ∷ []; ino = ino; directory = false }

-- the names of a fresh server, with the limit of the first two forms
unfoldable pub fresh_names : Names
fresh_names = record { entries = map fresh_file (2 ∷ 3 ∷ 4 ∷ 5 ∷ 6 ∷ 7 ∷ 8 ∷ 9 ∷ []); next = 10; limit = 4096 }

-- Look-ups.

-- the entry of this inode
abbrev pub is_of_ino : ℕ → NameEntry → Bool
is_of_ino ino e = e.ino == ino

-- the entry of an inode
abbrev pub entry_of_ino : Names → ℕ → Option NameEntry
entry_of_ino n ino = find (is_of_ino ino) n.entries

-- the entry of this name in this directory
abbrev pub is_entry_at : ℕ → List ℕ → NameEntry → Bool
is_entry_at dir name e = (e.dir == dir) && bytes_eq e.name name

-- the entry of a name in a directory
abbrev pub entry_at : Names → ℕ → List ℕ → Option NameEntry
entry_at n dir name = find (is_entry_at dir name) n.entries

-- an entry of the directory
abbrev pub is_in : ℕ → NameEntry → Bool
is_in dir e = e.dir == dir

-- the directory has entries
abbrev pub has_entries : Names → ℕ → Bool
has_entries n dir = list_any (is_in dir) n.entries

-- the entry is a directory
abbrev pub directory_mark : NameEntry → Bool
directory_mark e = e.directory

-- whether the inode is a directory, if it is one of this server
abbrev pub kind_of : Names → ℕ → Option Bool
kind_of n ino = if ino == ROOT then Some true else option_map directory_mark (entry_of_ino n ino)

-- the inode is a file of this server
abbrev pub is_file : Names → ℕ → Bool
is_file n ino = not (unwrap_or (kind_of n ino) true)

-- the root and the inodes of all entries
abbrev pub live_inodes : Names → ℕ
live_inodes n = length n.entries + 1

-- Good names: 1 to 64 bytes of letters, digits, `.`, `_` and `-`, and neither `.` nor `..`.
abbrev pub is_between : ℕ → ℕ → ℕ → Bool
is_between low high b = nat_le low b && nat_le b high

-- a letter, a digit, or one of the three marks
abbrev pub is_name_byte : ℕ → Bool
is_name_byte b = is_between 97 122 b || (is_between 65 90 b || (is_between 48 57 b || ((b == 46) || ((b == 95) || (b == 45)))))

-- the two names that mean directories
abbrev pub is_dots : List ℕ → Bool
is_dots name = bytes_eq name (46 ∷ []) || bytes_eq name (46 ∷ 46 ∷ [])

-- a good name
unfoldable pub is_good : List ℕ → Bool
is_good name = is_between 1 64 (length name) && (list_all is_name_byte name && not (is_dots name))

-- A place: a directory and a name in it are refused in this order: no inode; no directory; no good name.
abbrev pub kind_refusal : Option Bool → Option EntryRefusal
kind_refusal None = Some NoEntry
kind_refusal (Some false) = Some NotDir
kind_refusal (Some true) = None

-- refused as a directory
abbrev pub dir_refusal : Names → ℕ → Option EntryRefusal
dir_refusal n dir = kind_refusal (kind_of n dir)

-- refused as a name
abbrev pub name_refusal : List ℕ → Option EntryRefusal
name_refusal name = if is_good name then None else Some BadName

-- refused as a directory and a name in it
unfoldable pub place_refusal : Names → ℕ → List ℕ → Option EntryRefusal
place_refusal n dir name = option_or (dir_refusal n dir) (name_refusal name)

-- Look up: the inode of an entry.
abbrev pub ino_of : Option NameEntry → Result ℕ EntryRefusal
ino_of None = Err NoEntry
ino_of (Some e) = Ok e.ino

-- if the place is not refused
unfoldable pub lookup_at : Names → ℕ → List ℕ → Option EntryRefusal → Result ℕ EntryRefusal
lookup_at n dir name (Some r) = Err r
lookup_at n dir name None = ino_of (entry_at n dir name)

-- Look up: the inode of a name in a directory
unfoldable pub lookup : Names → ℕ → List ℕ → Result ℕ EntryRefusal
lookup n dir name = lookup_at n dir name (place_refusal n dir name)

-- Create, and make a directory: the entry must be new, and at the limit of live inodes there is no room. Inode numbers rise by 1 and are
-- never used again.
pub record Changed : Type 0 where
  pub names : Names
  pub ino : ℕ

-- an entry with the next inode number
abbrev pub new_entry : Names → ℕ → List ℕ → Bool → NameEntry
new_entry n dir name directory = record { dir = dir; name = name; ino = n.next; directory = directory }

-- the names with one more entry
unfoldable pub added : Names → ℕ → List ℕ → Bool → Changed
added n dir name directory = record { names = record n { entries = n.entries ++ new_entry n dir name directory ∷ []; next = n.next + 1 }; ino = n.next }

-- if there is room
unfoldable pub add_new : Names → ℕ → List ℕ → Bool → Result Changed EntryRefusal
add_new n dir name directory = if nat_lt (live_inodes n) n.limit then Ok (added n dir name directory) else Err TooMany

-- if the name is new
unfoldable pub add_beside : Names → ℕ → List ℕ → Bool → Result Changed EntryRefusal
add_beside n dir name directory = if is_some (entry_at n dir name) then Err Exists else add_new n dir name directory

-- if the place is not refused
unfoldable pub add_at : Names → ℕ → List ℕ → Bool → Option EntryRefusal → Result Changed EntryRefusal
add_at n dir name directory (Some r) = Err r
add_at n dir name directory None = add_beside n dir name directory

-- a file or a directory is added
unfoldable pub add : Names → ℕ → List ℕ → Bool → Result Changed EntryRefusal
add n dir name directory = add_at n dir name directory (place_refusal n dir name)

-- Create: a file
unfoldable pub create : Names → ℕ → List ℕ → Result Changed EntryRefusal
create n dir name = add n dir name false

-- Make a directory
unfoldable pub mkdir : Names → ℕ → List ℕ → Result Changed EntryRefusal
mkdir n dir name = add n dir name true

-- Remove: the entry goes; a directory must be empty.
unfoldable pub without : Names → ℕ → List ℕ → NameEntry → Changed
without n dir name e = record { names = record n { entries = filter (λ d. not (is_entry_at dir name d)) n.entries }; ino = e.ino }

-- a directory with entries
abbrev pub is_full : Names → NameEntry → Bool
is_full n e = e.directory && has_entries n e.ino

-- if a directory is empty
unfoldable pub remove_entry : Names → ℕ → List ℕ → NameEntry → Result Changed EntryRefusal
remove_entry n dir name e = if is_full n e then Err NotEmpty else Ok (without n dir name e)

-- if the entry is there
unfoldable pub remove_found : Names → ℕ → List ℕ → Option NameEntry → Result Changed EntryRefusal
remove_found n dir name None = Err NoEntry
remove_found n dir name (Some e) = remove_entry n dir name e

-- if the place is not refused
unfoldable pub remove_at : Names → ℕ → List ℕ → Option EntryRefusal → Result Changed EntryRefusal
remove_at n dir name (Some r) = Err r
remove_at n dir name None = remove_found n dir name (entry_at n dir name)

-- Remove: the entry of a name in a directory
unfoldable pub remove : Names → ℕ → List ℕ → Result Changed EntryRefusal
remove n dir name = remove_at n dir name (place_refusal n dir name)

-- Rename: the same refusals of both places; the wanted entry is missing; the new entry is there, also if it is the
-- wanted one; a directory would come under itself. Otherwise the entry moves.
abbrev pub climb : (ℕ → Bool) → Option NameEntry → Bool
climb go_on None = false
climb go_on (Some e) = go_on e.dir

-- whether a directory is the first one or lies under it; it climbs at most this number of steps
unfoldable pub is_under_in : Names → ℕ → ℕ → ℕ → Bool
is_under_in n top zero dir = dir == top
is_under_in n top (suc steps) dir = (dir == top) || climb (is_under_in n top steps) (entry_of_ino n dir)

-- the directory is the top one or lies under it
abbrev pub is_under : Names → ℕ → ℕ → Bool
is_under n top dir = is_under_in n top (length n.entries) dir

-- an entry under another name in another directory
unfoldable pub moved : ℕ → List ℕ → NameEntry → NameEntry
moved dir name e = record e { dir = dir; name = name }

-- the entry of this name moves
abbrev pub move_entry : ℕ → List ℕ → ℕ → List ℕ → NameEntry → NameEntry
move_entry dir name dir2 name2 e = if is_entry_at dir name e then moved dir2 name2 e else e

-- the names after a move
unfoldable pub renamed : Names → ℕ → List ℕ → ℕ → List ℕ → NameEntry → Changed
renamed n dir name dir2 name2 e = record { names = record n { entries = map (move_entry dir name dir2 name2) n.entries }; ino = e.ino }

-- a directory would come under itself
abbrev pub comes_under_itself : Names → ℕ → NameEntry → Bool
comes_under_itself n dir2 e = e.directory && is_under n e.ino dir2

-- if no directory comes under itself
unfoldable pub rename_free : Names → ℕ → List ℕ → ℕ → List ℕ → NameEntry → Result Changed EntryRefusal
rename_free n dir name dir2 name2 e = if comes_under_itself n dir2 e then Err Cycle else Ok (renamed n dir name dir2 name2 e)

-- if the new name is free
unfoldable pub rename_entry : Names → ℕ → List ℕ → ℕ → List ℕ → NameEntry → Result Changed EntryRefusal
rename_entry n dir name dir2 name2 e = if is_some (entry_at n dir2 name2) then Err Exists else rename_free n dir name dir2 name2 e

-- if the entry is there
unfoldable pub rename_found : Names → ℕ → List ℕ → ℕ → List ℕ → Option NameEntry → Result Changed EntryRefusal
rename_found n dir name dir2 name2 None = Err NoEntry
rename_found n dir name dir2 name2 (Some e) = rename_entry n dir name dir2 name2 e

-- if neither place is refused
unfoldable pub rename_at : Names → ℕ → List ℕ → ℕ → List ℕ → Option EntryRefusal → Result Changed EntryRefusal
rename_at n dir name dir2 name2 (Some r) = Err r
rename_at n dir name dir2 name2 None = rename_found n dir name dir2 name2 (entry_at n dir name)

-- Rename: the entry of a name, to another name
unfoldable pub rename : Names → ℕ → List ℕ → ℕ → List ℕ → Result Changed EntryRefusal
rename n dir name dir2 name2 = rename_at n dir name dir2 name2 (option_or (place_refusal n dir name) (place_refusal n dir2 name2))

-- List: the first 256 entries of a directory whose names are above the given one in the order of bytes, in rising order.
unfoldable pub byte_below : ℕ → ℕ → Bool → Bool
byte_below a b rest = if a == b then rest else nat_lt a b

-- the order of names, byte by byte
unfoldable pub name_below : List ℕ → List ℕ → Bool
name_below [] [] = false
name_below [] (b ∷ bs) = true
name_below (a ∷ as_) [] = false
name_below (a ∷ as_) (b ∷ bs) = byte_below a b (name_below as_ bs)

-- an entry, as it is reported
abbrev pub name_row : NameEntry → NameRow
name_row e = record { ino = e.ino; directory = e.directory; name = e.name }

-- a row comes before the first one above it
unfoldable pub row_placed : NameRow → NameRow → List NameRow → List NameRow → List NameRow
row_placed r x xs rest = if name_below r.name x.name then r ∷ (x ∷ xs) else x ∷ rest

-- a rising list with one more row
unfoldable pub with_name_row : NameRow → List NameRow → List NameRow
with_name_row r [] = r ∷ []
with_name_row r (x ∷ xs) = row_placed r x xs (with_name_row r xs)

-- rows in rising order of names
unfoldable pub by_name : List NameRow → List NameRow
by_name [] = []
by_name (r ∷ rs) = with_name_row r (by_name rs)

-- an entry of the directory, above a name
abbrev pub is_listed : ℕ → List ℕ → NameEntry → Bool
is_listed dir after e = is_in dir e && name_below after e.name

-- if the directory is not refused
unfoldable pub list_at : Names → ℕ → List ℕ → Option EntryRefusal → Result (List NameRow) EntryRefusal
list_at n dir after (Some r) = Err r
list_at n dir after None = Ok (take 256 (by_name (map name_row (filter (is_listed dir after) n.entries))))

-- List: the entries of a directory above a name
unfoldable pub list : Names → ℕ → List ℕ → Result (List NameRow) EntryRefusal
list n dir after = list_at n dir after (dir_refusal n dir)

-- The number of a refusal.
abbrev pub code_of : EntryRefusal → ℕ
code_of NoEntry = 1
code_of Exists = 2
code_of NotDir = 3
code_of IsDir = 4
code_of NotEmpty = 5
code_of Cycle = 6
code_of BadName = 7
code_of TooMany = 8

-- opens all of this file
unfoldable pub names_open : ⊤
unfolding fresh_names is_good place_refusal lookup_at lookup added add_new add_beside add_at add create mkdir without remove_entry remove_found remove_at remove is_under_in moved renamed rename_free rename_entry rename_found rename_at rename byte_below name_below row_placed with_name_row by_name list_at list
names_open = tt
