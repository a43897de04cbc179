-- The words of a line, the columns of words, and the value of a word as a number, a node, a file or a name. docs/PROTOCOL.md, "Schedules".
use Rattle.std.specs.Prelude.{ℕ, ◌+◌, ◌-◌, ◌*◌, ◌==◌, ◌&&◌, nat_le, nat_lt, if◌then◌else◌, Bool, false, List, [], ◌∷◌, ◌++◌, length, take, drop, position, Option, Some, None}
use Rattle.std.specs.List.{list_all}
use Rattle.std.specs.Option.{option_map, option_and_then}
use Rattle.st_base.specs.declared.ids.ClientId.{ClientId}
use Rattle.st_base.specs.declared.ids.FileId.{FileId}
use Rattle.st_base.specs.declared.ids.NodeId.{NodeId}
use Rattle.st_base.specs.declared.ids.NodeId.TheVariants as nodes

-- Words.

-- these words with a byte put before the first one
abbrev pub onto : ℕ → List (List ℕ) → List (List ℕ)
onto b [] = (b ∷ []) ∷ []
onto b (w ∷ ws) = (b ∷ w) ∷ ws

-- the words of a line, of which there is at least one: each space ends one, and two spaces have a word without bytes
-- between them
abbrev pub split : List ℕ → List (List ℕ)
split [] = [] ∷ []
split (b ∷ bs) = if b == 32 then [] ∷ split bs else onto b (split bs)

-- the words of the bytes that follow a word: none, or those after the space
abbrev pub words_behind : List ℕ → List (List ℕ)
words_behind [] = []
words_behind (space ∷ bs) = split bs

-- these words, each with a space before it
abbrev pub spaced : List (List ℕ) → List ℕ
spaced [] = []
spaced (w ∷ ws) = 32 ∷ (w ++ spaced ws)

-- the line of these words
abbrev pub line_of : List (List ℕ) → List ℕ
line_of [] = []
line_of (w ∷ ws) = w ++ spaced ws

-- the number of bytes of these words, each with a space before it
abbrev pub room : List (List ℕ) → ℕ
room [] = 0
room (w ∷ ws) = length w + room ws + 1

-- the number of bytes from the first of these words to the end of the line; 0 if there is no word
abbrev pub left : List (List ℕ) → ℕ
left ws = room ws - 1

-- the column, counted from 1, of the word that begins this many bytes before the end of the line; the column of a missing
-- word is the length of the line plus 1
abbrev pub column : List ℕ → ℕ → ℕ
column line rest = length line + 1 - rest

-- the most bytes of a line
abbrev pub LONGEST_LINE : ℕ
LONGEST_LINE = 256

abbrev pub is_long : List ℕ → Bool
is_long line = nat_lt LONGEST_LINE (length line)

-- Numbers.

abbrev pub is_digit : ℕ → Bool
is_digit b = nat_le 48 b && nat_le b 57

-- a word of digits
abbrev pub is_number : List ℕ → Bool
is_number w = nat_lt 0 (length w) && list_all is_digit w

-- the number that these digits make of this one
abbrev pub value_from : ℕ → List ℕ → ℕ
value_from n [] = n
value_from n (b ∷ bs) = value_from (n * 10 + (b - 48)) bs

abbrev pub value : List ℕ → ℕ
value w = value_from 0 w

-- a zero comes before other digits
abbrev pub has_leading_zero : List ℕ → Bool
has_leading_zero [] = false
has_leading_zero (b ∷ bs) = (b == 48) && nat_lt 0 (length bs)

abbrev pub at_most : ℕ → ℕ → Option ℕ
at_most most n = if nat_le n most then Some n else None

abbrev pub at_least : ℕ → ℕ → Option ℕ
at_least least n = if nat_le least n then Some n else None

-- the number of a word of digits: without a leading zero and in its range
abbrev pub in_range : ℕ → ℕ → List ℕ → Option ℕ
in_range least most w = if has_leading_zero w then None else option_and_then (at_least least) (at_most most (value w))

-- a number as a part of a longer word
abbrev pub plain : ℕ → ℕ → List ℕ → Option ℕ
plain least most w = if is_number w then in_range least most w else None

-- Nodes, files and names.

abbrev pub MOST_NODE : ℕ
MOST_NODE = 99

abbrev pub MOST_SERVER : ℕ
MOST_SERVER = 65535

abbrev pub MOST_NUMBER : ℕ
MOST_NUMBER = 4294967295

abbrev pub client_of : ℕ → NodeId
client_of n = nodes.Client (record { 0 = n })

abbrev pub server_of : ℕ → NodeId
server_of n = nodes.Server (record { 0 = n })

-- `c` or `s` and a number from 1 to 99
abbrev pub node_of : List ℕ → Option NodeId
node_of [] = None
node_of (b ∷ bs) =
    if b == 99 then option_map client_of (plain 1 MOST_NODE bs)
    else if b == 115 then option_map server_of (plain 1 MOST_NODE bs) else None

-- the client of a node
abbrev pub client_alone : NodeId → Option ClientId
client_alone (nodes.Client c) = Some c
client_alone (nodes.Server s) = None

abbrev pub client_word : List ℕ → Option ClientId
client_word w = option_and_then client_alone (node_of w)

abbrev pub file_of : ℕ → ℕ → FileId
file_of server ino = record { server = record { 0 = server }; ino = ino }

abbrev pub file_in : ℕ → Option ℕ → Option FileId
file_in server ino = option_map (file_of server) ino

-- the parts on both sides of this place
abbrev pub file_parted : List ℕ → ℕ → Option FileId
file_parted w colon =
    option_and_then (λ server. file_in server (plain 1 MOST_NUMBER (drop (colon + 1) w))) (plain 1 MOST_SERVER (take colon w))

-- a server's number, the first colon, and an inode
abbrev pub file_word : List ℕ → Option FileId
file_word w = option_and_then (file_parted w) (position (λ b. b == 58) w)

abbrev pub is_visible : ℕ → Bool
is_visible b = nat_le 33 b && nat_le b 126

-- 1 to 100 visible bytes
abbrev pub is_name : List ℕ → Bool
is_name w = nat_lt 0 (length w) && (nat_le (length w) 100 && list_all is_visible w)
