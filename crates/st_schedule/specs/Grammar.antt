-- The words of each form of line, and which events have a line. docs/PROTOCOL.md, "Schedules".
use Rattle.std.specs.Prelude.{◌≡◌, ℕ, ◌+◌, ◌==◌, ◌≤◌, ◌⊎◌, if◌then◌else◌, Bool, true, false, List, [], ◌∷◌, ◌++◌, length, map, replicate, get_or, codes}
use Rattle.std.specs.List.{list_all, AllByRecursion}
use Rattle.std.specs.Fmt.{decimal}
use Rattle.std.specs.Str.{bytes_eq}
use Rattle.st_base.specs.Page.{filled}
use Rattle.st_base.specs.declared.config.Config.{Config}
use Rattle.st_base.specs.declared.ids.ClientId.{ClientId}
use Rattle.st_base.specs.declared.ids.ServerId.{ServerId}
use Rattle.st_base.specs.declared.ids.PageNo.{PageNo}
use Rattle.st_base.specs.declared.ids.FileId.{FileId}
use Rattle.st_base.specs.declared.ids.NodeId.{NodeId}
use Rattle.st_base.specs.declared.ids.NodeId.TheVariants as nodes
use Rattle.st_base.specs.declared.names.NameAsk.{NameAsk}
use Rattle.st_base.specs.declared.names.NameAsk.TheVariants as name_asks
use Rattle.st_messages.specs.declared.ask.Ask.{Ask}
use Rattle.st_messages.specs.declared.ask.Ask.TheVariants as asks
use Rattle.st_messages.specs.declared.event.Counts.{Counts}
use Rattle.st_messages.specs.declared.event.Event.{Event}
use Rattle.st_messages.specs.declared.event.Event.TheVariants as events
use Rattle.st_schedule_words.specs.Words.{MOST_NODE, MOST_SERVER, MOST_NUMBER, is_name}

-- The words of an event.

abbrev pub client_text : ClientId → List ℕ
client_text c = 99 ∷ decimal c.0

abbrev pub server_text : ServerId → List ℕ
server_text s = 115 ∷ decimal s.0

abbrev pub node_text : NodeId → List ℕ
node_text (nodes.Client c) = client_text c
node_text (nodes.Server s) = server_text s

abbrev pub file_text : ℕ → ℕ → List ℕ
file_text server ino = decimal server ++ 58 ∷ decimal ino

abbrev pub file_name : FileId → List ℕ
file_name f = file_text f.server.0 f.ino

-- the byte that a write or a patch repeats
abbrev pub byte_of : List ℕ → ℕ
byte_of bytes = get_or bytes 0 0

abbrev pub result_text : Bool → List ℕ
result_text ok = if ok then codes "ok" else codes "fail"

-- the empty name, for the beginning of a directory, is written `-`
abbrev pub after_text : List ℕ → List ℕ
after_text [] = codes "-"
after_text (b ∷ bs) = b ∷ bs

abbrev pub place_words : FileId → PageNo → List (List ℕ)
place_words f p = file_name f ∷ decimal p.0 ∷ []

-- a word, a directory and a name in it
abbrev pub entry_words : List ℕ → ℕ → ℕ → List ℕ → List (List ℕ)
entry_words verb s dir name = verb ∷ file_text s dir ∷ name ∷ []

unfoldable pub name_words : ℕ → NameAsk → List (List ℕ)
name_words s (name_asks.Lookup dir name) = entry_words (codes "lookup") s dir name
name_words s (name_asks.Create dir name) = entry_words (codes "create") s dir name
name_words s (name_asks.Mkdir dir name) = entry_words (codes "mkdir") s dir name
name_words s (name_asks.Remove dir name ino) = entry_words (codes "remove") s dir name ++ decimal ino ∷ []
name_words s (name_asks.Rename dir name dir2 name2) = entry_words (codes "rename") s dir name ++ decimal dir2 ∷ name2 ∷ []
name_words s (name_asks.List dir after) = entry_words (codes "list") s dir (after_text after)

unfoldable pub ask_words : Ask → List (List ℕ)
ask_words (asks.Write f p bytes) = codes "write" ∷ (place_words f p ++ decimal (byte_of bytes) ∷ [])
ask_words (asks.Read f p) = codes "read" ∷ place_words f p
ask_words (asks.Sync f) = codes "sync" ∷ file_name f ∷ []
ask_words (asks.Cut f p) = codes "cut" ∷ place_words f p
ask_words (asks.Name s ask) = name_words s.0 ask
ask_words (asks.Patch f p at bytes) =
    codes "patch" ∷ (place_words f p ++ decimal at ∷ decimal (length bytes) ∷ decimal (byte_of bytes) ∷ [])

-- the increments, one per node
abbrev pub in_full : List ℕ → List (List ℕ)
in_full steps = map decimal steps

-- one increment if all are equal
abbrev pub are_equal : List ℕ → Bool
are_equal steps = list_all (λ d. d == get_or steps 0 0) steps

abbrev pub steps_words : List ℕ → List (List ℕ)
steps_words steps = if are_equal steps then decimal (get_or steps 0 0) ∷ [] else in_full steps

abbrev pub link_words : NodeId → NodeId → List (List ℕ)
link_words n m = node_text n ∷ node_text m ∷ []

-- the first word of an event's line
abbrev pub verb : Event → List ℕ
verb (events.Tick n) = codes "tick"
verb (events.App c ask) = codes "app"
verb (events.Deliver k) = codes "deliver"
verb (events.Lose k) = codes "lose"
verb (events.Cut n m) = codes "cut"
verb (events.Heal n m) = codes "heal"
verb (events.Advance steps) = codes "adv"
verb (events.Effect k) = codes "effect"
verb (events.Report k ok) = codes "report"
verb (events.Crash n) = codes "crash"
verb (events.Start n) = codes "start"

-- its other words; an advance whose increments are all equal has the short form
unfoldable pub words_after : Event → List (List ℕ)
words_after (events.Tick n) = node_text n ∷ []
words_after (events.App c ask) = client_text c ∷ ask_words ask
words_after (events.Deliver k) = decimal k ∷ []
words_after (events.Lose k) = decimal k ∷ []
words_after (events.Cut n m) = link_words n m
words_after (events.Heal n m) = link_words n m
words_after (events.Advance steps) = steps_words steps
words_after (events.Effect k) = decimal k ∷ []
words_after (events.Report k ok) = decimal k ∷ result_text ok ∷ []
words_after (events.Crash n) = node_text n ∷ []
words_after (events.Start n) = node_text n ∷ []

-- the words of an event's line
abbrev pub words : Event → List (List ℕ)
words e = verb e ∷ words_after e

-- Which events have a line: the ranges of their numbers, and names.

abbrev pub IsWithin : ℕ → ℕ → ℕ → Type 0
IsWithin least most n = (least ≤ n) × (n ≤ most)

abbrev pub IsNode : NodeId → Type 0
IsNode (nodes.Client c) = IsWithin 1 MOST_NODE c.0
IsNode (nodes.Server s) = IsWithin 1 MOST_NODE s.0

abbrev pub IsFile : ℕ → ℕ → Type 0
IsFile server ino = IsWithin 1 MOST_SERVER server × IsWithin 1 MOST_NUMBER ino

abbrev pub MOST_PAGE : ℕ
MOST_PAGE = 1048575

abbrev pub IsPlace : FileId → PageNo → Type 0
IsPlace f p = IsFile f.server.0 f.ino × (p.0 ≤ MOST_PAGE)

abbrev pub IsName : List ℕ → Type 0
IsName name = is_name name ≡ true

-- the empty name, or a name other than `-`
abbrev pub IsAfter : List ℕ → Type 0
IsAfter after = (after ≡ []) ⊎ ((is_name after ≡ true) × (bytes_eq after (codes "-") ≡ false))

abbrev pub FitsName : ℕ → NameAsk → Type 0
FitsName s (name_asks.Lookup dir name) = IsFile s dir × IsName name
FitsName s (name_asks.Create dir name) = IsFile s dir × IsName name
FitsName s (name_asks.Mkdir dir name) = IsFile s dir × IsName name
FitsName s (name_asks.Remove dir name ino) = IsFile s dir × IsName name × (ino ≤ MOST_NUMBER)
FitsName s (name_asks.Rename dir name dir2 name2) = IsFile s dir × IsName name × IsWithin 1 MOST_NUMBER dir2 × IsName name2
FitsName s (name_asks.List dir after) = IsFile s dir × IsAfter after

-- a page of one byte repeated
abbrev pub IsEven : List ℕ → Type 0
IsEven bytes = (byte_of bytes ≤ 255) × (bytes ≡ filled (byte_of bytes))

-- a patch of one byte repeated, within a page, only under the second form
abbrev pub IsPatch : ℕ → ℕ → List ℕ → Type 0
IsPatch form at bytes =
    (form ≡ 2) × (1 ≤ length bytes) × (at + length bytes ≤ 4096) × (byte_of bytes ≤ 255) × (bytes ≡ replicate (length bytes) (byte_of bytes))

abbrev pub FitsAsk : ℕ → Ask → Type 0
FitsAsk form (asks.Write f p bytes) = IsPlace f p × IsEven bytes
FitsAsk form (asks.Read f p) = IsPlace f p
FitsAsk form (asks.Sync f) = IsFile f.server.0 f.ino
FitsAsk form (asks.Cut f p) = IsPlace f p
FitsAsk form (asks.Name s ask) = FitsName s.0 ask
FitsAsk form (asks.Patch f p at bytes) = IsPlace f p × IsPatch form at bytes

-- the least increment: under the second form a clock may stand still
abbrev pub least_step : ℕ → ℕ
least_step form = if form == 1 then 1 else 0

abbrev pub IsStep : ℕ → ℕ → Type 0
IsStep form d = IsWithin (least_step form) MOST_NUMBER d

abbrev pub AreSteps : ℕ → ℕ → List ℕ → Type 0
AreSteps form nodes steps = (1 ≤ nodes) × (length steps ≡ nodes) × AllByRecursion (IsStep form) steps

-- an event has a line after a head of this form and with this many nodes
abbrev pub Fits : ℕ → ℕ → Event → Type 0
Fits form nodes (events.Tick n) = IsNode n
Fits form nodes (events.App c ask) = IsWithin 1 MOST_NODE c.0 × FitsAsk form ask
Fits form nodes (events.Deliver k) = IsWithin 1 MOST_NUMBER k
Fits form nodes (events.Lose k) = IsWithin 1 MOST_NUMBER k
Fits form nodes (events.Cut n m) = IsNode n × IsNode m
Fits form nodes (events.Heal n m) = IsNode n × IsNode m
Fits form nodes (events.Advance steps) = AreSteps form nodes steps
Fits form nodes (events.Effect k) = IsWithin 1 MOST_NUMBER k
Fits form nodes (events.Report k ok) = IsWithin 1 MOST_NUMBER k
Fits form nodes (events.Crash n) = IsNode n
Fits form nodes (events.Start n) = IsNode n

-- the increments in full, the other spelling of an advance
abbrev pub AreFull : List (List ℕ) → Event → Type 0
AreFull ws (events.Advance steps) = ws ≡ codes "adv" ∷ in_full steps
AreFull ws e = ⊥

-- these words spell this event
abbrev pub Spells : ℕ → ℕ → List (List ℕ) → Event → Type 0
Spells form nodes ws e = Fits form nodes e × ((ws ≡ words e) ⊎ AreFull ws e)

-- Heads.

abbrev pub MOST_SETTING : ℕ
MOST_SETTING = 9223372036854775807

-- the word of the grain, which only the second form has
abbrev pub grains : ℕ → ℕ → List ℕ
grains form grain = if form == 2 then grain ∷ [] else []

abbrev pub counts_of : Counts → List ℕ
counts_of n = n.clients ∷ n.servers ∷ n.disks ∷ n.blocks ∷ []

-- the numbers of a head, which follow its form
abbrev pub head_numbers : Config → Counts → ℕ → List ℕ
head_numbers c n form =
    c.lease ∷ c.renew ∷ c.quiesce ∷ c.flush ∷ c.demand ∷ c.retry ∷ c.num ∷ c.den ∷ (grains form c.grain ++ counts_of n)

abbrev pub head_words : Config → Counts → ℕ → List (List ℕ)
head_words c n form = codes "tank" ∷ decimal form ∷ map decimal (head_numbers c n form)

-- the settings are numbers below 2^63
pub record AreSettings (c : Config) : Type 0 where
  pub times : (c.lease ≤ MOST_SETTING) × (c.renew ≤ MOST_SETTING) × (c.quiesce ≤ MOST_SETTING)
  pub others : (c.flush ≤ MOST_SETTING) × (c.demand ≤ MOST_SETTING) × (c.retry ≤ MOST_SETTING)
  pub rate : (c.num ≤ MOST_SETTING) × (c.den ≤ MOST_SETTING) × (c.grain ≤ MOST_SETTING)

-- 1 to 16 clients, 1 to 4 servers, and disks from the number of servers to 8, of 1 to 4,096 blocks each
abbrev pub AreCounts : Counts → Type 0
AreCounts n = IsWithin 1 16 n.clients × IsWithin 1 4 n.servers × IsWithin n.servers 8 n.disks × IsWithin 1 4096 n.blocks

-- the first form, whose grain is 0, or the second
abbrev pub IsForm : ℕ → ℕ → Type 0
IsForm form grain = ((form ≡ 1) × (grain ≡ 0)) ⊎ (form ≡ 2)

-- a head has a line
abbrev pub FitsHead : Config → Counts → ℕ → Type 0
FitsHead c n form = AreSettings c × AreCounts n × IsForm form c.grain

-- these words spell this head
abbrev pub SpellsHead : List (List ℕ) → Config → Counts → ℕ → Type 0
SpellsHead ws c n form = FitsHead c n form × (ws ≡ head_words c n form)
