-- Reading the words of a line from left to right, with the first fault that is met.
use Rattle.std.specs.Prelude.{◌≡◌, ℕ, zero, suc, ◌-◌, ◌==◌, ◌&&◌, if◌then◌else◌, Bool, true, false, List, [], ◌∷◌, replicate, codes, Option, Some, None, Result, Ok, Err}
use Rattle.std.specs.Option.{option_map}
use Rattle.std.specs.Str.{bytes_eq}
use Rattle.st_base.specs.Page.{filled}
use Rattle.st_base.specs.declared.config.Config.{Config}
use Rattle.st_base.specs.declared.ids.ClientId.{ClientId}
use Rattle.st_base.specs.declared.ids.FileId.{FileId}
use Rattle.st_base.specs.declared.ids.NodeId.{NodeId}
use Rattle.st_base.specs.declared.ids.PageNo.{PageNo}
use Rattle.st_base.specs.declared.names.NameAsk.{NameAsk}
use Rattle.st_base.specs.declared.names.NameAsk.TheVariants as name_asks
use Rattle.st_messages.specs.declared.ask.Ask.{Ask}
use Rattle.st_messages.specs.declared.ask.Ask.TheVariants as asks
use Rattle.st_messages.specs.declared.event.Counts.{Counts}
use Rattle.st_messages.specs.declared.event.Event.{Event}
use Rattle.st_messages.specs.declared.event.Event.TheVariants as events
use Rattle.st_schedule.specs.declared.fault.Fault.{Fault}
use Rattle.st_schedule.specs.declared.fault.Fault.TheVariants.{Syntax, Number}
use Rattle.st_schedule.specs.declared.fault.ReadError.{ReadError}
use Rattle.st_schedule.specs.declared.fault.ReadError.TheVariants as errors
use Rattle.st_schedule.specs.declared.verb.Verb.{Verb}
use Rattle.st_schedule.specs.declared.verb.Verb.TheVariants as verbs
use Rattle.st_schedule.specs.declared.verb.AskVerb.{AskVerb}
use Rattle.st_schedule.specs.declared.verb.AskVerb.TheVariants as ask_verbs
use Rattle.st_schedule_words.specs.Words.{left, is_number, in_range, node_of, client_word, file_word, is_name, MOST_NUMBER}
use Rattle.st_schedule.specs.Grammar.{MOST_PAGE, MOST_SETTING, least_step}

infixl 10 ◌>>=◌
abbrev pub ◌>>=◌ : {A B : Type 0} → Result A Fault → (A → Result B Fault) → Result B Fault
(Ok x) >>= f = f x
(Err e) >>= f = Err e

-- a function returned what reading gives, by this view of its value, unless memory ran out
abbrev pub Fails : {Y : Type 0} → ReadError → Result Y Fault → Type 0
Fails errors.Memory read = Unit {0}
Fails (errors.Fault f) read = read ≡ Err f

abbrev pub Gives : {X Y : Type 0} → (X → Y) → Result X ReadError → Result Y Fault → Type 0
Gives view (Ok x) read = read ≡ Ok (view x)
Gives view (Err e) read = Fails e read

-- a value and the words after it, or the first fault
abbrev pub Read : Type 0 → Type 0
Read A = Result (A × List (List ℕ)) Fault

-- Places. A word that is wrong or missing is Syntax there; a word of digits in the place of a number is Number.

abbrev pub syntax_at : {A : Type 0} → List (List ℕ) → Result A Fault
syntax_at ws = Err (Syntax (left ws))

abbrev pub number_fault : {A : Type 0} → List (List ℕ) → Result A Fault
number_fault ws = Err (Number (left ws))

-- the first word, and the words after it
abbrev pub word_at : List (List ℕ) → Read (List ℕ)
word_at [] = syntax_at []
word_at (w ∷ ws) = Ok (w, ws)

-- the value that was found in the first of these words, with the words after it
abbrev pub or_syntax : {A : Type 0} → Option A → List (List ℕ) → List (List ℕ) → Read A
or_syntax None ws rest = syntax_at ws
or_syntax (Some x) ws rest = Ok (x, rest)

abbrev pub or_number : Option ℕ → List (List ℕ) → List (List ℕ) → Read ℕ
or_number None ws rest = number_fault ws
or_number (Some n) ws rest = Ok (n, rest)

-- a word that means a value
abbrev pub place : {A : Type 0} → (List ℕ → Option A) → List (List ℕ) → Read A
place means ws = do
  w ← word_at ws
  or_syntax (means w.0) ws w.1

abbrev pub number_in : ℕ → ℕ → List ℕ → List (List ℕ) → List (List ℕ) → Read ℕ
number_in least most w ws rest = if is_number w then or_number (in_range least most w) ws rest else syntax_at ws

-- a number in this range
unfoldable pub number_at : ℕ → ℕ → List (List ℕ) → Read ℕ
number_at least most ws = do
  w ← word_at ws
  number_in least most w.0 ws w.1

unfoldable pub node_at : List (List ℕ) → Read NodeId
node_at ws = place node_of ws

unfoldable pub client_at : List (List ℕ) → Read ClientId
client_at ws = place client_word ws

unfoldable pub file_at : List (List ℕ) → Read FileId
file_at ws = place file_word ws

abbrev pub name_in : List ℕ → Option (List ℕ)
name_in w = if is_name w then Some w else None

unfoldable pub name_at : List (List ℕ) → Read (List ℕ)
name_at ws = place name_in ws

-- a name, or `-`, which stands for the empty name at the beginning of a directory
abbrev pub after_of : List ℕ → List ℕ
after_of w = if bytes_eq w (codes "-") then [] else w

abbrev pub after_in : List ℕ → Option (List ℕ)
after_in w = option_map after_of (name_in w)

unfoldable pub after_at : List (List ℕ) → Read (List ℕ)
after_at ws = place after_in ws

abbrev pub result_of : List ℕ → Option Bool
result_of w = if bytes_eq w (codes "ok") then Some true else if bytes_eq w (codes "fail") then Some false else None

unfoldable pub result_at : List (List ℕ) → Read Bool
result_at ws = place result_of ws

-- there is no superfluous word at the end of the line
unfoldable pub ends : List (List ℕ) → Result Unit Fault
ends [] = Ok tt
ends (w ∷ ws) = syntax_at (w ∷ ws)

-- The first word of a line, and the word that says what is asked.

abbrev pub crash_or_start : List ℕ → Option Verb
crash_or_start w =
    if bytes_eq w (codes "crash") then Some verbs.Crash
    else if bytes_eq w (codes "start") then Some verbs.Start else None

abbrev pub link_or_later : List ℕ → Option Verb
link_or_later w =
    if bytes_eq w (codes "cut") then Some verbs.Cut
    else if bytes_eq w (codes "heal") then Some verbs.Heal
    else if bytes_eq w (codes "effect") then Some verbs.Effect
    else if bytes_eq w (codes "report") then Some verbs.Report else crash_or_start w

abbrev pub verb_of : List ℕ → Option Verb
verb_of w =
    if bytes_eq w (codes "adv") then Some verbs.Adv
    else if bytes_eq w (codes "tick") then Some verbs.Tick
    else if bytes_eq w (codes "app") then Some verbs.App
    else if bytes_eq w (codes "deliver") then Some verbs.Deliver
    else if bytes_eq w (codes "lose") then Some verbs.Lose else link_or_later w

abbrev pub name_verb_of : List ℕ → Option AskVerb
name_verb_of w =
    if bytes_eq w (codes "lookup") then Some ask_verbs.Lookup
    else if bytes_eq w (codes "create") then Some ask_verbs.Create
    else if bytes_eq w (codes "mkdir") then Some ask_verbs.Mkdir
    else if bytes_eq w (codes "remove") then Some ask_verbs.Remove
    else if bytes_eq w (codes "rename") then Some ask_verbs.Rename
    else if bytes_eq w (codes "list") then Some ask_verbs.List else None

-- a patch is asked only under the second form
abbrev pub patch_or_name : ℕ → List ℕ → Option AskVerb
patch_or_name form w = if (form == 2) && bytes_eq w (codes "patch") then Some ask_verbs.Patch else name_verb_of w

abbrev pub ask_verb_of : ℕ → List ℕ → Option AskVerb
ask_verb_of form w =
    if bytes_eq w (codes "write") then Some ask_verbs.Write
    else if bytes_eq w (codes "read") then Some ask_verbs.Read
    else if bytes_eq w (codes "sync") then Some ask_verbs.Sync
    else if bytes_eq w (codes "cut") then Some ask_verbs.Cut else patch_or_name form w

unfoldable pub ask_verb_at : ℕ → List (List ℕ) → Read AskVerb
ask_verb_at form ws = place (ask_verb_of form) ws

-- Asks.

abbrev pub page_of : ℕ → PageNo
page_of p = record { 0 = p }

unfoldable pub place_at : List (List ℕ) → Read (FileId × PageNo)
place_at ws = do
  f ← file_at ws
  p ← number_at 0 MOST_PAGE f.1
  Ok ((f.0, page_of p.0), p.1)

unfoldable pub write_at : List (List ℕ) → Read Ask
write_at ws = do
  at ← place_at ws
  b ← number_at 0 255 at.1
  Ok (asks.Write at.0.0 at.0.1 (filled b.0), b.1)

unfoldable pub read_at : List (List ℕ) → Read Ask
read_at ws = do
  at ← place_at ws
  Ok (asks.Read at.0.0 at.0.1, at.1)

unfoldable pub sync_at : List (List ℕ) → Read Ask
sync_at ws = do
  f ← file_at ws
  Ok (asks.Sync f.0, f.1)

unfoldable pub cut_at : List (List ℕ) → Read Ask
cut_at ws = do
  at ← place_at ws
  Ok (asks.Cut at.0.0 at.0.1, at.1)

-- a place in a page, and a number of bytes from there on, all within the page
unfoldable pub range_at : List (List ℕ) → Read (ℕ × ℕ)
range_at ws = do
  at ← number_at 0 4095 ws
  len ← number_at 1 (4096 - at.0) at.1
  Ok ((at.0, len.0), len.1)

unfoldable pub patch_at : List (List ℕ) → Read Ask
patch_at ws = do
  at ← place_at ws
  range ← range_at at.1
  b ← number_at 0 255 range.1
  Ok (asks.Patch at.0.0 at.0.1 range.0.0 (replicate range.0.1 b.0), b.1)

-- a directory and a name in it
unfoldable pub entry_at : List (List ℕ) → Read (FileId × List ℕ)
entry_at ws = do
  dir ← file_at ws
  name ← name_at dir.1
  Ok ((dir.0, name.0), name.1)

abbrev pub named : FileId → NameAsk → Ask
named dir ask = asks.Name dir.server ask

unfoldable pub lookup_at : List (List ℕ) → Read Ask
lookup_at ws = do
  e ← entry_at ws
  Ok (named e.0.0 (name_asks.Lookup e.0.0.ino e.0.1), e.1)

unfoldable pub create_at : List (List ℕ) → Read Ask
create_at ws = do
  e ← entry_at ws
  Ok (named e.0.0 (name_asks.Create e.0.0.ino e.0.1), e.1)

unfoldable pub mkdir_at : List (List ℕ) → Read Ask
mkdir_at ws = do
  e ← entry_at ws
  Ok (named e.0.0 (name_asks.Mkdir e.0.0.ino e.0.1), e.1)

unfoldable pub remove_at : List (List ℕ) → Read Ask
remove_at ws = do
  e ← entry_at ws
  ino ← number_at 0 MOST_NUMBER e.1
  Ok (named e.0.0 (name_asks.Remove e.0.0.ino e.0.1 ino.0), ino.1)

unfoldable pub rename_at : List (List ℕ) → Read Ask
rename_at ws = do
  e ← entry_at ws
  dir2 ← number_at 1 MOST_NUMBER e.1
  name2 ← name_at dir2.1
  Ok (named e.0.0 (name_asks.Rename e.0.0.ino e.0.1 dir2.0 name2.0), name2.1)

unfoldable pub list_at : List (List ℕ) → Read Ask
list_at ws = do
  dir ← file_at ws
  after ← after_at dir.1
  Ok (named dir.0 (name_asks.List dir.0.ino after.0), after.1)

unfoldable pub asked_at : AskVerb → List (List ℕ) → Read Ask
asked_at ask_verbs.Write ws = write_at ws
asked_at ask_verbs.Read ws = read_at ws
asked_at ask_verbs.Sync ws = sync_at ws
asked_at ask_verbs.Cut ws = cut_at ws
asked_at ask_verbs.Patch ws = patch_at ws
asked_at ask_verbs.Lookup ws = lookup_at ws
asked_at ask_verbs.Create ws = create_at ws
asked_at ask_verbs.Mkdir ws = mkdir_at ws
asked_at ask_verbs.Remove ws = remove_at ws
asked_at ask_verbs.Rename ws = rename_at ws
asked_at ask_verbs.List ws = list_at ws

unfoldable pub app_at : ℕ → List (List ℕ) → Read Event
app_at form ws = do
  c ← client_at ws
  v ← ask_verb_at form c.1
  ask ← asked_at v.0 v.1
  Ok (events.App c.0 ask.0, ask.1)

-- Advances.

-- this many increments, each at least `least`
unfoldable pub steps_at : ℕ → ℕ → List (List ℕ) → Read (List ℕ)
steps_at least zero ws = Ok ([], ws)
steps_at least (suc n) ws = do
  d ← number_at least MOST_NUMBER ws
  others ← steps_at least n d.1
  Ok (d.0 ∷ others.0, others.1)

-- a line with one increment gives it to every node; a line with more words has one increment for each node
unfoldable pub steps_of : ℕ → ℕ → ℕ → List (List ℕ) → List (List ℕ) → Read (List ℕ)
steps_of least nodes d ws [] = Ok (replicate nodes d, [])
steps_of least nodes d ws (w ∷ rest) = steps_at least nodes ws

unfoldable pub advance_at : ℕ → ℕ → List (List ℕ) → Read Event
advance_at least nodes ws = do
  d ← number_at least MOST_NUMBER ws
  steps ← steps_of least nodes d.0 ws d.1
  Ok (events.Advance steps.0, steps.1)

-- The other events.

abbrev pub k_at : List (List ℕ) → Read ℕ
k_at ws = number_at 1 MOST_NUMBER ws

unfoldable pub link_at : List (List ℕ) → Read (NodeId × NodeId)
link_at ws = do
  n ← node_at ws
  m ← node_at n.1
  Ok ((n.0, m.0), m.1)

unfoldable pub cut_link_at : List (List ℕ) → Read Event
cut_link_at ws = do
  link ← link_at ws
  Ok (events.Cut link.0.0 link.0.1, link.1)

unfoldable pub heal_at : List (List ℕ) → Read Event
heal_at ws = do
  link ← link_at ws
  Ok (events.Heal link.0.0 link.0.1, link.1)

unfoldable pub tick_at : List (List ℕ) → Read Event
tick_at ws = do
  n ← node_at ws
  Ok (events.Tick n.0, n.1)

unfoldable pub crash_at : List (List ℕ) → Read Event
crash_at ws = do
  n ← node_at ws
  Ok (events.Crash n.0, n.1)

unfoldable pub start_at : List (List ℕ) → Read Event
start_at ws = do
  n ← node_at ws
  Ok (events.Start n.0, n.1)

unfoldable pub deliver_at : List (List ℕ) → Read Event
deliver_at ws = do
  k ← k_at ws
  Ok (events.Deliver k.0, k.1)

unfoldable pub lose_at : List (List ℕ) → Read Event
lose_at ws = do
  k ← k_at ws
  Ok (events.Lose k.0, k.1)

unfoldable pub effect_at : List (List ℕ) → Read Event
effect_at ws = do
  k ← k_at ws
  Ok (events.Effect k.0, k.1)

unfoldable pub report_at : List (List ℕ) → Read Event
report_at ws = do
  k ← k_at ws
  ok ← result_at k.1
  Ok (events.Report k.0 ok.0, ok.1)

-- an event by its first word
unfoldable pub event_at : ℕ → ℕ → Verb → List (List ℕ) → Read Event
event_at form nodes verbs.Adv ws = advance_at (least_step form) nodes ws
event_at form nodes verbs.Tick ws = tick_at ws
event_at form nodes verbs.App ws = app_at form ws
event_at form nodes verbs.Deliver ws = deliver_at ws
event_at form nodes verbs.Lose ws = lose_at ws
event_at form nodes verbs.Cut ws = cut_link_at ws
event_at form nodes verbs.Heal ws = heal_at ws
event_at form nodes verbs.Effect ws = effect_at ws
event_at form nodes verbs.Report ws = report_at ws
event_at form nodes verbs.Crash ws = crash_at ws
event_at form nodes verbs.Start ws = start_at ws

abbrev pub or_wrong : Option Verb → List (List ℕ) → Result Verb Fault
or_wrong None ws = syntax_at ws
or_wrong (Some v) ws = Ok v

-- the first word of all these
unfoldable pub verb_in : List ℕ → List (List ℕ) → Result Verb Fault
verb_in w ws = or_wrong (verb_of w) ws

-- the event that a first word, of all these words, and the rest of them spell
unfoldable pub event_of : ℕ → ℕ → List ℕ → List (List ℕ) → List (List ℕ) → Result (Option Event) Fault
event_of form nodes w ws rest = do
  v ← verb_in w ws
  e ← event_at form nodes v rest
  none ← ends e.1
  Ok (Some e.0)

-- the line `end` has no other word
unfoldable pub end_of : List (List ℕ) → Result (Option Event) Fault
end_of ws = do
  none ← ends ws
  Ok None

-- the event that the words of a whole line spell, or none if they are the line `end`
unfoldable pub line_event : ℕ → ℕ → List (List ℕ) → Result (Option Event) Fault
line_event form nodes [] = syntax_at []
line_event form nodes (w ∷ ws) = if bytes_eq w (codes "end") then end_of ws else event_of form nodes w (w ∷ ws) ws

-- The head.

abbrev pub setting_at : List (List ℕ) → Read ℕ
setting_at ws = number_at 0 MOST_SETTING ws

-- three numbers
unfoldable pub three_at : List (List ℕ) → Read (ℕ × ℕ × ℕ)
three_at ws = do
  a ← setting_at ws
  b ← setting_at a.1
  c ← setting_at b.1
  Ok ((a.0, b.0, c.0), c.1)

abbrev pub form_of : List ℕ → Option ℕ
form_of w = if bytes_eq w (codes "1") then Some 1 else if bytes_eq w (codes "2") then Some 2 else None

unfoldable pub form_at : List (List ℕ) → Read ℕ
form_at ws = place form_of ws

-- the grain, a word of the second form; it is 0 under the first form
unfoldable pub grain_at : ℕ → List (List ℕ) → Read ℕ
grain_at form ws = if form == 2 then setting_at ws else Ok (0, ws)

-- the rate and the grain
unfoldable pub rate_at : ℕ → List (List ℕ) → Read (ℕ × ℕ × ℕ)
rate_at form ws = do
  num ← setting_at ws
  den ← setting_at num.1
  grain ← grain_at form den.1
  Ok ((num.0, den.0, grain.0), grain.1)

abbrev pub config_of : (ℕ × ℕ × ℕ) → (ℕ × ℕ × ℕ) → (ℕ × ℕ × ℕ) → Config
config_of a b c = record {
  lease = a.0;
  renew = a.1;
  quiesce = a.2;
  flush = b.0;
  demand = b.1;
  retry = b.2;
  num = c.0;
  den = c.1;
  grain = c.2;
}

unfoldable pub config_at : ℕ → List (List ℕ) → Read Config
config_at form ws = do
  a ← three_at ws
  b ← three_at a.1
  c ← rate_at form b.1
  Ok (config_of a.0 b.0 c.0, c.1)

-- a world has 1 to 16 clients, 1 to 4 servers, and disks from the number of servers to 8, of 1 to 4,096 blocks each
unfoldable pub counts_at : List (List ℕ) → Read Counts
counts_at ws = do
  clients ← number_at 1 16 ws
  servers ← number_at 1 4 clients.1
  disks ← number_at servers.0 8 servers.1
  blocks ← number_at 1 4096 disks.1
  Ok (record { clients = clients.0; servers = servers.0; disks = disks.0; blocks = blocks.0 }, blocks.1)

-- the settings, the counts and the form
unfoldable pub head_at : List (List ℕ) → Result (Config × Counts × ℕ) Fault
head_at ws = do
  form ← form_at ws
  config ← config_at form.0 form.1
  counts ← counts_at config.1
  none ← ends counts.1
  Ok (config.0, counts.0, form.0)
