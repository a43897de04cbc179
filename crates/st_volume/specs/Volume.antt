-- The volume: what the applications of all clients see of the servers' trees and of the pages of
-- their files, as one sequential file system. It has no locks, leases, messages or machines.
use Rattle.std.specs.Prelude.{ℕ, zero, ◌+◌, Bool, true, false, ◌&&◌, ◌||◌, not, ◌==◌, nat_lt}
use Rattle.std.specs.Prelude.{nat_le, if◌then◌else◌, List, [], ◌∷◌, ◌++◌, length, filter, find, map}
use Rattle.std.specs.Prelude.{pred, set, slice_get, Option, Some, None, is_some, option_map}
use Rattle.std.specs.Prelude.{option_and_then, filter_map, zip, bytes_eq}
use Rattle.std.specs.List.{list_all, list_any}
use Rattle.st_base.specs.declared.ids.ClientId.{ClientId}
use Rattle.st_base.specs.declared.ids.ServerId.{ServerId}
use Rattle.st_base.specs.declared.ids.FileId.{FileId}
use Rattle.st_base.specs.declared.ids.PageNo.{PageNo}
use Rattle.st_base.specs.declared.names.NameAsk.TheVariants as names
use Rattle.st_base.specs.declared.names.NameRow.{NameRow}
use Rattle.st_base.specs.declared.rows.LostRow.{LostRow}
use Rattle.st_messages.specs.declared.answer.AppAnswer.{AppAnswer}
use Rattle.st_messages.specs.declared.answer.AppAnswer.TheVariants as answers
use Rattle.st_messages.specs.declared.ask.Ask.{Ask}
use Rattle.st_messages.specs.declared.ask.Ask.TheVariants as asks
use Rattle.st_volume.specs.declared.step.VolumeStep.{VolumeStep}
use Rattle.st_volume.specs.declared.step.VolumeStep.TheVariants as steps
use Rattle.st_volume.specs.declared.step.Fate.{Fate}
use Rattle.st_volume.specs.declared.step.Fate.TheVariants as fates
use Rattle.st_volume.specs.Pages.{Entry, same_file, same_place, is_any, is_at}
use Rattle.st_volume.specs.Pages.{place_of, touches, is_by, is_by_on, is_by_at, is_clear}
use Rattle.st_volume.specs.Pages.{is_open, is_dropped, is_cause, is_settled, content}
use Rattle.st_volume.specs.Pages.{failed_up_to}
use Rattle.st_volume.specs.Trees.{Tree, Made, does, entry_at, is_file, fresh_tree}

-- An ask that is not answered: its client and number; its result, once it has taken effect; whether since it came its file was missing at some moment, its
-- server was full, and another file had the name that it should remove; and which disk commands of its client failed it since.
pub record Pending : Type 0 where
  pub client : ClientId
  pub op : ℕ
  pub ask : Ask
  pub result : Option AppAnswer
  pub missed : Bool
  pub full : Bool
  pub other : Bool
  pub faults : List ℕ

-- the file that an ask names; inode 0 is none. A remove names the file that it means, or 0
abbrev pub file_of : Ask → FileId
file_of (asks.Write f p bytes) = f
file_of (asks.Patch f p at bytes) = f
file_of (asks.Read f p) = f
file_of (asks.Sync f) = f
file_of (asks.Cut f p) = f
file_of (asks.Name s (names.Remove dir name ino)) = record { server = s; ino = ino }
file_of (asks.Name s ask) = record { server = s; ino = 0 }

abbrev pub server_of : Ask → ServerId
server_of ask = (file_of ask).server

-- Kinds of asks.
abbrev pub is_sync : Ask → Bool
is_sync (asks.Sync f) = true
is_sync ask = false

abbrev pub is_sync_of : FileId → Ask → Bool
is_sync_of f ask = is_sync ask && same_file f (file_of ask)

abbrev pub is_cut_or_name : Ask → Bool
is_cut_or_name (asks.Cut f p) = true
is_cut_or_name (asks.Name s ask) = true
is_cut_or_name ask = false

-- a failed read of a server's disks fails reads and patches there
abbrev pub is_read_of : ServerId → Ask → Bool
is_read_of s (asks.Read f p) = f.server.0 == s.0
is_read_of s (asks.Patch f p at bytes) = f.server.0 == s.0
is_read_of s ask = false

-- Whose an ask is.
abbrev pub is_of_client : ClientId → Pending → Bool
is_of_client c a = a.client.0 == c.0

abbrev pub is_ask : ClientId → ℕ → Pending → Bool
is_ask c op a = is_of_client c a && (a.op == op)

abbrev pub is_ask_at : ServerId → Pending → Bool
is_ask_at s a = (server_of a.ask).0 == s.0

-- One reply may answer several asks of a client for one file or one page: an ask that comes while
-- another one is open shares what that one noticed.
abbrev pub is_full_for : Ask → Pending → Bool
is_full_for ask a = a.full && is_any (λ x. is_at x a.ask) (place_of ask)

-- Order: of the asks of one client, a write takes effect before a later write or patch of its page;
-- a change before a later cut or remove of its file; a cut or remove before a later one of its
-- file; and an ask for a name that needs no file before a later one at its server.
abbrev pub cuts_file : FileId → Ask → Bool
cuts_file f ask = is_cut_or_name ask && same_file f (file_of ask)

abbrev pub is_sooner : Ask → Ask → Bool
is_sooner (asks.Write f p bytes) b = is_at (f, p) b || cuts_file f b
is_sooner a b = (is_some (place_of a) || is_cut_or_name a) && cuts_file (file_of a) b

-- an ask that must take effect before this one, or be answered
abbrev pub is_before : Pending → Pending → Bool
is_before a b =
    (is_of_client a.client b && nat_lt b.op a.op)
    && (not (is_some b.result) && is_sooner b.ask a.ask)

-- The volume: the servers' trees, by number; the log; how many of its entries have had their line;
-- the open asks; the orphaned ones: no client waits for them any longer, and they may still take
-- effect, once; who was asked so far, and of which file; the servers that started again, each as
-- often as it did; for how many pages each server has room, and for which pages room was wanted.
pub record Volume : Type 0 where
  pub trees : List Tree
  pub log : List Entry
  pub lines : ℕ
  pub pending : List Pending
  pub orphans : List Pending
  pub asked : List (ClientId × FileId)
  pub starts : List ServerId
  pub sizes : List ℕ
  pub claims : List (FileId × PageNo)

-- at the start, by how many pages each server has room for
abbrev pub fresh_volume : List ℕ → Volume
fresh_volume sizes =
    record {
      trees = map (λ size. fresh_tree) sizes;
      log = [];
      lines = 0;
      pending = [];
      orphans = [];
      asked = [];
      starts = [];
      sizes = sizes;
      claims = [];
    }

-- what goes by a number from 1
abbrev pub numbered : {A : Type 0} → List A → ℕ → Option A
numbered xs i = if i == 0 then None else slice_get xs (pred i)

abbrev pub tree_of : Volume → ServerId → Option Tree
tree_of v s = numbered v.trees s.0

-- the file exists
abbrev pub exists : Volume → FileId → Bool
exists v f = is_any (is_file f.ino) (tree_of v f.server)

-- the file exists, and no other client has open entries of it
abbrev pub is_free : Volume → ClientId → FileId → Bool
is_free v c f = exists v f && list_all (is_clear c f) v.log

-- the epoch of a server: one more than it was started again
abbrev pub epoch : Volume → ServerId → ℕ
epoch v s = length (filter (λ t. t.0 == s.0) v.starts) + 1

-- each once
unfoldable pub distinct : {A : Type 0} → (A → A → Bool) → List A → List A
distinct same [] = []
distinct same (x ∷ xs) = (if list_any (same x) xs then [] else x ∷ []) ++ distinct same xs

-- the pages that these asks write or patch, and these
abbrev pub with_places : List Ask → List (FileId × PageNo) → List (FileId × PageNo)
with_places asks xs = distinct same_place (filter_map place_of asks ++ xs)

abbrev pub places_at : ServerId → List (FileId × PageNo) → List (FileId × PageNo)
places_at s xs = filter (λ x. x.0.server.0 == s.0) xs

-- Room: a page takes room of its server from the ask to write it on, until it is cut. A server is full if more pages want room than it has.
abbrev pub is_full : Volume → ServerId → Bool
is_full v s = is_any (λ size. nat_lt size (length (places_at s v.claims))) (numbered v.sizes s.0)

-- What open asks notice: that their file doesn't exist, that their server is full, and that another
-- file has the name to be removed.
abbrev pub names_other : Ask → Tree → Bool
names_other (asks.Name s (names.Remove dir name ino)) t =
    is_any (λ e. not (e.directory || (e.ino == ino))) (entry_at t dir name)
names_other ask t = false

abbrev pub noticing : Volume → Pending → Pending
noticing v a =
    record a {
      missed = a.missed || (nat_lt 0 (file_of a.ask).ino && not (exists v (file_of a.ask)));
      full = a.full || is_full v (server_of a.ask);
      other = a.other || is_any (names_other a.ask) (tree_of v (server_of a.ask));
    }

abbrev pub notice : Volume → Volume
notice v = record v { pending = map (noticing v) v.pending }

-- 1. An ask arrives: it has its client's next number. At most 16 are open; one more is answered
-- `opsfull` before the next one arrives.
abbrev pub open_of : Volume → ClientId → List Pending
open_of v c = filter (is_of_client c) v.pending

abbrev pub new_ask : Volume → ClientId → Ask → Pending
new_ask v c ask =
    record {
      client = c;
      op = length (filter (λ x. x.0.0 == c.0) v.asked) + 1;
      ask = ask;
      result = None;
      missed = list_any (λ a. same_file (file_of a.ask) (file_of ask) && a.missed) (open_of v c);
      full = list_any (is_full_for ask) (open_of v c);
      other = false;
      faults = [];
    }

abbrev pub arrived : Volume → ClientId → Ask → Volume
arrived v c ask =
    record v {
      pending = v.pending ++ new_ask v c ask ∷ [];
      asked = (c, file_of ask) ∷ v.asked;
      claims = with_places (ask ∷ []) v.claims;
    }

-- 2. A write, a patch or a cut takes effect if its file exists, and no other client has open entries of it: its entry joins the log. A cut is hard at once;
--    it frees the room of its pages, except for those that open asks will write.
abbrev pub entry : ClientId → Ask → Fate → Entry
entry c what fate =
    record { client = c; what = what; fate = fate; crashed = false; failed = 0; told = false }

abbrev pub with_entry : Volume → FileId → Entry → Option Volume
with_entry v f e = if is_free v e.client f then Some (record v { log = v.log ++ e ∷ [] }) else None

abbrev pub freed : Volume → Ask → List (FileId × PageNo)
freed v cut = with_places (map (λ a. a.ask) v.pending) (filter (λ x. not (touches x cut)) v.claims)

abbrev pub cuts : Volume → ClientId → FileId → PageNo → Option Volume
cuts v c f p =
    with_entry (record v { claims = freed v (asks.Cut f p) }) f (entry c (asks.Cut f p) fates.Hard)

-- 3. An ask for a name takes effect: it does what trees do. A remove of a file cuts it.
abbrev pub cuts_removed : Volume → ClientId → ServerId → Option ℕ → Option Volume
cuts_removed v c s None = Some v
cuts_removed v c s (Some ino) = cuts v c (record { server = s; ino = ino }) (record { 0 = 0 })

-- what an effect leaves, and its result
abbrev pub with_result : AppAnswer → Option Volume → Option (Volume × AppAnswer)
with_result answer v = option_map (λ w. (w, answer)) v

abbrev pub with_tree : ServerId → Tree → Volume → Volume
with_tree s t v = record v { trees = set v.trees (pred s.0) t }

abbrev pub made : Volume → ClientId → ServerId → Made → Option (Volume × AppAnswer)
made v c s (t, (answer, removed)) =
    with_result answer (option_map (with_tree s t) (cuts_removed v c s removed))

abbrev pub effect : Volume → ClientId → Ask → Option (Volume × AppAnswer)
effect v c (asks.Cut f p) = with_result answers.Cut (cuts v c f p)
effect v c (asks.Name s ask) =
    option_and_then (made v c s) (option_and_then (λ t. does t ask) (tree_of v s))
effect v c ask =
    option_and_then (λ x. with_result answers.Written (with_entry v x.0 (entry c ask fates.Open)))
    (place_of ask)

-- An ask takes effect once, in its order, and an open one keeps its result. What else is orphaned
-- of its client at its server no longer takes effect.
abbrev pub without_older : Pending → List Pending → List Pending
without_older a orphans =
    filter (λ b. not (is_of_client a.client b && is_ask_at (server_of a.ask) b)) orphans

abbrev pub resulting : Pending → AppAnswer → Pending → Pending
resulting a answer b = if is_ask a.client a.op b then record b { result = Some answer } else b

abbrev pub done : Pending → Volume × AppAnswer → Volume
done a (v, answer) =
    record v { pending = map (resulting a answer) v.pending; orphans = without_older a v.orphans }

abbrev pub takes : Volume → Pending → Option Volume
takes v a =
    if is_some a.result || list_any (is_before a) v.pending
    then None else option_map (done a) (effect v a.client a.ask)

-- 4. An open ask is answered, and closed. The answer is its result,
abbrev pub is_row : NameRow → NameRow → Bool
is_row a b =
    ((a.ino == b.ino) && bytes_eq a.name b.name)
    && ((a.directory && b.directory) || not (a.directory || b.directory))

abbrev pub are_rows : List NameRow → List NameRow → Bool
are_rows as_ bs = (length as_ == length bs) && list_all (λ x. is_row x.0 x.1) (zip as_ bs)

abbrev pub is_result : AppAnswer → AppAnswer → Bool
is_result answers.Written answers.Written = true
is_result answers.Cut answers.Cut = true
is_result (answers.Named ino) (answers.Named n) = ino == n
is_result (answers.Listed rows) (answers.Listed told) = are_rows rows told
is_result (answers.Refused code) (answers.Refused n) = code == n
is_result result answer = false

-- or `uncertain`, of a cut or a name: with the epoch in which it was sent, and a later one of its
-- server, or 0;
abbrev pub is_uncertain : Volume → Ask → ℕ → ℕ → Bool
is_uncertain v ask old new =
    (is_cut_or_name ask && (nat_lt 0 old && nat_le old (epoch v (server_of ask))))
    && ((new == 0) || (nat_lt old new && nat_le new (epoch v (server_of ask))))

-- or it has taken no effect, and is answered `read`: the bytes that the page contains now;
abbrev pub is_read : Volume → ClientId → List ℕ → Ask → Bool
is_read v c bytes (asks.Read f p) = is_free v c f && bytes_eq bytes (content v.log (f, p))
is_read v c bytes ask = false

-- `hard`: each of the client's entries of the file is hard; or was dropped, and the client told so;
-- or the client crashed since;
abbrev pub is_hard : Volume → Pending → Bool
is_hard v a =
    is_sync a.ask && list_all (λ e. is_settled e || not (is_by_on a.client (file_of a.ask) e)) v.log

-- `lost`: each row names a page and a command that carried an entry of the client and failed, of
-- which it was not told; the pages rise; and unless these are 1,024, no dropped entry is left;
abbrev pub tell : (Entry → Bool) → Entry → Entry
tell test e = record e { told = e.told || test e }

abbrev pub is_told : ClientId → FileId → List LostRow → Entry → Bool
is_told c f rows e =
    list_any (λ r. is_by_at c (f, r.page) e && (is_dropped e.fate || (e.failed == r.command))) rows

abbrev pub is_untold : ℕ → Entry → Bool
is_untold number e = is_cause (Some number) e && not (e.told || e.crashed)

abbrev pub is_lost_row : Volume → ClientId → FileId → LostRow → Bool
is_lost_row v c f r = list_any (λ e. is_by_at c (f, r.page) e && is_untold r.command e) v.log

unfoldable pub are_rising : List LostRow → Bool
are_rising [] = true
are_rising (r ∷ rs) = list_all (λ x. nat_lt r.page.0 x.page.0) rs && are_rising rs

abbrev pub is_left : ClientId → FileId → List LostRow → Entry → Bool
is_left c f rows e =
    is_by_on c f e && (is_dropped e.fate && not (e.crashed || (e.told || is_told c f rows e)))

abbrev pub is_lost : Volume → ClientId → FileId → List LostRow → Bool
is_lost v c f rows =
    (nat_lt 0 (length rows) && (are_rising rows && list_all (is_lost_row v c f) rows))
    && (nat_le 1024 (length rows) || not (list_any (is_left c f rows) v.log))

-- `dirtyfull`: 64 other pages of the server were written by the client since it crashed last, were
-- not dropped, and no `hard` told of them;
abbrev pub may_be_dirty : ClientId → Entry → Bool
may_be_dirty c e = is_by c e && not (e.crashed || (e.told || is_dropped e.fate))

abbrev pub is_dirty_full : Volume → Pending → Bool
is_dirty_full v a =
    is_some (place_of a.ask) && nat_lt 64 (length (places_at (server_of a.ask)
    (with_places (a.ask ∷ map (λ e. e.what) (filter (may_be_dirty a.client) v.log)) [])))

-- `toomanylocks`: the client was asked of 1,024 other files of the server;
abbrev pub is_lockable : ClientId → ServerId → ClientId × FileId → Bool
is_lockable c s x = (x.0.0 == c.0) && ((x.1.server.0 == s.0) && nat_lt 0 x.1.ino)

abbrev pub is_too_many : Volume → Pending → Bool
is_too_many v a =
    (not (is_sync a.ask) && nat_lt 0 (file_of a.ask).ino)
    && nat_lt 1024 (length (distinct same_file
    (map (λ x. x.1) (filter (is_lockable a.client (server_of a.ask)) v.asked))))

-- and so on.
abbrev pub is_answer : Volume → Pending → AppAnswer → Bool
is_answer v a (answers.Read bytes) = is_read v a.client bytes a.ask
is_answer v a answers.Hard = is_hard v a
is_answer v a (answers.Lost rows) = is_sync a.ask && is_lost v a.client (file_of a.ask) rows
is_answer v a answers.Quiesced = not (is_sync a.ask) || is_hard v a
is_answer v a answers.NoFile =
    not (is_some (tree_of v (server_of a.ask))) || (a.missed && not (is_sync a.ask))
is_answer v a (answers.NoSpace n m) = (a.full && is_some (place_of a.ask)) && ((n == 0) && (m == 1))
is_answer v a (answers.DiskFault number) = list_any (λ n. n == number) a.faults
is_answer v a answers.OpsFull = length (filter (λ b. nat_lt b.op a.op) (open_of v a.client)) == 16
is_answer v a (answers.Uncertain old new) = is_uncertain v a.ask old new
is_answer v a answers.DirtyFull = is_dirty_full v a
is_answer v a answers.NotHolder = a.other
is_answer v a answers.TooManyLocks = is_too_many v a
is_answer v a answer = false

abbrev pub answers_so : Volume → Pending → AppAnswer → Option AppAnswer → Bool
answers_so v a answer None = is_answer v a answer
answers_so v a (answers.Uncertain old new) (Some result) = is_uncertain v a.ask old new
answers_so v a answer (Some result) = is_result result answer

-- What an answer leaves: after `hard` and `lost` the client is informed; a read ends the older orphans; and an ask that is uncertain while its epoch lasts, and
-- has not taken effect, is orphaned.
abbrev pub orphaned : Volume → Pending → ℕ → List Pending
orphaned v a old =
    if is_some a.result || not (old == epoch v (server_of a.ask)) then [] else a ∷ []

abbrev pub after_answer : Volume → Pending → AppAnswer → Volume
after_answer v a answers.Hard =
    record v { log = map (tell (is_by_on a.client (file_of a.ask))) v.log }
after_answer v a (answers.Lost rows) =
    record v { log = map (tell (is_told a.client (file_of a.ask) rows)) v.log }
after_answer v a (answers.Read bytes) = record v { orphans = without_older a v.orphans }
after_answer v a (answers.Uncertain old zero) =
    record v { orphans = v.orphans ++ orphaned v a old }
after_answer v a answer = v

abbrev pub closed : Pending → Volume → Volume
closed a v = record v { pending = filter (λ b. not (is_ask a.client a.op b)) v.pending }

abbrev pub answered : Volume → AppAnswer → Pending → Option Volume
answered v answer a =
    if answers_so v a answer a.result then Some (closed a (after_answer v a answer)) else None

-- 5. and 6. An open entry becomes hard, or is dropped.
abbrev pub ends : (Entry → Bool) → Fate → Entry → Option Entry
ends test fate e = if is_open e.fate && test e then Some (record e { fate = fate }) else None

abbrev pub with_changed : Volume → ℕ → Entry → Volume
with_changed v i e = record v { log = set v.log (pred i) e }

abbrev pub with_fate : Volume → ℕ → (Entry → Bool) → Fate → Option Volume
with_fate v i test fate =
    option_map (with_changed v i) (option_and_then (ends test fate) (numbered v.log i))

-- 7. A client crashes: its open asks are closed without an answer, and its cuts and names that have
-- not taken effect are orphaned.
abbrev pub crash_of : ClientId → Entry → Entry
crash_of c e = record e { crashed = e.crashed || is_by c e }

abbrev pub crashed : Volume → ClientId → Volume
crashed v c =
    record v {
      log = map (crash_of c) v.log;
      pending = filter (λ a. not (is_of_client c a)) v.pending;
      orphans =
          v.orphans ++ filter (λ a. is_cut_or_name a.ask && not (is_some a.result)) (open_of v c);
    }

-- A server starts again, in its next epoch: what is orphaned there no longer takes effect.
abbrev pub restarted : Volume → ServerId → Volume
restarted v s =
    record v { starts = s ∷ v.starts; orphans = filter (λ a. not (is_ask_at s a)) v.orphans }

-- 8. A client is told that a command failed: a write that carried an entry fails the syncs of its
-- file, and a read the reads and patches of its server.
abbrev pub fails : ClientId → ℕ → (Ask → Bool) → Pending → Pending
fails c number test a =
    if is_of_client c a && test a.ask then record a { faults = number ∷ a.faults } else a

abbrev pub failing : Volume → ClientId → ℕ → (Ask → Bool) → Volume
failing v c number test = record v { pending = map (fails c number test) v.pending }

abbrev pub failed : Volume → ClientId → ℕ → ℕ → FileId × PageNo → Volume
failed v c n i x = failing (record v { log = failed_up_to i c n x v.log }) c n (is_sync_of x.0)

-- The line of an entry: it is the next one that had none, and the line tells all of it.
abbrev pub same_change : Ask → Ask → Bool
same_change (asks.Write f p a) (asks.Write g q b) = same_place (f, p) (g, q) && bytes_eq a b
same_change (asks.Patch f p i a) (asks.Patch g q j b) =
    same_place (f, p) (g, q) && ((i == j) && bytes_eq a b)
same_change (asks.Cut f p) (asks.Cut g q) = same_place (f, p) (g, q)
same_change a b = false

abbrev pub tells : Volume → ℕ → (Entry → Bool) → Option Volume
tells v i test =
    if (i == v.lines + 1) && is_any test (numbered v.log i)
    then Some (record v { lines = i }) else None

-- A step of the volume, if it may be taken. After an entry joined the log its line comes next.
abbrev pub acts : Volume → VolumeStep → Option Volume
acts v (steps.Asked c ask) = if nat_le (length (open_of v c)) 16 then Some (notice (arrived v c ask)) else None
acts v (steps.TakesEffect c op) = option_map notice (option_and_then (takes v) (find (is_ask c op) (v.pending ++ v.orphans)))
acts v (steps.Answered c op answer) = option_and_then (answered v answer) (find (is_ask c op) v.pending)
acts v (steps.Hardened i) = with_fate v i (λ e. true) fates.Hard
acts v (steps.Dropped i cause) = with_fate v i (is_cause cause) fates.Dropped
acts v (steps.Crashed c) = Some (crashed v c)
acts v (steps.Restarted s) = Some (restarted v s)
acts v (steps.WriteFailed c number i) =
    option_map (failed v c number i) (option_and_then (λ e. place_of e.what) (numbered v.log i))
acts v (steps.ReadFailed c s number) = Some (failing v c number (is_read_of s))
acts v (steps.Joined i c what) = None

abbrev pub step : Volume → VolumeStep → Option Volume
step v (steps.Joined i c what) =
    tells v i (λ e. same_change e.what what && not (is_any (λ d. not (is_by d e)) c))
step v it = if v.lines == length v.log then acts v it else None

-- Steps, one after another.
unfoldable pub run : List VolumeStep → Volume → Option Volume
run [] v = Some v
run (it ∷ rest) v = option_and_then (run rest) (step v it)
