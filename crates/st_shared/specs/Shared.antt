-- A file that several clients read and write without caches: each read and each write is a disk command of its own.
use Rattle.std.specs.Prelude.{ℕ, ◌+◌, Bool, true, false, not, ◌&&◌, nat_lt, if◌then◌else◌, List, [], ◌∷◌, ◌++◌, find, filter, map, Option, Some, None, Result, Ok, Err, ⊤}
use Rattle.st_base.specs.declared.ids.ClientId.{ClientId}
use Rattle.st_base.specs.declared.ids.PageNo.{PageNo}
use Rattle.st_base.specs.declared.disk.BlockAt.{BlockAt}
use Rattle.st_base.specs.declared.disk.Tag.{Tag}
use Rattle.st_base.specs.declared.disk.Command.{Command}
use Rattle.st_base.specs.declared.disk.Command.TheVariants as commands
use Rattle.st_rules.specs.declared.disks.Block.{Block}
use Rattle.st_rules.specs.declared.disks.DiskCommand.{DiskCommand}
use Rattle.st_rules.specs.declared.disks.Report.{Report}
use Rattle.st_rules.specs.declared.disks.Report.TheVariants as reports
use Rattle.st_rules.specs.declared.disks.CommandRefusal.{CommandRefusal}
use Rattle.st_rules.specs.Keys.{same_client}
use Rattle.st_rules.specs.Disks as rules
use Rattle.st_rules.specs.Disks.{Disks, command, fresh_disks, sample}
use Rattle.st_rules.specs.World.{numbered}
use Rattle.st_disk.specs.Calls.{as_told}
use Rattle.st_shared.specs.declared.members.Member.{Member}
use Rattle.st_shared.specs.declared.issuers.Issuer.{Issuer}
use Rattle.st_shared.specs.declared.refusal.SharedRefusal.{SharedRefusal}
use Rattle.st_shared.specs.declared.refusal.SharedRefusal.TheVariants.{Held, NotIn, Busy, Late, SharedBy, Stopped, NotStopped, Disk, NoPage, NoLock}

-- The state: the clients that are in, each running or stopped, in the order in which they came; the client with the lock row of
-- the file, if one has it, which is exclusive; whose each command is, by its number from 1; and one disk, on which block p is
-- page p.
pub record Shared : Type 0 where
  pub members : List Member
  pub holder : Option ClientId
  pub issuers : List Issuer
  pub disk : Disks

-- nobody is in, nobody has the lock, and nothing was written
abbrev pub fresh_shared : ℕ → Shared
fresh_shared blocks = record { members = []; holder = None; issuers = []; disk = fresh_disks 1 blocks }

-- Look-ups.

-- the member is this client
abbrev pub is_member : ClientId → Member → Bool
is_member c m = same_client m.client c

-- the client among those that are in
abbrev pub member_of : Shared → ClientId → Option Member
member_of s c = find (is_member c) s.members

-- the lesser of a client and one that may be there
abbrev pub lesser : ClientId → Option ClientId → ClientId
lesser c None = c
lesser c (Some d) = if nat_lt d.0 c.0 then d else c

-- the least client that is in
unfoldable pub least_member : List Member → Option ClientId
least_member [] = None
least_member (m ∷ ms) = Some (lesser m.client (least_member ms))

-- the client is in and stopped
abbrev pub is_stopped : Option Member → Bool
is_stopped None = false
is_stopped (Some m) = not m.running

-- the client has the lock row
abbrev pub is_holder : Option ClientId → ClientId → Bool
is_holder None c = false
is_holder (Some holder) c = same_client holder c

-- a report that is still to come
abbrev pub is_report_open : Report → Bool
is_report_open reports.Open = true
is_report_open report = false

-- the command was not reported
abbrev pub is_open : Option DiskCommand → Bool
is_open None = false
is_open (Some d) = is_report_open d.report

-- the command of this number is the client's, and was not reported
abbrev pub is_busy : Disks → ClientId → ℕ → Issuer → Bool
is_busy d c n i = same_client i.client c && is_open (command d n)

-- the least unreported command of the client, of those whose numbers are above n
unfoldable pub busy_above : Disks → ClientId → ℕ → List Issuer → Option ℕ
busy_above d c n [] = None
busy_above d c n (i ∷ issuers) = if is_busy d c (n + 1) i then Some (n + 1) else busy_above d c (n + 1) issuers

-- the least unreported command of the client
abbrev pub busy : Shared → ClientId → Option ℕ
busy s c = busy_above s.disk c 0 s.issuers

-- the client of the command expired since
abbrev pub is_expired : Option Issuer → Bool
is_expired None = false
is_expired (Some i) = i.expired

-- the client of the command stopped since
abbrev pub is_silenced : Option Issuer → Bool
is_silenced None = false
is_silenced (Some i) = i.stopped

-- Running: what only a client that is in and runs may do is refused if it is not in, and then if it is stopped.
unfoldable pub check_running : Option Member → ClientId → Result (Unit {0}) SharedRefusal
check_running None c = Err NotIn
check_running (Some m) c = if m.running then Ok tt else Err (Stopped c)

-- a rule after a check
unfoldable pub checked : Result (Unit {0}) SharedRefusal → Result Shared SharedRefusal → Result Shared SharedRefusal
checked (Ok u) rule = rule
checked (Err r) rule = Err r

-- Enter: refused if the client is in and stopped, and then if a client has the lock row. A client that is in stays in.
abbrev pub running : ClientId → Member
running c = record { client = c; running = true }

-- the client is in
unfoldable pub entered : Shared → ClientId → Option Member → Shared
entered s c None = record s { members = s.members ++ running c ∷ [] }
entered s c (Some m) = s

-- nobody may have the lock row
unfoldable pub enter_unlocked : Shared → ClientId → Option ClientId → Result Shared SharedRefusal
enter_unlocked s c None = Ok (entered s c (member_of s c))
enter_unlocked s c (Some holder) = Err (Held holder)

-- a client enters
unfoldable pub enter : Shared → ClientId → Result Shared SharedRefusal
enter s c = if is_stopped (member_of s c) then Err (Stopped c) else enter_unlocked s c s.holder

-- Leave: refused if the client is not in, then if it is stopped, and then if a command of it was not reported.
abbrev pub without_member : ClientId → List Member → List Member
without_member c ms = filter (λ m. not (is_member c m)) ms

-- the client is out
unfoldable pub left : Shared → ClientId → Shared
left s c = record s { members = without_member c s.members }

-- no command may be unreported
unfoldable pub leave_idle : Shared → ClientId → Option ℕ → Result Shared SharedRefusal
leave_idle s c None = Ok (left s c)
leave_idle s c (Some n) = Err (Busy n)

-- a client leaves
unfoldable pub leave : Shared → ClientId → Result Shared SharedRefusal
leave s c = checked (check_running (member_of s c) c) (leave_idle s c (busy s c))

-- Lock: refused if a client is in, of which the least is named, and then if another client has the lock row.
unfoldable pub locked : Shared → ClientId → Shared
locked s c = record s { holder = Some c }

-- no other client may have the lock row
unfoldable pub lock_free : Shared → ClientId → Option ClientId → Result Shared SharedRefusal
lock_free s c None = Ok (locked s c)
lock_free s c (Some holder) = if same_client holder c then Ok s else Err (Held holder)

-- nobody may be in
unfoldable pub lock_alone : Shared → ClientId → Option ClientId → Result Shared SharedRefusal
lock_alone s c None = lock_free s c s.holder
lock_alone s c (Some member) = Err (SharedBy member)

-- a client takes the exclusive lock
unfoldable pub lock : Shared → ClientId → Result Shared SharedRefusal
lock s c = lock_alone s c (least_member s.members)

-- Unlock: refused if the client has no lock row.
unfoldable pub unlocked : Shared → Shared
unlocked s = record s { holder = None }

-- a client gives its lock back
unfoldable pub unlock : Shared → ClientId → Result Shared SharedRefusal
unlock s c = if is_holder s.holder c then Ok (unlocked s) else Err NoLock

-- Crash: refused if the client is not in, and then if it is stopped. It stays in, and stops, also for its commands.
abbrev pub stop_member : ClientId → Member → Member
stop_member c m = if is_member c m then record m { running = false } else m

-- its client stopped since
abbrev pub stop_issuer : ClientId → Issuer → Issuer
stop_issuer c i = if same_client i.client c then record i { stopped = true } else i

-- the client is stopped
unfoldable pub crashed : Shared → ClientId → Shared
crashed s c = record s { members = map (stop_member c) s.members; issuers = map (stop_issuer c) s.issuers }

-- a client crashes
unfoldable pub crash : Shared → ClientId → Result Shared SharedRefusal
crash s c = checked (check_running (member_of s c) c) (Ok (crashed s c))

-- Expire: refused if the client is not in, or runs. It is out, and its commands come too late from now on.
abbrev pub expire_issuer : ClientId → Issuer → Issuer
expire_issuer c i = if same_client i.client c then record i { expired = true } else i

-- the client is expired
unfoldable pub expired : Shared → ClientId → Shared
expired s c = record s { members = without_member c s.members; issuers = map (expire_issuer c) s.issuers }

-- a client expires
unfoldable pub expire : Shared → ClientId → Result Shared SharedRefusal
expire s c = if is_stopped (member_of s c) then Ok (expired s c) else Err (NotStopped c)

-- Submitting: a write and a read are refused if the client is not in, then if it is stopped, and then if there is no such
-- page. Otherwise it is the last command.
abbrev pub block_of : PageNo → BlockAt
block_of page = record { disk = record { 0 = 1 }; block = page.0 }

-- the tag of a page of the file, which is file 2 of server 1
abbrev pub tag_of : PageNo → Tag
tag_of page = record { file = record { server = record { 0 = 1 }; ino = 2 }; page = page; birth = 1 }

-- a new command's client
abbrev pub issuer : ClientId → Issuer
issuer c = record { client = c; stopped = false; expired = false }

-- the command is submitted
unfoldable pub submitted : Shared → ClientId → Command → Shared
submitted s c what = record s { issuers = s.issuers ++ issuer c ∷ []; disk = rules.submit s.disk what }

-- the page must be one of the file
unfoldable pub check_page : Shared → PageNo → Result (Unit {0}) SharedRefusal
check_page s page = if nat_lt page.0 s.disk.blocks then Ok tt else Err (NoPage page)

-- one check after another
unfoldable pub both : Result (Unit {0}) SharedRefusal → Result (Unit {0}) SharedRefusal → Result (Unit {0}) SharedRefusal
both (Ok u) check = check
both (Err r) check = Err r

-- whether a client may submit a command on a page
unfoldable pub check_submit : Shared → ClientId → PageNo → Result (Unit {0}) SharedRefusal
check_submit s c page = both (check_running (member_of s c) c) (check_page s page)

-- a client submits a command on a page
unfoldable pub submit : Shared → ClientId → PageNo → Command → Result Shared SharedRefusal
submit s c page what = checked (check_submit s c page) (Ok (submitted s c what))

-- a client writes a page
abbrev pub write : Shared → ClientId → PageNo → List ℕ → Result Shared SharedRefusal
write s c page bytes = submit s c page (commands.Write (block_of page) (tag_of page) bytes)

-- a client reads a page
abbrev pub read : Shared → ClientId → PageNo → Result Shared SharedRefusal
read s c page = submit s c page (commands.Read (block_of page))

-- Effect: refused if the disk refuses it, and then if the command's client expired since.
unfoldable pub with_disk : Shared → Disks → Shared
with_disk s d = record s { disk = d }

-- the client may not have expired since
unfoldable pub effect_timely : Shared → ℕ → Result Disks CommandRefusal → Result Shared SharedRefusal
effect_timely s n (Err r) = Err (Disk (as_told r))
effect_timely s n (Ok d) = if is_expired (numbered s.issuers n) then Err (Late n) else Ok (with_disk s d)

-- the command of this number has its effect
unfoldable pub effect : Shared → ℕ → Result Shared SharedRefusal
effect s n = effect_timely s n (rules.effect s.disk n)

-- Report: refused if the disk refuses it. It ends the command.
unfoldable pub reported : Shared → Result Disks CommandRefusal → Result Shared SharedRefusal
reported s (Err r) = Err (Disk (as_told r))
reported s (Ok d) = Ok (with_disk s d)

-- the command of this number is reported, with success or failure
unfoldable pub report : Shared → ℕ → Bool → Result Shared SharedRefusal
report s n ok = reported s (rules.done s.disk n ok)

-- Answers: what a call tells when it is not refused, and its refusal.
pub data Answer : Type 0 where
  Done : Answer
  Number : (n : ℕ) → Answer
  Hard : Answer
  Bytes : (bytes : List ℕ) → Answer
  Failed : Answer
  Silent : Answer
  Refused : (r : SharedRefusal) → Answer

-- a read that had its effect has the block that it found, and a write has none
abbrev pub found_answer : Option Block → Answer
found_answer None = Hard
found_answer (Some b) = Bytes b.bytes

-- nothing is answered about a command that failed
abbrev pub ended_answer : Bool → Option Block → Answer
ended_answer ok found = if ok then found_answer found else Failed

-- a client that has stopped since gets no report
abbrev pub report_answer : Shared → ℕ → Bool → Answer
report_answer s n ok = if is_silenced (numbered s.issuers n) then Silent else ended_answer ok (sample s.disk n)

-- opens all of this file
unfoldable pub shared_open : ⊤
unfolding least_member busy_above check_running checked entered enter_unlocked enter left leave_idle leave locked lock_free lock_alone lock unlocked unlock crashed crash expired expire submitted check_page both check_submit submit with_disk effect_timely effect reported report
shared_open = tt
