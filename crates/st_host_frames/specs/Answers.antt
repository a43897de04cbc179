-- Answers as structs.
use Rattle.std.specs.Prelude.{◌≡◌, ℕ, Bool, true, false, List, [], length, map, take, ◌++◌, replicate, Result, Ok, Err}
use Rattle.st_base.specs.declared.names.NameRow.{NameRow}
use Rattle.st_base.specs.declared.rows.LostRow.{LostRow}
use Rattle.st_messages.specs.declared.answer.AppAnswer.{AppAnswer}
use Rattle.st_messages.specs.declared.answer.AppAnswer.TheVariants as answers
use Rattle.st_messages.specs.declared.message.Body.{Body}
use Rattle.st_messages.specs.declared.message.Body.TheVariants.{AppDone}
use Rattle.st_messages.specs.declared.message.Message.{Message}
use Rattle.st_host_frames.specs.Frame.{received}
use Rattle.st_host_frames.specs.Results.{◌>>=◌, Wrote}
use Rattle.st_host_frames.specs.declared.answer.Answered.{Answered}
use Rattle.st_host_frames.specs.declared.answer.TankAnswer.{TankAnswer}
use Rattle.st_host_frames.specs.declared.answer_rows.TankEntry.{TankEntry}
use Rattle.st_host_frames.specs.declared.answer_rows.TankLostPage.{TankLostPage}
use Rattle.st_host_frames.specs.declared.fault.FrameFault.{FrameFault}
use Rattle.st_host_frames.specs.declared.fault.HostFault.{HostFault}
use Rattle.st_host_frames.specs.declared.fault.HostFault.TheVariants as faults

-- the numbers of the wire
abbrev pub number_of : AppAnswer → ℕ
number_of answers.Written = 0
number_of (answers.Read bytes) = 1
number_of answers.Hard = 2
number_of answers.Cut = 3
number_of (answers.Named ino) = 4
number_of (answers.Listed rs) = 5
number_of (answers.Refused code) = 6
number_of answers.Quiesced = 17
number_of answers.NoFile = 18
number_of (answers.NoSpace free asked) = 19
number_of (answers.DiskFault command) = 20
number_of answers.OpsFull = 21
number_of (answers.Uncertain old new) = 22
number_of (answers.Lost rs) = 23
number_of answers.DirtyFull = 24
number_of answers.NotHolder = 25
number_of answers.TooManyLocks = 26

-- the numbers that an answer tells
abbrev pub first_of : AppAnswer → ℕ
first_of (answers.Named ino) = ino
first_of (answers.Refused code) = code
first_of (answers.NoSpace free asked) = free
first_of (answers.DiskFault command) = command
first_of (answers.Uncertain old new) = old
first_of a = 0

abbrev pub second_of : AppAnswer → ℕ
second_of (answers.NoSpace free asked) = asked
second_of (answers.Uncertain old new) = new
second_of a = 0

-- the bytes of the page that was read
abbrev pub page_of : AppAnswer → List ℕ
page_of (answers.Read bytes) = bytes
page_of a = []

-- how many rows it has
abbrev pub rows_of : AppAnswer → ℕ
rows_of (answers.Listed rs) = length rs
rows_of (answers.Lost rs) = length rs
rows_of a = 0

-- the answer of a message
abbrev pub answer_by : ℕ → Body → Result Answered HostFault
answer_by from (AppDone op a) = Ok (record { client = from; op = op; answer = a })
answer_by from body = Err faults.OtherKind

abbrev pub answered : Result Message FrameFault → Result Answered HostFault
answered (Ok m) = answer_by m.header.from m.body
answered (Err f) = Err (faults.Frame f)

-- The answer of a frame.
abbrev pub answer_in : List ℕ → Result Answered HostFault
answer_in frame = answered (received frame)

-- how it is shown
abbrev pub shown : Answered → TankAnswer
shown a = record {
  op = a.op;
  first = first_of a.answer;
  second = second_of a.answer;
  page = length (page_of a.answer);
  rows = rows_of a.answer;
  answer = number_of a.answer;
  client = a.client;
}

-- the answer is shown, with its page
pub record Shows (frame before after : List ℕ) (t : TankAnswer) : Type 0 where
  pub answer : Answered
  pub due : answer_in frame ≡ Ok answer
  pub is : t ≡ shown answer
  pub wrote : Wrote (page_of answer.answer) before after t.page

abbrev pub page_by : Result Answered HostFault → Result (List ℕ) HostFault
page_by r = r >>= λ a. Ok (page_of a.answer)

-- Rows. Zeros follow an entry's name, up to 64 bytes.
abbrev pub flag : Bool → ℕ
flag true = 1
flag false = 0

abbrev pub name_shown : List ℕ → List ℕ
name_shown name = take 64 (name ++ replicate 64 0)

abbrev pub entry_of : NameRow → TankEntry
entry_of r = record { length = length r.name; ino = r.ino; directory = flag r.directory; name = name_shown r.name }

abbrev pub lost_page_of : LostRow → TankLostPage
lost_page_of r = record { command = r.command; page = r.page.0 }

abbrev pub entries_of : AppAnswer → Result (List TankEntry) HostFault
entries_of (answers.Listed rs) = Ok (map entry_of rs)
entries_of a = Err faults.OtherKind

abbrev pub lost_pages_of : AppAnswer → Result (List TankLostPage) HostFault
lost_pages_of (answers.Lost rs) = Ok (map lost_page_of rs)
lost_pages_of a = Err faults.OtherKind

abbrev pub entries_by : Result Answered HostFault → Result (List TankEntry) HostFault
entries_by r = r >>= λ a. entries_of a.answer

abbrev pub lost_pages_by : Result Answered HostFault → Result (List TankLostPage) HostFault
lost_pages_by r = r >>= λ a. lost_pages_of a.answer
