-- Reading a message from left to right, with the first fault that is met.
use Rattle.std.specs.Prelude.{ℕ, List, length, ◌-◌, ◌==◌, Option, Some, None, Result, Ok, Err, if◌then◌else◌}
use Rattle.st_base.specs.declared.disk.BlockAt.{BlockAt}
use Rattle.st_base.specs.declared.disk.Command.{Command}
use Rattle.st_base.specs.declared.disk.Command.TheVariants as commands
use Rattle.st_base.specs.declared.disk.Tag.{Tag}
use Rattle.st_base.specs.declared.ids.FileId.{FileId}
use Rattle.st_base.specs.declared.ids.PageNo.{PageNo}
use Rattle.st_messages.specs.declared.answer.AppAnswer.{AppAnswer}
use Rattle.st_messages.specs.declared.answer.AppAnswer.TheVariants as answers
use Rattle.st_messages.specs.declared.ask.Ask.{Ask}
use Rattle.st_messages.specs.declared.ask.Ask.TheVariants as asks
use Rattle.st_codec_fields.specs.declared.fault.Fault.{Fault}
use Rattle.st_codec_fields.specs.declared.fault.Fault.TheVariants as faults
use Rattle.st_messages.specs.declared.kind.Kind.{Kind}
use Rattle.st_messages.specs.declared.kind.Kind.TheVariants as kinds
use Rattle.st_messages.specs.declared.kind.Need.{Need}
use Rattle.st_messages.specs.declared.kind.Party.{Party}
use Rattle.st_messages.specs.declared.message.Body.{Body}
use Rattle.st_messages.specs.declared.message.Body.TheVariants as bodies
use Rattle.st_messages.specs.declared.message.DiskResult.{DiskResult}
use Rattle.st_messages.specs.declared.message.DiskResult.TheVariants as results
use Rattle.st_messages.specs.declared.message.Header.{Header}
use Rattle.st_messages.specs.declared.message.Message.{Message}
use Rattle.st_messages.specs.declared.message.Why.{Why}
use Rattle.st_messages.specs.declared.message.Why.TheVariants as whys
use Rattle.st_codec.specs.declared.refusal.CodecRefusal.{CodecRefusal}
use Rattle.st_codec.specs.declared.refusal.CodecRefusal.TheVariants as refusals
use Rattle.st_messages.specs.Kinds.{between, includes, allows, sender, receiver, life_of, epoch_of, request_of, stamp_of}
use Rattle.st_codec.specs.KindBytes.{kind_of}
use Rattle.st_messages.specs.Ranges.{is_count}
use Rattle.st_codec_fields.specs.Decoder.{◌>>=◌, Reader, seq, made, checked, nothing, byte_at, text_at, word16_at, word32_at, word64_at, word16_in, ino_at, grant_at, page_at, mode_at, whole_page_at, patch_bytes_at, file_at, any_block_at, tag_at, counted, locks_at, extents_at, lost_at, names_at, chosen, name_op_at, name_ask_at, name_reply_at}

unfoldable pub file_page_at : Reader (FileId × PageNo)
file_page_at bytes = seq (file_at 1) (λ f. page_at 0) bytes

unfoldable pub write_at : Reader Ask
write_at bytes = made (λ t. asks.Write t.0 t.1.0 t.1.1) (seq (file_at 1) (λ f. seq (page_at 0) (λ p. whole_page_at))) bytes

unfoldable pub ask_names_at : Reader Ask
ask_names_at bytes = made (λ t. asks.Name (record { 0 = t.0 }) t.1) (seq (word16_in 1 65535) (λ s. name_ask_at)) bytes

-- the asks of version 1
unfoldable pub ask_numbered : ℕ → ℕ → Reader Ask
ask_numbered n left bytes =
    if n == 1 then write_at bytes
    else if n == 2 then made (λ t. asks.Read t.0 t.1) file_page_at bytes
    else if n == 3 then made asks.Sync (file_at 1) bytes
    else if n == 4 then made (λ t. asks.Cut t.0 t.1) file_page_at bytes
    else if n == 5 then ask_names_at bytes
    else Err (faults.Value left)

unfoldable pub ask_at : Reader Ask
ask_at bytes = chosen ask_numbered bytes

unfoldable pub patch_fields_at : Reader Ask
patch_fields_at bytes =
    made (λ t. asks.Patch t.0 t.1.0 t.1.1.0 t.1.1.1) (seq (file_at 1) (λ f. seq (page_at 0) (λ p. seq (word16_in 0 4095) patch_bytes_at))) bytes

-- the ask of version 2
unfoldable pub patch_numbered : ℕ → ℕ → Reader Ask
patch_numbered n left bytes = if n == 6 then patch_fields_at bytes else Err (faults.Value left)

unfoldable pub patch_at : Reader Ask
patch_at bytes = chosen patch_numbered bytes

unfoldable pub two_words_at : Reader (ℕ × ℕ)
two_words_at bytes = seq word64_at (λ n. word64_at) bytes

unfoldable pub tagged_page_at : ℕ → Reader (Tag × List ℕ)
tagged_page_at least bytes = seq (tag_at least) (λ t. whole_page_at) bytes

-- an answer without fields
unfoldable pub plain_answer : ℕ → ℕ → Reader AppAnswer
plain_answer n left bytes =
    if n == 0 then nothing answers.Written bytes
    else if n == 2 then nothing answers.Hard bytes
    else if n == 3 then nothing answers.Cut bytes
    else if n == 17 then nothing answers.Quiesced bytes
    else if n == 18 then nothing answers.NoFile bytes
    else if n == 21 then nothing answers.OpsFull bytes
    else if n == 24 then nothing answers.DirtyFull bytes
    else if n == 25 then nothing answers.NotHolder bytes
    else if n == 26 then nothing answers.TooManyLocks bytes
    else Err (faults.Value left)

unfoldable pub answer_numbered : ℕ → ℕ → Reader AppAnswer
answer_numbered n left bytes =
    if n == 1 then made answers.Read whole_page_at bytes
    else if n == 4 then made answers.Named ino_at bytes
    else if n == 5 then made answers.Listed names_at bytes
    else if n == 6 then made answers.Refused byte_at bytes
    else if n == 19 then made (λ t. answers.NoSpace t.0 t.1) two_words_at bytes
    else if n == 20 then made answers.DiskFault word64_at bytes
    else if n == 22 then made (λ t. answers.Uncertain t.0 t.1) two_words_at bytes
    else if n == 23 then made answers.Lost lost_at bytes
    else plain_answer n left bytes

unfoldable pub answer_at : Reader AppAnswer
answer_at bytes = chosen answer_numbered bytes

unfoldable pub command_numbered : BlockAt → ℕ → ℕ → Reader Command
command_numbered at n left bytes =
    if n == 0 then nothing (commands.Read at) bytes
    else if n == 1 then made (λ t. commands.Write at t.0 t.1) (tagged_page_at 1) bytes
    else Err (faults.Value left)

unfoldable pub command_at : BlockAt → Reader Command
command_at at bytes = chosen (command_numbered at) bytes

unfoldable pub result_numbered : ℕ → ℕ → Reader DiskResult
result_numbered n left bytes =
    if n == 0 then nothing results.Failed bytes
    else if n == 1 then nothing results.WriteDone bytes
    else if n == 2 then made (λ t. results.ReadDone t.0 t.1) (tagged_page_at 0) bytes
    else Err (faults.Value left)

unfoldable pub disk_result_at : Reader DiskResult
disk_result_at bytes = chosen result_numbered bytes

abbrev pub why_numbered : ℕ → Option Why
why_numbered n =
    if n == 1 then Some whys.Suspect
    else if n == 2 then Some whys.NoSession
    else if n == 3 then Some whys.OtherEpoch
    else if n == 4 then Some whys.Grace
    else if n == 5 then Some whys.GraceOver
    else if n == 6 then Some whys.Conflict
    else if n == 7 then Some whys.NotHolder
    else if n == 8 then Some whys.NoFile
    else if n == 9 then Some whys.NoSpace
    else if n == 10 then Some whys.TooManyLocks
    else None

abbrev pub found : {A : Type 0} → Fault → Option A → Reader A
found fault None bytes = Err fault
found fault (Some a) bytes = Ok (a, bytes)

unfoldable pub why_at : Reader Why
why_at bytes = do
  n ← byte_at bytes
  found (faults.Value (length bytes)) (why_numbered n.0) n.1

-- The bodies, one by one.

unfoldable pub acquire_at : Reader Body
acquire_at bytes = made (λ t. bodies.Acquire t.0 t.1) (seq ino_at (λ i. mode_at 1 2)) bytes

unfoldable pub released_at : Reader Body
released_at bytes = made (λ t. bodies.Released t.0 t.1.0 t.1.1) (seq ino_at (λ i. seq grant_at (λ g. mode_at 0 1))) bytes

unfoldable pub map_at : Reader Body
map_at bytes = made (λ t. bodies.Map t.0 t.1.0 t.1.1) (seq ino_at (λ i. seq grant_at (λ g. page_at 0))) bytes

unfoldable pub count_at : PageNo → Reader ℕ
count_at page bytes = checked (is_count page.0) word16_at bytes

unfoldable pub allocate_at : Reader Body
allocate_at bytes = made (λ t. bodies.Allocate t.0 t.1.0 t.1.1.0 t.1.1.1) (seq ino_at (λ i. seq grant_at (λ g. seq (page_at 0) count_at))) bytes

unfoldable pub cut_at : Reader Body
cut_at bytes = made (λ t. bodies.Cut t.0 t.1.0 t.1.1) (seq ino_at (λ i. seq grant_at (λ g. page_at 0))) bytes

unfoldable pub name_body_at : Reader Body
name_body_at bytes = made bodies.Name name_op_at bytes

unfoldable pub reassert_at : Reader Body
reassert_at bytes = made bodies.Reassert locks_at bytes

unfoldable pub demand_seen_at : Reader Body
demand_seen_at bytes = made (λ t. bodies.DemandSeen t.0 t.1) (seq ino_at (λ i. grant_at)) bytes

unfoldable pub nack_at : Reader Body
nack_at bytes = made (λ t. bodies.Nack t.0 t.1.0 t.1.1) (seq why_at (λ w. seq word64_at (λ a. word64_at))) bytes

unfoldable pub granted_at : Reader Body
granted_at bytes = made (λ t. bodies.Granted t.0 t.1.0 t.1.1) (seq ino_at (λ i. seq grant_at (λ g. mode_at 1 2))) bytes

unfoldable pub queued_at : Reader Body
queued_at bytes = made (λ t. bodies.Queued t.0 t.1) (seq ino_at (λ i. mode_at 1 2)) bytes

unfoldable pub demand_at : Reader Body
demand_at bytes = made (λ t. bodies.Demand t.0 t.1.0 t.1.1) (seq ino_at (λ i. seq grant_at (λ g. mode_at 0 1))) bytes

unfoldable pub extents_body_at : Reader Body
extents_body_at bytes = made (λ t. bodies.Extents t.0 t.1) (seq ino_at (λ i. extents_at)) bytes

unfoldable pub named_at : Reader Body
named_at bytes = made bodies.Named name_reply_at bytes

unfoldable pub app_at : Reader Body
app_at bytes = made (λ t. bodies.App t.0 t.1) (seq word32_at (λ n. ask_at)) bytes

unfoldable pub app_patch_at : Reader Body
app_patch_at bytes = made (λ t. bodies.App t.0 t.1) (seq word32_at (λ n. patch_at)) bytes

unfoldable pub app_done_at : Reader Body
app_done_at bytes = made (λ t. bodies.AppDone t.0 t.1) (seq word32_at (λ n. answer_at)) bytes

unfoldable pub submit_at : Reader Body
submit_at bytes = made (λ t. bodies.Submit t.0 t.1.0 t.1.1) (seq word64_at (λ n. seq any_block_at command_at)) bytes

unfoldable pub done_at : Reader Body
done_at bytes = made (λ t. bodies.Done t.0 t.1) (seq word64_at (λ n. disk_result_at)) bytes

unfoldable pub body_at : Kind → Reader Body
body_at kinds.Hello bytes = nothing bodies.Hello bytes
body_at kinds.KeepAlive bytes = nothing bodies.KeepAlive bytes
body_at kinds.Acquire bytes = acquire_at bytes
body_at kinds.Released bytes = released_at bytes
body_at kinds.Map bytes = map_at bytes
body_at kinds.Allocate bytes = allocate_at bytes
body_at kinds.Cut bytes = cut_at bytes
body_at kinds.Name bytes = name_body_at bytes
body_at kinds.Reassert bytes = reassert_at bytes
body_at kinds.DemandSeen bytes = demand_seen_at bytes
body_at kinds.Welcome bytes = nothing bodies.Welcome bytes
body_at kinds.Ack bytes = nothing bodies.Ack bytes
body_at kinds.Nack bytes = nack_at bytes
body_at kinds.Granted bytes = granted_at bytes
body_at kinds.Queued bytes = queued_at bytes
body_at kinds.Demand bytes = demand_at bytes
body_at kinds.Extents bytes = extents_body_at bytes
body_at kinds.Named bytes = named_at bytes
body_at kinds.Reasserted bytes = nothing bodies.Reasserted bytes
body_at kinds.Tick bytes = nothing bodies.Tick bytes
body_at kinds.App bytes = app_at bytes
body_at kinds.Patch bytes = app_patch_at bytes
body_at kinds.AppDone bytes = app_done_at bytes
body_at kinds.Submit bytes = submit_at bytes
body_at kinds.Done bytes = done_at bytes

-- The message: two bytes for its kind, the header, the body, and no further byte.

unfoldable pub version_at : Reader ℕ
version_at bytes = do
  n ← byte_at bytes
  if between 1 2 n.0 then Ok n else Err faults.Version

unfoldable pub kind_at : Reader Kind
kind_at bytes = do
  version ← version_at bytes
  number ← byte_at version.1
  found faults.Kind (kind_of version.0 number.0) number.1

unfoldable pub party_at : Party → Reader ℕ
party_at party bytes = checked (includes party) word16_at bytes

unfoldable pub needed_at : Need → Reader ℕ
needed_at need bytes = checked (allows need) word64_at bytes

unfoldable pub nodes_at : Kind → Reader (ℕ × ℕ)
nodes_at k bytes = seq (party_at (sender k)) (λ f. party_at (receiver k)) bytes

unfoldable pub ages_at : Kind → Reader (ℕ × ℕ)
ages_at k bytes = seq (needed_at (life_of k)) (λ l. needed_at (epoch_of k)) bytes

unfoldable pub marks_at : Kind → Reader (ℕ × ℕ)
marks_at k bytes = seq (needed_at (request_of k)) (λ n. needed_at (stamp_of k)) bytes

unfoldable pub header_at : Kind → Reader Header
header_at k bytes =
    made
    (λ t. record { from = t.0.0; to = t.0.1; life = t.1.0.0; epoch = t.1.0.1; number = t.1.1.0; stamp = t.1.1.1 })
    (seq (nodes_at k) (λ n. seq (ages_at k) (λ a. marks_at k)))
    bytes

unfoldable pub message_at : List ℕ → Result Message Fault
message_at bytes = do
  k ← kind_at bytes
  h ← header_at k.0 k.1
  b ← body_at k.0 h.1
  if length b.1 == 0 then Ok (record { header = h.0; body = b.0 }) else Err faults.Long

-- A fault as it is reported: the place of a field is counted from the message's beginning.
abbrev pub refusal_of : ℕ → Fault → CodecRefusal
refusal_of whole faults.Short = refusals.Short
refusal_of whole faults.Long = refusals.Long
refusal_of whole faults.Kind = refusals.Kind
refusal_of whole (faults.Value left) = refusals.Value (whole - left)
refusal_of whole faults.Version = refusals.Version

-- what bytes give: the message, or the first fault
abbrev pub told : ℕ → Result Message Fault → Result Message CodecRefusal
told whole (Ok m) = Ok m
told whole (Err f) = Err (refusal_of whole f)

unfoldable pub decoded : List ℕ → Result Message CodecRefusal
decoded bytes = told (length bytes) (message_at bytes)
