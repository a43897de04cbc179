-- Reading a message of version 3 from left to right, with the first fault that is met. A body that version 1 or 2
-- has too is read as there; wider ranges, the ask `leave` and its two answers are read here.
use Rattle.std.specs.Prelude.{ℕ, List, length, get_or, ◌==◌, Result, Ok, Err, if◌then◌else◌}
use Rattle.st_base.specs.declared.disk.BlockAt.{BlockAt}
use Rattle.st_base.specs.declared.ids.GrantNo.{GrantNo}
use Rattle.st_base.specs.declared.mode.Mode.{Mode}
use Rattle.st_base.specs.declared.rows.ExtentRow.{ExtentRow}
use Rattle.st_codec.specs.declared.refusal.CodecRefusal.{CodecRefusal}
use Rattle.st_codec.specs.Decoder as plain
use Rattle.st_codec.specs.Decoder.{found, ages_at, marks_at, refusal_of}
use Rattle.st_codec.specs.KindBytes.{kind_of}
use Rattle.st_codec_fields.specs.declared.fault.Fault.{Fault}
use Rattle.st_codec_fields.specs.declared.fault.Fault.TheVariants as faults
use Rattle.st_codec_fields.specs.Decoder.{◌>>=◌, Reader, Read, seq, made, checked, byte_at, word16_at, word32_at, word64_at, word16_in, word32_in, ino_at, page_at, counted, lock_row_at}
use Rattle.st_messages.specs.declared.kind.Kind.{Kind}
use Rattle.st_messages.specs.declared.kind.Kind.TheVariants as kinds
use Rattle.st_messages.specs.declared.kind.Party.{Party}
use Rattle.st_messages.specs.declared.message.Body.{Body}
use Rattle.st_messages.specs.declared.message.Body.TheVariants as bodies
use Rattle.st_messages.specs.declared.message.Header.{Header}
use Rattle.st_messages.specs.Kinds.{sender, receiver}
use Rattle.st_messages.specs.Ranges.{after_lock, after_extent}
use Rattle.st_third.specs.declared.message.ThirdMessage.{ThirdMessage}
use Rattle.st_third.specs.declared.message.ThirdMessage.TheVariants as third
use Rattle.st_third.specs.Messages.{includes}

-- The front: the version, the kind's number, which is that of version 1, and the header.

unfoldable pub version_at : Reader ℕ
version_at bytes = do
  n ← byte_at bytes
  if n.0 == 3 then Ok n else Err faults.Version

unfoldable pub kind_at : Reader Kind
kind_at bytes = do
  version ← version_at bytes
  number ← byte_at version.1
  found faults.Kind (kind_of 1 number.0) number.1

unfoldable pub party_at : Party → Reader ℕ
party_at party bytes = checked (includes party) word16_at bytes

unfoldable pub nodes_at : Kind → Reader (ℕ × ℕ)
nodes_at k bytes = seq (party_at (sender k)) (λ f. party_at (receiver k)) bytes

unfoldable pub header_at : Kind → Reader Header
header_at k bytes =
    made
    (λ t. record { from = t.0.0; to = t.0.1; life = t.1.0.0; epoch = t.1.0.1; number = t.1.1.0; stamp = t.1.1.1 })
    (seq (nodes_at k) (λ n. seq (ages_at k) (λ a. marks_at k)))
    bytes

unfoldable pub front_at : Reader (Kind × Header)
front_at bytes = seq kind_at header_at bytes

-- Rows with wider ranges.

unfoldable pub locks_at : Reader (List (ℕ × GrantNo × Mode))
locks_at bytes = counted 0 4096 lock_row_at after_lock 1 bytes

unfoldable pub block_at : Reader BlockAt
block_at bytes = made (λ t. record { disk = record { 0 = t.0 }; block = t.1 }) (seq (word16_in 1 16) (λ d. word32_in 0 268435455)) bytes

unfoldable pub extent_row_at : ℕ → Reader ExtentRow
extent_row_at least bytes = made (λ t. record { page = t.0; at = t.1.0; birth = t.1.1 }) (seq (page_at least) (λ p. seq block_at (λ b. word64_at))) bytes

unfoldable pub extents_at : Reader (List ExtentRow)
extents_at bytes = counted 0 64 extent_row_at after_extent 0 bytes

-- Messages with this header.

abbrev pub with_body : Header → Body → ThirdMessage
with_body h b = third.Plain (record { header = h; body = b })

-- a body that version 1 or 2 has too
unfoldable pub plain_at : Kind → Header → Reader ThirdMessage
plain_at k h bytes = made (with_body h) (plain.body_at k) bytes

unfoldable pub reassert_at : Header → Reader ThirdMessage
reassert_at h bytes = made (λ rs. with_body h (bodies.Reassert rs)) locks_at bytes

unfoldable pub extents_body_at : Header → Reader ThirdMessage
extents_body_at h bytes = made (λ t. with_body h (bodies.Extents t.0 t.1)) (seq ino_at (λ i. extents_at)) bytes

-- the number of the operation, the byte that says which ask or answer this is, and its field
unfoldable pub leave_at : Header → Reader ThirdMessage
leave_at h bytes = made (λ t. third.Leave h t.0 (record { 0 = t.1.1 })) (seq word32_at (λ op. seq byte_at (λ n. word16_in 1 65535))) bytes

unfoldable pub left_at : Header → Reader ThirdMessage
left_at h bytes = made (λ t. third.Left h t.0) (seq word32_at (λ op. byte_at)) bytes

unfoldable pub unsynced_at : Header → Reader ThirdMessage
unsynced_at h bytes = made (λ t. third.Unsynced h t.0 t.1.1) (seq word32_at (λ op. seq byte_at (λ n. ino_at))) bytes

-- the byte that says which ask or answer this is; 0 if there are fewer bytes
abbrev pub number_in : List ℕ → ℕ
number_in bytes = get_or bytes 4 0

unfoldable pub ask_numbered : ℕ → Header → Reader ThirdMessage
ask_numbered n h bytes =
    if n == 6 then plain_at kinds.Patch h bytes
    else if n == 7 then leave_at h bytes
    else plain_at kinds.App h bytes

unfoldable pub answer_numbered : ℕ → Header → Reader ThirdMessage
answer_numbered n h bytes =
    if n == 7 then left_at h bytes
    else if n == 27 then unsynced_at h bytes
    else plain_at kinds.AppDone h bytes

unfoldable pub body_at : Kind → Header → Reader ThirdMessage
body_at kinds.Reassert h bytes = reassert_at h bytes
body_at kinds.Extents h bytes = extents_body_at h bytes
body_at kinds.App h bytes = ask_numbered (number_in bytes) h bytes
body_at kinds.AppDone h bytes = answer_numbered (number_in bytes) h bytes
body_at k h bytes = plain_at k h bytes

-- The message: its front, its body, and no further byte.

-- what was read, if it was all
abbrev pub whole : {A : Type 0} → Read A → Result A Fault
whole read = do
  a ← read
  if length a.1 == 0 then Ok a.0 else Err faults.Long

unfoldable pub message_at : List ℕ → Result ThirdMessage Fault
message_at bytes = do
  front ← front_at bytes
  whole (body_at front.0.0 front.0.1 front.1)

-- what bytes of this length give: the message, or the first fault with its place
abbrev pub told : ℕ → Result ThirdMessage Fault → Result ThirdMessage CodecRefusal
told length (Ok m) = Ok m
told length (Err f) = Err (refusal_of length f)

unfoldable pub decoded : List ℕ → Result ThirdMessage CodecRefusal
decoded bytes = told (length bytes) (message_at bytes)
