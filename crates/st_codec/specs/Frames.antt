-- Frames of a stream: a length in four bytes, and that many bytes of one message.
use Rattle.std.specs.Prelude.{ℕ, List, [], ◌++◌, length, take, drop, ◌+◌, ◌-◌, ◌^◌, min, Option, Some, None, Result, Ok, Err, nat_lt, if◌then◌else◌}
use Rattle.std.specs.Int.{w32, from_be_bytes}
use Rattle.st_codec.specs.declared.frames.Front.{Front}
use Rattle.st_codec.specs.declared.frames.Front.TheVariants.{Partial, TooLong, Whole}
use Rattle.st_messages.specs.declared.message.Message.{Message}
use Rattle.st_codec.specs.declared.refusal.CodecRefusal.{CodecRefusal}
use Rattle.st_codec.specs.declared.refusal.CodecRefusal.TheVariants as refusals
use Rattle.st_codec.specs.Decoder.{decoded}
use Rattle.st_codec_fields.specs.Spelling.{word32}

-- a message's bytes as a frame
abbrev pub frame : List ℕ → List ℕ
frame bytes = word32 (length bytes) ++ bytes

-- what a stream of frames begins with: less than a whole frame, a length above 65,536, or a frame of this number of bytes
abbrev pub front_of : List ℕ → ℕ → Front
front_of rest n = if nat_lt 65536 n then TooLong n else (if nat_lt (length rest) (4 + n) then Partial else Whole n)

unfoldable pub front : List ℕ → Front
front rest = if nat_lt (length rest) 4 then Partial else front_of rest (from_be_bytes w32 (take 4 rest))

-- What a reader of frames holds: the place in the stream of the frame that is next or was refused, the bytes that
-- have come from there on, and the refusal, once one was given.
pub record Frames : Type 0 where
  pub offset : ℕ
  pub rest : List ℕ
  pub refusal : Option CodecRefusal

abbrev pub fresh : Frames
fresh = record { offset = 0; rest = []; refusal = None }

abbrev pub fed : Frames → List ℕ → Frames
fed s piece = record { offset = s.offset; rest = s.rest ++ piece; refusal = s.refusal }

abbrev pub refused : Frames → CodecRefusal → Frames
refused s r = record { offset = s.offset; rest = s.rest; refusal = Some r }

-- after a frame of this number of bytes; the offset stays at 2^64 - 1 once it is there
abbrev pub behind : Frames → ℕ → Frames
behind s n = record { offset = min (s.offset + (4 + n)) (2 ^ 64 - 1); rest = drop (4 + n) s.rest; refusal = None }

-- what is left, and what is answered
abbrev pub Answer : Type 0
Answer = Option (Result Message CodecRefusal)

abbrev pub next_read : Frames → ℕ → Result Message CodecRefusal → Frames × Answer
next_read s n (Ok m) = (behind s n, Some (Ok m))
next_read s n (Err r) = (refused s r, Some (Err r))

unfoldable pub next_whole : Frames → ℕ → Frames × Answer
next_whole s n = next_read s n (decoded (take n (drop 4 s.rest)))

abbrev pub next_at : Frames → Front → Frames × Answer
next_at s Partial = (s, None)
next_at s (TooLong n) = (refused s (refusals.FrameTooLong n), Some (Err (refusals.FrameTooLong n)))
next_at s (Whole n) = next_whole s n

-- a refusal stays
abbrev pub next_by : Frames → Option CodecRefusal → Frames × Answer
next_by s None = next_at s (front s.rest)
next_by s (Some r) = (s, Some (Err r))

unfoldable pub next : Frames → Frames × Answer
next s = next_by s s.refusal
