-- Bytes that should be one frame.
use Rattle.std.specs.Prelude.{ℕ, ◌+◌, nat_lt, if◌then◌else◌, List, length, drop, Result, Ok, Err}
use Rattle.st_codec.specs.declared.frames.Front.{Front}
use Rattle.st_codec.specs.declared.frames.Front.TheVariants.{Partial, TooLong, Whole}
use Rattle.st_codec.specs.declared.refusal.CodecRefusal.{CodecRefusal}
use Rattle.st_codec.specs.declared.refusal.CodecRefusal.TheVariants.{FrameTooLong}
use Rattle.st_codec.specs.Frames.{front}
use Rattle.st_codec.specs.Decoder.{decoded}
use Rattle.st_messages.specs.declared.message.Message.{Message}
use Rattle.st_host_frames.specs.declared.fault.FrameFault.{FrameFault}
use Rattle.st_host_frames.specs.declared.fault.FrameFault.TheVariants.{Cut, Extra, Refused}

-- the number of bytes after the length of a frame that is whole
abbrev pub whole_by : Front → Result ℕ FrameFault
whole_by Partial = Err Cut
whole_by (TooLong n) = Err (Refused (FrameTooLong n))
whole_by (Whole n) = Ok n

-- what a frame's bytes spell
abbrev pub spelled : Result Message CodecRefusal → Result Message FrameFault
spelled (Ok m) = Ok m
spelled (Err r) = Err (Refused r)

-- a frame that is whole, if nothing follows it
abbrev pub received_whole : List ℕ → ℕ → Result Message FrameFault
received_whole bytes n = if nat_lt (4 + n) (length bytes) then Err Extra else spelled (decoded (drop 4 bytes))

-- by what the bytes begin with
abbrev pub received_by : List ℕ → Result ℕ FrameFault → Result Message FrameFault
received_by bytes (Ok n) = received_whole bytes n
received_by bytes (Err f) = Err f

-- The message of bytes that should be one frame, or why they aren't one.
unfoldable pub received : List ℕ → Result Message FrameFault
received bytes = received_by bytes (whole_by (front bytes))
