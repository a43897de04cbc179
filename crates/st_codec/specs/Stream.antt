-- What a whole stream of frames says, and that a reader that is fed it in pieces says the same.
use Rattle.std.specs.Prelude.{◌≡◌, ℕ, true, List, [], ◌∷◌, ◌++◌, length, get_or, ◌-◌, ◌^◌, ◌<◌, ◌≤◌, min, Some, None, IfSome, Ok, Err}
use Rattle.std.specs.List.{flat_map, AllByRecursion}
use Rattle.st_messages.specs.declared.message.Message.{Message}
use Rattle.st_codec.specs.declared.refusal.CodecRefusal.{CodecRefusal}
use Rattle.st_codec.specs.declared.refusal.CodecRefusal.TheVariants as refusals
use Rattle.st_messages.specs.Ranges.{fits}
use Rattle.st_codec.specs.Frames.{Frames, Answer, frame, fresh, fed, next}
use Rattle.st_codec.specs.Decoder.{decoded}
use Rattle.st_codec_fields.specs.Spelling.{word32}
use Rattle.st_codec.specs.Spelling.{spelling}

-- a message as a frame
abbrev pub message_frame : Message → List ℕ
message_frame m = frame (spelling m)

-- what a frame can hold
pub record IsFramed (m : Message) : Type 0 where
  pub ranges : fits m ≡ true
  pub short : length (spelling m) ≤ 65536

-- the stream is the frames of these messages, one after another, and then this rest
pub record IsStream (stream : List ℕ) (messages : List Message) (rest : List ℕ) : Type 0 where
  pub whole : stream ≡ flat_map message_frame messages ++ rest
  pub each : AllByRecursion IsFramed messages

-- no frame of a message begins this rest
abbrev pub IsAtEnd : List ℕ → Type 0
IsAtEnd rest = (m : Message) (after : List ℕ) → IsFramed m → rest ≡ message_frame m ++ after → ⊥

-- why a rest is refused: its frame is too long, or spells no message, and the refusal is its first fault
abbrev pub IsTooLong : List ℕ → ℕ → Type 0
IsTooLong rest n = (after : List ℕ) × (rest ≡ word32 n ++ after) × (65536 < n) × (n < 2 ^ 32)

abbrev pub IsBad : List ℕ → CodecRefusal → Type 0
IsBad rest r = (bytes after : List ℕ) × (rest ≡ frame bytes ++ after) × (length bytes ≤ 65536) × (decoded bytes ≡ Err r)

abbrev pub IsRefused : List ℕ → CodecRefusal → Type 0
IsRefused rest (refusals.FrameTooLong n) = IsTooLong rest n
IsRefused rest r = IsBad rest r

-- what is done with a reader: a piece is fed, or the next message is asked for
pub data Move : Type 0 where
  Feed : (piece : List ℕ) → Move
  Next : Move

-- a reader, and the messages that it has given
pub record Ran : Type 0 where
  pub state : Frames
  pub messages : List Message

abbrev pub given : List Message → Answer → List Message
given ms None = ms
given ms (Some (Ok m)) = ms ++ m ∷ []
given ms (Some (Err r)) = ms

abbrev pub moved : Ran → Move → Ran
moved s (Feed piece) = record { state = fed s.state piece; messages = s.messages }
moved s Next = record { state = (next s.state).0; messages = given s.messages (next s.state).1 }

abbrev pub ran : List Move → Ran → Ran
ran [] s = s
ran (move ∷ moves) s = ran moves (moved s move)

-- the whole stream
abbrev pub piece_of : Move → List ℕ
piece_of (Feed piece) = piece
piece_of Next = []

abbrev pub stream_of : List Move → List ℕ
stream_of moves = flat_map piece_of moves

abbrev pub AreBytes : List ℕ → Type 0
AreBytes bytes = (i : ℕ) → get_or bytes i 0 < 256

-- The stream so far is the frames of the messages that were given, and what is held; a refusal is that of what is held.
pub record Reads (stream : List ℕ) (s : Ran) : Type 0 where
  pub stream_is : IsStream stream s.messages s.state.rest
  pub refusal : IfSome s.state.refusal (IsRefused s.state.rest)
  pub offset : s.state.offset ≡ min (length (flat_map message_frame s.messages)) (2 ^ 64 - 1)

abbrev pub start : Ran
start = record { state = fresh; messages = [] }

-- after these pieces and calls of `next` the stream so far is the frames of the messages given, and what is held
abbrev pub ReadsAfter : List Move → Type 0
ReadsAfter moves = AreBytes (stream_of moves) → Reads (stream_of moves) (ran moves start)

-- two readings of one stream to its end are the same
abbrev pub ReadsOnce : List ℕ → List Message → List Message → List ℕ → List ℕ → Type 0
ReadsOnce stream ms ns r q = IsStream stream ms r → IsStream stream ns q → IsAtEnd r → IsAtEnd q → (ms ≡ ns) × (r ≡ q)

-- if `next` gives no message, no frame of a message begins what is held
abbrev pub EndsWhereNoneIs : Frames → Type 0
EndsWhereNoneIs s = AreBytes s.rest → s.refusal ≡ None → (next s).1 ≡ None → IsAtEnd s.rest

-- a frame's message is given, whatever follows
abbrev pub GivesNext : Message → List ℕ → Frames → Type 0
GivesNext m after s = IsFramed m → s.refusal ≡ None → s.rest ≡ message_frame m ++ after → (next s).1 ≡ Some (Ok m)
