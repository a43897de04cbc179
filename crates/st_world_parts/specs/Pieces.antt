-- Messages in a buffer: the bytes of each place, and what they spell.
use Rattle.std.specs.Prelude.{filter, not, ◌≡◌, ◌≤◌, ◌+◌, ℕ, true, false, List, [], ◌∷◌, ◌++◌, length, take, drop, map, Option, Some, None, Result, Ok, Err}
use Rattle.st_base.specs.declared.ids.NodeId.{NodeId}
use Rattle.st_codec.specs.declared.refusal.CodecRefusal.{CodecRefusal}
use Rattle.st_codec.specs.Grammar.{Spells}
use Rattle.st_codec.specs.Decoder.{decoded}
use Rattle.st_codec.specs.Spelling.{spelling}
use Rattle.st_messages.specs.declared.message.Body.TheVariants as bodies
use Rattle.st_messages.specs.declared.message.Message.{Message}
use Rattle.st_messages.specs.Sizes.{size_of}
use Rattle.st_rules.specs.declared.world.SentMessage.{SentMessage}
use Rattle.st_rules.specs.Admissible.{is_link}
use Rattle.st_rules.specs.World.{Net, numbered, with_numbered}
use Rattle.st_world_parts.specs.declared.places.MessageEnds.{MessageEnds}
use Rattle.st_world_parts.specs.declared.places.SentPlace.{SentPlace}

-- a message, if bytes spell none
abbrev pub blank : Message
blank = record { header = record { from = 0; to = 0; life = 0; epoch = 0; number = 0; stamp = 0 }; body = bodies.Tick }

-- what was read
abbrev pub read_as : Result Message CodecRefusal → Message
read_as (Ok m) = m
read_as (Err e) = blank

-- the message that bytes spell
unfoldable pub message_in : List ℕ → Message
message_in bytes = read_as (decoded bytes)

-- the bytes of a place
unfoldable pub piece : List ℕ → SentPlace → List ℕ
piece bytes p = take p.len (drop p.start bytes)

-- the message of a place
abbrev pub sent_at : List ℕ → SentPlace → SentMessage
sent_at bytes p = record { message = message_in (piece bytes p); lost = p.lost }

-- the messages of these places
abbrev pub messages_at : List ℕ → List SentPlace → List SentMessage
messages_at bytes ps = map (sent_at bytes) ps

-- a place: it lies in the buffer, its bytes spell a message, and its nodes are those of the message
pub record IsPlace (bytes : List ℕ) (p : SentPlace) : Type 0 where
  pub within : p.start + p.len ≤ length bytes
  pub spells : Spells (piece bytes p) (message_in (piece bytes p))
  pub from : p.from ≡ (message_in (piece bytes p)).header.from
  pub to : p.to ≡ (message_in (piece bytes p)).header.to

-- places of a buffer
abbrev pub ArePlaces : List ℕ → List SentPlace → Type 0
ArePlaces bytes [] = Unit {0}
ArePlaces bytes (p ∷ ps) = IsPlace bytes p × ArePlaces bytes ps

-- the nodes of a place
abbrev pub head_at : SentPlace → MessageEnds
head_at p = record { from = p.from; to = p.to; lost = p.lost }

-- the nodes of a message, and whether it is lost
abbrev pub head_of : SentMessage → MessageEnds
head_of m = record { from = m.message.header.from; to = m.message.header.to; lost = m.lost }

-- the message that was sent
abbrev pub message_sent : SentMessage → Message
message_sent m = m.message

-- its spelling
abbrev pub spelling_sent : SentMessage → List ℕ
spelling_sent m = spelling m.message

-- a place whose message is lost
abbrev pub lost_place : SentPlace → SentPlace
lost_place p = record p { lost = true }

-- with this place's message lost, if there is one
abbrev pub with_lost_at : ℕ → Option SentPlace → List SentPlace → List SentPlace
with_lost_at k None ps = ps
with_lost_at k (Some p) ps = with_numbered k (lost_place p) ps

-- the message of this number is lost
abbrev pub with_lost : ℕ → List SentPlace → List SentPlace
with_lost k ps = with_lost_at k (numbered ps k) ps

-- with one more message
abbrev pub sent : Message → Net → Net
sent m n = record n { messages = n.messages ++ record { message = m; lost = false } ∷ []; bytes = n.bytes + size_of m }

-- these messages with this one lost, if there is one
abbrev pub lost_among : ℕ → Option SentMessage → List SentMessage → List SentMessage
lost_among k None ms = ms
lost_among k (Some m) ms = with_numbered k (record m { lost = true }) ms

-- the message of this number is lost
abbrev pub lost : ℕ → Net → Net
lost k n = record n { messages = lost_among k (numbered n.messages k) n.messages }

-- bytes that spell the message that is read from them
abbrev pub IsSpelled : List ℕ → Type 0
IsSpelled bytes = Spells bytes (message_in bytes)

-- with this direction cut
abbrev pub with_cut : NodeId → NodeId → Net → Net
with_cut from to n = record n { cuts = filter (λ x. not (is_link from to x)) n.cuts ++ record { from = from; to = to } ∷ [] }

-- with this direction healed
abbrev pub without_cut : NodeId → NodeId → Net → Net
without_cut from to n = record n { cuts = filter (λ x. not (is_link from to x)) n.cuts }
