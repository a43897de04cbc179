-- The frame with which a stream begins: its size, and from which node to which its message goes.
use Rattle.std.specs.Prelude.{ℕ, ◌+◌, List, length, take, drop, Result, Ok, Err}
use Rattle.st_codec.specs.Frames.{front}
use Rattle.st_codec.specs.KindBytes as wire
use Rattle.st_codec.specs.Spelling.{spelling}
use Rattle.st_codec.specs.declared.refusal.CodecRefusal.TheVariants.{Short}
use Rattle.st_codec_fields.specs.Decoder.{Read, Reader, seq, byte_at, word16_at}
use Rattle.st_messages.specs.Kinds.{kind_of_body}
use Rattle.st_messages.specs.declared.message.Message.{Message}
use Rattle.st_host_frames.specs.Frame.{whole_by}
use Rattle.st_host_frames.specs.declared.fault.FrameFault.{FrameFault}
use Rattle.st_host_frames.specs.declared.fault.FrameFault.TheVariants.{Refused}
use Rattle.st_host_frames.specs.declared.fault.HostFault.{HostFault}
use Rattle.st_host_frames.specs.declared.fault.HostFault.TheVariants as faults
use Rattle.st_host_frames.specs.declared.front.TankFrame.{TankFrame}

-- a message's version, its kind, and the nodes from which and to which it goes
unfoldable pub route_at : Reader (ℕ × (ℕ × (ℕ × ℕ)))
route_at bytes = seq byte_at (λ v. seq byte_at (λ k. seq word16_at (λ f. word16_at))) bytes

-- that many bytes after the length, of which these fields come first
abbrev pub routed : ℕ → Read (ℕ × (ℕ × (ℕ × ℕ))) → Result TankFrame HostFault
routed n (Ok t) = Ok (record { size = 4 + n; version = t.0.0; kind = t.0.1.0; from = t.0.1.1.0; to = t.0.1.1.1 })
routed n (Err f) = Err (faults.Frame (Refused Short))

abbrev pub front_by : List ℕ → Result ℕ FrameFault → Result TankFrame HostFault
front_by bytes (Ok n) = routed n (route_at (take n (drop 4 bytes)))
front_by bytes (Err f) = Err (faults.Frame f)

-- The frame with which bytes begin. Its message isn't read.
abbrev pub frame_at : List ℕ → Result TankFrame HostFault
frame_at bytes = front_by bytes (whole_by (front bytes))

-- what it is for a message's frame
abbrev pub front_shown : Message → TankFrame
front_shown m = record {
  size = 4 + length (spelling m);
  version = wire.version_of (kind_of_body m.body);
  kind = wire.number_of (kind_of_body m.body);
  from = m.header.from;
  to = m.header.to;
}
