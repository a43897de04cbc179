-- Messages from a node's own surroundings, as frames.
use Rattle.std.specs.Prelude.{ℕ, List, if◌then◌else◌, Result, Ok, Err}
use Rattle.st_base.specs.declared.disk.Tag.{Tag}
use Rattle.st_codec.specs.Stream.{message_frame}
use Rattle.st_messages.specs.declared.message.Body.{Body}
use Rattle.st_messages.specs.declared.message.Body.TheVariants as bodies
use Rattle.st_messages.specs.declared.message.Header.{Header}
use Rattle.st_messages.specs.declared.message.Message.{Message}
use Rattle.st_messages.specs.Ranges.{fits}
use Rattle.st_host_frames.specs.declared.fault.HostFault.{HostFault}
use Rattle.st_host_frames.specs.declared.fault.HostFault.TheVariants.{Range}
use Rattle.st_host_frames.specs.declared.tag.TankTag.{TankTag}

-- the header of a message from a node's own surroundings
abbrev pub local_header : ℕ → Header
local_header node = record { from = 0; to = node; life = 0; epoch = 0; number = 0; stamp = 0 }

abbrev pub told : ℕ → Body → Message
told node body = record { header = local_header node; body = body }

-- the frame of a message whose fields are in their ranges
abbrev pub framed : Message → Result (List ℕ) HostFault
framed m = if fits m then Ok (message_frame m) else Err Range

-- a tick
abbrev pub tick_frame : ℕ → Result (List ℕ) HostFault
tick_frame node = framed (told node bodies.Tick)

-- a tag, and the struct that shows it
abbrev pub tag_of : TankTag → Tag
tag_of t = record { file = record { server = record { 0 = t.server }; ino = t.ino }; page = record { 0 = t.page }; birth = t.birth }

abbrev pub tag_shown : Tag → TankTag
tag_shown t = record { birth = t.birth; ino = t.file.ino; page = t.page.0; server = t.file.server.0 }

-- if no tag is shown
abbrev pub no_tag : TankTag
no_tag = record { birth = 0; ino = 0; page = 0; server = 0 }
