-- Disk commands as structs.
use Rattle.std.specs.Prelude.{◌≡◌, ℕ, List, [], length, Result, Ok, Err}
use Rattle.st_base.specs.declared.disk.BlockAt.{BlockAt}
use Rattle.st_base.specs.declared.disk.Command.{Command}
use Rattle.st_base.specs.declared.disk.Command.TheVariants as commands
use Rattle.st_messages.specs.declared.message.Body.{Body}
use Rattle.st_messages.specs.declared.message.Body.TheVariants.{Submit}
use Rattle.st_messages.specs.declared.message.Message.{Message}
use Rattle.st_host_frames.specs.Frame.{received}
use Rattle.st_host_frames.specs.Messages.{no_tag, tag_shown}
use Rattle.st_host_frames.specs.Results.{◌>>=◌, Wrote}
use Rattle.st_host_frames.specs.declared.command.Submitted.{Submitted}
use Rattle.st_host_frames.specs.declared.command.TankCommand.{TankCommand}
use Rattle.st_host_frames.specs.declared.fault.FrameFault.{FrameFault}
use Rattle.st_host_frames.specs.declared.fault.HostFault.{HostFault}
use Rattle.st_host_frames.specs.declared.fault.HostFault.TheVariants as faults
use Rattle.st_host_frames.specs.declared.tag.TankTag.{TankTag}

-- the command of a message
abbrev pub command_by : ℕ → Body → Result Submitted HostFault
command_by from (Submit number at what) = Ok (record { client = from; number = number; at = at; what = what })
command_by from body = Err faults.OtherKind

abbrev pub submitted : Result Message FrameFault → Result Submitted HostFault
submitted (Ok m) = command_by m.header.from m.body
submitted (Err f) = Err (faults.Frame f)

-- The disk command of a frame.
abbrev pub command_in : List ℕ → Result Submitted HostFault
command_in frame = submitted (received frame)

-- 0 for a read and 1 for a write, as on the wire
abbrev pub number_of : Command → ℕ
number_of (commands.Read at) = 0
number_of (commands.Write at t bytes) = 1

-- the tag and the page of a write
abbrev pub tag_by : Command → TankTag
tag_by (commands.Read at) = no_tag
tag_by (commands.Write at t bytes) = tag_shown t

abbrev pub page_of : Command → List ℕ
page_of (commands.Read at) = []
page_of (commands.Write at t bytes) = bytes

abbrev pub shown : Submitted → TankCommand
shown s = record {
  number = s.number;
  tag = tag_by s.what;
  page = length (page_of s.what);
  command = number_of s.what;
  block = s.at.block;
  disk = s.at.disk.0;
  client = s.client;
}

-- the command is shown, with its page
pub record Shows (frame before after : List ℕ) (t : TankCommand) : Type 0 where
  pub command : Submitted
  pub due : command_in frame ≡ Ok command
  pub is : t ≡ shown command
  pub wrote : Wrote (page_of command.what) before after t.page

abbrev pub page_by : Result Submitted HostFault → Result (List ℕ) HostFault
page_by r = r >>= λ s. Ok (page_of s.what)
