-- The numbers of results.
use Rattle.std.specs.Prelude.{ℕ, Bool, true, false, Option, Some, None}
use Rattle.st_base.specs.declared.config.ConfigRefusal.{ConfigRefusal}
use Rattle.st_base.specs.declared.config.ConfigRefusal.TheVariants as settings
use Rattle.st_base.specs.declared.ids.Stamp.{Stamp}
use Rattle.st_codec.specs.declared.refusal.CodecRefusal.{CodecRefusal}
use Rattle.st_codec.specs.declared.refusal.CodecRefusal.TheVariants as refusals
use Rattle.st_host_frames.specs.declared.fault.FrameFault.{FrameFault}
use Rattle.st_host_frames.specs.declared.fault.FrameFault.TheVariants as frames
use Rattle.st_embed.specs.declared.fault.OpenFault.{OpenFault}
use Rattle.st_embed.specs.declared.fault.OpenFault.TheVariants as opening
use Rattle.st_embed.specs.declared.fault.ServerFault.{ServerFault}
use Rattle.st_embed.specs.declared.fault.ServerFault.TheVariants as servers
use Rattle.st_embed.specs.declared.fault.ServerRefusal.{ServerRefusal}
use Rattle.st_embed.specs.declared.fault.ServerRefusal.TheVariants as refused
use Rattle.st_embed.specs.declared.fault.StepRefusal.{StepRefusal}
use Rattle.st_embed.specs.declared.fault.StepRefusal.TheVariants as steps
use Rattle.st_host_frames.specs.declared.fault.HostFault.{HostFault}
use Rattle.st_host_frames.specs.declared.fault.HostFault.TheVariants as hosts
use Rattle.st_rules.specs.declared.lease.Phase.{Phase}
use Rattle.st_rules.specs.declared.lease.Phase.TheVariants.{Valid, Renewal, Quiesce, Flush, Expired}

-- a hundred times the major number, and the minor number
abbrev pub VERSION : ℕ
VERSION = 100

abbrev pub DONE : ℕ
DONE = 0

-- the handle is open
abbrev pub BUSY : ℕ
BUSY = 1

-- the handle is not open
abbrev pub ABSENT : ℕ
ABSENT = 2

-- memory ran out, and nothing has happened
abbrev pub NO_MEMORY : ℕ
NO_MEMORY = 3

-- the buffer is too short
abbrev pub SHORT_ROOM : ℕ
SHORT_ROOM = 10

-- of bytes that spell no message
abbrev pub of_codec : CodecRefusal → ℕ
of_codec refusals.Short = 18
of_codec refusals.Long = 19
of_codec refusals.Kind = 20
of_codec (refusals.Value at) = 21
of_codec refusals.Version = 22
of_codec (refusals.FrameTooLong n) = 23
of_codec refusals.Memory = NO_MEMORY

-- the byte of the message or the length of the frame that is reported, or 0
abbrev pub place_of_codec : CodecRefusal → ℕ
place_of_codec (refusals.Value at) = at
place_of_codec (refusals.FrameTooLong n) = n
place_of_codec r = 0

-- of bytes that are not one frame
abbrev pub of_frame : FrameFault → ℕ
of_frame frames.Cut = 16
of_frame frames.Extra = 17
of_frame (frames.Refused r) = of_codec r

abbrev pub place_of_frame : FrameFault → ℕ
place_of_frame frames.Cut = 0
place_of_frame frames.Extra = 0
place_of_frame (frames.Refused r) = place_of_codec r

-- of a step
abbrev pub of_step : StepRefusal → ℕ
of_step steps.Memory = NO_MEMORY
of_step steps.Crashed = 4
of_step steps.Starved = 5
of_step steps.Untaken = 6
of_step steps.Time = 7
of_step steps.Full = 8
of_step (steps.Frame f) = of_frame f

abbrev pub place_of_step : StepRefusal → ℕ
place_of_step (steps.Frame f) = place_of_frame f
place_of_step r = 0

-- of settings
abbrev pub of_settings : ConfigRefusal → ℕ
of_settings settings.Order = 32
of_settings settings.Rate = 33
of_settings settings.TooLong = 34
of_settings settings.Demand = 35
of_settings settings.Grain = 36

-- of opening
abbrev pub of_open : OpenFault → ℕ
of_open opening.Memory = NO_MEMORY
of_open (opening.Settings r) = of_settings r
of_open opening.Number = 37
of_open opening.Servers = 38
of_open opening.Lives = 39

-- the number of a phase; 0 is that of no lease
abbrev pub of_phase : Phase → ℕ
of_phase Valid = 1
of_phase Renewal = 2
of_phase Quiesce = 3
of_phase Flush = 4
of_phase Expired = 5

abbrev pub of_phase_held : Option Phase → ℕ
of_phase_held None = 0
of_phase_held (Some p) = of_phase p

-- the end of a lease, or 0 if none is held
abbrev pub end_held : Option Stamp → ℕ
end_held None = 0
end_held (Some end) = end.0

-- 1 if it is true
abbrev pub flag : Bool → ℕ
flag true = 1
flag false = 0

-- of a server's step
abbrev pub of_server_step : ServerRefusal → ℕ
of_server_step refused.Unkept = 9
of_server_step (refused.Step r) = of_step r
of_server_step refused.JournalFull = 11

abbrev pub place_of_server_step : ServerRefusal → ℕ
place_of_server_step refused.Unkept = 0
place_of_server_step (refused.Step r) = place_of_step r
place_of_server_step refused.JournalFull = 0

-- of opening a server
abbrev pub of_server_open : ServerFault → ℕ
of_server_open servers.Memory = NO_MEMORY
of_server_open (servers.Settings r) = of_settings r
of_server_open servers.Time = 7
of_server_open servers.Full = 11
of_server_open servers.Shape = 40
of_server_open servers.Size = 41
of_server_open (servers.Damaged at) = 42
of_server_open servers.NoEpoch = 43
of_server_open servers.Epochs = 44

-- the place in the journal that is reported, or 0
abbrev pub place_of_server_open : ServerFault → ℕ
place_of_server_open (servers.Damaged at) = at
place_of_server_open f = 0

-- of a struct that has no frame, or a frame that has no struct
abbrev pub of_host : HostFault → ℕ
of_host hosts.Memory = NO_MEMORY
of_host (hosts.Room n) = SHORT_ROOM
of_host hosts.Unknown = 12
of_host hosts.Range = 13
of_host hosts.OtherKind = 14
of_host (hosts.Frame f) = of_frame f

-- what a buffer that is too short must have room for, or 0
abbrev pub room_of_host : HostFault → ℕ
room_of_host (hosts.Room n) = n
room_of_host f = 0
