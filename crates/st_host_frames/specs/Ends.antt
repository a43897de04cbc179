-- The end of a disk command that a struct means, with the page that was read.
use Rattle.std.specs.Prelude.{ℕ, List, ◌==◌, if◌then◌else◌, Option, Some, None, Result, Ok, Err}
use Rattle.st_messages.specs.declared.message.Body.TheVariants.{Done}
use Rattle.st_messages.specs.declared.message.DiskResult.{DiskResult}
use Rattle.st_messages.specs.declared.message.DiskResult.TheVariants as results
use Rattle.st_messages.specs.declared.message.Message.{Message}
use Rattle.st_messages.specs.Ranges.{is_whole_page}
use Rattle.st_host_frames.specs.Messages.{framed, tag_of, told}
use Rattle.st_host_frames.specs.declared.done.TankDone.{TankDone}
use Rattle.st_host_frames.specs.declared.fault.HostFault.{HostFault}
use Rattle.st_host_frames.specs.declared.fault.HostFault.TheVariants as faults

-- with the numbers of the wire
unfoldable pub ended : TankDone → List ℕ → Option DiskResult
ended d page =
    if d.result == 0 then Some results.Failed
    else if d.result == 1 then Some results.WriteDone
    else if d.result == 2 then Some (results.ReadDone (tag_of d.tag) page)
    else None

abbrev pub end_message : TankDone → DiskResult → Message
end_message d x = told d.client (Done d.number x)

abbrev pub framed_end : TankDone → Option DiskResult → Result (List ℕ) HostFault
framed_end d None = Err faults.Unknown
framed_end d (Some x) = framed (end_message d x)

-- The frame of an end.
abbrev pub done_frame : TankDone → List ℕ → Result (List ℕ) HostFault
done_frame d page = framed_end d (ended d page)

-- an end whose page is whole
abbrev pub measured : Option DiskResult → Result DiskResult HostFault
measured None = Err faults.Unknown
measured (Some (results.ReadDone t bytes)) = if is_whole_page bytes then Ok (results.ReadDone t bytes) else Err faults.Range
measured (Some x) = Ok x
