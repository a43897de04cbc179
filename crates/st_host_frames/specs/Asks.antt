-- The ask that a struct means, with its bytes: those of the page, of the patch or of the name, and those of a renaming's new name.
use Rattle.std.specs.Prelude.{ℕ, List, ◌==◌, if◌then◌else◌, Option, Some, None, Result, Ok, Err}
use Rattle.st_base.specs.declared.ids.FileId.{FileId}
use Rattle.st_base.specs.declared.ids.PageNo.{PageNo}
use Rattle.st_base.specs.declared.names.NameAsk.{NameAsk}
use Rattle.st_base.specs.declared.names.NameAsk.TheVariants as name_asks
use Rattle.st_messages.specs.declared.ask.Ask.{Ask}
use Rattle.st_messages.specs.declared.ask.Ask.TheVariants as asks
use Rattle.st_messages.specs.declared.message.Body.TheVariants.{App}
use Rattle.st_messages.specs.declared.message.Message.{Message}
use Rattle.st_messages.specs.Ranges.{has_length, is_whole_page}
use Rattle.st_host_frames.specs.Messages.{framed, told}
use Rattle.st_host_frames.specs.declared.ask_fields.TankAsk.{TankAsk}
use Rattle.st_host_frames.specs.declared.fault.HostFault.{HostFault}
use Rattle.st_host_frames.specs.declared.fault.HostFault.TheVariants as faults

abbrev pub file_of : TankAsk → FileId
file_of a = record { server = record { 0 = a.server }; ino = a.ino }

abbrev pub page_of : TankAsk → PageNo
page_of a = record { 0 = a.page }

-- the asks on names are numbered from 81
unfoldable pub name_asked : TankAsk → List ℕ → List ℕ → Option NameAsk
name_asked a bytes other =
    if a.ask == 81 then Some (name_asks.Lookup a.ino bytes)
    else if a.ask == 82 then Some (name_asks.Create a.ino bytes)
    else if a.ask == 83 then Some (name_asks.Mkdir a.ino bytes)
    else if a.ask == 84 then Some (name_asks.Remove a.ino bytes a.other)
    else if a.ask == 85 then Some (name_asks.Rename a.ino bytes a.other other)
    else if a.ask == 86 then Some (name_asks.List a.ino bytes)
    else None

abbrev pub on_names : TankAsk → Option NameAsk → Option Ask
on_names a None = None
on_names a (Some n) = Some (asks.Name (record { 0 = a.server }) n)

-- the others have the numbers of the wire
unfoldable pub asked : TankAsk → List ℕ → List ℕ → Option Ask
asked a bytes other =
    if a.ask == 1 then Some (asks.Write (file_of a) (page_of a) bytes)
    else if a.ask == 2 then Some (asks.Read (file_of a) (page_of a))
    else if a.ask == 3 then Some (asks.Sync (file_of a))
    else if a.ask == 4 then Some (asks.Cut (file_of a) (page_of a))
    else if a.ask == 6 then Some (asks.Patch (file_of a) (page_of a) a.at bytes)
    else on_names a (name_asked a bytes other)

abbrev pub ask_message : TankAsk → Ask → Message
ask_message a x = told a.client (App a.op x)

abbrev pub framed_ask : TankAsk → Option Ask → Result (List ℕ) HostFault
framed_ask a None = Err faults.Unknown
framed_ask a (Some x) = framed (ask_message a x)

-- The frame of an ask.
abbrev pub ask_frame : TankAsk → List ℕ → List ℕ → Result (List ℕ) HostFault
ask_frame a bytes other = framed_ask a (asked a bytes other)

-- an ask whose page or patch has a number of bytes that it may have
abbrev pub measured : Option Ask → Result Ask HostFault
measured None = Err faults.Unknown
measured (Some (asks.Write f p bytes)) = if is_whole_page bytes then Ok (asks.Write f p bytes) else Err faults.Range
measured (Some (asks.Patch f p at bytes)) = if has_length 1 4096 bytes then Ok (asks.Patch f p at bytes) else Err faults.Range
measured (Some x) = Ok x

-- nothing prevents asking for it
abbrev pub as_asked : Option NameAsk → Result (Option NameAsk) HostFault
as_asked o = Ok o
