-- What the calls do that make frames of structs and structs of frames.
use Rattle.std.specs.Prelude.{◌≡◌, ℕ, List, length, Result, Ok, Err}
use Rattle.st_host_frames.specs.Answers as answers
use Rattle.st_host_frames.specs.Answers.{answer_in}
use Rattle.st_host_frames.specs.Commands as commands
use Rattle.st_host_frames.specs.Commands.{command_in}
use Rattle.st_host_frames.specs.Fronts.{frame_at}
use Rattle.st_host_frames.specs.Messages.{no_tag}
use Rattle.st_host_frames.specs.Results.{Fails, NotPut}
use Rattle.st_host_frames.specs.declared.answer.TankAnswer.{TankAnswer}
use Rattle.st_host_frames.specs.declared.command.TankCommand.{TankCommand}
use Rattle.st_host_frames.specs.declared.fault.HostFault.{HostFault}
use Rattle.st_host_frames.specs.declared.front.TankFrame.{TankFrame}
use Rattle.tank_c.specs.Codes as codes

-- why nothing was written, and what the buffer must have room for
pub record Unwritten {T : Type 0} (due : Result (List T) HostFault) (room code count : ℕ) : Type 0 where
  pub fault : HostFault
  pub told : code ≡ codes.of_host fault
  pub needed : count ≡ codes.room_of_host fault
  pub why : NotPut due room fault

-- what is returned if nothing is shown
abbrev pub no_answer : TankAnswer
no_answer = record { op = 0; first = 0; second = 0; page = 0; rows = 0; answer = 0; client = 0 }

abbrev pub no_command : TankCommand
no_command = record { number = 0; tag = no_tag; page = 0; command = 0; block = 0; disk = 0; client = 0 }

abbrev pub no_front : TankFrame
no_front = record { size = 0; version = 0; kind = 0; from = 0; to = 0 }

-- why nothing is shown; the answer or the command is then all 0
pub record Unshown {T : Type 0} (due : Result (List ℕ) HostFault) (room code : ℕ) (shown none : T) : Type 0 where
  pub fault : HostFault
  pub told : code ≡ codes.of_host fault
  pub why : NotPut due room fault
  pub is : shown ≡ none

-- why no frame is seen in front
pub record NoFront (bytes : List ℕ) (code : ℕ) (shown : TankFrame) : Type 0 where
  pub fault : HostFault
  pub told : code ≡ codes.of_host fault
  pub why : Fails fault (frame_at bytes)
  pub is : shown ≡ no_front
