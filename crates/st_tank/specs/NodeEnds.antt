-- How a node that was served ended: the status of the program, and the text on its error sink. docs/PROTOCOL.md, "The program".
use Rattle.std.specs.Prelude.{◌≡◌, ◌≤◌, ◌⊎◌, ◌==◌, if◌then◌else◌, ℕ, List, [], ◌++◌, codes, length, Option, Some, Result, Ok, Err, IfSome}
use Rattle.std.specs.Io.KnownBytes.{Appends}
use Rattle.std.specs.List.{flat_map, AllByRecursion}
use Rattle.st_base.specs.declared.ids.NodeId.{NodeId}
use Rattle.st_base.specs.declared.ids.Stamp.{Stamp}
use Rattle.st_codec.specs.declared.refusal.CodecRefusal.{CodecRefusal}
use Rattle.st_codec.specs.declared.refusal.CodecRefusal.TheVariants as refusals
use Rattle.st_codec.specs.Stream.{IsFramed, message_frame}
use Rattle.st_link.specs.Causes.{Rose}
use Rattle.st_link.specs.Names.{Attaches, MayAttach}
use Rattle.st_link.specs.Prefixes.{AppendsPrefix}
use Rattle.st_messages.specs.declared.message.Message.{Message}
use Rattle.st_rules.specs.Report.{field}
use Rattle.st_node.specs.declared.fault.NodeFault.{NodeFault}
use Rattle.st_node.specs.declared.fault.NodeFault.TheVariants as faults
use Rattle.st_node.specs.Runs.{MOST, Run}
use Rattle.st_node.specs.Service.{HasCauses, OfReadings}
use Rattle.st_node.specs.Whole.{handle_all}
use Rattle.st_tank.specs.NodeWords.{started, started_run}
use Rattle.st_tank.specs.Uses.{StreamUse, LinkUse, ClockUse, NoneFailed, OneFailed}

-- why bytes aren't a message
abbrev pub refusal_text : CodecRefusal → List ℕ
refusal_text refusals.Short = codes " Short"
refusal_text refusals.Long = codes " Long"
refusal_text refusals.Kind = codes " Kind"
refusal_text (refusals.Value at) = codes " Value" ++ field at
refusal_text refusals.Version = codes " Version"
refusal_text (refusals.FrameTooLong length) = codes " FrameTooLong" ++ field length
refusal_text refusals.Memory = []

-- a frame is refused, or cut
abbrev pub frame_text : ℕ → CodecRefusal → List ℕ
frame_text at r = codes "tank: frame at" ++ (field at ++ (refusal_text r ++ codes "\n"))

abbrev pub place_text : ℕ → List ℕ
place_text at = field at ++ codes "\n"

abbrev pub cut_text : ℕ → List ℕ
cut_text at = codes "tank: frame cut at" ++ place_text at

-- the text of an end
unfoldable pub end_text : Result Unit NodeFault → List ℕ
end_text (Ok u) = []
end_text (Err (faults.Frame at r)) = frame_text at r
end_text (Err (faults.Cut at)) = cut_text at
end_text (Err faults.TooManyFrames) = codes "tank: too many frames\n"
end_text (Err faults.Read) = codes "tank: link failed\n"
end_text (Err faults.Write) = codes "tank: link failed\n"
end_text (Err faults.Memory) = codes "tank: out of memory\n"

-- the status of an end
abbrev pub end_status : Result Unit NodeFault → ℕ
end_status (Ok u) = 0
end_status (Err faults.Read) = 6
end_status (Err faults.Write) = 6
end_status (Err faults.Memory) = 5
end_status (Err stop) = 1

-- what may be written about an end: itself, or that memory ran out for the text of status 1
abbrev pub MayTell : Result Unit NodeFault → Result Unit NodeFault → Type 0
MayTell ended told = (told ≡ ended) ⊎ ((end_status ended ≡ 1) × (told ≡ Err faults.Memory))

-- what was written, next to the run over all bytes of the link: all of it if the stream ended or the run stopped, and otherwise a prefix
abbrev pub Writes : Result Unit NodeFault → Option (List ℕ) → Option (List ℕ) → Run → Type 0
Writes (Err faults.Read) before now r = AppendsPrefix before now r.out
Writes (Err faults.Write) before now r = AppendsPrefix before now r.out
Writes (Err faults.Memory) before now r = AppendsPrefix before now r.out
Writes ended before now r = (r.stop ≡ ended) × Appends before now r.out

-- status 1 is 4 if its text was not written
abbrev pub unwritten : ℕ → ℕ
unwritten status = if status == 1 then 4 else status

-- the status is the end's and all of its text was written, or the error sink failed while some text was written
abbrev pub IsTold : Result Unit NodeFault → ℕ → Option (List ℕ) → Option (List ℕ) → ℕ → ℕ → Type 0
IsTold ended status before now faults_before faults_now =
    ((status ≡ end_status ended) × Appends before now (end_text ended) × (faults_now ≡ faults_before))
    ⊎ ((status ≡ unwritten (end_status ended)) × AppendsPrefix before now (end_text ended) × Rose faults_before faults_now × (1 ≤ end_status ended))

-- the link was attached once, at this name; at most once if the link failed or memory ran out
abbrev pub AttachesBy : Result Unit NodeFault → Option (List (List ℕ)) → Option (List (List ℕ)) → List ℕ → Type 0
AttachesBy (Err faults.Read) before now name = MayAttach before now name
AttachesBy (Err faults.Memory) before now name = MayAttach before now name
AttachesBy ended before now name = Attaches before now name

-- the same by the status: 5 and 6 are those of memory and of the link
pub record IsAttached (status : ℕ) (before now : Option (List (List ℕ))) (name : List ℕ) : Type 0 where
  pub most : MayAttach before now name
  pub once : status ≤ 4 → Attaches before now name

-- Whole frames, at most as many as a node takes, over a link that does not fail: each message is handled once, all that comes of it is
-- written, and the status is 0; or memory ran out.
abbrev pub Completes : NodeId → ℕ → Option (List ℕ) → Option (List ℕ) → Option (List ℕ) → Option (List Stamp) → ℕ → ℕ → Type 0
Completes id status left written_before written_now readings link_before link_now =
    (ms : List Message) → left ≡ Some (flat_map message_frame ms) → AllByRecursion IsFramed ms → length ms ≤ MOST → ¬ (Rose link_before link_now) →
    OfReadings readings (λ rs. (status ≡ 5) ⊎ ((status ≡ 0) × Appends written_before written_now (handle_all ms (started id) rs).out))

-- A node was served: how that ended, what was written of its run, whether a call of the link failed, and the status and its text; the link
-- was attached at the name; and what follows only from the status.
pub record IsServed {Err Link Clock : Type 0} (id : NodeId) (name : List ℕ) (status : ℕ) (err : StreamUse Err) (link : LinkUse Link)
    (clock : ClockUse Clock) : Type 0 where
  pub ended : Result Unit NodeFault
  pub run : IfSome link.left (λ bytes. OfReadings clock.readings (λ rs. Writes ended link.written_before link.written_now (started_run id rs bytes)))
  pub causes : HasCauses ended link.faults_before link.faults_now
  pub told : IsTold ended status err.bytes_before err.bytes_now err.faults_before err.faults_now
  pub complete : Completes id status link.left link.written_before link.written_now clock.readings link.faults_before link.faults_now
  pub names : IsAttached status link.attached_before link.attached_now name
  pub still : status ≤ 1 → (link.faults_now ≡ link.faults_before) × NoneFailed err
  pub write : status ≡ 4 → OneFailed err
  pub broken : status ≡ 6 → Rose link.faults_before link.faults_now
  pub others : (status ≤ 1) ⊎ (4 ≤ status)
  pub known : status ≤ 6
