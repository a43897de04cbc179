-- What the commands make of the bytes of a script, and what a run of one comes to. docs/PROTOCOL.md, "Scripts".
use Rattle.std.specs.Prelude.{◌≡◌, ◌≤◌, ℕ, List, Result, Ok, Err, IfSome}
use Rattle.std.specs.Io.KnownBytes.{IsAtEnd}
use Rattle.st_script.specs.declared.fault.ScriptFault.{ScriptFault}
use Rattle.st_script.specs.declared.fault.ScriptFault.TheVariants as faults
use Rattle.st_script_journal.specs.JournalScripts as journals
use Rattle.st_script_containers.specs.MoveScripts as moves
use Rattle.st_script.specs.Scripts.{Ending, Whole, Stopped, Outcome, script_from, script_of}
use Rattle.st_script_shared.specs.SharedScripts as shared
use Rattle.st_script_containers.specs.SnapScripts as snaps
use Rattle.st_tank.specs.declared.words.Command.{Command}
use Rattle.st_tank.specs.declared.words.Command.TheVariants as commands
use Rattle.st_tank.specs.Uses.{StreamUse, NoneFailed, OneFailed, Receives, ReceivesPrefix}

-- all the text of a script, and the status: 0 if the script went through its end, and 1 if a line was malformed or missing
pub record Played : Type 0 where
  pub text : List ℕ
  pub status : ℕ

abbrev pub status_at : {State : Type 0} → Ending State → ℕ
status_at (Whole s) = 0
status_at (Stopped line) = 1

abbrev pub played_of : {State : Type 0} → Outcome State → Played
played_of o = record { text = o.text; status = status_at o.ending }

-- what a command makes of the bytes of a script
unfoldable pub played : Command → List ℕ → Played
played commands.Journal bytes = played_of (script_from journals.journal_rules journals.fresh_journal bytes)
played commands.Move bytes = played_of (script_of moves.head moves.move_rules bytes)
played commands.Snap bytes = played_of (script_of snaps.head snaps.snap_rules bytes)
played commands.Shared bytes = played_of (script_of shared.head shared.shared_rules bytes)

-- the status of a script that ended so
abbrev pub status_scripted : {T : Type 0} → Result T ScriptFault → ℕ
status_scripted (Ok r) = 0
status_scripted (Err (faults.Line n)) = 1
status_scripted (Err faults.Read) = 3
status_scripted (Err faults.Write) = 4
status_scripted (Err faults.Memory) = 5

-- A script was played: at 0 and 1 all its text was written, with that status, and no call failed; at 0 all was read; at 3 and 4 a call
-- of the source or of the sink failed; and a prefix of the text was written in any case.
pub record IsPlayed {Input Output : Type 0} (status : ℕ) (input : StreamUse Input) (out : StreamUse Output) (play : List ℕ → Played) : Type 0 where
  pub whole : status ≤ 1 → IfSome input.bytes_before (λ bytes. (status ≡ (play bytes).status) × Receives out (play bytes).text)
  pub front : IfSome input.bytes_before (λ bytes. ReceivesPrefix out (play bytes).text)
  pub through : status ≡ 0 → IsAtEnd input.bytes_now
  pub still : status ≤ 1 → NoneFailed input × NoneFailed out
  pub read : status ≡ 3 → OneFailed input
  pub write : status ≡ 4 → OneFailed out
  pub other : ¬ (status ≡ 2)
  pub known : status ≤ 5
