-- The statuses of a replay and of a text that is made, and what holds at each. docs/PROTOCOL.md, "The program".
use Rattle.std.specs.Prelude.{◌≡◌, ◌≤◌, ◌⊎◌, ℕ, List, Result, Ok, Err, IfSome}
use Rattle.std.specs.Io.KnownBytes.{IsAtEnd}
use Rattle.st_replay.specs.declared.fault.ReplayFault.{ReplayFault}
use Rattle.st_replay.specs.declared.fault.ReplayFault.TheVariants as faults
use Rattle.st_replay.specs.Ends.{IsCutOff}
use Rattle.st_runs.specs.Replay.{Last, Whole, Stopped, replay_of, report_of}
use Rattle.st_rules.specs.declared.observation.Summary.{Summary}
use Rattle.st_rules.specs.World.{World}
use Rattle.st_generate_run.specs.declared.fault.WorkFault.{WorkFault}
use Rattle.st_generate_run.specs.declared.fault.WorkFault.TheVariants as works
use Rattle.st_tank.specs.Uses.{StreamUse, NoneFailed, OneFailed, Receives, ReceivesPrefix}

-- 0 if the schedule was read and run through its end, and 1 if a line was refused
abbrev pub status_of : Last → ℕ
status_of (Whole w) = 0
status_of (Stopped line f) = 1

-- the status of a replay that ended so
abbrev pub status_in : Result (Summary × World) ReplayFault → ℕ
status_in (Ok r) = 0
status_in (Err (faults.Line n f)) = 1
status_in (Err faults.Read) = 3
status_in (Err faults.Write) = 4
status_in (Err faults.Memory) = 5

-- the status of a text that was made
abbrev pub status_made : {T : Type 0} → Result T WorkFault → ℕ
status_made (Ok r) = 0
status_made (Err works.Write) = 4
status_made (Err works.Memory) = 5

-- A schedule was replayed: at 0 and 1 all of the report was written, with that status, and no call failed; at 0 all was read; at 3 and 4
-- a call of the source or of the sink failed; and a prefix of the report was written in any case.
pub record IsReplayed {Input Output : Type 0} (status : ℕ) (input : StreamUse Input) (out : StreamUse Output) : Type 0 where
  pub report : status ≤ 1 → IfSome input.bytes_before (λ bytes. (status ≡ status_of (replay_of bytes).last) × Receives out (report_of bytes))
  pub prefix : IfSome input.bytes_before (λ bytes. ReceivesPrefix out (report_of bytes))
  pub through : status ≡ 0 → IsAtEnd input.bytes_now
  pub still : status ≤ 1 → NoneFailed input × NoneFailed out
  pub read : status ≡ 3 → OneFailed input
  -- what was observed in the lines whose newlines were taken, of which none is refused
  pub cut_off : status ≡ 3 → IsCutOff input.bytes_before input.bytes_now out.bytes_before out.bytes_now
  pub write : status ≡ 4 → OneFailed out
  pub other : ¬ (status ≡ 2)
  pub known : status ≤ 5

-- A text was made: at 0 all of it was written and no call failed, at 4 a call of the sink failed, and a prefix was written in any case;
-- the input was left as it was.
pub record IsMade {Input Output : Type 0} (status : ℕ) (input : StreamUse Input) (out : StreamUse Output) (text : List ℕ) : Type 0 where
  pub whole : status ≤ 3 → (status ≡ 0) × Receives out text
  pub front : ReceivesPrefix out text
  pub still : status ≤ 1 → NoneFailed out
  pub write : status ≡ 4 → OneFailed out
  pub known : (status ≡ 0) ⊎ ((status ≡ 4) ⊎ (status ≡ 5))
  pub alone : input.now ≡ input.before
