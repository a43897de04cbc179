-- How a replay ended, and what holds then: of the source, of the sink, and of the counts of their faults.
use Rattle.std.specs.Prelude.{◌≡◌, ◌≤◌, ℕ, List, length, Option, Result, Ok, Err}
use Rattle.std.specs.Io.KnownBytes.{Appends, Consumes}
use Rattle.st_link.specs.Causes.{Rose}
use Rattle.st_link.specs.Prefixes.{AppendsPrefix}
use Rattle.st_rules.specs.declared.observation.Summary.{Summary}
use Rattle.st_rules.specs.World.{World}
use Rattle.st_replay.specs.declared.fault.ReplayFault.{ReplayFault}
use Rattle.st_replay.specs.declared.fault.ReplayFault.TheVariants as faults
use Rattle.st_runs.specs.Replay.{Replay, Last, Whole, Stopped, text, replay_lines}
use Rattle.st_runs.specs.Safe.{RunsSafely}
use Rattle.st_replay.specs.Pieces.{Passes, whole_lines}
use Rattle.st_replay.specs.VolumeRuns.{RunsInTheVolume}

-- What was written, next to the replay of all bytes: the whole report if it went through the end or stopped at a line, and otherwise a prefix of it.
abbrev pub Reports : Result (Summary × World) ReplayFault → Option (List ℕ) → Option (List ℕ) → Replay → Type 0
Reports (Ok r) before now p = (p.last ≡ Whole r.1) × Appends before now (text p)
Reports (Err (faults.Line n f)) before now p = (p.last ≡ Stopped n f) × Appends before now (text p)
Reports (Err faults.Read) before now p = AppendsPrefix before now (text p)
Reports (Err faults.Write) before now p = AppendsPrefix before now (text p)
Reports (Err faults.Memory) before now p = AppendsPrefix before now (text p)

-- After a failed read what was written is what was observed in the lines whose newlines were taken; none of these is refused, and
-- their run is safe and is a run of the volume.
pub record IsCutOff (left_before left_now written_before written_now : Option (List ℕ)) : Type 0 where
  pub taken : List ℕ
  pub took : Consumes left_before left_now taken
  pub wrote : Appends written_before written_now (replay_lines (whole_lines taken)).front
  pub passes : Passes (length (whole_lines taken)) (replay_lines (whole_lines taken)).last
  pub safe : RunsSafely (whole_lines taken)
  pub volume : RunsInTheVolume (whole_lines taken)

-- a fact of a read that failed
abbrev pub OnRead : {T : Type 0} → Result T ReplayFault → Type 0 → Type 0
OnRead (Err faults.Read) fact = fact
OnRead r fact = Unit {0}

-- The counts of faults of the source and of the sink: one of them rose at `Read` and at `Write`; both stayed if the replay
-- went through or stopped at a line.
abbrev pub HasCauses : {T : Type 0} → Result T ReplayFault → ℕ → ℕ → ℕ → ℕ → Type 0
HasCauses (Ok r) read_before read_now written_before written_now = (read_now ≡ read_before) × (written_now ≡ written_before)
HasCauses (Err (faults.Line n f)) read_before read_now written_before written_now = (read_now ≡ read_before) × (written_now ≡ written_before)
HasCauses (Err faults.Read) read_before read_now written_before written_now = Rose read_before read_now × (written_before ≤ written_now)
HasCauses (Err faults.Write) read_before read_now written_before written_now = (read_before ≤ read_now) × Rose written_before written_now
HasCauses (Err faults.Memory) read_before read_now written_before written_now = (read_before ≤ read_now) × (written_before ≤ written_now)

-- A schedule that goes through its end is replayed, unless a count rose or memory ran out.
abbrev pub Completes : Result (Summary × World) ReplayFault → Last → Type 0
Completes (Err (faults.Line n f)) (Whole w) = ⊥
Completes r last = Unit {0}
