-- A text that was written whole was written in part.
use Rattle.std.proofs.Common.{ℕ, List, length, sym, subst}
use Rattle.std.proofs.Math.Seq.{take-length}
use Rattle.std.specs.Prelude.{Option, Some, None, Result, Ok, Err, IfSome}
use Rattle.st_rules.specs.declared.observation.Summary.{Summary}
use Rattle.st_rules.specs.World.{World}
use Rattle.st_replay.specs.declared.fault.ReplayFault.{ReplayFault}
use Rattle.st_replay.specs.declared.fault.ReplayFault.TheVariants as faults
use Rattle.st_runs.specs.Replay.{Replay, text, replay_of, report_of}
use Rattle.st_replay.specs.Ends.{Reports}
use Rattle.std.specs.Io.KnownBytes.{Appends}
use Rattle.st_link.specs.Prefixes.{AppendsPrefix}

pub whole_prefix : (old new : Option (List ℕ)) (text : List ℕ) → Appends old new text → AppendsPrefix old new text
whole_prefix old new text w = (length text, subst (λ t. Appends old new t) (sym (take-length text)) w)

one_prefix : (r : Result (Summary × World) ReplayFault) (old new : Option (List ℕ)) (p : Replay) → Reports r old new p → AppendsPrefix old new (text p)
one_prefix (Ok x) old new p h = whole_prefix old new (text p) h.1
one_prefix (Err (faults.Line n f)) old new p h = whole_prefix old new (text p) h.1
one_prefix (Err faults.Read) old new p h = h
one_prefix (Err faults.Write) old new p h = h
one_prefix (Err faults.Memory) old new p h = h

-- a prefix of the report was written
pub front_written : (r : Result (Summary × World) ReplayFault) (left old new : Option (List ℕ)) → IfSome left (λ bytes. Reports r old new (replay_of bytes)) →
    IfSome left (λ bytes. AppendsPrefix old new (report_of bytes))
front_written r None old new h = tt
front_written r (Some bytes) old new h = one_prefix r old new (replay_of bytes) h
