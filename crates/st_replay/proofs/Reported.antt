-- What was written, next to the replay of all that the source held.
use Rattle.std.proofs.Common.{◌≡◌, ℕ, ◌≤◌, List, [], ◌++◌, take, drop, refl, sym, ◌∙◌, ap, subst, arith, append-nil, take-append-drop}
use Rattle.std.specs.Prelude.{Option, Some, None, Result, Ok, Err, IfSome}
use Rattle.std.specs.Io.KnownBytes.{Appends, IsAtEnd}
use Rattle.std.proofs.KnownBytes.{Appends-nil, Appends-trans}
use Rattle.std.proofs.lemmas.List.{append_assoc}
use Rattle.st_link.specs.Causes.{Rose}
use Rattle.st_link.specs.Prefixes.{AppendsPrefix}
use Rattle.st_rules.specs.declared.observation.Summary.{Summary}
use Rattle.st_rules.specs.World.{World}
use Rattle.st_schedule.specs.declared.reader.Progress.{Progress}
use Rattle.st_runs.specs.declared.fault.LineRefusal.{LineRefusal}
use Rattle.st_replay.specs.declared.fault.ReplayFault.{ReplayFault}
use Rattle.st_replay.specs.declared.fault.ReplayFault.TheVariants as faults
use Rattle.st_replay.specs.declared.fault.Stop.{Stop}
use Rattle.st_replay.specs.declared.fault.Stop.TheVariants as stops
use Rattle.st_runs.specs.Schedule.{lines_of}
use Rattle.st_runs.specs.Replay.{Replay, Last, Whole, Stopped, behind, last_line, text, replay_lines, replay_of, report_of}
use Rattle.st_replay.specs.Ends.{Completes, HasCauses, OnRead, Reports}
use Rattle.st_replay.specs.States.{AtStop, EndsAt, from_here}
use Rattle.st_replay.specs.Streams.{Halts, RefusalCauses, Refuses, RefusesLine, Streams, one}
use Rattle.st_replay.proofs.Newlines.{one_line}
use Rattle.st_replay.proofs.Steps.{behind_both}
use Rattle.st_replay.proofs.Streams.{if_prefix, prefix_of}

-- A refusal.

unwritten : (before now : Option (List ℕ)) (whole : List ℕ) → now ≡ before → AppendsPrefix before now whole
unwritten before now whole e = (0, subst (λ x. Appends before x []) (sym e) (Appends-nil before))

refused_line : (r : ReplayFault) (n : ℕ) (f : LineRefusal) (before now : Option (List ℕ)) (txt : List ℕ) (p : Replay) → RefusesLine r n f before now txt →
    EndsAt txt n f p → Reports (Err r) before now p
refused_line (faults.Line m g) n f before now txt p h e = (
  sym (ap (λ (x : Replay). x.last) e) ∙ ap (λ k. Stopped k f) (sym h.0)
      ∙ ap (λ y. Stopped m y) (sym h.1),
  subst (Appends before now) (ap (λ (x : Replay). text x) e) h.2,
)
refused_line faults.Write n f before now txt p h e = subst (AppendsPrefix before now) (ap (λ (x : Replay). text x) e) h
refused_line faults.Memory n f before now txt p h e = unwritten before now (text p) h
refused_line faults.Read n f before now txt p h e = absurd h

-- A report after a text that was written.

more_prefix : (first before now : Option (List ℕ)) (t whole : List ℕ) → Appends first before t → AppendsPrefix before now whole →
    AppendsPrefix first now (t ++ whole)
more_prefix first before now t whole w h =
    prefix_of first now (t ++ whole) (t ++ take h.0 whole) (drop h.0 whole) (Appends-trans first before now t (take h.0 whole) w h.1)
    (ap (λ x. t ++ x) (sym (take-append-drop h.0 whole)) ∙ sym (append_assoc t (take h.0 whole) (drop h.0 whole)))

more_text : (first before now : Option (List ℕ)) (t : List ℕ) (p : Replay) → Appends first before t → Appends before now (text p) →
    Appends first now (text (behind t p))
more_text first before now t p w h = subst (Appends first now) (sym (append_assoc t p.front (last_line p.last))) (Appends-trans first before now t (text p) w h)

fewer_text : (first before now : Option (List ℕ)) (t : List ℕ) (p : Replay) → Appends first before t → AppendsPrefix before now (text p) →
    AppendsPrefix first now (text (behind t p))
fewer_text first before now t p w h = subst (AppendsPrefix first now) (sym (append_assoc t p.front (last_line p.last))) (more_prefix first before now t
    (text p) w h)

reports_behind : (r : Result (Summary × World) ReplayFault) (first before now : Option (List ℕ)) (t : List ℕ) (p : Replay) → Appends first before t →
    Reports r before now p → Reports r first now (behind t p)
reports_behind (Ok x) first before now t p w h = (h.0, more_text first before now t p w h.1)
reports_behind (Err (faults.Line n f)) first before now t p w h = (h.0, more_text first before now t p w h.1)
reports_behind (Err faults.Read) first before now t p w h = fewer_text first before now t p w h
reports_behind (Err faults.Write) first before now t p w h = fewer_text first before now t p w h
reports_behind (Err faults.Memory) first before now t p w h = fewer_text first before now t p w h

-- the source was taken to its end
all_taken : (bytes taken rest t pending : List ℕ) (handled : List (List ℕ)) (v : Option World) (q : Progress) (next : ℕ) (holds : List ℕ)
    (left now before written : Option (List ℕ)) →
    (s : Streams (Some bytes) (Some rest) before written pending v q next holds) → rest ≡ [] →
    behind s.written (behind pending (from_here v q next (one holds))) ≡ replay_of bytes
all_taken bytes taken rest t pending handled v q next holds left now before written s empty =
    sym (behind_both s.written pending (from_here v q next (one holds)))
    ∙ ap (λ ls. behind (s.written ++ pending) (from_here v q next ls)) (sym (one_line holds s.none) ∙ ap lines_of (sym (append-nil holds)))
    ∙ s.goes (lines_of (holds ++ [])) ∙ ap replay_lines (sym (s.are.lines [])) ∙ ap (λ x. replay_of (s.taken ++ x)) (sym empty) ∙ ap replay_of (sym s.took)

pub reported : (r : Result (Summary × World) ReplayFault) (left now before written after : Option (List ℕ)) (pending : List ℕ) (v : Option World)
    (q : Progress) (next : ℕ) (holds : List ℕ) →
    Streams left now before written pending v q next holds → IsAtEnd now → Reports r written after (behind pending (from_here v q next (one holds))) →
    IfSome left (λ bytes. Reports r before after (replay_of bytes))
reported r None now before written after pending v q next holds s at_end h = tt
reported r (Some bytes) None before written after pending v q next holds s at_end h = absurd s.took
reported r (Some bytes) (Some rest) before written after pending v q next holds s at_end h =
    subst (Reports r before after) (all_taken bytes [] rest [] pending [] v q next holds None None before written s at_end)
    (reports_behind r before written after s.written (behind pending (from_here v q next (one holds))) s.wrote h)

-- a line was refused
refused_at : (r : ReplayFault) (s : Stop) (left before written after : Option (List ℕ)) (pending : List ℕ) (h : Halts left before written pending s) →
    Refuses r s written after pending →
    IfSome left (λ bytes. Reports (Err r) before after (replay_of bytes))
refused_at r (stops.Line n f) None before written after pending h k = tt
refused_at r (stops.Line n f) (Some bytes) before written after pending h k =
    subst (Reports (Err r) before after) h.stops
    (reports_behind (Err r) before written after h.written (record { front = pending; last = Stopped n f }) h.wrote
    (refused_line r n f written after pending (record { front = pending; last = Stopped n f }) k refl))
refused_at r stops.Memory None before written after pending h k = tt
refused_at r stops.Memory (Some bytes) before written after pending h k =
    subst (λ x. Reports (Err x) before after (replay_of bytes)) (sym k.0)
    (subst (λ x. AppendsPrefix before x (report_of bytes)) (sym k.1) (if_prefix (Some bytes) before written h.written h.wrote h.front))

pub refused_everywhere : (r : ReplayFault) (s : Stop) (left before written after : Option (List ℕ)) (pending : List ℕ) →
    Halts left before written pending s → Refuses r s written after pending →
    IfSome left (λ bytes. Reports (Err r) before after (replay_of bytes))
refused_everywhere r s left before written after pending h k = refused_at r s left before written after pending h k

-- Completeness.

completes : (r : Result (Summary × World) ReplayFault) (before now : Option (List ℕ)) (p : Replay) (l : Last) → p.last ≡ l → Reports r before now p →
    Completes r l
completes (Ok x) before now p l e h = tt
completes (Err (faults.Line n f)) before now p (Whole w) e h = absurd (let z = sym e ∙ h.0 in cc)
completes (Err (faults.Line n f)) before now p (Stopped m g) e h = tt
completes (Err faults.Read) before now p l e h = tt
completes (Err faults.Write) before now p l e h = tt
completes (Err faults.Memory) before now p l e h = tt

pub all_completes : (r : Result (Summary × World) ReplayFault) (left before now : Option (List ℕ)) →
    IfSome left (λ bytes. Reports r before now (replay_of bytes)) →
    IfSome left (λ bytes. Completes r (replay_of bytes).last)
all_completes r None before now h = tt
all_completes r (Some bytes) before now h = completes r before now (replay_of bytes) (replay_of bytes).last refl h
