-- What a status says of a replay.
use Rattle.std.proofs.Common.{◌≡◌, ◌≤◌, ℕ, List, arith, sym, ap, subst}
use Rattle.std.specs.Prelude.{Option, Some, None, Result, Ok, Err, IfOk, IfSome}
use Rattle.std.specs.Io.KnownBytes.{Appends, IsAtEnd}
use Rattle.st_link.specs.Causes.{Rose}
use Rattle.st_replay.specs.declared.fault.ReplayFault.{ReplayFault}
use Rattle.st_replay.specs.declared.fault.ReplayFault.TheVariants as faults
use Rattle.st_replay.specs.Ends.{HasCauses, IsCutOff, OnRead, Reports}
use Rattle.st_runs.specs.Replay.{Replay, replay_of, report_of, text}
use Rattle.st_rules.specs.declared.observation.Summary.{Summary}
use Rattle.st_rules.specs.World.{World}
use Rattle.st_tank.specs.Status.{IsReplayed, status_in, status_of}
use Rattle.st_tank.specs.Uses.{StreamUse}
use Rattle.st_tank.proofs.Prefixed.{front_written}

one_report : (e : Result (Summary × World) ReplayFault) (old new : Option (List ℕ)) (p : Replay) → Reports e old new p → status_in e ≤ 1 → (status_in e ≡ status_of p.last) × Appends old new (text p)
one_report (Ok r) old new p h k = (sym (ap status_of h.0), h.1)
one_report (Err (faults.Line n f)) old new p h k = (sym (ap status_of h.0), h.1)
one_report (Err faults.Read) old new p h k = absurd (omega (arith, k))
one_report (Err faults.Write) old new p h k = absurd (omega (arith, k))
one_report (Err faults.Memory) old new p h k = absurd (omega (arith, k))

report_by : (e : Result (Summary × World) ReplayFault) (left old new : Option (List ℕ)) →
    IfSome left (λ bytes. Reports e old new (replay_of bytes)) → status_in e ≤ 1 →
    IfSome left (λ bytes. (status_in e ≡ status_of (replay_of bytes).last) × Appends old new (report_of bytes))
report_by e None old new h k = tt
report_by e (Some bytes) old new h k = one_report e old new (replay_of bytes) h k

through_by : (e : Result (Summary × World) ReplayFault) (fact : Type 0) → IfOk e (λ r. fact) → status_in e ≡ 0 → fact
through_by (Ok r) fact h k = h
through_by (Err (faults.Line n f)) fact h k = absurd (omega (arith, k))
through_by (Err faults.Read) fact h k = absurd (omega (arith, k))
through_by (Err faults.Write) fact h k = absurd (omega (arith, k))
through_by (Err faults.Memory) fact h k = absurd (omega (arith, k))

still_by : (e : Result (Summary × World) ReplayFault) (a b m n : ℕ) → HasCauses e a b m n → status_in e ≤ 1 → (b ≡ a) × (n ≡ m)
still_by (Ok r) a b m n h k = h
still_by (Err (faults.Line l f)) a b m n h k = h
still_by (Err faults.Read) a b m n h k = absurd (omega (arith, k))
still_by (Err faults.Write) a b m n h k = absurd (omega (arith, k))
still_by (Err faults.Memory) a b m n h k = absurd (omega (arith, k))

read_by : (e : Result (Summary × World) ReplayFault) (a b m n : ℕ) → HasCauses e a b m n → status_in e ≡ 3 → Rose a b
read_by (Ok r) a b m n h k = absurd (omega (arith, k))
read_by (Err (faults.Line l f)) a b m n h k = absurd (omega (arith, k))
read_by (Err faults.Read) a b m n h k = h.0
read_by (Err faults.Write) a b m n h k = absurd (omega (arith, k))
read_by (Err faults.Memory) a b m n h k = absurd (omega (arith, k))

cut_off_by : (e : Result (Summary × World) ReplayFault) (fact : Type 0) → OnRead e fact → status_in e ≡ 3 → fact
cut_off_by (Ok r) fact h k = absurd (omega (arith, k))
cut_off_by (Err (faults.Line l f)) fact h k = absurd (omega (arith, k))
cut_off_by (Err faults.Read) fact h k = h
cut_off_by (Err faults.Write) fact h k = absurd (omega (arith, k))
cut_off_by (Err faults.Memory) fact h k = absurd (omega (arith, k))

write_by : (e : Result (Summary × World) ReplayFault) (a b m n : ℕ) → HasCauses e a b m n → status_in e ≡ 4 → Rose m n
write_by (Ok r) a b m n h k = absurd (omega (arith, k))
write_by (Err (faults.Line l f)) a b m n h k = absurd (omega (arith, k))
write_by (Err faults.Read) a b m n h k = absurd (omega (arith, k))
write_by (Err faults.Write) a b m n h k = h.1
write_by (Err faults.Memory) a b m n h k = absurd (omega (arith, k))

other_by : (e : Result (Summary × World) ReplayFault) → ¬ (status_in e ≡ 2)
other_by (Ok r) k = omega (arith, k)
other_by (Err (faults.Line l f)) k = omega (arith, k)
other_by (Err faults.Read) k = omega (arith, k)
other_by (Err faults.Write) k = omega (arith, k)
other_by (Err faults.Memory) k = omega (arith, k)

known_by : (e : Result (Summary × World) ReplayFault) → status_in e ≤ 5
known_by (Ok r) = omega arith
known_by (Err (faults.Line l f)) = omega arith
known_by (Err faults.Read) = omega arith
known_by (Err faults.Write) = omega arith
known_by (Err faults.Memory) = omega arith

pub replayed : {Input Output : Type 0} (e : Result (Summary × World) ReplayFault) (status : ℕ) (input : StreamUse Input) (out : StreamUse Output) →
    status ≡ status_in e →
    IfSome input.bytes_before (λ bytes. Reports e out.bytes_before out.bytes_now (replay_of bytes)) → IfOk e (λ r. IsAtEnd input.bytes_now) →
    OnRead e (IsCutOff input.bytes_before input.bytes_now out.bytes_before out.bytes_now) →
    HasCauses e input.faults_before input.faults_now out.faults_before out.faults_now → IsReplayed status input out
replayed e status input out is report through cut causes =
    subst (λ s. IsReplayed s input out) (sym is) (record {
      report = report_by e input.bytes_before out.bytes_before out.bytes_now report;
      prefix = front_written e input.bytes_before out.bytes_before out.bytes_now report;
      through = through_by e (IsAtEnd input.bytes_now) through;
      still = still_by e input.faults_before input.faults_now out.faults_before out.faults_now causes;
      read = read_by e input.faults_before input.faults_now out.faults_before out.faults_now causes;
      cut_off = cut_off_by e (IsCutOff input.bytes_before input.bytes_now out.bytes_before out.bytes_now) cut;
      write = write_by e input.faults_before input.faults_now out.faults_before out.faults_now causes;
      other = other_by e;
      known = known_by e;
    })
