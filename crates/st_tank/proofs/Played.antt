-- A script that ended was played.
use Rattle.std.proofs.Common.{◌≡◌, ◌≤◌, ℕ, List, arith, refl, sym, ap, subst}
use Rattle.std.specs.Prelude.{Option, Some, None, Result, Ok, Err, OnOk, IfSome}
use Rattle.std.specs.Io.KnownBytes.{Appends, IsAtEnd}
use Rattle.st_link.specs.Causes.{Rose}
use Rattle.st_link.specs.Prefixes.{AppendsPrefix}
use Rattle.st_store.specs.InMemory.{InMemory}
use Rattle.st_script_journal.specs.JournalRuns.{HasChanges, Leaves}
use Rattle.st_script_journal.specs.JournalScripts.{JournalState}
use Rattle.st_script.specs.declared.fault.ScriptFault.{ScriptFault}
use Rattle.st_script.specs.declared.fault.ScriptFault.TheVariants as faults
use Rattle.st_script.specs.Ends.{HasCauses, IsWhole, Reports}
use Rattle.st_script.specs.Scripts.{Ending, Whole, Stopped, Outcome}
use Rattle.st_tank.specs.Scripts.{IsPlayed, played_of, status_at, status_scripted}
use Rattle.st_tank.specs.Uses.{StreamUse}
use Rattle.st_tank.proofs.Prefixed.{whole_prefix}

whole_is_zero : {State : Type 0} (holds : State → Type 0) (e : Ending State) → IsWhole holds e → 0 ≡ status_at e
whole_is_zero holds (Whole s) h = refl
whole_is_zero holds (Stopped n) h = absurd h

one_whole : {State : Type 0} (holds : State → Type 0) (r : Result Unit ScriptFault) (before now : Option (List ℕ)) (o : Outcome State) → Reports holds r before now o →
    status_scripted r ≤ 1 → (status_scripted r ≡ status_at o.ending) × Appends before now o.text
one_whole holds (Ok u) before now o h k = (whole_is_zero holds o.ending h.0, h.1)
one_whole holds (Err (faults.Line n)) before now o h k = (sym (ap status_at h.0), h.1)
one_whole holds (Err faults.Read) before now o h k = absurd (omega (arith, k))
one_whole holds (Err faults.Write) before now o h k = absurd (omega (arith, k))
one_whole holds (Err faults.Memory) before now o h k = absurd (omega (arith, k))

one_front : {State : Type 0} (holds : State → Type 0) (r : Result Unit ScriptFault) (before now : Option (List ℕ)) (o : Outcome State) → Reports holds r before now o →
    AppendsPrefix before now o.text
one_front holds (Ok u) before now o h = whole_prefix before now o.text h.1
one_front holds (Err (faults.Line n)) before now o h = whole_prefix before now o.text h.1
one_front holds (Err faults.Read) before now o h = h
one_front holds (Err faults.Write) before now o h = h
one_front holds (Err faults.Memory) before now o h = h

whole_by : {State : Type 0} (holds : State → Type 0) (r : Result Unit ScriptFault) (left before now : Option (List ℕ)) (o : List ℕ → Outcome State) →
    IfSome left (λ bytes. Reports holds r before now (o bytes)) → status_scripted r ≤ 1 →
    IfSome left (λ bytes. (status_scripted r ≡ status_at (o bytes).ending) × Appends before now (o bytes).text)
whole_by holds r None before now o h k = tt
whole_by holds r (Some bytes) before now o h k = one_whole holds r before now (o bytes) h k

front_by : {State : Type 0} (holds : State → Type 0) (r : Result Unit ScriptFault) (left before now : Option (List ℕ)) (o : List ℕ → Outcome State) →
    IfSome left (λ bytes. Reports holds r before now (o bytes)) → IfSome left (λ bytes. AppendsPrefix before now (o bytes).text)
front_by holds r None before now o h = tt
front_by holds r (Some bytes) before now o h = one_front holds r before now (o bytes) h

through_by : {T : Type 0} (r : Result T ScriptFault) (fact : Type 0) → OnOk r fact → status_scripted r ≡ 0 → fact
through_by (Ok x) fact h k = h
through_by (Err (faults.Line n)) fact h k = absurd (omega (arith, k))
through_by (Err faults.Read) fact h k = absurd (omega (arith, k))
through_by (Err faults.Write) fact h k = absurd (omega (arith, k))
through_by (Err faults.Memory) fact h k = absurd (omega (arith, k))

still_by : {T : Type 0} (r : Result T ScriptFault) (a b m n : ℕ) → HasCauses r a b m n → status_scripted r ≤ 1 → (b ≡ a) × (n ≡ m)
still_by (Ok x) a b m n h k = h
still_by (Err (faults.Line l)) a b m n h k = h
still_by (Err faults.Read) a b m n h k = absurd (omega (arith, k))
still_by (Err faults.Write) a b m n h k = absurd (omega (arith, k))
still_by (Err faults.Memory) a b m n h k = absurd (omega (arith, k))

read_by : {T : Type 0} (r : Result T ScriptFault) (a b m n : ℕ) → HasCauses r a b m n → status_scripted r ≡ 3 → Rose a b
read_by (Ok x) a b m n h k = absurd (omega (arith, k))
read_by (Err (faults.Line l)) a b m n h k = absurd (omega (arith, k))
read_by (Err faults.Read) a b m n h k = h.0
read_by (Err faults.Write) a b m n h k = absurd (omega (arith, k))
read_by (Err faults.Memory) a b m n h k = absurd (omega (arith, k))

write_by : {T : Type 0} (r : Result T ScriptFault) (a b m n : ℕ) → HasCauses r a b m n → status_scripted r ≡ 4 → Rose m n
write_by (Ok x) a b m n h k = absurd (omega (arith, k))
write_by (Err (faults.Line l)) a b m n h k = absurd (omega (arith, k))
write_by (Err faults.Read) a b m n h k = absurd (omega (arith, k))
write_by (Err faults.Write) a b m n h k = h.1
write_by (Err faults.Memory) a b m n h k = absurd (omega (arith, k))

other_by : {T : Type 0} (r : Result T ScriptFault) → ¬ (status_scripted r ≡ 2)
other_by (Ok x) k = omega (arith, k)
other_by (Err (faults.Line l)) k = omega (arith, k)
other_by (Err faults.Read) k = omega (arith, k)
other_by (Err faults.Write) k = omega (arith, k)
other_by (Err faults.Memory) k = omega (arith, k)

known_by : {T : Type 0} (r : Result T ScriptFault) → status_scripted r ≤ 5
known_by (Ok x) = omega arith
known_by (Err (faults.Line l)) = omega arith
known_by (Err faults.Read) = omega arith
known_by (Err faults.Write) = omega arith
known_by (Err faults.Memory) = omega arith

pub is_played : {State Input Output : Type 0} (holds : State →
    Type 0) (r : Result Unit ScriptFault) (status : ℕ) (input : StreamUse Input) (out : StreamUse Output)
    (o : List ℕ → Outcome State) → status ≡ status_scripted r → IfSome input.bytes_before (λ bytes. Reports holds r out.bytes_before out.bytes_now (o bytes)) →
    OnOk r (IsAtEnd input.bytes_now) → HasCauses r input.faults_before input.faults_now out.faults_before out.faults_now →
    IsPlayed status input out (λ bytes. played_of (o bytes))
is_played holds r status input out o is reports through causes =
    subst (λ s. IsPlayed s input out (λ bytes. played_of (o bytes))) (sym is) (record {
      whole = whole_by holds r input.bytes_before out.bytes_before out.bytes_now o reports;
      front = front_by holds r input.bytes_before out.bytes_before out.bytes_now o reports;
      through = through_by r (IsAtEnd input.bytes_now) through;
      still = still_by r input.faults_before input.faults_now out.faults_before out.faults_now causes;
      read = read_by r input.faults_before input.faults_now out.faults_before out.faults_now causes;
      write = write_by r input.faults_before input.faults_now out.faults_before out.faults_now causes;
      other = other_by r;
      known = known_by r;
    })

-- a script of a journal, which gives back its store
pub journal_is_played : {Input Output : Type 0} (r : Result InMemory ScriptFault) (status : ℕ) (input : StreamUse Input) (out : StreamUse Output)
    (o : List ℕ → Outcome JournalState) →
    status ≡ status_scripted r → IfSome input.bytes_before (λ bytes. Leaves r out.bytes_before out.bytes_now (o bytes)) → OnOk r (IsAtEnd input.bytes_now) →
    HasCauses r input.faults_before input.faults_now out.faults_before out.faults_now → IsPlayed status input out (λ bytes. played_of (o bytes))
journal_is_played (Ok store) status input out o is reports through causes =
    is_played (λ s. HasChanges s store) (Ok tt) status input out o is reports through causes
journal_is_played {Input} {Output} (Err e) status input out o is reports through causes = by_fault e is reports causes
  where
    by_fault : (e : ScriptFault) → status ≡ status_scripted {T = InMemory} (Err e) →
        IfSome input.bytes_before (λ bytes. Leaves (Err e) out.bytes_before out.bytes_now (o bytes)) →
        HasCauses {T = InMemory} (Err e) input.faults_before input.faults_now out.faults_before out.faults_now →
        IsPlayed status input out (λ bytes. played_of (o bytes))
    by_fault (faults.Line l) is reports causes = is_played (λ s. Unit {0}) (Err (faults.Line l)) status input out o is reports tt causes
    by_fault faults.Read is reports causes = is_played (λ s. Unit {0}) (Err faults.Read) status input out o is reports tt causes
    by_fault faults.Write is reports causes = is_played (λ s. Unit {0}) (Err faults.Write) status input out o is reports tt causes
    by_fault faults.Memory is reports causes = is_played (λ s. Unit {0}) (Err faults.Memory) status input out o is reports tt causes
