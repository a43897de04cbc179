-- A text that was made.
use Rattle.std.proofs.Common.{◌≡◌, ℕ, List, arith, inl, inr}
use Rattle.std.specs.Prelude.{Result, Ok, Err, OnOk, OnErr}
use Rattle.st_generate_run.specs.declared.fault.WorkFault.{WorkFault}
use Rattle.st_generate_run.specs.declared.fault.WorkFault.TheVariants as works
use Rattle.st_generate_run.specs.Pieces.{HasCauses}
use Rattle.st_tank.specs.Status.{IsMade, status_made}
use Rattle.st_tank.specs.Uses.{StreamUse, Receives, ReceivesPrefix}
use Rattle.st_tank.proofs.Prefixed.{whole_prefix}

pub made : {T Input Output : Type 0} (r : Result T WorkFault) (status : ℕ) (input : StreamUse Input) (out : StreamUse Output) (text : List ℕ) →
    status ≡ status_made r →
    OnOk r (Receives out text) → OnErr r (ReceivesPrefix out text) → HasCauses r out.faults_before out.faults_now → input.now ≡ input.before →
    IsMade status input out text
made (Ok x) status input out text e whole front causes alone = record {
  whole = λ k. (e, whole);
  front = whole_prefix out.bytes_before out.bytes_now text whole;
  still = λ k. causes;
  write = λ k. absurd (omega (arith, e, k));
  known = inl e;
  alone = alone;
}
made (Err works.Write) status input out text e whole front causes alone = record {
  whole = λ k. absurd (omega (arith, e, k));
  front = front;
  still = λ k. absurd (omega (arith, e, k));
  write = λ k. causes;
  known = inr (inl e);
  alone = alone;
}
made (Err works.Memory) status input out text e whole front causes alone = record {
  whole = λ k. absurd (omega (arith, e, k));
  front = front;
  still = λ k. absurd (omega (arith, e, k));
  write = λ k. absurd (omega (arith, e, k));
  known = inr (inr e);
  alone = alone;
}
