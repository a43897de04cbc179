use Rattle.std.proofs.Common.{◌∙◌, sym, arith, inl, inr}
use Rattle.st_third_codec.proofs.ExactThird.{decoded_by, found_of, only_of, no_fault}
use Rattle.st_third_codec.proofs.decoder.decode.Goals as goal

pub returns-in-Ok-clause-exact : goal.returns-in-Ok-clause-exact
returns-in-Ok-clause-exact c = elim c.decode_body.ensures [
  | inl e ↦ inl (e ∙ sym (decoded_by c.args.bytes.now c.in-Ok.body.now c.in-Ok.kind c.in-Ok.header (λ i. omega (arith, c.type_inv.bytes i)) c.in-Ok.ensures))
  | inr e ↦ inr e
]

pub returns-in-Ok-clause-found : goal.returns-in-Ok-clause-found
returns-in-Ok-clause-found c = found_of c.args.bytes.now c.decode_body.result (λ i. omega (arith, c.type_inv.bytes i)) (returns-in-Ok-clause-exact c)

pub returns-in-Ok-clause-only : goal.returns-in-Ok-clause-only
returns-in-Ok-clause-only c = only_of c.args.bytes.now c.decode_body.result (returns-in-Ok-clause-exact c)

pub returns-in-Err-Fault-clause-only : goal.returns-in-Err-Fault-clause-only
returns-in-Err-Fault-clause-only c = λ m s. absurd (no_fault c.args.bytes.now c.in-Err-Fault.fault m (rw c.in-Err-Fault.field-0-is at c.in-Err-Fault.ensures) s)
