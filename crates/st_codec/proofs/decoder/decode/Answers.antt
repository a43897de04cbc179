use Rattle.std.proofs.Common.{Ok, ap, inl, arith}
use Rattle.st_messages.specs.declared.message.Message.{Message}
use Rattle.st_codec.proofs.ExactMessage.{message_takes, only_this, no_fault}
use Rattle.st_codec.proofs.decoder.decode.Goals as goal

pub returns-in-Ok-clause-found : goal.returns-in-Ok-clause-found
returns-in-Ok-clause-found c = message_takes c.args.bytes.now c.in-Ok.message (λ i. omega (arith, c.type_inv.bytes i)) c.in-Ok.ensures

pub returns-in-Ok-clause-only : goal.returns-in-Ok-clause-only
returns-in-Ok-clause-only c = λ m s. inl (ap (λ (x : Message). Ok x) (only_this c.args.bytes.now c.in-Ok.message m c.in-Ok.ensures s))

pub returns-in-Err-Fault-clause-only : goal.returns-in-Err-Fault-clause-only
returns-in-Err-Fault-clause-only c = λ m s. absurd (no_fault c.args.bytes.now c.in-Err-Fault.fault m (rw c.in-Err-Fault.field-0-is at c.in-Err-Fault.ensures) s)
