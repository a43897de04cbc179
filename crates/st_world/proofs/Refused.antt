-- Refusals of deliveries and losses, by what is kept of a message.
use Rattle.st_lemmas.proofs.Words
use Words.{◌≡◌, ℕ, Bool, refl, ap, Option, Some, None, option_map, DiskCommand, SentMessage}
use Words.refusals
use Words.Admissible.{refused_delivery, refused_effect, refused_loss, refused_report, stands}
use Words.World.{World}
use Rattle.st_disk.specs.declared.commands.CommandState.{CommandState}
use Rattle.st_disk.specs.CommandStates.{standing_of}
use Rattle.st_world_parts.specs.declared.places.MessageEnds.{MessageEnds}
use Rattle.st_world_parts.specs.Pieces.{head_of}
use Rattle.st_world.specs.Deliveries.{delivery_refused, effect_refused, report_refused}

-- there is no such message to deliver
pub delivery_none : (w : World) (k : ℕ) (o : Option SentMessage) → None ≡ option_map head_of o → refused_delivery w k o ≡ Some (refusals.NoMessage k)
unfolding refused_delivery
delivery_none w k None h = refl
delivery_none w k (Some m) h = absurd (cc)

-- a message that may not be delivered
pub delivery_some : (w : World) (k : ℕ) (o : Option SentMessage) (x : MessageEnds) → Some x ≡ option_map head_of o → refused_delivery w k o ≡ delivery_refused w k x
unfolding refused_delivery
delivery_some w k None x h = absurd (cc)
delivery_some w k (Some m) x h = let e : head_of m ≡ x = cc in ap (delivery_refused w k) e

-- there is no such message to lose
pub loss_none : (k : ℕ) (o : Option SentMessage) → None ≡ option_map head_of o → refused_loss k o ≡ Some (refusals.NoMessage k)
unfolding refused_loss
loss_none k None h = refl
loss_none k (Some m) h = absurd (cc)

-- a message that is lost
pub loss_some : (k : ℕ) (o : Option SentMessage) (x : MessageEnds) → Some x ≡ option_map head_of o → refused_loss k o ≡ stands x.lost (refusals.LostMessage k)
unfolding refused_loss
loss_some k None x h = absurd (cc)
loss_some k (Some m) x h = let e : head_of m ≡ x = cc in ap (λ (y : MessageEnds). stands y.lost (refusals.LostMessage k)) e

-- there is no such command to have its effect
pub effect_none : (w : World) (k : ℕ) (o : Option DiskCommand) → None ≡ option_map standing_of o → refused_effect w k o ≡ Some (refusals.NoCommand k)
unfolding refused_effect
effect_none w k None h = refl
effect_none w k (Some d) h = absurd (cc)

-- a command that may not have its effect
pub effect_some : (w : World) (k : ℕ) (o : Option DiskCommand) (x : CommandState) → Some x ≡ option_map standing_of o → refused_effect w k o ≡ effect_refused w k x
unfolding refused_effect
effect_some w k None x h = absurd (cc)
effect_some w k (Some d) x h = let e : standing_of d ≡ x = cc in ap (effect_refused w k) e

-- there is no such command to report
pub report_none : (w : World) (k : ℕ) (ok : Bool) (o : Option DiskCommand) → None ≡ option_map standing_of o → refused_report w k ok o ≡ Some (refusals.NoCommand k)
unfolding refused_report
report_none w k ok None h = refl
report_none w k ok (Some d) h = absurd (cc)

-- a command that may not be reported so
pub report_some : (w : World) (k : ℕ) (ok : Bool) (o : Option DiskCommand) (x : CommandState) → Some x ≡ option_map standing_of o → refused_report w k ok o ≡ report_refused w k ok x
unfolding refused_report
report_some w k ok None x h = absurd (cc)
report_some w k ok (Some d) x h = let e : standing_of d ≡ x = cc in ap (report_refused w k ok) e
