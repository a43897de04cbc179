-- Delivery of a message, if there is one.
use Rattle.std.proofs.Common.{◌≡◌, refl, ap}
use Rattle.std.specs.Prelude.{Option, Some, None, option_map}
use Rattle.st_messages.specs.declared.message.Message.{Message}
use Rattle.st_world_parts.specs.Pieces.{message_sent}
use Rattle.st_rules.specs.declared.world.SentMessage.{SentMessage}
use Rattle.st_rules.specs.Events.{delivers, delivers_to, quiet}
use Rattle.st_rules.specs.World.{World, node_at}

-- no message is delivered
pub delivers_none : (w : World) (o : Option SentMessage) → None ≡ option_map message_sent o → delivers w o ≡ quiet w
unfolding delivers
delivers_none w None h = refl
delivers_none w (Some m) h = absurd (cc)

-- a message is delivered
pub delivers_some : (w : World) (o : Option SentMessage) (m : Message) → Some m ≡ option_map message_sent o → delivers w o ≡ delivers_to w m (node_at m.header.to)
unfolding delivers
delivers_some w None m h = absurd (cc)
delivers_some w (Some s) m h = let e : s.message ≡ m = cc in ap (λ (x : Message). delivers_to w x (node_at x.header.to)) e
