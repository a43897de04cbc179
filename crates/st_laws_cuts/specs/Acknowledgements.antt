-- Wrong acknowledgements of cuts, by their lines.
use Rattle.std.specs.Prelude.{◌≡◌, true, false, [], ◌∷◌}
use Rattle.st_messages.specs.declared.message.Body.{Body}
use Rattle.st_messages.specs.declared.message.Body.TheVariants as bodies
use Rattle.st_messages.specs.declared.message.NameReply.TheVariants as replies
use Rattle.st_messages.specs.declared.message.Why.TheVariants as why
use Rattle.st_rules.specs.declared.observation.Observation.{Observation}
use Rattle.st_rules.specs.declared.observation.Observation.TheVariants as seen
use Rattle.st_promises.specs.Acknowledgements.{are_acknowledged}

-- the line of a cut, and that of a message to a client
abbrev pub a_cut : Observation
a_cut = seen.CutAt 1 (record { server = record { 0 = 1 }; ino = 2 }) (record { 0 = 0 })

abbrev pub a_message : Body → Observation
a_message body = seen.Sent 1 (record { header = record { from = 32769; to = 1; life = 1; epoch = 1; number = 1; stamp = 0 }; body = body })

-- The promise refuses a cut that is done and refused, and one about which nothing is sent; a cut that is acknowledged is not, nor a refusal without a cut.
pub record WrongCutsAreRefused : Type 0 where
  pub holder : are_acknowledged (a_cut ∷ a_message (bodies.Nack why.NotHolder 2 0) ∷ []) ≡ false
  pub name : are_acknowledged (a_cut ∷ a_message (bodies.Named (replies.Refused 5)) ∷ []) ≡ false
  pub both : are_acknowledged (a_cut ∷ a_message bodies.Ack ∷ a_message (bodies.Nack why.NoFile 2 0) ∷ []) ≡ false
  pub silent : are_acknowledged (a_cut ∷ []) ≡ false
  pub done : are_acknowledged (a_cut ∷ a_message bodies.Ack ∷ []) ≡ true
  pub removed : are_acknowledged (a_cut ∷ a_message (bodies.Named (replies.Ino 2)) ∷ []) ≡ true
  pub idle : are_acknowledged (a_message (bodies.Nack why.NotHolder 2 0) ∷ []) ≡ true
