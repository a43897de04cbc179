-- The relation between a byte list and a message.
use Rattle.std.specs.Prelude.{◌≡◌, ℕ, true, List}
use Rattle.st_messages.specs.declared.message.Message.{Message}
use Rattle.st_messages.specs.Ranges.{fits}
use Rattle.st_codec.specs.Spelling.{spelling}

-- these bytes spell this message
pub record Spells (bytes : List ℕ) (m : Message) : Type 0 where
  pub text : bytes ≡ spelling m
  pub ranges : fits m ≡ true
