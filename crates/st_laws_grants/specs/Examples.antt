-- A number that is given twice, a grant that is sent again, and numbers that fall.
use Rattle.std.specs.Prelude.{◌≡◌, ℕ, ◌+◌, true, false, [], ◌∷◌}
use Rattle.st_base.specs.declared.ids.ServerId.{ServerId}
use Rattle.st_base.specs.declared.mode.Mode.TheVariants as modes
use Rattle.st_messages.specs.declared.message.Body.TheVariants as bodies
use Rattle.st_messages.specs.declared.message.Message.{Message}
use Rattle.st_rules.specs.Keys.{server_node}
use Rattle.st_promises.specs.Grants.{gives_once, gives_rising}

-- the server of the examples
abbrev pub one_server : ServerId
one_server = record { 0 = 1 }

-- a shared grant of a file to this client, under this number of the first epoch
abbrev pub granted : ℕ → ℕ → ℕ → Message
granted to ino n = record { header = record { from = server_node one_server; to = to; life = 1; epoch = 1; number = 0; stamp = 0 }; body = bodies.Granted ino (record { 0 = 4294967296 + n }) modes.S }

-- Grants under one number to two clients, or of two files, are refused, and so is a new grant under a lower number; a grant that is sent again isn't, nor one
-- under a greater number.
pub record WrongGrantsAreRefused : Type 0 where
  pub clients : gives_once (granted 1 2 1 ∷ granted 2 2 1 ∷ []) one_server ≡ false
  pub files : gives_once (granted 1 2 1 ∷ granted 1 3 1 ∷ []) one_server ≡ false
  pub again : gives_once (granted 1 2 1 ∷ granted 1 2 1 ∷ []) one_server ≡ true
  pub falling : gives_rising (granted 1 2 2 ∷ []) (granted 1 2 2 ∷ granted 2 2 1 ∷ []) one_server ≡ false
  pub rising : gives_rising (granted 1 2 2 ∷ []) (granted 1 2 2 ∷ granted 2 2 3 ∷ granted 1 2 2 ∷ []) one_server ≡ true
