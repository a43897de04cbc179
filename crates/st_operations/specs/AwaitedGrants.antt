-- Which pending operations a lock serves.
use Rattle.std.specs.Prelude.{ℕ, Bool, ◌&&◌, ◌||◌, not, ◌==◌}
use Rattle.st_base.specs.Mode.{covers, number_of}
use Rattle.st_base.specs.declared.ids.ServerId.{ServerId}
use Rattle.st_base.specs.declared.mode.Mode.{Mode}
use Rattle.st_messages.specs.declared.ask.Ask.{Ask}
use Rattle.st_rules.specs.declared.client.Operation.{Operation}
use Rattle.st_rules.specs.ClientPasses.{need}
use Rattle.st_rules.specs.ClientState.{is_on, is_sent, is_sync}

-- no lock is held, or one that the ask needs
abbrev pub is_served_under : Mode → Ask → Bool
is_served_under mode ask = (number_of mode == 0) || covers mode (need ask)

-- An operation on the file, other than a sync, whose request was not sent: it waits for a lock, or for what else it needs with the lock that is held.
abbrev pub awaits : ServerId → ℕ → Mode → Operation → Bool
awaits server ino mode o = is_on server ino o && (not (is_sync o.ask) && (not (is_sent o) && is_served_under mode o.ask))
