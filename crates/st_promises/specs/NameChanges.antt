-- Names change as asked: which ask of which client led to a change of the names of a server.
use Rattle.std.specs.Prelude.{◌≡◌, ℕ, Bool, true, false, ◌&&◌, ◌||◌, not, List}
use Rattle.std.specs.List.{list_all, list_any}
use Rattle.st_base.specs.declared.ids.ClientId.{ClientId}
use Rattle.st_base.specs.declared.ids.ServerId.{ServerId}
use Rattle.st_messages.specs.declared.ask.Ask.{Ask}
use Rattle.st_messages.specs.declared.ask.Ask.TheVariants as asks
use Rattle.st_rules.specs.Keys.{same_server}
use Rattle.st_rules.specs.World.{all_clients, all_servers, node_of}
use Rattle.st_rules.specs.Safety.{Promise, Step}
use Rattle.st_promises.specs.CutAsks.{numbered_asks, settles_in}
use Rattle.st_promises.specs.NameAnswers.{becomes_at, changes_in}

-- the names of a server became what an ask to it makes of them
abbrev pub becomes_by : ServerId → Step → Ask → Bool
becomes_by s x (asks.Name t ask) = same_server t s && becomes_at ask (node_of x.before.world s) (node_of x.after.world s)
becomes_by s x ask = false

-- under this number, not settled before
abbrev pub is_open_change : List Step → Step → ServerId → ClientId → ℕ × Ask → Bool
is_open_change past x s c k = becomes_by s x k.1 && not (list_any (settles_in c k.0) past)

-- a client was asked to
abbrev pub changes_by : List Step → Step → ServerId → ClientId → Bool
changes_by past x s c = list_any (is_open_change past x s c) (numbered_asks past c)

-- the names of a server stayed, or some client was asked to change them so
abbrev pub is_change_asked : List Step → Step → ServerId → Bool
is_change_asked past x s = not (changes_in s x) || list_any (changes_by past x s) (all_clients x.before.world)

-- Names change as asked: if an event changed the names of a server, an ask of a client was made before it, and was not answered before, or
-- with `uncertain`, and the names became what this ask makes of them.
abbrev pub NamesChangeAsAsked : Promise
NamesChangeAsAsked past x = list_all (is_change_asked past x) (all_servers x.after.world) ≡ true
