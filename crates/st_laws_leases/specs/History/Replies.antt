-- Which message a date of the history is of.
use Rattle.std.specs.Prelude.{◌≡◌, ℕ, ◌+◌, Bool, true, false, not, ◌==◌, List, Some}
use Rattle.st_messages.specs.declared.message.Body.{Body}
use Rattle.st_messages.specs.declared.message.Body.TheVariants as bodies
use Rattle.st_rules.specs.declared.world.SentMessage.{SentMessage}
use Rattle.st_rules.specs.Dating.{refuses_client}
use Rattle.st_rules.specs.History.{LeaseDate}
use Rattle.st_rules.specs.Keys.{server_node}
use Rattle.st_rules.specs.Safety.{Promise}
use Rattle.st_rules.specs.World.{World, WorldClient, site_of}
use Rattle.st_lemmas.specs.Lists.{Has}

-- a message that renews a lease, or begins one: a welcome, or a reply but a refusal of the client or of its epoch; a grant that answers
-- no request has number 0
abbrev pub renews_lease : ℕ → Body → Bool
renews_lease number bodies.Welcome = true
renews_lease number bodies.Ack = true
renews_lease number (bodies.Nack w a b) = not (refuses_client w)
renews_lease number (bodies.Granted ino g mode) = not (number == 0)
renews_lease number (bodies.Queued ino mode) = true
renews_lease number (bodies.Extents ino rows) = true
renews_lease number (bodies.Named reply) = true
renews_lease number bodies.Reasserted = true
renews_lease number body = false

-- A date is of a reply: a message of its server to its client, of its life and epoch, that renews; the lease ends this long after the
-- message's stamp.
pub record Replied (lease : ℕ) (ms : List SentMessage) (d : LeaseDate) : Type 0 where
  pub by : SentMessage
  pub among : Has by ms
  pub from : by.message.header.from ≡ server_node d.server
  pub to : by.message.header.to ≡ d.client.0
  pub of_life : by.message.header.life ≡ d.life.0
  pub of_epoch : by.message.header.epoch ≡ d.epoch.0
  pub renews : renews_lease by.message.header.number by.message.body ≡ true
  pub ends : d.end.0 ≡ by.message.header.stamp + lease

-- each of these dates is
abbrev pub DatesReplied : ℕ → List SentMessage → List LeaseDate → Type 0
DatesReplied lease ms ds = (d : LeaseDate) → Has d ds → Replied lease ms d

-- each of these dates belongs to a client of the world
abbrev pub DatesPlaced : World → List LeaseDate → Type 0
DatesPlaced w ds = (d : LeaseDate) → Has d ds → (site : WorldClient) × (site_of w d.client ≡ Some site)

-- After a step each date of the history belongs to a client and to a reply.
pub record DatesStand (w : World) (ds : List LeaseDate) : Type 0 where
  pub placed : DatesPlaced w ds
  pub replied : DatesReplied w.config.lease w.net.messages ds

-- After a step each date of the history belongs to a client and to a reply
abbrev pub DatesAreOfReplies : Promise
DatesAreOfReplies past x = DatesStand x.after.world x.after.history.dates
