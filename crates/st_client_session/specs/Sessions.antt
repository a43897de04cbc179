-- A client's session with a server, as its parties see it; what always holds of it, and the messages of its requests.
use Rattle.std.specs.Prelude.{◌≡◌, ℕ, Bool, true, false, not, [], ◌∷◌, Option, Some, None}
use Rattle.st_base.specs.declared.config.Config.{Config}
use Rattle.st_base.specs.declared.ids.ClientId.{ClientId}
use Rattle.st_base.specs.declared.ids.ServerId.{ServerId}
use Rattle.st_base.specs.declared.ids.Life.{Life}
use Rattle.st_base.specs.declared.ids.Epoch.{Epoch}
use Rattle.st_base.specs.declared.ids.Stamp.{Stamp}
use Rattle.st_lease_client.specs.ServerLease.{ServerLease}
use Rattle.st_lock_cache.specs.Calls.{ServerLocks}
use Rattle.st_messages.specs.declared.message.Body.{Body}
use Rattle.st_messages.specs.declared.message.Header.{Header}
use Rattle.st_messages.specs.declared.message.Message.{Message}
use Rattle.st_requests.specs.ServerRequests.{ServerRequests, Under}
use Rattle.st_rules.specs.declared.client.Release.{Release}
use Rattle.st_rules.specs.declared.client.Request.{Request}
use Rattle.st_rules.specs.ClientLease as leases
use Rattle.st_rules.specs.ClientLease.{ClientLease}
use Rattle.st_rules.specs.ClientState.{ClientSession, asked_again, is_again_due}
use Rattle.st_rules.specs.Keys.{server_node}

-- a client, its life at a server, the server, and the settings
pub record Parties : Type 0 where
  pub client : ClientId
  pub server : ServerId
  pub life : Life
  pub config : Config

-- the session of these parties
pub record ServerSession : Type 0 where
  pub of : Parties
  pub session : ClientSession

-- another session of the same parties
abbrev pub with_session : ClientSession → ServerSession → ServerSession
with_session s x = record x { session = s }

-- the lease of this date
abbrev pub lease_of : Stamp → Bool → ClientLease
lease_of date condemned = record { date = date; condemned = condemned }

-- the life and the epoch under which a request was asked
abbrev pub under_of : Life → Epoch → Option Request → Option Under
under_of life epoch None = None
under_of life epoch (Some q) = Some (record { life = life; epoch = epoch })

-- What always holds: the lease is held, the parts are of one server and one client, and the outstanding request was asked in this life and epoch.
pub record IsSession (life : Life) (epoch : Epoch) (date : Stamp) (condemned : Bool) (lease : ServerLease) (requests : ServerRequests) (locks : ServerLocks) : Type 0 where
  pub held : lease.lease ≡ Some (lease_of date condemned)
  pub asked_there : requests.server ≡ lease.server
  pub locked_there : locks.server ≡ lease.server
  pub retries : requests.retry ≡ lease.config.retry
  pub under : requests.under ≡ under_of life epoch requests.requests.asked

-- the lease is not over at this moment
abbrev pub lasts : ServerSession → Stamp → Bool
lasts x now = not (leases.must_discard (leases.standing_of x.of.config x.session.lease now))

-- what precedes a request of the session
abbrev pub header : ServerSession → ℕ → Stamp → Header
header x number now = record { from = x.of.client.0; to = server_node x.of.server; life = x.of.life.0; epoch = x.session.epoch.0; number = number; stamp = now.0 }

-- the message of a request of the session
abbrev pub message : ServerSession → ℕ → Body → Stamp → Message
message x number body now = record { header = header x number now; body = body }

-- the outstanding request, sent now
abbrev pub again : Request → Stamp → ServerSession → ServerSession
again q now x = with_session (record x.session { requests = asked_again q now x.session.requests }) x

-- Asking again: the message of the outstanding request if it was last sent long ago, and otherwise none.
abbrev pub Again : ServerSession → ServerSession → Option Message → Stamp → Option Request → Type 0
Again old new None now None = new ≡ old
Again old new (Some m) now None = ⊥
Again old new None now (Some q) = record { early : is_again_due old.of.config.retry now q ≡ false; same : new ≡ old }
Again old new (Some m) now (Some q) = record { due : is_again_due old.of.config.retry now q ≡ true; told : m ≡ message old q.number q.body now; left : new ≡ again q now old }

-- the first release is taken, and the others are left
abbrev pub TakesRelease : ServerSession → ServerSession → Option Release → Type 0
TakesRelease old new None = record { none : old.session.releases ≡ []; same : new ≡ old }
TakesRelease old new (Some r) = record { first : old.session.releases ≡ r ∷ new.session.releases; is : new ≡ with_session (record old.session { releases = new.session.releases }) old }
