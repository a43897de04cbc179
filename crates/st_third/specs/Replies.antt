-- A client's rule for a message: take a fresh welcome only; answer a demand while a release waits;
-- and what the other rules say about replies.
use Rattle.std.specs.Prelude.{ℕ, ◌+◌, Bool, ◌&&◌, ◌==◌, nat_lt, if◌then◌else◌, Option, Some, None, is_some, ⊤}
use Rattle.st_base.specs.declared.ids.Epoch.{Epoch}
use Rattle.st_base.specs.declared.ids.GrantNo.{GrantNo}
use Rattle.st_base.specs.declared.ids.Stamp.{Stamp}
use Rattle.st_base.specs.declared.mode.Mode.{Mode}
use Rattle.st_messages.specs.declared.message.Header.{Header}
use Rattle.st_messages.specs.declared.message.Body.{Body}
use Rattle.st_messages.specs.declared.message.Body.TheVariants as bodies
use Rattle.st_messages.specs.declared.message.Why.{Why}
use Rattle.st_messages.specs.declared.message.Why.TheVariants as why
use Rattle.st_rules.specs.declared.client.Asked.{Asked}
use Rattle.st_rules.specs.declared.client.Asked.TheVariants.{NotHeld}
use Rattle.st_rules.specs.declared.client.Request.{Request}
use Rattle.st_rules.specs.ClientLease as lease
use Rattle.st_rules.specs.ClientLocks as locks
use Rattle.st_rules.specs.ClientReplies as replies
use Rattle.st_rules.specs.ClientReplies.{ended_by}
use Rattle.st_rules.specs.ClientState.{ClientSession, Turn, with_cache}
use Rattle.st_third.specs.declared.limits.Limits.{Limits}
use Rattle.st_third.specs.GiveBack.{full_at}
use Rattle.st_third.specs.Limits.{limited_session}
use Rattle.st_third.specs.Runs.{is_partly_free, run_restored, with_run_limit}
use Rattle.st_third.specs.State.{ThirdClientTurn, ThirdTurn, at_each, fresh_beside, plainly, with_beside}
use Rattle.st_third.specs.UsedOnce.{granted}

-- Take a fresh welcome only: now is below its stamp plus `renew`.
abbrev pub is_fresh : Turn → Stamp → Stamp → Bool
is_fresh t now stamp = is_some t.here.greeting && nat_lt now.0 (stamp.0 + t.config.renew)

-- a session begins, with its limit
abbrev pub session_begun : Limits → Epoch → Stamp → Turn → Turn
session_begun m epoch stamp t =
    replies.note_lease (lease.new_lease stamp) (replies.begin_here (limited_session m (replies.new_session epoch stamp)) t)

-- with nothing beside it
abbrev pub begin_session : ThirdTurn → Epoch → Stamp → ThirdTurn
begin_session t epoch stamp = with_beside fresh_beside (plainly (session_begun t.limits epoch stamp) t)

-- Welcome
unfoldable pub welcome : ThirdTurn → Stamp → Epoch → Stamp → ThirdTurn
welcome t now epoch stamp = if is_fresh t.plain now stamp then begin_session t epoch stamp else t

-- Without a session every other message is ignored.
unfoldable pub without_session : ThirdTurn → Stamp → Header → Body → ThirdTurn
without_session t now h bodies.Welcome = welcome t now (record { 0 = h.epoch }) (record { 0 = h.stamp })
without_session t now h body = t

-- Answer while a release waits: a demand for a file without a lock is seen, too.
abbrev pub release_due : ClientSession → ℕ → GrantNo → Turn → Turn
release_due s ino g t = replies.observe_demand t (replies.release_unheld s ino g) ino g

-- by what becomes of the demand
abbrev pub demand_as : ClientSession → ℕ → GrantNo → Asked → Turn → Turn
demand_as s ino g NotHeld t = release_due s ino g t
demand_as s ino g asked t = replies.demand_as t s ino g asked

-- with the locks after it
abbrev pub demand_by : ClientSession → ℕ → GrantNo → locks.Demanding → Turn → Turn
demand_by s ino g d t = demand_as (with_cache d.locks s) ino g d.asked t

-- Demand
unfoldable pub demand : ThirdTurn → ClientSession → ℕ → GrantNo → Mode → ThirdTurn
demand t s ino g to = plainly (demand_by s ino g (locks.demand s.locks ino g to)) t

-- Counting replies.

-- the request ends
abbrev pub request_ended : ClientSession → Stamp → Turn → Turn
request_ended s stamp t = replies.end_request t s stamp

-- after the request's end
abbrev pub end_request : ThirdTurn → ClientSession → Stamp → ThirdTurn
end_request t s stamp = plainly (request_ended s stamp) t

-- as in the other forms
abbrev pub plain_reply : ClientSession → Stamp → Stamp → Body → Body → Turn → Turn
plain_reply s now stamp reply asked t = replies.count_reply t s now stamp reply asked

-- fewer blocks are free than requested
unfoldable pub no_space : ThirdTurn → ClientSession → Stamp → Stamp → ℕ → ℕ → ℕ → Body → ThirdTurn
no_space t s now stamp free wanted count asked =
    if is_partly_free free count
    then with_run_limit free (end_request t s stamp)
    else plainly (plain_reply s now stamp (bodies.Nack why.NoSpace free wanted) asked) t

-- by the refusal and the request
unfoldable pub refused : ThirdTurn → ClientSession → Stamp → Stamp → Why → ℕ → ℕ → Body → ThirdTurn
refused t s now stamp why.TooManyLocks a b (bodies.Acquire ino mode) = full_at (end_request t s stamp) (ended_by stamp s) now ino
refused t s now stamp why.NoSpace free wanted (bodies.Allocate ino g p count) = no_space t s now stamp free wanted count (bodies.Allocate ino g p count)
refused t s now stamp w a b asked = plainly (plain_reply s now stamp (bodies.Nack w a b) asked) t

-- by the reply
unfoldable pub count_reply : ThirdTurn → ClientSession → Stamp → Stamp → Body → Body → ThirdTurn
count_reply t s now stamp (bodies.Granted ino g mode) asked = granted (end_request t s stamp) (ended_by stamp s) ino g mode
count_reply t s now stamp (bodies.Extents ino rows) asked = run_restored s asked (plainly (plain_reply s now stamp (bodies.Extents ino rows) asked) t)
count_reply t s now stamp (bodies.Nack w a b) asked = refused t s now stamp w a b asked
count_reply t s now stamp reply asked = plainly (plain_reply s now stamp reply asked) t

-- by the outstanding request
unfoldable pub by_request : ThirdTurn → ClientSession → Stamp → ℕ → Stamp → Body → Request → ThirdTurn
by_request t s now number stamp reply q = if replies.is_counting number reply q then count_reply t s now stamp reply q.body else t

-- if there is one
unfoldable pub counted : ThirdTurn → ClientSession → Stamp → ℕ → Stamp → Body → Option Request → ThirdTurn
counted t s now number stamp reply None = t
counted t s now number stamp reply (Some q) = by_request t s now number stamp reply q

-- a reply of the session's epoch
unfoldable pub reply_of : ThirdTurn → ClientSession → Stamp → Header → Body → ThirdTurn
reply_of t s now h reply = counted t s now h.number (record { 0 = h.stamp }) reply s.requests.asked

-- the lease is no longer renewed
abbrev pub condemned : ClientSession → Turn → Turn
condemned s t = replies.condemn t s

-- Refusals of the session's epoch
unfoldable pub nack : ThirdTurn → ClientSession → Stamp → Header → Why → ℕ → ℕ → ThirdTurn
nack t s now h why.Suspect a b = plainly (condemned s) t
nack t s now h why.NoSession a b = plainly (condemned s) t
nack t s now h why.OtherEpoch a b = t
nack t s now h why.Grace a b = t
nack t s now h why.GraceOver a b = plainly (condemned s) t
nack t s now h why.Conflict a b = plainly (condemned s) t
nack t s now h w a b = reply_of t s now h (bodies.Nack w a b)

-- A grant that answers no request has number 0.
unfoldable pub grant_or_reply : ThirdTurn → ClientSession → Stamp → Header → ℕ → GrantNo → Mode → ThirdTurn
grant_or_reply t s now h ino g mode = if h.number == 0 then granted t s ino g mode else reply_of t s now h (bodies.Granted ino g mode)

-- A message of the session's epoch: by what it says.
unfoldable pub of_epoch : ThirdTurn → ClientSession → Stamp → Header → Body → ThirdTurn
of_epoch t s now h (bodies.Nack w a b) = nack t s now h w a b
of_epoch t s now h (bodies.Granted ino g mode) = grant_or_reply t s now h ino g mode
of_epoch t s now h (bodies.Demand ino g to) = demand t s ino g to
of_epoch t s now h body = reply_of t s now h body

-- of another epoch, as in the other forms
abbrev pub of_other_epoch : ClientSession → Epoch → Body → Turn → Turn
of_other_epoch s epoch body t = replies.of_other_epoch t s epoch body

-- by its epoch
unfoldable pub with_a_session : ThirdTurn → ClientSession → Stamp → Header → Body → ThirdTurn
with_a_session t s now h body = if h.epoch == s.epoch.0 then of_epoch t s now h body else plainly (of_other_epoch s (record { 0 = h.epoch }) body) t

-- with a session, or without
unfoldable pub by_session : ThirdTurn → Stamp → Header → Body → Option ClientSession → ThirdTurn
by_session t now h body None = without_session t now h body
by_session t now h body (Some s) = with_a_session t s now h body

-- at a server: whether it is from there
unfoldable pub receive_at : Stamp → Header → Body → ThirdTurn → ThirdTurn
receive_at now h body t = if replies.is_received t.plain now h then by_session t now h body t.plain.here.session else t

-- Receiving
unfoldable pub receive : Limits → ThirdClientTurn → Stamp → Header → Body → ThirdClientTurn
receive m t now h body = if h.to == t.client.plain.id.0 then at_each m (receive_at now h body) t else t

-- opens all of this file and of those below it
unfoldable pub third_replies_open : ⊤
unfolding welcome without_session demand no_space refused count_reply by_request counted reply_of nack grant_or_reply of_epoch with_a_session by_session receive_at receive
third_replies_open = tt
