-- A message lets numbers of commands and outputs only grow.
use Rattle.st_lemmas.proofs.Words
use Words.{ℕ, Option, Some, None, Epoch, GrantNo, PageNo, Stamp, Mode, AppAnswer, Body, Header, NameReply, Why, Asked, HeldLock, Request}
use Words.answers
use Words.bodies
use Words.replies.{Ino, Listed, Refused}
use Words.why
use Words.ClientLease.{ClientLease, is_renewal, new_lease, renewed}
use Words.ClientReplies.{acknowledged, begin_here, begin_session, ended_by, in_epoch, name_answer, new_session, by_request, by_session, condemn, count_reply}
use Words.ClientReplies.{counted, demand, demand_as, demand_by, drop_held, drop_lock, effect, end_request, extents, follow_epoch, grant_or_reply, granted}
use Words.ClientReplies.{receive_at, is_counting, is_current, is_received, is_newer, is_timely, learn, leave_stuck, nack, named, named_as, newer_epoch}
use Words.ClientReplies.{note_lease, note_renewal, of_epoch, of_other_epoch, queued, reasserted, refuse_as, refuse_file, refuse_holder, refuse_page, refused}
use Words.ClientReplies.{refused_in, refuses_reassertion, removed, reply_of, reply_to, observe_demand, welcome, with_a_session, without_session}
use Words.ClientState.{ClientSession, Turn, answer_each, asks_cut_or_remove, file_asked, is_asked, send, with_session}
use Words.ClientLocks as locks
use Rattle.st_client.proofs.Advancing.{either, says, stays, then_more, told}
use Rattle.st_client.specs.Machines.{Advances}
use Rattle.st_rules.specs.declared.client.Asked.TheVariants.{Reduce, NotHeld, Stale}

lease_grows : (l : ClientLease) (t : Turn) → Advances t (note_lease l t)
unfolding note_lease
lease_grows l t = says t _

begin_grows : (t : Turn) (epoch : Epoch) (stamp : Stamp) → Advances t (begin_session t epoch stamp)
unfolding begin_session
begin_grows t epoch stamp = lease_grows (new_lease stamp) (begin_here (new_session epoch stamp) t)

welcome_grows : (t : Turn) (now : Stamp) (epoch : Epoch) (stamp : Stamp) → Advances t (welcome t now epoch stamp)
unfolding welcome
welcome_grows t now epoch stamp = either (is_timely t now stamp) (begin_session t epoch stamp) t t (begin_grows t epoch stamp) (stays t)

pub without_grows : (t : Turn) (now : Stamp) (h : Header) (body : Body) → Advances t (without_session t now h body)
unfolding without_session
without_grows t now h bodies.Hello = stays t
without_grows t now h bodies.KeepAlive = stays t
without_grows t now h (bodies.Acquire ino mode) = stays t
without_grows t now h (bodies.Released ino g to) = stays t
without_grows t now h (bodies.Map ino g p) = stays t
without_grows t now h (bodies.Allocate ino g p count) = stays t
without_grows t now h (bodies.Cut ino g from) = stays t
without_grows t now h (bodies.Name op) = stays t
without_grows t now h (bodies.Reassert rows) = stays t
without_grows t now h (bodies.DemandSeen ino g) = stays t
without_grows t now h bodies.Welcome = welcome_grows t now (record { 0 = h.epoch }) (record { 0 = h.stamp })
without_grows t now h bodies.Ack = stays t
without_grows t now h (bodies.Nack w a b) = stays t
without_grows t now h (bodies.Granted ino g mode) = stays t
without_grows t now h (bodies.Queued ino mode) = stays t
without_grows t now h (bodies.Demand ino g to) = stays t
without_grows t now h (bodies.Extents ino rows) = stays t
without_grows t now h (bodies.Named reply) = stays t
without_grows t now h bodies.Reasserted = stays t
without_grows t now h bodies.Tick = stays t
without_grows t now h (bodies.App op ask) = stays t
without_grows t now h (bodies.AppDone op answer) = stays t
without_grows t now h (bodies.Submit command at what) = stays t
without_grows t now h (bodies.Done command result) = stays t

follow_grows : (t : Turn) (s : ClientSession) (epoch : Epoch) → Advances t (follow_epoch t s epoch)
unfolding follow_epoch
follow_grows t s epoch = told (is_asked t.here.server) (answers.Uncertain s.epoch.0 epoch.0) (with_session (in_epoch epoch s) t)

newer_grows : (t : Turn) (s : ClientSession) (epoch : Epoch) → Advances t (newer_epoch t s epoch)
unfolding newer_epoch
newer_grows t s epoch = either (is_newer s epoch) (follow_epoch t s epoch) t t (follow_grows t s epoch) (stays t)

refused_in_grows : (t : Turn) (s : ClientSession) (epoch : Epoch) (w : Why) → Advances t (refused_in t s epoch w)
refused_in_grows t s epoch why.Suspect = stays t
refused_in_grows t s epoch why.NoSession = stays t
refused_in_grows t s epoch why.OtherEpoch = newer_grows t s epoch
refused_in_grows t s epoch why.Grace = stays t
refused_in_grows t s epoch why.GraceOver = stays t
refused_in_grows t s epoch why.Conflict = stays t
refused_in_grows t s epoch why.NotHolder = stays t
refused_in_grows t s epoch why.NoFile = stays t
refused_in_grows t s epoch why.NoSpace = stays t
refused_in_grows t s epoch why.TooManyLocks = stays t

other_grows : (t : Turn) (s : ClientSession) (epoch : Epoch) (body : Body) → Advances t (of_other_epoch t s epoch body)
unfolding of_other_epoch
other_grows t s epoch bodies.Hello = stays t
other_grows t s epoch bodies.KeepAlive = stays t
other_grows t s epoch (bodies.Acquire ino mode) = stays t
other_grows t s epoch (bodies.Released ino g to) = stays t
other_grows t s epoch (bodies.Map ino g p) = stays t
other_grows t s epoch (bodies.Allocate ino g p count) = stays t
other_grows t s epoch (bodies.Cut ino g from) = stays t
other_grows t s epoch (bodies.Name op) = stays t
other_grows t s epoch (bodies.Reassert rows) = stays t
other_grows t s epoch (bodies.DemandSeen ino g) = stays t
other_grows t s epoch bodies.Welcome = stays t
other_grows t s epoch bodies.Ack = stays t
other_grows t s epoch (bodies.Nack w a b) = refused_in_grows t s epoch w
other_grows t s epoch (bodies.Granted ino g mode) = stays t
other_grows t s epoch (bodies.Queued ino mode) = stays t
other_grows t s epoch (bodies.Demand ino g to) = stays t
other_grows t s epoch (bodies.Extents ino rows) = stays t
other_grows t s epoch (bodies.Named reply) = stays t
other_grows t s epoch bodies.Reasserted = stays t
other_grows t s epoch bodies.Tick = stays t
other_grows t s epoch (bodies.App op ask) = stays t
other_grows t s epoch (bodies.AppDone op answer) = stays t
other_grows t s epoch (bodies.Submit command at what) = stays t
other_grows t s epoch (bodies.Done command result) = stays t

extents_grows : (t : Turn) (s : ClientSession) (ino : ℕ) (rows : _) (asked : Body) → Advances t (extents t s ino rows asked)
unfolding extents learn
extents_grows t s ino rows asked = either (is_current s.locks asked) (learn t ino rows asked) t t (stays t) (stays t)

held_grows : (t : Turn) (s : ClientSession) (ino : ℕ) (o : Option HeldLock) → Advances t (drop_held t s ino o)
unfolding drop_held drop_lock
held_grows t s ino None = stays t
held_grows t s ino (Some l) = stays t

removed_grows : (t : Turn) (s : ClientSession) (file : Option ℕ) → Advances t (removed t s file)
unfolding removed
removed_grows t s None = stays t
removed_grows t s (Some ino) = held_grows t s ino (locks.lock_of s.locks ino)

named_as_grows : (t : Turn) (s : ClientSession) (file : Option ℕ) (reply : NameReply) → Advances t (named_as t s file reply)
unfolding named_as
named_as_grows t s file (Ino ino) = removed_grows t s file
named_as_grows t s file (Listed rows) = stays t
named_as_grows t s file (Refused code) = stays t

named_grows : (t : Turn) (s : ClientSession) (file : Option ℕ) (reply : NameReply) → Advances t (named t s file reply)
unfolding named
named_grows t s file reply =
    let u = answer_each (is_asked t.here.server) (name_answer reply) t in
    then_more t u (named_as u s file reply) (told (is_asked t.here.server) (name_answer reply) t) (named_as_grows u s file reply)

file_grows : (t : Turn) (a : AppAnswer) (file : Option ℕ) → Advances t (refuse_file t a file)
unfolding refuse_file
file_grows t a None = stays t
file_grows t a (Some ino) = told _ a t

page_grows : (t : Turn) (a : AppAnswer) (file : Option ℕ) (page : Option PageNo) → Advances t (refuse_page t a file page)
unfolding refuse_page
page_grows t a None None = stays t
page_grows t a None (Some p) = stays t
page_grows t a (Some ino) None = stays t
page_grows t a (Some ino) (Some p) = told _ a t

holder_grows : (t : Turn) (asked : Body) → Advances t (refuse_holder t asked)
unfolding refuse_holder
holder_grows t asked = either (asks_cut_or_remove asked) _ t t (told _ answers.NotHolder t) (stays t)

as_grows : (t : Turn) (w : Why) (a b : ℕ) (file : Option ℕ) (asked : Body) → Advances t (refuse_as t w a b file asked)
unfolding refuse_as
as_grows t why.Suspect a b file asked = stays t
as_grows t why.NoSession a b file asked = stays t
as_grows t why.OtherEpoch a b file asked = stays t
as_grows t why.Grace a b file asked = stays t
as_grows t why.GraceOver a b file asked = stays t
as_grows t why.Conflict a b file asked = stays t
as_grows t why.NotHolder a b file asked = holder_grows t asked
as_grows t why.NoFile a b file asked = file_grows t answers.NoFile file
as_grows t why.NoSpace a b file asked = page_grows t (answers.NoSpace a b) file _
as_grows t why.TooManyLocks a b file asked = file_grows t answers.TooManyLocks file

refused_grows : (t : Turn) (w : Why) (a b : ℕ) (file : Option ℕ) (asked : Body) → Advances t (refused t w a b file asked)
unfolding refused leave_stuck
refused_grows t w a b file asked = as_grows t w a b file asked

effect_grows : (t : Turn) (s : ClientSession) (now : Stamp) (file : Option ℕ) (asked : Body) (body : Body) → Advances t (effect t s now body file asked)
unfolding effect granted queued acknowledged reasserted
effect_grows t s now file asked bodies.Hello = stays t
effect_grows t s now file asked bodies.KeepAlive = stays t
effect_grows t s now file asked (bodies.Acquire ino mode) = stays t
effect_grows t s now file asked (bodies.Released ino g to) = stays t
effect_grows t s now file asked (bodies.Map ino g p) = stays t
effect_grows t s now file asked (bodies.Allocate ino g p count) = stays t
effect_grows t s now file asked (bodies.Cut ino g from) = stays t
effect_grows t s now file asked (bodies.Name op) = stays t
effect_grows t s now file asked (bodies.Reassert rows) = stays t
effect_grows t s now file asked (bodies.DemandSeen ino g) = stays t
effect_grows t s now file asked bodies.Welcome = stays t
effect_grows t s now file asked bodies.Ack = told _ answers.Cut t
effect_grows t s now file asked (bodies.Nack w a b) = refused_grows t w a b file asked
effect_grows t s now file asked (bodies.Granted ino g mode) = stays t
effect_grows t s now file asked (bodies.Queued ino mode) = stays t
effect_grows t s now file asked (bodies.Demand ino g to) = stays t
effect_grows t s now file asked (bodies.Extents ino rows) = extents_grows t s ino rows asked
effect_grows t s now file asked (bodies.Named reply) = named_grows t s file reply
effect_grows t s now file asked bodies.Reasserted = stays t
effect_grows t s now file asked bodies.Tick = stays t
effect_grows t s now file asked (bodies.App op ask) = stays t
effect_grows t s now file asked (bodies.AppDone op answer) = stays t
effect_grows t s now file asked (bodies.Submit command at what) = stays t
effect_grows t s now file asked (bodies.Done command result) = stays t

pub end_grows : (t : Turn) (s : ClientSession) (stamp : Stamp) → Advances t (end_request t s stamp)
unfolding end_request note_renewal
end_grows t s stamp = either (is_renewal stamp s.lease) (note_lease (renewed stamp s.lease) t) t t (lease_grows _ t) (stays t)

reply_to_grows : (t : Turn) (s : ClientSession) (now stamp : Stamp) (reply asked : Body) → Advances t (reply_to t s now stamp reply asked)
unfolding reply_to
reply_to_grows t s now stamp reply asked =
    then_more t (end_request t s stamp) (reply_to t s now stamp reply asked) (end_grows t s stamp)
    (effect_grows (end_request t s stamp) (ended_by stamp s) now (file_asked s.cutting asked) asked reply)

count_grows : (t : Turn) (s : ClientSession) (now stamp : Stamp) (reply asked : Body) → Advances t (count_reply t s now stamp reply asked)
unfolding count_reply condemn
count_grows t s now stamp reply asked = either (refuses_reassertion reply asked) _ _ t (stays t) (reply_to_grows t s now stamp reply asked)

counted_grows : (t : Turn) (s : ClientSession) (now : Stamp) (number : ℕ) (stamp : Stamp) (reply : Body) (o : Option Request) → Advances t (counted t s now number stamp reply o)
unfolding counted by_request
counted_grows t s now number stamp reply None = stays t
counted_grows t s now number stamp reply (Some q) = either (is_counting number reply q) _ t t (count_grows t s now stamp reply q.body) (stays t)

reply_grows : (t : Turn) (s : ClientSession) (now : Stamp) (h : Header) (reply : Body) → Advances t (reply_of t s now h reply)
unfolding reply_of
reply_grows t s now h reply = counted_grows t s now h.number _ reply s.requests.asked

nack_grows : (t : Turn) (s : ClientSession) (now : Stamp) (h : Header) (a b : ℕ) (w : Why) → Advances t (nack t s now h w a b)
unfolding condemn
nack_grows t s now h a b why.Suspect = stays t
nack_grows t s now h a b why.NoSession = stays t
nack_grows t s now h a b why.OtherEpoch = stays t
nack_grows t s now h a b why.Grace = stays t
nack_grows t s now h a b why.GraceOver = stays t
nack_grows t s now h a b why.Conflict = stays t
nack_grows t s now h a b why.NotHolder = reply_grows t s now h (bodies.Nack why.NotHolder a b)
nack_grows t s now h a b why.NoFile = reply_grows t s now h (bodies.Nack why.NoFile a b)
nack_grows t s now h a b why.NoSpace = reply_grows t s now h (bodies.Nack why.NoSpace a b)
nack_grows t s now h a b why.TooManyLocks = reply_grows t s now h (bodies.Nack why.TooManyLocks a b)

grant_grows : (t : Turn) (s : ClientSession) (now : Stamp) (h : Header) (ino : ℕ) (g : GrantNo) (mode : Mode) → Advances t (grant_or_reply t s now h ino g mode)
unfolding grant_or_reply granted
grant_grows t s now h ino g mode = either _ _ _ t (stays t) (reply_grows t s now h (bodies.Granted ino g mode))

demand_as_grows : (t : Turn) (s : ClientSession) (ino : ℕ) (g : GrantNo) (a : Asked) → Advances t (demand_as t s ino g a)
unfolding demand_as observe_demand send
demand_as_grows t s ino g Reduce = says t _
demand_as_grows t s ino g NotHeld = stays t
demand_as_grows t s ino g Stale = stays t

demand_grows : (t : Turn) (s : ClientSession) (ino : ℕ) (g : GrantNo) (to : Mode) → Advances t (demand t s ino g to)
unfolding demand demand_by
demand_grows t s ino g to = demand_as_grows t _ ino g _

epoch_grows : (t : Turn) (s : ClientSession) (now : Stamp) (h : Header) (body : Body) → Advances t (of_epoch t s now h body)
unfolding of_epoch
epoch_grows t s now h bodies.Hello = reply_grows t s now h bodies.Hello
epoch_grows t s now h bodies.KeepAlive = reply_grows t s now h bodies.KeepAlive
epoch_grows t s now h (bodies.Acquire ino mode) = reply_grows t s now h (bodies.Acquire ino mode)
epoch_grows t s now h (bodies.Released ino g to) = reply_grows t s now h (bodies.Released ino g to)
epoch_grows t s now h (bodies.Map ino g p) = reply_grows t s now h (bodies.Map ino g p)
epoch_grows t s now h (bodies.Allocate ino g p count) = reply_grows t s now h (bodies.Allocate ino g p count)
epoch_grows t s now h (bodies.Cut ino g from) = reply_grows t s now h (bodies.Cut ino g from)
epoch_grows t s now h (bodies.Name op) = reply_grows t s now h (bodies.Name op)
epoch_grows t s now h (bodies.Reassert rows) = reply_grows t s now h (bodies.Reassert rows)
epoch_grows t s now h (bodies.DemandSeen ino g) = reply_grows t s now h (bodies.DemandSeen ino g)
epoch_grows t s now h bodies.Welcome = reply_grows t s now h bodies.Welcome
epoch_grows t s now h bodies.Ack = reply_grows t s now h bodies.Ack
epoch_grows t s now h (bodies.Nack w a b) = nack_grows t s now h a b w
epoch_grows t s now h (bodies.Granted ino g mode) = grant_grows t s now h ino g mode
epoch_grows t s now h (bodies.Queued ino mode) = reply_grows t s now h (bodies.Queued ino mode)
epoch_grows t s now h (bodies.Demand ino g to) = demand_grows t s ino g to
epoch_grows t s now h (bodies.Extents ino rows) = reply_grows t s now h (bodies.Extents ino rows)
epoch_grows t s now h (bodies.Named reply) = reply_grows t s now h (bodies.Named reply)
epoch_grows t s now h bodies.Reasserted = reply_grows t s now h bodies.Reasserted
epoch_grows t s now h bodies.Tick = reply_grows t s now h bodies.Tick
epoch_grows t s now h (bodies.App op ask) = reply_grows t s now h (bodies.App op ask)
epoch_grows t s now h (bodies.AppDone op answer) = reply_grows t s now h (bodies.AppDone op answer)
epoch_grows t s now h (bodies.Submit command at what) = reply_grows t s now h (bodies.Submit command at what)
epoch_grows t s now h (bodies.Done command result) = reply_grows t s now h (bodies.Done command result)

session_grows : (t : Turn) (s : ClientSession) (now : Stamp) (h : Header) (body : Body) → Advances t (with_a_session t s now h body)
unfolding with_a_session
session_grows t s now h body = either _ _ _ t (epoch_grows t s now h body) (other_grows t s _ body)

by_grows : (t : Turn) (now : Stamp) (h : Header) (body : Body) (o : Option ClientSession) → Advances t (by_session t now h body o)
unfolding by_session
by_grows t now h body None = without_grows t now h body
by_grows t now h body (Some s) = session_grows t s now h body

pub receive_grows : (now : Stamp) (h : Header) (body : Body) (t : Turn) → Advances t (receive_at now h body t)
unfolding receive_at
receive_grows now h body t = either (is_received t now h) _ t t (by_grows t now h body t.here.session) (stays t)
