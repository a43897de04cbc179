-- A message leaves a lease that lasts.
use Rattle.st_lemmas.proofs.Words
use Words.{◌≡◌, ℕ, ◌+◌, Bool, true, false, refl, Option, Some, None, if◌then◌else◌, ◌<◌, ap, sym, ◌∙◌, subst, ltb-true, not, nat_lt, is_some, Config, Epoch}
use Words.{GrantNo, PageNo, Stamp, Mode, AppAnswer, Body, Header, NameReply, Why, Asked, HeldLock, Operation, Request}
use Words.Tables.{and_true, not_true}
use Words.ClientInvariants.{lasts_here, lasts_in}
use Words.ClientLease.{must_discard, standing_of}
use Words.ClientReplies.{accept_grant, decline, grant, grant_new, release_unheld, wait_unless_held, wait_told, acknowledged, begin_session, ended_by, in_epoch}
use Words.ClientReplies.{name_answer, by_request, by_session, condemn, count_reply, counted, demand, demand_as, demand_by, drop_held, drop_lock, effect}
use Words.ClientReplies.{end_request, extents, follow_epoch, grant_or_reply, granted, receive_at, is_counting, is_current, is_received, is_newer, is_timely}
use Words.ClientReplies.{learn, leave_stuck, nack, named, named_as, newer_epoch, note_lease, of_epoch, of_other_epoch, queued, reasserted, refuse_as}
use Words.ClientReplies.{refuse_file, refuse_holder, refuse_page, refused, refused_in, refuses_reassertion, removed, reply_of, reply_to, observe_demand}
use Words.ClientReplies.{welcome, with_a_session, without_session}
use Words.ClientState.{forget_wait, ClientSession, Turn, answer_each, asks_cut_or_remove, file_asked, is_asked, send, with_session}
use Words.answers
use Words.bodies
use Words.replies.{Ino, Listed, Refused}
use Words.why
use Words.ClientLocks as locks
use Rattle.st_client.proofs.ReceiveGrows.{end_grows}
use Rattle.st_client_session.proofs.Lasting.{condemned_lasts, new_lasts, renewed_lasts}
use Rattle.st_rules.specs.declared.client.Asked.TheVariants.{Reduce, NotHeld, Stale}
use Rattle.std.proofs.lemmas.Bool.{not_from_false}

-- the lease at the server is not over
abbrev pub Here : Stamp → Turn → Type 0
Here now t = lasts_here t.config now t.here ≡ true

-- the session's lease is not over
abbrev pub Lives : Config → Stamp → ClientSession → Type 0
Lives k now s = not (must_discard (standing_of k s.lease now)) ≡ true

-- one of two
either : (now : Stamp) (b : Bool) (x y : Turn) → Here now x → Here now y → Here now (if b then x else y)
either now true x y p q = p
either now false x y p q = q

-- pending operations are answered
told : (now : Stamp) (p : Operation → Bool) (a : AppAnswer) (t : Turn) → Here now t → Here now (answer_each p a t)
unfolding answer_each
told now p a t h = h

-- a session with the same lease
puts : (now : Stamp) (t : Turn) (s u : ClientSession) → u.lease ≡ s.lease → Lives t.config now s → Here now (with_session u t)
puts now t s u e l = ap (λ x. not (must_discard (standing_of t.config x now))) e ∙ l

begin_lasts : (t : Turn) (now : Stamp) (epoch : Epoch) (stamp : Stamp) → now.0 < stamp.0 + t.config.lease → Here now (begin_session t epoch stamp)
unfolding begin_session note_lease
begin_lasts t now epoch stamp h = not_from_false _ (new_lasts t.config stamp now h)

welcome_lasts : (t : Turn) (now : Stamp) (epoch : Epoch) (stamp : Stamp) → Here now t → Here now (welcome t now epoch stamp)
unfolding welcome
welcome_lasts t now epoch stamp h = by (is_timely t now stamp) refl
  where
    by : (b : Bool) → is_timely t now stamp ≡ b → Here now (if b then begin_session t epoch stamp else t)
    by true e = begin_lasts t now epoch stamp (ltb-true _ _ (and_true (is_some t.here.greeting) (nat_lt now.0 (stamp.0 + t.config.lease)) e).1)
    by false e = h

without_lasts : (t : Turn) (now : Stamp) (h : Header) (body : Body) → Here now t → Here now (without_session t now h body)
unfolding without_session
without_lasts t now h bodies.Hello l = l
without_lasts t now h bodies.KeepAlive l = l
without_lasts t now h (bodies.Acquire ino mode) l = l
without_lasts t now h (bodies.Released ino g to) l = l
without_lasts t now h (bodies.Map ino g p) l = l
without_lasts t now h (bodies.Allocate ino g p count) l = l
without_lasts t now h (bodies.Cut ino g from) l = l
without_lasts t now h (bodies.Name op) l = l
without_lasts t now h (bodies.Reassert rows) l = l
without_lasts t now h (bodies.DemandSeen ino g) l = l
without_lasts t now h bodies.Welcome l = welcome_lasts t now (record { 0 = h.epoch }) (record { 0 = h.stamp }) l
without_lasts t now h bodies.Ack l = l
without_lasts t now h (bodies.Nack w a b) l = l
without_lasts t now h (bodies.Granted ino g mode) l = l
without_lasts t now h (bodies.Queued ino mode) l = l
without_lasts t now h (bodies.Demand ino g to) l = l
without_lasts t now h (bodies.Extents ino rows) l = l
without_lasts t now h (bodies.Named reply) l = l
without_lasts t now h bodies.Reasserted l = l
without_lasts t now h bodies.Tick l = l
without_lasts t now h (bodies.App op ask) l = l
without_lasts t now h (bodies.AppDone op answer) l = l
without_lasts t now h (bodies.Submit command at what) l = l
without_lasts t now h (bodies.Done command result) l = l

follow_lasts : (t : Turn) (s : ClientSession) (epoch : Epoch) (now : Stamp) → Lives t.config now s → Here now (follow_epoch t s epoch)
unfolding follow_epoch
follow_lasts t s epoch now l = told now (is_asked t.here.server) (answers.Uncertain s.epoch.0 epoch.0) (with_session (in_epoch epoch s) t) l

newer_lasts : (t : Turn) (s : ClientSession) (epoch : Epoch) (now : Stamp) → Here now t → Lives t.config now s → Here now (newer_epoch t s epoch)
unfolding newer_epoch
newer_lasts t s epoch now h l = either now (is_newer s epoch) (follow_epoch t s epoch) t (follow_lasts t s epoch now l) h

refused_in_lasts : (t : Turn) (s : ClientSession) (epoch : Epoch) (now : Stamp) (w : Why) → Here now t → Lives t.config now s → Here now (refused_in t s epoch w)
refused_in_lasts t s epoch now why.Suspect h l = h
refused_in_lasts t s epoch now why.NoSession h l = h
refused_in_lasts t s epoch now why.OtherEpoch h l = newer_lasts t s epoch now h l
refused_in_lasts t s epoch now why.Grace h l = h
refused_in_lasts t s epoch now why.GraceOver h l = h
refused_in_lasts t s epoch now why.Conflict h l = h
refused_in_lasts t s epoch now why.NotHolder h l = h
refused_in_lasts t s epoch now why.NoFile h l = h
refused_in_lasts t s epoch now why.NoSpace h l = h
refused_in_lasts t s epoch now why.TooManyLocks h l = h

other_lasts : (t : Turn) (s : ClientSession) (epoch : Epoch) (now : Stamp) (body : Body) → Here now t → Lives t.config now s → Here now (of_other_epoch t s epoch body)
unfolding of_other_epoch
other_lasts t s epoch now bodies.Hello h l = h
other_lasts t s epoch now bodies.KeepAlive h l = h
other_lasts t s epoch now (bodies.Acquire ino mode) h l = h
other_lasts t s epoch now (bodies.Released ino g to) h l = h
other_lasts t s epoch now (bodies.Map ino g p) h l = h
other_lasts t s epoch now (bodies.Allocate ino g p count) h l = h
other_lasts t s epoch now (bodies.Cut ino g from) h l = h
other_lasts t s epoch now (bodies.Name op) h l = h
other_lasts t s epoch now (bodies.Reassert rows) h l = h
other_lasts t s epoch now (bodies.DemandSeen ino g) h l = h
other_lasts t s epoch now bodies.Welcome h l = h
other_lasts t s epoch now bodies.Ack h l = h
other_lasts t s epoch now (bodies.Nack w a b) h l = refused_in_lasts t s epoch now w h l
other_lasts t s epoch now (bodies.Granted ino g mode) h l = h
other_lasts t s epoch now (bodies.Queued ino mode) h l = h
other_lasts t s epoch now (bodies.Demand ino g to) h l = h
other_lasts t s epoch now (bodies.Extents ino rows) h l = h
other_lasts t s epoch now (bodies.Named reply) h l = h
other_lasts t s epoch now bodies.Reasserted h l = h
other_lasts t s epoch now bodies.Tick h l = h
other_lasts t s epoch now (bodies.App op ask) h l = h
other_lasts t s epoch now (bodies.AppDone op answer) h l = h
other_lasts t s epoch now (bodies.Submit command at what) h l = h
other_lasts t s epoch now (bodies.Done command result) h l = h

extents_lasts : (t : Turn) (s : ClientSession) (ino : ℕ) (rows : _) (asked : Body) (now : Stamp) → Here now t → Here now (extents t s ino rows asked)
unfolding extents learn
extents_lasts t s ino rows asked now h = either now (is_current s.locks asked) (learn t ino rows asked) t h h

held_lasts : (t : Turn) (s : ClientSession) (ino : ℕ) (o : Option HeldLock) (now : Stamp) → Here now t → Lives t.config now s → Here now (drop_held t s ino o)
unfolding drop_held drop_lock
held_lasts t s ino None now h l = h
held_lasts t s ino (Some x) now h l = l

removed_lasts : (t : Turn) (s : ClientSession) (file : Option ℕ) (now : Stamp) → Here now t → Lives t.config now s → Here now (removed t s file)
unfolding removed
removed_lasts t s None now h l = h
removed_lasts t s (Some ino) now h l = held_lasts t s ino (locks.lock_of s.locks ino) now h l

named_as_lasts : (t : Turn) (s : ClientSession) (file : Option ℕ) (reply : NameReply) (now : Stamp) → Here now t → Lives t.config now s → Here now (named_as t s file reply)
unfolding named_as
named_as_lasts t s file (Ino ino) now h l = removed_lasts t s file now h l
named_as_lasts t s file (Listed rows) now h l = h
named_as_lasts t s file (Refused code) now h l = h

named_lasts : (t : Turn) (s : ClientSession) (file : Option ℕ) (reply : NameReply) (now : Stamp) → Here now t → Lives t.config now s → Here now (named t s file reply)
unfolding named answer_each
named_lasts t s file reply now h l = named_as_lasts (answer_each (is_asked t.here.server) (name_answer reply) t) s file reply now h l

file_lasts : (t : Turn) (a : AppAnswer) (file : Option ℕ) (now : Stamp) → Here now t → Here now (refuse_file t a file)
unfolding refuse_file answer_each
file_lasts t a None now h = h
file_lasts t a (Some ino) now h = h

page_lasts : (t : Turn) (a : AppAnswer) (file : Option ℕ) (page : Option PageNo) (now : Stamp) → Here now t → Here now (refuse_page t a file page)
unfolding refuse_page answer_each
page_lasts t a None None now h = h
page_lasts t a None (Some p) now h = h
page_lasts t a (Some ino) None now h = h
page_lasts t a (Some ino) (Some p) now h = h

holder_lasts : (t : Turn) (asked : Body) (now : Stamp) → Here now t → Here now (refuse_holder t asked)
unfolding refuse_holder
holder_lasts t asked now h = either now (asks_cut_or_remove asked) _ t (told now _ answers.NotHolder t h) h

as_lasts : (t : Turn) (a b : ℕ) (file : Option ℕ) (asked : Body) (now : Stamp) (w : Why) → Here now t → Here now (refuse_as t w a b file asked)
unfolding refuse_as
as_lasts t a b file asked now why.Suspect h = h
as_lasts t a b file asked now why.NoSession h = h
as_lasts t a b file asked now why.OtherEpoch h = h
as_lasts t a b file asked now why.Grace h = h
as_lasts t a b file asked now why.GraceOver h = h
as_lasts t a b file asked now why.Conflict h = h
as_lasts t a b file asked now why.NotHolder h = holder_lasts t asked now h
as_lasts t a b file asked now why.NoFile h = file_lasts t answers.NoFile file now h
as_lasts t a b file asked now why.NoSpace h = page_lasts t (answers.NoSpace a b) file _ now h
as_lasts t a b file asked now why.TooManyLocks h = file_lasts t answers.TooManyLocks file now h

refused_lasts : (t : Turn) (w : Why) (a b : ℕ) (file : Option ℕ) (asked : Body) (now : Stamp) → Here now t → Here now (refused t w a b file asked)
unfolding refused leave_stuck
refused_lasts t w a b file asked now h = as_lasts t a b file asked now w h

either_lease : (b : Bool) (s x y : ClientSession) → x.lease ≡ s.lease → y.lease ≡ s.lease → (if b then x else y).lease ≡ s.lease
either_lease true s x y p q = p
either_lease false s x y p q = q

grant_lease : (s : ClientSession) (ino : ℕ) (g : GrantNo) (mode : Mode) → (grant s ino g mode).lease ≡ s.lease
unfolding grant grant_new accept_grant decline
grant_lease s ino g mode =
    either_lease (locks.is_above_seen s.locks ino g) s (grant_new s ino g mode) s
    (either_lease (locks.has_place s.locks ino) s (accept_grant s ino g mode) (decline s ino g) refl refl) refl

granted_lasts : (t : Turn) (s : ClientSession) (ino : ℕ) (g : GrantNo) (mode : Mode) (now : Stamp) → Lives t.config now s → Here now (granted t s ino g mode)
unfolding granted
granted_lasts t s ino g mode now l = puts now t (forget_wait ino s) (grant (forget_wait ino s) ino g mode) (grant_lease (forget_wait ino s) ino g mode) l

wait_lease : (s : ClientSession) (ino : ℕ) (mode : Mode) (now : Stamp) → (wait_unless_held s ino mode now).lease ≡ s.lease
unfolding wait_unless_held wait_told
wait_lease s ino mode now = either_lease _ s s (wait_told s ino mode now) refl refl

queued_lasts : (t : Turn) (s : ClientSession) (now : Stamp) (ino : ℕ) (mode : Mode) → Lives t.config now s → Here now (queued t s now ino mode)
unfolding queued
queued_lasts t s now ino mode l = puts now t s (wait_unless_held s ino mode now) (wait_lease s ino mode now) l

effect_lasts : (t : Turn) (s : ClientSession) (now : Stamp) (file : Option ℕ) (asked : Body) (body : Body) → Here now t → Lives t.config now s → Here now (effect t s now body file asked)
unfolding effect acknowledged reasserted
effect_lasts t s now file asked bodies.Hello h l = h
effect_lasts t s now file asked bodies.KeepAlive h l = h
effect_lasts t s now file asked (bodies.Acquire ino mode) h l = h
effect_lasts t s now file asked (bodies.Released ino g to) h l = h
effect_lasts t s now file asked (bodies.Map ino g p) h l = h
effect_lasts t s now file asked (bodies.Allocate ino g p count) h l = h
effect_lasts t s now file asked (bodies.Cut ino g from) h l = h
effect_lasts t s now file asked (bodies.Name op) h l = h
effect_lasts t s now file asked (bodies.Reassert rows) h l = h
effect_lasts t s now file asked (bodies.DemandSeen ino g) h l = h
effect_lasts t s now file asked bodies.Welcome h l = h
effect_lasts t s now file asked bodies.Ack h l = told now _ answers.Cut t h
effect_lasts t s now file asked (bodies.Nack w a b) h l = refused_lasts t w a b file asked now h
effect_lasts t s now file asked (bodies.Granted ino g mode) h l = granted_lasts t s ino g mode now l
effect_lasts t s now file asked (bodies.Queued ino mode) h l = queued_lasts t s now ino mode l
effect_lasts t s now file asked (bodies.Demand ino g to) h l = h
effect_lasts t s now file asked (bodies.Extents ino rows) h l = extents_lasts t s ino rows asked now h
effect_lasts t s now file asked (bodies.Named reply) h l = named_lasts t s file reply now h l
effect_lasts t s now file asked bodies.Reasserted h l = l
effect_lasts t s now file asked bodies.Tick h l = h
effect_lasts t s now file asked (bodies.App op ask) h l = h
effect_lasts t s now file asked (bodies.AppDone op answer) h l = h
effect_lasts t s now file asked (bodies.Submit command at what) h l = h
effect_lasts t s now file asked (bodies.Done command result) h l = h

renewed_lives : (k : Config) (s : ClientSession) (now stamp : Stamp) → Lives k now s → Lives k now (ended_by stamp s)
renewed_lives k s now stamp l = not_from_false _ (renewed_lasts k s.lease stamp now (not_true _ l))

-- the session in which the request ended, as the settings of the turn have it
ended_lives : (t : Turn) (s : ClientSession) (now stamp : Stamp) → Lives t.config now s → Lives (end_request t s stamp).config now (ended_by stamp s)
ended_lives t s now stamp l = subst (λ k. Lives k now (ended_by stamp s)) (sym (end_grows t s stamp).1.1) (renewed_lives t.config s now stamp l)

end_lasts : (t : Turn) (s : ClientSession) (now stamp : Stamp) → Lives t.config now s → Here now (end_request t s stamp)
unfolding end_request
end_lasts t s now stamp l = ended_lives t s now stamp l

reply_to_lasts : (t : Turn) (s : ClientSession) (now stamp : Stamp) (reply asked : Body) → Lives t.config now s → Here now (reply_to t s now stamp reply asked)
unfolding reply_to
reply_to_lasts t s now stamp reply asked l =
    effect_lasts (end_request t s stamp) (ended_by stamp s) now (file_asked s.cutting asked) asked reply (end_lasts t s now stamp l) (ended_lives t s now stamp l)

condemn_lasts : (t : Turn) (s : ClientSession) (now : Stamp) → Lives t.config now s → Here now (condemn t s)
unfolding condemn
condemn_lasts t s now l = not_from_false _ (condemned_lasts t.config s.lease now (not_true _ l))

count_lasts : (t : Turn) (s : ClientSession) (now stamp : Stamp) (reply asked : Body) → Lives t.config now s → Here now (count_reply t s now stamp reply asked)
unfolding count_reply
count_lasts t s now stamp reply asked l =
    either now (refuses_reassertion reply asked) (condemn t s) (reply_to t s now stamp reply asked) (condemn_lasts t s now l) (reply_to_lasts t s now stamp reply asked l)

counted_lasts : (t : Turn) (s : ClientSession) (now : Stamp) (number : ℕ) (stamp : Stamp) (reply : Body) (o : Option Request) → Here now t → Lives t.config now s → Here now (counted t s now number stamp reply o)
unfolding counted by_request
counted_lasts t s now number stamp reply None h l = h
counted_lasts t s now number stamp reply (Some q) h l = either now (is_counting number reply q) (count_reply t s now stamp reply q.body) t (count_lasts t s now stamp reply q.body l) h

reply_lasts : (t : Turn) (s : ClientSession) (now : Stamp) (h : Header) (reply : Body) → Here now t → Lives t.config now s → Here now (reply_of t s now h reply)
unfolding reply_of
reply_lasts t s now h reply e l = counted_lasts t s now h.number _ reply s.requests.asked e l

nack_lasts : (t : Turn) (s : ClientSession) (now : Stamp) (h : Header) (a b : ℕ) (w : Why) → Here now t → Lives t.config now s → Here now (nack t s now h w a b)
nack_lasts t s now h a b why.Suspect e l = condemn_lasts t s now l
nack_lasts t s now h a b why.NoSession e l = condemn_lasts t s now l
nack_lasts t s now h a b why.OtherEpoch e l = e
nack_lasts t s now h a b why.Grace e l = e
nack_lasts t s now h a b why.GraceOver e l = condemn_lasts t s now l
nack_lasts t s now h a b why.Conflict e l = condemn_lasts t s now l
nack_lasts t s now h a b why.NotHolder e l = reply_lasts t s now h (bodies.Nack why.NotHolder a b) e l
nack_lasts t s now h a b why.NoFile e l = reply_lasts t s now h (bodies.Nack why.NoFile a b) e l
nack_lasts t s now h a b why.NoSpace e l = reply_lasts t s now h (bodies.Nack why.NoSpace a b) e l
nack_lasts t s now h a b why.TooManyLocks e l = reply_lasts t s now h (bodies.Nack why.TooManyLocks a b) e l

grant_lasts : (t : Turn) (s : ClientSession) (now : Stamp) (h : Header) (ino : ℕ) (g : GrantNo) (mode : Mode) → Here now t → Lives t.config now s → Here now (grant_or_reply t s now h ino g mode)
unfolding grant_or_reply
grant_lasts t s now h ino g mode e l = either now _ (granted t s ino g mode) _ (granted_lasts t s ino g mode now l) (reply_lasts t s now h (bodies.Granted ino g mode) e l)

unheld_lease : (s : ClientSession) (ino : ℕ) (g : GrantNo) → (release_unheld s ino g).lease ≡ s.lease
unfolding release_unheld
unheld_lease s ino g = either_lease _ s s _ refl refl

demand_as_lasts : (t : Turn) (s : ClientSession) (ino : ℕ) (g : GrantNo) (a : Asked) (now : Stamp) → Here now t → Lives t.config now s → Here now (demand_as t s ino g a)
unfolding demand_as observe_demand send
demand_as_lasts t s ino g Reduce now h l = l
demand_as_lasts t s ino g NotHeld now h l = puts now t s (release_unheld s ino g) (unheld_lease s ino g) l
demand_as_lasts t s ino g Stale now h l = h

demand_lasts : (t : Turn) (s : ClientSession) (ino : ℕ) (g : GrantNo) (to : Mode) (now : Stamp) → Here now t → Lives t.config now s → Here now (demand t s ino g to)
unfolding demand demand_by
demand_lasts t s ino g to now h l = demand_as_lasts t _ ino g _ now h l

epoch_lasts : (t : Turn) (s : ClientSession) (now : Stamp) (h : Header) (body : Body) → Here now t → Lives t.config now s → Here now (of_epoch t s now h body)
unfolding of_epoch
epoch_lasts t s now h bodies.Hello e l = reply_lasts t s now h bodies.Hello e l
epoch_lasts t s now h bodies.KeepAlive e l = reply_lasts t s now h bodies.KeepAlive e l
epoch_lasts t s now h (bodies.Acquire ino mode) e l = reply_lasts t s now h (bodies.Acquire ino mode) e l
epoch_lasts t s now h (bodies.Released ino g to) e l = reply_lasts t s now h (bodies.Released ino g to) e l
epoch_lasts t s now h (bodies.Map ino g p) e l = reply_lasts t s now h (bodies.Map ino g p) e l
epoch_lasts t s now h (bodies.Allocate ino g p count) e l = reply_lasts t s now h (bodies.Allocate ino g p count) e l
epoch_lasts t s now h (bodies.Cut ino g from) e l = reply_lasts t s now h (bodies.Cut ino g from) e l
epoch_lasts t s now h (bodies.Name op) e l = reply_lasts t s now h (bodies.Name op) e l
epoch_lasts t s now h (bodies.Reassert rows) e l = reply_lasts t s now h (bodies.Reassert rows) e l
epoch_lasts t s now h (bodies.DemandSeen ino g) e l = reply_lasts t s now h (bodies.DemandSeen ino g) e l
epoch_lasts t s now h bodies.Welcome e l = reply_lasts t s now h bodies.Welcome e l
epoch_lasts t s now h bodies.Ack e l = reply_lasts t s now h bodies.Ack e l
epoch_lasts t s now h (bodies.Nack w a b) e l = nack_lasts t s now h a b w e l
epoch_lasts t s now h (bodies.Granted ino g mode) e l = grant_lasts t s now h ino g mode e l
epoch_lasts t s now h (bodies.Queued ino mode) e l = reply_lasts t s now h (bodies.Queued ino mode) e l
epoch_lasts t s now h (bodies.Demand ino g to) e l = demand_lasts t s ino g to now e l
epoch_lasts t s now h (bodies.Extents ino rows) e l = reply_lasts t s now h (bodies.Extents ino rows) e l
epoch_lasts t s now h (bodies.Named reply) e l = reply_lasts t s now h (bodies.Named reply) e l
epoch_lasts t s now h bodies.Reasserted e l = reply_lasts t s now h bodies.Reasserted e l
epoch_lasts t s now h bodies.Tick e l = reply_lasts t s now h bodies.Tick e l
epoch_lasts t s now h (bodies.App op ask) e l = reply_lasts t s now h (bodies.App op ask) e l
epoch_lasts t s now h (bodies.AppDone op answer) e l = reply_lasts t s now h (bodies.AppDone op answer) e l
epoch_lasts t s now h (bodies.Submit command at what) e l = reply_lasts t s now h (bodies.Submit command at what) e l
epoch_lasts t s now h (bodies.Done command result) e l = reply_lasts t s now h (bodies.Done command result) e l

session_lasts : (t : Turn) (s : ClientSession) (now : Stamp) (h : Header) (body : Body) → Here now t → Lives t.config now s → Here now (with_a_session t s now h body)
unfolding with_a_session
session_lasts t s now h body e l = either now _ _ _ (epoch_lasts t s now h body e l) (other_lasts t s _ now body e l)

by_lasts : (t : Turn) (now : Stamp) (h : Header) (body : Body) (o : Option ClientSession) → t.here.session ≡ o → Here now t → Here now (by_session t now h body o)
unfolding by_session
by_lasts t now h body None e l = without_lasts t now h body l
by_lasts t now h body (Some s) e l = session_lasts t s now h body l (ap (lasts_in t.config now) (sym e) ∙ l)

pub receive_lasts : (now : Stamp) (h : Header) (body : Body) (t : Turn) → Here now t → Here now (receive_at now h body t)
unfolding receive_at
receive_lasts now h body t l = either now (is_received t now h) _ t (by_lasts t now h body t.here.session refl l) l
