-- What a client does with a server's messages doesn't read what was said before.
use Rattle.st_lemmas.proofs.Words
use Words.{◌≡◌, ℕ, List, Option, Some, None, refl, ap, Output, Epoch, ExtentRow, GrantNo, PageNo, Stamp, AppAnswer, Body, NameReply, Why, Asked, HeldLock}
use Words.answers
use Words.bodies
use Words.replies.{Ino, Listed, Refused}
use Words.why
use Words.ClientLease.{ClientLease, is_renewal, renewed}
use Words.ClientReplies.{acknowledged, ended_by, in_epoch, name_answer, condemn, count_reply, demand_as, drop_held, drop_lock, effect, end_request, extents}
use Words.ClientReplies.{follow_epoch, granted, is_current, is_newer, learn, leave_stuck, named, named_as, newer_epoch, note_lease, note_renewal}
use Words.ClientReplies.{of_other_epoch}
use Words.ClientReplies.{queued, reasserted, refuse_as, refuse_file, refuse_holder, refuse_page, refused, refused_in, refuses_reassertion, removed, reply_to}
use Words.ClientReplies.{observe_demand}
use Words.ClientState.{ClientSession, Turn, answer_each, asks_cut_or_remove, file_asked, is_asked, page_asked, send, with_session}
use Words.ClientLocks as locks
use Rattle.st_client_frames.proofs.Framing.{either, says, told}
use Rattle.st_client_frames.specs.Frames.{after}
use Rattle.st_rules.specs.declared.client.Asked.TheVariants.{Reduce, NotHeld, Stale}

pub frame_note_lease : (xs : List Output) (t : Turn) (l : ClientLease) → note_lease l (after xs t) ≡ after xs (note_lease l t)
unfolding note_lease
frame_note_lease xs t l = says xs t _

pub frame_condemn : (xs : List Output) (t : Turn) (s : ClientSession) → condemn (after xs t) s ≡ after xs (condemn t s)
unfolding condemn
frame_condemn xs t s = refl

-- Newer epochs.

frame_follow : (xs : List Output) (t : Turn) (s : ClientSession) (epoch : Epoch) → follow_epoch (after xs t) s epoch ≡ after xs (follow_epoch t s epoch)
unfolding follow_epoch
frame_follow xs t s epoch = told (is_asked t.here.server) (answers.Uncertain s.epoch.0 epoch.0) xs (with_session (in_epoch epoch s) t)

frame_newer : (xs : List Output) (t : Turn) (s : ClientSession) (epoch : Epoch) → newer_epoch (after xs t) s epoch ≡ after xs (newer_epoch t s epoch)
unfolding newer_epoch
frame_newer xs t s epoch = either (is_newer s epoch) xs _ _ _ _ (frame_follow xs t s epoch) refl

frame_refused_in : (xs : List Output) (t : Turn) (s : ClientSession) (epoch : Epoch) (w : Why) →
    refused_in (after xs t) s epoch w ≡ after xs (refused_in t s epoch w)
frame_refused_in xs t s epoch why.Suspect = refl
frame_refused_in xs t s epoch why.NoSession = refl
frame_refused_in xs t s epoch why.OtherEpoch = frame_newer xs t s epoch
frame_refused_in xs t s epoch why.Grace = refl
frame_refused_in xs t s epoch why.GraceOver = refl
frame_refused_in xs t s epoch why.Conflict = refl
frame_refused_in xs t s epoch why.NotHolder = refl
frame_refused_in xs t s epoch why.NoFile = refl
frame_refused_in xs t s epoch why.NoSpace = refl
frame_refused_in xs t s epoch why.TooManyLocks = refl

pub frame_other_epoch : (xs : List Output) (t : Turn) (s : ClientSession) (epoch : Epoch) (body : Body) →
    of_other_epoch (after xs t) s epoch body ≡ after xs (of_other_epoch t s epoch body)
unfolding of_other_epoch
frame_other_epoch xs t s epoch bodies.Hello = refl
frame_other_epoch xs t s epoch bodies.KeepAlive = refl
frame_other_epoch xs t s epoch (bodies.Acquire ino mode) = refl
frame_other_epoch xs t s epoch (bodies.Released ino g to) = refl
frame_other_epoch xs t s epoch (bodies.Map ino g p) = refl
frame_other_epoch xs t s epoch (bodies.Allocate ino g p count) = refl
frame_other_epoch xs t s epoch (bodies.Cut ino g from) = refl
frame_other_epoch xs t s epoch (bodies.Name op) = refl
frame_other_epoch xs t s epoch (bodies.Reassert rows) = refl
frame_other_epoch xs t s epoch (bodies.DemandSeen ino g) = refl
frame_other_epoch xs t s epoch bodies.Welcome = refl
frame_other_epoch xs t s epoch bodies.Ack = refl
frame_other_epoch xs t s epoch (bodies.Nack w a b) = frame_refused_in xs t s epoch w
frame_other_epoch xs t s epoch (bodies.Granted ino g mode) = refl
frame_other_epoch xs t s epoch (bodies.Queued ino mode) = refl
frame_other_epoch xs t s epoch (bodies.Demand ino g to) = refl
frame_other_epoch xs t s epoch (bodies.Extents ino rows) = refl
frame_other_epoch xs t s epoch (bodies.Named reply) = refl
frame_other_epoch xs t s epoch bodies.Reasserted = refl
frame_other_epoch xs t s epoch bodies.Tick = refl
frame_other_epoch xs t s epoch (bodies.App op ask) = refl
frame_other_epoch xs t s epoch (bodies.AppDone op answer) = refl
frame_other_epoch xs t s epoch (bodies.Submit command at what) = refl
frame_other_epoch xs t s epoch (bodies.Done command result) = refl

-- Effects of replies.

frame_extents : (xs : List Output) (t : Turn) (s : ClientSession) (ino : ℕ) (rows : List ExtentRow) (asked : Body) →
    extents (after xs t) s ino rows asked ≡ after xs (extents t s ino rows asked)
unfolding extents learn
frame_extents xs t s ino rows asked = either (is_current s.locks asked) xs _ _ _ _ refl refl

frame_held : (xs : List Output) (t : Turn) (s : ClientSession) (ino : ℕ) (l : Option HeldLock) → drop_held (after xs t) s ino l ≡ after xs (drop_held t s ino l)
unfolding drop_held drop_lock
frame_held xs t s ino None = refl
frame_held xs t s ino (Some l) = refl

frame_removed : (xs : List Output) (t : Turn) (s : ClientSession) (file : Option ℕ) → removed (after xs t) s file ≡ after xs (removed t s file)
unfolding removed
frame_removed xs t s None = refl
frame_removed xs t s (Some ino) = frame_held xs t s ino (locks.lock_of s.locks ino)

frame_named_as : (xs : List Output) (t : Turn) (s : ClientSession) (file : Option ℕ) (reply : NameReply) →
    named_as (after xs t) s file reply ≡ after xs (named_as t s file reply)
unfolding named_as
frame_named_as xs t s file (Ino ino) = frame_removed xs t s file
frame_named_as xs t s file (Listed rows) = refl
frame_named_as xs t s file (Refused code) = refl

frame_named : (xs : List Output) (t : Turn) (s : ClientSession) (file : Option ℕ) (reply : NameReply) →
    named (after xs t) s file reply ≡ after xs (named t s file reply)
unfolding named
frame_named xs t s file reply =
    rw (told (is_asked t.here.server) (name_answer reply) xs t) (frame_named_as xs (answer_each (is_asked t.here.server) (name_answer reply) t) s file reply)

pub frame_refuse_file : (xs : List Output) (t : Turn) (a : AppAnswer) (file : Option ℕ) → refuse_file (after xs t) a file ≡ after xs (refuse_file t a file)
unfolding refuse_file
frame_refuse_file xs t a None = refl
frame_refuse_file xs t a (Some ino) = told _ a xs t

frame_page : (xs : List Output) (t : Turn) (a : AppAnswer) (file : Option ℕ) (page : Option PageNo) →
    refuse_page (after xs t) a file page ≡ after xs (refuse_page t a file page)
unfolding refuse_page
frame_page xs t a None None = refl
frame_page xs t a None (Some p) = refl
frame_page xs t a (Some ino) None = refl
frame_page xs t a (Some ino) (Some p) = told _ a xs t

frame_holder : (xs : List Output) (t : Turn) (asked : Body) → refuse_holder (after xs t) asked ≡ after xs (refuse_holder t asked)
unfolding refuse_holder
frame_holder xs t asked = either (asks_cut_or_remove asked) xs _ _ _ _ (told _ answers.NotHolder xs t) refl

frame_refuse_as : (xs : List Output) (t : Turn) (w : Why) (a b : ℕ) (file : Option ℕ) (asked : Body) →
    refuse_as (after xs t) w a b file asked ≡ after xs (refuse_as t w a b file asked)
unfolding refuse_as
frame_refuse_as xs t why.Suspect a b file asked = refl
frame_refuse_as xs t why.NoSession a b file asked = refl
frame_refuse_as xs t why.OtherEpoch a b file asked = refl
frame_refuse_as xs t why.Grace a b file asked = refl
frame_refuse_as xs t why.GraceOver a b file asked = refl
frame_refuse_as xs t why.Conflict a b file asked = refl
frame_refuse_as xs t why.NotHolder a b file asked = frame_holder xs t asked
frame_refuse_as xs t why.NoFile a b file asked = frame_refuse_file xs t answers.NoFile file
frame_refuse_as xs t why.NoSpace a b file asked = frame_page xs t (answers.NoSpace a b) file (page_asked asked)
frame_refuse_as xs t why.TooManyLocks a b file asked = frame_refuse_file xs t answers.TooManyLocks file

frame_stuck : (xs : List Output) (t : Turn) → leave_stuck (after xs t) ≡ after xs (leave_stuck t)
unfolding leave_stuck
frame_stuck xs t = refl

frame_refused : (xs : List Output) (t : Turn) (w : Why) (a b : ℕ) (file : Option ℕ) (asked : Body) →
    refused (after xs t) w a b file asked ≡ after xs (refused t w a b file asked)
unfolding refused
frame_refused xs t w a b file asked = rw (frame_refuse_as xs t w a b file asked) (frame_stuck xs (refuse_as t w a b file asked))

frame_effect : (xs : List Output) (t : Turn) (s : ClientSession) (now : Stamp) (file : Option ℕ) (asked : Body) (body : Body) →
    effect (after xs t) s now body file asked ≡ after xs (effect t s now body file asked)
unfolding effect granted queued acknowledged reasserted
frame_effect xs t s now file asked bodies.Hello = refl
frame_effect xs t s now file asked bodies.KeepAlive = refl
frame_effect xs t s now file asked (bodies.Acquire ino mode) = refl
frame_effect xs t s now file asked (bodies.Released ino g to) = refl
frame_effect xs t s now file asked (bodies.Map ino g p) = refl
frame_effect xs t s now file asked (bodies.Allocate ino g p count) = refl
frame_effect xs t s now file asked (bodies.Cut ino g from) = refl
frame_effect xs t s now file asked (bodies.Name op) = refl
frame_effect xs t s now file asked (bodies.Reassert rows) = refl
frame_effect xs t s now file asked (bodies.DemandSeen ino g) = refl
frame_effect xs t s now file asked bodies.Welcome = refl
frame_effect xs t s now file asked bodies.Ack = told _ answers.Cut xs t
frame_effect xs t s now file asked (bodies.Nack w a b) = frame_refused xs t w a b file asked
frame_effect xs t s now file asked (bodies.Granted ino g mode) = refl
frame_effect xs t s now file asked (bodies.Queued ino mode) = refl
frame_effect xs t s now file asked (bodies.Demand ino g to) = refl
frame_effect xs t s now file asked (bodies.Extents ino rows) = frame_extents xs t s ino rows asked
frame_effect xs t s now file asked (bodies.Named reply) = frame_named xs t s file reply
frame_effect xs t s now file asked bodies.Reasserted = refl
frame_effect xs t s now file asked bodies.Tick = refl
frame_effect xs t s now file asked (bodies.App op ask) = refl
frame_effect xs t s now file asked (bodies.AppDone op answer) = refl
frame_effect xs t s now file asked (bodies.Submit command at what) = refl
frame_effect xs t s now file asked (bodies.Done command result) = refl

-- Counting replies.

frame_renewal : (xs : List Output) (t : Turn) (s : ClientSession) (stamp : Stamp) → note_renewal (after xs t) s stamp ≡ after xs (note_renewal t s stamp)
unfolding note_renewal
frame_renewal xs t s stamp = either (is_renewal stamp s.lease) xs _ _ _ _ (frame_note_lease xs t (renewed stamp s.lease)) refl

pub frame_end_request : (xs : List Output) (t : Turn) (s : ClientSession) (stamp : Stamp) → end_request (after xs t) s stamp ≡ after xs (end_request t s stamp)
unfolding end_request
frame_end_request xs t s stamp = ap (with_session (ended_by stamp s)) (frame_renewal xs t s stamp)

frame_reply_to : (xs : List Output) (t : Turn) (s : ClientSession) (now stamp : Stamp) (reply asked : Body) →
    reply_to (after xs t) s now stamp reply asked ≡ after xs (reply_to t s now stamp reply asked)
unfolding reply_to
frame_reply_to xs t s now stamp reply asked =
    rw (frame_end_request xs t s stamp) (frame_effect xs (end_request t s stamp) (ended_by stamp s) now (file_asked s.cutting asked) asked reply)

pub frame_count_reply : (xs : List Output) (t : Turn) (s : ClientSession) (now stamp : Stamp) (reply asked : Body) →
    count_reply (after xs t) s now stamp reply asked ≡ after xs (count_reply t s now stamp reply asked)
unfolding count_reply
frame_count_reply xs t s now stamp reply asked =
    either (refuses_reassertion reply asked) xs _ _ _ _ (frame_condemn xs t s) (frame_reply_to xs t s now stamp reply asked)

-- Demands.

pub frame_observe : (xs : List Output) (t : Turn) (s : ClientSession) (ino : ℕ) (g : GrantNo) →
    observe_demand (after xs t) s ino g ≡ after xs (observe_demand t s ino g)
unfolding observe_demand send
frame_observe xs t s ino g = says xs (with_session s t) _

pub frame_demand_as : (xs : List Output) (t : Turn) (s : ClientSession) (ino : ℕ) (g : GrantNo) (a : Asked) →
    demand_as (after xs t) s ino g a ≡ after xs (demand_as t s ino g a)
unfolding demand_as
frame_demand_as xs t s ino g Reduce = frame_observe xs t s ino g
frame_demand_as xs t s ino g NotHeld = refl
frame_demand_as xs t s ino g Stale = refl
