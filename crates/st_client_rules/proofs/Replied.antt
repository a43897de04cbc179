-- Replies and demands: what the steps of the code leave is what the definitions say.
use Rattle.st_lemmas.proofs.Words
use Words.{◌≡◌, ℕ, Bool, true, false, refl, sym, ap, ◌∙◌, Option, Some, None, is_some, option_map, unwrap_or, if◌then◌else◌, nat_le, GrantNo, Stamp, Mode, Body}
use Words.{AppAnswer, Header, Asked, HeldLock, NameReply, Request, ServerId}
use Words.ClientLease.{condemned, is_renewal, renewed}
use Words.ClientLocks as locks
use Words.ClientLocks.{LockCache}
use Words.ClientReplies as replies
use Words.ClientState.{ClientSession, Turn, answer_each, file_asked, is_asked, with_cache, with_lease, with_session, without_request}
use Rattle.st_requests.specs.ServerRequests.{body_of}
use Rattle.st_rules.specs.declared.client.Asked.TheVariants.{Reduce, NotHeld, Stale}
use Rattle.st_client_association.specs.Turns.{has_session, session_of}
use Rattle.st_client_rules.specs.Replies.{count_reply, counts, demanded, refuses, replied}

some_own : {A : Type 0} (o : Option A) (d : A) → is_some o ≡ true → Some (unwrap_or o d) ≡ o
some_own None d e = cc
some_own (Some x) d e = refl

-- the session of a step that has one is its own
pub own_session : (t : Turn) → has_session t ≡ true → with_session (session_of t) t ≡ t
own_session t h = ap (λ o. record t { here = record t.here { session = o } }) (some_own t.here.session _ h)

-- a demand that is stale changes no lock
stale_keeps : (c : LockCache) (ino : ℕ) (g : GrantNo) (to : Mode) → (locks.demand c ino g to).asked ≡ Stale → (locks.demand c ino g to).locks ≡ c
unfolding locks.demand locks.demand_at locks.demand_held locks.demand_lock locks.demand_stale locks.demand_unheld
stale_keeps c ino g to e = by (locks.lock_of c ino) e
  where
    held : (l : HeldLock) (b : Bool) → (if b then locks.demand_lock c ino g to l else locks.demand_stale c).asked ≡ Stale →
        (if b then locks.demand_lock c ino g to l else locks.demand_stale c).locks ≡ c
    held l true e = cc
    held l false e = refl

    by : (o : Option HeldLock) → (locks.demand_at c ino g to o).asked ≡ Stale → (locks.demand_at c ino g to o).locks ≡ c
    by None e = cc
    by (Some l) e = held l (nat_le l.g.0 g.0) e

-- a demand
pub demand_is : (t new : Turn) (ino : ℕ) (g : GrantNo) (to : Mode) (asked : Asked) → has_session t ≡ true →
    new ≡ with_session (with_cache (locks.demand (session_of t).locks ino g to).locks (session_of t)) t → asked ≡ (locks.demand (session_of t).locks ino g to).asked →
    demanded new ino g asked ≡ replies.demand t (session_of t) ino g to
unfolding replies.demand replies.demand_by replies.demand_as replies.observe_demand
demand_is t new ino g to asked h n e =
    (λ i. demanded (n i) ino g (e i)) ∙ by (locks.demand (session_of t).locks ino g to).asked refl
  where
    s : ClientSession
    s = with_cache (locks.demand (session_of t).locks ino g to).locks (session_of t)

    by : (a : Asked) → (locks.demand (session_of t).locks ino g to).asked ≡ a → demanded (with_session s t) ino g a ≡ replies.demand_as t s ino g a
    by Reduce e = refl
    by NotHeld e = refl
    by Stale e = ap (λ c. with_session (with_cache c (session_of t)) t) (stale_keeps (session_of t).locks ino g to e) ∙ own_session t h

-- a renewal, which is noted
pub renewal_noted : (t new : Turn) (stamp : Stamp) → new ≡ with_session (replies.with_renewed stamp (session_of t)) t → is_renewal stamp (session_of t).lease ≡ true →
    replies.note_lease (session_of new).lease new ≡ with_session (replies.with_renewed stamp (session_of t)) (replies.note_renewal t (session_of t) stamp)
unfolding replies.note_renewal replies.note_lease
renewal_noted t new stamp n e =
    ap (λ z. replies.note_lease (session_of z).lease z) n
    ∙ ap (λ b. with_session (replies.with_renewed stamp (session_of t)) (if b then replies.note_lease (renewed stamp (session_of t).lease) t else t)) (sym e)

-- no renewal
pub renewal_none : (t new : Turn) (stamp : Stamp) → new ≡ with_session (replies.with_renewed stamp (session_of t)) t → is_renewal stamp (session_of t).lease ≡ false →
    new ≡ with_session (replies.with_renewed stamp (session_of t)) (replies.note_renewal t (session_of t) stamp)
unfolding replies.note_renewal
renewal_none t new stamp n e =
    n ∙ ap (λ b. with_session (replies.with_renewed stamp (session_of t)) (if b then replies.note_lease (renewed stamp (session_of t).lease) t else t)) (sym e)

-- the request ends, and the lease is renewed
ended_is : (t : Turn) (s : ClientSession) (stamp : Stamp) →
    with_session (replies.ended_by stamp s) (replies.note_renewal (with_session (without_request s) t) (without_request s) stamp) ≡ replies.end_request t s stamp
unfolding replies.note_renewal replies.note_lease replies.end_request
ended_is t s stamp = by (is_renewal stamp s.lease)
  where
    by : (b : Bool) →
        with_session (replies.ended_by stamp s) (if b then replies.note_lease (renewed stamp s.lease) (with_session (without_request s) t) else with_session (without_request s) t)
        ≡ with_session (replies.ended_by stamp s) (if b then replies.note_lease (renewed stamp s.lease) t else t)
    by true = refl
    by false = refl

-- a counting reply
pub reply_is : (t ended new : Turn) (now stamp : Stamp) (reply asked : Body) (file : Option ℕ) →
    Some asked ≡ option_map body_of (session_of t).requests.asked → ended ≡ with_session (without_request (session_of t)) t →
    new ≡ with_session (replies.with_renewed stamp (session_of ended)) (replies.note_renewal ended (session_of ended) stamp) → file ≡ file_asked (session_of t).cutting asked →
    replies.effect new (session_of new) now reply file asked ≡ replied t now stamp reply (session_of t).requests.asked
unfolding replies.reply_to replies.end_request
reply_is t ended new now stamp reply asked file a d n f =
    (λ i. replies.effect (left i) (session_of (left i)) now reply (f i) asked) ∙ by (session_of t).requests.asked a
  where
    left : new ≡ replies.end_request t (session_of t) stamp
    left =
        n ∙ ap (λ z. with_session (replies.with_renewed stamp (session_of z)) (replies.note_renewal z (session_of z) stamp)) d
        ∙ ended_is t (session_of t) stamp

    some_is : {x y : Body} → Some x ≡ Some y → x ≡ y
    some_is e = cc

    by : (o : Option Request) → Some asked ≡ option_map body_of o →
        replies.reply_to t (session_of t) now stamp reply asked ≡ replied t now stamp reply o
    by None e = cc
    by (Some q) e = ap (replies.reply_to t (session_of t) now stamp reply) (some_is e)

-- a refused reassertion
pub count_refused : (t : Turn) (now stamp : Stamp) (reply : Body) (o : Option Request) → refuses reply o ≡ true →
    with_session (with_lease (condemned (session_of t).lease) (session_of t)) t ≡ count_reply t now stamp reply o
unfolding replies.count_reply replies.condemn
count_refused t now stamp reply None e = cc
count_refused t now stamp reply (Some q) e =
    ap (λ b. if b then replies.condemn t (session_of t) else replies.reply_to t (session_of t) now stamp reply q.body) (sym e)

-- every other one
pub count_other : (t : Turn) (now stamp : Stamp) (reply : Body) (o : Option Request) → refuses reply o ≡ false → replied t now stamp reply o ≡ count_reply t now stamp reply o
unfolding replies.count_reply
count_other t now stamp reply None e = refl
count_other t now stamp reply (Some q) e =
    ap (λ b. if b then replies.condemn t (session_of t) else replies.reply_to t (session_of t) now stamp reply q.body) (sym e)

-- a reply that counts
pub counts_is : (t : Turn) (now : Stamp) (h : Header) (reply : Body) → counts h.number reply (session_of t).requests.asked ≡ true →
    count_reply t now (record { 0 = h.stamp }) reply (session_of t).requests.asked ≡ replies.reply_of t (session_of t) now h reply
unfolding replies.reply_of replies.counted replies.by_request
counts_is t now h reply e = by (session_of t).requests.asked e
  where
    by : (o : Option Request) → counts h.number reply o ≡ true →
        count_reply t now (record { 0 = h.stamp }) reply o ≡ replies.counted t (session_of t) now h.number (record { 0 = h.stamp }) reply o
    by None e = cc
    by (Some q) e = ap (λ b. if b then replies.count_reply t (session_of t) now (record { 0 = h.stamp }) reply q.body else t) (sym e)

-- one that does not count
pub counts_not : (t : Turn) (now : Stamp) (h : Header) (reply : Body) → counts h.number reply (session_of t).requests.asked ≡ false → t ≡ replies.reply_of t (session_of t) now h reply
unfolding replies.reply_of replies.counted replies.by_request
counts_not t now h reply e = by (session_of t).requests.asked e
  where
    by : (o : Option Request) → counts h.number reply o ≡ false → t ≡ replies.counted t (session_of t) now h.number (record { 0 = h.stamp }) reply o
    by None e = refl
    by (Some q) e = ap (λ b. if b then replies.count_reply t (session_of t) now (record { 0 = h.stamp }) reply q.body else t) (sym e)

-- a reply to an ask for a name: the operation that waits for it is answered first
pub named_is : (t new : Turn) (file : Option ℕ) (reply : NameReply) (server : ServerId) (a : AppAnswer) → new ≡ answer_each (is_asked server) a t → server ≡ t.here.server →
    a ≡ replies.name_answer reply → replies.named_as new (session_of new) file reply ≡ replies.named t (session_of t) file reply
unfolding replies.named answer_each
named_is t new file reply server a n e k =
    (λ i. replies.named_as (n i) (session_of (n i)) file reply) ∙ (λ i. replies.named_as (answer_each (is_asked (e i)) (k i) t) (session_of t) file reply)
