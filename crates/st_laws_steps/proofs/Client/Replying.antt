-- What a client does with a server's message is a list of changes.
use Rattle.st_lemmas.proofs.Words
use Words.{◌≡◌, ℕ, ◌+◌, ◌≤◌, Bool, true, false, not, List, [], ◌∷◌, ◌==◌, Option, Some, None, refl, sym, ap, ◌∙◌, subst, inl, arith, if◌then◌else◌, is_some}
use Words.{nat_lt, eqb-true, ltb-true, Epoch, GrantNo, PageNo, Stamp, Mode, ExtentRow, Header, Body, NameReply, Why, Request, HeldLock, KnownExtent, Asked}
use Words.answers
use Words.bodies
use Words.replies.{Ino, Listed, Refused}
use Words.why
use Words.ClientLease as lease
use Words.ClientLease.{ClientLease}
use Words.ClientLocks as locks
use Words.ClientPages as pages
use Words.ClientPages.{Store}
use Words.ClientReplies as cr
use Words.ClientState as cs
use Words.ClientState.{ClientSession, Turn, with_session, with_store, with_cache, forget_wait, fits, is_asked, answer_each, send}
use Words.Tables.{and_true}
use Rattle.st_base.specs.Mode.{covers}
use Rattle.st_rules.specs.declared.client.Asked.TheVariants.{Reduce, NotHeld, Stale}
use Rattle.st_laws_steps.proofs.Client.Changes.{alike_stay, goes_keeps}
use Rattle.st_laws_steps.specs.Client.Client as client
use Rattle.st_laws_steps.specs.Client.Client.{map_in, map_asked, Unasked, UnhardAnswer, with_greeted}
use Rattle.st_laws_steps.specs.Client.Session.{AsksNothing, DropsLock, EndsRequest, IsReasserted, LocksDemanded, LocksGranted, LocksStay, LocksStep, NewEpoch}
use Rattle.st_laws_steps.proofs.Client.Calm.{changes, Says, Operates, Greets, Begins, Follows, Learns, Changes, Still, one, both, if_changes, changes_by_each_answer}
use Rattle.st_laws_steps.specs.Client.Losses.{AskedFresh, SessionFresh}

-- a grant asks nothing
granted_same : (z : ClientSession) (ino : ℕ) (g : GrantNo) (mode : Mode) → LocksStep [] z.locks (cr.grant z ino g mode).locks → AsksNothing [] z (cr.grant z ino g mode)
unfolding cr.grant cr.grant_new cr.accept_grant cr.decline
granted_same z ino g mode = go (locks.is_above_seen z.locks ino g) (locks.has_place z.locks ino)
  where
    new : Bool → ClientSession
    new place = if place then cr.accept_grant z ino g mode else cr.decline z ino g

    go : (above place : Bool) → LocksStep [] z.locks (if above then new place else z).locks → AsksNothing [] z (if above then new place else z)
    go true true l = record { epoch = refl; requests = refl; cutting = refl; due = refl; date = refl; locks = l }
    go true false l = record { epoch = refl; requests = refl; cutting = refl; due = refl; date = refl; locks = l }
    go false place l = record { epoch = refl; requests = refl; cutting = refl; due = refl; date = refl; locks = l }

pub granted_alike : (xs : List KnownExtent) (s : ClientSession) (ino : ℕ) (g : GrantNo) (mode : Mode) → AsksNothing xs s (cr.grant (forget_wait ino s) ino g mode)
granted_alike xs s ino g mode =
    let a = granted_same (forget_wait ino s) ino g mode (LocksGranted (forget_wait ino s) ino g mode) in
    record { epoch = a.epoch; requests = a.requests; cutting = a.cutting; due = a.due; date = a.date; locks = LocksGranted (forget_wait ino s) ino g mode }

-- by a test
alike_if : (xs : List KnownExtent) (s : ClientSession) (b : Bool) (u v : ClientSession) → AsksNothing xs s u → AsksNothing xs s v → AsksNothing xs s (if b then u else v)
alike_if xs s true u v a c = a
alike_if xs s false u v a c = c

pub alike_wait : (xs : List KnownExtent) (s : ClientSession) (ino : ℕ) (mode : Mode) (now : Stamp) → AsksNothing xs s (cr.wait_unless_held s ino mode now)
unfolding cr.wait_unless_held cr.wait_told
alike_wait xs s ino mode now =
    alike_if xs s (covers (locks.mode_of s.locks ino) mode) s _ (alike_stay xs s) (record { epoch = refl; requests = refl; cutting = refl; due = refl; date = refl; locks = LocksStay s.locks })

pub alike_condemned : (xs : List KnownExtent) (s : ClientSession) → AsksNothing xs s (cs.with_lease (lease.condemned s.lease) s)
unfolding lease.condemned
alike_condemned xs s = record { epoch = refl; requests = refl; cutting = refl; due = refl; date = refl; locks = LocksStay s.locks }

-- a session that saw a demand, and may give up what it does not hold
pub alike_demanded : (xs : List KnownExtent) (s : ClientSession) (ino : ℕ) (g : GrantNo) (to : Mode) → AsksNothing xs s (with_cache (locks.demand s.locks ino g to).locks s)
alike_demanded xs s ino g to = record { epoch = refl; requests = refl; cutting = refl; due = refl; date = refl; locks = LocksDemanded s.locks ino g to }

pub alike_unheld : (xs : List KnownExtent) (s : ClientSession) (ino : ℕ) (g : GrantNo) (to : Mode) → AsksNothing xs s (cr.release_unheld (with_cache (locks.demand s.locks ino g to).locks s) ino g)
unfolding cr.release_unheld
alike_unheld xs s ino g to =
    alike_if xs s (cr.has_release (with_cache (locks.demand s.locks ino g to).locks s) ino g) _ _ (alike_demanded xs s ino g to)
    (record { epoch = refl; requests = refl; cutting = refl; due = refl; date = refl; locks = LocksDemanded s.locks ino g to })

date_renewed : (stamp : Stamp) (l : ClientLease) → l.date.0 ≤ (lease.renewed stamp l).date.0
unfolding lease.renewed lease.dated
date_renewed stamp l = go (lease.is_renewal stamp l) refl
  where
    go : (b : Bool) → lease.is_renewal stamp l ≡ b → l.date.0 ≤ (if b then record l { date = stamp } else l).date.0
    go true e = let z = ltb-true l.date.0 stamp.0 (and_true (not l.condemned) (nat_lt l.date.0 stamp.0) e).1 in omega (arith, z)
    go false e = omega arith

-- nothing is known of the page whose place a request asks for
abbrev pub Fresh : Store → Body → Type 0
Fresh st asked = (x : ℕ × PageNo) → map_in asked ≡ Some x → pages.known_of st.extents x.0 x.1 ≡ None

module _ (now : Stamp) where
  abbrev C : Turn → Turn → Type 0
  C t u = Changes true now t u

  changes_by_session : (t : Turn) (s u : ClientSession) → t.here.session ≡ Some s → AsksNothing t.here.store.extents s u → C t (with_session u t)
  changes_by_session t s u e a = one (Follows t s u e (goes_keeps t.here.store s u a))

  changes_by_welcome : (t : Turn) (epoch : Epoch) (stamp : Stamp) → t.here.session ≡ None → C t (cr.welcome t now epoch stamp)
  unfolding cr.welcome cr.begin_session cr.note_lease
  changes_by_welcome t epoch stamp e =
      if_changes (cr.is_timely t now stamp) t _ _
      (λ b. both (one (Greets t None))
      (both (one (Begins (with_greeted None t) (cr.new_session epoch stamp) e (ltb-true now.0 (stamp.0 + t.config.lease) (and_true (is_some t.here.greeting) (nat_lt now.0 (stamp.0 + t.config.lease)) b).1) (epoch, stamp, refl)))
      (one (Says (cr.begin_here (cr.new_session epoch stamp) t) _ tt refl)))) (λ b. Still t)

  changes_by_without : (t : Turn) (h : Header) (body : Body) → t.here.session ≡ None → C t (cr.without_session t now h body)
  unfolding cr.without_session
  changes_by_without t h bodies.Welcome e = changes_by_welcome t _ _ e
  changes_by_without t h body e = Still t

  no_page : (x : ℕ × PageNo) → ◌≡◌ {A = Option (ℕ × PageNo)} None (Some x) → ⊥
  no_page x q = cc

  changes_by_newer : (t : Turn) (s : ClientSession) (epoch : Epoch) → t.here.session ≡ Some s → C t (cr.newer_epoch t s epoch)
  unfolding cr.newer_epoch cr.follow_epoch
  changes_by_newer t s epoch e =
      if_changes (cr.is_newer s epoch) t _ _ (λ b. both (one (Follows t s (cr.in_epoch epoch s) e (record { how = NewEpoch s epoch (ltb-true s.epoch.0 epoch.0 (and_true (nat_lt s.epoch.0 epoch.0) _ b).0); date = omega arith; asks = λ x q. absurd (no_page x q) }))) (changes_by_each_answer (is_asked t.here.server) (answers.Uncertain s.epoch.0 epoch.0) (with_session (cr.in_epoch epoch s) t) tt))
      (λ b. Still t)

  pub changes_by_other : (t : Turn) (s : ClientSession) (epoch : Epoch) (body : Body) → t.here.session ≡ Some s → C t (cr.of_other_epoch t s epoch body)
  unfolding cr.of_other_epoch
  changes_by_other t s epoch (bodies.Nack w a b) e = go w
    where
      go : (w : Why) → C t (cr.refused_in t s epoch w)
      go why.OtherEpoch = changes_by_newer t s epoch e
      go w = Still t
  changes_by_other t s epoch body e = Still t

  pub changes_by_condemn : (t : Turn) (s : ClientSession) → t.here.session ≡ Some s → C t (cr.condemn t s)
  unfolding cr.condemn lease.condemned
  changes_by_condemn t s e = changes_by_session t s _ e (alike_condemned t.here.store.extents s)

  changes_by_granted : (t : Turn) (s : ClientSession) (ino : ℕ) (g : GrantNo) (mode : Mode) → t.here.session ≡ Some s → C t (cr.granted t s ino g mode)
  unfolding cr.granted
  changes_by_granted t s ino g mode e = changes_by_session t s _ e (granted_alike t.here.store.extents s ino g mode)

  changes_by_queued : (t : Turn) (s : ClientSession) (ino : ℕ) (mode : Mode) → t.here.session ≡ Some s → C t (cr.queued t s now ino mode)
  unfolding cr.queued
  changes_by_queued t s ino mode e = changes_by_session t s _ e (alike_wait t.here.store.extents s ino mode now)

  -- what is reported about places is known
  changes_by_rows : (ino : ℕ) (rows : List ExtentRow) (t : Turn) → Unasked t.here.session → C t (with_store (record t.here.store { extents = pages.with_known_rows ino rows t.here.store.extents }) t)
  unfolding pages.with_known_rows
  changes_by_rows ino [] t u = Still t
  changes_by_rows ino (r ∷ rs) t u = both (one (Learns t (pages.known_row ino r) u (λ q. absurd (mapped q)))) (changes_by_rows ino rs _ u)
    where
      mapped : (pages.known_row ino r).mapping ≡ None → ⊥
      mapped q = cc

  changes_by_learn : (t : Turn) (ino : ℕ) (rows : List ExtentRow) (asked : Body) → Unasked t.here.session → fits (bodies.Extents ino rows) asked ≡ true → Fresh t.here.store asked → C t (cr.learn t ino rows asked)
  unfolding cr.learn
  changes_by_learn t ino rows (bodies.Map i g p) u f fr = go rows
    where
      go : (rows : List ExtentRow) → C t (with_store (cr.learn_map ino p rows t.here.store) t)
      go [] = one (Learns t (pages.known_unmapped ino p) u (λ q. subst (λ n. pages.known_of t.here.store.extents n p ≡ None) (eqb-true i ino f) (fr (i, p) refl)))
      go (r ∷ rs) = changes_by_rows ino (r ∷ rs) t u
  changes_by_learn t ino rows asked u f fr = changes_by_rows ino rows t u

  changes_by_extents : (t : Turn) (s : ClientSession) (ino : ℕ) (rows : List ExtentRow) (asked : Body) → Unasked t.here.session → fits (bodies.Extents ino rows) asked ≡ true → Fresh t.here.store asked → C t (cr.extents t s ino rows asked)
  unfolding cr.extents
  changes_by_extents t s ino rows asked u f fr = if_changes (cr.is_current s.locks asked) t _ _ (λ e. changes_by_learn t ino rows asked u f fr) (λ e. Still t)

  changes_by_removed : (t : Turn) (s : ClientSession) (file : Option ℕ) → t.here.session ≡ Some s → C t (cr.removed t s file)
  unfolding cr.removed cr.drop_held cr.drop_lock locks.drop_lock
  changes_by_removed t s None e = Still t
  changes_by_removed t s (Some ino) e = go (locks.lock_of s.locks ino)
    where
      go : (l : Option HeldLock) → C t (cr.drop_held t s ino l)
      go None = Still t
      go (Some l) = one (Follows t s _ e (record { how = DropsLock s ino l; date = omega arith; asks = λ x q. inl q }))

  changes_by_named : (t : Turn) (s : ClientSession) (file : Option ℕ) (reply : NameReply) → t.here.session ≡ Some s → C t (cr.named t s file reply)
  unfolding cr.named cr.named_as answer_each
  changes_by_named t s file reply e = both (changes_by_each_answer (is_asked t.here.server) (cr.name_answer reply) t (quiet reply)) (go reply)
    where
      u : Turn
      u = answer_each (is_asked t.here.server) (cr.name_answer reply) t

      quiet : (r : NameReply) → UnhardAnswer (cr.name_answer r)
      quiet (Ino ino) = tt
      quiet (Listed rows) = tt
      quiet (Refused code) = tt

      go : (r : NameReply) → C u (cr.named_as u s file r)
      go (Ino ino) = changes_by_removed u s file e
      go (Listed rows) = Still u
      go (Refused code) = Still u

  changes_by_refuse : (t : Turn) (w : Why) (a b : ℕ) (file : Option ℕ) (asked : Body) → C t (cr.refuse_as t w a b file asked)
  unfolding cr.refuse_as cr.refuse_file cr.refuse_page cr.refuse_holder
  changes_by_refuse t why.NoFile a b file asked = at file
    where
      at : (f : Option ℕ) → C t (cr.refuse_file t answers.NoFile f)
      at None = Still t
      at (Some ino) = changes_by_each_answer (cr.works_on t ino) answers.NoFile t tt
  changes_by_refuse t why.TooManyLocks a b file asked = at file
    where
      at : (f : Option ℕ) → C t (cr.refuse_file t answers.TooManyLocks f)
      at None = Still t
      at (Some ino) = changes_by_each_answer (cr.works_on t ino) answers.TooManyLocks t tt
  changes_by_refuse t why.NoSpace a b file asked = at file (cs.page_asked asked)
    where
      at : (f : Option ℕ) (p : Option PageNo) → C t (cr.refuse_page t (answers.NoSpace a b) f p)
      at None p = Still t
      at (Some ino) None = Still t
      at (Some ino) (Some p) = changes_by_each_answer (cr.writes_on t ino p) (answers.NoSpace a b) t tt
  changes_by_refuse t why.NotHolder a b file asked = if_changes (cs.asks_cut_or_remove asked) t _ _ (λ e. changes_by_each_answer (is_asked t.here.server) answers.NotHolder t tt) (λ e. Still t)
  changes_by_refuse t w a b file asked = Still t

  changes_by_refused : (t : Turn) (w : Why) (a b : ℕ) (file : Option ℕ) (asked : Body) → C t (cr.refused t w a b file asked)
  unfolding cr.refused cr.leave_stuck
  changes_by_refused t w a b file asked = both (changes_by_refuse t w a b file asked) (one (Operates _ _))

  -- what a reply does that ends a request
  changes_by_effect : (t : Turn) (s : ClientSession) (reply : Body) (file : Option ℕ) (asked : Body) → t.here.session ≡ Some s → s.requests.asked ≡ None → fits reply asked ≡ true → Fresh t.here.store asked → C t (cr.effect t s now reply file asked)
  unfolding cr.effect cr.acknowledged cr.reasserted
  changes_by_effect t s (bodies.Granted ino g mode) file asked e n f fr = changes_by_granted t s ino g mode e
  changes_by_effect t s (bodies.Queued ino mode) file asked e n f fr = changes_by_queued t s ino mode e
  changes_by_effect t s (bodies.Extents ino rows) file asked e n f fr = changes_by_extents t s ino rows asked (subst Unasked (sym e) n) f fr
  changes_by_effect t s bodies.Ack file asked e n f fr = changes_by_each_answer (is_asked t.here.server) answers.Cut t tt
  changes_by_effect t s (bodies.Named reply) file asked e n f fr = changes_by_named t s file reply e
  changes_by_effect t s bodies.Reasserted file asked e n f fr = one (Follows t s _ e (record { how = IsReasserted s; date = omega arith; asks = λ x q. inl q }))
  changes_by_effect t s (bodies.Nack w a b) file asked e n f fr = changes_by_refused t w a b file asked
  changes_by_effect t s reply file asked e n f fr = Still t

  -- the request ends
  pub changes_by_end_request : (t : Turn) (s : ClientSession) (stamp : Stamp) → t.here.session ≡ Some s → C t (cr.end_request t s stamp)
  unfolding cr.end_request cr.note_renewal cr.note_lease
  changes_by_end_request t s stamp e = go (lease.is_renewal stamp s.lease)
    where
      ended : ClientSession
      ended = cr.ended_by stamp s

      ends : (u : Turn) → u.here.session ≡ Some s → C u (with_session ended u)
      ends u e = one (Follows u s ended e (record { how = EndsRequest s stamp; date = date_renewed stamp s.lease; asks = λ x q. absurd (no_page x q) }))

      go : (b : Bool) → C t (with_session ended (if b then cr.note_lease (lease.renewed stamp s.lease) t else t))
      go true = both (one (Says t _ tt refl)) (ends (cr.note_lease (lease.renewed stamp s.lease) t) e)
      go false = ends t e

  -- it leaves the session that is so ended, and all that is known of the disks
  pub session_ended : (t : Turn) (s : ClientSession) (stamp : Stamp) → (cr.end_request t s stamp).here.session ≡ Some (cr.ended_by stamp s)
  unfolding cr.end_request
  session_ended t s stamp = refl

  pub same_store : (t : Turn) (s : ClientSession) (stamp : Stamp) → (cr.end_request t s stamp).here.store ≡ t.here.store
  unfolding cr.end_request cr.note_renewal cr.note_lease
  same_store t s stamp = go (lease.is_renewal stamp s.lease)
    where
      go : (b : Bool) → (with_session (cr.ended_by stamp s) (if b then cr.note_lease (lease.renewed stamp s.lease) t else t)).here.store ≡ t.here.store
      go true = refl
      go false = refl

  changes_by_reply_to : (t : Turn) (s : ClientSession) (stamp : Stamp) (reply asked : Body) → t.here.session ≡ Some s → fits reply asked ≡ true → Fresh t.here.store asked → C t (cr.reply_to t s now stamp reply asked)
  unfolding cr.reply_to
  changes_by_reply_to t s stamp reply asked e f fr =
      both (changes_by_end_request t s stamp e)
      (changes_by_effect (cr.end_request t s stamp) (cr.ended_by stamp s) reply (cs.file_asked s.cutting asked) asked (session_ended t s stamp) refl f
      (subst (λ st. Fresh st asked) (sym (same_store t s stamp)) fr))

  -- a reply that counts
  pub changes_by_count : (t : Turn) (s : ClientSession) (stamp : Stamp) (reply asked : Body) → t.here.session ≡ Some s → fits reply asked ≡ true → Fresh t.here.store asked → C t (cr.count_reply t s now stamp reply asked)
  unfolding cr.count_reply
  changes_by_count t s stamp reply asked e f fr =
      if_changes (cr.refuses_reassertion reply asked) t _ _ (λ c. changes_by_condemn t s e) (λ c. changes_by_reply_to t s stamp reply asked e f fr)

  changes_by_reply : (t : Turn) (s : ClientSession) (h : Header) (reply : Body) → t.here.session ≡ Some s → AskedFresh t.here.store s.requests.asked → C t (cr.reply_of t s now h reply)
  unfolding cr.reply_of cr.counted cr.by_request
  changes_by_reply t s h reply e fr = go s.requests.asked refl
    where
      go : (o : Option Request) → s.requests.asked ≡ o → C t (cr.counted t s now h.number (record { 0 = h.stamp }) reply o)
      go None q = Still t
      go (Some r) q =
          if_changes (cr.is_counting h.number reply r) t _ _
          (λ b. changes_by_count t s _ reply r.body e (and_true (cs.is_request_of h.number r) (fits reply r.body) b).1 (λ x i. fr x (ap map_asked q ∙ i))) (λ b. Still t)

  changes_by_nack : (t : Turn) (s : ClientSession) (h : Header) (w : Why) (a b : ℕ) → t.here.session ≡ Some s → AskedFresh t.here.store s.requests.asked → C t (cr.nack t s now h w a b)
  changes_by_nack t s h why.Suspect a b e fr = changes_by_condemn t s e
  changes_by_nack t s h why.NoSession a b e fr = changes_by_condemn t s e
  changes_by_nack t s h why.OtherEpoch a b e fr = Still t
  changes_by_nack t s h why.Grace a b e fr = Still t
  changes_by_nack t s h why.GraceOver a b e fr = changes_by_condemn t s e
  changes_by_nack t s h why.Conflict a b e fr = changes_by_condemn t s e
  changes_by_nack t s h w a b e fr = changes_by_reply t s h (bodies.Nack w a b) e fr

  changes_by_demand : (t : Turn) (s : ClientSession) (ino : ℕ) (g : GrantNo) (to : Mode) → t.here.session ≡ Some s → C t (cr.demand t s ino g to)
  unfolding cr.demand cr.demand_by cr.demand_as cr.observe_demand send
  changes_by_demand t s ino g to e = go (locks.demand s.locks ino g to).asked
    where
      r : ClientSession
      r = with_cache (locks.demand s.locks ino g to).locks s

      go : (a : Asked) → C t (cr.demand_as t r ino g a)
      go Reduce = both (changes_by_session t s r e (alike_demanded t.here.store.extents s ino g to)) (one (Says (with_session r t) _ tt refl))
      go NotHeld = changes_by_session t s _ e (alike_unheld t.here.store.extents s ino g to)
      go Stale = Still t

  changes_by_message_of_epoch : (t : Turn) (s : ClientSession) (h : Header) (body : Body) → t.here.session ≡ Some s → AskedFresh t.here.store s.requests.asked → C t (cr.of_epoch t s now h body)
  unfolding cr.of_epoch cr.grant_or_reply
  changes_by_message_of_epoch t s h (bodies.Nack w a b) e fr = changes_by_nack t s h w a b e fr
  changes_by_message_of_epoch t s h (bodies.Granted ino g mode) e fr = if_changes (h.number == 0) t _ _ (λ b. changes_by_granted t s ino g mode e) (λ b. changes_by_reply t s h (bodies.Granted ino g mode) e fr)
  changes_by_message_of_epoch t s h (bodies.Demand ino g to) e fr = changes_by_demand t s ino g to e
  changes_by_message_of_epoch t s h body e fr = changes_by_reply t s h body e fr

  pub calm_receive : (h : Header) (body : Body) (t : Turn) → SessionFresh t.here.store t.here.session → C t (cr.receive_at now h body t)
  unfolding cr.receive_at cr.by_session cr.with_a_session
  calm_receive h body t fr = if_changes (cr.is_received t now h) t _ _ (λ b. go t.here.session refl fr) (λ b. Still t)
    where
      go : (x : Option ClientSession) → t.here.session ≡ x → SessionFresh t.here.store x → C t (cr.by_session t now h body x)
      go None e fr = changes_by_without t h body e
      go (Some s) e fr = if_changes (h.epoch == s.epoch.0) t _ _ (λ b. changes_by_message_of_epoch t s h body e fr) (λ b. changes_by_other t s _ body e)

pub changes_by_receive : (now : Stamp) (h : Header) (body : Body) (t : Turn) → SessionFresh t.here.store t.here.session → client.Changes now t (cr.receive_at now h body t)
changes_by_receive now h body t fresh = changes (calm_receive now h body t fresh)
