-- Receiving a message keeps the copies, under what its sender owes.
use Rattle.st_lemmas.proofs.Words
use Words.{◌≡◌, ℕ, ◌≤◌, Bool, true, false, List, [], ◌==◌, Option, Some, None, refl, sym, ap, ◌∙◌, subst, if◌then◌else◌, eqb-true, ClientId, Epoch, GrantNo}
use Words.{ServerId, Life, PageNo, Stamp, ExtentRow, Ask, Body, Header, NameReply, Why, HeldLock, Request, LogEntry}
use Words.Page.{filled}
use Words.answers
use Words.bodies
use Words.why
use Words.FlatLog.{content}
use Words.ClientLease as lease
use Words.ClientLocks as locks
use Words.ClientLocks.{lock_of, is_lock_on}
use Words.ClientState as st
use Words.ClientState.{ClientSession, Turn, with_session, is_asked, file_asked, asks_name}
use Words.ClientReplies as cr
use Words.Keys.{server_node}
use Words.Tables.{and_true}
use Rattle.st_laws_refine.specs.Views.Halves.{held_at, held_in}
use Rattle.st_laws_refine.specs.Client.World.{logged}
use Rattle.st_laws_refine.specs.Client.Invariants.{HaveModes}
use Rattle.st_laws_refine.proofs.Client.Replies.{mode_found}
use Rattle.st_laws_reads.specs.Copies.Copies.{PageOk, file_at, Keeps}
use Rattle.st_laws_reads.specs.Copies.Obligations.{ReplyOwed, MessageOwed}
use Rattle.st_laws_reads.proofs.Copies.Logs.{logged_both, still}
use Rattle.st_laws_reads.proofs.Copies.Copies.{copies_kept_by_same, copies_kept_by_sequence, copies_kept_by_choice}
use Rattle.st_laws_reads.proofs.Copies.Caches.{copies_kept_by_granted}
use Rattle.st_laws_reads.proofs.Copies.Receives.{Owed, copies_kept_by_like, copies_kept_by_effect, copies_kept_by_condemn, copies_kept_by_demand, copies_kept_by_lease, copies_kept_by_each}
use Rattle.st_laws_reads.proofs.Copies.Passes.{with_it}

-- the lock of the file is held under a mode, if a reply on its extents counts
held_current : (c : locks.LockCache) (ino : ℕ) (asked : Body) → HaveModes c.rows → st.maps ino asked ≡ true → cr.is_current c asked ≡ true →
    1 ≤ (held_at (lock_of c ino)).mode
held_current c ino (bodies.Map i g p) m f h = subst (λ j. 1 ≤ (held_at (lock_of c j)).mode) (eqb-true _ _ f) (held_of (lock_of c i) refl h)
  where
    held_of : (o : Option HeldLock) → lock_of c i ≡ o → cr.is_grant g o ≡ true → 1 ≤ (held_at (lock_of c i)).mode
    held_of None e h = cc
    held_of (Some l) e h = subst (λ o. 1 ≤ (held_at o).mode) (sym e) (mode_found (is_lock_on i) c.rows l m e)
held_current c ino (bodies.Allocate i g p n) m f h = subst (λ j. 1 ≤ (held_at (lock_of c j)).mode) (eqb-true _ _ f) (held_of (lock_of c i) refl h)
  where
    held_of : (o : Option HeldLock) → lock_of c i ≡ o → cr.is_grant g o ≡ true → 1 ≤ (held_at (lock_of c i)).mode
    held_of None e h = cc
    held_of (Some l) e h = subst (λ o. 1 ≤ (held_at o).mode) (sym e) (mode_found (is_lock_on i) c.rows l m e)
held_current c ino asked m f h = cc

name_file : (cutting : Option ℕ) (asked : Body) → asks_name asked ≡ true → file_asked cutting asked ≡ cutting
name_file cutting (bodies.Name op) e = refl
name_file cutting asked e = cc

module _ (ask_of : ℕ → Option Ask) (c : ClientId) (lives : ServerId → Life) (es : List LogEntry) where
  abbrev LogAt : Turn → List LogEntry
  LogAt t = logged c lives t.out es

  -- what a counting reply owes, by what is owed of the message
  owed_reply : (t : Turn) (s : ClientSession) (h : Header) (body : Body) (q : Request) → s.requests.asked ≡ Some q → cr.is_counting h.number body q ≡ true →
      ReplyOwed (LogAt t) t.here s h body → Owed ask_of c lives es t s body q.body (file_asked s.cutting q.body)
  owed_reply t s h body q is counts w =
      record {
        up = w.up;
        held = λ ino rows e current. held_current s.locks ino q.body w.modes (fits_extents ino rows e) current;
        zero = λ ino rows e current i g p a n. zeros ino rows e current i g p a n;
        none = λ r ino e f p. w.removed q ino p is (fits_name r e) (sym (name_file s.cutting q.body (fits_name r e)) ∙ f);
      }
    where
      fit : st.fits body q.body ≡ true
      fit = (and_true (st.is_request_of h.number q) (st.fits body q.body) counts).1

      fits_extents : (ino : ℕ) (rows : List ExtentRow) → body ≡ bodies.Extents ino rows → st.maps ino q.body ≡ true
      fits_extents ino rows e = subst (λ b. st.fits b q.body ≡ true) e fit

      fits_name : (r : NameReply) → body ≡ bodies.Named r → asks_name q.body ≡ true
      fits_name r e = subst (λ b. st.fits b q.body ≡ true) e fit

      zeros : (ino : ℕ) (rows : List ExtentRow) → body ≡ bodies.Extents ino rows → cr.is_current s.locks q.body ≡ true → (i : ℕ) (g : GrantNo) (p : PageNo) →
          q.body ≡ bodies.Map i g p → rows ≡ [] → filled 0 ≡ content (LogAt t) (file_at t.here.server ino) p
      zeros ino rows e current i g p a n =
          let same : i ≡ ino = eqb-true _ _ (subst (λ b. st.maps ino b ≡ true) a (fits_extents ino rows e)) in
          w.zeros q ino g p is (a ∙ ap (λ j. bodies.Map j g p) same) (e ∙ ap (λ x. bodies.Extents ino x) n) counts current

  -- a note of a lease leaves what is owed
  owed_noted : (t : Turn) (l : lease.ClientLease) (s : ClientSession) (body asked : Body) (file : Option ℕ) → Owed ask_of c lives es t s body asked file →
      Owed ask_of c lives es (cr.note_lease l t) s body asked file
  unfolding cr.note_lease
  owed_noted t l s body asked file w =
      record {
        up = w.up;
        held = w.held;
        zero = λ ino rows e current i g p a n. w.zero ino rows e current i g p a n ∙
            ap (λ x. content x (file_at t.here.server ino) p) (sym (logged_both c lives t.out _ es));
        none = w.none;
      }

  owed_ended : (t : Turn) (s : ClientSession) (stamp : Stamp) (body asked : Body) (file : Option ℕ) → Owed ask_of c lives es t s body asked file →
      Owed ask_of c lives es t (cr.ended_by stamp s) body asked file
  owed_ended t s stamp body asked file w = record { up = w.up; held = w.held; zero = w.zero; none = w.none }

  copies_kept_by_reply_to : (t : Turn) (s : ClientSession) (n stamp : Stamp) (body asked : Body) →
      Owed ask_of c lives es t s body asked (file_asked s.cutting asked) →
      Keeps ask_of c lives es (with_session s t) (cr.reply_to (with_session s t) s n stamp body asked)
  unfolding cr.reply_to cr.end_request cr.note_renewal cr.note_lease
  copies_kept_by_reply_to t s n stamp body asked w = go (lease.is_renewal stamp s.lease)
    where
      u : ClientSession
      u = cr.ended_by stamp s

      l : lease.ClientLease
      l = lease.renewed stamp s.lease

      noted : Keeps ask_of c lives es (with_session s t)
          (cr.effect (with_session u (cr.note_lease l (with_session s t))) u n body (file_asked s.cutting asked) asked)
      noted =
          copies_kept_by_sequence ask_of c lives es (with_session s t) (with_session s (cr.note_lease l t)) _
          (copies_kept_by_lease ask_of c lives es (with_session s t) l)
          (copies_kept_by_sequence ask_of c lives es (with_session s (cr.note_lease l t)) (with_session u (cr.note_lease l t)) _
          (copies_kept_by_like ask_of c lives es (cr.note_lease l t) s u refl)
          (copies_kept_by_effect ask_of c lives es (cr.note_lease l t) u n body (file_asked s.cutting asked) asked
          (owed_noted t l u body asked _ (owed_ended t s stamp body asked _ w))))

      go : (b : Bool) → Keeps ask_of c lives es (with_session s t)
          (cr.effect (with_session u (if b then cr.note_lease l (with_session s t) else with_session s t)) u n body (file_asked s.cutting asked) asked)
      go true = noted
      go false =
          copies_kept_by_sequence ask_of c lives es (with_session s t) (with_session u t) _ (copies_kept_by_like ask_of c lives es t s u refl)
          (copies_kept_by_effect ask_of c lives es t u n body (file_asked s.cutting asked) asked (owed_ended t s stamp body asked _ w))

  -- a reply of the session's epoch
  copies_kept_by_reply : (t : Turn) (s : ClientSession) (n : Stamp) (h : Header) (body : Body) → ReplyOwed (LogAt t) t.here s h body →
      Keeps ask_of c lives es (with_session s t) (cr.reply_of (with_session s t) s n h body)
  unfolding cr.reply_of cr.counted cr.by_request cr.count_reply
  copies_kept_by_reply t s n h body w = go s.requests.asked refl
    where
      go : (o : Option Request) → s.requests.asked ≡ o →
          Keeps ask_of c lives es (with_session s t) (cr.counted (with_session s t) s n h.number (record { 0 = h.stamp }) body o)
      go None e = copies_kept_by_same ask_of c lives es (with_session s t)
      go (Some q) e =
          copies_kept_by_choice ask_of c lives es (with_session s t) (cr.is_counting h.number body q) _ _
          (λ counts. copies_kept_by_choice ask_of c lives es (with_session s t) (cr.refuses_reassertion body q.body) _ _
          (λ r. copies_kept_by_condemn ask_of c lives es t s)
          (λ r. copies_kept_by_reply_to t s n (record { 0 = h.stamp }) body q.body (owed_reply t s h body q e counts w)))
          (λ counts. copies_kept_by_same ask_of c lives es (with_session s t))

  copies_kept_by_nack : (t : Turn) (s : ClientSession) (n : Stamp) (h : Header) (y : Why) (a b : ℕ) → ReplyOwed (LogAt t) t.here s h (bodies.Nack y a b) →
      Keeps ask_of c lives es (with_session s t) (cr.nack (with_session s t) s n h y a b)
  copies_kept_by_nack t s n h why.Suspect a b w = copies_kept_by_condemn ask_of c lives es t s
  copies_kept_by_nack t s n h why.NoSession a b w = copies_kept_by_condemn ask_of c lives es t s
  copies_kept_by_nack t s n h why.OtherEpoch a b w = copies_kept_by_same ask_of c lives es (with_session s t)
  copies_kept_by_nack t s n h why.Grace a b w = copies_kept_by_same ask_of c lives es (with_session s t)
  copies_kept_by_nack t s n h why.GraceOver a b w = copies_kept_by_condemn ask_of c lives es t s
  copies_kept_by_nack t s n h why.Conflict a b w = copies_kept_by_condemn ask_of c lives es t s
  copies_kept_by_nack t s n h y a b w = copies_kept_by_reply t s n h (bodies.Nack y a b) w

  copies_kept_by_of_epoch : (t : Turn) (s : ClientSession) (n : Stamp) (h : Header) (body : Body) → ReplyOwed (LogAt t) t.here s h body →
      Keeps ask_of c lives es (with_session s t) (cr.of_epoch (with_session s t) s n h body)
  unfolding cr.of_epoch cr.grant_or_reply
  copies_kept_by_of_epoch t s n h (bodies.Nack y a b) w = copies_kept_by_nack t s n h y a b w
  copies_kept_by_of_epoch t s n h (bodies.Granted ino g mode) w =
      copies_kept_by_choice ask_of c lives es (with_session s t) (h.number == 0) _ _
      (λ e. copies_kept_by_granted ask_of c lives es t s ino g mode (w.up ino g mode refl)) (λ e. copies_kept_by_reply t s n h (bodies.Granted ino g mode) w)
  copies_kept_by_of_epoch t s n h (bodies.Demand ino g to) w = copies_kept_by_demand ask_of c lives es t s ino g to
  copies_kept_by_of_epoch t s n h body w = copies_kept_by_reply t s n h body w

  -- a newer epoch leaves the locks and the pages
  copies_kept_by_newer : (t : Turn) (s : ClientSession) (epoch : Epoch) → Keeps ask_of c lives es (with_session s t) (cr.newer_epoch (with_session s t) s epoch)
  unfolding cr.newer_epoch cr.follow_epoch locks.forget_demands
  copies_kept_by_newer t s epoch =
      let u : Turn = with_session (cr.in_epoch epoch s) (with_session s t) in
      copies_kept_by_choice ask_of c lives es (with_session s t) (cr.is_newer s epoch) _ _
      (λ h. copies_kept_by_sequence ask_of c lives es (with_session s t) u _ (copies_kept_by_like ask_of c lives es t s (cr.in_epoch epoch s) refl)
      (copies_kept_by_each ask_of c lives es (is_asked t.here.server) (answers.Uncertain s.epoch.0 epoch.0) u (λ last x op. record {})))
      (λ h. copies_kept_by_same ask_of c lives es (with_session s t))

  copies_kept_by_other : (t : Turn) (s : ClientSession) (epoch : Epoch) (body : Body) →
      Keeps ask_of c lives es (with_session s t) (cr.of_other_epoch (with_session s t) s epoch body)
  unfolding cr.of_other_epoch
  copies_kept_by_other t s epoch (bodies.Nack why.OtherEpoch a b) = copies_kept_by_newer t s epoch
  copies_kept_by_other t s epoch (bodies.Nack y a b) = copies_kept_by_same ask_of c lives es (with_session s t)
  copies_kept_by_other t s epoch body = copies_kept_by_same ask_of c lives es (with_session s t)

  copies_kept_by_with : (t : Turn) (s : ClientSession) (n : Stamp) (h : Header) (body : Body) → (h.epoch ≡ s.epoch.0 → ReplyOwed (LogAt t) t.here s h body) →
      Keeps ask_of c lives es (with_session s t) (cr.with_a_session (with_session s t) s n h body)
  unfolding cr.with_a_session
  copies_kept_by_with t s n h body w =
      copies_kept_by_choice ask_of c lives es (with_session s t) (h.epoch == s.epoch.0) _ _ (λ e. copies_kept_by_of_epoch t s n h body (w (eqb-true _ _ e)))
      (λ e. copies_kept_by_other t s (record { 0 = h.epoch }) body)

  -- a session begins without locks
  copies_kept_by_begin : (t : Turn) (epoch : Epoch) (stamp : Stamp) → t.here.session ≡ None → Keeps ask_of c lives es t (cr.begin_session t epoch stamp)
  unfolding cr.begin_session
  copies_kept_by_begin t epoch stamp e =
      let s : ClientSession = cr.new_session epoch stamp in
      let u : Turn = cr.begin_here s t in
      copies_kept_by_sequence ask_of c lives es t u _
      (record {
        keep = λ r. record {
          pages =
              λ ino p. subst (λ (o : Option ClientSession). PageOk (held_in o ino).mode (content (LogAt t) (file_at t.here.server ino) p) t.here.store ino p) e
              (r.pages ino p);
          right = r.right;
          asked = r.asked;
          fates = r.fates;
        };
        away = still _ _ _;
      })
      (copies_kept_by_lease ask_of c lives es u (lease.new_lease stamp))

  copies_kept_by_without : (t : Turn) (n : Stamp) (h : Header) (body : Body) → t.here.session ≡ None → Keeps ask_of c lives es t (cr.without_session t n h body)
  unfolding cr.without_session cr.welcome
  copies_kept_by_without t n h bodies.Welcome e = copies_kept_by_choice ask_of c lives es t (cr.is_timely t n (record { 0 = h.stamp })) _ t
      (λ x. copies_kept_by_begin t (record { 0 = h.epoch }) (record { 0 = h.stamp }) e) (λ x. copies_kept_by_same ask_of c lives es t)
  copies_kept_by_without t n h body e = copies_kept_by_same ask_of c lives es t

  -- a message keeps the copies
  pub copies_kept_by_receive : (n : Stamp) (h : Header) (body : Body) (t : Turn) → MessageOwed (LogAt t) t.here h body →
      Keeps ask_of c lives es t (cr.receive_at n h body t)
  unfolding cr.receive_at cr.by_session
  copies_kept_by_receive n h body t w =
      copies_kept_by_choice ask_of c lives es t (cr.is_received t n h) _ t
      (λ x. let p = and_true (h.from == server_node t.here.server) _ x in
      go (eqb-true _ _ p.0) (eqb-true _ _ (and_true (h.life == t.here.life.0) _ p.1).0) t.here.session refl) (λ x. copies_kept_by_same ask_of c lives es t)
    where
      go : h.from ≡ server_node t.here.server → h.life ≡ t.here.life.0 → (o : Option ClientSession) → t.here.session ≡ o →
          Keeps ask_of c lives es t (cr.by_session t n h body o)
      go f l None e = copies_kept_by_without t n h body e
      go f l (Some s) e =
          subst (λ u. Keeps ask_of c lives es u (cr.with_a_session u s n h body)) (sym (with_it ask_of c lives es t (Some s) e))
          (copies_kept_by_with t s n h body (λ g. w s e f l g))
