-- What a message does: condemning, renewing, the effects of replies, epochs, welcome, and hearing.
use Rattle.st_lemmas.proofs.Words
use Words.{◌≡◌, ℕ, ◌+◌, ◌<◌, ◌≤◌, Bool, true, false, List, [], ◌∷◌, ◌==◌, Option, Some, None, refl, sym, ap, ◌∙◌, subst, inl, inr, arith, if◌then◌else◌}
use Words.{ltb-true, map, nat_lt, is_some, eqb-true, PageNo, Stamp, Epoch, ExtentRow, Mode, AppAnswer, Body, Header, NameReply, Why, HeldLock, Request}
use Words.modes
use Words.answers
use Words.bodies
use Words.replies
use Words.why
use Words.ClientLocks as locks
use Words.ClientLocks.{lock_of, is_lock_on}
use Words.ClientLease as lease
use Words.ClientPages.{Store}
use Words.ClientState as st
use Words.ClientState.{ClientSession, Turn, with_session, answer_each, is_asked, fits, reasserts, is_request_of, file_asked}
use Words.Keys.{server_node}
use Words.ClientReplies as cr
use Words.Lookups.{if_true, if_false}
use Words.Tables.{and_true}
use Words.Truth.{not_both}
use Rattle.st_base.specs.Mode.{number_of, covers}
use Rattle.st_protocol.specs.Assoc.{Config, Lock, Msg, msg, In, Joined, Settled, Renews, Reduces, Adopts, Settles, Begins, Stays}
use Rattle.st_protocol.specs.Assoc as net
use Rattle.st_laws_refine.specs.Views.Messages.{Fine, shown, with_date, Shows}
use Rattle.st_laws_refine.specs.Views.Halves.{held_at, busy_in, client_of}
use Rattle.st_laws_refine.specs.Client.Invariants.{at, Beside, Outstanding, Quiet, KeptIn, Ready, Frame, Result, Goes}
use Rattle.st_laws_refine.proofs.Views.Moves.{one, one_to}
use Rattle.st_laws_refine.proofs.Client.Goes.{frame_then, frame_same, frame_more, said_both, waiting_both, ready_more, alive, goes_same, goes_then, if_goes}
use Rattle.st_laws_refine.proofs.Client.Goes.{if_within, ops_goes, each_goes, rests_goes}
use Rattle.st_laws_refine.proofs.Client.Replies.{lock_cut, told_filter, modes_filter, mode_found, wait_gone, granted_goes, demand_goes}

-- what of a reply its effect reads
abbrev Brings : ℕ → ℕ → ℕ → List Msg → Body → Type 0
Brings life epoch stamp hs (bodies.Granted ino g mode) = record { is : In (msg life epoch stamp (net.Granted ino g.0 (number_of mode))) hs; some : 1 ≤ number_of mode }
Brings life epoch stamp hs bodies.Reasserted = In (msg life epoch stamp net.Reasserted) hs
Brings life epoch stamp hs body = Unit {0}

-- what held of the request that a reply ended
record EndedOf (x : Store) (due : Bool) (file : Option ℕ) (asked : Body) : Type 0 where
  pub settled : reasserts asked ≡ false → due ≡ false
  pub quiet : (ino : ℕ) → st.asks_name asked ≡ true → file ≡ Some ino → busy_in x ino ≡ false

module _ (k : Config) (sv : Beside) (now : ℕ) (hs : List Msg) where
  pub condemn_goes : (t : Turn) (s : ClientSession) → Goes k sv now hs (with_session s t) (cr.condemn (with_session s t) s)
  unfolding cr.condemn lease.condemned
  condemn_goes t s =
      record {
        frame = frame_same _ _ _ _;
        go = λ N r. record {
          net = N;
          moves = Stays (at sv now (with_session s t) N);
          ready = record { terms = r.terms; born = r.born; lasts = r.lasts; said = r.said; kept = record { queue = r.kept.queue; asked = r.kept.asked; told = r.kept.told; modes = r.kept.modes; quiet = r.kept.quiet }; received = r.received };
        };
      }

  -- a counting reply ends the request, and may renew
  ended_goes : (t : Turn) (s : ClientSession) → Goes k sv now hs (with_session s t) (with_session (st.without_request s) t)
  ended_goes t s =
      record {
        frame = frame_same _ _ _ _;
        go = λ N r. record {
          net = N;
          moves = Stays (at sv now (with_session s t) N);
          ready = record { terms = r.terms; born = r.born; lasts = r.lasts; said = r.said; kept = record { queue = r.kept.queue; asked = record {}; told = r.kept.told; modes = r.kept.modes; quiet = record {} }; received = r.received };
        };
      }

  dated_goes : (t : Turn) (s : ClientSession) (stamp : Stamp) → In (msg t.here.life.0 s.epoch.0 stamp.0 net.Ack) hs → s.lease.date.0 < stamp.0 →
      Goes k sv now hs (with_session s t) (with_session (st.with_lease (lease.dated stamp s.lease) s) (cr.note_lease (lease.dated stamp s.lease) t))
  unfolding cr.note_lease lease.dated
  dated_goes t s stamp has lt =
      record {
        frame = frame_more _ _ _ _ _ (λ x M n. record {}) (λ P. record {});
        go = λ N r. record {
          net = N;
          moves = one (Renews (at sv now (with_session s t) N) stamp.0 (r.received _ has) (alive k sv now hs t s N r) lt) refl;
          ready =
              record {
                terms = r.terms;
                born = r.born;
                lasts = let y = r.lasts in omega arith;
                said = said_both t.id.0 t.here.server t.out _ N r.said (record {});
                kept = record { queue = r.kept.queue; asked = r.kept.asked; told = r.kept.told; modes = r.kept.modes; quiet = r.kept.quiet };
                received = r.received;
              };
        };
      }

  end_goes : (t : Turn) (s : ClientSession) (stamp : Stamp) → In (msg t.here.life.0 s.epoch.0 stamp.0 net.Ack) hs → Goes k sv now hs (with_session s t) (cr.end_request (with_session s t) s stamp)
  unfolding cr.end_request cr.note_renewal lease.renewed cr.note_lease
  end_goes t s stamp has = go (lease.is_renewal stamp s.lease) refl
    where
      u : ClientSession
      u = st.without_request s

      go : (b : Bool) → lease.is_renewal stamp s.lease ≡ b →
          Goes k sv now hs (with_session s t) (with_session (st.with_lease (if b then lease.dated stamp s.lease else s.lease) u) (if b then cr.note_lease (if b then lease.dated stamp s.lease else s.lease) (with_session s t) else with_session s t))
      go true e = goes_then k sv now hs (with_session s t) (with_session u t) _ (ended_goes t s) (noted (dated_goes t u stamp has (ltb-true _ _ (and_true _ _ e).1)))
        where
          noted : Goes k sv now hs (with_session u t) (with_session (st.with_lease (lease.dated stamp s.lease) u) (cr.note_lease (lease.dated stamp s.lease) t)) →
              Goes k sv now hs (with_session u t) (with_session (st.with_lease (lease.dated stamp s.lease) u) (cr.note_lease (lease.dated stamp s.lease) (with_session s t)))
          noted g = g
      go false e = ended_goes t s

  queued_goes : (t : Turn) (s : ClientSession) (n : Stamp) (ino : ℕ) (mode : Mode) → Goes k sv now hs (with_session s t) (cr.queued (with_session s t) s n ino mode)
  unfolding cr.queued cr.wait_unless_held cr.wait_told
  queued_goes t s n ino mode =
      if_within k sv now hs (with_session s t) (λ x. with_session x t) (covers (locks.mode_of s.locks ino) mode) _ _
      (λ h. goes_same k sv now hs (with_session s t)) (λ h. wait_gone k sv now hs t s _)

  -- what changes of the pages neither the dirty ones nor the writes
  extents_goes : (t : Turn) (s : ClientSession) (ino : ℕ) (rows : List ExtentRow) (asked : Body) → Goes k sv now hs (with_session s t) (cr.extents (with_session s t) s ino rows asked)
  unfolding cr.extents cr.learn
  extents_goes t s ino rows asked =
      if_goes k sv now hs (with_session s t) (cr.is_current s.locks asked) _ (with_session s t)
      (λ h. rests_goes k sv now hs (with_session s t) (cr.learned ino rows asked t.here.store) (λ i e. sym (learned_same ino rows asked t.here.store i) ∙ e)) (λ h. goes_same k sv now hs (with_session s t))
    where
      map_same : (ino : ℕ) (p : PageNo) (rows : List ExtentRow) (x : Store) → (i : ℕ) → busy_in (cr.learn_map ino p rows x) i ≡ busy_in x i
      map_same ino p [] x i = refl
      map_same ino p (r ∷ rs) x i = refl

      learned_same : (ino : ℕ) (rows : List ExtentRow) (asked : Body) (x : Store) → (i : ℕ) → busy_in (cr.learned ino rows asked x) i ≡ busy_in x i
      learned_same ino rows (bodies.Map i g p) x j = map_same ino p rows x j
      learned_same ino rows asked x j = refl

  -- a lock of an idle file goes, and its release is queued
  pub dropped_goes : (t : Turn) (s s2 : ClientSession) (ino : ℕ) (l : HeldLock) → lock_of s.locks ino ≡ Some l → busy_in t.here.store ino ≡ false → ((N : List Msg) → Ready k now hs (with_session s t) N → Joined (client_of sv.ended now (with_session s t).here) N) →
      s2 ≡ st.with_release ino l.g modes.None (st.with_cache (locks.drop_lock s.locks ino) s) → Goes k sv now hs (with_session s t) (with_session s2 t)
  unfolding locks.drop_lock
  dropped_goes t s s2 ino l is free joined same = subst (λ z. Goes k sv now hs (with_session s t) (with_session z t)) (sym same) (record { frame = frame_same _ _ _ _; go = go })
    where
      u : ClientSession
      u = st.with_release ino l.g modes.None (st.with_cache (locks.drop_lock s.locks ino) s)

      c : Msg
      c = msg t.here.life.0 s.epoch.0 0 (net.Released ino l.g.0 0)

      go : (N : List Msg) → Ready k now hs (with_session s t) N → Result k sv sv now hs (with_session s t) (with_session u t) N
      go N r =
          let some : 1 ≤ number_of l.mode = mode_found (is_lock_on ino) s.locks.rows l r.kept.modes is in
          let g : held_at (Some l) ≡ held_at (lock_of s.locks ino) = sym (ap held_at is) in
          let x = ready_more k now hs (with_session s t) N (c ∷ N) (λ x i. inr i) r in
          record {
            net = c ∷ N;
            moves =
                one_to (at sv now (with_session u t) (c ∷ N))
                (Reduces (at sv now (with_session s t) N) ino 0 (alive k sv now hs t s N r) (joined N r) free (subst (λ (m : Lock). 1 ≤ m.mode) g some) (omega arith) 0 (omega arith) (λ h. absurd (omega arith))) refl
                (λ j. record {
                  c = record (client_of sv.ended now (with_session s t).here) { held = λ d. sym (lock_cut s.locks.rows ino d) j };
                  s = sv.s;
                  net = msg t.here.life.0 s.epoch.0 0 (net.Released ino (sym (ap (λ (m : Lock). m.g) g) j) 0) ∷ N;
                });
            ready =
                record {
                  terms = x.terms;
                  born = x.born;
                  lasts = x.lasts;
                  said = x.said;
                  kept =
                      record {
                        queue = waiting_both _ _ s.releases _ (c ∷ N) x.kept.queue (record { one = inl refl; rest = record {} });
                        asked = x.kept.asked;
                        told = told_filter _ _ _ s.locks.demanded (c ∷ N) x.kept.told;
                        modes = modes_filter _ s.locks.rows x.kept.modes;
                        quiet = x.kept.quiet;
                      };
                  received = x.received;
                };
          }

  named_goes : (t : Turn) (s : ClientSession) (file : Option ℕ) (reply : NameReply) → s.due ≡ false → ((ino : ℕ) → file ≡ Some ino → busy_in t.here.store ino ≡ false) → Goes k sv now hs (with_session s t) (cr.named (with_session s t) s file reply)
  unfolding cr.named cr.named_as cr.removed cr.drop_held cr.drop_lock answer_each
  named_goes t s file reply du quiet =
      goes_then k sv now hs (with_session s t) (with_session s t2) _ (each_goes k sv now hs (is_asked t.here.server) (cr.name_answer reply) (with_session s t)) (go reply)
    where
      t2 : Turn
      t2 = answer_each (is_asked t.here.server) (cr.name_answer reply) t

      lock : (ino : ℕ) → file ≡ Some ino → (o : Option HeldLock) → lock_of s.locks ino ≡ o → Goes k sv now hs (with_session s t2) (cr.drop_held (with_session s t2) s ino o)
      lock ino f None e = goes_same k sv now hs (with_session s t2)
      lock ino f (Some l) e =
          dropped_goes t2 s _ ino l e (quiet ino f) (λ N r. Settled du) refl

      gone : (o : Option ℕ) → file ≡ o → Goes k sv now hs (with_session s t2) (cr.removed (with_session s t2) s o)
      gone None f = goes_same k sv now hs (with_session s t2)
      gone (Some ino) f = lock ino f (lock_of s.locks ino) refl

      go : (y : NameReply) → Goes k sv now hs (with_session s t2) (cr.named_as (with_session s t2) s file y)
      go (replies.Ino ino) = gone file refl
      go y = goes_same k sv now hs (with_session s t2)

  refuse_page_goes : (t : Turn) (a : AppAnswer) (file : Option ℕ) (p : Option PageNo) → Goes k sv now hs t (cr.refuse_page t a file p)
  unfolding cr.refuse_page
  refuse_page_goes t a (Some ino) (Some p) = each_goes k sv now hs (cr.writes_on t ino p) a t
  refuse_page_goes t a None p = goes_same k sv now hs t
  refuse_page_goes t a (Some ino) None = goes_same k sv now hs t

  refuse_file_goes : (t : Turn) (a : AppAnswer) (file : Option ℕ) → Goes k sv now hs t (cr.refuse_file t a file)
  unfolding cr.refuse_file
  refuse_file_goes t a None = goes_same k sv now hs t
  refuse_file_goes t a (Some ino) = each_goes k sv now hs (cr.works_on t ino) a t

  refuse_as_goes : (t : Turn) (w : Why) (a b : ℕ) (file : Option ℕ) (asked : Body) → Goes k sv now hs t (cr.refuse_as t w a b file asked)
  unfolding cr.refuse_as cr.refuse_holder
  refuse_as_goes t why.NoFile a b file asked = refuse_file_goes t answers.NoFile file
  refuse_as_goes t why.TooManyLocks a b file asked = refuse_file_goes t answers.TooManyLocks file
  refuse_as_goes t why.NoSpace a b file asked = refuse_page_goes t (answers.NoSpace a b) file (st.page_asked asked)
  refuse_as_goes t why.NotHolder a b file asked = if_goes k sv now hs t (st.asks_cut_or_remove asked) _ t (λ h. each_goes k sv now hs (is_asked t.here.server) answers.NotHolder t) (λ h. goes_same k sv now hs t)
  refuse_as_goes t other a b file asked = goes_same k sv now hs t

  refused_goes : (t : Turn) (w : Why) (a b : ℕ) (file : Option ℕ) (asked : Body) → Goes k sv now hs t (cr.refused t w a b file asked)
  unfolding cr.refused cr.leave_stuck
  refused_goes t w a b file asked =
      let u : Turn = cr.refuse_as t w a b file asked in
      goes_then k sv now hs t u _ (refuse_as_goes t w a b file asked) (ops_goes k sv now hs u (map (cr.stuck u) u.operations))

  reasserted_goes : (t : Turn) (s : ClientSession) (stamp : ℕ) → In (msg t.here.life.0 s.epoch.0 stamp net.Reasserted) hs → s.requests.asked ≡ None → Goes k sv now hs (with_session s t) (cr.reasserted (with_session s t) s)
  unfolding cr.reasserted
  reasserted_goes t s stamp has no_one =
      record {
        frame = frame_same _ _ _ _;
        go = λ N r. record {
          net = N;
          moves = one (Settles (at sv now (with_session s t) N) stamp (r.received _ has) (alive k sv now hs t s N r)) refl;
          ready =
              record {
                terms = r.terms;
                born = r.born;
                lasts = r.lasts;
                said = r.said;
                kept = record { queue = r.kept.queue; asked = subst (λ o. Outstanding t.here.life.0 s.epoch.0 false o N) (sym no_one) (record {}); told = r.kept.told; modes = r.kept.modes; quiet = r.kept.quiet };
                received = r.received;
              };
        };
      }

  effect_goes : (t : Turn) (s : ClientSession) (n : Stamp) (stamp : ℕ) (reply : Body) (file : Option ℕ) (asked : Body) → Brings t.here.life.0 s.epoch.0 stamp hs reply → fits reply asked ≡ true → EndedOf t.here.store s.due file asked → s.requests.asked ≡ None →
      Goes k sv now hs (with_session s t) (cr.effect (with_session s t) s n reply file asked)
  unfolding cr.effect cr.acknowledged
  effect_goes t s n stamp (bodies.Granted ino g mode) file asked b f q a = granted_goes k sv now hs t s stamp ino g mode b.is b.some
  effect_goes t s n stamp (bodies.Queued ino mode) file asked b f q a = queued_goes t s n ino mode
  effect_goes t s n stamp (bodies.Extents ino rows) file asked b f q a = extents_goes t s ino rows asked
  effect_goes t s n stamp bodies.Ack file asked b f q a = each_goes k sv now hs (is_asked t.here.server) answers.Cut (with_session s t)
  effect_goes t s n stamp (bodies.Named reply) file asked b f q a = named_goes t s file reply (q.settled (no_reassert asked f)) (λ ino e. q.quiet ino f e)
    where
      no_reassert : (asked : Body) → st.asks_name asked ≡ true → reasserts asked ≡ false
      no_reassert (bodies.Reassert rows) e = cc
      no_reassert asked e = refl
  effect_goes t s n stamp bodies.Reasserted file asked b f q a = reasserted_goes t s stamp b a
  effect_goes t s n stamp (bodies.Nack w x y) file asked b f q a = refused_goes (with_session s t) w x y file asked
  effect_goes t s n stamp reply file asked b f q a = goes_same k sv now hs (with_session s t)

pub note_here : (t : Turn) (s : ClientSession) (stamp : Stamp) → (cr.note_renewal t s stamp).here ≡ t.here
unfolding cr.note_renewal cr.note_lease
note_here t s stamp = go (lease.is_renewal stamp s.lease)
  where
    go : (b : Bool) → (if b then cr.note_lease (lease.renewed stamp s.lease) t else t).here ≡ t.here
    go true = refl
    go false = refl

dated_shows : (n life epoch stamp : ℕ) (bs : List net.Body) (hs : List Msg) → (n == 0) ≡ false → Shows life epoch stamp (with_date n bs) hs → Shows life epoch stamp (net.Ack ∷ bs) hs
unfolding with_date
dated_shows n life epoch stamp bs hs e w = subst (λ x. Shows life epoch stamp x hs) (if_false (n == 0) bs (net.Ack ∷ bs) e) w

plain_shows : (n life epoch stamp : ℕ) (bs : List net.Body) (hs : List Msg) → (n == 0) ≡ true → Shows life epoch stamp (with_date n bs) hs → Shows life epoch stamp bs hs
unfolding with_date
plain_shows n life epoch stamp bs hs e w = subst (λ x. Shows life epoch stamp x hs) (if_true (n == 0) bs (net.Ack ∷ bs) e) w

abbrev FrameOf : Turn → Turn → Type 1
FrameOf t u = Frame t.id.0 u.id.0 t.here.server u.here.server t.config u.config t.out u.out

module _ (k : Config) (sv : Beside) (now : ℕ) (hs : List Msg) where
  reply_goes : (t : Turn) (s : ClientSession) (n stamp : Stamp) (reply asked : Body) → In (msg t.here.life.0 s.epoch.0 stamp.0 net.Ack) hs → Brings t.here.life.0 s.epoch.0 stamp.0 hs reply → fits reply asked ≡ true → EndedOf t.here.store s.due (file_asked s.cutting asked) asked →
      Goes k sv now hs (with_session s t) (cr.reply_to (with_session s t) s n stamp reply asked)
  unfolding cr.reply_to cr.end_request
  reply_goes t s n stamp reply asked acks b f q =
      goes_then k sv now hs (with_session s t) (with_session u v) _ (end_goes k sv now hs t s stamp acks)
      (effect_goes k sv now hs v u n stamp.0 reply (file_asked s.cutting asked) asked
      (subst (λ (a : st.Association). Brings a.life.0 s.epoch.0 stamp.0 hs reply) (sym (note_here (with_session s t) s stamp)) b) f
      (subst (λ (a : st.Association). EndedOf a.store s.due (file_asked s.cutting asked) asked) (sym (note_here (with_session s t) s stamp)) q) refl)
    where
      u : ClientSession
      u = cr.ended_by stamp s

      v : Turn
      v = cr.note_renewal (with_session s t) s stamp

  count_goes : (t : Turn) (s : ClientSession) (n stamp : Stamp) (reply asked : Body) → In (msg t.here.life.0 s.epoch.0 stamp.0 net.Ack) hs → Brings t.here.life.0 s.epoch.0 stamp.0 hs reply → fits reply asked ≡ true → EndedOf t.here.store s.due (file_asked s.cutting asked) asked →
      Goes k sv now hs (with_session s t) (cr.count_reply (with_session s t) s n stamp reply asked)
  unfolding cr.count_reply
  count_goes t s n stamp reply asked acks b f q =
      if_goes k sv now hs (with_session s t) (cr.refuses_reassertion reply asked) _ _ (λ h. condemn_goes k sv now hs t s) (λ h. reply_goes t s n stamp reply asked acks b f q)

  -- what held of the outstanding request
  ended_of : (life : ℕ) (x : Store) (s : ClientSession) (q : Request) (N : List Msg) → s.requests.asked ≡ Some q → KeptIn life x s N → EndedOf x s.due (file_asked s.cutting q.body) q.body
  ended_of life x s q N e r = record { settled = (subst (λ o. Outstanding life s.epoch.0 s.due o N) e r.asked).settled; quiet = quiet q.body }
    where
      by_file : (ino : ℕ) → s.cutting ≡ Some ino → busy_in x ino ≡ false
      by_file ino f = subst (λ o. Quiet x o) f r.quiet

      quiet : (asked : Body) (ino : ℕ) → st.asks_name asked ≡ true → file_asked s.cutting asked ≡ Some ino → busy_in x ino ≡ false
      quiet (bodies.Name op) ino n f = by_file ino f
      quiet asked ino n f = cc

  -- of only the frame: it needs nothing of what holds
  named_frame : (t : Turn) (s : ClientSession) (file : Option ℕ) (reply : NameReply) → FrameOf (with_session s t) (cr.named (with_session s t) s file reply)
  unfolding cr.named cr.named_as cr.removed cr.drop_held cr.drop_lock answer_each
  named_frame t s file reply = frame_then _ _ _ _ _ _ _ _ _ _ _ _ (each_goes k sv now hs (is_asked t.here.server) (cr.name_answer reply) (with_session s t)).frame (go reply)
    where
      t2 : Turn
      t2 = answer_each (is_asked t.here.server) (cr.name_answer reply) t

      lock : (ino : ℕ) (o : Option HeldLock) → FrameOf (with_session s t2) (cr.drop_held (with_session s t2) s ino o)
      lock ino None = frame_same _ _ _ _
      lock ino (Some l) = frame_same _ _ _ _

      gone : (o : Option ℕ) → FrameOf (with_session s t2) (cr.removed (with_session s t2) s o)
      gone None = frame_same _ _ _ _
      gone (Some ino) = lock ino (lock_of s.locks ino)

      go : (y : NameReply) → FrameOf (with_session s t2) (cr.named_as (with_session s t2) s file y)
      go (replies.Ino ino) = gone file
      go y = frame_same _ _ _ _

  effect_frame : (t : Turn) (s : ClientSession) (n : Stamp) (stamp : ℕ) (reply : Body) (file : Option ℕ) (asked : Body) → Brings t.here.life.0 s.epoch.0 stamp hs reply → FrameOf (with_session s t) (cr.effect (with_session s t) s n reply file asked)
  unfolding cr.effect cr.acknowledged cr.reasserted
  effect_frame t s n stamp (bodies.Granted ino g mode) file asked b = (granted_goes k sv now hs t s stamp ino g mode b.is b.some).frame
  effect_frame t s n stamp (bodies.Queued ino mode) file asked b = (queued_goes k sv now hs t s n ino mode).frame
  effect_frame t s n stamp (bodies.Extents ino rows) file asked b = (extents_goes k sv now hs t s ino rows asked).frame
  effect_frame t s n stamp bodies.Ack file asked b = (each_goes k sv now hs (is_asked t.here.server) answers.Cut (with_session s t)).frame
  effect_frame t s n stamp (bodies.Named reply) file asked b = named_frame t s file reply
  effect_frame t s n stamp bodies.Reasserted file asked b = frame_same _ _ _ _
  effect_frame t s n stamp (bodies.Nack w x y) file asked b = (refused_goes k sv now hs (with_session s t) w x y file asked).frame
  effect_frame t s n stamp reply file asked b = frame_same _ _ _ _

  count_frame : (t : Turn) (s : ClientSession) (n stamp : Stamp) (reply asked : Body) → In (msg t.here.life.0 s.epoch.0 stamp.0 net.Ack) hs → Brings t.here.life.0 s.epoch.0 stamp.0 hs reply → FrameOf (with_session s t) (cr.count_reply (with_session s t) s n stamp reply asked)
  unfolding cr.count_reply cr.reply_to cr.end_request
  count_frame t s n stamp reply asked acks b = go (cr.refuses_reassertion reply asked)
    where
      u : ClientSession
      u = cr.ended_by stamp s

      v : Turn
      v = cr.note_renewal (with_session s t) s stamp

      other : FrameOf (with_session s t) (cr.effect (with_session u v) u n reply (file_asked s.cutting asked) asked)
      other =
          frame_then _ _ _ _ _ _ _ _ _ _ _ _ (end_goes k sv now hs t s stamp acks).frame
          (effect_frame v u n stamp.0 reply (file_asked s.cutting asked) asked (subst (λ (a : st.Association). Brings a.life.0 s.epoch.0 stamp.0 hs reply) (sym (note_here (with_session s t) s stamp)) b))

      go : (c : Bool) → FrameOf (with_session s t) (if c then cr.condemn (with_session s t) s else cr.effect (with_session u v) u n reply (file_asked s.cutting asked) asked)
      go true = (condemn_goes k sv now hs t s).frame
      go false = other

  request_goes : (t : Turn) (s : ClientSession) (n : Stamp) (number : ℕ) (stamp : Stamp) (reply : Body) (q : Request) → s.requests.asked ≡ Some q → In (msg t.here.life.0 s.epoch.0 stamp.0 net.Ack) hs → Brings t.here.life.0 s.epoch.0 stamp.0 hs reply →
      Goes k sv now hs (with_session s t) (cr.by_request (with_session s t) s n number stamp reply q)
  unfolding cr.by_request
  request_goes t s n number stamp reply q e acks b =
      if_goes k sv now hs (with_session s t) (cr.is_counting number reply q) _ (with_session s t)
      (λ h. record { frame = count_frame t s n stamp reply q.body acks b; go = λ N r. (count_goes t s n stamp reply q.body acks b (and_true (is_request_of number q) _ h).1 (ended_of t.here.life.0 t.here.store s q N e r.kept)).go N r })
      (λ h. goes_same k sv now hs (with_session s t))

  counted_goes : (t : Turn) (s : ClientSession) (n : Stamp) (h : Header) (reply : Body) → In (msg t.here.life.0 s.epoch.0 h.stamp net.Ack) hs → Brings t.here.life.0 s.epoch.0 h.stamp hs reply → Goes k sv now hs (with_session s t) (cr.reply_of (with_session s t) s n h reply)
  unfolding cr.reply_of cr.counted
  counted_goes t s n h reply acks b = go s.requests.asked refl
    where
      go : (o : Option Request) → s.requests.asked ≡ o → Goes k sv now hs (with_session s t) (cr.counted (with_session s t) s n h.number (record { 0 = h.stamp }) reply o)
      go None e = goes_same k sv now hs (with_session s t)
      go (Some q) e = request_goes t s n h.number (record { 0 = h.stamp }) reply q e acks b

  -- what isn't a reply
  no_reply : (t : Turn) (s : ClientSession) (n : Stamp) (h : Header) (reply : Body) → ((asked : Body) → fits reply asked ≡ false) → Goes k sv now hs (with_session s t) (cr.reply_of (with_session s t) s n h reply)
  unfolding cr.reply_of cr.counted cr.by_request
  no_reply t s n h reply f = go s.requests.asked
    where
      go : (o : Option Request) → Goes k sv now hs (with_session s t) (cr.counted (with_session s t) s n h.number (record { 0 = h.stamp }) reply o)
      go None = goes_same k sv now hs (with_session s t)
      go (Some q) = if_goes k sv now hs (with_session s t) (cr.is_counting h.number reply q) _ (with_session s t)
          (λ e. absurd (not_both (fits reply q.body) (and_true (is_request_of h.number q) _ e).1 (f q.body))) (λ e. goes_same k sv now hs (with_session s t))

  nack_goes : (t : Turn) (s : ClientSession) (n : Stamp) (h : Header) (w : Why) (a b : ℕ) → Shows t.here.life.0 s.epoch.0 h.stamp (shown h.number (bodies.Nack w a b)) hs → Goes k sv now hs (with_session s t) (cr.nack (with_session s t) s n h w a b)
  nack_goes t s n h why.Suspect a b v = condemn_goes k sv now hs t s
  nack_goes t s n h why.NoSession a b v = condemn_goes k sv now hs t s
  nack_goes t s n h why.OtherEpoch a b v = goes_same k sv now hs (with_session s t)
  nack_goes t s n h why.Grace a b v = goes_same k sv now hs (with_session s t)
  nack_goes t s n h why.GraceOver a b v = condemn_goes k sv now hs t s
  nack_goes t s n h why.Conflict a b v = condemn_goes k sv now hs t s
  nack_goes t s n h why.NotHolder a b v = counted_goes t s n h (bodies.Nack why.NotHolder a b) v.one (record {})
  nack_goes t s n h why.NoFile a b v = counted_goes t s n h (bodies.Nack why.NoFile a b) v.one (record {})
  nack_goes t s n h why.NoSpace a b v = counted_goes t s n h (bodies.Nack why.NoSpace a b) v.one (record {})
  nack_goes t s n h why.TooManyLocks a b v = counted_goes t s n h (bodies.Nack why.TooManyLocks a b) v.one (record {})

  of_epoch_goes : (t : Turn) (s : ClientSession) (n : Stamp) (h : Header) (body : Body) → Fine body → Shows t.here.life.0 s.epoch.0 h.stamp (shown h.number body) hs → Goes k sv now hs (with_session s t) (cr.of_epoch (with_session s t) s n h body)
  unfolding cr.of_epoch cr.grant_or_reply
  of_epoch_goes t s n h (bodies.Nack w a b) f v = nack_goes t s n h w a b v
  of_epoch_goes t s n h (bodies.Granted ino g mode) f v =
      if_goes k sv now hs (with_session s t) (h.number == 0) _ _
      (λ e. granted_goes k sv now hs t s h.stamp ino g mode (plain_shows h.number _ _ _ _ hs e v).one f)
      (λ e. let w = dated_shows h.number _ _ _ _ hs e v in counted_goes t s n h (bodies.Granted ino g mode) w.one (record { is = w.rest.one; some = f }))
  of_epoch_goes t s n h (bodies.Demand ino g to) f v = demand_goes k sv now hs t s h.stamp ino g to v.one
  of_epoch_goes t s n h bodies.Ack f v = counted_goes t s n h bodies.Ack v.one (record {})
  of_epoch_goes t s n h (bodies.Queued ino mode) f v = counted_goes t s n h (bodies.Queued ino mode) v.one (record {})
  of_epoch_goes t s n h (bodies.Extents ino rows) f v = counted_goes t s n h (bodies.Extents ino rows) v.one (record {})
  of_epoch_goes t s n h (bodies.Named reply) f v = counted_goes t s n h (bodies.Named reply) v.one (record {})
  of_epoch_goes t s n h bodies.Reasserted f v = counted_goes t s n h bodies.Reasserted v.one v.rest.one
  of_epoch_goes t s n h body f v = no_reply t s n h body (λ q. refl)

  -- a newer epoch
  follow_goes : (t : Turn) (s : ClientSession) (stamp : ℕ) (epoch : Epoch) → In (msg t.here.life.0 epoch.0 stamp net.OfOtherEpoch) hs → s.epoch.0 < epoch.0 → Goes k sv now hs (with_session s t) (cr.follow_epoch (with_session s t) s epoch)
  unfolding cr.follow_epoch locks.forget_demands
  follow_goes t s stamp epoch has lt =
      goes_then k sv now hs (with_session s t) (with_session (cr.in_epoch epoch s) t) _
      (record {
        frame = frame_same _ _ _ _;
        go = λ N r. record {
          net = N;
          moves = one (Adopts (at sv now (with_session s t) N) stamp epoch.0 (r.received _ has) (alive k sv now hs t s N r) lt) refl;
          ready = record { terms = r.terms; born = r.born; lasts = r.lasts; said = r.said; kept = record { queue = record {}; asked = record {}; told = record {}; modes = r.kept.modes; quiet = record {} }; received = r.received };
        };
      })
      (each_goes k sv now hs (is_asked t.here.server) (answers.Uncertain s.epoch.0 epoch.0) (with_session (cr.in_epoch epoch s) t))

  other_goes : (t : Turn) (s : ClientSession) (h : Header) (body : Body) → Shows t.here.life.0 h.epoch h.stamp (shown h.number body) hs → Goes k sv now hs (with_session s t) (cr.of_other_epoch (with_session s t) s (record { 0 = h.epoch }) body)
  unfolding cr.of_other_epoch cr.newer_epoch
  other_goes t s h (bodies.Nack why.OtherEpoch a b) v =
      if_goes k sv now hs (with_session s t) (cr.is_newer s (record { 0 = h.epoch })) _ (with_session s t)
      (λ e. follow_goes t s h.stamp (record { 0 = h.epoch }) v.one (ltb-true _ _ (and_true (nat_lt s.epoch.0 h.epoch) _ e).0)) (λ e. goes_same k sv now hs (with_session s t))
  other_goes t s h (bodies.Nack w a b) v = goes_same k sv now hs (with_session s t)
  other_goes t s h body v = goes_same k sv now hs (with_session s t)

  session_goes : (t : Turn) (s : ClientSession) (n : Stamp) (h : Header) (body : Body) → Fine body → Shows t.here.life.0 h.epoch h.stamp (shown h.number body) hs → Goes k sv now hs (with_session s t) (cr.with_a_session (with_session s t) s n h body)
  unfolding cr.with_a_session
  session_goes t s n h body f v =
      if_goes k sv now hs (with_session s t) (h.epoch == s.epoch.0) _ _
      (λ e. of_epoch_goes t s n h body f (subst (λ x. Shows t.here.life.0 x h.stamp (shown h.number body) hs) (eqb-true _ _ e) v)) (λ e. other_goes t s h body v)

  -- without a session
  abbrev no_session : Turn → Turn
  no_session t = record t { here = record t.here { session = None } }

  begin_goes : (t : Turn) (stamp : Stamp) (epoch : Epoch) → In (msg t.here.life.0 epoch.0 stamp.0 net.Welcome) hs → now < stamp.0 + t.config.lease → Goes k sv now hs (no_session t) (cr.begin_session (no_session t) epoch stamp)
  unfolding cr.begin_session cr.note_lease
  begin_goes t stamp epoch has lt =
      record {
        frame = frame_more _ _ _ _ _ (λ x M n. record {}) (λ P. record {});
        go = λ N r.
            let le : now < stamp.0 + k.lease = subst (λ n. now < stamp.0 + n) r.terms lt in
            record {
              net = N;
              moves = one (Begins (at sv now (no_session t) N) stamp.0 epoch.0 (r.received _ has) refl le) refl;
              ready =
                  record {
                    terms = r.terms;
                    born = r.born;
                    lasts = le;
                    said = said_both t.id.0 t.here.server t.out _ N r.said (record {});
                    kept = record { queue = record {}; asked = record {}; told = record {}; modes = record {}; quiet = record {} };
                    received = r.received;
                  };
            };
      }

  none_goes : (t : Turn) (n : Stamp) (h : Header) (body : Body) → n.0 ≡ now → Shows t.here.life.0 h.epoch h.stamp (shown h.number body) hs → Goes k sv now hs (no_session t) (cr.without_session (no_session t) n h body)
  unfolding cr.without_session cr.welcome
  none_goes t n h bodies.Welcome e v =
      if_goes k sv now hs (no_session t) (cr.is_timely (no_session t) n (record { 0 = h.stamp })) _ (no_session t)
      (λ x. begin_goes t (record { 0 = h.stamp }) (record { 0 = h.epoch }) v.one (subst (λ m. m < h.stamp + t.config.lease) e (ltb-true _ _ (and_true (is_some t.here.greeting) _ x).1)))
      (λ x. goes_same k sv now hs (no_session t))
  none_goes t n h body e v = goes_same k sv now hs (no_session t)

  -- receiving, at a server
  pub receive_goes : (t : Turn) (n : Stamp) (h : Header) (body : Body) → n.0 ≡ now → (h.from ≡ server_node t.here.server → Fine body) → (h.from ≡ server_node t.here.server → Shows h.life h.epoch h.stamp (shown h.number body) hs) → Goes k sv now hs t (cr.receive_at n h body t)
  unfolding cr.receive_at cr.by_session
  receive_goes t n h body e f v =
      if_goes k sv now hs t (cr.is_received t n h) _ t
      (λ x. let p = and_true (h.from == server_node t.here.server) _ x in
      let w = v (eqb-true _ _ p.0) in
      let l = eqb-true _ _ (and_true (h.life == t.here.life.0) _ p.1).0 in
      go (f (eqb-true _ _ p.0)) t.here.session refl (subst (λ y. Shows y h.epoch h.stamp (shown h.number body) hs) l w))
      (λ x. goes_same k sv now hs t)
    where
      with_it : (o : Option ClientSession) → t.here.session ≡ o → t ≡ record t { here = record t.here { session = o } }
      with_it o q = λ j. record t { here = record t.here { session = q j } }

      go : Fine body → (o : Option ClientSession) → t.here.session ≡ o → Shows t.here.life.0 h.epoch h.stamp (shown h.number body) hs → Goes k sv now hs t (cr.by_session t n h body o)
      go f None q w = subst (λ u. Goes k sv now hs u (cr.by_session u n h body None)) (sym (with_it None q)) (none_goes t n h body e w)
      go f (Some s) q w = subst (λ u. Goes k sv now hs u (cr.by_session u n h body (Some s))) (sym (with_it (Some s) q)) (session_goes t s n h body f w)
