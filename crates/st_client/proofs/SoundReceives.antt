-- A message leaves all that a client keeps and sends in the ranges of messages.
use Rattle.st_lemmas.proofs.Words
use Words.{◌≡◌, ℕ, ◌^◌, ◌<◌, ◌≤◌, true, false, ◌&&◌, ◌==◌, refl, sym, ap, ◌∙◌, arith, Option, Some, None, Epoch, GrantNo, PageNo, Stamp, Mode, AppAnswer, Body}
use Words.{Header, NameReply, Why, Asked, HeldLock, Operation, Request}
use Words.modes
use Words.Tables.{and_true, and_both}
use Words.answers
use Words.bodies
use Words.replies.{Ino}
use Words.why
use Words.Ranges.{is_body, is_grant, is_header, is_ino, is_mode}
use Words.Kinds.{allows, kind_of_body}
use Words.stages.{Stuck}
use Words.ClientLease.{ClientLease, condemned, is_renewal, new_lease, renewed}
use Words.ClientLocks as locks
use Words.ClientReplies.{acknowledged, begin_here, begin_session, by_request, by_session, condemn, count_reply, counted, demand, demand_as, demand_by}
use Words.ClientReplies.{drop_held, drop_lock, effect, end_request, ended_by, extents, follow_epoch, grant, grant_or_reply, granted, receive_at, in_epoch}
use Words.ClientReplies.{is_counting, is_current, is_received, is_newer, is_timely, learn, leave_stuck, nack, name_answer, named, named_as, new_session}
use Words.ClientReplies.{newer_epoch, note_lease, note_renewal, of_epoch, of_other_epoch, queued, reasserted, refuse_as, refuse_file, refuse_holder}
use Words.ClientReplies.{refuse_page, refused, refused_in, refuses_reassertion, release_unheld, removed, reply_of, reply_to, observe_demand, stuck, wait_told}
use Words.ClientReplies.{wait_unless_held, welcome, with_a_session, without_session}
use Words.ClientState.{ClientSession, Turn, answer_each, asks_cut_or_remove, at_stage, file_asked, forget_wait, is_asked, with_cache, with_lease, with_release}
use Words.ClientState.{with_session}
use Words.Truth.{if_either}
use Rattle.st_client.proofs.SoundLists.{all_map}
use Rattle.st_client.proofs.SoundLocks.{cache_fit, demand_sound, drop_sound, grant_fit, lock_parts, release_fit, unheld_fit}
use Rattle.st_client.proofs.SoundMessages.{Fit, FitIn, FitSession, epoch_in, held_sound, puts_fit, says_fit, seen_header, sends_fit, told_fit}
use Rattle.st_client.specs.Invariants.{is_sound_operation}
use Rattle.st_messages.specs.declared.kind.Need.TheVariants.{Positive}
use Rattle.st_rules.specs.declared.client.Asked.TheVariants.{Reduce, NotHeld, Stale}

module _ (most : ℕ) (low : 1 ≤ most) (high : most < 2 ^ 64) where
  lease_fit : (l : ClientLease) (t : Turn) → Fit most t → Fit most (note_lease l t)
  unfolding note_lease
  lease_fit l t h = says_fit most t _ refl h

  begin_fit : (t : Turn) (epoch : Epoch) (stamp : Stamp) → allows Positive epoch.0 ≡ true → Fit most t → Fit most (begin_session t epoch stamp)
  unfolding begin_session
  begin_fit t epoch stamp e h =
      lease_fit (new_lease stamp) (begin_here (new_session epoch stamp) t)
      (record {
        id = h.id;
        here =
            record {
              server = h.here.server;
              first = h.here.first;
              life = h.here.life;
              session = record { sound = record { epoch = e; next = omega arith; asked = refl; locks = record { rows = refl; few = omega arith; limit = omega arith; demanded = refl }; releases = refl }; room = low };
            };
        operations = h.operations;
        out = h.out;
      })

  welcome_fit : (t : Turn) (now : Stamp) (epoch : Epoch) (stamp : Stamp) → allows Positive epoch.0 ≡ true → Fit most t → Fit most (welcome t now epoch stamp)
  unfolding welcome
  welcome_fit t now epoch stamp e h = if_either (Fit most) (is_timely t now stamp) (begin_session t epoch stamp) t (begin_fit t epoch stamp e h) h

  without_fit : (t : Turn) (now : Stamp) (m : Header) (body : Body) → is_header (kind_of_body body) m ≡ true → Fit most t → Fit most (without_session t now m body)
  unfolding without_session
  without_fit t now m bodies.Welcome e h = welcome_fit t now (record { 0 = m.epoch }) (record { 0 = m.stamp }) (epoch_in _ m e) h
  without_fit t now m body e h = h

  -- Other epochs.

  follow_fit : (t : Turn) (s : ClientSession) (epoch : Epoch) → allows Positive epoch.0 ≡ true → FitSession most s → Fit most t → Fit most (follow_epoch t s epoch)
  unfolding follow_epoch locks.forget_demands
  follow_fit t s epoch e l h =
      told_fit most (is_asked t.here.server) (answers.Uncertain s.epoch.0 epoch.0) (with_session (in_epoch epoch s) t)
      (puts_fit most t (in_epoch epoch s)
      (record {
        sound = record { epoch = e; next = omega arith; asked = refl; locks = record { rows = l.sound.locks.rows; few = l.sound.locks.few; limit = l.sound.locks.limit; demanded = refl }; releases = refl };
        room = low;
      }) h)

  newer_fit : (t : Turn) (s : ClientSession) (epoch : Epoch) → allows Positive epoch.0 ≡ true → FitSession most s → Fit most t → Fit most (newer_epoch t s epoch)
  unfolding newer_epoch
  newer_fit t s epoch e l h = if_either (Fit most) (is_newer s epoch) (follow_epoch t s epoch) t (follow_fit t s epoch e l h) h

  refused_in_fit : (t : Turn) (s : ClientSession) (epoch : Epoch) (w : Why) → allows Positive epoch.0 ≡ true → FitSession most s → Fit most t → Fit most (refused_in t s epoch w)
  refused_in_fit t s epoch why.OtherEpoch e l h = newer_fit t s epoch e l h
  refused_in_fit t s epoch w e l h = h

  other_fit : (t : Turn) (s : ClientSession) (m : Header) (body : Body) → is_header (kind_of_body body) m ≡ true → FitSession most s → Fit most t →
      Fit most (of_other_epoch t s (record { 0 = m.epoch }) body)
  unfolding of_other_epoch
  other_fit t s m (bodies.Nack w a b) e l h = refused_in_fit t s (record { 0 = m.epoch }) w (epoch_in _ m e) l h
  other_fit t s m body e l h = h

  -- Effects of replies.

  condemn_fit : (t : Turn) (s : ClientSession) → FitSession most s → Fit most t → Fit most (condemn t s)
  unfolding condemn
  condemn_fit t s l h = puts_fit most t (with_lease (condemned s.lease) s) l h

  granted_fit : (t : Turn) (s : ClientSession) (ino : ℕ) (g : GrantNo) (mode : Mode) → (is_ino ino && (is_grant g && is_mode 1 2 mode)) ≡ true → FitSession most s → Fit most t →
      Fit most (granted t s ino g mode)
  unfolding granted
  granted_fit t s ino g mode e l h =
      let p = and_true (is_ino ino) (is_grant g && is_mode 1 2 mode) e in
      let q = and_true (is_grant g) (is_mode 1 2 mode) p.1 in
      puts_fit most t (grant (forget_wait ino s) ino g mode) (grant_fit most (forget_wait ino s) ino g mode p.0 q.0 q.1 l) h

  queued_fit : (t : Turn) (s : ClientSession) (now : Stamp) (ino : ℕ) (mode : Mode) → FitSession most s → Fit most t → Fit most (queued t s now ino mode)
  unfolding queued wait_unless_held wait_told
  queued_fit t s now ino mode l h = puts_fit most t (wait_unless_held s ino mode now) (if_either (FitSession most) _ s (wait_told s ino mode now) l l) h

  extents_fit : (t : Turn) (s : ClientSession) (ino : ℕ) (rows : _) (asked : Body) → Fit most t → Fit most (extents t s ino rows asked)
  unfolding extents learn
  extents_fit t s ino rows asked h = if_either (Fit most) (is_current s.locks asked) (learn t ino rows asked) t h h

  held_fit : (t : Turn) (s : ClientSession) (ino : ℕ) (o : Option HeldLock) → locks.lock_of s.locks ino ≡ o → FitSession most s → Fit most t → Fit most (drop_held t s ino o)
  unfolding drop_held drop_lock
  held_fit t s ino None e l h = h
  held_fit t s ino (Some x) e l h =
      let f = held_sound s.locks ino x l.sound.locks.rows e in
      let p = lock_parts x f.1 in
      puts_fit most t (with_release ino x.g modes.None (with_cache (locks.drop_lock s.locks ino) s))
      (release_fit most (with_cache (locks.drop_lock s.locks ino) s) ino x.g modes.None (ap is_ino (sym f.0) ∙ p.0) p.1 refl (cache_fit most s (locks.drop_lock s.locks ino) (drop_sound s.locks ino l.sound.locks) l)) h

  removed_fit : (t : Turn) (s : ClientSession) (file : Option ℕ) → FitSession most s → Fit most t → Fit most (removed t s file)
  unfolding removed
  removed_fit t s None l h = h
  removed_fit t s (Some ino) l h = held_fit t s ino (locks.lock_of s.locks ino) refl l h

  named_as_fit : (t : Turn) (s : ClientSession) (file : Option ℕ) (reply : NameReply) → FitSession most s → Fit most t → Fit most (named_as t s file reply)
  unfolding named_as
  named_as_fit t s file (Ino ino) l h = removed_fit t s file l h
  named_as_fit t s file reply l h = h

  named_fit : (t : Turn) (s : ClientSession) (file : Option ℕ) (reply : NameReply) → FitSession most s → Fit most t → Fit most (named t s file reply)
  unfolding named
  named_fit t s file reply l h = named_as_fit (answer_each (is_asked t.here.server) (name_answer reply) t) s file reply l (told_fit most (is_asked t.here.server) (name_answer reply) t h)

  file_fit : (t : Turn) (a : AppAnswer) (file : Option ℕ) → Fit most t → Fit most (refuse_file t a file)
  unfolding refuse_file
  file_fit t a None h = h
  file_fit t a (Some ino) h = told_fit most _ a t h

  page_fit : (t : Turn) (a : AppAnswer) (file : Option ℕ) (page : Option PageNo) → Fit most t → Fit most (refuse_page t a file page)
  unfolding refuse_page
  page_fit t a None None h = h
  page_fit t a None (Some p) h = h
  page_fit t a (Some ino) None h = h
  page_fit t a (Some ino) (Some p) h = told_fit most _ a t h

  holder_fit : (t : Turn) (asked : Body) → Fit most t → Fit most (refuse_holder t asked)
  unfolding refuse_holder
  holder_fit t asked h = if_either (Fit most) (asks_cut_or_remove asked) _ t (told_fit most _ answers.NotHolder t h) h

  as_fit : (t : Turn) (a b : ℕ) (file : Option ℕ) (asked : Body) (w : Why) → Fit most t → Fit most (refuse_as t w a b file asked)
  unfolding refuse_as
  as_fit t a b file asked why.NotHolder h = holder_fit t asked h
  as_fit t a b file asked why.NoFile h = file_fit t answers.NoFile file h
  as_fit t a b file asked why.NoSpace h = page_fit t (answers.NoSpace a b) file _ h
  as_fit t a b file asked why.TooManyLocks h = file_fit t answers.TooManyLocks file h
  as_fit t a b file asked w h = h

  stuck_fit : (t : Turn) → Fit most t → Fit most (leave_stuck t)
  unfolding leave_stuck
  stuck_fit t h =
      record {
        id = h.id;
        here = h.here;
        operations = all_map is_sound_operation (stuck t)
            (λ o e. if_either (λ (x : Operation). is_sound_operation x ≡ true) (is_asked t.here.server o) (at_stage Stuck o) o e e) t.operations h.operations;
        out = h.out;
      }

  refused_fit : (t : Turn) (w : Why) (a b : ℕ) (file : Option ℕ) (asked : Body) → Fit most t → Fit most (refused t w a b file asked)
  unfolding refused
  refused_fit t w a b file asked h = stuck_fit (refuse_as t w a b file asked) (as_fit t a b file asked w h)

  effect_fit : (t : Turn) (s : ClientSession) (now : Stamp) (file : Option ℕ) (asked : Body) (body : Body) → is_body body ≡ true → FitSession most s → Fit most t → Fit most (effect t s now body file asked)
  unfolding effect acknowledged reasserted is_body
  effect_fit t s now file asked (bodies.Granted ino g mode) e l h = granted_fit t s ino g mode e l h
  effect_fit t s now file asked (bodies.Queued ino mode) e l h = queued_fit t s now ino mode l h
  effect_fit t s now file asked (bodies.Extents ino rows) e l h = extents_fit t s ino rows asked h
  effect_fit t s now file asked bodies.Ack e l h = told_fit most _ answers.Cut t h
  effect_fit t s now file asked (bodies.Named reply) e l h = named_fit t s file reply l h
  effect_fit t s now file asked bodies.Reasserted e l h = puts_fit most t (record s { due = false }) l h
  effect_fit t s now file asked (bodies.Nack w a b) e l h = refused_fit t w a b file asked h
  effect_fit t s now file asked body e l h = h

  -- Replies.

  ended_fit : (stamp : Stamp) (s : ClientSession) → FitSession most s → FitSession most (ended_by stamp s)
  ended_fit stamp s l = record { sound = record { epoch = l.sound.epoch; next = l.sound.next; asked = refl; locks = l.sound.locks; releases = l.sound.releases }; room = l.room }

  end_fit : (t : Turn) (s : ClientSession) (stamp : Stamp) → FitSession most s → Fit most t → Fit most (end_request t s stamp)
  unfolding end_request note_renewal
  end_fit t s stamp l h =
      puts_fit most (note_renewal t s stamp) (ended_by stamp s) (ended_fit stamp s l)
      (if_either (Fit most) (is_renewal stamp s.lease) (note_lease (renewed stamp s.lease) t) t (lease_fit (renewed stamp s.lease) t h) h)

  reply_to_fit : (t : Turn) (s : ClientSession) (now stamp : Stamp) (reply asked : Body) → is_body reply ≡ true → FitSession most s → Fit most t → Fit most (reply_to t s now stamp reply asked)
  unfolding reply_to
  reply_to_fit t s now stamp reply asked e l h = effect_fit (end_request t s stamp) (ended_by stamp s) now (file_asked s.cutting asked) asked reply e (ended_fit stamp s l) (end_fit t s stamp l h)

  count_fit : (t : Turn) (s : ClientSession) (now stamp : Stamp) (reply asked : Body) → is_body reply ≡ true → FitSession most s → Fit most t → Fit most (count_reply t s now stamp reply asked)
  unfolding count_reply
  count_fit t s now stamp reply asked e l h =
      if_either (Fit most) (refuses_reassertion reply asked) (condemn t s) (reply_to t s now stamp reply asked) (condemn_fit t s l h)
      (reply_to_fit t s now stamp reply asked e l h)

  counted_fit : (t : Turn) (s : ClientSession) (now : Stamp) (number : ℕ) (stamp : Stamp) (reply : Body) (o : Option Request) → is_body reply ≡ true → FitSession most s → Fit most t →
      Fit most (counted t s now number stamp reply o)
  unfolding counted by_request
  counted_fit t s now number stamp reply None e l h = h
  counted_fit t s now number stamp reply (Some q) e l h =
      if_either (Fit most) (is_counting number reply q) (count_reply t s now stamp reply q.body) t (count_fit t s now stamp reply q.body e l h) h

  reply_fit : (t : Turn) (s : ClientSession) (now : Stamp) (m : Header) (reply : Body) → is_body reply ≡ true → FitSession most s → Fit most t → Fit most (reply_of t s now m reply)
  unfolding reply_of
  reply_fit t s now m reply e l h = counted_fit t s now m.number (record { 0 = m.stamp }) reply s.requests.asked e l h

  nack_fit : (t : Turn) (s : ClientSession) (now : Stamp) (m : Header) (a b : ℕ) (w : Why) → ((v : Why) → is_body (bodies.Nack v a b) ≡ true) → FitSession most s → Fit most t →
      Fit most (nack t s now m w a b)
  nack_fit t s now m a b why.Suspect e l h = condemn_fit t s l h
  nack_fit t s now m a b why.NoSession e l h = condemn_fit t s l h
  nack_fit t s now m a b why.OtherEpoch e l h = h
  nack_fit t s now m a b why.Grace e l h = h
  nack_fit t s now m a b why.GraceOver e l h = condemn_fit t s l h
  nack_fit t s now m a b why.Conflict e l h = condemn_fit t s l h
  nack_fit t s now m a b w e l h = reply_fit t s now m (bodies.Nack w a b) (e w) l h

  grant_or_fit : (t : Turn) (s : ClientSession) (now : Stamp) (m : Header) (ino : ℕ) (g : GrantNo) (mode : Mode) → is_body (bodies.Granted ino g mode) ≡ true → FitSession most s → Fit most t →
      Fit most (grant_or_reply t s now m ino g mode)
  unfolding grant_or_reply is_body
  grant_or_fit t s now m ino g mode e l h =
      if_either (Fit most) (m.number == 0) (granted t s ino g mode) (reply_of t s now m (bodies.Granted ino g mode)) (granted_fit t s ino g mode e l h)
      (reply_fit t s now m (bodies.Granted ino g mode) e l h)

  demand_as_fit : (t : Turn) (s : ClientSession) (ino : ℕ) (g : GrantNo) (a : Asked) → is_ino ino ≡ true → is_grant g ≡ true → FitSession most s → Fit most t → Fit most (demand_as t s ino g a)
  unfolding demand_as observe_demand is_body
  demand_as_fit t s ino g Reduce i e l h =
      let u = puts_fit most t s l h in
      sends_fit most (with_session s t) s.epoch.0 0 0 (bodies.DemandSeen ino g) (seen_header most high (with_session s t) s.epoch.0 l.sound.epoch u)
      (and_both (is_ino ino) (is_grant g) i e) u
  demand_as_fit t s ino g NotHeld i e l h = puts_fit most t (release_unheld s ino g) (unheld_fit most s ino g i e l) h
  demand_as_fit t s ino g Stale i e l h = h

  demand_fit : (t : Turn) (s : ClientSession) (ino : ℕ) (g : GrantNo) (to : Mode) → (is_ino ino && (is_grant g && is_mode 0 1 to)) ≡ true → FitSession most s → Fit most t →
      Fit most (demand t s ino g to)
  unfolding demand demand_by
  demand_fit t s ino g to e l h =
      let p = and_true (is_ino ino) (is_grant g && is_mode 0 1 to) e in
      let q = and_true (is_grant g) (is_mode 0 1 to) p.1 in
      let d = locks.demand s.locks ino g to in
      demand_as_fit t (with_cache d.locks s) ino g d.asked p.0 q.0 (cache_fit most s d.locks (demand_sound s.locks ino g to p.0 q.0 q.1 l.sound.locks) l) h

  epoch_fit : (t : Turn) (s : ClientSession) (now : Stamp) (m : Header) (body : Body) → is_body body ≡ true → FitSession most s → Fit most t → Fit most (of_epoch t s now m body)
  unfolding of_epoch is_body
  epoch_fit t s now m (bodies.Nack w a b) e l h = nack_fit t s now m a b w (λ v. e) l h
  epoch_fit t s now m (bodies.Granted ino g mode) e l h = grant_or_fit t s now m ino g mode e l h
  epoch_fit t s now m (bodies.Demand ino g to) e l h = demand_fit t s ino g to e l h
  epoch_fit t s now m body e l h = reply_fit t s now m body e l h

  session_fit : (t : Turn) (s : ClientSession) (now : Stamp) (m : Header) (body : Body) → is_header (kind_of_body body) m ≡ true → is_body body ≡ true → FitSession most s → Fit most t →
      Fit most (with_a_session t s now m body)
  unfolding with_a_session
  session_fit t s now m body k e l h =
      if_either (Fit most) (m.epoch == s.epoch.0) (of_epoch t s now m body) (of_other_epoch t s (record { 0 = m.epoch }) body) (epoch_fit t s now m body e l h)
      (other_fit t s m body k l h)

  by_fit : (t : Turn) (now : Stamp) (m : Header) (body : Body) (o : Option ClientSession) → is_header (kind_of_body body) m ≡ true → is_body body ≡ true → FitIn most o → Fit most t →
      Fit most (by_session t now m body o)
  unfolding by_session
  by_fit t now m body None k e l h = without_fit t now m body k h
  by_fit t now m body (Some s) k e l h = session_fit t s now m body k e l h

  pub receive_fit : (now : Stamp) (m : Header) (body : Body) → is_header (kind_of_body body) m ≡ true → is_body body ≡ true → (t : Turn) → Fit most t → Fit most (receive_at now m body t)
  unfolding receive_at
  receive_fit now m body k e t h =
      if_either (Fit most) (is_received t now m) (by_session t now m body t.here.session) t (by_fit t now m body t.here.session k e h.here.session h) h
