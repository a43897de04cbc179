-- A reply that counts ends the outstanding request, and the lease is dated no earlier than its stamp.
use Rattle.st_lemmas.proofs.Words
use Words.{◌≡◌, ℕ, ◌≤◌, Bool, true, false, ◌==◌, refl, sym, ap, ◌∙◌, subst, arith, ◌&&◌, if◌then◌else◌, not, nat_lt, Option, Some, None, eq-eqb, eqb-true}
use Words.{ltb-false, ltb-true, GrantNo, Stamp, Mode, PageNo, AppAnswer, NameReply, Header, Body, Why, HeldLock, Request}
use Words.modes
use Words.answers
use Words.replies.{Ino}
use Words.bodies
use Words.why
use Words.ClientLease as lease
use Words.ClientReplies as cr
use Words.ClientLocks as locks
use Words.ClientState.{ClientSession, Requests, Turn, answer_each, asks_cut_or_remove, file_asked, fits, forget_wait, is_asked, is_refusal, page_asked}
use Words.ClientState.{reasserts, with_cache, with_release}
use Words.Lookups.{some_is}
use Words.Tables.{and_both, and_true, cond_either}
use Words.Truth.{not_both}
use Rattle.st_base.specs.Mode.{covers}
use Rattle.st_laws_healthy.proofs.Queues.{Longer, More, Same, longer_then}
use Rattle.st_laws_healthy.proofs.Replies.{counts_for, is_mild}

-- a renewed lease is dated no earlier than the stamp, if it is not condemned, and no earlier than before
pub renewed_date : (stamp : Stamp) (l : lease.ClientLease) → l.condemned ≡ false →
    (stamp.0 ≤ (lease.renewed stamp l).date.0) × (l.date.0 ≤ (lease.renewed stamp l).date.0) × ((lease.renewed stamp l).condemned ≡ false)
unfolding lease.renewed lease.dated
renewed_date stamp l c =
    cond_either (λ (x : lease.ClientLease). (stamp.0 ≤ x.date.0) × (l.date.0 ≤ x.date.0) × (x.condemned ≡ false)) (lease.is_renewal stamp l)
    (lease.dated stamp l) l
    (λ e. (omega arith, later e, c)) (λ e. (let z = earlier e in omega (arith, z), omega arith, c))
  where
    later : lease.is_renewal stamp l ≡ true → l.date.0 ≤ stamp.0
    later e = let z = and_true (not l.condemned) (nat_lt l.date.0 stamp.0) e in let y = ltb-true l.date.0 stamp.0 z.1 in omega (arith, y)

    earlier : lease.is_renewal stamp l ≡ false → stamp.0 ≤ l.date.0
    earlier e = ltb-false l.date.0 stamp.0 (sym (ap (λ b. not b && nat_lt l.date.0 stamp.0) c) ∙ e)

-- What a counting reply leaves: a session of the same epoch with no request outstanding, whose lease isn't older than the reply's stamp.
pub record IsEnded (s : ClientSession) (stamp : ℕ) (o : Option ClientSession) : Type 0 where
  pub session : ClientSession
  pub is : o ≡ Some session
  pub epoch : session.epoch ≡ s.epoch
  pub rests : session.requests.asked ≡ None
  pub next : session.requests.next ≡ s.requests.next
  pub date : stamp ≤ session.lease.date.0
  pub later : s.lease.date.0 ≤ session.lease.date.0
  pub sound : session.lease.condemned ≡ false
  pub due : session.due ≡ true → s.due ≡ true
  pub releases : Longer s.releases session.releases

ended_is : (s : ClientSession) (stamp : Stamp) → s.lease.condemned ≡ false → IsEnded s stamp.0 (Some (cr.ended_by stamp s))
ended_is s stamp c = let z = renewed_date stamp s.lease c in record {
  session = cr.ended_by stamp s;
  is = refl;
  epoch = refl;
  rests = refl;
  next = refl;
  date = z.0;
  later = z.1;
  sound = z.2;
  due = λ e. e;
  releases = Same;
}

-- The effects of a reply beside ending the request leave the epoch, the requests and the lease.
module _ (s : ClientSession) (stamp : Stamp) where
  abbrev E : Turn → Type 0
  E t = IsEnded s stamp.0 t.here.session

  -- a session that differs elsewhere
  same : (u v : ClientSession) → v.epoch ≡ u.epoch → v.requests ≡ u.requests → v.lease ≡ u.lease → (v.due ≡ true → u.due ≡ true) →
      Longer u.releases v.releases → IsEnded s stamp.0 (Some u) → IsEnded s stamp.0 (Some v)
  same u v e r l d n x =
      let q : x.session ≡ u = some_is (sym x.is) in
      record {
        session = v;
        is = refl;
        epoch = e ∙ ap (λ (z : ClientSession). z.epoch) (sym q) ∙ x.epoch;
        rests = ap (λ (z : Requests). z.asked) r ∙ ap (λ (z : ClientSession). z.requests.asked) (sym q) ∙ x.rests;
        next = ap (λ (z : Requests). z.next) r ∙ ap (λ (z : ClientSession). z.requests.next) (sym q) ∙ x.next;
        date = subst (λ (z : lease.ClientLease). stamp.0 ≤ z.date.0) (sym (l ∙ ap (λ (z : ClientSession). z.lease) (sym q))) x.date;
        later = subst (λ (z : lease.ClientLease). s.lease.date.0 ≤ z.date.0) (sym (l ∙ ap (λ (z : ClientSession). z.lease) (sym q))) x.later;
        sound = ap (λ (z : lease.ClientLease). z.condemned) l ∙ ap (λ (z : ClientSession). z.lease.condemned) (sym q) ∙ x.sound;
        due = λ f. x.due (ap (λ (z : ClientSession). z.due) q ∙ d f);
        releases = longer_then s.releases u.releases v.releases (subst (λ (z : ClientSession). Longer s.releases z.releases) q x.releases) n;
      }

  granted_session : (u : ClientSession) (ino : ℕ) (g : GrantNo) (mode : Mode) → IsEnded s stamp.0 (Some u) → IsEnded s stamp.0 (Some (cr.grant u ino g mode))
  unfolding cr.grant cr.grant_new cr.accept_grant cr.decline
  granted_session u ino g mode x =
      cond_either (λ z. IsEnded s stamp.0 (Some z)) (locks.is_above_seen u.locks ino g) (cr.grant_new u ino g mode) u
      (λ e. cond_either (λ z. IsEnded s stamp.0 (Some z)) (locks.has_place u.locks ino) (cr.accept_grant u ino g mode) (cr.decline u ino g)
      (λ f. same u (cr.accept_grant u ino g mode) refl refl refl (λ f. f) Same x)
      (λ f. same u (cr.decline u ino g) refl refl refl (λ f. f) (More u.releases (record { ino = ino; g = g; to = modes.None }) Same) x)) (λ e. x)

  waits_session : (u : ClientSession) (ino : ℕ) (mode : Mode) (now : Stamp) → IsEnded s stamp.0 (Some u) →
      IsEnded s stamp.0 (Some (cr.wait_unless_held u ino mode now))
  unfolding cr.wait_unless_held cr.wait_told
  waits_session u ino mode now x =
      cond_either (λ z. IsEnded s stamp.0 (Some z)) (covers (locks.mode_of u.locks ino) mode) u (cr.wait_told u ino mode now) (λ e. x)
      (λ e. same u (cr.wait_told u ino mode now) refl refl refl (λ f. f) Same x)

  module _ (now : Stamp) where
    stays : (t : Turn) (u : ClientSession) → t.here.session ≡ Some u → IsEnded s stamp.0 (Some u) → E t
    stays t u e x = subst (IsEnded s stamp.0) (sym e) x

    ended_after_refused : (t : Turn) (u : ClientSession) → t.here.session ≡ Some u → IsEnded s stamp.0 (Some u) →
        (w : Why) (a b : ℕ) (file : Option ℕ) (asked : Body) →
        E (cr.refused t w a b file asked)
    unfolding cr.refused cr.leave_stuck cr.refuse_as cr.refuse_file cr.refuse_page cr.refuse_holder answer_each
    ended_after_refused t u e x w a b file asked = stays (cr.leave_stuck (cr.refuse_as t w a b file asked)) u (same_session w ∙ e) x
      where
        on_file : (answer : AppAnswer) (o : Option ℕ) → (cr.refuse_file t answer o).here.session ≡ t.here.session
        on_file answer None = refl
        on_file answer (Some ino) = refl

        on_page : (answer : AppAnswer) (o : Option ℕ) (p : Option PageNo) → (cr.refuse_page t answer o p).here.session ≡ t.here.session
        on_page answer None p = refl
        on_page answer (Some ino) None = refl
        on_page answer (Some ino) (Some p) = refl

        same_session : (w : Why) → (cr.refuse_as t w a b file asked).here.session ≡ t.here.session
        same_session why.NoFile = on_file answers.NoFile file
        same_session why.TooManyLocks = on_file answers.TooManyLocks file
        same_session why.NoSpace = on_page (answers.NoSpace a b) file (page_asked asked)
        same_session why.NotHolder =
            cond_either (λ (z : Turn). z.here.session ≡ t.here.session) (asks_cut_or_remove asked) (answer_each (is_asked t.here.server) answers.NotHolder t)
            t (λ f. refl) (λ f. refl)
        same_session w = refl

    ended_after_named : (t : Turn) (u : ClientSession) → t.here.session ≡ Some u → IsEnded s stamp.0 (Some u) → (file : Option ℕ) (reply : NameReply) →
        E (cr.named t u file reply)
    unfolding cr.named cr.named_as cr.removed cr.drop_held cr.drop_lock answer_each
    ended_after_named t u e x file reply = go (answer_each (is_asked t.here.server) (cr.name_answer reply) t) e reply
      where
        held : (v : Turn) (ino : ℕ) → v.here.session ≡ Some u → (o : Option HeldLock) → E (cr.drop_held v u ino o)
        held v ino f None = stays v u f x
        held v ino f (Some l) = same u (with_release ino l.g modes.None (with_cache (locks.drop_lock u.locks ino) u)) refl refl refl (λ f. f)
            (More u.releases (record { ino = ino; g = l.g; to = modes.None }) Same) x

        of : (v : Turn) → v.here.session ≡ Some u → (o : Option ℕ) → E (cr.removed v u o)
        of v f None = stays v u f x
        of v f (Some ino) = held v ino f (locks.lock_of u.locks ino)

        go : (v : Turn) → v.here.session ≡ Some u → (r : NameReply) → E (cr.named_as v u file r)
        go v f (Ino ino) = of v f file
        go v f r = stays v u f x

    effect_ends : (t : Turn) (u : ClientSession) → t.here.session ≡ Some u → IsEnded s stamp.0 (Some u) → (reply : Body) (file : Option ℕ) (asked : Body) →
        E (cr.effect t u now reply file asked)
    unfolding cr.effect cr.granted cr.queued cr.extents cr.learn cr.acknowledged cr.reasserted answer_each
    effect_ends t u e x (bodies.Granted ino g mode) file asked = granted_session (forget_wait ino u) ino g mode
        (same u (forget_wait ino u) refl refl refl (λ f. f) Same x)
    effect_ends t u e x (bodies.Queued ino mode) file asked = waits_session u ino mode now x
    effect_ends t u e x (bodies.Extents ino rows) file asked =
        cond_either E (cr.is_current u.locks asked) (cr.learn t ino rows asked) t (λ f. stays (cr.learn t ino rows asked) u e x) (λ f. stays t u e x)
    effect_ends t u e x bodies.Ack file asked = stays (cr.acknowledged t) u e x
    effect_ends t u e x (bodies.Named reply) file asked = ended_after_named t u e x file reply
    effect_ends t u e x bodies.Reasserted file asked = same u (record u { due = false }) refl refl refl (λ f. no f) Same x
      where
        no : ◌≡◌ {A = Bool} false true → u.due ≡ true
        no f = cc
    effect_ends t u e x (bodies.Nack w a b) file asked = ended_after_refused t u e x w a b file asked
    effect_ends t u e x reply file asked = stays t u e x

-- A reply under the number of the outstanding request that counts for it ends it.
module _ (t : Turn) (s : ClientSession) (now : Stamp) (h : Header) (q : Request) (c : s.lease.condemned ≡ false) (asked : s.requests.asked ≡ Some q)
    (number : q.number ≡ h.number) (plain : reasserts q.body ≡ false) where
  abbrev stamp_of : Stamp
  stamp_of = record { 0 = h.stamp }

  abbrev Ended : Turn → Type 0
  Ended u = IsEnded s h.stamp u.here.session

  pub replied_ends : (b : Body) → fits b q.body ≡ true → Ended (cr.reply_of t s now h b)
  unfolding cr.reply_of cr.counted cr.by_request cr.count_reply cr.reply_to cr.end_request
  replied_ends b f = subst (λ o. Ended (cr.counted t s now h.number stamp_of b o)) (sym asked) (counting (cr.is_counting h.number b q) refl)
    where
      u : Turn
      u = cr.end_request t s stamp_of

      ends : Ended (cr.reply_to t s now stamp_of b q.body)
      ends = effect_ends s stamp_of now u (cr.ended_by stamp_of s) refl (ended_is s stamp_of c) b (file_asked s.cutting q.body) q.body

      counts : (z : Bool) → cr.refuses_reassertion b q.body ≡ z → Ended (if z then cr.condemn t s else cr.reply_to t s now stamp_of b q.body)
      counts false e = ends
      counts true e = absurd (not_both (reasserts q.body) (and_true (is_refusal b) (reasserts q.body) e).1 plain)

      counting : (z : Bool) → cr.is_counting h.number b q ≡ z → Ended (if z then cr.count_reply t s now stamp_of b q.body else t)
      counting true e = counts (cr.refuses_reassertion b q.body) refl
      counting false e = absurd (not_both (cr.is_counting h.number b q) (and_both (q.number == h.number) (fits b q.body) (eq-eqb q.number h.number number) f) e)

  of_epoch_ends : (b : Body) → 1 ≤ h.number → counts_for q.body b ≡ true → Ended (cr.of_epoch t s now h b)
  unfolding cr.of_epoch cr.grant_or_reply
  of_epoch_ends (bodies.Nack w a b) l k = by w k
    where
      by : (w : Why) → is_mild w ≡ true → Ended (cr.nack t s now h w a b)
      by why.NoFile k = replied_ends (bodies.Nack why.NoFile a b) refl
      by why.TooManyLocks k = replied_ends (bodies.Nack why.TooManyLocks a b) refl
      by why.NoSpace k = replied_ends (bodies.Nack why.NoSpace a b) refl
      by why.NotHolder k = replied_ends (bodies.Nack why.NotHolder a b) refl
      by w k = cc
  of_epoch_ends (bodies.Granted ino g mode) l k =
      cond_either Ended (h.number == 0) (cr.granted t s ino g mode) (cr.reply_of t s now h (bodies.Granted ino g mode))
      (λ e. let z = eqb-true h.number 0 e in absurd (omega (arith, z, l)))
      (λ e. replied_ends (bodies.Granted ino g mode) k)
  of_epoch_ends (bodies.Demand ino g to) l k = cc
  of_epoch_ends b l k = replied_ends b k

  -- a counting reply that is received
  pub counted_ends : (b : Body) → t.here.session ≡ Some s → cr.is_received t now h ≡ true → h.epoch ≡ s.epoch.0 → 1 ≤ h.number → counts_for q.body b ≡ true →
      Ended (cr.receive_at now h b t)
  unfolding cr.receive_at cr.by_session cr.with_a_session
  counted_ends b e r ep l k =
      cond_either Ended (cr.is_received t now h) (cr.by_session t now h b t.here.session) t
      (λ f. subst (λ o. Ended (cr.by_session t now h b o)) (sym e)
      (cond_either Ended (h.epoch == s.epoch.0) (cr.of_epoch t s now h b) (cr.of_other_epoch t s (record { 0 = h.epoch }) b) (λ g. of_epoch_ends b l k)
      (λ g. absurd (not_both (h.epoch == s.epoch.0) (eq-eqb h.epoch s.epoch.0 ep) g)))) (λ f. absurd (not_both (cr.is_received t now h) r f))
