-- What a message that is received leaves of the requests of a session.
use Rattle.st_lemmas.proofs.Words
use Words.{◌≡◌, ℕ, Bool, true, false, ◌==◌, List, Option, Some, None, refl, sym, subst, if◌then◌else◌, Epoch, GrantNo, PageNo, ServerId, Stamp, Mode, ExtentRow}
use Words.{Body, Header, NameReply, Why, HeldLock, Request, eqb-true}
use Words.answers
use Words.bodies
use Words.replies.{Ino, Listed, Refused}
use Words.why
use Words.Keys.{server_node}
use Words.Tables.{and_true}
use Words.ClientLocks as locks
use Words.ClientReplies as cr
use Words.ClientState as state
use Words.ClientState.{ClientSession, Turn, answer_each, with_session, with_store}
use Words.Truth.{clash}
use Rattle.st_laws_requests.specs.Replies.ServedRequests.{Ends}
use Rattle.st_laws_extents.specs.CutRequests.Asks.{AsksStand, Fact, Of, Tells}
use Rattle.st_laws_extents.proofs.CutRequests.Walking as walk

-- by the reply: whether a reassertion is due after it
abbrev pub due_left : Body → Bool → Bool
due_left bodies.Reasserted due = false
due_left body due = due

pub no_request : {A : Type 0} (q : Request) → ◌≡◌ {A = Option Request} None (Some q) → A
no_request q z = cc

-- a counting reply to a reassertion that isn't a refusal accepts it
accepts : (b asked : Body) (due : Bool) → state.fits b asked ≡ true → state.reasserts asked ≡ true → cr.refuses_reassertion b asked ≡ false →
    due_left b due ≡ true → ⊥
accepts bodies.Reasserted asked due f r n d = cc
accepts (bodies.Nack w x y) asked due f r n d = clash r n
accepts bodies.Ack (bodies.Reassert rows) due f r n d = cc
accepts (bodies.Granted ino g mode) (bodies.Reassert rows) due f r n d = cc
accepts (bodies.Queued ino mode) (bodies.Reassert rows) due f r n d = cc
accepts (bodies.Extents ino rows) (bodies.Reassert rows2) due f r n d = cc
accepts (bodies.Named reply) (bodies.Reassert rows) due f r n d = cc
accepts b (bodies.Reassert rows) due f r n d = cc
accepts b asked due f r n d = cc

module _ (F : Fact) where
  abbrev At : Turn → Type 0
  At t = walk.At F t

  -- What a reply does in addition to ending the request.
  abbrev pub Left : Turn → ClientSession → Bool → Type 0
  Left t r due = F t.here.server t.here.life.0 r.epoch.0 r.requests r.cutting due

  named_after_effect_queued : (t : Turn) (s : ClientSession) (now : Stamp) (ino : ℕ) (mode : Mode) → Left t s s.due → At (cr.queued t s now ino mode)
  unfolding cr.queued cr.wait_unless_held cr.wait_told
  named_after_effect_queued t s now ino mode n = go (Rattle.st_base.specs.Mode.covers (locks.mode_of s.locks ino) mode)
    where
      go : (b : Bool) → Of F t.here.server t.here.life.0 (Some (if b then s else cr.wait_told s ino mode now))
      go true = n
      go false = n

  named_after_effect_extents : (t : Turn) (s : ClientSession) (ino : ℕ) (rows : List ExtentRow) (asked : Body) → At t → At (cr.extents t s ino rows asked)
  unfolding cr.extents cr.learn
  named_after_effect_extents t s ino rows asked u = go (cr.is_current s.locks asked)
    where
      go : (b : Bool) → At (if b then with_store (cr.learned ino rows asked t.here.store) t else t)
      go true = u
      go false = u

  named_after_effect_removed : (t : Turn) (s : ClientSession) (file : Option ℕ) → Left t s s.due → At t → At (cr.removed t s file)
  unfolding cr.removed cr.drop_held cr.drop_lock
  named_after_effect_removed t s None n u = u
  named_after_effect_removed t s (Some ino) n u = go (locks.lock_of s.locks ino)
    where
      go : (o : Option HeldLock) → At (cr.drop_held t s ino o)
      go None = u
      go (Some l) = n

  named_after_effect_named : (t : Turn) (s : ClientSession) (file : Option ℕ) (reply : NameReply) → Left t s s.due → At t → At (cr.named t s file reply)
  unfolding cr.named cr.named_as answer_each
  named_after_effect_named t s file (Ino ino) n u = named_after_effect_removed (answer_each (state.is_asked t.here.server) (cr.name_answer (Ino ino)) t) s file
      n u
  named_after_effect_named t s file (Listed rows) n u = u
  named_after_effect_named t s file (Refused code) n u = u

  named_after_effect_refused : (t : Turn) (w : Why) (a b : ℕ) (file : Option ℕ) (asked : Body) → At t → At (cr.refused t w a b file asked)
  unfolding cr.refused cr.leave_stuck cr.refuse_as cr.refuse_file cr.refuse_page cr.refuse_holder answer_each
  named_after_effect_refused t w a b file asked u = go w file
    where
      page : (file : Option ℕ) (p : Option PageNo) → At (cr.refuse_page t (answers.NoSpace a b) file p)
      page None p = u
      page (Some ino) None = u
      page (Some ino) (Some p) = u

      holder : (x : Bool) → At (if x then answer_each (state.is_asked t.here.server) answers.NotHolder t else t)
      holder true = u
      holder false = u

      go : (w : Why) (file : Option ℕ) → At (cr.refuse_as t w a b file asked)
      go why.NoFile None = u
      go why.NoFile (Some ino) = u
      go why.TooManyLocks None = u
      go why.TooManyLocks (Some ino) = u
      go why.NoSpace file = page file (state.page_asked asked)
      go why.NotHolder file = holder (state.asks_cut_or_remove asked)
      go w file = u

  pub named_after_effect_effect : (t : Turn) (s : ClientSession) (now : Stamp) (b : Body) (file : Option ℕ) (asked : Body) → t.here.session ≡ Some s →
      Left t s (due_left b s.due) → At (cr.effect t s now b file asked)
  unfolding cr.effect cr.acknowledged cr.reasserted answer_each
  named_after_effect_effect t s now b file asked e n = go b n
    where
      here : Left t s s.due → At t
      here n = subst (Of F t.here.server t.here.life.0) (sym e) n

      go : (b : Body) → Left t s (due_left b s.due) → At (cr.effect t s now b file asked)
      go (bodies.Granted ino g mode) n = walk.kept_by_granted F t s ino g mode e (here n)
      go (bodies.Queued ino mode) n = named_after_effect_queued t s now ino mode n
      go (bodies.Extents ino rows) n = named_after_effect_extents t s ino rows asked (here n)
      go bodies.Ack n = here n
      go (bodies.Named reply) n = named_after_effect_named t s file reply n (here n)
      go bodies.Reasserted n = n
      go (bodies.Nack w a b) n = named_after_effect_refused t w a b file asked (here n)
      go b n = here n

module _ (B : ServerId → ℕ → ℕ → ℕ → Type 0) (G : ServerId → ℕ → GrantNo → Type 0) (start : (server : ServerId) (life epoch : ℕ) → B server life epoch 1) where
  F : Fact
  F = AsksStand B G

  -- if nothing is outstanding
  idle : (server : ServerId) (life epoch next : ℕ) (due : Bool) → B server life epoch next → (due ≡ true → next ≡ 1) →
      AsksStand B G server life epoch (record { next = next; asked = None }) None due
  idle server life epoch next due b d =
      record {
        last = λ q e. no_request q e;
        first = record { none = λ x n. d x; first = λ q e. no_request q e; only = λ q e. no_request q e };
        served = b;
        cut = λ q e. no_request q e;
        remove = λ q e. no_request q e;
      }

  module _ (h : Header) (body : Body) where
    abbrev pub Told : Turn → Type 0
    Told t = Of (Tells B h body) t.here.server t.here.life.0 t.here.session

    -- a message of this session
    -- it ends what it fits
    abbrev Ending : Type 0
    Ending = (asked : Body) → state.fits body asked ≡ true → Ends body

    abbrev Mine : Turn → ClientSession → Type 0
    Mine t s = (h.from ≡ server_node t.here.server) × (h.life ≡ t.here.life.0) × (h.epoch ≡ s.epoch.0)

    kept_by_reply_to : (t : Turn) (s : ClientSession) (now stamp : Stamp) (q : Request) → t.here.session ≡ Some s → s.requests.asked ≡ Some q → Told t →
        Mine t s → Ends body → cr.is_counting h.number body q ≡ true → cr.refuses_reassertion body q.body ≡ false →
        walk.K (AsksStand B G) t (cr.reply_to t s now stamp body q.body)
    unfolding cr.reply_to cr.end_request cr.note_renewal cr.note_lease
    kept_by_reply_to t s now stamp q e a told mine ends counts fine x =
        go (Rattle.st_rules.specs.ClientLease.is_renewal stamp s.lease)
      where
        r : ClientSession
        r = cr.ended_by stamp s

        v : Bool → Turn
        v b = with_session r (if b then cr.note_lease (Rattle.st_rules.specs.ClientLease.renewed stamp s.lease) t else t)

        stands : AsksStand B G t.here.server t.here.life.0 s.epoch.0 s.requests s.cutting s.due
        stands = subst (Of (AsksStand B G) t.here.server t.here.life.0) e x

        tells : Tells B h body t.here.server t.here.life.0 s.epoch.0 s.requests s.cutting s.due
        tells = subst (Of (Tells B h body) t.here.server t.here.life.0) e told

        served : B t.here.server t.here.life.0 s.epoch.0 s.requests.next
        served = subst (B t.here.server t.here.life.0 s.epoch.0) (stands.last q a) (tells q a mine.0 mine.1 mine.2 ends counts fine)

        due : due_left body s.due ≡ true → s.requests.next ≡ 1
        due d = absurd
            (accepts body q.body s.due (and_true (state.is_request_of h.number q) (state.fits body q.body) counts).1 (stands.first.only q a (was body d)) fine
            d)
          where
            was : (b : Body) → due_left b s.due ≡ true → s.due ≡ true
            was bodies.Reasserted d = cc
            was b d = d

        ended : AsksStand B G t.here.server t.here.life.0 s.epoch.0 (record { next = s.requests.next; asked = None }) None (due_left body s.due)
        ended = idle t.here.server t.here.life.0 s.epoch.0 s.requests.next (due_left body s.due) served due

        go : (b : Bool) → walk.At (AsksStand B G) (cr.effect (v b) r now body (state.file_asked s.cutting q.body) q.body)
        go true = named_after_effect_effect (AsksStand B G) (v true) r now body (state.file_asked s.cutting q.body) q.body refl ended
        go false = named_after_effect_effect (AsksStand B G) (v false) r now body (state.file_asked s.cutting q.body) q.body refl ended

    kept_by_counted : (t : Turn) (s : ClientSession) (now : Stamp) (stamp : Stamp) (o : Option Request) → t.here.session ≡ Some s → s.requests.asked ≡ o →
        Told t → Mine t s → Ending → walk.K (AsksStand B G) t (cr.counted t s now h.number stamp body o)
    unfolding cr.counted cr.by_request cr.count_reply
    kept_by_counted t s now stamp None e a told mine ends = walk.kept_by_nothing (AsksStand B G) t
    kept_by_counted t s now stamp (Some q) e a told mine ends = if_case (cr.is_counting h.number body q) refl
      where
        refused : cr.is_counting h.number body q ≡ true → (b : Bool) → cr.refuses_reassertion body q.body ≡ b →
            walk.K (AsksStand B G) t (if b then cr.condemn t s else cr.reply_to t s now stamp body q.body)
        refused c true r = walk.kept_by_condemn (AsksStand B G) t s e
        refused c false r = kept_by_reply_to t s now stamp q e a told mine
            (ends q.body (and_true (state.is_request_of h.number q) (state.fits body q.body) c).1) c r

        if_case : (b : Bool) → cr.is_counting h.number body q ≡ b → walk.K (AsksStand B G) t (if b then cr.count_reply t s now stamp body q.body else t)
        if_case true c = refused c (cr.refuses_reassertion body q.body) refl
        if_case false c = walk.kept_by_nothing (AsksStand B G) t

    kept_by_reply : (t : Turn) (s : ClientSession) (now : Stamp) → t.here.session ≡ Some s → Told t → Mine t s → Ending →
        walk.K (AsksStand B G) t (cr.reply_of t s now h body)
    unfolding cr.reply_of
    kept_by_reply t s now e told mine ends = kept_by_counted t s now _ s.requests.asked e refl told mine ends

    kept_by_nack : (t : Turn) (s : ClientSession) (now : Stamp) (w : Why) (a b : ℕ) → body ≡ bodies.Nack w a b → t.here.session ≡ Some s → Told t → Mine t s →
        walk.K (AsksStand B G) t (cr.nack t s now h w a b)
    kept_by_nack t s now w a b is e told mine = go w is
      where
        reply : (w : Why) → Ends (bodies.Nack w a b) → body ≡ bodies.Nack w a b → walk.K (AsksStand B G) t (cr.reply_of t s now h (bodies.Nack w a b))
        reply w k is = subst (λ y. walk.K (AsksStand B G) t (cr.reply_of t s now h y)) is (kept_by_reply t s now e told mine (λ asked f. subst Ends (sym is) k))

        go : (w : Why) → body ≡ bodies.Nack w a b → walk.K (AsksStand B G) t (cr.nack t s now h w a b)
        go why.Suspect is = walk.kept_by_condemn (AsksStand B G) t s e
        go why.NoSession is = walk.kept_by_condemn (AsksStand B G) t s e
        go why.OtherEpoch is = walk.kept_by_nothing (AsksStand B G) t
        go why.Grace is = walk.kept_by_nothing (AsksStand B G) t
        go why.GraceOver is = walk.kept_by_condemn (AsksStand B G) t s e
        go why.Conflict is = walk.kept_by_condemn (AsksStand B G) t s e
        go w is = reply w tt is

    kept_by_of_epoch : (t : Turn) (s : ClientSession) (now : Stamp) → t.here.session ≡ Some s → Told t → Mine t s → (b : Body) → body ≡ b →
        walk.K (AsksStand B G) t (cr.of_epoch t s now h b)
    unfolding cr.of_epoch cr.grant_or_reply
    kept_by_of_epoch t s now e told mine b is = go b is
      where
        reply : (b : Body) → ((asked : Body) → state.fits b asked ≡ true → Ends b) → body ≡ b → walk.K (AsksStand B G) t (cr.reply_of t s now h b)
        reply b k is = subst (λ y. walk.K (AsksStand B G) t (cr.reply_of t s now h y)) is
            (kept_by_reply t s now e told mine (subst (λ y. (asked : Body) → state.fits y asked ≡ true → Ends y) (sym is) k))

        go : (b : Body) → body ≡ b → walk.K (AsksStand B G) t (cr.of_epoch t s now h b)
        go (bodies.Nack w a b) is = kept_by_nack t s now w a b is e told mine
        go (bodies.Granted ino g mode) is = walk.kept_by_choice (AsksStand B G) t (h.number == 0) _ _ (walk.kept_by_granted (AsksStand B G) t s ino g mode e)
            (reply (bodies.Granted ino g mode) (λ asked f. tt) is)
        go (bodies.Demand ino g to) is = walk.kept_by_demand (AsksStand B G) t s ino g to e
        go bodies.Welcome is = reply bodies.Welcome (λ asked f. cc f) is
        go b is = reply b (λ asked f. tt) is

    kept_by_other : (t : Turn) (s : ClientSession) (epoch : Epoch) (b : Body) → walk.K (AsksStand B G) t (cr.of_other_epoch t s epoch b)
    unfolding cr.of_other_epoch cr.newer_epoch cr.follow_epoch answer_each
    kept_by_other t s epoch (bodies.Nack why.OtherEpoch a b) =
        walk.kept_by_choice (AsksStand B G) t (cr.is_newer s epoch) _ t
        (λ z. idle t.here.server t.here.life.0 epoch.0 1 true (start t.here.server t.here.life.0 epoch.0) (λ x. refl)) (walk.kept_by_nothing (AsksStand B G) t)
    kept_by_other t s epoch (bodies.Nack w a b) = walk.kept_by_nothing (AsksStand B G) t
    kept_by_other t s epoch b = walk.kept_by_nothing (AsksStand B G) t

    no_due : {A : Type 0} → false ≡ true → A
    no_due e = cc

    kept_by_without : (t : Turn) (now : Stamp) (b : Body) → walk.K (AsksStand B G) t (cr.without_session t now h b)
    unfolding cr.without_session cr.welcome cr.begin_session cr.note_lease
    kept_by_without t now bodies.Welcome =
        walk.kept_by_choice (AsksStand B G) t (cr.is_timely t now (record { 0 = h.stamp })) _ t
        (λ z. idle t.here.server t.here.life.0 h.epoch 1 false (start t.here.server t.here.life.0 h.epoch) (λ x. no_due x))
        (walk.kept_by_nothing (AsksStand B G) t)
    kept_by_without t now b = walk.kept_by_nothing (AsksStand B G) t

    pub kept_by_receive : (now : Stamp) (t : Turn) → Told t → walk.K (AsksStand B G) t (cr.receive_at now h body t)
    unfolding cr.receive_at cr.by_session cr.with_a_session
    kept_by_receive now t told = received (cr.is_received t now h) refl
      where
        go : cr.is_received t now h ≡ true → (o : Option ClientSession) → t.here.session ≡ o → walk.K (AsksStand B G) t (cr.by_session t now h body o)
        go x None e = kept_by_without t now body
        go x (Some s) e = epoch (h.epoch == s.epoch.0) refl
          where
            epoch : (b : Bool) → (h.epoch == s.epoch.0) ≡ b →
                walk.K (AsksStand B G) t (if b then cr.of_epoch t s now h body else cr.of_other_epoch t s (record { 0 = h.epoch }) body)
            epoch true q = kept_by_of_epoch t s now e told
                (let y = and_true (h.from == server_node t.here.server) _ x in
                (eqb-true _ _ y.0, eqb-true _ _ (and_true (h.life == t.here.life.0) _ y.1).0, eqb-true _ _ q)) body refl
            epoch false q = kept_by_other t s (record { 0 = h.epoch }) body

        received : (b : Bool) → cr.is_received t now h ≡ b → walk.K (AsksStand B G) t (if b then cr.by_session t now h body t.here.session else t)
        received true x = go x t.here.session refl
        received false x = walk.kept_by_nothing (AsksStand B G) t
