-- What a message that is received leaves of what is known of where pages lie.
use Rattle.st_lemmas.proofs.Words
use Words.{◌≡◌, ◌⊎◌, ℕ, Bool, true, false, ◌==◌, List, [], ◌∷◌, Option, Some, None, refl, sym, ap, subst, inl, inr, arith, if◌then◌else◌, eqb-true, Epoch}
use Words.{PageNo, ServerId, Stamp, Mode, ExtentRow, Body, Header, NameReply, Why, HeldLock, KnownExtent, Request}
use Words.answers
use Words.bodies
use Words.replies.{Ino, Listed, Refused}
use Words.why
use Words.ClientLease as lease
use Words.ClientLocks as locks
use Words.ClientPages as pages
use Words.ClientReplies as cr
use Words.ClientState as state
use Words.ClientState.{ClientSession, Turn, answer_each, with_session, with_store}
use Words.Keys.{page_no, server_node}
use Words.Lists.{Has}
use Words.Lookups.{some_is}
use Words.Tables.{and_true}
use Rattle.st_lemmas.proofs.Puts.{has_put}
use Rattle.st_laws_steps.specs.Client.Session.{cuts_from}
use Rattle.st_laws_reads.specs.AllClients.CutFiles.{Cleared}
use Rattle.st_laws_extents.specs.Known.Known.{Fact, HasLock, KnownAs, Locked, Tells, told_at}
use Rattle.st_laws_extents.proofs.Known.Knowing as walk
use Rattle.st_laws_extents.proofs.Known.Locks.{filter_keeps, lock_found}

none_some : {A B : Type 0} (x : B) → ◌≡◌ {A = Option B} None (Some x) → A
none_some x e = cc

-- extents are reported to those who asked for them
fits_maps : (ino : ℕ) (rows : List ExtentRow) (asked : Body) → state.fits (bodies.Extents ino rows) asked ≡ true → state.maps ino asked ≡ true
fits_maps ino rows asked e = e

-- the lock under which extents were asked is held
asked_lock : (c : locks.LockCache) (ino : ℕ) (asked : Body) → state.maps ino asked ≡ true → cr.is_current c asked ≡ true → HasLock c.rows ino
asked_lock c ino (bodies.Map i g p) m e = at (locks.lock_of c i) refl e
  where
    at : (o : Option HeldLock) → locks.lock_of c i ≡ o → cr.is_grant g o ≡ true → HasLock c.rows ino
    at None q z = cc z
    at (Some l) q z = subst (HasLock c.rows) (eqb-true i ino m) (lock_found c i l q)
asked_lock c ino (bodies.Allocate i g p count) m e = at (locks.lock_of c i) refl e
  where
    at : (o : Option HeldLock) → locks.lock_of c i ≡ o → cr.is_grant g o ≡ true → HasLock c.rows ino
    at None q z = cc z
    at (Some l) q z = subst (HasLock c.rows) (eqb-true i ino m) (lock_found c i l q)
asked_lock c ino asked m e = cc e

module _ (R : Fact) where
  -- what is known, and rows that are reported
  rows_known : (server : ServerId) (o : Option ClientSession) (ino : ℕ) (rows : List ExtentRow) (xs : List KnownExtent) → Locked o ino →
      ((r : ExtentRow) → Has r rows → R server ino r.page (told_at r)) →
      ((e : KnownExtent) → Has e xs → KnownAs R server o e) → (e : KnownExtent) → Has e (pages.with_known_rows ino rows xs) → KnownAs R server o e
  unfolding pages.with_known_rows
  rows_known server o ino [] xs l f h = h
  rows_known server o ino (r ∷ rows) xs l f h = rows_known server o ino rows (pages.with_known (pages.known_row ino r) xs) l (λ y i. f y (inr i))
      (λ e i. go e (has_put (pages.is_known_of ino r.page) (pages.known_row ino r) xs e i))
    where
      new : KnownAs R server o (pages.known_row ino r)
      new = record { locked = l; is = λ m e. subst (R server ino r.page) (some_is e) (f r (inl refl)) }

      go : (e : KnownExtent) → (e ≡ pages.known_row ino r) ⊎ Has e xs → KnownAs R server o e
      go e (inl q) = subst (KnownAs R server o) (sym q) new
      go e (inr i) = h e i

  -- a page without a block
  none_known : (server : ServerId) (o : Option ClientSession) (ino : ℕ) (p : PageNo) (xs : List KnownExtent) → Locked o ino →
      ((e : KnownExtent) → Has e xs → KnownAs R server o e) → (e : KnownExtent) → Has e (pages.with_known (pages.known_unmapped ino p) xs) →
      KnownAs R server o e
  none_known server o ino p xs l h e i = go (has_put (pages.is_known_of ino p) (pages.known_unmapped ino p) xs e i)
    where
      go : (e ≡ pages.known_unmapped ino p) ⊎ Has e xs → KnownAs R server o e
      go (inl q) = subst (KnownAs R server o) (sym q) (record { locked = l; is = λ m z. none_some m z })
      go (inr i) = h e i

  -- Extents that are reported.
  kept_by_effect_extents : (t : Turn) (s : ClientSession) (ino : ℕ) (rows : List ExtentRow) (asked : Body) → t.here.session ≡ Some s →
      state.maps ino asked ≡ true →
      (cr.is_current s.locks asked ≡ true → (r : ExtentRow) → Has r rows → R t.here.server ino r.page (told_at r)) → walk.K R t (cr.extents t s ino rows asked)
  unfolding cr.extents cr.learn
  kept_by_effect_extents t s ino rows asked e m f h = go (cr.is_current s.locks asked) refl
    where
      l : cr.is_current s.locks asked ≡ true → Locked t.here.session ino
      l c = subst (λ o. Locked o ino) (sym e) (asked_lock s.locks ino asked m c)

      told : (asked : Body) → state.maps ino asked ≡ true → Locked t.here.session ino →
          ((r : ExtentRow) → Has r rows → R t.here.server ino r.page (told_at r)) → (x : KnownExtent) → Has x (cr.learned ino rows asked t.here.store).extents →
          KnownAs R t.here.server t.here.session x
      told (bodies.Map i g p) n l f = by rows f
        where
          by : (rows : List ExtentRow) → ((r : ExtentRow) → Has r rows → R t.here.server ino r.page (told_at r)) → (x : KnownExtent) →
              Has x (cr.learn_map ino p rows t.here.store).extents → KnownAs R t.here.server t.here.session x
          by [] f = none_known t.here.server t.here.session ino p t.here.store.extents l h.known
          by (r ∷ rs) f = rows_known t.here.server t.here.session ino (r ∷ rs) t.here.store.extents l f h.known
      told (bodies.Allocate i g p count) n l f = rows_known t.here.server t.here.session ino rows t.here.store.extents l f h.known
      told b n l f = cc n

      go : (b : Bool) → cr.is_current s.locks asked ≡ b → walk.At R (if b then with_store (cr.learned ino rows asked t.here.store) t else t)
      go true c = record { known = told asked m (l c) (f c); said = h.said }
      go false c = h

  kept_by_effect_queued : (t : Turn) (s : ClientSession) (now : Stamp) (ino : ℕ) (mode : Mode) → t.here.session ≡ Some s →
      walk.K R t (cr.queued t s now ino mode)
  unfolding cr.queued cr.wait_unless_held cr.wait_told
  kept_by_effect_queued t s now ino mode e = walk.kept_by_session R t s (cr.wait_unless_held s ino mode now) e
      (λ j. go (Rattle.st_base.specs.Mode.covers (locks.mode_of s.locks ino) mode) j)
    where
      go : (b : Bool) (j : ℕ) → HasLock s.locks.rows j → HasLock (if b then s else cr.wait_told s ino mode now).locks.rows j
      go true j h = h
      go false j h = h

  -- the lock of a file that was removed goes: nothing is known of the file
  kept_by_effect_removed : (t : Turn) (s : ClientSession) (file : Option ℕ) → t.here.session ≡ Some s →
      ((ino : ℕ) → file ≡ Some ino → (x : KnownExtent) → Has x t.here.store.extents → x.ino ≡ ino → ⊥) → walk.K R t (cr.removed t s file)
  unfolding cr.removed cr.drop_held cr.drop_lock locks.drop_lock
  kept_by_effect_removed t s None e n h = h
  kept_by_effect_removed t s (Some ino) e n h = go (locks.lock_of s.locks ino)
    where
      go : (o : Option HeldLock) → walk.At R (cr.drop_held t s ino o)
      go None = h
      go (Some l) = walk.locked_on R t.here.server t.here.session _ t.here.store.extents t.out
          (λ x i k. filter_keeps ino s.locks.rows x.ino (n ino refl x i) (subst (λ o. Locked o x.ino) e k)) h

  kept_by_effect_named : (t : Turn) (s : ClientSession) (file : Option ℕ) (reply : NameReply) → t.here.session ≡ Some s →
      ((ino : ℕ) → file ≡ Some ino → (x : KnownExtent) → Has x t.here.store.extents → x.ino ≡ ino → ⊥) → walk.K R t (cr.named t s file reply)
  unfolding cr.named cr.named_as answer_each
  kept_by_effect_named t s file (Ino ino) e n h = kept_by_effect_removed (answer_each (state.is_asked t.here.server) (cr.name_answer (Ino ino)) t) s file e n
      (walk.kept_by_answers R t (state.is_asked t.here.server) (cr.name_answer (Ino ino)) h)
  kept_by_effect_named t s file (Listed rows) e n h = walk.kept_by_answers R t (state.is_asked t.here.server) (cr.name_answer (Listed rows)) h
  kept_by_effect_named t s file (Refused code) e n h = walk.kept_by_answers R t (state.is_asked t.here.server) (cr.name_answer (Refused code)) h

  kept_by_effect_refused : (t : Turn) (w : Why) (a b : ℕ) (file : Option ℕ) (asked : Body) → walk.K R t (cr.refused t w a b file asked)
  unfolding cr.refused cr.leave_stuck cr.refuse_as cr.refuse_file cr.refuse_page cr.refuse_holder
  kept_by_effect_refused t w a b file asked h = go w file
    where
      page : (file : Option ℕ) (p : Option PageNo) → walk.At R (cr.refuse_page t (answers.NoSpace a b) file p)
      page None p = h
      page (Some ino) None = h
      page (Some ino) (Some p) = walk.kept_by_answers R t _ _ h

      holder : (x : Bool) → walk.At R (if x then answer_each (state.is_asked t.here.server) answers.NotHolder t else t)
      holder true = walk.kept_by_answers R t _ _ h
      holder false = h

      go : (w : Why) (file : Option ℕ) → walk.At R (cr.refuse_as t w a b file asked)
      go why.NoFile None = h
      go why.NoFile (Some ino) = walk.kept_by_answers R t _ _ h
      go why.TooManyLocks None = h
      go why.TooManyLocks (Some ino) = walk.kept_by_answers R t _ _ h
      go why.NoSpace file = page file (state.page_asked asked)
      go why.NotHolder file = holder (state.asks_cut_or_remove asked)
      go w file = h

  -- what is owed of a reply: extents that it tells, and a file that it removes
  pub record Right (t : Turn) (s : ClientSession) (b : Body) (file : Option ℕ) (asked : Body) : Type 0 where
    pub maps : (ino : ℕ) (rows : List ExtentRow) → b ≡ bodies.Extents ino rows → state.maps ino asked ≡ true
    pub told : (ino : ℕ) (rows : List ExtentRow) → b ≡ bodies.Extents ino rows → cr.is_current s.locks asked ≡ true → (r : ExtentRow) → Has r rows →
        R t.here.server ino r.page (told_at r)
    pub gone : (reply : NameReply) → b ≡ bodies.Named reply → (ino : ℕ) → file ≡ Some ino → (x : KnownExtent) → Has x t.here.store.extents → x.ino ≡ ino → ⊥

  kept_by_effect_effect : (t : Turn) (s : ClientSession) (now : Stamp) (b : Body) (file : Option ℕ) (asked : Body) → t.here.session ≡ Some s →
      Right t s b file asked → walk.K R t (cr.effect t s now b file asked)
  unfolding cr.effect cr.acknowledged cr.reasserted
  kept_by_effect_effect t s now b file asked e f h = go b f
    where
      go : (b : Body) → Right t s b file asked → walk.At R (cr.effect t s now b file asked)
      go (bodies.Granted ino g mode) f = walk.kept_by_granted R t s ino g mode e h
      go (bodies.Queued ino mode) f = kept_by_effect_queued t s now ino mode e h
      go (bodies.Extents ino rows) f = kept_by_effect_extents t s ino rows asked e (f.maps ino rows refl) (f.told ino rows refl) h
      go bodies.Ack f = walk.kept_by_answers R t _ _ h
      go (bodies.Named reply) f = kept_by_effect_named t s file reply e (f.gone reply refl) h
      go bodies.Reasserted f = walk.kept_by_session R t s (record s { due = false }) e (λ j x. x) h
      go (bodies.Nack w a b) f = kept_by_effect_refused t w a b file asked h
      go b f = h

  module _ (h : Header) (body : Body) where
    -- a message of this session
    abbrev Mine : Turn → ClientSession → Type 0
    Mine t s = (h.from ≡ server_node t.here.server) × (h.life ≡ t.here.life.0) × (h.epoch ≡ s.epoch.0)

    -- a file that a reply to a request for a name removes: nothing is known of it
    cleared : (t : Turn) (s : ClientSession) (q : Request) → Cleared t.here → t.here.session ≡ Some s → s.requests.asked ≡ Some q →
        state.asks_name q.body ≡ true → (ino : ℕ) → state.file_asked s.cutting q.body ≡ Some ino → (x : KnownExtent) → Has x t.here.store.extents →
        x.ino ≡ ino → ⊥
    cleared t s q c e a n ino f x i j = by q.body refl n f
      where
        by : (b : Body) → q.body ≡ b → state.asks_name b ≡ true → state.file_asked s.cutting b ≡ Some ino → ⊥
        by (bodies.Name op) k n f = (c ino (page_no 0) (record { session = s; is = e; request = q; asked = a; from = ap cuts_from k; cutting = f })).known x i j
            (omega arith)
        by b k n f = cc n

    kept_by_reply_to : (t : Turn) (s : ClientSession) (now stamp : Stamp) (q : Request) → t.here.session ≡ Some s → s.requests.asked ≡ Some q → Cleared t.here →
        Tells R t.here h body → Mine t s → cr.is_counting h.number body q ≡ true →
        walk.K R t (cr.reply_to t s now stamp body q.body)
    unfolding cr.reply_to cr.end_request cr.note_renewal cr.note_lease
    kept_by_reply_to t s now stamp q e a c told mine counts x = go (lease.is_renewal stamp s.lease)
      where
        r : ClientSession
        r = cr.ended_by stamp s

        v : Bool → Turn
        v b = with_session r (if b then cr.note_lease (lease.renewed stamp s.lease) t else t)

        fits : state.fits body q.body ≡ true
        fits = (and_true (state.is_request_of h.number q) (state.fits body q.body) counts).1

        names : (reply : NameReply) → body ≡ bodies.Named reply → state.asks_name q.body ≡ true
        names reply z = subst (λ y. state.fits y q.body ≡ true) z fits

        right_noted : Right (v true) r body (state.file_asked s.cutting q.body) q.body
        right_noted =
            record {
              maps = λ ino rows z. fits_maps ino rows q.body (subst (λ y. state.fits y q.body ≡ true) z fits);
              told = λ ino rows z k y i. told s q ino rows e mine.0 mine.1 mine.2 a z counts k y i;
              gone = λ reply z ino f y i. cleared t s q c e a (names reply z) ino f y i;
            }

        right : Right (v false) r body (state.file_asked s.cutting q.body) q.body
        right =
            record {
              maps = λ ino rows z. fits_maps ino rows q.body (subst (λ y. state.fits y q.body ≡ true) z fits);
              told = λ ino rows z k y i. told s q ino rows e mine.0 mine.1 mine.2 a z counts k y i;
              gone = λ reply z ino f y i. cleared t s q c e a (names reply z) ino f y i;
            }

        go : (b : Bool) → walk.At R (cr.effect (v b) r now body (state.file_asked s.cutting q.body) q.body)
        go true = kept_by_effect_effect (v true) r now body (state.file_asked s.cutting q.body) q.body refl right_noted
            (walk.kept_by_session R (cr.note_lease (lease.renewed stamp s.lease) t) s r e (λ j y. y) (walk.kept_by_note R t _ x))
        go false = kept_by_effect_effect (v false) r now body (state.file_asked s.cutting q.body) q.body refl right
            (walk.kept_by_session R t s r e (λ j y. y) x)

    kept_by_counted : (t : Turn) (s : ClientSession) (now : Stamp) (stamp : Stamp) (o : Option Request) → t.here.session ≡ Some s → s.requests.asked ≡ o →
        Cleared t.here → Tells R t.here h body → Mine t s → walk.K R t (cr.counted t s now h.number stamp body o)
    unfolding cr.counted cr.by_request cr.count_reply
    kept_by_counted t s now stamp None e a c told mine = walk.kept_by_nothing R t
    kept_by_counted t s now stamp (Some q) e a c told mine = by (cr.is_counting h.number body q) refl
      where
        by : (b : Bool) → cr.is_counting h.number body q ≡ b → walk.K R t (if b then cr.count_reply t s now stamp body q.body else t)
        by true z = walk.kept_by_choice R t (cr.refuses_reassertion body q.body) _ _ (walk.kept_by_condemn R t s e)
            (kept_by_reply_to t s now stamp q e a c told mine z)
        by false z = walk.kept_by_nothing R t

    kept_by_reply : (t : Turn) (s : ClientSession) (now : Stamp) → t.here.session ≡ Some s → Cleared t.here → Tells R t.here h body → Mine t s →
        walk.K R t (cr.reply_of t s now h body)
    unfolding cr.reply_of
    kept_by_reply t s now e c told mine = kept_by_counted t s now _ s.requests.asked e refl c told mine

    kept_by_of_epoch : (t : Turn) (s : ClientSession) (now : Stamp) → t.here.session ≡ Some s → Cleared t.here → Tells R t.here h body → Mine t s → (b : Body) →
        body ≡ b → walk.K R t (cr.of_epoch t s now h b)
    unfolding cr.of_epoch cr.grant_or_reply
    kept_by_of_epoch t s now e c told mine b is = go b is
      where
        reply : (b : Body) → body ≡ b → walk.K R t (cr.reply_of t s now h b)
        reply b is = subst (λ y. walk.K R t (cr.reply_of t s now h y)) is (kept_by_reply t s now e c told mine)

        nack : (w : Why) (a b : ℕ) → body ≡ bodies.Nack w a b → walk.K R t (cr.nack t s now h w a b)
        nack why.Suspect a b is = walk.kept_by_condemn R t s e
        nack why.NoSession a b is = walk.kept_by_condemn R t s e
        nack why.OtherEpoch a b is = walk.kept_by_nothing R t
        nack why.Grace a b is = walk.kept_by_nothing R t
        nack why.GraceOver a b is = walk.kept_by_condemn R t s e
        nack why.Conflict a b is = walk.kept_by_condemn R t s e
        nack w a b is = reply (bodies.Nack w a b) is

        go : (b : Body) → body ≡ b → walk.K R t (cr.of_epoch t s now h b)
        go (bodies.Nack w a b) is = nack w a b is
        go (bodies.Granted ino g mode) is = walk.kept_by_choice R t (h.number == 0) _ _ (walk.kept_by_granted R t s ino g mode e)
            (reply (bodies.Granted ino g mode) is)
        go (bodies.Demand ino g to) is = walk.kept_by_demand R t s ino g to e
        go b is = reply b is

    kept_by_other : (t : Turn) (s : ClientSession) (epoch : Epoch) (b : Body) → t.here.session ≡ Some s → walk.K R t (cr.of_other_epoch t s epoch b)
    unfolding cr.of_other_epoch cr.newer_epoch cr.follow_epoch locks.forget_demands
    kept_by_other t s epoch (bodies.Nack why.OtherEpoch a b) e =
        walk.kept_by_choice R t (cr.is_newer s epoch) _ t
        (λ x. walk.kept_by_answers R (with_session (cr.in_epoch epoch s) t) _ _ (walk.kept_by_session R t s (cr.in_epoch epoch s) e (λ j y. y) x))
        (walk.kept_by_nothing R t)
    kept_by_other t s epoch (bodies.Nack w a b) e = walk.kept_by_nothing R t
    kept_by_other t s epoch b e = walk.kept_by_nothing R t

    -- without a session nothing is known
    kept_by_without : (t : Turn) (now : Stamp) (b : Body) → t.here.session ≡ None → walk.K R t (cr.without_session t now h b)
    unfolding cr.without_session cr.welcome cr.begin_session cr.note_lease
    kept_by_without t now bodies.Welcome e =
        let s = cr.new_session (record { 0 = h.epoch }) (record { 0 = h.stamp }) in
        walk.kept_by_choice R t (cr.is_timely t now (record { 0 = h.stamp })) _ t
        (λ x. walk.kept_by_note R (cr.begin_here s t) _
        (walk.locked_on R t.here.server t.here.session (Some s) t.here.store.extents t.out (λ y i l. absurd (subst (λ o. Locked o y.ino) e l)) x))
        (walk.kept_by_nothing R t)
    kept_by_without t now b e = walk.kept_by_nothing R t

    pub kept_by_receive : (now : Stamp) (t : Turn) → Cleared t.here → Tells R t.here h body → walk.K R t (cr.receive_at now h body t)
    unfolding cr.receive_at cr.by_session cr.with_a_session
    kept_by_receive now t c told = received (cr.is_received t now h) refl
      where
        go : cr.is_received t now h ≡ true → (o : Option ClientSession) → t.here.session ≡ o → walk.K R t (cr.by_session t now h body o)
        go x None e = kept_by_without t now body e
        go x (Some s) e = epoch (h.epoch == s.epoch.0) refl
          where
            epoch : (b : Bool) → (h.epoch == s.epoch.0) ≡ b →
                walk.K R t (if b then cr.of_epoch t s now h body else cr.of_other_epoch t s (record { 0 = h.epoch }) body)
            epoch true q = kept_by_of_epoch t s now e c told
                (let y = and_true (h.from == server_node t.here.server) _ x in
                (eqb-true _ _ y.0, eqb-true _ _ (and_true (h.life == t.here.life.0) _ y.1).0, eqb-true _ _ q)) body refl
            epoch false q = kept_by_other t s (record { 0 = h.epoch }) body e

        received : (b : Bool) → cr.is_received t now h ≡ b → walk.K R t (if b then cr.by_session t now h body t.here.session else t)
        received true x = go x t.here.session refl
        received false x = walk.kept_by_nothing R t
