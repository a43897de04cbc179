-- What a client does with a message, walked at one server.
use Rattle.st_lemmas.proofs.Words
use Words.{◌≡◌, ℕ, true, false, not, ◌==◌, Option, Some, None, refl, ap, ◌&&◌, nat_le, eqb-true, leb-true, GrantNo, PageNo, Stamp, Mode, Body, Header}
use Words.{NameReply, Why, Asked, HeldLock, Request}
use Words.modes
use Words.answers
use Words.bodies
use Words.replies as names
use Words.why
use Words.Dating.{may_date}
use Words.Keys.{server_node}
use Words.ClientLease as lease
use Words.ClientLocks as locks
use Words.ClientReplies as cr
use Words.ClientState as cs
use Words.ClientState.{ClientSession, Turn, with_cache, with_release, with_session}
use Words.Tables.{and_true, cond_either}
use Rattle.st_base.specs.Mode.{covers}
use Rattle.st_rules.specs.declared.client.Asked.TheVariants as demands
use Rattle.st_trace.specs.Client.Messages.{stamp_of, epoch_of, Received, Met, Heard, Condemns, IsSuspect, HasNoSession, IsAfterGrace, Conflicts, RefusesLocks}
use Rattle.st_trace.specs.Client.Messages.{Grants, Installs, Declines, IsOld, Refusal, NoFile, TooManyLocks, NoSpace, NotHolder, AnswersNone, HasNoFile}
use Rattle.st_trace.specs.Client.Messages.{HoldsNone, IsListed, Effect, IsGranted, IsQueued, HoldsAlready, IsToldExtents, IsToldLate, IsAcknowledged, IsNamed}
use Rattle.st_trace.specs.Client.Messages.{IsRemoved, IsReasserted, Renews, IsLater, IsNoLater, Receives, PassesOver, Begins, FollowsEpoch, IsCondemned}
use Rattle.st_trace.specs.Client.Messages.{IsGrantedLater, SeesDemand, GivesUp, HasGivenUp, IsAnswered}
use Rattle.st_trace.specs.Client.Messages as trace

-- What becomes of a grant
pub grants : (s : ClientSession) (ino : ℕ) (g : GrantNo) (mode : Mode) → Grants s ino g mode (cr.grant s ino g mode)
unfolding cr.grant cr.grant_new cr.accept_grant cr.decline
grants s ino g mode =
    cond_either (Grants s ino g mode) (locks.is_above_seen s.locks ino g) _ s
    (λ a. cond_either (Grants s ino g mode) (locks.has_place s.locks ino) _ _ (λ p. Installs a p) (λ p. Declines a p)) (λ a. IsOld a)

-- A refusal
refusal : (t : Turn) (file : Option ℕ) (asked : Body) (w : Why) (a b : ℕ) → Refusal t file asked w a b (cr.refuse_as t w a b file asked)
unfolding cr.refuse_as cr.refuse_file cr.refuse_page cr.refuse_holder
refusal t file asked why.NoFile a b = go file refl
  where
    go : (f : Option ℕ) → file ≡ f → Refusal t file asked why.NoFile a b (cr.refuse_file t answers.NoFile f)
    go None e = AnswersNone why.NoFile a b
    go (Some ino) e = NoFile a b ino e
refusal t file asked why.TooManyLocks a b = go file refl
  where
    go : (f : Option ℕ) → file ≡ f → Refusal t file asked why.TooManyLocks a b (cr.refuse_file t answers.TooManyLocks f)
    go None e = AnswersNone why.TooManyLocks a b
    go (Some ino) e = TooManyLocks a b ino e
refusal t file asked why.NoSpace a b = go file refl (cs.page_asked asked) refl
  where
    go : (f : Option ℕ) → file ≡ f → (p : Option PageNo) → cs.page_asked asked ≡ p → Refusal t file asked why.NoSpace a b
        (cr.refuse_page t (answers.NoSpace a b) f p)
    go None e p q = AnswersNone why.NoSpace a b
    go (Some ino) e None q = AnswersNone why.NoSpace a b
    go (Some ino) e (Some p) q = NoSpace a b ino p e q
refusal t file asked why.NotHolder a b =
    cond_either (Refusal t file asked why.NotHolder a b) (cs.asks_cut_or_remove asked) _ t (λ e. NotHolder a b e) (λ e. AnswersNone why.NotHolder a b)
refusal t file asked w a b = AnswersNone w a b

-- What a reply does
named : (now : Stamp) (t : Turn) (s : ClientSession) (file : Option ℕ) (asked : Body) (r : NameReply) → Effect now t s file asked (bodies.Named r)
    (cr.named t s file r)
unfolding cr.named cr.named_as cr.removed cr.drop_held cr.drop_lock
named now t s file asked (names.Ino ino) = go file refl
  where
    u : Turn
    u = cs.answer_each (cs.is_asked t.here.server) (answers.Named ino) t

    held : (removed : ℕ) → file ≡ Some removed → (l : Option HeldLock) → locks.lock_of s.locks removed ≡ l →
        Effect now t s file asked (bodies.Named (names.Ino ino)) (cr.drop_held u s removed l)
    held removed e None q = IsNamed (names.Ino ino) (HoldsNone ino removed e q)
    held removed e (Some l) q = IsRemoved ino removed l e q

    go : (f : Option ℕ) → file ≡ f → Effect now t s file asked (bodies.Named (names.Ino ino)) (cr.removed u s f)
    go None e = IsNamed (names.Ino ino) (HasNoFile ino e)
    go (Some removed) e = held removed e (locks.lock_of s.locks removed) refl
named now t s file asked (names.Listed rows) = IsNamed (names.Listed rows) (IsListed rows)
named now t s file asked (names.Refused code) = IsNamed (names.Refused code) (trace.DropsNone.IsRefused code)

effect : (now : Stamp) (t : Turn) (s : ClientSession) (file : Option ℕ) (asked b : Body) → cs.fits b asked ≡ true → Effect now t s file asked b
    (cr.effect t s now b file asked)
unfolding cr.effect cr.granted cr.queued cr.wait_unless_held cr.wait_told cr.extents cr.learn cr.acknowledged cr.reasserted cr.refused cr.leave_stuck
effect now t s file asked (bodies.Granted ino g mode) f = IsGranted ino g mode _ (grants (cs.forget_wait ino s) ino g mode)
effect now t s file asked (bodies.Queued ino mode) f =
    cond_either (λ v. Effect now t s file asked (bodies.Queued ino mode) (with_session v t)) (covers (locks.mode_of s.locks ino) mode) _ _
    (λ e. HoldsAlready ino mode e) (λ e. IsQueued ino mode e)
effect now t s file asked (bodies.Extents ino rows) f =
    cond_either (Effect now t s file asked (bodies.Extents ino rows)) (cr.is_current s.locks asked) _ t (λ e. IsToldExtents ino rows e)
    (λ e. IsToldLate ino rows e)
effect now t s file asked bodies.Ack f = IsAcknowledged
effect now t s file asked (bodies.Named r) f = named now t s file asked r
effect now t s file asked bodies.Reasserted f = IsReasserted
effect now t s file asked (bodies.Nack w a b) f = trace.Effect.IsRefused w a b _ (refusal t file asked w a b)
effect now t s file asked b f = cc

renews : (t : Turn) (s : ClientSession) (stamp : Stamp) → Renews t s stamp (cr.note_renewal t s stamp)
unfolding cr.note_renewal cr.note_lease
renews t s stamp = cond_either (Renews t s stamp) (lease.is_renewal stamp s.lease) _ t (λ e. IsLater e) (λ e. IsNoLater e)

module _ (now : Stamp) (h : Header) (t : Turn) where
  abbrev R : Body → Turn → Type 0
  R b u = Receives now h t b u

  without : Received now h t → t.here.session ≡ None → (b : Body) → R b (cr.without_session t now h b)
  unfolding cr.without_session cr.welcome cr.begin_session cr.note_lease
  without r e bodies.Welcome = cond_either (R bodies.Welcome) (cr.is_timely t now (stamp_of h)) _ t (λ i. Begins r e i) (λ i. PassesOver bodies.Welcome)
  without r e b = PassesOver b

  other : (s : ClientSession) → Met now h t s → (b : Body) → R b (cr.of_other_epoch t s (epoch_of h) b)
  unfolding cr.of_other_epoch cr.newer_epoch cr.follow_epoch
  other s m (bodies.Nack w x y) = go w
    where
      go : (w : Why) → R (bodies.Nack w x y) (cr.refused_in t s (epoch_of h) w)
      go why.OtherEpoch = cond_either (R (bodies.Nack why.OtherEpoch x y)) (cr.is_newer s (epoch_of h)) _ t (λ e. FollowsEpoch s x y m e)
          (λ e. PassesOver (bodies.Nack why.OtherEpoch x y))
      go w = PassesOver (bodies.Nack w x y)
  other s m b = PassesOver b

  reply : (s : ClientSession) → Heard now h t s → (b : Body) → may_date h.number b ≡ true → R b (cr.reply_of t s now h b)
  unfolding cr.reply_of cr.counted cr.by_request cr.count_reply cr.condemn cr.reply_to cr.end_request
  reply s m b i = go s.requests.asked refl
    where
      answered : (q : Request) → s.requests.asked ≡ Some q → cr.is_counting h.number b q ≡ true → cr.refuses_reassertion b q.body ≡ false → R b
          (cr.reply_to t s now (stamp_of h) b q.body)
      answered q e c k =
          let z = and_true (cs.is_request_of h.number q) (cs.fits b q.body) c in
          let v = cr.note_renewal t s (stamp_of h) in
          IsAnswered b s q v _ (record { heard = m; asked = e; number = eqb-true q.number h.number z.0; fits = z.1; dates = i; kept = k })
          (renews t s (stamp_of h))
          (effect now (with_session (cr.ended_by (stamp_of h) s) v) (cr.ended_by (stamp_of h) s) (cs.file_asked s.cutting q.body) q.body b z.1)

      go : (o : Option Request) → s.requests.asked ≡ o → R b (cr.counted t s now h.number (stamp_of h) b o)
      go None e = PassesOver b
      go (Some q) e =
          cond_either (R b) (cr.is_counting h.number b q) _ t
          (λ c. cond_either (R b) (cr.refuses_reassertion b q.body) _ _ (λ k. IsCondemned b s m (RefusesLocks b q e c k)) (λ k. answered q e c k))
          (λ c. PassesOver b)

  condemned : (s : ClientSession) → Heard now h t s → (b : Body) → Condemns h s b → R b (cr.condemn t s)
  unfolding cr.condemn
  condemned s m b c = IsCondemned b s m c

  nacked : (s : ClientSession) → Heard now h t s → (w : Why) (x y : ℕ) → R (bodies.Nack w x y) (cr.nack t s now h w x y)
  nacked s m why.Suspect x y = condemned s m _ (IsSuspect x y)
  nacked s m why.NoSession x y = condemned s m _ (HasNoSession x y)
  nacked s m why.OtherEpoch x y = PassesOver (bodies.Nack why.OtherEpoch x y)
  nacked s m why.Grace x y = PassesOver (bodies.Nack why.Grace x y)
  nacked s m why.GraceOver x y = condemned s m _ (IsAfterGrace x y)
  nacked s m why.Conflict x y = condemned s m _ (Conflicts x y)
  nacked s m w x y = reply s m (bodies.Nack w x y) refl

  demanded : (s : ClientSession) → Heard now h t s → (ino : ℕ) (g : GrantNo) (to : Mode) → R (bodies.Demand ino g to) (cr.demand t s ino g to)
  unfolding cr.demand cr.demand_by cr.demand_as cr.observe_demand cr.release_unheld
  demanded s m ino g to = go (locks.demand s.locks ino g to).asked refl
    where
      r : ClientSession
      r = with_cache (locks.demand s.locks ino g to).locks s

      go : (a : Asked) → (locks.demand s.locks ino g to).asked ≡ a → R (bodies.Demand ino g to) (cr.demand_as t r ino g a)
      go demands.Reduce e = SeesDemand ino g to s m e
      go demands.NotHeld e =
          cond_either (λ v. R (bodies.Demand ino g to) (with_session v t)) (cr.has_release r ino g) r (with_release ino g modes.None r)
          (λ k. HasGivenUp ino g to s m e k) (λ k. GivesUp ino g to s m e k)
      go demands.Stale e = PassesOver (bodies.Demand ino g to)

  of_epoch : (s : ClientSession) → Heard now h t s → (b : Body) → R b (cr.of_epoch t s now h b)
  unfolding cr.of_epoch cr.grant_or_reply cr.granted
  of_epoch s m (bodies.Nack w x y) = nacked s m w x y
  of_epoch s m (bodies.Granted ino g mode) =
      cond_either (R (bodies.Granted ino g mode)) (h.number == 0) _ _ (λ e. IsGrantedLater ino g mode s _ m (eqb-true h.number 0 e)
      (grants (cs.forget_wait ino s) ino g mode))
      (λ e. reply s m (bodies.Granted ino g mode) (ap not e))
  of_epoch s m (bodies.Demand ino g to) = demanded s m ino g to
  of_epoch s m b = reply s m b refl

  -- A message
  pub receives : (b : Body) → R b (cr.receive_at now h b t)
  unfolding cr.receive_at cr.by_session cr.with_a_session
  receives b = cond_either (R b) (cr.is_received t now h) _ t (λ r. by (meets r) t.here.session refl) (λ r. PassesOver b)
    where
      meets : cr.is_received t now h ≡ true → Received now h t
      meets r =
          let x = and_true (h.from == server_node t.here.server) ((h.life == t.here.life.0) && nat_le h.stamp now.0) r in
          let y = and_true (h.life == t.here.life.0) (nat_le h.stamp now.0) x.1 in
          record { from = eqb-true h.from (server_node t.here.server) x.0; life = eqb-true h.life t.here.life.0 y.0; stamp = leb-true h.stamp now.0 y.1 }

      by : Received now h t → (x : Option ClientSession) → t.here.session ≡ x → R b (cr.by_session t now h b x)
      by r None e = without r e b
      by r (Some s) e =
          cond_either (R b) (h.epoch == s.epoch.0) _ _ (λ q. of_epoch s (record { received = r; session = e; epoch = eqb-true h.epoch s.epoch.0 q }) b)
          (λ q. other s (record { received = r; session = e }) b)
