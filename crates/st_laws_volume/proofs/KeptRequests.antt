-- What an outstanding request asks is left by all rules of a client but the pass over its requests: a
-- fact of it lasts until the request ends.
use Rattle.st_lemmas.proofs.Words
use Words.{◌≡◌, ℕ, Bool, List, Option, Some, None, subst, Body, GrantNo, Header, Mode, Operation, PageNo, Request, Stamp}
use Words.ClientReplies as cr
use Words.ClientState as cs
use Words.ClientState.{Association, ClientSession, Turn}
use Rattle.st_trace.specs.Client.Messages as trace
use Rattle.st_trace.specs.Client.Messages.{Effect, Grants, Receives, Refusal}
use Rattle.st_trace.specs.Client.Operations as pass
use Rattle.st_trace.specs.Client.Operations.{Operated}
use Rattle.st_trace.specs.Client.Passes.{IsReduced, IsWritten, Reduced, StaysDirty, StaysHeld, WritesOut}
use Rattle.st_trace.specs.Client.Requests as asking
use Rattle.st_trace.specs.Client.Requests.{Greets}
use Rattle.st_trace.proofs.Client.Receiving.{receives}

module _ (So : Body → Type 0) where
  abbrev pub AsksSo : Option Request → Type 0
  AsksSo None = Unit {0}
  AsksSo (Some q) = So q.body

  abbrev pub SessionAsks : Option ClientSession → Type 0
  SessionAsks None = Unit {0}
  SessionAsks (Some v) = AsksSo v.requests.asked

  abbrev pub SoHere : Association → Type 0
  SoHere a = SessionAsks a.session

  -- A message asks nothing.
  after_grant : (s : ClientSession) (ino : ℕ) (g : GrantNo) (mode : Mode) (v : ClientSession) →
      Grants s ino g mode v → AsksSo s.requests.asked →
      AsksSo v.requests.asked
  after_grant s ino g mode _ (trace.Installs x y) h = h
  after_grant s ino g mode _ (trace.Declines x y) h = h
  after_grant s ino g mode _ (trace.IsOld x) h = h

  after_refusal : (t : Turn) (file : Option ℕ) (asked : Body) (w : _) (a b : ℕ) (u : Turn) →
      Refusal t file asked w a b u → SoHere t.here → SoHere u.here
  unfolding cs.answer_each
  after_refusal t file asked _ a b _ (trace.NoFile _ _ ino f) h = h
  after_refusal t file asked _ a b _ (trace.TooManyLocks _ _ ino f) h = h
  after_refusal t file asked _ a b _ (trace.NoSpace _ _ ino p f g) h = h
  after_refusal t file asked _ a b _ (trace.NotHolder _ _ f) h = h
  after_refusal t file asked w a b _ (trace.AnswersNone _ _ _) h = h

  after_effect : (now : Stamp) (t : Turn) (s : ClientSession) (file : Option ℕ) (asked b : Body)
      (u : Turn) → AsksSo s.requests.asked → SoHere t.here →
      Effect now t s file asked b u → SoHere u.here
  unfolding cs.answer_each
  after_effect now t s file asked _ _ o h (trace.IsGranted ino g mode v x) =
      after_grant (cs.forget_wait ino s) ino g mode v x o
  after_effect now t s file asked _ _ o h (trace.IsQueued ino mode y) = o
  after_effect now t s file asked _ _ o h (trace.HoldsAlready ino mode y) = o
  after_effect now t s file asked _ _ o h (trace.IsToldExtents ino rows y) = h
  after_effect now t s file asked _ _ o h (trace.IsToldLate ino rows y) = h
  after_effect now t s file asked _ _ o h trace.IsAcknowledged = h
  after_effect now t s file asked _ _ o h (trace.IsNamed r d) = h
  after_effect now t s file asked _ _ o h (trace.IsRemoved ino removed l f y) = o
  after_effect now t s file asked _ _ o h trace.IsReasserted = o
  after_effect now t s file asked _ _ o h (trace.Effect.IsRefused w a b u f) =
      after_refusal t file asked w a b u f h

  pub received : (now : Stamp) (h : Header) (b : Body) (t : Turn) → SoHere t.here →
      SoHere (cr.receive_at now h b t).here
  unfolding cs.send cs.answer_each
  received now m b t o = go b (cr.receive_at now m b t) (receives now m t b)
    where
      session : (s : ClientSession) → t.here.session ≡ Some s → AsksSo s.requests.asked
      session s e = subst SessionAsks e o

      go : (b : Body) (u : Turn) → Receives now m t b u → SoHere u.here
      go _ _ (trace.PassesOver b) = o
      go _ _ (trace.Begins r e j) = tt
      go _ _ (trace.FollowsEpoch s a b n f) = tt
      go _ _ (trace.IsCondemned b s n f) = session s n.session
      go _ _ (trace.IsGrantedLater ino g mode s v n e x) =
          after_grant (cs.forget_wait ino s) ino g mode v x (session s n.session)
      go _ _ (trace.SeesDemand ino g to s n e) = session s n.session
      go _ _ (trace.GivesUp ino g to s n e f) = session s n.session
      go _ _ (trace.HasGivenUp ino g to s n e f) = session s n.session
      go _ _ (trace.IsAnswered b s q v u r n f) =
          after_effect now (cs.with_session (cr.ended_by (trace.stamp_of m) s) v)
          (cr.ended_by (trace.stamp_of m) s) (cs.file_asked s.cutting q.body) q.body b u
          tt tt f

  -- The passes.
  pub after_pass : (now : Stamp) (all : List Operation) (o : Operation) (t u : Turn) →
      Operated now all o t u → SoHere t.here → SoHere u.here
  after_pass now all o t _ pass.Waits h = h
  after_pass now all o t _ (pass.IsHard f e q d) h = h
  after_pass now all o t _ (pass.IsQuiesced s own n there none unsent) h = h
  after_pass now all o t _ (pass.ChangesPage s f p bytes n v c m e) h = h
  after_pass now all o t _ (pass.IsDirtyFull s f p bytes n v c m e) h = h
  after_pass now all o t _ (pass.Fetches s f p m v n c e r) h = h
  after_pass now all o t _ (pass.ReadsCached s f p bytes v e d q) h = h
  after_pass now all o t _ (pass.ReadsZeros s f p e v a d q j m) h = h

  pub after_reduction : (ino : ℕ) (t u : Turn) → Reduced ino t u → SoHere t.here → SoHere u.here
  after_reduction ino t _ StaysHeld h = h
  after_reduction ino t _ (IsReduced s g to e m q) h = subst SessionAsks e h

  pub after_write : (now : Stamp) (tick : Bool) (x : ℕ × PageNo) (t u : Turn) →
      WritesOut now tick x t u → SoHere t.here → SoHere u.here
  after_write now tick x t _ StaysDirty h = h
  after_write now tick x t _ (IsWritten s d m e q i j) h = h

  pub after_greeting : (now : Stamp) (tick : Bool) (t u : Turn) → Greets now tick t u →
      SoHere t.here → SoHere u.here
  unfolding cs.send
  after_greeting now tick t _ asking.IsSilent h = h
  after_greeting now tick t _ (asking.SaysHello e m) h = h
