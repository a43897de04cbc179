-- A fact of a session through the rules of a client: it holds again if each change of the session keeps it. The rules that ask nothing leave the requests of
-- a session, so a fact holds again through them if it does so whenever a session asks nothing.
use Rattle.st_lemmas.proofs.Words
use Words.{◌≡◌, ℕ, ◌<◌, Bool, true, false, List, [], Option, Some, None, subst, if◌then◌else◌, Tag, GrantNo, ServerId, Stamp, Mode, Ask, Body, Header, Asked}
use Words.{KnownExtent, Operation}
use Words.Client as cl
use Words.ClientLocks as locks
use Words.ClientPages.{Store}
use Words.ClientPasses as cp
use Words.ClientReplies as cr
use Words.ClientState.{ClientSession, Turn, only_at, send, with_cache, with_session}
use Words.Truth.{false_not_true}
use Rattle.st_rules.specs.declared.client.Asked.TheVariants.{Reduce, NotHeld, Stale}
use Rattle.st_laws_steps.specs.Client.Client as client
use Rattle.st_laws_steps.specs.Client.Client.{Change, GoesOn, IsBegun}
use Rattle.st_laws_steps.specs.Client.Losses.{Ends, Unknown, Passes, Hardens, Fails, SessionFresh}
use Rattle.st_laws_steps.specs.Client.Session.{AsksNothing, SessionChange, Keeps, DropsLock, IsReasserted, EndsRequest, NewEpoch, AsksNew, AsksAgain}
use Rattle.st_laws_steps.proofs.Client.Asking.{passes_keep_or_ask, requests_keep_or_ask}
use Rattle.st_laws_steps.proofs.Client.Calm.{IsCalm}
use Rattle.st_laws_steps.proofs.Client.Losing.{Finished, calm_only, finish_is, is_done}
use Rattle.st_laws_steps.proofs.Client.Only.{Only}
use Rattle.st_laws_steps.proofs.Client.Only as only
use Rattle.st_laws_steps.proofs.Client.Passing.{FollowsBy, IsPassing, KeepsOrAsks, OnlyAsks, OnlyKeeps}
use Rattle.st_laws_steps.proofs.Client.Replying.{alike_condemned, alike_demanded, alike_unheld, calm_receive, granted_alike}
use Rattle.st_laws_steps.proofs.Client.Working.{greeting_only_keep, operations_only_keep, reductions_only_keep, writes_only_keep}

module _ (Q : ServerId → ℕ → Option ClientSession → Type 0) where
  abbrev At : Turn → Type 0
  At t = Q t.here.server t.here.life.0 t.here.session

  abbrev K : Turn → Turn → Type 0
  K t u = At t → At u

  -- through changes of some kinds: what the changes of the session keep
  module _ (P : (now : Stamp) (t u : Turn) → Change now t u → Type 0)
      (follows : (now : Stamp) (t : Turn) (s u : ClientSession) (e : t.here.session ≡ Some s) (g : GoesOn t.here.store s u) →
      P now t (with_session u t) (client.Follows t s u e g) →
      Q t.here.server t.here.life.0 (Some s) → Q t.here.server t.here.life.0 (Some u))
      (begins : (now : Stamp) (t : Turn) (s : ClientSession) (a : t.here.session ≡ None)
      (b : now.0 < (Rattle.st_rules.specs.ClientLease.end_of t.config s.lease).0) (c : IsBegun s) →
      P now t (with_session s t) (client.Begins t s a b c) → Q t.here.server t.here.life.0 None → Q t.here.server t.here.life.0 (Some s)) where
    change_walked : (now : Stamp) (t u : Turn) (c : Change now t u) → P now t u c → K t u
    unfolding cp.submit_read cp.submit_write cp.submit_command
    change_walked now t _ (client.Says _ o p) q h = h
    change_walked now t _ (client.Operates _ os) q h = h
    change_walked now t _ (client.Answers _ os ops a) q h = h
    change_walked now t _ (client.Greets _ g) q h = h
    change_walked now t _ (client.TellsLost _ lost) q h = h
    change_walked now t _ (client.Begins _ s a b c) q h = begins now t s a b c q (subst (Q t.here.server t.here.life.0) a h)
    change_walked now t _ (client.Follows _ s u e g) q h = follows now t s u e g q (subst (Q t.here.server t.here.life.0) e h)
    change_walked now t _ (client.Learns _ e a b) q h = h
    change_walked now t _ (client.Forgets _ ino p i) q h = h
    change_walked now t _ (client.Caches _ clean) q h = h
    change_walked now t _ (client.Writes _ s f p bytes n se sv own m x) q h = h
    change_walked now t _ (client.Reads _ ino p m i clean) q h = h
    change_walked now t _ (client.Submits _ s ino p d m se e i w) q h = h

    walked : (now : Stamp) (t u : Turn) → Only P now t u → K t u
    walked now t _ (only.Ends _) h = h
    walked now t v (only.Goes _ u _ c q r) h = walked now u v r (change_walked now t u c q h)

  -- the end of a command, and what is done after it, if the session is left
  ends_same : (number : ℕ) (ok : Bool) (t u : Turn) → Ends number ok t u → K t u
  unfolding cl.hardened
  ends_same number ok t _ Unknown h = h
  ends_same number ok t _ (Passes c e o) h = h
  ends_same number ok t _ (Hardens c v e o k w) h = h
  ends_same number ok t _ (Fails c v e o k w) h = h

  idle : (now : Stamp) (t u : Turn) → Only (IsCalm false) now t u → K t u
  idle now t u cs = walked (IsCalm false) (λ now t s u e g q h. false_not_true q) (λ now t s a b c q. false_not_true q) now t u cs

  finished : (now : Stamp) (number : ℕ) (ok : Bool) (t u : Turn) → Finished now number ok t u → K t u
  finished now number ok t u f h = idle now f.mid u f.calm (ends_same number ok t f.mid f.ends h)

  pub sessions_kept_by_finish : (number : ℕ) (r : Option (Option (Tag × List ℕ))) (t : Turn) → K t (cl.finish number r t)
  sessions_kept_by_finish number r t = finished (record { 0 = 0 }) number (is_done r) t (cl.finish number r t) (finish_is (record { 0 = 0 }) number r t)

  pub sessions_kept_by_take : (s : ServerId) (op : ℕ) (ask : Ask) (t : Turn) → K t (only_at s (cl.take_ask op ask) t)
  sessions_kept_by_take s op ask t = idle (record { 0 = 0 }) t (only_at s (cl.take_ask op ask) t) (calm_only (record { 0 = 0 }) s op ask t)

  -- Rules that ask nothing.
  module _ (alike : (xs : List KnownExtent) (server : ServerId) (life : ℕ) (s r : ClientSession) → AsksNothing xs s r → Q server life (Some s) →
      Q server life (Some r)) where
    pub sessions_kept_by_session : (t : Turn) (s r : ClientSession) → t.here.session ≡ Some s → AsksNothing t.here.store.extents s r → K t (with_session r t)
    sessions_kept_by_session t s r e a h = alike t.here.store.extents t.here.server t.here.life.0 s r a (subst (Q t.here.server t.here.life.0) e h)

    keeps : (server : ServerId) (life : ℕ) (st : Store) (s u : ClientSession) (c : SessionChange st s u) → FollowsBy OnlyKeeps st s u c →
        Q server life (Some s) → Q server life (Some u)
    keeps server life st s u (Keeps _ _ a) q h = alike st.extents server life s u a h
    keeps server life st s _ (DropsLock _ ino l) q h = absurd q
    keeps server life st s _ (IsReasserted _) q h = absurd q
    keeps server life st s _ (EndsRequest _ stamp) q h = absurd q
    keeps server life st s _ (NewEpoch _ epoch n) q h = absurd q
    keeps server life st s _ (AsksNew _ r now body cutting a c i) q h = false_not_true q.may
    keeps server life st s _ (AsksAgain _ now x e) q h = false_not_true q.may

    rests : (syncs : List Operation) (now : Stamp) (t u : Turn) → Only (IsPassing syncs OnlyKeeps) now t u → K t u
    rests syncs now t u cs = walked (IsPassing syncs OnlyKeeps) (λ now t s u e g q h. keeps t.here.server t.here.life.0 t.here.store s u g.how q h)
        (λ now t s a b c q. absurd q) now t u cs

    pub sessions_kept_by_operations : (now : Stamp) (t : Turn) → K t (cp.operations now t)
    sessions_kept_by_operations now t = rests t.operations now t (cp.operations now t) (operations_only_keep now t)

    pub sessions_kept_by_reductions : (t : Turn) → K t (cp.reductions t)
    sessions_kept_by_reductions t = rests [] (record { 0 = 0 }) t (cp.reductions t) (reductions_only_keep (record { 0 = 0 }) t)

    pub sessions_kept_by_writes : (now : Stamp) (tick : Bool) (t : Turn) → K t (cp.writes now tick t)
    sessions_kept_by_writes now tick t = rests [] now t (cp.writes now tick t) (writes_only_keep now tick t)

    pub sessions_kept_by_greeting : (now : Stamp) (tick : Bool) (t : Turn) → K t (cp.greeting now tick t)
    sessions_kept_by_greeting now tick t = rests [] now t (cp.greeting now tick t) (greeting_only_keep now tick t)

    pub sessions_kept_by_granted : (t : Turn) (s : ClientSession) (ino : ℕ) (g : GrantNo) (mode : Mode) → t.here.session ≡ Some s →
        K t (cr.granted t s ino g mode)
    unfolding cr.granted
    sessions_kept_by_granted t s ino g mode e = sessions_kept_by_session t s _ e (granted_alike t.here.store.extents s ino g mode)

    pub sessions_kept_by_demand : (t : Turn) (s : ClientSession) (ino : ℕ) (g : GrantNo) (to : Mode) → t.here.session ≡ Some s → K t (cr.demand t s ino g to)
    unfolding cr.demand cr.demand_by cr.demand_as cr.observe_demand send
    sessions_kept_by_demand t s ino g to e = by (locks.demand s.locks ino g to).asked
      where
        r : ClientSession
        r = with_cache (locks.demand s.locks ino g to).locks s

        by : (a : Asked) → K t (cr.demand_as t r ino g a)
        by Reduce h = sessions_kept_by_session t s r e (alike_demanded t.here.store.extents s ino g to) h
        by NotHeld h = sessions_kept_by_session t s _ e (alike_unheld t.here.store.extents s ino g to) h
        by Stale h = h

    pub sessions_kept_by_condemn : (t : Turn) (s : ClientSession) → t.here.session ≡ Some s → K t (cr.condemn t s)
    unfolding cr.condemn
    sessions_kept_by_condemn t s e = sessions_kept_by_session t s _ e (alike_condemned t.here.store.extents s)

  -- a loss ends the session
  pub sessions_kept_by_lose : ((server : ServerId) (life : ℕ) → Q server life None) → (now : Stamp) (t : Turn) → K t (cl.lose now t)
  unfolding cl.lose cl.lose_by cl.lose_over cl.lose_session
  sessions_kept_by_lose none now t h = go t.here.session
    where
      over : (s : ClientSession) (b : Bool) → At (if b then cl.lose_session t s else t)
      over s true = none _ _
      over s false = h

      go : (o : Option ClientSession) → At (cl.lose_by t now o)
      go None = h
      go (Some s) = over s (cl.is_over t s now)

  -- The last pass, which only asks.
  pub sessions_kept_by_requests :
      ((server : ServerId) (life : ℕ) (st : Store) (s u : ClientSession) (c : SessionChange st s u) → FollowsBy OnlyAsks st s u c → Q server life (Some s) →
      Q server life (Some u)) → (now : Stamp) (tick : Bool) (t : Turn) → K t (cp.requests now tick t)
  sessions_kept_by_requests on now tick t =
      walked (IsPassing [] OnlyAsks) (λ now t s u e g q h. on t.here.server t.here.life.0 t.here.store s u g.how q h) (λ now t s a b c q. absurd q) now t
      (cp.requests now tick t) (requests_keep_or_ask now tick t)

  -- All rules.
  module _ (on : (server : ServerId) (life : ℕ) (st : Store) (s u : ClientSession) → SessionChange st s u → Q server life (Some s) → Q server life (Some u))
      (first : (server : ServerId) (life : ℕ) (s : ClientSession) → IsBegun s → Q server life None → Q server life (Some s)) where
    pub sessions_kept_by_passes : (now : Stamp) (tick : Bool) (t : Turn) → K t (cp.passes now tick t)
    sessions_kept_by_passes now tick t =
        walked (IsPassing t.operations KeepsOrAsks) (λ now t s u e g q h. on t.here.server t.here.life.0 t.here.store s u g.how h) (λ now t s a b c q. absurd q)
        now t (cp.passes now tick t) (passes_keep_or_ask now tick t)

    pub sessions_kept_by_receive : (now : Stamp) (h : Header) (b : Body) (t : Turn) → SessionFresh t.here.store t.here.session → K t (cr.receive_at now h b t)
    sessions_kept_by_receive now h b t f =
        walked (IsCalm true) (λ now t s u e g q x. on t.here.server t.here.life.0 t.here.store s u g.how x)
        (λ now t s a b c q. first t.here.server t.here.life.0 s c) now t (cr.receive_at now h b t)
        (calm_receive now h b t f)
