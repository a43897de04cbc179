-- The rules of a client keep the outstanding request the last one.
use Rattle.st_lemmas.proofs.Words
use Words.{◌≡◌, ℕ, ◌+◌, Bool, List, Option, Some, None, refl, sym, ap, ◌∙◌, subst, Tag, ServerId, Stamp, Ask, Body, Header, Request}
use Words.Client as cl
use Words.ClientPasses as cp
use Words.ClientPages.{Store}
use Words.ClientReplies as cr
use Words.ClientReplies.{ended_by, in_epoch}
use Words.ClientState.{ClientSession, Turn, asking, only_at}
use Words.Lookups.{some_is}
use Rattle.st_laws_steps.proofs.Client.Sessions as sessions
use Rattle.st_laws_steps.specs.Client.Client.{IsBegun}
use Rattle.st_laws_steps.specs.Client.Losses.{Fit}
use Rattle.st_laws_steps.specs.Client.Session.{SessionChange, Keeps, DropsLock, IsReasserted, EndsRequest, NewEpoch, AsksNew, AsksAgain}
use Rattle.st_laws_requests.specs.Replies.LastRequests.{AsksLast, IsLastRequest}

abbrev pub K : Turn → Turn → Type 0
K t u = AsksLast t.here.session → AsksLast u.here.session

-- with nothing outstanding
none_last : (s : ClientSession) → s.requests.asked ≡ None → IsLastRequest s.requests
none_last s n q e = absurd (no (sym n ∙ e))
  where
    no : ◌≡◌ {A = Option Request} None (Some q) → ⊥
    no z = cc

-- Each change of a session.
asking_last : (s : ClientSession) (now : Stamp) (b : Body) (cutting : Option ℕ) → AsksLast (Some (cp.asking_session s now b cutting))
unfolding asking
asking_last s now b cutting q e = ap (λ (z : Request). z.number + 1) (sym (some_is e))

follows : (server : ServerId) (life : ℕ) (st : Store) (s u : ClientSession) → SessionChange st s u → AsksLast (Some s) → AsksLast (Some u)
follows server life st s u (Keeps _ _ a) h = subst IsLastRequest (sym a.requests) h
follows server life st s _ (DropsLock _ ino l) h = h
follows server life st s _ (IsReasserted _) h = h
follows server life st s _ (EndsRequest _ stamp) h = none_last (ended_by stamp s) refl
follows server life st s _ (NewEpoch _ epoch n) h = none_last (in_epoch epoch s) refl
follows server life st s _ (AsksNew _ r now body cutting a c i) h = asking_last r now body cutting
follows server life st s _ (AsksAgain _ now q e) h = λ r f. ap (λ (z : Request). z.number + 1) (sym (some_is f)) ∙ h q e

first : (server : ServerId) (life : ℕ) (s : ClientSession) → IsBegun s → AsksLast None → AsksLast (Some s)
first server life s b h = none_last s (ap (λ (z : ClientSession). z.requests.asked) b.2)

-- The rules.
pub requests_kept_by_passes : (now : Stamp) (tick : Bool) (t : Turn) → K t (cp.passes now tick t)
requests_kept_by_passes = sessions.sessions_kept_by_passes (λ s l o. AsksLast o) follows first

pub requests_kept_by_receive : (now : Stamp) (h : Header) (b : Body) (t : Turn) → Fit t.here → K t (cr.receive_at now h b t)
requests_kept_by_receive now h b t f = sessions.sessions_kept_by_receive (λ s l o. AsksLast o) follows first now h b t f.fresh

pub requests_kept_by_finish : (number : ℕ) (r : Option (Option (Tag × List ℕ))) (t : Turn) → K t (cl.finish number r t)
requests_kept_by_finish = sessions.sessions_kept_by_finish (λ s l o. AsksLast o)

pub requests_kept_by_take : (s : ServerId) (op : ℕ) (ask : Ask) (t : Turn) → K t (only_at s (cl.take_ask op ask) t)
requests_kept_by_take = sessions.sessions_kept_by_take (λ s l o. AsksLast o)

pub requests_kept_by_lose : (now : Stamp) (t : Turn) → K t (cl.lose now t)
requests_kept_by_lose = sessions.sessions_kept_by_lose (λ s l o. AsksLast o) (λ server life. tt)
