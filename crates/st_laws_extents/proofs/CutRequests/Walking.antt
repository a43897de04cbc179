-- The rules of a client that leave the requests of a session: a fact of them holds again.
use Rattle.st_lemmas.proofs.Words
use Words.{◌≡◌, ℕ, Bool, true, false, List, Option, Some, sym, subst, if◌then◌else◌, Tag, GrantNo, ServerId, Stamp, Mode, Ask, KnownExtent}
use Words.Client as cl
use Words.ClientPasses as cp
use Words.ClientReplies as cr
use Words.ClientState.{ClientSession, Turn, only_at}
use Rattle.st_laws_steps.specs.Client.Session.{AsksNothing}
use Rattle.st_laws_steps.proofs.Client.Sessions as sessions
use Rattle.st_laws_extents.specs.CutRequests.Asks.{Fact, Of}

module _ (F : Fact) where
  abbrev pub At : Turn → Type 0
  At t = Of F t.here.server t.here.life.0 t.here.session

  abbrev pub K : Turn → Turn → Type 0
  K t u = At t → At u

  pub kept_by_nothing : (t : Turn) → K t t
  kept_by_nothing t h = h

  pub kept_by_choice : (t : Turn) (b : Bool) (u v : Turn) → K t u → K t v → K t (if b then u else v)
  kept_by_choice t true u v f g = f
  kept_by_choice t false u v f g = g

  pub alike : (xs : List KnownExtent) (server : ServerId) (life : ℕ) (s r : ClientSession) → AsksNothing xs s r → Of F server life (Some s) →
      Of F server life (Some r)
  alike xs server life s r a h =
      subst (λ x. F server life x.0 r.requests r.cutting r.due) (sym a.epoch)
      (subst (λ x. F server life s.epoch.0 x r.cutting r.due) (sym a.requests)
      (subst (λ x. F server life s.epoch.0 s.requests x r.due) (sym a.cutting) (subst (λ x. F server life s.epoch.0 s.requests s.cutting x) (sym a.due) h)))

  pub kept_by_operations : (now : Stamp) (t : Turn) → K t (cp.operations now t)
  kept_by_operations now t = sessions.sessions_kept_by_operations (λ s l o. Of F s l o) alike now t

  pub kept_by_reductions : (t : Turn) → K t (cp.reductions t)
  kept_by_reductions t = sessions.sessions_kept_by_reductions (λ s l o. Of F s l o) alike t

  pub kept_by_writes : (now : Stamp) (tick : Bool) (t : Turn) → K t (cp.writes now tick t)
  kept_by_writes now tick t = sessions.sessions_kept_by_writes (λ s l o. Of F s l o) alike now tick t

  pub kept_by_greeting : (now : Stamp) (tick : Bool) (t : Turn) → K t (cp.greeting now tick t)
  kept_by_greeting now tick t = sessions.sessions_kept_by_greeting (λ s l o. Of F s l o) alike now tick t

  pub kept_by_finish : (number : ℕ) (r : Option (Option (Tag × List ℕ))) (t : Turn) → K t (cl.finish number r t)
  kept_by_finish number r t = sessions.sessions_kept_by_finish (λ s l o. Of F s l o) number r t

  pub kept_by_take : (s : ServerId) (op : ℕ) (ask : Ask) (t : Turn) → K t (only_at s (cl.take_ask op ask) t)
  kept_by_take s op ask t = sessions.sessions_kept_by_take (λ s l o. Of F s l o) s op ask t

  pub kept_by_granted : (t : Turn) (s : ClientSession) (ino : ℕ) (g : GrantNo) (mode : Mode) → t.here.session ≡ Some s → K t (cr.granted t s ino g mode)
  kept_by_granted t s ino g mode e = sessions.sessions_kept_by_granted (λ s l o. Of F s l o) alike t s ino g mode e

  pub kept_by_demand : (t : Turn) (s : ClientSession) (ino : ℕ) (g : GrantNo) (to : Mode) → t.here.session ≡ Some s → K t (cr.demand t s ino g to)
  kept_by_demand t s ino g to e = sessions.sessions_kept_by_demand (λ s l o. Of F s l o) alike t s ino g to e

  pub kept_by_condemn : (t : Turn) (s : ClientSession) → t.here.session ≡ Some s → K t (cr.condemn t s)
  kept_by_condemn t s e = sessions.sessions_kept_by_condemn (λ s l o. Of F s l o) alike t s e

  pub kept_by_lose : (now : Stamp) (t : Turn) → K t (cl.lose now t)
  kept_by_lose now t = sessions.sessions_kept_by_lose (λ s l o. Of F s l o) (λ server life. tt) now t
