-- After a client's passes a release waits only while a request is outstanding: with none outstanding the first release is asked.
use Rattle.st_lemmas.proofs.Words
use Words.{◌≡◌, Bool, false, List, [], ◌∷◌, refl, sym, ◌∙◌, subst, Option, Some, None, Stamp, Body, Release, Request}
use Words.bodies
use Words.ClientLease as lease
use Words.ClientLocks as locks
use Words.ClientPasses as cp
use Words.ClientState.{ClientSession, Turn, asking, is_serving, send, with_operations, with_store}
use Words.Tables.{cond_either}
use Words.Truth.{not_both}

-- if the lease isn't condemned, and nothing must be reasserted
abbrev pub NoneWaits : Option ClientSession → Type 0
NoneWaits None = Unit {0}
NoneWaits (Some v) = v.lease.condemned ≡ false → v.due ≡ false → v.requests.asked ≡ None → v.releases ≡ []

module _ (now : Stamp) where
  abbrev Q : Turn → Type 0
  Q u = NoneWaits u.here.session

  none_some : (q : Request) → ◌≡◌ {A = Option Request} (Some q) None → ⊥
  none_some q e = cc

  -- what is asked is outstanding
  asked : (t : Turn) (s : ClientSession) (b : Body) (cut : Option _) → Q (cp.ask t s now b cut)
  unfolding cp.ask send asking
  asked t s b cut = λ c d n. absurd (none_some _ n)

  empty : (t : Turn) (s : ClientSession) → t.here.session ≡ Some s → s.releases ≡ [] → Q t
  empty t s e r = subst NoneWaits (sym e) (λ c d n. r)

  next : (t : Turn) (s : ClientSession) → t.here.session ≡ Some s → s.releases ≡ [] → Q (cp.ask_next t s now)
  unfolding cp.ask_next cp.ask_for_or cp.ask_for cp.keep_alive
  next t s e r =
      cond_either Q (is_serving t.config s now) (cp.ask_for_or t s now (cp.first_asking t s now t.operations)) (cp.keep_alive t s now)
      (λ f. go (cp.first_asking t s now t.operations)) (λ f. alive)
    where
      alive : Q (cp.keep_alive t s now)
      alive =
          cond_either Q (lease.is_renewing (lease.phase_of t.config s.lease now)) (cp.ask t s now bodies.KeepAlive None) t
          (λ f. asked t s bodies.KeepAlive None) (λ f. empty t s e r)

      go : (o : Option cp.Asking) → Q (cp.ask_for_or t s now o)
      go None = alive
      go (Some a) = asked (with_store (cp.cut_store a.wanted.cut t.here.store) (with_operations a.operations t)) s a.wanted.body (cp.file_cut a.wanted.cut)

  new : (t : Turn) (s : ClientSession) → t.here.session ≡ Some s → Q (cp.ask_new t s now)
  unfolding cp.ask_new cp.reassert cp.ask_by cp.ask_release
  new t s e =
      cond_either Q s.due (cp.reassert t s now) (cp.ask_by t s now s.releases) (λ f. asked t s (bodies.Reassert (locks.all_locks s.locks)) None)
      (λ f. go s.releases refl)
    where
      go : (rs : List Release) → s.releases ≡ rs → Q (cp.ask_by t s now rs)
      go [] f = next t s e f
      go (r ∷ rs) f = asked t (record s { releases = rs }) (bodies.Released r.ino r.g r.to) None

  again : (t : Turn) (s : ClientSession) (tick : Bool) (q : Request) → t.here.session ≡ Some s → s.requests.asked ≡ Some q → Q (cp.repeat t s now tick q)
  unfolding cp.repeat cp.ask_again send
  again t s tick q e f =
      cond_either Q (cp.is_old t.config now tick q) (cp.ask_again t s now q) t (λ g c d n. absurd (none_some _ n))
      (λ g. subst NoneWaits (sym e) (λ c d n. absurd (none_some q (sym f ∙ n))))

  by : (t : Turn) (s : ClientSession) (tick : Bool) → t.here.session ≡ Some s → Q (cp.requests_under t s now tick)
  unfolding cp.requests_under cp.requests_at
  by t s tick e =
      cond_either Q s.lease.condemned t (cp.requests_at t s now tick s.requests.asked)
      (λ f. subst NoneWaits (sym e) (λ c d n. absurd (not_both s.lease.condemned f c))) (λ f. go s.requests.asked refl)
    where
      go : (o : Option Request) → s.requests.asked ≡ o → Q (cp.requests_at t s now tick o)
      go None q = new t s e
      go (Some r) q = again t s tick r e q

  -- the last pass
  requests_empty : (t : Turn) (tick : Bool) → Q (cp.requests now tick t)
  unfolding cp.requests cp.requests_by
  requests_empty t tick = go t.here.session refl
    where
      go : (o : Option ClientSession) → t.here.session ≡ o → Q (cp.requests_by t now tick o)
      go None e = subst NoneWaits (sym e) tt
      go (Some s) e = by t s tick e

-- the passes at a server
pub passes_empty : (now : Stamp) (tick : Bool) (t : Turn) → NoneWaits (cp.passes now tick t).here.session
unfolding cp.passes
passes_empty now tick t = requests_empty now (cp.greeting now tick (cp.writes now tick (cp.reductions (cp.operations now t)))) tick
