-- What a message and a lease that is over do, by whether there is a session.
use Rattle.st_lemmas.proofs.Words
use Words.{◌≡◌, Bool, true, false, refl, sym, ap, ◌∙◌, Option, Some, None, is_some, if◌then◌else◌, Stamp, Header, Body}
use Words.Client.{is_over, lose, lose_by, lose_over, lose_session}
use Words.ClientReplies.{by_session, with_a_session, without_session}
use Words.ClientState.{ClientSession, Turn}
use Rattle.st_client_association.specs.Turns.{has_session, session_of}

-- with this session, or none
abbrev with_it : Option ClientSession → Turn → Turn
with_it s t = record t { here = record t.here { session = s } }

session_is : (t : Turn) → has_session t ≡ true → t.here.session ≡ Some (session_of t)
session_is t h = by t.here.session h
  where
    by : (s : Option ClientSession) → is_some s ≡ true → s ≡ Some (session_of (with_it s t))
    by None h = cc
    by (Some s) h = refl

no_session : (t : Turn) → has_session t ≡ false → t.here.session ≡ None
no_session t h = by t.here.session h
  where
    by : (s : Option ClientSession) → is_some s ≡ false → s ≡ None
    by None h = refl
    by (Some s) h = cc

-- a message from the server
module _ (t u : Turn) (now : Stamp) (h : Header) (body : Body) where
  pub taken_with : u ≡ t → has_session t ≡ true → with_a_session u (session_of u) now h body ≡ by_session t now h body t.here.session
  unfolding by_session
  taken_with e s = ap (λ (v : Turn). with_a_session v (session_of v) now h body) e ∙ ap (by_session t now h body) (sym (session_is t s))

  pub taken_without : u ≡ t → has_session t ≡ false → without_session u now h body ≡ by_session t now h body t.here.session
  unfolding by_session
  taken_without e s = ap (λ (v : Turn). without_session v now h body) e ∙ ap (by_session t now h body) (sym (no_session t s))

-- the lease is over, or not
module _ (t u : Turn) (now : Stamp) where
  lost_as : (b : Bool) → has_session t ≡ true → is_over t (session_of t) now ≡ b → lose now t ≡ (if b then lose_session t (session_of t) else t)
  unfolding lose lose_by lose_over
  lost_as b s e = ap (lose_by t now) (session_is t s) ∙ ap (λ (b : Bool). if b then lose_session t (session_of t) else t) e

  pub lost_over : u ≡ t → has_session t ≡ true → is_over u (session_of u) now ≡ true → lose_session u (session_of u) ≡ lose now t
  lost_over e s o = ap (λ (v : Turn). lose_session v (session_of v)) e ∙ sym (lost_as true s (ap (λ (v : Turn). is_over v (session_of v) now) (sym e) ∙ o))

  pub lost_not : u ≡ t → has_session t ≡ true → is_over u (session_of u) now ≡ false → u ≡ lose now t
  lost_not e s o = e ∙ sym (lost_as false s (ap (λ (v : Turn). is_over v (session_of v) now) (sym e) ∙ o))

  pub lost_none : u ≡ t → has_session t ≡ false → u ≡ lose now t
  unfolding lose lose_by
  lost_none e s = e ∙ ap (lose_by t now) (sym (no_session t s))
