-- The outstanding request on a tick, and otherwise.
use Rattle.std.proofs.Common.{◌≡◌, Bool, true, false, not, List, [], ◌∷◌, Option, Some, None, refl, sym, ap, ◌∙◌, true≢false}
use Rattle.std.specs.Prelude.{is_some}
use Rattle.st_base.specs.declared.ids.Stamp.{Stamp}
use Rattle.st_messages.specs.declared.message.Body.TheVariants as bodies
use Rattle.st_rules.specs.declared.client.Request.{Request}
use Rattle.st_rules.specs.declared.client.Release.{Release}
use Rattle.st_rules.specs.ClientPasses.{repeat, requests_at, ask_by, ask_release, ask, ask_new, ask_next}
use Rattle.st_rules.specs.ClientState.{ClientSession, Turn, with_session}
use Rattle.st_client_association.specs.Turns.{again_if_due, session_of}

module _ (t : Turn) (s : ClientSession) (now : Stamp) where
  pub on_tick : (tick : Bool) (q : Option Request) → tick ≡ true → not (is_some q) ≡ false → again_if_due t s now q ≡ requests_at t s now tick q
  unfolding requests_at repeat
  on_tick tick None e h = absurd (true≢false h)
  on_tick tick (Some q) e h = ap (λ (b : Bool). requests_at t s now b (Some q)) (sym e)

  pub off_tick : (tick : Bool) (q : Option Request) → tick ≡ false → not (is_some q) ≡ false → t ≡ requests_at t s now tick q
  unfolding requests_at repeat
  off_tick tick None e h = absurd (true≢false h)
  off_tick tick (Some q) e h = ap (λ (b : Bool). requests_at t s now b (Some q)) (sym e)

  pub none_asked : (q : Option Request) → is_some q ≡ false → q ≡ None
  none_asked None h = refl
  none_asked (Some q) h = absurd (true≢false h)

  pub asked_new : (tick : Bool) (q : Option Request) → is_some q ≡ false → ask_new t s now ≡ requests_at t s now tick q
  unfolding requests_at
  asked_new tick None h = refl
  asked_new tick (Some q) h = absurd (true≢false h)

-- a release is asked, or whatever else is due
module _ (t u : Turn) (now : Stamp) where
  pub no_release : (session_of t).releases ≡ [] → u ≡ t → ask_next u (session_of u) now ≡ ask_by t (session_of t) now (session_of t).releases
  unfolding ask_by
  no_release e is = ap (λ v. ask_next v (session_of v) now) is ∙ ap (ask_by t (session_of t) now) (sym e)

  pub first_release : (r : Release) (rs : List Release) → (session_of t).releases ≡ r ∷ rs → u ≡ with_session (record (session_of t) { releases = rs }) t →
      ask u (session_of u) now (bodies.Released r.ino r.g r.to) None ≡ ask_by t (session_of t) now (session_of t).releases
  unfolding ask_by ask_release ask
  first_release r rs e is = ap (λ v. ask v (session_of v) now (bodies.Released r.ino r.g r.to) None) is ∙ ap (ask_by t (session_of t) now) (sym e)
