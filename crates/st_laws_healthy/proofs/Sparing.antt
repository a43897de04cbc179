-- What the thefts at the start of a server's step leave of a client that isn't a suspect: its session, and that it isn't one.
use Rattle.st_lemmas.proofs.Words
use Words.{◌≡◌, ◌≢◌, true, List, [], ◌∷◌, refl, sym, ap, ◌∙◌, subst, inl, inr, filter, is_some, not, Option, Some, None, eq-eqb, eqb-true, ClientId, Stamp}
use Words.{Suspect, Session}
use Words.Authority as authority
use Words.Authority.{Authority, is_suspect, may_ack, suspect_of}
use Words.Server as sv
use Words.Server.{ServerState, ServerTurn, steal_at, steal_each, thefts, turn, with_authority}
use Words.Sessions as sessions
use Words.Lists.{Has}
use Words.Tables.{found_at, has_filter, has_map, none_has}
use Words.Truth.{not_both}
use Rattle.st_laws_refine.proofs.Server.Changes.{end_other}

-- no timer runs for whoever may be answered
pub no_suspect : (a : Authority) (c : ClientId) → may_ack a c ≡ true → suspect_of a c ≡ None
no_suspect a c e = go (suspect_of a c) refl
  where
    go : (o : Option Suspect) → suspect_of a c ≡ o → suspect_of a c ≡ None
    go None q = q
    go (Some x) q = absurd (not_both (not (is_some (suspect_of a c))) e (ap (λ (o : Option Suspect). not (is_some o)) q))

free_is : (a : Authority) (c : ClientId) → suspect_of a c ≡ None → may_ack a c ≡ true
free_is a c e = ap (λ (o : Option Suspect). not (is_some o)) e

-- none of these timers is the client's
not_among : (a : Authority) (c : ClientId) → may_ack a c ≡ true → (x : Suspect) → Has x a.suspects → x.client.0 ≢ c.0
not_among a c e x h q = not_both (is_suspect c x) (eq-eqb x.client.0 c.0 q) (none_has (is_suspect c) a.suspects (no_suspect a c e) x h)

module _ (c : ClientId) where
  -- what stays of a client that isn't a suspect
  pub record Spares (t u : ServerTurn) : Type 0 where
    pub session : sessions.session_of u.state.sessions c ≡ sessions.session_of t.state.sessions c
    pub authority : u.state.authority ≡ t.state.authority
    pub stable : u.state.stable ≡ t.state.stable
    pub id : u.state.id ≡ t.state.id
    pub grace : u.state.grace ≡ t.state.grace
    pub epoch : u.state.sessions.epoch ≡ t.state.sessions.epoch

  spares_self : (t : ServerTurn) → Spares t t
  spares_self t = record { session = refl; authority = refl; stable = refl; id = refl; grace = refl; epoch = refl }

  one : (t : ServerTurn) (x : ClientId) → x.0 ≢ c.0 → (o : Option Session) → Spares t (steal_at t x o)
  unfolding steal_at sv.steal_from sessions.end
  one t x ne None = spares_self t
  one t x ne (Some y) = record { session = end_other t.state.sessions x c.0 ne; authority = refl; stable = refl; id = refl; grace = refl; epoch = refl }

  each : (xs : List ClientId) (t : ServerTurn) → ((x : ClientId) → Has x xs → x.0 ≢ c.0) → Spares t (steal_each xs t)
  unfolding steal_each sv.steal
  each [] t f = spares_self t
  each (x ∷ xs) t f =
      let u = sv.steal t x in
      let a = one t x (f x (inl refl)) (sessions.session_of t.state.sessions x) in
      let b = each xs u (λ y h. f y (inr h)) in
      record {
        session = b.session ∙ a.session;
        authority = b.authority ∙ a.authority;
        stable = b.stable ∙ a.stable;
        id = b.id ∙ a.id;
        grace = b.grace ∙ a.grace;
        epoch = b.epoch ∙ a.epoch;
      }

  -- after the thefts
  pub record IsSpared (n : ServerState) (u : ServerTurn) : Type 0 where
    pub session : sessions.session_of u.state.sessions c ≡ sessions.session_of n.sessions c
    pub free : may_ack u.state.authority c ≡ true
    pub stable : u.state.stable ≡ n.stable
    pub id : u.state.id ≡ n.id
    pub grace : u.state.grace ≡ n.grace
    pub epoch : u.state.sessions.epoch ≡ n.sessions.epoch

  pub spared : (n : ServerState) (now : Stamp) → may_ack n.authority c ≡ true → IsSpared n (thefts (turn n []) now)
  unfolding thefts authority.over authority.still_running
  spared n now free =
      record {
        session = z.session;
        free = subst (λ a. may_ack a c ≡ true) (sym z.authority) (free_is (authority.still_running n.authority now) c none);
        stable = z.stable;
        id = z.id;
        grace = z.grace;
        epoch = z.epoch;
      }
    where
      others : (x : ClientId) → Has x (authority.over n.authority now) → x.0 ≢ c.0
      others x h q =
          let y = has_map authority.client_of_suspect (filter (authority.is_over n.authority.wait now) n.authority.suspects) x h in
          let z = has_filter (authority.is_over n.authority.wait now) n.authority.suspects y.0 y.1 in
          not_among n.authority c free y.0 z.0 (ap (λ (w : ClientId). w.0) (sym y.2) ∙ q)

      z : Spares (with_authority (authority.still_running n.authority now) (turn n [])) (steal_each (authority.over n.authority now)
          (with_authority (authority.still_running n.authority now) (turn n [])))
      z = each (authority.over n.authority now) (with_authority (authority.still_running n.authority now) (turn n [])) others

      none : suspect_of (authority.still_running n.authority now) c ≡ None
      none = go (suspect_of (authority.still_running n.authority now) c) refl
        where
          go : (o : Option Suspect) → suspect_of (authority.still_running n.authority now) c ≡ o → suspect_of (authority.still_running n.authority now) c ≡ None
          go None q = q
          go (Some x) q =
              let f = found_at (is_suspect c) (filter (λ s. not (authority.is_over n.authority.wait now s)) n.authority.suspects) x q in
              let h = has_filter (λ s. not (authority.is_over n.authority.wait now s)) n.authority.suspects x f.1 in
              absurd (not_among n.authority c free x h.0 (eqb-true x.client.0 c.0 f.0))
