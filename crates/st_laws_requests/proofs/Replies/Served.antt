-- In a step of a server sessions only go on, and a reply that ends a request says that the session of its life reached the request's number.
use Rattle.st_lemmas.proofs.Words
use Words.{◌≡◌, ℕ, ◌≤◌, ◌<◌, ◌≢◌, ◌⊎◌, Bool, true, false, ◌&&◌, List, [], ◌∷◌, ◌==◌, refl, sym, ap, ◌∙◌, subst, inl, inr, arith, if◌then◌else◌, Option, Some}
use Words.{None, nat_le, nat_lt, option_map, eq-eqb, eqb-true, leb-true, ltb-false, ClientId, Epoch, ServerId, GrantNo, Life, Stamp, Mode}
use Words.{Header, Message, Body, Note, Output, ServerInput, AcceptRefusal, Session, SessionState, leb-false}
use Words.bodies as bd
use Words.notes
use Words.outputs
use Words.serving.{Control}
use Words.states
use Words.ClientState.{is_refusal}
use Words.Locks as locks
use Words.Sessions as sessions
use Words.Grace as grace
use Words.Keys.{client, server_node}
use Words.Server as sv
use Words.Server.{ServerState, ServerTurn, turn, with_locks, with_sessions, sender, life_in, note, reply, say, tell, steal_from, thefts, suspect_client}
use Words.Server.{keep_and_reply, server_step}
use Words.Lists.{Has}
use Words.Lookups.{or_false, some_is}
use Words.Tables.{and_both, find_map, found_at, has_append, same_or_not}
use Words.Serving.{end_client}
use Words.Truth.{client_is}
use Rattle.st_rules.specs.declared.authority.AcceptRefusal.TheVariants as refusals
use Rattle.st_lemmas.proofs.Puts.{find_put_by, find_put_other}
use Rattle.st_laws_requests.specs.Replies.ServedRequests.{Ends, FindsNew, InputNew, IsBehind, Reached}
use Rattle.st_trace.specs.Server.Edits as edits
use Rattle.st_trace.specs.Server.Edits.{Phase, Came, Reasserted, Edit, TakesTimers, Steals, Welcomes, Begins, Replaces, PutsOff, Sees, Reasserts, Serves}
use Rattle.st_trace.specs.Server.Edits.{Repeats, Refuses, Suspects, Grants, Demands}
use Rattle.st_trace.proofs.Server.Taking.{clash, FreshState}
use Rattle.st_trace.proofs.Server.Walk.{walk}
use Rattle.st_laws_requests.proofs.Clients.{keep_client}
use Rattle.st_laws_requests.proofs.Rules.{ruled}

-- Sessions that go on.
abbrev pub GoesOn : sessions.Sessions → sessions.Sessions → Type 0
GoesOn t u = (c : ClientId) (life n : ℕ) → IsBehind (sessions.session_of t c) life n → IsBehind (sessions.session_of u c) life n

-- a session of a higher life than its client's
on_new : (t : sessions.Sessions) (x : Session) → ((y : Session) → sessions.session_of t x.client ≡ Some y → y.life.0 < x.life.0) →
    GoesOn t (sessions.with_session x t)
on_new t x k d life n h = go (sessions.is_session_of d x) refl
  where
    other : (z : Session) → (x.client.0 == d.0) ≡ false → sessions.is_session_of d z ≡ true → sessions.is_session_of x.client z ≡ false
    other z f e = pick (z.client.0 == x.client.0) refl
      where
        pick : (b : Bool) → (z.client.0 == x.client.0) ≡ b → b ≡ false
        pick true g = absurd (clash (eq-eqb x.client.0 d.0 (sym (eqb-true _ _ g) ∙ eqb-true _ _ e)) f)
        pick false g = refl

    -- whatever the client had belongs to a lower life
    lower : (o : Option Session) → sessions.session_of t d ≡ o → x.client ≡ d → IsBehind o life n → life < x.life.0
    lower None e s b = absurd b
    lower (Some y) e s b = let l = k y (subst (λ c. sessions.session_of t c ≡ Some y) (sym s) e) in by b l
      where
        by : (life < y.life.0) ⊎ ((life ≡ y.life.0) × Reached n y.state) → y.life.0 < x.life.0 → life < x.life.0
        by (inl p) l = omega (arith, p, l)
        by (inr p) l = let q = p.0 in omega (arith, q, l)

    go : (b : Bool) → sessions.is_session_of d x ≡ b → IsBehind (sessions.session_of (sessions.with_session x t) d) life n
    go true e =
        let i = find_put_by (sessions.is_session_of d) (sessions.is_session_of x.client) x t.rows e
        (λ z f. eq-eqb z.client.0 x.client.0 (eqb-true _ _ f ∙ sym (eqb-true _ _ e))) in
        subst (λ o. IsBehind o life n) (sym i) (inl (lower (sessions.session_of t d) refl (client_is x.client d e) h))
    go false e = subst (λ o. IsBehind o life n)
        (sym (find_put_other (sessions.is_session_of d) (sessions.is_session_of x.client) x t.rows e (λ z f. other z e f))) h

-- sessions that were changed in place
on_map : (t : sessions.Sessions) (f : Session → Session) → ((x : Session) → (f x).client ≡ x.client) →
    ((c : ClientId) (x : Session) → sessions.session_of t c ≡ Some x → (life n : ℕ) → IsBehind (Some x) life n → IsBehind (Some (f x)) life n) →
    GoesOn t (record t { rows = Rattle.std.specs.Prelude.map f t.rows })
on_map t f same k d life n h =
    subst (λ o. IsBehind o life n) (sym (find_map (sessions.is_session_of d) f (λ x. ap (λ (z : ClientId). z.0 == d.0) (same x)) t.rows))
    (go (sessions.session_of t d) refl h)
  where
    go : (o : Option Session) → sessions.session_of t d ≡ o → IsBehind o life n → IsBehind (option_map f o) life n
    go None e b = absurd b
    go (Some x) e b = k d x e life n b

-- the next number is kept
on_stored : (t : sessions.Sessions) (c : ClientId) (number : ℕ) (b : Body) → ((x : Session) → sessions.session_of t c ≡ Some x →
    FreshState number x.state) → GoesOn t (sessions.store t c number b)
unfolding sessions.store sessions.keep_reply
on_stored t c number b w = on_map t (sessions.keep_of c number b) (keep_client c number b) (λ d x e. go d x e (sessions.is_session_of c x) refl)
  where
    more : (x : SessionState) (n : ℕ) → FreshState number x → Reached n x → Reached n (sessions.kept_state number b x)
    more (states.Live last r) n f h = let z = same last r f.last f.reply f.is in let q = f.next in omega (arith, h, q, z)
      where
        same : (last : ℕ) (r : Option Body) (l : ℕ) (s : Option Body) → states.Live last r ≡ states.Live l s → last ≡ l
        same last r l s e = cc
    more states.Ended n f h = tt

    kept : (x : Session) (life n : ℕ) → FreshState number x.state → IsBehind (Some x) life n → IsBehind (Some (sessions.keep_reply number b x)) life n
    kept x life n f (inl p) = inl p
    kept x life n f (inr p) = inr (p.0, more x.state n f p.1)

    go : (d : ClientId) (x : Session) → sessions.session_of t d ≡ Some x → (z : Bool) → sessions.is_session_of c x ≡ z → (life n : ℕ) →
        IsBehind (Some x) life n → IsBehind (Some (if z then sessions.keep_reply number b x else x)) life n
    go d x e true q life n h =
        let same = client_is d c
        (eq-eqb d.0 c.0 (sym (eqb-true x.client.0 d.0 (found_at (sessions.is_session_of d) t.rows x e).0) ∙ eqb-true x.client.0 c.0 q)) in
        kept x life n (w x (subst (λ y. sessions.session_of t y ≡ Some x) same e)) h
    go d x e false q life n h = h

-- and then the session reached it
pub stored_reached : (t : sessions.Sessions) (c : ClientId) (number : ℕ) (b : Body) (x : Session) → sessions.session_of t c ≡ Some x →
    FreshState number x.state → IsBehind (sessions.session_of (sessions.store t c number b) c) x.life.0 number
unfolding sessions.store sessions.keep_reply
stored_reached t c number b x e f =
    subst (λ o. IsBehind o x.life.0 number)
    (sym (find_map (sessions.is_session_of c) (sessions.keep_of c number b) (λ x. ap (λ (z : ClientId). z.0 == c.0) (keep_client c number b x))
    t.rows ∙ ap (option_map (sessions.keep_of c number b)) e))
    (go (sessions.is_session_of c x) (found_at (sessions.is_session_of c) t.rows x e).0)
  where
    is : (y : SessionState) → FreshState number y → Reached number (sessions.kept_state number b y)
    is (states.Live last r) f = omega arith
    is states.Ended f = tt

    go : (z : Bool) → z ≡ true → IsBehind (Some (if z then sessions.keep_reply number b x else x)) x.life.0 number
    go true q = inr (refl, is x.state f)
    go false q = cc

on_ended : (t : sessions.Sessions) (c : ClientId) → GoesOn t (sessions.end t c)
unfolding sessions.end sessions.ended
on_ended t c = on_map t (sessions.end_of c) (end_client c) (λ d x e life n h. go x (sessions.is_session_of c x) life n h)
  where
    go : (x : Session) (z : Bool) (life n : ℕ) → IsBehind (Some x) life n → IsBehind (Some (if z then sessions.ended x else x)) life n
    go x true life n (inl p) = inl p
    go x true life n (inr p) = inr (p.0, tt)
    go x false life n h = h

-- a reassertion of a higher life than the client's
on_reasserted : (t : sessions.Sessions) (c : ClientId) (life : Life) → ((y : Session) → sessions.session_of t c ≡ Some y → y.life.0 < life.0) →
    GoesOn t (sessions.reasserted t c life)
unfolding sessions.reasserted
on_reasserted t c life f = on_new t (sessions.reasserted_session c life) f

reasserted_reached : (t : sessions.Sessions) (c : ClientId) (life : Life) (n : ℕ) → n ≤ 1 →
    IsBehind (sessions.session_of (sessions.reasserted t c life) c) life.0 n
unfolding sessions.reasserted
reasserted_reached t c life n l =
    subst (λ o. IsBehind o life.0 n)
    (sym (find_put_by (sessions.is_session_of c) (sessions.is_session_of c) (sessions.reasserted_session c life) t.rows (eq-eqb c.0 c.0 refl)
    (λ z f. f))) (inr (refl, l))

-- A step of a server with an input.
module _ (s : ServerId) (e : Epoch) (i : ServerInput) (before : sessions.Sessions) where
  -- a reply to a reassertion that was refused
  pub record Refused (to life number : ℕ) (b : Body) : Type 0 where
    pub by : Message
    pub is : i ≡ Control by
    pub from : by.header.from ≡ to
    pub there : by.header.to ≡ server_node s
    pub of_life : by.header.life ≡ life
    pub of_epoch : by.header.epoch ≡ e.0
    pub under : by.header.number ≡ number
    pub rows : List (ℕ × GrantNo × Mode)
    pub asks : by.body ≡ bd.Reassert rows
    pub beyond : (2 ≤ number) ⊎ (is_refusal b ≡ true)

  -- what a reply says that ends a request
  abbrev pub Tells : sessions.Sessions → ℕ → ℕ → ℕ → Body → Type 0
  Tells t to life number b = Ends b → 1 ≤ number → IsBehind (sessions.session_of t (client to)) life number ⊎ Refused to life number b

  -- what a message of the server is
  abbrev pub Said : sessions.Sessions → Message → Type 0
  Said t x = (x.header.from ≡ server_node s) × (x.header.epoch ≡ e.0) × Tells t x.header.to x.header.life x.header.number x.body

  -- What holds within a step.
  pub record Served (t : ServerTurn) : Type 0 where
    pub id : t.state.id ≡ s
    pub epoch : t.state.stable.epoch ≡ e
    pub goes : GoesOn before t.state.sessions
    pub sent : (x : Message) → Has (outputs.Send x) t.out → Said t.state.sessions x

  abbrev O : ServerTurn → Type 0
  O t = Served t

  said_on : (t u : sessions.Sessions) → GoesOn t u → (x : Message) → Said t x → Said u x
  said_on t u g x (f, q, k) = (f, q, λ y n. go (k y n))
    where
      go : IsBehind (sessions.session_of t (client x.header.to)) x.header.life x.header.number
          ⊎ Refused x.header.to x.header.life x.header.number x.body →
          IsBehind (sessions.session_of u (client x.header.to)) x.header.life x.header.number ⊎ Refused x.header.to x.header.life x.header.number x.body
      go (inl h) = inl (g (client x.header.to) x.header.life x.header.number h)
      go (inr h) = inr h

  -- other parts of the state
  served_after_state : (t : ServerTurn) (x : ServerState) → x.id ≡ t.state.id → x.stable.epoch ≡ t.state.stable.epoch → x.sessions ≡ t.state.sessions → O t →
      O (record t { state = x })
  served_after_state t x a b c o = record {
    id = a ∙ o.id;
    epoch = b ∙ o.epoch;
    goes = subst (GoesOn before) (sym c) o.goes;
    sent = λ y h. subst (λ z. Said z y) (sym c) (o.sent y h);
  }

  served_after_sessions : (t : ServerTurn) (x : sessions.Sessions) → GoesOn t.state.sessions x → O t → O (with_sessions x t)
  served_after_sessions t x g o = record {
    id = o.id;
    epoch = o.epoch;
    goes = λ c life n h. g c life n (o.goes c life n h);
    sent = λ y h. said_on t.state.sessions x g y (o.sent y h);
  }

  served_after_say : (t : ServerTurn) (o : Output) → ((x : Message) → outputs.Send x ≡ o → Said t.state.sessions x) → O t → O (say t o)
  served_after_say t o f k = record { id = k.id; epoch = k.epoch; goes = k.goes; sent = λ x h. go x (has_append t.out (o ∷ []) (outputs.Send x) h) }
    where
      go : (x : Message) → Has (outputs.Send x) t.out ⊎ Has (outputs.Send x) (o ∷ []) → Said t.state.sessions x
      go x (inl h) = k.sent x h
      go x (inr (inl q)) = f x q
      go x (inr (inr n)) = absurd n

  served_after_note : (t : ServerTurn) (x : Note) → O t → O (note t x)
  served_after_note t x o = served_after_say t (outputs.Note x) (λ y q. cc q) o

  served_after_reply : (t : ServerTurn) (h : Header) (b : Body) → Tells t.state.sessions h.from h.life h.number b → O t → O (reply t h b)
  unfolding reply
  served_after_reply t h b w o = served_after_say t (outputs.Send m) (λ x q. subst (Said t.state.sessions) (sym (same x q)) (
    ap server_node o.id,
    ap (λ (y : Epoch). y.0) o.epoch,
    w,
  )) o
    where
      m : Message
      m = record { header = sv.reply_header t.state h; body = b }

      same : (x : Message) → outputs.Send x ≡ outputs.Send m → x ≡ m
      same x q = cc

  served_after_tell : (t : ServerTurn) (c : ClientId) (life : Life) (b : Body) → O t → O (tell t c life b)
  unfolding tell
  served_after_tell t c life b o =
      served_after_say t (outputs.Send m) (λ x q. subst (Said t.state.sessions) (sym (same x q)) (
        ap server_node o.id,
        ap (λ (y : Epoch). y.0) o.epoch,
        λ k n. absurd (omega (arith, n)),
      )) o
    where
      m : Message
      m = record { header = sv.own_header t.state c life; body = b }

      same : (x : Message) → outputs.Send x ≡ outputs.Send m → x ≡ m
      same x q = cc

  served_after_steal : (t : ServerTurn) (c : ClientId) (x : Session) → O t → O (steal_from t c x)
  unfolding steal_from
  served_after_steal t c x o =
      served_after_sessions (with_locks (locks.forget t.state.locks c) (note t (notes.Stolen c x.life))) _ (on_ended t.state.sessions c)
      (served_after_state _ _ refl refl refl (served_after_note t (notes.Stolen c x.life) o))

  -- a life that the sessions do not know is above what its client has
  unknown : (m : Message) (t : ServerTurn) (now : Stamp) → FindsNew t now m.header m.body → (rows : List (ℕ × GrantNo × Mode)) →
      m.body ≡ bd.Reassert rows → grace.is_on t.state.grace now ≡ true →
      sessions.knows t.state.sessions (sender m.header) (life_in m.header) ≡ false → (y : Session) →
      sessions.session_of t.state.sessions (sender m.header) ≡ Some y → y.life.0 < m.header.life
  unknown m t now f rows body on k y h =
      go (or_false (nat_lt m.header.life y.life.0) _ (subst (λ o. sessions.knows_at o (life_in m.header) ≡ false) h k)) (same_or_not y.life.0 m.header.life)
    where
      new : grace.is_on t.state.grace now ≡ true → (y : Session) → sessions.session_of t.state.sessions (sender m.header) ≡ Some y →
          y.life.0 ≡ m.header.life → sessions.is_live y ≡ true
      new = subst (FindsNew t now m.header) body f

      go : (nat_lt m.header.life y.life.0 ≡ false) × ((sessions.is_live y && (m.header.life == y.life.0)) ≡ false) →
          (y.life.0 ≡ m.header.life) ⊎ (y.life.0 ≢ m.header.life) → y.life.0 < m.header.life
      go (p, q) (inl e) = absurd (clash (and_both _ _ (new on y h e) (eq-eqb m.header.life y.life.0 (sym e))) q)
      go (p, q) (inr n) = let z = ltb-false m.header.life y.life.0 p in omega (arith, z, n)

  module _ (x : ServerState) (now : Stamp) (finds : InputNew (thefts (turn x []) now) now i) where
    -- what a reassertion finds
    finds_new : (t : ServerTurn) (m : Message) → Came x now i t m → FindsNew t now m.header m.body
    finds_new t m c = subst (λ (z : ServerTurn). FindsNew z now m.header m.body) (sym c.first) (subst (InputNew (thefts (turn x []) now) now) c.is finds)

    asserts : (t : ServerTurn) (m : Message) (rows : List (ℕ × GrantNo × Mode)) → Reasserted x now i t m rows → O t → (b : Body) →
        (2 ≤ m.header.number) ⊎ (is_refusal b ≡ true) →
        Refused m.header.from m.header.life m.header.number b
    asserts t m rows r o b z =
        let c = r.asked.heard.came in
        record {
          by = m;
          is = c.is;
          from = refl;
          there = c.there ∙ ap server_node o.id;
          of_life = refl;
          of_epoch = r.asked.epoch ∙ ap (λ (y : Epoch). y.0) o.epoch;
          under = refl;
          rows = rows;
          asks = r.asks;
          beyond = z;
        }

    refused_tells : (t : ServerTurn) (m : Message) (b : Body) → edits.Refused x now i t m b → O t →
        Tells t.state.sessions m.header.from m.header.life m.header.number b
    refused_tells t m b (edits.IsSuspect start c r e) o f n = absurd f
    refused_tells t m b (edits.GreetsInGrace h e g) o f n = absurd f
    refused_tells t m b (edits.OfOtherEpoch h r) o f n = absurd f
    refused_tells t m b (edits.HasNoSession a e) o f n = absurd f
    refused_tells t m b (edits.IsRefusedRows rows r a e) o f n = inr (asserts t m rows a o b (inr (refuses r)))
      where
        refuses : (r : AcceptRefusal) → is_refusal (sv.refused_reassertion r) ≡ true
        refuses (refusals.GraceOver x y) = refl
        refuses (refusals.Conflict x y) = refl
        refuses (refusals.NotHolder x y) = refl

    begins : (t : ServerTurn) (c : ClientId) (life : Life) → ((y : Session) → sessions.session_of t.state.sessions c ≡ Some y → y.life.0 < life.0) → O t →
        O (with_sessions (sessions.with_new_session c life t.state.sessions) t)
    begins t c life f o = served_after_sessions t _ (on_new t.state.sessions (sessions.new_session c life) f) o

    reasserts : (t : ServerTurn) (m : Message) (rows : List (ℕ × GrantNo × Mode)) → Reasserted x now i t m rows → grace.is_on t.state.grace now ≡ true → O t →
        O (reply (with_sessions (sessions.reasserted t.state.sessions (sender m.header) (life_in m.header))
        (with_locks (locks.with_rows t.state.locks (sender m.header) (life_in m.header) rows) t)) m.header bd.Reasserted)
    reasserts t m rows r on o =
        served_after_reply _ m.header _ (λ q n. says (nat_le m.header.number 1) refl)
        (served_after_sessions (with_locks (locks.with_rows t.state.locks (sender m.header) (life_in m.header) rows) t) _
        (on_reasserted t.state.sessions (sender m.header) (life_in m.header) (unknown m t now (finds_new t m r.asked.heard.came) rows r.asks on r.new))
        (served_after_state t _ refl refl refl o))
      where
        says : (b : Bool) → nat_le m.header.number 1 ≡ b →
            IsBehind (sessions.session_of (sessions.reasserted t.state.sessions (sender m.header) (life_in m.header)) (sender m.header)) m.header.life
            m.header.number
            ⊎ Refused m.header.from m.header.life m.header.number bd.Reasserted
        says true l = inl (reasserted_reached t.state.sessions (sender m.header) (life_in m.header) m.header.number (leb-true _ _ l))
        says false l = inr (asserts t m rows r o bd.Reasserted (inl (let y = leb-false m.header.number 1 l in omega (arith, y))))

    serves : (t : ServerTurn) (m : Message) (u : ServerTurn) (b : Body) → edits.Served x now i t m → O u × (u.state.sessions ≡ t.state.sessions) →
        O (keep_and_reply u m.header b)
    unfolding keep_and_reply
    serves t m u b y r =
        served_after_reply _ m.header b
        (λ k n. inl (subst (λ l. IsBehind (sessions.session_of (sessions.store u.state.sessions (sender m.header) m.header.number b)
        (sender m.header)) l m.header.number) z.of_life
        (stored_reached u.state.sessions (sender m.header) m.header.number b z.session found next)))
        (served_after_sessions u _ (on_stored u.state.sessions (sender m.header) m.header.number b (λ w j. subst
        (λ (v : Session). FreshState m.header.number v.state) (some_is (sym found ∙ j)) next)) r.0)
      where
        z : edits.InLife t m.header
        z = y.in_life

        found : sessions.session_of u.state.sessions (sender m.header) ≡ Some z.session
        found = ap (λ (v : sessions.Sessions). sessions.session_of v (sender m.header)) r.1 ∙ z.is

        next : FreshState m.header.number z.session.state
        next = record { last = z.last; reply = z.old; is = z.state; next = y.next }

    served_edit : (a : Phase) (t u : ServerTurn) → Edit x now i a t u → O t → O u
    unfolding suspect_client
    served_edit a t u (TakesTimers _ e) o = served_after_state t _ refl refl refl o
    served_edit a t u (Steals _ c y h e) o = served_after_steal t c y o
    served_edit a t u (Welcomes _ m y g e k f) o = served_after_reply t m.header _ (λ q n. absurd q) o
    served_edit a t u (Begins _ m g f) o = served_after_reply _ m.header _ (λ q n. absurd q)
        (begins t (sender m.header) (life_in m.header) (λ y h. (f y h).1) o)
    served_edit a t u (Replaces _ m y g e k f r) o =
        served_after_reply _ m.header _ (λ q n. absurd q)
        (served_after_state (with_sessions (sessions.with_new_session (sender m.header) (life_in m.header) t.state.sessions) t) _ refl refl refl
        (begins t (sender m.header) (life_in m.header) (λ z h. subst (λ (v : Session). v.life.0 < m.header.life) (some_is (sym e ∙ h)) f) o))
    served_edit a t u (PutsOff _ m y g e k f r) o =
        served_after_reply _ m.header _ (λ q n. absurd q)
        (served_after_state (note t (notes.Suspected (sender m.header) now)) _ refl refl refl (served_after_note t _ o))
    served_edit a t u (Sees _ m ino g h b e) o = served_after_state t _ refl refl refl o
    served_edit a t u (Reasserts _ m rows r on f) o = reasserts t m rows r on o
    served_edit a t u (Serves _ m v b y e r) o = serves t m v b y (ruled O served_after_state served_after_note now t m.header m.body v b r o)
    served_edit a t u (Repeats _ m y b k e f g q) o =
        served_after_reply t m.header b (λ d n. inl (subst (λ z. IsBehind z m.header.life m.header.number) (sym f)
        (inr (sym g, subst (Reached m.header.number) (sym q) (omega arith))))) o
    served_edit a t u (Refuses _ m b r) o = served_after_reply t m.header b (refused_tells t m b r o) o
    served_edit a t u (Suspects _ c r is q f h e k) o = served_after_state (note t (notes.Suspected c now)) _ refl refl refl (served_after_note t _ o)
    served_edit a t u (Grants _ w off h e f) o = served_after_tell _ w.client w.life _ (served_after_state t _ refl refl refl o)
    served_edit a t u (Demands _ w r y e k f q d) o = served_after_tell _ r.client r.life _ (served_after_state t _ refl refl refl o)

  -- The whole step.
  pub served : (x : ServerState) (now : Stamp) → InputNew (thefts (turn x []) now) now i → O (turn x []) → O (server_step x now i)
  served x now w o = walk x now i O (served_edit x now w) o
