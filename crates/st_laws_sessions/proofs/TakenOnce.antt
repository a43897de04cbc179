-- A number that was taken is never fresh again, and gets its reply while it is the latest.
use Rattle.st_lemmas.proofs.Words
use Words.{◌≡◌, ◌≢◌, ◌+◌, ◌<◌, ℕ, Bool, true, false, List, [], ◌∷◌, find, arith, refl, sym, ap, subst, ◌∙◌, inl, inr, le-ltb, ltb-false, leb-false, eqb-true}
use Words.{eq-eqb, ne_eqb, eqb-false, ◌⊎◌, ◌==◌, nat_lt, nat_le, if◌then◌else◌, Option, Some, None, option_map, ClientId, Epoch, Life, Body, Session}
use Words.{SessionState}
use Words.Lookups.{if_true, if_false}
use Words.Tables.{same_or_not, find_other, find_own}
use Words.hellos
use Words.states.{Live, Ended}
use Words.takes.{OtherEpoch, NoSession, Stale, Again, Fresh, OutOfOrder}
use Words.Sessions.{Sessions, again, begin_session, end, ended, greeted, hello, hello_again, hello_at, hello_by, hello_ended, hello_higher, hello_live, is_live}
use Words.Sessions.{is_session_of, keep_reply, kept_state, reasserted, reasserted_session, session_of, store, take, take_at, take_from, take_life, take_next}
use Words.Sessions.{take_number, take_past, take_state, with_new_session, with_session}
use Rattle.st_lemmas.proofs.Puts.{find_put, find_put_other}
use Rattle.st_laws_sessions.specs.TakenOnce.{EachNumberIsTakenOnce, IsTaken, MayCall, MayFollow, SessionCall, Greets, Stores, Reasserts, Ends, after, called}

-- the number is the next one
abbrev IsNextOf : ℕ → SessionState → Type 0
IsNextOf number (Live last kept) = number ≡ last + 1
IsNextOf number Ended = ⊥

abbrev IsNext : Life → ℕ → Option Session → Type 0
IsNext life number None = ⊥
IsNext life number (Some s) = (life.0 ≡ s.life.0) × IsNextOf number s.state

-- the number was served: a later one is the last, or it is the last with this reply, or the session ended; or there is a session of a later life
abbrev HasServed : ℕ → Body → SessionState → Type 0
HasServed number reply (Live last kept) = (number < last) ⊎ ((number ≡ last) × (kept ≡ Some reply))
HasServed number reply Ended = Unit {0}

abbrev Served : Life → ℕ → Body → Option Session → Type 0
Served life number reply None = ⊥
Served life number reply (Some s) = (life.0 < s.life.0) ⊎ ((life.0 ≡ s.life.0) × HasServed number reply s.state)

-- Taking.

never_again : (kept : Option Body) → again kept ≡ Fresh → ⊥
unfolding again
never_again None e = absurd cc
never_again (Some reply) e = absurd cc

fresh_number : (last : ℕ) (kept : Option Body) (number : ℕ) → take_number last kept number ≡ Fresh → number ≡ last + 1
unfolding take_number take_from take_next
fresh_number last kept number e = go (nat_lt number last) (number == last) (number == last + 1) refl e
  where
    go : (a b d : Bool) → (number == last + 1) ≡ d → (if a then Stale else (if b then again kept else (if d then Fresh else OutOfOrder))) ≡ Fresh →
        number ≡ last + 1
    go true b d q f = absurd cc
    go false true d q f = absurd (never_again kept f)
    go false false true q f = eqb-true number (last + 1) q
    go false false false q f = absurd cc

fresh_state : (state : SessionState) (number : ℕ) → take_state state number ≡ Fresh → IsNextOf number state
unfolding take_state
fresh_state (Live last kept) number e = fresh_number last kept number e
fresh_state Ended number e = absurd cc

fresh_life : (s : Session) (life : Life) (number : ℕ) → take_life s life number ≡ Fresh → (life.0 ≡ s.life.0) × IsNextOf number s.state
unfolding take_life take_past
fresh_life s life number e = go (nat_lt s.life.0 life.0) (nat_lt life.0 s.life.0) refl refl e
  where
    go : (a b : Bool) → nat_lt s.life.0 life.0 ≡ a → nat_lt life.0 s.life.0 ≡ b →
        (if a then NoSession else (if b then Stale else take_state s.state number)) ≡ Fresh → (life.0 ≡ s.life.0) × IsNextOf number s.state
    go true b p q f = absurd cc
    go false true p q f = absurd cc
    go false false p q f = (omega (arith, ltb-false s.life.0 life.0 p, ltb-false life.0 s.life.0 q), fresh_state s.state number f)

fresh_at : (o : Option Session) (life : Life) (number : ℕ) → take_at o life number ≡ Fresh → IsNext life number o
unfolding take_at
fresh_at None life number e = absurd cc
fresh_at (Some s) life number e = fresh_life s life number e

fresh : (t : Sessions) (c : ClientId) (life : Life) (epoch : Epoch) (number : ℕ) → take t c life epoch number ≡ Fresh → IsNext life number (session_of t c)
unfolding take
fresh t c life epoch number e = go (epoch.0 == t.epoch.0) e
  where
    go : (a : Bool) → (if a then take_at (session_of t c) life number else OtherEpoch) ≡ Fresh → IsNext life number (session_of t c)
    go true f = fresh_at (session_of t c) life number f
    go false f = absurd cc

-- a served number is not the next one
not_next : (o : Option Session) (life : Life) (number : ℕ) (reply : Body) → Served life number reply o → IsNext life number o → ⊥
not_next None life number reply h n = h
not_next (Some s) life number reply (inl later) n = omega (arith, later, n.0)
not_next (Some s) life number reply (inr served) n = by_state s.state served.1 n.1
  where
    by_state : (state : SessionState) → HasServed number reply state → IsNextOf number state → ⊥
    by_state (Live last kept) (inl less) e = omega (arith, less, e)
    by_state (Live last kept) (inr same) e = omega (arith, same.0, e)
    by_state Ended h e = e

-- if the next number is fresh, the served one gets its reply
latest_number : (last : ℕ) (kept : Option Body) (number : ℕ) (reply : Body) → number ≡ last → kept ≡ Some reply → take_number last kept number ≡ Again reply
unfolding take_number take_from again
latest_number last kept number reply same is =
    if_false (nat_lt number last) Stale (take_from last kept number) (le-ltb number last (omega (arith, same)))
    ∙ if_true (number == last) (again kept) (take_next last number) (eq-eqb number last same) ∙ ap again is

latest_state : (state : SessionState) (number : ℕ) (reply : Body) → HasServed number reply state → IsNextOf (number + 1) state →
    take_state state number ≡ Again reply
unfolding take_state
latest_state (Live last kept) number reply (inl less) e = absurd (omega (arith, less, e))
latest_state (Live last kept) number reply (inr same) e = latest_number last kept number reply same.0 same.1
latest_state Ended number reply h e = absurd e

latest_life : (s : Session) (life : Life) (number : ℕ) (reply : Body) → life.0 ≡ s.life.0 → HasServed number reply s.state → IsNextOf (number + 1) s.state →
    take_life s life number ≡ Again reply
unfolding take_life take_past
latest_life s life number reply same h e =
    if_false (nat_lt s.life.0 life.0) NoSession (take_past s life number) (le-ltb s.life.0 life.0 (omega (arith, same)))
    ∙ if_false (nat_lt life.0 s.life.0) Stale (take_state s.state number) (le-ltb life.0 s.life.0 (omega (arith, same))) ∙ latest_state s.state number reply h e

latest_at : (o : Option Session) (life : Life) (number : ℕ) (reply : Body) → Served life number reply o → IsNext life (number + 1) o →
    take_at o life number ≡ Again reply
unfolding take_at
latest_at None life number reply h n = absurd h
latest_at (Some s) life number reply (inl later) n = absurd (omega (arith, later, n.0))
latest_at (Some s) life number reply (inr served) n = latest_life s life number reply served.0 served.1 n.1

latest : (t : Sessions) (c : ClientId) (life : Life) (epoch : Epoch) (number : ℕ) (reply : Body) → Served life number reply (session_of t c) →
    take t c life epoch (number + 1) ≡ Fresh → take t c life epoch number ≡ Again reply
unfolding take
latest t c life epoch number reply h e = go (epoch.0 == t.epoch.0) e
  where
    go : (a : Bool) → (if a then take_at (session_of t c) life (number + 1) else OtherEpoch) ≡ Fresh →
        (if a then take_at (session_of t c) life number else OtherEpoch) ≡ Again reply
    go true f = latest_at (session_of t c) life number reply h (fresh_at (session_of t c) life (number + 1) f)
    go false f = absurd cc

is_taken : (t : Sessions) (c : ClientId) (life : Life) (number : ℕ) (reply : Body) → Served life number reply (session_of t c) → IsTaken t c life number reply
is_taken t c life number reply h = record {
  never = λ epoch e. not_next (session_of t c) life number reply h (fresh t c life epoch number e);
  latest = λ epoch e. latest t c life epoch number reply h e;
}

-- Changes.

-- the session of another client
other_client : (d c : ClientId) → d.0 ≢ c.0 → (s : Session) → is_session_of c s ≡ true → is_session_of d s ≡ false
other_client d c ne s e = ne_eqb s.client.0 d.0 (λ f. ne (sym f ∙ eqb-true s.client.0 c.0 e))

same_client : (d c : ClientId) → d.0 ≡ c.0 → (s : Session) → is_session_of c s ≡ true → is_session_of d s ≡ true
same_client d c same s e = eq-eqb s.client.0 d.0 (eqb-true s.client.0 c.0 e ∙ sym same)

-- a session was put
put_own : (t : Sessions) (c : ClientId) (s : Session) → s.client.0 ≡ c.0 → session_of (with_session s t) c ≡ Some s
put_own t c s same = subst (λ (n : ℕ). find (λ r. r.client.0 == n) (with_session s t).rows ≡ Some s) same
    (find_put (is_session_of s.client) s t.rows (eq-eqb s.client.0 s.client.0 refl))

put_other : (t : Sessions) (c : ClientId) (s : Session) → s.client.0 ≢ c.0 → session_of (with_session s t) c ≡ session_of t c
put_other t c s ne = find_put_other (is_session_of c) (is_session_of s.client) s t.rows (ne_eqb s.client.0 c.0 ne) (other_client s.client c ne)

-- a higher life's session
module _ (t : Sessions) (c : ClientId) (life : Life) (number : ℕ) (reply : Body) (h : Served life number reply (session_of t c)) where
  above : (d : Life) (o : Option Session) → Served life number reply o → ((s : Session) → o ≡ Some s → s.life.0 < d.0) → life.0 < d.0
  above d None k less = absurd k
  above d (Some s) (inl later) less = omega (arith, later, less s refl)
  above d (Some s) (inr served) less = omega (arith, served.0, less s refl)

  put_above : (d : ClientId) (s : Session) → s.client.0 ≡ d.0 → ((r : Session) → session_of t d ≡ Some r → r.life.0 < s.life.0) →
      Served life number reply (session_of (with_session s t) c)
  put_above d s own less = go (same_or_not s.client.0 c.0)
    where
      go : (s.client.0 ≡ c.0) ⊎ (s.client.0 ≢ c.0) → Served life number reply (session_of (with_session s t) c)
      go (inl same) =
          subst (λ o. Served life number reply o) (sym (put_own t c s same))
          (inl (above s.life (session_of t c) h (λ r e. less r (subst (λ (n : ℕ). find (λ q. q.client.0 == n) t.rows ≡ Some r) (sym same ∙ own) e))))
      go (inr other) = subst (λ o. Served life number reply o) (sym (put_other t c s other)) h

  -- a greeting begins a session, or changes nothing
  begins_or_stays : (P : Sessions → Type 0) (d : ClientId) (new : Life) (rows : Bool) (o : Option Session) → P t →
      (((s : Session) → o ≡ Some s → s.life.0 < new.0) → P (with_new_session d new t)) → P (hello_at t d new rows o).sessions
  unfolding hello_at hello_by hello_live hello_again hello_higher hello_ended begin_session greeted
  begins_or_stays P d new rows None p b = b (λ s e. absurd cc)
  begins_or_stays P d new rows (Some s) p b =
      go (is_live s) (nat_lt new.0 s.life.0) (new.0 == s.life.0) rows (nat_le new.0 s.life.0) refl refl refl
    where
      begins : s.life.0 < new.0 → P (with_new_session d new t)
      begins less = b (λ r e. let same : s ≡ r = cc in subst (λ (x : Session). x.life.0 < new.0) same less)

      go : (a l e r k : Bool) → nat_lt new.0 s.life.0 ≡ l → (new.0 == s.life.0) ≡ e → nat_le new.0 s.life.0 ≡ k →
          P (if a then
          (if l then greeted hellos.Old t else
          (if e then greeted hellos.Welcome t else (if r then greeted hellos.Wait t else begin_session hellos.Replaced d new t)))
          else (if k then greeted hellos.Old t else begin_session hellos.Welcome d new t)).sessions
      go true true e r k x y z = p
      go true false true r k x y z = p
      go true false false true k x y z = p
      go true false false false k x y z = begins (omega (arith, ltb-false new.0 s.life.0 x, eqb-false new.0 s.life.0 y))
      go false l e r true x y z = p
      go false l e r false x y z = begins (leb-false new.0 s.life.0 z)

  greets_keeps : (d : ClientId) (new : Life) (rows : Bool) → Served life number reply (session_of (hello t d new rows).sessions c)
  unfolding hello
  greets_keeps d new rows =
      begins_or_stays (λ u. Served life number reply (session_of u c)) d new rows (session_of t d) h
      (λ less. put_above d (record { client = d; life = new; state = Live 0 None }) refl less)

  reasserts_keeps : (d : ClientId) (new : Life) → ((s : Session) → session_of t d ≡ Some s → s.life.0 < new.0) →
      Served life number reply (session_of (reasserted t d new) c)
  unfolding reasserted
  reasserts_keeps d new less = put_above d (reasserted_session d new) refl less

  -- the client's session is changed in its place
  stores_keeps : (d : ClientId) (n : ℕ) (r : Body) (new : Life) → IsNext new n (session_of t d) → Served life number reply (session_of (store t d n r) c)
  unfolding store keep_reply
  stores_keeps d n r new next = go (same_or_not d.0 c.0)
    where
      by_state : (state : SessionState) → IsNextOf n state → HasServed number reply state → HasServed number reply (kept_state n r state)
      by_state (Live last kept) e (inl less) = inl (omega (arith, e, less))
      by_state (Live last kept) e (inr same) = inl (omega (arith, e, same.0))
      by_state Ended e k = tt

      by_session : (o : Option Session) → IsNext new n o → Served life number reply o → Served life number reply (option_map (keep_reply n r) o)
      by_session None e k = k
      by_session (Some s) e (inl later) = inl later
      by_session (Some s) e (inr served) = inr (served.0, by_state s.state e.1 served.1)

      go : (d.0 ≡ c.0) ⊎ (d.0 ≢ c.0) → Served life number reply (session_of (store t d n r) c)
      go (inl same) =
          subst (λ o. Served life number reply o)
          (sym (find_own (is_session_of c) (is_session_of d) (keep_reply n r) (λ s. refl) (same_client d c same) t.rows))
          (by_session (session_of t c) (subst (λ (m : ℕ). IsNext new n (find (λ s. s.client.0 == m) t.rows)) same next) h)
      go (inr other) =
          subst (λ o. Served life number reply o)
          (sym (find_other (is_session_of c) (is_session_of d) (keep_reply n r) (λ s. refl) (other_client d c other) t.rows)) h

  ends_keeps : (d : ClientId) → Served life number reply (session_of (end t d) c)
  unfolding end ended
  ends_keeps d = go (same_or_not d.0 c.0)
    where
      by_session : (o : Option Session) → Served life number reply o → Served life number reply (option_map ended o)
      by_session None k = k
      by_session (Some s) (inl later) = inl later
      by_session (Some s) (inr served) = inr (served.0, tt)

      go : (d.0 ≡ c.0) ⊎ (d.0 ≢ c.0) → Served life number reply (session_of (end t d) c)
      go (inl same) =
          subst (λ o. Served life number reply o) (sym (find_own (is_session_of c) (is_session_of d) ended (λ s. refl) (same_client d c same) t.rows))
          (by_session (session_of t c) h)
      go (inr other) = subst (λ o. Served life number reply o)
          (sym (find_other (is_session_of c) (is_session_of d) ended (λ s. refl) (other_client d c other) t.rows)) h

  keeps : (call : SessionCall) → MayCall call t → Served life number reply (session_of (called call t) c)
  keeps (Greets d new rows) may = greets_keeps d new rows
  keeps (Stores d n r) may = stores_keeps d n r may.0 (fresh t d may.0 t.epoch n may.1)
  keeps (Reasserts d new) may = reasserts_keeps d new may
  keeps (Ends d) may = ends_keeps d

all_keep : (calls : List SessionCall) (t : Sessions) (c : ClientId) (life : Life) (number : ℕ) (reply : Body) → Served life number reply (session_of t c) →
    MayFollow calls t → Served life number reply (session_of (after calls t) c)
all_keep [] t c life number reply h may = h
all_keep (call ∷ calls) t c life number reply h may = all_keep calls (called call t) c life number reply (keeps t c life number reply h call may.0) may.1

-- the number is served once its reply is kept
stored : (t : Sessions) (c : ClientId) (life : Life) (number : ℕ) (reply : Body) → IsNext life number (session_of t c) →
    Served life number reply (session_of (store t c number reply) c)
unfolding store keep_reply
stored t c life number reply next =
    subst (λ o. Served life number reply o) (sym (find_own (is_session_of c) (is_session_of c) (keep_reply number reply) (λ s. refl) (λ s e. e) t.rows))
    (by_session (session_of t c) next)
  where
    by_state : (state : SessionState) → IsNextOf number state → HasServed number reply (kept_state number reply state)
    by_state (Live last kept) e = inr (refl, refl)
    by_state Ended e = absurd e

    by_session : (o : Option Session) → IsNext life number o → Served life number reply (option_map (keep_reply number reply) o)
    by_session None e = e
    by_session (Some s) e = inr (e.0, by_state s.state e.1)

pub each_number_is_taken_once : EachNumberIsTakenOnce
each_number_is_taken_once t c life number reply calls e may =
    is_taken (after calls (store t c number reply)) c life number reply
    (all_keep calls (store t c number reply) c life number reply (stored t c life number reply (fresh t c life t.epoch number e)) may)
