-- Whoever has a row or a wait at a server has a session that lives there. A session has its client's life from before, or that of the message that comes. And
-- what the server says has its epoch, and no welcome but in answer to a greeting.
use Rattle.st_lemmas.proofs.Words
use Words.{◌≡◌, ◌≢◌, ℕ, ◌⊎◌, Bool, true, not, List, [], ◌∷◌, ◌==◌, refl, sym, ap, ◌∙◌, subst, inl, inr, map, Option, Some, None, option_map}
use Words.{eq-eqb, eqb-true, ne_eqb, AcceptRefusal, ClientId, Life, Stamp, Mode, Header, Body, Message, Output, ServerInput, LockRow, Waiter, Session, SessionState}
use Words.bodies
use Words.modes
use Words.outputs
use Words.states
use Words.Keys.{client, server_node}
use Words.Lists.{Has}
use Words.Locks as locks
use Words.Locks.{Locks, is_row_by, is_row_of, is_wait_by}
use Words.Lookups.{some_is}
use Words.Server as sv
use Words.Server.{ServerState, ServerTurn, keep_and_reply, life_in, reply, sender, steal_from, suspect_client, tell}
use Words.Serving.{end_client}
use Words.Sessions as sessions
use Words.Sessions.{Sessions, is_live, session_of}
use Words.Tables.{cond_either, cond_false, find_map, found_at, has_append, has_filter, has_map, not_true, same_or_not}
use Words.Truth.{not_both}
use Rattle.st_lemmas.proofs.Puts.{find_put_by, find_put_other, has_put}
use Rattle.st_rules.specs.declared.authority.AcceptRefusal.TheVariants as refusals
use Rattle.st_rules.specs.declared.locks.Verdict.{Verdict}
use Rattle.st_rules.specs.declared.locks.Verdict.TheVariants as verdicts
use Rattle.st_rules.specs.declared.input.ServerInput.TheVariants as inputs
use Rattle.st_third.specs.Limits.{is_client_node}
use Rattle.st_third.specs.Server as every
use Rattle.st_trace.specs.Server.Edits as edits
use Rattle.st_trace.specs.Server.Edits.{EditOf, NoSends, Gets, InLife, Phase, RefusedOf, Ruled, Told}
use Rattle.st_trace.specs.Server.Steps.{step_of}
use Rattle.st_trace.proofs.Server.Walk.{walk_of}
use Rattle.st_laws_leaving.specs.Serving.{HasCome, HasSession, IsServing, IsWelcomedTo, KeepsNoWelcome, LifeFrom, NoWelcome, SaysRight, ServersServeOn, ServesOn, WasThere}

-- Sessions after a change.

-- a session that is put in its client's place
pub put_own : (v : Sessions) (s : Session) (c : ClientId) → c.0 ≡ s.client.0 → session_of (sessions.with_session s v) c ≡ Some s
put_own v s c e =
    find_put_by (sessions.is_session_of c) (sessions.is_session_of s.client) s v.rows (eq-eqb s.client.0 c.0 (sym e))
    (λ y q. eq-eqb y.client.0 s.client.0 (eqb-true y.client.0 c.0 q ∙ e))

-- the others' stay
pub put_other : (v : Sessions) (s : Session) (c : ClientId) → c.0 ≢ s.client.0 → session_of (sessions.with_session s v) c ≡ session_of v c
put_other v s c ne =
    find_put_other (sessions.is_session_of c) (sessions.is_session_of s.client) s v.rows (ne_eqb s.client.0 c.0 (λ e. ne (sym e)))
    (λ y e. ne_eqb y.client.0 s.client.0 (λ f. ne (sym (eqb-true y.client.0 c.0 e) ∙ f)))

-- the session of a client whose session ends
pub end_is : (v : Sessions) (c d : ClientId) → session_of (sessions.end v c) d ≡ option_map (sessions.end_of c) (session_of v d)
unfolding sessions.end
end_is v c d = find_map (sessions.is_session_of d) (sessions.end_of c) (λ x. ap (λ (z : ClientId). z.0 == d.0) (end_client c x)) v.rows

-- of another client
pub end_other : (v : Sessions) (c d : ClientId) → d.0 ≢ c.0 → session_of (sessions.end v c) d ≡ session_of v d
end_other v c d ne = end_is v c d ∙ go (session_of v d) refl
  where
    go : (o : Option Session) → session_of v d ≡ o → option_map (sessions.end_of c) o ≡ o
    go None q = refl
    go (Some x) q =
        ap Some (cond_false (sessions.is_session_of c x) (sessions.ended x) x
        (ne_eqb x.client.0 c.0 (λ e. ne (sym (eqb-true x.client.0 d.0 (found_at (sessions.is_session_of d) v.rows x q).0) ∙ e))))

-- the life stays
pub end_life : (c : ClientId) (x : Session) → (sessions.end_of c x).life ≡ x.life
unfolding sessions.ended
end_life c x = cond_either (λ (z : Session). z.life ≡ x.life) (sessions.is_session_of c x) (sessions.ended x) x (λ e. refl) (λ e. refl)

-- a kept reply
pub kept_is : (v : Sessions) (c d : ClientId) (number : ℕ) (b : Body) →
    session_of (sessions.store v c number b) d ≡ option_map (sessions.keep_of c number b) (session_of v d)
unfolding sessions.store sessions.keep_reply
kept_is v c d number b =
    find_map (sessions.is_session_of d) (sessions.keep_of c number b)
    (λ x. cond_either (λ (z : Session). sessions.is_session_of d z ≡ sessions.is_session_of d x) (sessions.is_session_of c x) (sessions.keep_reply number b x) x
    (λ e. refl) (λ e. refl))
    v.rows

-- the life and whether it lives stay
pub kept_life : (c : ClientId) (number : ℕ) (b : Body) (x : Session) →
    ((sessions.keep_of c number b x).life ≡ x.life) × (is_live (sessions.keep_of c number b x) ≡ is_live x)
unfolding sessions.keep_reply
kept_life c number b x =
    cond_either (λ (z : Session). (z.life ≡ x.life) × (is_live z ≡ is_live x)) (sessions.is_session_of c x) (sessions.keep_reply number b x) x
    (λ e. (refl, of_state x.state)) (λ e. (refl, refl))
  where
    of_state : (x : SessionState) → sessions.is_live_state (sessions.kept_state number b x) ≡ sessions.is_live_state x
    of_state (states.Live last old) = refl
    of_state states.Ended = refl

-- Clients that are served: by the same look-up
served_as : (v w : Sessions) (c : ClientId) → session_of w c ≡ session_of v c → HasSession v c → HasSession w c
served_as v w c e h = record { session = h.session; is = e ∙ h.is; live = h.live }

served_put : (v : Sessions) (s : Session) (c : ClientId) → is_live s ≡ true → HasSession v c → HasSession (sessions.with_session s v) c
served_put v s c l h = go (same_or_not c.0 s.client.0)
  where
    go : (c.0 ≡ s.client.0) ⊎ (c.0 ≢ s.client.0) → HasSession (sessions.with_session s v) c
    go (inl e) = record { session = s; is = put_own v s c e; live = l }
    go (inr ne) = served_as v (sessions.with_session s v) c (put_other v s c ne) h

served_kept : (v : Sessions) (c d : ClientId) (number : ℕ) (b : Body) → HasSession v d → HasSession (sessions.store v c number b) d
served_kept v c d number b h =
    record {
      session = sessions.keep_of c number b h.session;
      is = kept_is v c d number b ∙ ap (option_map (sessions.keep_of c number b)) h.is;
      live = (kept_life c number b h.session).1 ∙ h.live;
    }

-- No session keeps a welcome.

abbrev Kept : Sessions → Type 0
Kept v = (x : Session) → Has x v.rows → KeepsNoWelcome x.state

kept_put : (v : Sessions) (s : Session) → KeepsNoWelcome s.state → Kept v → Kept (sessions.with_session s v)
kept_put v s k f x h = go (has_put (sessions.is_session_of s.client) s v.rows x h)
  where
    go : (x ≡ s) ⊎ Has x v.rows → KeepsNoWelcome x.state
    go (inl e) = subst (λ (z : Session). KeepsNoWelcome z.state) (sym e) k
    go (inr i) = f x i

kept_end : (v : Sessions) (c : ClientId) → Kept v → Kept (sessions.end v c)
unfolding sessions.end sessions.ended
kept_end v c f y h = let z = has_map (sessions.end_of c) v.rows y h in
    subst (λ (x : Session). KeepsNoWelcome x.state) (sym z.2)
    (cond_either (λ (x : Session). KeepsNoWelcome x.state) (sessions.is_session_of c z.0) (sessions.ended z.0) z.0 (λ e. tt) (λ e. f z.0 z.1))

kept_store : (v : Sessions) (c : ClientId) (number : ℕ) (b : Body) → NoWelcome b → Kept v → Kept (sessions.store v c number b)
unfolding sessions.store sessions.keep_reply
kept_store v c number b n f y h = let z = has_map (sessions.keep_of c number b) v.rows y h in
    subst (λ (x : Session). KeepsNoWelcome x.state) (sym z.2)
    (cond_either (λ (x : Session). KeepsNoWelcome x.state) (sessions.is_session_of c z.0) (sessions.keep_reply number b z.0) z.0
    (λ e. of_state z.0.state (f z.0 z.1)) (λ e. f z.0 z.1))
  where
    of_state : (x : SessionState) → KeepsNoWelcome x → KeepsNoWelcome (sessions.kept_state number b x)
    of_state (states.Live last old) k = n
    of_state states.Ended k = tt

-- Rows and waits after a change.

-- with the same sessions, and the rows and waits of no other clients
pub fewer : (n v : ServerState) → v.sessions ≡ n.sessions → ((r : LockRow) → Has r v.locks.rows → (q : LockRow) × Has q n.locks.rows × (q.client ≡ r.client)) →
    ((w : Waiter) → Has w v.locks.waiters → (x : Waiter) × Has x n.locks.waiters × (x.client ≡ w.client)) → IsServing n → IsServing v
fewer n v e rows waits h =
    record {
      rows = λ r i. let z = rows r i in moved r.client z.0.client z.2 (h.rows z.0 z.1);
      waits = λ w i. let z = waits w i in moved w.client z.0.client z.2 (h.waits z.0 z.1);
      kept = subst Kept (sym e) h.kept;
    }
  where
    moved : (c d : ClientId) → d ≡ c → HasSession n.sessions d → HasSession v.sessions c
    moved c d p x = subst (λ z. HasSession z c) (sym e) (subst (HasSession n.sessions) p x)

-- all rows, and all waits
pub all_rows : (n : ServerState) (r : LockRow) → Has r n.locks.rows → (q : LockRow) × Has q n.locks.rows × (q.client ≡ r.client)
all_rows n r i = (r, i, refl)

pub all_waits : (n : ServerState) (w : Waiter) → Has w n.locks.waiters → (x : Waiter) × Has x n.locks.waiters × (x.client ≡ w.client)
all_waits n w i = (w, i, refl)

-- a change of each row that leaves its client
pub mapped_rows : (f : LockRow → LockRow) → ((r : LockRow) → (f r).client ≡ r.client) → (rows : List LockRow) (r : LockRow) → Has r (map f rows) →
    (q : LockRow) × Has q rows × (q.client ≡ r.client)
mapped_rows f same rows r i =
    let z = has_map f rows r i in (z.0, z.1, sym (same z.0) ∙ ap (λ (q : LockRow). q.client) (sym z.2))

pub lowered_client : (c : ClientId) (ino : ℕ) (r : LockRow) → (locks.lower c ino r).client ≡ r.client
unfolding locks.lowered
lowered_client c ino r = cond_either (λ (y : LockRow). y.client ≡ r.client) (is_row_of c ino r) (locks.lowered r) r (λ e. refl) (λ e. refl)

-- the rows after a release
pub released_rows : (l : Locks) (c : ClientId) (ino : ℕ) (to : Mode) (r : LockRow) → Has r (locks.release_to l c ino to).rows →
    (q : LockRow) × Has q l.rows × (q.client ≡ r.client)
unfolding locks.release_to
released_rows l c ino modes.None r i = (r, (has_filter (λ q. not (is_row_of c ino q)) l.rows r i).0, refl)
released_rows l c ino modes.S r i = mapped_rows (locks.lower c ino) (lowered_client c ino) l.rows r i
released_rows l c ino modes.X r i = mapped_rows (locks.lower c ino) (lowered_client c ino) l.rows r i

pub released_waits : (l : Locks) (c : ClientId) (ino : ℕ) (to : Mode) → (locks.release_to l c ino to).waiters ≡ l.waiters
unfolding locks.release_to
released_waits l c ino modes.None = refl
released_waits l c ino modes.S = refl
released_waits l c ino modes.X = refl

-- the rows and the waits after a grant: one more row, of this client
pub granted_rows : (l : Locks) (c : ClientId) (life : Life) (ino : ℕ) (mode : Mode) (r : LockRow) → Has r (locks.grant l c life ino mode).rows →
    (r.client ≡ c) ⊎ Has r l.rows
unfolding locks.grant
granted_rows l c life ino mode r i = go (has_put (is_row_of c ino) (locks.new_row l c life ino mode) l.rows r i)
  where
    go : (r ≡ locks.new_row l c life ino mode) ⊎ Has r l.rows → (r.client ≡ c) ⊎ Has r l.rows
    go (inl e) = inl (ap (λ (q : LockRow). q.client) e)
    go (inr h) = inr h

pub granted_waits : (l : Locks) (c : ClientId) (life : Life) (ino : ℕ) (mode : Mode) (w : Waiter) → Has w (locks.grant l c life ino mode).waiters →
    Has w l.waiters
unfolding locks.grant
granted_waits l c life ino mode w i = (has_filter (λ y. not (locks.is_wait_of c ino y)) l.waiters w i).0

-- and after a client waits: one more wait, of this client
pub queued_rows : (l : Locks) (c : ClientId) (life : Life) (ino : ℕ) (mode : Mode) → (locks.queue l c life ino mode).rows ≡ l.rows
unfolding locks.queue locks.queue_at
queued_rows l c life ino mode = go (locks.wait_of l c ino)
  where
    go : (o : Option Waiter) → (locks.queue_at l c life ino mode o).rows ≡ l.rows
    go None = refl
    go (Some v) = refl

pub queued_waits : (l : Locks) (c : ClientId) (life : Life) (ino : ℕ) (mode : Mode) (w : Waiter) → Has w (locks.queue l c life ino mode).waiters →
    (w.client ≡ c) ⊎ ((x : Waiter) × Has x l.waiters × (x.client ≡ w.client))
unfolding locks.queue locks.queue_at locks.wait_for
queued_waits l c life ino mode w = go (locks.wait_of l c ino)
  where
    go : (o : Option Waiter) → Has w (locks.queue_at l c life ino mode o).waiters → (w.client ≡ c) ⊎ ((x : Waiter) × Has x l.waiters × (x.client ≡ w.client))
    go None i = at (has_append l.waiters (locks.new_wait c life ino mode ∷ []) w i)
      where
        at : Has w l.waiters ⊎ Has w (locks.new_wait c life ino mode ∷ []) → (w.client ≡ c) ⊎ ((x : Waiter) × Has x l.waiters × (x.client ≡ w.client))
        at (inl h) = inr (w, h, refl)
        at (inr (inl e)) = inl (ap (λ (x : Waiter). x.client) e)
        at (inr (inr h)) = absurd h
    go (Some v) i =
        let z = has_map (locks.raise c ino mode) l.waiters w i in
        inr (z.0, z.1, sym (same z.0) ∙ ap (λ (x : Waiter). x.client) (sym z.2))
      where
        same : (x : Waiter) → (locks.raise c ino mode x).client ≡ x.client
        same x = cond_either (λ (y : Waiter). y.client ≡ x.client) (locks.is_wait_of c ino x) (locks.wait_for mode x) x (λ e. refl) (λ e. refl)

pub observed_client : (c : ClientId) (ino : ℕ) (g : Words.GrantNo) (r : LockRow) → (locks.observe c ino g r).client ≡ r.client
unfolding locks.answered_row
observed_client c ino g r = cond_either (λ (y : LockRow). y.client ≡ r.client) _ (locks.answered_row r) r (λ e. refl) (λ e. refl)

pub demanded_client : (c : ClientId) (ino : ℕ) (d : Words.RowDemand) (r : LockRow) → (locks.demand_of c ino d r).client ≡ r.client
unfolding locks.demanded
demanded_client c ino d r = cond_either (λ (y : LockRow). y.client ≡ r.client) _ (locks.demanded d r) r (λ e. refl) (λ e. refl)

-- What is said.

-- an answer that changes nothing isn't a welcome
told_plain : (t : ServerTurn) (h : Header) (b r : Body) → Told t h b r → NoWelcome r
told_plain t h _ _ edits.IsAlive = tt
told_plain t h _ _ (edits.IsHeld ino mode r f q c) = tt
told_plain t h _ _ (edits.HasTooMany ino mode f q p) = tt
told_plain t h _ _ (edits.HasNoRow ino g to n) = tt
told_plain t h _ _ (edits.IsMapped ino g p f q) = tt
told_plain t h _ _ (edits.IsNoFile b ino e f) = tt
told_plain t h _ _ (edits.HoldsNot b ino g mode e f q) = tt
told_plain t h _ _ (edits.HasNoSpace ino g p count free wanted f q e) = tt
told_plain t h _ _ (edits.IsNamed dir x ino e) = tt
told_plain t h _ _ (edits.AreListed dir after rows e) = tt
told_plain t h _ _ (edits.IsRefused op r e) = tt
told_plain t h _ _ (edits.RemovesNot dir x g ino l f q) = tt

pub ruled_plain : (now : Stamp) (t : ServerTurn) (h : Header) (b : Body) (u : ServerTurn) (r : Body) → Ruled now t h b u r → NoWelcome r
ruled_plain now t h _ _ _ (edits.Tells b r x) = told_plain t h b r x
ruled_plain now t h _ _ _ (edits.Acquires ino mode a q k g) = verdict a.verdict
  where
    verdict : (v : Verdict) → NoWelcome (sv.verdict_body ino mode v)
    verdict (verdicts.Granted g held) = tt
    verdict (verdicts.Queued clients) = tt
ruled_plain now t h _ _ _ (edits.Releases ino g to r e q) = tt
ruled_plain now t h _ _ _ (edits.Allocates ino g p count x q k e) = tt
ruled_plain now t h _ _ _ (edits.Cuts ino g p q k) = tt
ruled_plain now t h _ _ _ (edits.Creates dir x d e) = tt
ruled_plain now t h _ _ _ (edits.MakesDir dir x d e) = tt
ruled_plain now t h _ _ _ (edits.Renames dir x dir2 x2 d e) = tt
ruled_plain now t h _ _ _ (edits.RemovesDir dir x g ino d l q z e i) = tt
ruled_plain now t h _ _ _ (edits.RemovesFile dir x g ino d l q k e i) = tt

-- The sessions, the number and the epoch that a rule leaves, and the rows and waits.
pub record RuleLeaves (t : ServerTurn) (c : ClientId) (u : ServerTurn) : Type 0 where
  pub sessions : u.state.sessions ≡ t.state.sessions
  pub authority : u.state.authority ≡ t.state.authority
  pub id : u.state.id ≡ t.state.id
  pub epoch : u.state.stable.epoch ≡ t.state.stable.epoch
  pub rows : (r : LockRow) → Has r u.state.locks.rows → (r.client ≡ c) ⊎ ((q : LockRow) × Has q t.state.locks.rows × (q.client ≡ r.client))
  pub waits : (w : Waiter) → Has w u.state.locks.waiters → (w.client ≡ c) ⊎ ((x : Waiter) × Has x t.state.locks.waiters × (x.client ≡ w.client))
  pub said : (m : Message) → Has (outputs.Send m) u.out → Has (outputs.Send m) t.out

-- a rule that leaves the locks
leaves_locks : (t : ServerTurn) (c : ClientId) (u : ServerTurn) → u.state.sessions ≡ t.state.sessions → u.state.authority ≡ t.state.authority →
    u.state.id ≡ t.state.id → u.state.stable.epoch ≡ t.state.stable.epoch → u.state.locks ≡ t.state.locks →
    ((m : Message) → Has (outputs.Send m) u.out → Has (outputs.Send m) t.out) → RuleLeaves t c u
leaves_locks t c u a b d e f g =
    record {
      sessions = a;
      authority = b;
      id = d;
      epoch = e;
      rows = λ r i. inr (r, subst (λ (l : Locks). Has r l.rows) f i, refl);
      waits = λ w i. inr (w, subst (λ (l : Locks). Has w l.waiters) f i, refl);
      said = g;
    }

noted_said : (os : List Output) (n : Words.Note) (m : Message) → Has (outputs.Send m) (Rattle.std.specs.Prelude.◌++◌ os (outputs.Note n ∷ [])) →
    Has (outputs.Send m) os
noted_said os n m h = go (has_append os (outputs.Note n ∷ []) (outputs.Send m) h)
  where
    go : (Has (outputs.Send m) os) ⊎ (Has (outputs.Send m) (outputs.Note n ∷ [])) → Has (outputs.Send m) os
    go (inl i) = i
    go (inr (inl e)) = absurd (no e)
      where
        no : outputs.Send m ≡ outputs.Note n → ⊥
        no e = cc
    go (inr (inr i)) = absurd i

pub rule_leaves : (now : Stamp) (t : ServerTurn) (h : Header) (b : Body) (u : ServerTurn) (r : Body) → Ruled now t h b u r → RuleLeaves t (sender h) u
unfolding sv.cut_pages sv.cut_whole locks.drop_file_waits
rule_leaves now t h _ _ _ (edits.Acquires ino mode a file lacks gets) = taken gets
  where
    taken : {a : locks.Acquired} → Gets (sv.grants_now t now) t.state.locks (sender h) (life_in h) ino mode a →
        RuleLeaves t (sender h) (sv.with_locks a.locks t)
    taken (edits.AtOnce on free first) =
        record {
          sessions = refl;
          authority = refl;
          id = refl;
          epoch = refl;
          rows = λ r i. rows r (granted_rows t.state.locks (sender h) (life_in h) ino mode r i);
          waits = λ w i. inr (w, granted_waits t.state.locks (sender h) (life_in h) ino mode w i, refl);
          said = λ m i. i;
        }
      where
        rows : (r : LockRow) → (r.client ≡ sender h) ⊎ Has r t.state.locks.rows →
            (r.client ≡ sender h) ⊎ ((q : LockRow) × Has q t.state.locks.rows × (q.client ≡ r.client))
        rows r (inl e) = inl e
        rows r (inr i) = inr (r, i, refl)
    taken (edits.InTurn held) =
        record {
          sessions = refl;
          authority = refl;
          id = refl;
          epoch = refl;
          rows = λ r i. inr (r, subst (Has r) (queued_rows t.state.locks (sender h) (life_in h) ino mode) i, refl);
          waits = λ w i. queued_waits t.state.locks (sender h) (life_in h) ino mode w i;
          said = λ m i. i;
        }
rule_leaves now t h _ _ _ (edits.Releases ino g to q is under) =
    record {
      sessions = refl;
      authority = refl;
      id = refl;
      epoch = refl;
      rows = λ r i. inr (released_rows t.state.locks (sender h) ino to r i);
      waits = λ w i. inr (w, subst (Has w) (released_waits t.state.locks (sender h) ino to) i, refl);
      said = λ m i. i;
    }
rule_leaves now t h _ _ _ (edits.RemovesFile dir nm g ino d look is_file holds remove e) =
    record {
      sessions = refl;
      authority = refl;
      id = refl;
      epoch = refl;
      rows = λ r i. inr (r, i, refl);
      waits = λ w i. inr (w, (has_filter (λ v. not (locks.is_wait_on d.ino v)) t.state.locks.waiters w i).0, refl);
      said = λ m i. noted_said t.out _ m i;
    }
rule_leaves now t h _ _ _ (edits.Cuts ino g p q k) = leaves_locks t (sender h) _ refl refl refl refl refl (λ m i. noted_said t.out _ m i)
rule_leaves now t h _ _ _ (edits.Tells b r x) = leaves_locks t (sender h) _ refl refl refl refl refl (λ m i. i)
rule_leaves now t h _ _ _ (edits.Allocates ino g p count x q k e) = leaves_locks t (sender h) _ refl refl refl refl refl (λ m i. i)
rule_leaves now t h _ _ _ (edits.Creates dir x d e) = leaves_locks t (sender h) _ refl refl refl refl refl (λ m i. i)
rule_leaves now t h _ _ _ (edits.MakesDir dir x d e) = leaves_locks t (sender h) _ refl refl refl refl refl (λ m i. i)
rule_leaves now t h _ _ _ (edits.Renames dir x dir2 x2 d e) = leaves_locks t (sender h) _ refl refl refl refl refl (λ m i. i)
rule_leaves now t h _ _ _ (edits.RemovesDir dir x g ino d l q z e i) = leaves_locks t (sender h) _ refl refl refl refl refl (λ m i. i)

-- nothing was sent yet
no_message : (os : List Output) (m : Message) → NoSends os → Has (outputs.Send m) os → ⊥
no_message [] m q h = h
no_message (outputs.Send x ∷ os) m q h = q
no_message (outputs.Submit number at what ∷ os) m q (inl e) = cc e
no_message (outputs.Submit number at what ∷ os) m q (inr h) = no_message os m q h
no_message (outputs.Answer op a ∷ os) m q (inl e) = cc e
no_message (outputs.Answer op a ∷ os) m q (inr h) = no_message os m q h
no_message (outputs.Note x ∷ os) m q (inl e) = cc e
no_message (outputs.Note x ∷ os) m q (inr h) = no_message os m q h

module _ (clients : ℕ → Bool) (n : ServerState) (now : Stamp) (i : ServerInput) where
  -- one more message
  sent : (t : ServerTurn) (m : Message) → SaysRight n i m → (m.body ≡ bodies.Welcome → IsWelcomedTo t.state m) → ServesOn n i t →
      ServesOn n i (sv.say t (outputs.Send m))
  sent t m r w s =
      record {
        id = s.id;
        epoch = s.epoch;
        serving = s.serving;
        lives = s.lives;
        said = λ x h. go x (has_append t.out (outputs.Send m ∷ []) (outputs.Send x) h);
        welcomed = λ x h. at x (has_append t.out (outputs.Send m ∷ []) (outputs.Send x) h);
      }
    where
      same : (x : Message) → outputs.Send x ≡ outputs.Send m → x ≡ m
      same x e = cc e

      go : (x : Message) → (Has (outputs.Send x) t.out) ⊎ (Has (outputs.Send x) (outputs.Send m ∷ [])) → SaysRight n i x
      go x (inl h) = s.said x h
      go x (inr (inl e)) = subst (SaysRight n i) (sym (same x e)) r
      go x (inr (inr h)) = absurd h

      at : (x : Message) → (Has (outputs.Send x) t.out) ⊎ (Has (outputs.Send x) (outputs.Send m ∷ [])) → x.body ≡ bodies.Welcome → IsWelcomedTo t.state x
      at x (inl h) = s.welcomed x h
      at x (inr (inl e)) = subst (λ (y : Message). y.body ≡ bodies.Welcome → IsWelcomedTo t.state y) (sym (same x e)) w
      at x (inr (inr h)) = absurd h

  -- a body that isn't a welcome
  other : (t : ServerTurn) (h : Header) (b : Body) → h.epoch ≡ t.state.stable.epoch.0 → h.from ≡ server_node t.state.id → NoWelcome b → ServesOn n i t →
      SaysRight n i (record { header = h; body = b })
  other t h b e f w s =
      record {
        epoch = e ∙ ap (λ (x : Words.Epoch). x.0) s.epoch;
        from = f ∙ ap (λ (x : Words.ServerId). server_node x) s.id;
        welcome = λ q. absurd (subst NoWelcome q w);
      }

  replied : (t : ServerTurn) (h : Header) (b : Body) → NoWelcome b → ServesOn n i t → ServesOn n i (reply t h b)
  unfolding reply
  replied t h b w s = sent t _ (other t (sv.reply_header t.state h) b refl refl w s) (λ q. absurd (subst NoWelcome q w)) s

  told : (t : ServerTurn) (c : ClientId) (life : Life) (b : Body) → NoWelcome b → ServesOn n i t → ServesOn n i (tell t c life b)
  unfolding tell
  told t c life b w s = sent t _ (other t (sv.own_header t.state c life) b refl refl w s) (λ q. absurd (subst NoWelcome q w)) s

  -- a welcome
  welcomed : (t : ServerTurn) (m : Message) → i ≡ inputs.Control m → m.body ≡ bodies.Hello →
      (y : Session) × (session_of t.state.sessions (sender m.header) ≡ Some y) × (y.life.0 ≡ m.header.life) → ServesOn n i t →
      ServesOn n i (reply t m.header bodies.Welcome)
  unfolding reply
  welcomed t m is hello y s =
      sent t _
      (record {
        epoch = ap (λ (x : Words.Epoch). x.0) s.epoch;
        from = ap (λ (x : Words.ServerId). server_node x) s.id;
        welcome = λ q. record { greeting = m; is = is; hello = hello; from = refl; life = refl };
      }) (λ q. y) s

  -- another session of the client that is heard
  put : (t : ServerTurn) (x : Session) (m : Message) → i ≡ inputs.Control m → x.client ≡ sender m.header → x.life.0 ≡ m.header.life → is_live x ≡ true →
      KeepsNoWelcome x.state → NoSends t.out → ServesOn n i t → ServesOn n i (sv.with_sessions (sessions.with_session x t.state.sessions) t)
  put t x m is own of_life live k none s =
      record {
        id = s.id;
        epoch = s.epoch;
        serving =
            record {
              rows = λ r h. served_put t.state.sessions x r.client live (s.serving.rows r h);
              waits = λ w h. served_put t.state.sessions x w.client live (s.serving.waits w h);
              kept = kept_put t.state.sessions x k s.serving.kept;
            };
        lives = λ c y e. from c y e (same_or_not c.0 x.client.0);
        said = s.said;
        welcomed = λ y h e. absurd (no_message t.out y none h);
      }
    where
      from : (c : ClientId) (y : Session) → session_of (sessions.with_session x t.state.sessions) c ≡ Some y → (c.0 ≡ x.client.0) ⊎ (c.0 ≢ x.client.0) →
          LifeFrom n i c y.life.0
      from c y e (inl q) =
          HasCome m is (sym (q ∙ ap (λ (z : ClientId). z.0) own))
          (sym of_life ∙ ap (λ (z : Session). z.life.0) (some_is (sym (put_own t.state.sessions x c q) ∙ e)))
      from c y e (inr ne) = s.lives c y (sym (put_other t.state.sessions x c ne) ∙ e)

  -- with fewer rows and waits, and the same sessions
  less : (t u : ServerTurn) → u.state.id ≡ t.state.id → u.state.stable.epoch ≡ t.state.stable.epoch → u.state.sessions ≡ t.state.sessions →
      ((r : LockRow) → Has r u.state.locks.rows → (q : LockRow) × Has q t.state.locks.rows × (q.client ≡ r.client)) →
      ((w : Waiter) → Has w u.state.locks.waiters → (x : Waiter) × Has x t.state.locks.waiters × (x.client ≡ w.client)) →
      ((m : Message) → Has (outputs.Send m) u.out → Has (outputs.Send m) t.out) → ServesOn n i t → ServesOn n i u
  less t u a b e rows waits said s =
      record {
        id = a ∙ s.id;
        epoch = b ∙ s.epoch;
        serving = fewer t.state u.state e rows waits s.serving;
        lives = λ c y q. s.lives c y (sym (ap (λ (v : Sessions). session_of v c) e) ∙ q);
        said = λ m h. s.said m (said m h);
        welcomed = λ m h q. let z = s.welcomed m (said m h) q in (z.0, ap (λ (v : Sessions). session_of v (client m.header.to)) e ∙ z.1, z.2);
      }

  suspected : (t : ServerTurn) (c : ClientId) → ServesOn n i t → ServesOn n i (suspect_client t now c)
  unfolding suspect_client locks.drop_waits
  suspected t c s =
      less t (suspect_client t now c) refl refl refl (all_rows t.state)
      (λ w h. (w, (has_filter (λ x. not (is_wait_by c x)) t.state.locks.waiters w h).0, refl)) (λ m h. noted_said t.out _ m h) s

  stolen : (t : ServerTurn) (c : ClientId) (x : Session) → ServesOn n i t → ServesOn n i (steal_from t c x)
  unfolding steal_from locks.forget
  stolen t c x s =
      record {
        id = s.id;
        epoch = s.epoch;
        serving =
            record {
              rows = λ r h. let z = has_filter (λ q. not (is_row_by c q)) t.state.locks.rows r h in
                  served_as t.state.sessions (sessions.end t.state.sessions c) r.client
                  (end_other t.state.sessions c r.client (λ e. not_both (r.client.0 == c.0) (eq-eqb r.client.0 c.0 e) (not_true _ z.1)))
                  (s.serving.rows r z.0);
              waits = λ w h. let z = has_filter (λ q. not (is_wait_by c q)) t.state.locks.waiters w h in
                  served_as t.state.sessions (sessions.end t.state.sessions c) w.client
                  (end_other t.state.sessions c w.client (λ e. not_both (w.client.0 == c.0) (eq-eqb w.client.0 c.0 e) (not_true _ z.1)))
                  (s.serving.waits w z.0);
              kept = kept_end t.state.sessions c s.serving.kept;
            };
        lives = λ d y e. lives d y (sym (end_is t.state.sessions c d) ∙ e);
        said = λ m h. s.said m (noted_said t.out _ m h);
        welcomed =
            λ m h q. let z = s.welcomed m (noted_said t.out _ m h) q in (
              sessions.end_of c z.0,
              end_is t.state.sessions c (client m.header.to) ∙ ap (option_map (sessions.end_of c)) z.1,
              ap (λ (l : Life). l.0) (end_life c z.0) ∙ z.2,
            );
      }
    where
      lives : (d : ClientId) (y : Session) → option_map (sessions.end_of c) (session_of t.state.sessions d) ≡ Some y → LifeFrom n i d y.life.0
      lives d y = go (session_of t.state.sessions d) refl
        where
          go : (o : Option Session) → session_of t.state.sessions d ≡ o → option_map (sessions.end_of c) o ≡ Some y → LifeFrom n i d y.life.0
          go None q e = cc e
          go (Some z) q e =
              subst (LifeFrom n i d) (ap (λ (l : Life). l.0) (sym (end_life c z)) ∙ ap (λ (v : Session). v.life.0) (some_is e)) (s.lives d z q)

  -- the rule of a request of a client that has a session
  ruled : (t : ServerTurn) (h : Header) (u : ServerTurn) → HasSession t.state.sessions (sender h) → RuleLeaves t (sender h) u → ServesOn n i t → ServesOn n i u
  ruled t h u x l s =
      record {
        id = l.id ∙ s.id;
        epoch = l.epoch ∙ s.epoch;
        serving =
            record {
              rows = λ r j. subst (λ v. HasSession v r.client) (sym l.sessions) (row r (l.rows r j));
              waits = λ w j. subst (λ v. HasSession v w.client) (sym l.sessions) (wait w (l.waits w j));
              kept = subst Kept (sym l.sessions) s.serving.kept;
            };
        lives = λ c y q. s.lives c y (sym (ap (λ (v : Sessions). session_of v c) l.sessions) ∙ q);
        said = λ m j. s.said m (l.said m j);
        welcomed =
            λ m j q. let z = s.welcomed m (l.said m j) q in (z.0, ap (λ (v : Sessions). session_of v (client m.header.to)) l.sessions ∙ z.1, z.2);
      }
    where
      row : (r : LockRow) → (r.client ≡ sender h) ⊎ ((q : LockRow) × Has q t.state.locks.rows × (q.client ≡ r.client)) → HasSession t.state.sessions r.client
      row r (inl e) = subst (HasSession t.state.sessions) (sym e) x
      row r (inr z) = subst (HasSession t.state.sessions) z.2 (s.serving.rows z.0 z.1)

      wait : (w : Waiter) → (w.client ≡ sender h) ⊎ ((q : Waiter) × Has q t.state.locks.waiters × (q.client ≡ w.client)) → HasSession t.state.sessions w.client
      wait w (inl e) = subst (HasSession t.state.sessions) (sym e) x
      wait w (inr z) = subst (HasSession t.state.sessions) z.2 (s.serving.waits z.0 z.1)

  stored : (t : ServerTurn) (c : ClientId) (number : ℕ) (b : Body) → NoWelcome b → ServesOn n i t →
      ServesOn n i (sv.with_sessions (sessions.store t.state.sessions c number b) t)
  stored t c number b w s =
      record {
        id = s.id;
        epoch = s.epoch;
        serving =
            record {
              rows = λ r h. served_kept t.state.sessions c r.client number b (s.serving.rows r h);
              waits = λ x h. served_kept t.state.sessions c x.client number b (s.serving.waits x h);
              kept = kept_store t.state.sessions c number b w s.serving.kept;
            };
        lives = λ d y e. lives d y (sym (kept_is t.state.sessions c d number b) ∙ e);
        said = s.said;
        welcomed =
            λ m h q. let z = s.welcomed m h q in (
              sessions.keep_of c number b z.0,
              kept_is t.state.sessions c (client m.header.to) number b ∙ ap (option_map (sessions.keep_of c number b)) z.1,
              ap (λ (l : Life). l.0) (kept_life c number b z.0).0 ∙ z.2,
            );
      }
    where
      lives : (d : ClientId) (y : Session) → option_map (sessions.keep_of c number b) (session_of t.state.sessions d) ≡ Some y → LifeFrom n i d y.life.0
      lives d y = go (session_of t.state.sessions d) refl
        where
          go : (o : Option Session) → session_of t.state.sessions d ≡ o → option_map (sessions.keep_of c number b) o ≡ Some y → LifeFrom n i d y.life.0
          go None q e = cc e
          go (Some z) q e =
              subst (LifeFrom n i d) (ap (λ (l : Life). l.0) (sym (kept_life c number b z).0) ∙ ap (λ (v : Session). v.life.0) (some_is e)) (s.lives d z q)

  -- a lock is granted to a client that is served
  granted : (t : ServerTurn) (c : ClientId) (life : Life) (ino : ℕ) (mode : Mode) → HasSession t.state.sessions c → ServesOn n i t →
      ServesOn n i (sv.with_locks (locks.grant t.state.locks c life ino mode) t)
  granted t c life ino mode x s =
      record {
        id = s.id;
        epoch = s.epoch;
        serving =
            record {
              rows = λ r h. row r (granted_rows t.state.locks c life ino mode r h);
              waits = λ w h. s.serving.waits w (granted_waits t.state.locks c life ino mode w h);
              kept = s.serving.kept;
            };
        lives = s.lives;
        said = s.said;
        welcomed = s.welcomed;
      }
    where
      row : (r : LockRow) → (r.client ≡ c) ⊎ Has r t.state.locks.rows → HasSession t.state.sessions r.client
      row r (inl e) = subst (HasSession t.state.sessions) (sym e) x
      row r (inr h) = s.serving.rows r h

  refused_plain : (t : ServerTurn) (m : Message) (b : Body) → RefusedOf clients n now i t m b → NoWelcome b
  refused_plain t m _ (edits.IsSuspect start c q s) = tt
  refused_plain t m _ (edits.GreetsInGrace h a g) = tt
  refused_plain t m _ (edits.OfOtherEpoch h r) = tt
  refused_plain t m _ (edits.HasNoSession a e) = tt
  refused_plain t m _ (edits.IsRefusedRows rows r x e) = reason r
    where
      reason : (r : AcceptRefusal) → NoWelcome (sv.refused_reassertion r)
      reason (refusals.GraceOver start x) = tt
      reason (refusals.Conflict ino holder) = tt
      reason (refusals.NotHolder ino g) = tt

  in_life : (t : ServerTurn) (h : Header) → InLife t h → HasSession t.state.sessions (sender h)
  in_life t h l = record { session = l.session; is = l.is; live = ap sessions.is_live_state l.state }

  -- locks that are reasserted, by a session that lives
  reasserted : (t : ServerTurn) (m : Message) (rows : List (ℕ × Words.GrantNo × Mode)) → i ≡ inputs.Control m → NoSends t.out → ServesOn n i t →
      ServesOn n i (sv.with_sessions (sessions.reasserted t.state.sessions (sender m.header) (life_in m.header))
      (sv.with_locks (locks.with_rows t.state.locks (sender m.header) (life_in m.header) rows) t))
  unfolding sessions.reasserted locks.with_rows
  reasserted t m rows is none s =
      let x : Session = sessions.reasserted_session (sender m.header) (life_in m.header) in
      let p : ServesOn n i (sv.with_sessions (sessions.with_session x t.state.sessions) t) = put t x m is refl refl refl tt none s in
      record {
        id = p.id;
        epoch = p.epoch;
        serving =
            record {
              rows = λ r h. row p r (has_append t.state.locks.rows _ r h);
              waits = p.serving.waits;
              kept = p.serving.kept;
            };
        lives = p.lives;
        said = p.said;
        welcomed = p.welcomed;
      }
    where
      v : Sessions
      v = sessions.with_session (sessions.reasserted_session (sender m.header) (life_in m.header)) t.state.sessions

      row : ServesOn n i (sv.with_sessions v t) → (r : LockRow) →
          (Has r t.state.locks.rows) ⊎ (Has r (map (locks.installed (sender m.header) (life_in m.header)) rows)) → HasSession v r.client
      row p r (inl h) = p.serving.rows r h
      row p r (inr h) =
          let z = has_map (locks.installed (sender m.header) (life_in m.header)) rows r h in
          let e : r.client ≡ sender m.header = ap (λ (q : LockRow). q.client) z.2 in
          record { session = _; is = put_own t.state.sessions _ r.client (ap (λ (q : ClientId). q.0) e); live = refl }

  pub edit_serves : (a : Phase) (t u : ServerTurn) → EditOf clients n now i a t u → ServesOn n i t → ServesOn n i u
  unfolding keep_and_reply locks.demand_seen locks.drop_waits
  edit_serves _ _ _ (edits.TakesTimers t e) s = less t _ refl refl refl (all_rows t.state) (all_waits t.state) (λ m h. h) s
  edit_serves _ _ _ (edits.Steals t c x h e) s = stolen t c x s
  edit_serves _ _ _ (edits.Welcomes t m x g e l q) s = welcomed t m g.heard.came.is g.asks (x, e, q) s
  edit_serves _ _ _ (edits.Begins t m g q) s =
      let x : Session = sessions.new_session (sender m.header) (life_in m.header) in
      welcomed _ m g.heard.came.is g.asks (x, put_own t.state.sessions x (sender m.header) refl, refl)
      (put t x m g.heard.came.is refl refl refl tt g.heard.came.begun.quiet s)
  edit_serves _ _ _ (edits.Replaces t m x g e l b r) s =
      let y : Session = sessions.new_session (sender m.header) (life_in m.header) in
      let p = put t y m g.heard.came.is refl refl refl tt g.heard.came.begun.quiet s in
      let u : ServerTurn = sv.with_sessions (sessions.with_new_session (sender m.header) (life_in m.header) t.state.sessions) t in
      welcomed _ m g.heard.came.is g.asks (y, put_own t.state.sessions y (sender m.header) refl, refl)
      (less u (sv.with_locks (locks.drop_waits t.state.locks (sender m.header)) u) refl refl refl (all_rows u.state)
      (λ w h. (w, (has_filter (λ x. not (is_wait_by (sender m.header) x)) t.state.locks.waiters w h).0, refl)) (λ y h. h) p)
  edit_serves _ _ _ (edits.PutsOff t m x g e l b r) s = replied _ m.header _ tt (suspected t (sender m.header) s)
  edit_serves _ _ _ (edits.Sees t m ino g h b x) s =
      less t _ refl refl refl (mapped_rows (locks.observe (sender m.header) ino g) (observed_client (sender m.header) ino g) t.state.locks.rows)
      (all_waits t.state) (λ y h. h) s
  edit_serves _ _ _ (edits.Reasserts t m rows r g c) s = replied _ m.header _ tt (reasserted t m rows r.asked.heard.came.is r.asked.heard.came.begun.quiet s)
  edit_serves _ _ _ (edits.Serves t m u b x e r) s =
      let w = ruled_plain now t m.header m.body u b r in
      replied _ m.header b w
      (stored u (sender m.header) m.header.number b w (ruled t m.header u (in_life t m.header x.in_life) (rule_leaves now t m.header m.body u b r) s))
  edit_serves _ _ _ (edits.Repeats t m x b a k e l q) s =
      replied t m.header b (subst KeepsNoWelcome q (s.serving.kept x (found_at (sessions.is_session_of (sender m.header)) t.state.sessions.rows x e).1)) s
  edit_serves _ _ _ (edits.Refuses t m b r) s = replied t m.header b (refused_plain t m b r) s
  edit_serves _ _ _ (edits.Suspects t c r e q a h o l) s = suspected t c s
  edit_serves _ _ _ (edits.Grants t w g h e z) s =
      told _ w.client w.life _ tt (granted t w.client w.life w.ino w.mode (s.serving.waits w h) s)
  edit_serves _ _ _ (edits.Demands t w r x e h o q d) s =
      told _ r.client r.life _ tt
      (less t _ refl refl refl (mapped_rows (locks.demand_of r.client r.ino x) (demanded_client r.client r.ino x) t.state.locks.rows) (all_waits t.state)
      (λ y h. h) s)

  -- So it is after a step.
  pub step_serves : IsServing n → ServesOn n i (step_of clients n now i)
  step_serves s =
      walk_of clients n now i (ServesOn n i) edit_serves
      (record { id = refl; epoch = refl; serving = s; lives = λ c y e. WasThere y e refl; said = λ m h. absurd h; welcomed = λ m h q. absurd h })

-- a step of the third form is one that hears the clients of its form
pub same_step : (form : ℕ) (s : ServerState) (now : Stamp) (i : ServerInput) → every.server_step form s now i ≡ step_of (is_client_node form) s now i
unfolding every.server_step every.take_input every.receive
same_step form s now inputs.Tick = refl
same_step form s now (inputs.Control m) = refl

pub servers_serve_on : ServersServeOn
servers_serve_on form n now i s = subst (ServesOn n i) (sym (same_step form n now i)) (step_serves (is_client_node form) n now i s)
