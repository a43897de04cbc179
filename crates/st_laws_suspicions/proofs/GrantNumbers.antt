-- The grant numbers of a server that isn't in grace. Each message that it sends has its number and its epoch. A number that it has told a client, in a grant or
-- a demand, is one that it has given, and the client's row of the file has no lower one.
use Rattle.st_lemmas.proofs.Words
use Words.{◌≡◌, ℕ, ◌+◌, ◌≤◌, ◌<◌, ◌⊎◌, Bool, true, false, List, [], ◌∷◌, ◌++◌, ◌==◌, refl, sym, ap, ◌∙◌, subst, inl, inr, arith, map, Option, Some, None, not}
use Words.{eq-eqb, eqb-true, ClientId, GrantNo, Life, ServerId, Stamp, Mode, Header, Body, Message, Output, Note, ServerInput, LockRow, Session, SessionState, Waiter}
use Words.modes
use Words.notes
use Words.outputs
use Words.states
use Words.bodies as bd
use Words.Grace as grace
use Words.Keys.{server_node}
use Words.Lists.{Has}
use Words.Locks as locks
use Words.Locks.{Locks, first_after, is_row_of, next_grant}
use Words.Server as sv
use Words.Server.{ServerState, ServerTurn, life_in, sender}
use Words.ServerInvariants.{are_once, same_row}
use Words.Sessions as sessions
use Words.Sessions.{Sessions}
use Words.Tables.{and_both, and_true, cond_either, found_at, has_append, has_filter, has_map}
use Words.Truth.{not_both}
use Rattle.st_lemmas.proofs.Once.{once_first, once_rest}
use Rattle.st_lemmas.proofs.Puts.{has_put, has_put_self}
use Rattle.st_laws_refine.proofs.Server.OneRow.{granted_once}
use Rattle.st_trace.specs.Server.Edits.{Acquires, AtOnce, Begins, Cuts, Demands, EditOf, Gets, Grants, InTurn, Phase, PutsOff, Reasserts, Refuses, Releases}
use Rattle.st_trace.specs.Server.Edits.{GreetsInGrace, HasNoSession, IsHeld}
use Rattle.st_trace.specs.Server.Edits.{IsRefusedRows, IsSuspect, OfOtherEpoch, RefusedOf, RemovesFile, Repeats}
use Rattle.st_trace.specs.Server.Edits.{Replaces, Ruled, Sees, Serves, Steals, Suspects, TakesTimers, Tells, Told, Welcomes}
use Rattle.st_trace.specs.Server.Steps.{step_of}
use Rattle.st_trace.proofs.Server.Walk.{walk_of}
use Rattle.st_laws_suspicions.proofs.Served.{Holds, holds_edit}

-- the number of the last grant
abbrev pub given : Locks → ℕ
given l = first_after l.epoch + l.grants

-- A number that was given for a file: the client's row of the file has no lower one.
abbrev pub IsGiven : Locks → ℕ → ℕ → GrantNo → Type 0
IsGiven l c ino g = (g.0 ≤ given l) × ((r : LockRow) → Has r l.rows → r.client.0 ≡ c → r.ino ≡ ino → g.0 ≤ r.g.0)

-- so is the number that a client is told
abbrev pub TellsGiven : Locks → ℕ → Body → Type 0
TellsGiven l c (bd.Granted ino g mode) = IsGiven l c ino g
TellsGiven l c (bd.Demand ino g to) = IsGiven l c ino g
TellsGiven l c b = Unit {0}

-- the same lock, under the same number
abbrev SameLock : LockRow → LockRow → Type 0
SameLock q r = (q.client ≡ r.client) × (q.ino ≡ r.ino) × (q.g ≡ r.g)

-- why a row has its number: it had it before, or the number is new
abbrev NumberFrom : Locks → Locks → LockRow → Type 0
NumberFrom l v r = ((q : LockRow) × Has q l.rows × SameLock q r) ⊎ ((given l < r.g.0) × (r.g.0 ≤ given v))

-- A table after another one: numbers are given in order.
pub record Grows (l v : Locks) : Type 0 where
  pub up : given l ≤ given v
  pub rows : (r : LockRow) → Has r v.rows → NumberFrom l v r

pub given_on : (l v : Locks) → Grows l v → (c ino : ℕ) (g : GrantNo) → IsGiven l c ino g → IsGiven v c ino g
given_on l v w c ino g x = (let a = x.0 in let b = w.up in omega (arith, a, b), λ r h e f. go r e f (w.rows r h))
  where
    go : (r : LockRow) → r.client.0 ≡ c → r.ino ≡ ino → NumberFrom l v r → g.0 ≤ r.g.0
    go r e f (inl (q, h, (i, j, n))) =
        let y = x.1 q h (ap (λ (z : ClientId). z.0) i ∙ e) (j ∙ f) in
        let z = ap (λ (z : GrantNo). z.0) n in
        omega (arith, y, z)
    go r e f (inr n) = let y = x.0 in let z = n.0 in omega (arith, y, z)

pub tells_on : (l v : Locks) → Grows l v → (c : ℕ) (b : Body) → TellsGiven l c b → TellsGiven v c b
tells_on l v w c (bd.Granted ino g mode) x = given_on l v w c ino g x
tells_on l v w c (bd.Demand ino g to) x = given_on l v w c ino g x
tells_on l v w c b x = tt

pub grows_same : (l : Locks) → Grows l l
grows_same l = record { up = omega arith; rows = λ r h. inl (r, h, (refl, refl, refl)) }

pub grows_then : (l v u : Locks) → Grows l v → Grows v u → Grows l u
grows_then l v u a b = record { up = let x = a.up in let y = b.up in omega (arith, x, y); rows = λ r h. go r (b.rows r h) }
  where
    go : (r : LockRow) → NumberFrom v u r → NumberFrom l u r
    go r (inr n) = let x = a.up in let y = n.0 in inr (omega (arith, x, y), n.1)
    go r (inl (q, h, (i, j, n))) = by (a.rows q h)
      where
        by : NumberFrom l v q → NumberFrom l u r
        by (inl (p, h2, (i2, j2, n2))) = inl (p, h2, (i2 ∙ i, j2 ∙ j, n2 ∙ n))
        by (inr x) = let e = ap (λ (z : GrantNo). z.0) n in
            let y = x.0 in
            let z = x.1 in
            let w = b.up in
            inr (omega (arith, y, e), omega (arith, z, w, e))

-- Tables after one change.

-- fewer rows
grows_part : (l v : Locks) → v.epoch ≡ l.epoch → v.grants ≡ l.grants → ((r : LockRow) → Has r v.rows → Has r l.rows) → Grows l v
grows_part l v e n h =
    record { up = let x = ap first_after e in omega (arith, x, n); rows = λ r i. inl (r, h r i, (refl, refl, refl)) }

-- a change of each row that leaves its lock
grows_map : (f : LockRow → LockRow) (l v : Locks) → v.epoch ≡ l.epoch → v.grants ≡ l.grants → v.rows ≡ map f l.rows → ((r : LockRow) → SameLock r (f r)) →
    Grows l v
grows_map f l v e n q same =
    record {
      up = let x = ap first_after e in omega (arith, x, n);
      rows = λ r i. let m = has_map f l.rows r (subst (Has r) q i) in
          let s = same m.0 in
          inl
          (m.0, m.1, (s.0 ∙ ap (λ (x : LockRow). x.client) (sym m.2), s.1 ∙ ap (λ (x : LockRow). x.ino) (sym m.2), s.2 ∙ ap (λ (x : LockRow). x.g) (sym m.2)));
    }

grows_grant : (l : Locks) (c : ClientId) (life : Life) (ino : ℕ) (mode : Mode) → Grows l (locks.grant l c life ino mode)
unfolding locks.grant
grows_grant l c life ino mode =
    record { up = omega arith; rows = λ r i. go r (has_put (is_row_of c ino) (locks.new_row l c life ino mode) l.rows r i) }
  where
    go : (r : LockRow) → (r ≡ locks.new_row l c life ino mode) ⊎ Has r l.rows → NumberFrom l (locks.grant l c life ino mode) r
    go r (inl e) = let x = ap (λ (y : LockRow). y.g.0) e in inr (omega (arith, x), omega (arith, x))
    go r (inr h) = inl (r, h, (refl, refl, refl))

grows_queue : (l : Locks) (c : ClientId) (life : Life) (ino : ℕ) (mode : Mode) → Grows l (locks.queue l c life ino mode)
unfolding locks.queue locks.queue_at
grows_queue l c life ino mode = go (locks.wait_of l c ino)
  where
    go : (o : Option Waiter) → Grows l (locks.queue_at l c life ino mode o)
    go None = grows_part l (locks.queue_at l c life ino mode None) refl refl (λ r i. i)
    go (Some w) = grows_part l (locks.queue_at l c life ino mode (Some w)) refl refl (λ r i. i)

lowers : (c : ClientId) (ino : ℕ) (r : LockRow) → SameLock r (locks.lower c ino r)
unfolding locks.lowered
lowers c ino r = cond_either (λ (y : LockRow). SameLock r y) (is_row_of c ino r) (locks.lowered r) r (λ e. (refl, refl, refl)) (λ e. (refl, refl, refl))

grows_release : (l : Locks) (c : ClientId) (ino : ℕ) (to : Mode) → Grows l (locks.release_to l c ino to)
unfolding locks.release_to
grows_release l c ino modes.None =
    grows_part l (locks.release_to l c ino modes.None) refl refl (λ r i. (has_filter (λ q. not (is_row_of c ino q)) l.rows r i).0)
grows_release l c ino modes.S = grows_map (locks.lower c ino) l (locks.release_to l c ino modes.S) refl refl refl (lowers c ino)
grows_release l c ino modes.X = grows_map (locks.lower c ino) l (locks.release_to l c ino modes.X) refl refl refl (lowers c ino)

grows_forget : (l : Locks) (c : ClientId) → Grows l (locks.forget l c)
unfolding locks.forget
grows_forget l c = grows_part l (locks.forget l c) refl refl (λ r i. (has_filter (λ q. not (locks.is_row_by c q)) l.rows r i).0)

grows_drop : (l : Locks) (c : ClientId) → Grows l (locks.drop_waits l c)
unfolding locks.drop_waits
grows_drop l c = grows_part l (locks.drop_waits l c) refl refl (λ r i. i)

grows_drop_file : (l : Locks) (ino : ℕ) → Grows l (locks.drop_file_waits l ino)
unfolding locks.drop_file_waits
grows_drop_file l ino = grows_part l (locks.drop_file_waits l ino) refl refl (λ r i. i)

grows_seen : (l : Locks) (c : ClientId) (ino : ℕ) (g : GrantNo) → Grows l (locks.demand_seen l c ino g)
unfolding locks.demand_seen locks.answered_row
grows_seen l c ino g =
    grows_map (locks.observe c ino g) l (locks.demand_seen l c ino g) refl refl refl
    (λ r. cond_either (λ (y : LockRow). SameLock r y) _ (locks.answered_row r) r (λ e. (refl, refl, refl)) (λ e. (refl, refl, refl)))

grows_demand : (l : Locks) (r : LockRow) (d : Words.RowDemand) → Grows l (locks.with_demand r d l)
unfolding locks.demanded
grows_demand l r d =
    grows_map (locks.demand_of r.client r.ino d) l (locks.with_demand r d l) refl refl refl
    (λ q. cond_either (λ (y : LockRow). SameLock q y) _ (locks.demanded d q) q (λ e. (refl, refl, refl)) (λ e. (refl, refl, refl)))

-- one of two rows that are the same is the other
once_is : (xs : List LockRow) → are_once same_row xs ≡ true → (q r : LockRow) → Has q xs → Has r xs → q.client.0 ≡ r.client.0 → q.ino ≡ r.ino → q ≡ r
once_is [] o q r h i e f = absurd h
once_is (x ∷ xs) o q r (inl h) (inl i) e f = h ∙ sym i
once_is (x ∷ xs) o q r (inr h) (inr i) e f = once_is xs (once_rest same_row x xs o) q r h i e f
once_is (x ∷ xs) o q r (inl h) (inr i) e f =
    absurd (not_both (same_row x r) (alike (subst (λ (z : LockRow). z.client.0 ≡ r.client.0) h e) (subst (λ (z : LockRow). z.ino ≡ r.ino) h f))
    (once_first same_row x xs o r i))
  where
    alike : x.client.0 ≡ r.client.0 → x.ino ≡ r.ino → same_row x r ≡ true
    alike a b = and_both (r.client.0 == x.client.0) (r.ino == x.ino) (eq-eqb r.client.0 x.client.0 (sym a)) (eq-eqb r.ino x.ino (sym b))
once_is (x ∷ xs) o q r (inr h) (inl i) e f =
    absurd (not_both (same_row x q) (alike (subst (λ (z : LockRow). q.client.0 ≡ z.client.0) i e) (subst (λ (z : LockRow). q.ino ≡ z.ino) i f))
    (once_first same_row x xs o q h))
  where
    alike : q.client.0 ≡ x.client.0 → q.ino ≡ x.ino → same_row x q ≡ true
    alike a b = and_both (q.client.0 == x.client.0) (q.ino == x.ino) (eq-eqb q.client.0 x.client.0 a) (eq-eqb q.ino x.ino b)

-- the number of a row that was given is the row's
own_given : (l : Locks) → are_once same_row l.rows ≡ true → (r : LockRow) → Has r l.rows → r.g.0 ≤ given l → IsGiven l r.client.0 r.ino r.g
own_given l o r h n = (n, λ q i e f. same q (once_is l.rows o r q h i (sym e) (sym f)))
  where
    same : (q : LockRow) → r ≡ q → r.g.0 ≤ q.g.0
    same q e = let x = ap (λ (z : LockRow). z.g.0) e in omega (arith, x)

-- A server, in the course of a step.
module _ (clients : ℕ → Bool) (k : Words.Config) (s : ServerId) where
  -- a message that it sent
  pub record SaidRight (n : ServerState) (m : Message) : Type 0 where
    pub from : m.header.from ≡ server_node n.id
    pub epoch : m.header.epoch ≡ n.stable.epoch.0
    pub body : TellsGiven n.locks m.header.to m.body

  -- what it keeps: rows with numbers that were given, and replies
  pub record Keeps (n : ServerState) : Type 0 where
    pub low : (r : LockRow) → Has r n.locks.rows → r.g.0 ≤ given n.locks
    pub kept : (y : Session) (last : ℕ) (b : Body) → Has y n.sessions.rows → y.state ≡ states.Live last (Some b) → TellsGiven n.locks y.client.0 b

  -- so it was at the beginning of the step, and what it has said since
  record Stands (n : ServerState) (t : ServerTurn) : Type 0 where
    holds : Holds clients k s t.state
    grows : Grows n.locks t.state.locks
    keeps : Keeps t.state
    said : (m : Message) → Has (outputs.Send m) t.out → SaidRight t.state m
    id : t.state.id ≡ n.id
    epoch : t.state.stable.epoch ≡ n.stable.epoch

  low_on : (l v : Locks) → Grows l v → ((r : LockRow) → Has r l.rows → r.g.0 ≤ given l) → (r : LockRow) → Has r v.rows → r.g.0 ≤ given v
  low_on l v w low r h = go (w.rows r h)
    where
      go : NumberFrom l v r → r.g.0 ≤ given v
      go (inl (q, i, (a, b, n))) = let x = low q i in let e = ap (λ (z : GrantNo). z.0) n in let y = w.up in omega (arith, x, e, y)
      go (inr n) = n.1

  -- the replies that are kept: those from before, and replies with numbers that were given
  abbrev KeepsReplies : Sessions → Sessions → Locks → Type 0
  KeepsReplies x v l =
      (y : Session) (last : ℕ) (b : Body) → Has y v.rows → y.state ≡ states.Live last (Some b) →
      ((z : Session) × (old : ℕ) × Has z x.rows × (z.state ≡ states.Live old (Some b)) × (z.client ≡ y.client)) ⊎ (TellsGiven l y.client.0 b)

  same_replies : (x : Sessions) (l : Locks) → KeepsReplies x x l
  same_replies x l y last b h e = inl (y, last, h, e, refl)

  none_kept : (last n : ℕ) (b : Body) → states.Live n None ≡ states.Live last (Some b) → ⊥
  none_kept last n b e = cc

  ended_keeps : (last : ℕ) (b : Body) → states.Ended ≡ states.Live last (Some b) → ⊥
  ended_keeps last b e = cc

  new_replies : (x : Sessions) (l : Locks) (c : ClientId) (life : Life) → KeepsReplies x (sessions.with_new_session c life x) l
  new_replies x l c life y last b h e = go (has_put (sessions.is_session_of c) (sessions.new_session c life) x.rows y h)
    where
      go : (y ≡ sessions.new_session c life) ⊎ Has y x.rows →
          ((z : Session) × (old : ℕ) × Has z x.rows × (z.state ≡ states.Live old (Some b)) × (z.client ≡ y.client)) ⊎ (TellsGiven l y.client.0 b)
      go (inl q) = absurd (none_kept last 0 b (ap (λ (z : Session). z.state) (sym q) ∙ e))
      go (inr i) = inl (y, last, i, e, refl)

  end_replies : (x : Sessions) (l : Locks) (c : ClientId) → KeepsReplies x (sessions.end x c) l
  unfolding sessions.end sessions.ended
  end_replies x l c y last b h e = let m = has_map (sessions.end_of c) x.rows y h in go m.0 m.1 m.2
    where
      go : (z : Session) → Has z x.rows → y ≡ sessions.end_of c z →
          ((z : Session) × (old : ℕ) × Has z x.rows × (z.state ≡ states.Live old (Some b)) × (z.client ≡ y.client)) ⊎ (TellsGiven l y.client.0 b)
      go z i = cond_either
          (λ (v : Session). y ≡ v →
          ((z : Session) × (old : ℕ) × Has z x.rows × (z.state ≡ states.Live old (Some b)) × (z.client ≡ y.client)) ⊎ (TellsGiven l y.client.0 b))
          (sessions.is_session_of c z) (sessions.ended z) z
          (λ t q. absurd (ended_keeps last b (ap (λ (v : Session). v.state) (sym q) ∙ e)))
          (λ t q. inl (z, last, i, ap (λ (v : Session). v.state) (sym q) ∙ e, ap (λ (v : Session). v.client) (sym q)))

  stored_replies : (x : Sessions) (l : Locks) (c : ClientId) (number : ℕ) (r : Body) → TellsGiven l c.0 r → KeepsReplies x (sessions.store x c number r) l
  unfolding sessions.store sessions.keep_reply
  stored_replies x l c number r tells y last b h e = let m = has_map (sessions.keep_of c number r) x.rows y h in go m.0 m.1 m.2
    where
      reply_is : (z : SessionState) → sessions.kept_state number r z ≡ states.Live last (Some b) → r ≡ b
      reply_is (states.Live n old) q = same q
        where
          same : states.Live number (Some r) ≡ states.Live last (Some b) → r ≡ b
          same q = cc
      reply_is states.Ended q = absurd (ended_keeps last b q)

      go : (z : Session) → Has z x.rows → y ≡ sessions.keep_of c number r z →
          ((z : Session) × (old : ℕ) × Has z x.rows × (z.state ≡ states.Live old (Some b)) × (z.client ≡ y.client)) ⊎ (TellsGiven l y.client.0 b)
      go z i = cond_either
          (λ (v : Session). y ≡ v →
          ((z : Session) × (old : ℕ) × Has z x.rows × (z.state ≡ states.Live old (Some b)) × (z.client ≡ y.client)) ⊎ (TellsGiven l y.client.0 b))
          (sessions.is_session_of c z) (sessions.keep_reply number r z) z
          (λ t q. inr
          (subst (λ n. TellsGiven l n b) (sym (eqb-true z.client.0 c.0 t) ∙ ap (λ (v : Session). v.client.0) (sym q))
          (subst (TellsGiven l c.0) (reply_is z.state (ap (λ (v : Session). v.state) (sym q) ∙ e)) tells)))
          (λ t q. inl (z, last, i, ap (λ (v : Session). v.state) (sym q) ∙ e, ap (λ (v : Session). v.client) (sym q)))

  -- One change.
  module _ (n : ServerState) (t u : ServerTurn) (z : Stands n t) where
    on : Holds clients k s u.state → Grows t.state.locks u.state.locks → KeepsReplies t.state.sessions u.state.sessions u.state.locks →
        u.state.id ≡ t.state.id → u.state.stable.epoch ≡ t.state.stable.epoch →
        ((m : Message) → Has (outputs.Send m) u.out → (Has (outputs.Send m) t.out) ⊎ (SaidRight u.state m)) → Stands n u
    on holds grows replies id epoch said =
        record {
          holds = holds;
          grows = grows_then n.locks t.state.locks u.state.locks z.grows grows;
          keeps =
              record {
                low = low_on t.state.locks u.state.locks grows z.keeps.low;
                kept = λ y last b h e. by y b (replies y last b h e);
              };
          said = λ m h. go m (said m h);
          id = id ∙ z.id;
          epoch = epoch ∙ z.epoch;
        }
      where
        by : (y : Session) (b : Body) →
            ((x : Session) × (old : ℕ) × Has x t.state.sessions.rows × (x.state ≡ states.Live old (Some b)) × (x.client ≡ y.client))
            ⊎ (TellsGiven u.state.locks y.client.0 b) →
            TellsGiven u.state.locks y.client.0 b
        by y b (inl (x, old, h, e, i)) =
            tells_on t.state.locks u.state.locks grows y.client.0 b
            (subst (λ (c : ClientId). TellsGiven t.state.locks c.0 b) i (z.keeps.kept x old b h e))
        by y b (inr x) = x

        go : (m : Message) → (Has (outputs.Send m) t.out) ⊎ (SaidRight u.state m) → SaidRight u.state m
        go m (inl h) =
            let x = z.said m h in
            record {
              from = x.from ∙ ap (λ (v : ServerId). server_node v) (sym id);
              epoch = x.epoch ∙ ap (λ (v : Words.Epoch). v.0) (sym epoch);
              body = tells_on t.state.locks u.state.locks grows m.header.to m.body x.body;
            }
        go m (inr x) = x

  -- what is said at last
  last_said : (n : ServerState) (os : List Output) (w m : Message) → SaidRight n w → Has (outputs.Send m) (os ++ outputs.Send w ∷ []) →
      (Has (outputs.Send m) os) ⊎ (SaidRight n m)
  last_said n os w m right h = go (has_append os (outputs.Send w ∷ []) (outputs.Send m) h)
    where
      same : outputs.Send m ≡ outputs.Send w → w ≡ m
      same e = cc

      go : (Has (outputs.Send m) os) ⊎ (Has (outputs.Send m) (outputs.Send w ∷ [])) → (Has (outputs.Send m) os) ⊎ (SaidRight n m)
      go (inl i) = inl i
      go (inr (inl e)) = inr (subst (SaidRight n) (same e) right)
      go (inr (inr i)) = absurd i

  -- a note isn't a message
  last_noted : (os : List Output) (w : Note) (m : Message) → Has (outputs.Send m) (os ++ outputs.Note w ∷ []) → Has (outputs.Send m) os
  last_noted os w m h = go (has_append os (outputs.Note w ∷ []) (outputs.Send m) h)
    where
      no : outputs.Send m ≡ outputs.Note w → ⊥
      no e = cc

      go : (Has (outputs.Send m) os) ⊎ (Has (outputs.Send m) (outputs.Note w ∷ [])) → Has (outputs.Send m) os
      go (inl i) = i
      go (inr (inl e)) = absurd (no e)
      go (inr (inr i)) = absurd i

  -- The rule of a request.
  module _ (now : Stamp) (t : ServerTurn) (h : Header) where
    ruled_grows : (b : Body) (v : ServerTurn) (r : Body) → Ruled now t h b v r → Grows t.state.locks v.state.locks
    unfolding sv.cut_pages sv.cut_whole
    ruled_grows b v r (Acquires ino mode a file lacks gets) = taken gets
      where
        taken : {a : locks.Acquired} → Gets (sv.grants_now t now) t.state.locks (sender h) (life_in h) ino mode a → Grows t.state.locks a.locks
        taken (AtOnce may free first) = grows_grant t.state.locks (sender h) (life_in h) ino mode
        taken (InTurn held) = grows_queue t.state.locks (sender h) (life_in h) ino mode
    ruled_grows b v r (Releases ino g to q is under) = grows_release t.state.locks (sender h) ino to
    ruled_grows b v r (RemovesFile dir nm g ino d look is_file holds remove e) = grows_drop_file t.state.locks d.ino
    ruled_grows b v r rule = grows_same t.state.locks

    ruled_sessions : (b : Body) (v : ServerTurn) (r : Body) → Ruled now t h b v r → v.state.sessions ≡ t.state.sessions
    unfolding sv.cut_pages sv.cut_whole
    ruled_sessions b v r (Tells b2 r2 told) = refl
    ruled_sessions b v r rule = refl

    ruled_id : (b : Body) (v : ServerTurn) (r : Body) → Ruled now t h b v r → v.state.id ≡ t.state.id
    unfolding sv.cut_pages sv.cut_whole
    ruled_id b v r (Tells b2 r2 told) = refl
    ruled_id b v r rule = refl

    ruled_epoch : (b : Body) (v : ServerTurn) (r : Body) → Ruled now t h b v r → v.state.stable.epoch ≡ t.state.stable.epoch
    unfolding sv.cut_pages sv.cut_whole
    ruled_epoch b v r (Tells b2 r2 told) = refl
    ruled_epoch b v r rule = refl

    ruled_quiet : (b : Body) (v : ServerTurn) (r : Body) → Ruled now t h b v r → (m : Message) → Has (outputs.Send m) v.out → Has (outputs.Send m) t.out
    unfolding sv.cut_pages sv.cut_whole
    ruled_quiet b v r (Cuts ino g p is_file holds) m i = last_noted t.out _ m i
    ruled_quiet b v r (RemovesFile dir nm g ino d look is_file holds remove e) m i = last_noted t.out _ m i
    ruled_quiet b v r rule m i = i

    told_given : are_once same_row t.state.locks.rows ≡ true → Keeps t.state → (b r : Body) → Told t h b r → TellsGiven t.state.locks h.from r
    told_given once keeps b r (IsHeld ino mode q file is covered) =
        let z = found_at (is_row_of (sender h) ino) t.state.locks.rows q is in
        let y = and_true (q.client.0 == h.from) (q.ino == ino) z.0 in
        subst (λ x. IsGiven t.state.locks x ino q.g) (eqb-true q.client.0 h.from y.0)
        (subst (λ x. IsGiven t.state.locks q.client.0 x q.g) (eqb-true q.ino ino y.1) (own_given t.state.locks once q z.1 (keeps.low q z.1)))
    told_given once keeps b r told = tt

  -- a number that is given now
  new_given : (l : Locks) (c : ClientId) (life : Life) (ino : ℕ) (mode : Mode) → are_once same_row l.rows ≡ true →
      IsGiven (locks.grant l c life ino mode) c.0 ino (next_grant l)
  unfolding locks.grant
  new_given l c life ino mode once = own (granted_once l c life ino mode once)
    where
      own : are_once same_row (locks.grant l c life ino mode).rows ≡ true → IsGiven (locks.grant l c life ino mode) c.0 ino (next_grant l)
      own o =
          own_given (locks.grant l c life ino mode) o (locks.new_row l c life ino mode)
          (has_put_self (is_row_of c ino) (locks.new_row l c life ino mode) l.rows) (omega arith)

  ruled_given : (now : Stamp) (t : ServerTurn) (h : Header) → are_once same_row t.state.locks.rows ≡ true → Keeps t.state →
      (b : Body) (v : ServerTurn) (r : Body) →
      Ruled now t h b v r → TellsGiven v.state.locks h.from r
  unfolding sv.cut_pages sv.cut_whole
  ruled_given now t h once keeps b v r (Tells b2 r2 told) = told_given now t h once keeps b r told
  ruled_given now t h once keeps b v r (Acquires ino mode a file lacks gets) = taken gets
    where
      taken : {a : locks.Acquired} → Gets (sv.grants_now t now) t.state.locks (sender h) (life_in h) ino mode a →
          TellsGiven a.locks h.from (sv.verdict_body ino mode a.verdict)
      taken (AtOnce may free first) = new_given t.state.locks (sender h) (life_in h) ino mode once
      taken (InTurn held) = tt
  ruled_given now t h once keeps b v r rule = tt

  refused_given : (n : ServerState) (now : Stamp) (i : ServerInput) (t : ServerTurn) (m : Message) (b : Body) → RefusedOf clients n now i t m b →
      TellsGiven t.state.locks m.header.from b
  refused_given n now i t m b (IsSuspect start came asks is) = tt
  refused_given n now i t m b (GreetsInGrace heard asks graced) = tt
  refused_given n now i t m b (OfOtherEpoch heard asks) = tt
  refused_given n now i t m b (HasNoSession asked is) = tt
  refused_given n now i t m b (IsRefusedRows rows r reasserted is) = of_rows r
    where
      of_rows : (r : Rattle.st_rules.specs.declared.authority.AcceptRefusal.AcceptRefusal) → TellsGiven t.state.locks m.header.from (sv.refused_reassertion r)
      of_rows (Rattle.st_rules.specs.declared.authority.AcceptRefusal.TheVariants.GraceOver start now) = tt
      of_rows (Rattle.st_rules.specs.declared.authority.AcceptRefusal.TheVariants.Conflict ino holder) = tt
      of_rows (Rattle.st_rules.specs.declared.authority.AcceptRefusal.TheVariants.NotHolder ino g) = tt

  -- a reply
  replied_right : (n : ServerState) (h : Header) (b : Body) → TellsGiven n.locks h.from b → SaidRight n (record { header = sv.reply_header n h; body = b })
  replied_right n h b x = record { from = refl; epoch = refl; body = x }

  -- One change.
  changed : (n : ServerState) (now : Stamp) (i : ServerInput) (a : Phase) (t u : ServerTurn) → EditOf clients n now i a t u → Stands n t →
      Holds clients k s u.state → Stands n u
  unfolding sv.reply sv.tell sv.suspect_client sv.keep_and_reply sv.steal_from
  changed n now i a t u (TakesTimers _ e) z o = on n t _ z o (grows_same t.state.locks) (same_replies t.state.sessions t.state.locks) refl refl (λ m h. inl h)
  changed n now i a t u (Steals _ c x f e) z o =
      on n t _ z o (grows_forget t.state.locks c) (end_replies t.state.sessions (locks.forget t.state.locks c) c) refl refl
      (λ m h. inl (last_noted t.out _ m h))
  changed n now i a t u (Welcomes _ m x g e live life) z o =
      on n t _ z o (grows_same t.state.locks) (same_replies t.state.sessions t.state.locks) refl refl
      (λ w h. last_said t.state t.out _ w (replied_right t.state m.header bd.Welcome tt) h)
  changed n now i a t u (Begins _ m g f) z o =
      on n t _ z o (grows_same t.state.locks) (new_replies t.state.sessions t.state.locks (sender m.header) (life_in m.header)) refl refl
      (λ w h. last_said _ t.out _ w (record { from = refl; epoch = refl; body = tt }) h)
  changed n now i a t u (Replaces _ m x g e live life none) z o =
      on n t _ z o (grows_drop t.state.locks (sender m.header))
      (new_replies t.state.sessions (locks.drop_waits t.state.locks (sender m.header)) (sender m.header) (life_in m.header)) refl refl
      (λ w h. last_said _ t.out _ w (record { from = refl; epoch = refl; body = tt }) h)
  changed n now i a t u (PutsOff _ m x g e live life some) z o =
      on n t _ z o (grows_drop t.state.locks (sender m.header)) (same_replies t.state.sessions (locks.drop_waits t.state.locks (sender m.header))) refl refl
      (λ w h. noted_first w (last_said _ (t.out ++ outputs.Note (notes.Suspected (sender m.header) now) ∷ []) _ w
      (record { from = refl; epoch = refl; body = tt }) h))
    where
      noted_first : {v : ServerState} (w : Message) →
          (Has (outputs.Send w) (t.out ++ outputs.Note (notes.Suspected (sender m.header) now) ∷ [])) ⊎ (SaidRight v w) →
          (Has (outputs.Send w) t.out) ⊎ (SaidRight v w)
      noted_first w (inl h) = inl (last_noted t.out _ w h)
      noted_first w (inr x) = inr x
  changed n now i a t u (Sees _ m ino g x b e) z o =
      on n t _ z o (grows_seen t.state.locks (sender m.header) ino g) (same_replies t.state.sessions (locks.demand_seen t.state.locks (sender m.header) ino g))
      refl refl
      (λ w h. inl h)
  changed n now i a t u (Reasserts _ m rows r on_ f) z o = absurd (off (sym (ap (λ g. grace.is_on g now) z.holds.calm) ∙ on_))
    where
      off : ◌≡◌ {A = Bool} false true → ⊥
      off e = cc
  changed n now i a t u (Serves _ m v b x e r) z o =
      on n t _ z o (ruled_grows now t m.header m.body v b r)
      (subst (λ (y : Sessions). KeepsReplies y (sessions.store v.state.sessions (sender m.header) m.header.number b) v.state.locks)
      (ruled_sessions now t m.header m.body v b r)
      (stored_replies v.state.sessions v.state.locks (sender m.header) m.header.number b given_now))
      (ruled_id now t m.header m.body v b r) (ruled_epoch now t m.header m.body v b r)
      (λ w h. ruled_first w (last_said _ v.out _ w (record { from = refl; epoch = refl; body = given_now }) h))
    where
      given_now : TellsGiven v.state.locks m.header.from b
      given_now = ruled_given now t m.header z.holds.once z.keeps m.body v b r

      ruled_first : {q : ServerState} (w : Message) → (Has (outputs.Send w) v.out) ⊎ (SaidRight q w) → (Has (outputs.Send w) t.out) ⊎ (SaidRight q w)
      ruled_first w (inl h) = inl (ruled_quiet now t m.header m.body v b r w h)
      ruled_first w (inr y) = inr y
  changed n now i a t u (Repeats _ m x b asked again is life state) z o =
      on n t _ z o (grows_same t.state.locks) (same_replies t.state.sessions t.state.locks) refl refl
      (λ w h. last_said t.state t.out _ w (replied_right t.state m.header b kept_given) h)
    where
      kept_given : TellsGiven t.state.locks m.header.from b
      kept_given =
          let y = found_at (sessions.is_session_of (sender m.header)) t.state.sessions.rows x is in
          subst (λ q. TellsGiven t.state.locks q b) (eqb-true x.client.0 m.header.from y.0) (z.keeps.kept x m.header.number b y.1 state)
  changed n now i a t u (Refuses _ m b r) z o =
      on n t _ z o (grows_same t.state.locks) (same_replies t.state.sessions t.state.locks) refl refl
      (λ w h. last_said t.state t.out _ w (replied_right t.state m.header b (refused_given n now i t m b r)) h)
  changed n now i a t u (Suspects _ c r is q f j e late) z o =
      on n t _ z o (grows_drop t.state.locks c) (same_replies t.state.sessions (locks.drop_waits t.state.locks c)) refl refl
      (λ m h. inl (last_noted t.out _ m h))
  changed n now i a t u (Grants _ w off j e f) z o =
      on n t _ z o (grows_grant t.state.locks w.client w.life w.ino w.mode)
      (same_replies t.state.sessions (locks.grant t.state.locks w.client w.life w.ino w.mode)) refl refl
      (λ m h. last_said _ t.out _ m (record { from = refl; epoch = refl; body = new_given t.state.locks w.client w.life w.ino w.mode z.holds.once }) h)
  changed n now i a t u (Demands _ w r x e j q f d) z o =
      on n t _ z o (grows_demand t.state.locks r x) (same_replies t.state.sessions (locks.with_demand r x t.state.locks)) refl refl
      (λ m h. last_said _ t.out _ m (record {
        from = refl;
        epoch = refl;
        body = given_on t.state.locks (locks.with_demand r x t.state.locks) (grows_demand t.state.locks r x) r.client.0 r.ino r.g
            (let y = found_at (is_row_of r.client r.ino) t.state.locks.rows r f in own_given t.state.locks z.holds.once r y.1 (z.keeps.low r y.1));
      }) h)

  stands_edit : (n : ServerState) (now : Stamp) (i : ServerInput) (a : Phase) (t u : ServerTurn) → EditOf clients n now i a t u → Stands n t → Stands n u
  stands_edit n now i a t u edit z = changed n now i a t u edit z (holds_edit clients k s n now i a t u edit z.holds)

  -- So it is after a step.
  pub record StepStands (n : ServerState) (u : ServerTurn) : Type 0 where
    pub grows : Grows n.locks u.state.locks
    pub keeps : Keeps u.state
    pub said : (m : Message) → Has (outputs.Send m) u.out → SaidRight u.state m
    pub id : u.state.id ≡ n.id
    pub epoch : u.state.stable.epoch ≡ n.stable.epoch

  pub step_stands : (n : ServerState) (now : Stamp) (i : ServerInput) → Holds clients k s n → Keeps n → StepStands n (step_of clients n now i)
  step_stands n now i holds keeps =
      let z : Stands n (step_of clients n now i) =
      walk_of clients n now i (Stands n) (stands_edit n now i)
      (record { holds = holds; grows = grows_same n.locks; keeps = keeps; said = λ m h. absurd h; id = refl; epoch = refl }) in
      record { grows = z.grows; keeps = z.keeps; said = z.said; id = z.id; epoch = z.epoch }
