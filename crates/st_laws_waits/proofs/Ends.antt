-- A wait that is the first of its file goes on through each change of a step, except for a grant to it, a suspicion of its client, and the three messages that
-- end it; and what ended it is still there at the end of the step, since a step grants no client twice and no timer of it ends.
use Rattle.st_lemmas.proofs.Words
use Words.{◌≡◌, ◌≢◌, ℕ, ◌<◌, ◌⊎◌, Bool, true, false, not, List, [], ◌∷◌, refl, sym, ap, ◌∙◌, subst, inl, inr, arith, cond, find, filter, map, Option, Some}
use Words.{None, Ok, is_some, option_map, eq-eqb, le-leb, ne_eqb, ClientId, GrantNo, Life, Stamp, Mode, Message, Suspect, ServerInput, LockRow, RowDemand}
use Words.{Waiter, Session}
use Words.modes
use Words.bodies
use Words.ops.{Remove}
use Words.serving.{Tick, Control}
use Words.Authority as authority
use Words.Authority.{Authority, may_ack, over, suspect_of}
use Words.Keys.{client}
use Words.Locks as locks
use Words.Locks.{Locks, demand_of, demanded, grant, installed, is_row_of, is_wait_by, is_wait_of, is_wait_on, new_row, new_wait, queue, queue_at, raise}
use Words.Locks.{release_to, row_of, wait_of, with_demand, with_rows}
use Words.Names as names
use Words.Server.{ServerState, Stable, ServerTurn, keep_and_reply, life_in, reply, sender, server_step, steal_from, suspect_client, tell, thefts, turn}
use Words.Sessions as sessions
use Words.Lists.{Has}
use Words.Lookups.{some_is}
use Words.Tables.{and_both, and_left, and_right, cond_either, find_map, none_has, same_or_not}
use Words.Serving.{released_waits}
use Words.Tests.{find_filtered, find_longer}
use Words.Truth.{not_both}
use Rattle.st_base.specs.Mode.{number_of}
use Rattle.st_laws_refine.specs.Server.Edits.{WishInput, Acquired, AtOnce, InTurn, Edit, TakesTimers, Steals, Suspects, DropsWaits, Reasserts, Sees, Acquires}
use Rattle.st_laws_refine.specs.Server.Edits.{Releases, DropsFile, Grants, Demands}
use Rattle.st_laws_refine.proofs.Server.Changes.{forget_row, grant_elsewhere, grant_other, grant_own}
use Rattle.st_laws_refine.proofs.Server.Thefts.{over_has}
use Rattle.st_laws_waits.specs.Bounds.{RowsHaveSessions}
use Rattle.st_laws_waits.specs.Chase.{IsFirst}
use Rattle.st_laws_waits.specs.Ends.{GoesOnOrEnds, IsGranted}
use Rattle.st_laws_waits.specs.Ends.EndsBy.{Granted, Suspected, Greeted, Asked, Removed}
use Rattle.st_laws_waits.proofs.Chasing.{on_file, raised_alone, raised_same}
use Rattle.st_laws_waits.proofs.Demanding.{demand_keys, found_row}
use Rattle.st_laws_waits.proofs.Robbing.{left, not_free}
use Rattle.st_laws_refine.proofs.Server.Walk.{walk}
use Rattle.st_laws_refine.proofs.Server.Dating.{suspect_stays}

-- what is not found is not found among fewer
fewer_none : {A : Type 0} (p q : A → Bool) (xs : List A) → find p xs ≡ None → find p (filter q xs) ≡ None
fewer_none p q [] e = refl
fewer_none {A} p q (x ∷ xs) e = go (p x) refl e (λ f. fewer_none p q xs f)
  where
    go : (b : Bool) → p x ≡ b → cond b (Some x) (find p xs) ≡ None → (find p xs ≡ None → find p (filter q xs) ≡ None) →
        find p (cond (q x) (x ∷ filter q xs) (filter q xs)) ≡ None
    go true f e r = cc
    go false f e r = cond_either (λ ys. find p ys ≡ None) (q x) (x ∷ filter q xs) (filter q xs) (λ g. ap (λ b. cond b (Some x) (find p (filter q xs))) f ∙ r e) (λ g. r e)

pub now_suspect : (a : Authority) (c : ClientId) (now : Stamp) → may_ack a c ≡ true → is_some (suspect_of (authority.suspect a c now) c) ≡ true
now_suspect a c now e = go (is_some (suspect_of (authority.suspect a c now) c)) refl
  where
    go : (b : Bool) → is_some (suspect_of (authority.suspect a c now) c) ≡ b → b ≡ true
    go true q = refl
    go false q = absurd (not_free a c now e (ap not q))

-- two modes are the same or not
pub same_mode : (a b : Mode) → (a ≡ b) ⊎ (a ≢ b)
same_mode modes.None modes.None = inl refl
same_mode modes.None modes.S = inr (λ e. cc)
same_mode modes.None modes.X = inr (λ e. cc)
same_mode modes.S modes.None = inr (λ e. cc)
same_mode modes.S modes.S = inl refl
same_mode modes.S modes.X = inr (λ e. cc)
same_mode modes.X modes.None = inr (λ e. cc)
same_mode modes.X modes.S = inr (λ e. cc)
same_mode modes.X modes.X = inl refl

module _ (w : Waiter) where
  -- waits that are left out: those that pass the test stay
  first_among : (l : Locks) (q : Waiter → Bool) → q w ≡ true → IsFirst w l → find (is_wait_on w.ino) (filter q l.waiters) ≡ Some w
  first_among l q e f = find_filtered (is_wait_on w.ino) q w l.waiters f e

  pub other_client : (c : ClientId) → c.0 ≢ w.client.0 → not (is_wait_by c w) ≡ true
  other_client c ne = ap not (ne_eqb w.client.0 c.0 (λ e. ne (sym e)))

  -- a wait of another client or for another file
  pub other_wait : (c : ClientId) (ino : ℕ) → (c.0 ≢ w.client.0) ⊎ (ino ≢ w.ino) → is_wait_of c ino w ≡ false
  other_wait c ino (inl ne) = and_left _ _ (ne_eqb w.client.0 c.0 (λ e. ne (sym e)))
  other_wait c ino (inr ne) = and_right _ _ (ne_eqb w.ino ino (λ e. ne (sym e)))

  -- a grant to another client or of another file
  first_granted : (l : Locks) (c : ClientId) (life : Life) (ino : ℕ) (mode : Mode) → (c.0 ≢ w.client.0) ⊎ (ino ≢ w.ino) → IsFirst w l →
      IsFirst w (grant l c life ino mode)
  unfolding grant
  first_granted l c life ino mode o f = first_among l (λ v. not (is_wait_of c ino v)) (ap not (other_wait c ino o)) f

  first_queued : (l : Locks) (c : ClientId) (life : Life) (ino : ℕ) (mode : Mode) → (c.0 ≢ w.client.0) ⊎ (ino ≢ w.ino) → IsFirst w l →
      IsFirst w (queue l c life ino mode)
  unfolding queue queue_at
  first_queued l c life ino mode o f = at (wait_of l c ino)
    where
      at : (v : Option Waiter) → IsFirst w (queue_at l c life ino mode v)
      at None = find_longer (is_wait_on w.ino) w l.waiters (new_wait c life ino mode ∷ []) f
      at (Some v) = find_map (is_wait_on w.ino) (raise c ino mode) (on_file w c ino mode) l.waiters ∙ ap (option_map (raise c ino mode)) f ∙ ap (λ v. Some v) (raised_alone w c ino mode (other_wait c ino o))

  -- a wait of its own client in its own mode
  first_again : (l : Locks) → IsFirst w l → IsFirst w (queue l w.client w.life w.ino w.mode)
  unfolding queue queue_at
  first_again l f = at (wait_of l w.client w.ino)
    where
      at : (v : Option Waiter) → IsFirst w (queue_at l w.client w.life w.ino w.mode v)
      at None = find_longer (is_wait_on w.ino) w l.waiters (new_wait w.client w.life w.ino w.mode ∷ []) f
      at (Some v) =
          find_map (is_wait_on w.ino) (raise w.client w.ino w.mode) (on_file w w.client w.ino w.mode) l.waiters
          ∙ ap (option_map (raise w.client w.ino w.mode)) f ∙ ap (λ v. Some v) (raised_same w w.client w.ino w.mode (le-leb (number_of w.mode) (number_of w.mode) (omega arith)))

  first_acquired : (g : Bool) (l : Locks) (c : ClientId) (life : Life) (ino : ℕ) (mode : Mode) (v : Locks) → Acquired g l c life ino mode v →
      (c.0 ≢ w.client.0) ⊎ (ino ≢ w.ino) → IsFirst w l → IsFirst w v
  first_acquired g l c life ino mode v (AtOnce off y f none) o x = first_granted l c life ino mode o x
  first_acquired g l c life ino mode v (InTurn y) o x = first_queued l c life ino mode o x

  first_seen : (l : Locks) (c : ClientId) (ino : ℕ) (g : GrantNo) → IsFirst w l → IsFirst w (locks.demand_seen l c ino g)
  unfolding locks.demand_seen
  first_seen l c ino g f = f

  first_released : (l : Locks) (c : ClientId) (ino : ℕ) (to : Mode) → IsFirst w l → IsFirst w (release_to l c ino to)
  first_released l c ino to f = ap (find (is_wait_on w.ino)) (released_waits l c ino to) ∙ f

  first_installed : (l : Locks) (c : ClientId) (life : Life) (rs : List (ℕ × GrantNo × Mode)) → IsFirst w l → IsFirst w (with_rows l c life rs)
  unfolding with_rows
  first_installed l c life rs f = f

  -- a grant of this wait
  pub granted_now : (l : Locks) → IsGranted w (grant l w.client w.life w.ino w.mode)
  unfolding grant
  granted_now l = record { row = new_row l w.client w.life w.ino w.mode; found = grant_own l w.client w.life w.ino w.mode; life = refl; mode = refl; waits_not = none }
    where
      none : wait_of (grant l w.client w.life w.ino w.mode) w.client w.ino ≡ None
      none = gone l.waiters
        where
          gone : (ws : List Waiter) → find (is_wait_of w.client w.ino) (filter (λ v. not (is_wait_of w.client w.ino v)) ws) ≡ None
          gone [] = refl
          gone (v ∷ vs) = go (is_wait_of w.client w.ino v) refl (gone vs)
            where
              go : (b : Bool) → is_wait_of w.client w.ino v ≡ b → find (is_wait_of w.client w.ino) (filter (λ v. not (is_wait_of w.client w.ino v)) vs) ≡ None →
                  find (is_wait_of w.client w.ino) (cond (not b) (v ∷ filter (λ v. not (is_wait_of w.client w.ino v)) vs) (filter (λ v. not (is_wait_of w.client w.ino v)) vs)) ≡ None
              go true e r = r
              go false e r = ap (λ b. cond b (Some v) (find (is_wait_of w.client w.ino) (filter (λ v. not (is_wait_of w.client w.ino v)) vs))) e ∙ r

  -- what was granted stays so
  pub granted_among : (l : Locks) (q : Waiter → Bool) → IsGranted w l → IsGranted w (record l { waiters = filter q l.waiters })
  granted_among l q g = record { row = g.row; found = g.found; life = g.life; mode = g.mode; waits_not = fewer_none (is_wait_of w.client w.ino) q l.waiters g.waits_not }

  pub granted_forgot : (l : Locks) (c : ClientId) → c.0 ≢ w.client.0 → IsGranted w l → IsGranted w (locks.forget l c)
  unfolding locks.forget
  granted_forgot l c ne g = record { row = g.row; found = forget_row l c w.client.0 w.ino ne ∙ g.found; life = g.life; mode = g.mode; waits_not = none }
    where
      none : wait_of (locks.forget l c) w.client w.ino ≡ None
      none = fewer_none (is_wait_of w.client w.ino) (λ v. not (is_wait_by c v)) l.waiters g.waits_not

  pub granted_installed : (l : Locks) (c : ClientId) (life : Life) (rs : List (ℕ × GrantNo × Mode)) → IsGranted w l → IsGranted w (with_rows l c life rs)
  unfolding with_rows
  granted_installed l c life rs g =
      record { row = g.row; found = find_longer (is_row_of w.client w.ino) g.row l.rows (map (installed c life) rs) g.found; life = g.life; mode = g.mode; waits_not = g.waits_not }

  pub granted_besides : (l : Locks) (v : Waiter) → Has v l.waiters → IsGranted w l → IsGranted w (grant l v.client v.life v.ino v.mode)
  unfolding grant
  granted_besides l v h g = record { row = g.row; found = row (same_or_not v.client.0 w.client.0) ∙ g.found; life = g.life; mode = g.mode; waits_not = none }
    where
      none : wait_of (grant l v.client v.life v.ino v.mode) w.client w.ino ≡ None
      none = fewer_none (is_wait_of w.client w.ino) (λ z. not (is_wait_of v.client v.ino z)) l.waiters g.waits_not

      row : (v.client.0 ≡ w.client.0) ⊎ (v.client.0 ≢ w.client.0) → row_of (grant l v.client v.life v.ino v.mode) w.client w.ino ≡ row_of l w.client w.ino
      row (inr ne) = grant_other l v.client v.life v.ino v.mode w.client.0 w.ino ne
      row (inl e) = grant_elsewhere l v.client v.life v.ino v.mode w.client.0 w.ino (λ f. not_both (is_wait_of w.client w.ino v) (and_both _ _ (eq-eqb v.client.0 w.client.0 e) (eq-eqb v.ino w.ino (sym f))) (none_has (is_wait_of w.client w.ino) l.waiters g.waits_not v h))

  pub granted_demanded : (l : Locks) (r : LockRow) (x : RowDemand) → IsGranted w l → IsGranted w (with_demand r x l)
  unfolding demanded
  granted_demanded l r x g =
      record {
        row = demand_of r.client r.ino x g.row;
        found = found_row x r l w.client w.ino ∙ ap (option_map (demand_of r.client r.ino x)) g.found;
        life = same_life ∙ g.life;
        mode = (demand_keys r.client r.ino x g.row).mode ∙ g.mode;
        waits_not = g.waits_not;
      }
    where
      same_life : (demand_of r.client r.ino x g.row).life ≡ g.row.life
      same_life = cond_either (λ (q : LockRow). q.life ≡ g.row.life) (is_row_of r.client r.ino g.row) (demanded x g.row) g.row (λ e. refl) (λ e. refl)

-- the message of an input
abbrev pub received_of : ServerInput → Option Message
received_of Tick = None
received_of (Control m) = Some m

-- Through a step, from a state in which the wait is the first of its file.
module _ (w : Waiter) (n : ServerState) (now : Stamp) (i : ServerInput) (known : RowsHaveSessions n) (first : IsFirst w n.locks)
    (free : (x : Suspect) → Has x n.authority.suspects → x.client.0 ≡ w.client.0 → ⊥)
    (lives : (s : Session) → sessions.session_of n.sessions w.client ≡ Some s → s.life.0 ≡ w.life.0) where
  abbrev Ends : ServerTurn → Type 0
  Ends t = GoesOnOrEnds w (received_of i) n.stable.names t.state.authority t.state.locks

  abbrev EndsAt : Authority → Locks → Type 0
  EndsAt a l = GoesOnOrEnds w (received_of i) n.stable.names a l

  -- by what held before
  carried : (a b : Authority) (l v : Locks) → (IsFirst w l → EndsAt b v) → (IsGranted w l → IsGranted w v) →
      (is_some (suspect_of a w.client) ≡ true → is_some (suspect_of b w.client) ≡ true) → EndsAt a l → EndsAt b v
  carried a b l v f g s (inl x) = f x
  carried a b l v f g s (inr (Granted x)) = inr (Granted (g x))
  carried a b l v f g s (inr (Suspected x)) = inr (Suspected (s x))
  carried a b l v f g s (inr (Greeted m h x)) = inr (Greeted m h x)
  carried a b l v f g s (inr (Asked m h x)) = inr (Asked m h x)
  carried a b l v f g s (inr (Removed m h x)) = inr (Removed m h x)

  -- the wait's client is not robbed
  not_over : (c : ClientId) → Has c (over n.authority now) → c.0 ≢ w.client.0
  not_over c h e = let z = over_has n.authority now c h in free z.0 z.1 (sym (ap (λ (y : ClientId). y.0) z.3) ∙ e)

  not_robbed : (c : ClientId) → Has c (over n.authority now) → w.client.0 ≡ c.0 → ⊥
  not_robbed c h e = not_over c h (sym e)

  behind : (t : ServerTurn) → t ≡ thefts (turn n []) now → IsFirst w t.state.locks
  behind t e = subst (λ (u : ServerTurn). IsFirst w u.state.locks) (sym e) ((left n.config n.authority.wait 0 now n known).first w not_robbed first)

  -- waits are left out, and all else stays
  among : (a : Authority) (l : Locks) (q : Waiter → Bool) → (IsFirst w l → EndsAt a (record l { waiters = filter q l.waiters })) → EndsAt a l →
      EndsAt a (record l { waiters = filter q l.waiters })
  among a l q f x = carried a a l (record l { waiters = filter q l.waiters }) f (granted_among w l q) (λ s. s) x

  forgot : (a : Authority) (l : Locks) (c : ClientId) → c.0 ≢ w.client.0 → EndsAt a l → EndsAt a (locks.forget l c)
  unfolding locks.forget
  forgot a l c ne x = carried a a l (locks.forget l c) (λ f. inl (kept f)) (granted_forgot w l c ne) (λ s. s) x
    where
      kept : IsFirst w l → IsFirst w (locks.forget l c)
      kept f = first_among w l (λ v. not (is_wait_by c v)) (other_client w c ne) f

  -- after the thefts its client's session belongs to its life
  lives_there : (s : Session) → sessions.session_of (thefts (turn n []) now).state.sessions w.client ≡ Some s → s.life.0 ≡ w.life.0
  lives_there s e = lives s (sym ((left n.config n.authority.wait 0 now n known).sessions w.client not_robbed) ∙ e)

  greeted : (a : Authority) (l : Locks) (m : Message) (s : Session) → i ≡ Control m → m.body ≡ bodies.Hello →
      sessions.session_of (thefts (turn n []) now).state.sessions (sender m.header) ≡ Some s → s.life.0 < m.header.life →
      (m.header.from ≡ w.client.0) ⊎ (m.header.from ≢ w.client.0) → EndsAt a l → EndsAt a (locks.drop_waits l (sender m.header))
  unfolding locks.drop_waits
  greeted a l m s is b e f (inr ne) x = among a l (λ v. not (is_wait_by (sender m.header) v)) (λ y. inl (first_among w l (λ v. not (is_wait_by (sender m.header) v)) (other_client w (sender m.header) ne) y)) x
  greeted a l m s is b e f (inl q) x = inr (Greeted m (ap received_of is) (q, b, subst (λ n. n < m.header.life) same f))
    where
      same : s.life.0 ≡ w.life.0
      same =
          lives_there s (ap (λ c. sessions.session_of (thefts (turn n []) now).state.sessions (client c)) (sym q) ∙ e)

  -- its client asks once more in the same mode: it is granted, or waits where it is
  asked_same : (g : Bool) (a : Authority) (l : Locks) (v : Locks) → Acquired g l w.client w.life w.ino w.mode v → IsFirst w l → EndsAt a v
  asked_same g a l v (AtOnce off y f none) x = inr (Granted (granted_now w l))
  asked_same g a l v (InTurn y) x = inl (first_again w l x)

  asked : (g : Bool) (a : Authority) (l : Locks) (m : Message) (ino : ℕ) (mode : Mode) (v : Locks) (s : Session) → i ≡ Control m →
      m.body ≡ bodies.Acquire ino mode →
      sessions.session_of (thefts (turn n []) now).state.sessions (sender m.header) ≡ Some s → s.life.0 ≡ m.header.life →
      Acquired g l (sender m.header) (life_in m.header) ino mode v → IsFirst w l → EndsAt a v
  asked g a l m ino mode v s is b hs hl q f = go (same_or_not m.header.from w.client.0) (same_or_not ino w.ino) (same_mode mode w.mode)
    where
      life : w.client.0 ≡ m.header.from → m.header.life ≡ w.life.0
      life c = sym hl ∙ lives_there s (ap (λ z. sessions.session_of (thefts (turn n []) now).state.sessions (client z)) c ∙ hs)

      same : m.header.from ≡ w.client.0 → ino ≡ w.ino → mode ≡ w.mode → EndsAt a v
      same c e d =
          asked_same g a l v
          (subst (λ z. Acquired g l (client z) w.life w.ino w.mode v) c
          (subst (λ z. Acquired g l (sender m.header) (record { 0 = z }) w.ino w.mode v) (life (sym c))
          (subst (λ z. Acquired g l (sender m.header) (life_in m.header) z w.mode v) e (subst (λ z. Acquired g l (sender m.header) (life_in m.header) ino z v) d q)))) f

      go : (m.header.from ≡ w.client.0) ⊎ (m.header.from ≢ w.client.0) → (ino ≡ w.ino) ⊎ (ino ≢ w.ino) → (mode ≡ w.mode) ⊎ (mode ≢ w.mode) → EndsAt a v
      go (inl c) (inl e) (inl d) = same c e d
      go (inl c) (inl e) (inr d) = inr (Asked m (ap received_of is) (c, (mode, (d, b ∙ ap (λ z. bodies.Acquire z mode) e))))
      go (inl c) (inr ne) d = inl (first_acquired w g l (sender m.header) (life_in m.header) ino mode v q (inr ne) f)
      go (inr ne) e d = inl (first_acquired w g l (sender m.header) (life_in m.header) ino mode v q (inl ne) f)

  granted : (a : Authority) (l : Locks) (v : Waiter) → find (is_wait_on v.ino) l.waiters ≡ Some v → IsFirst w l →
      EndsAt a (grant l v.client v.life v.ino v.mode)
  granted a l v e f = go (same_or_not v.ino w.ino)
    where
      itself : (u : Waiter) → u ≡ w → EndsAt a (grant l u.client u.life u.ino u.mode)
      itself u q = subst (λ (u : Waiter). EndsAt a (grant l u.client u.life u.ino u.mode)) (sym q) (inr (Granted (granted_now w l)))

      go : (v.ino ≡ w.ino) ⊎ (v.ino ≢ w.ino) → EndsAt a (grant l v.client v.life v.ino v.mode)
      go (inl q) = itself v (some_is (sym e ∙ ap (λ f. find (is_wait_on f) l.waiters) q ∙ f))
      go (inr ne) = inl (first_granted w l v.client v.life v.ino v.mode (inr ne) f)

  removed : (a : Authority) (l : Locks) (m : Message) (dir : ℕ) (name : List ℕ) (g : GrantNo) (ino : ℕ) → i ≡ Control m →
      m.body ≡ bodies.Name (Remove dir name g) →
      names.lookup (thefts (turn n []) now).state.stable.names dir name ≡ Ok ino → (ino ≡ w.ino) ⊎ (ino ≢ w.ino) → EndsAt a l → EndsAt a (locks.drop_file_waits l ino)
  unfolding locks.drop_file_waits
  removed a l m dir name g ino is b e (inr ne) x = among a l (λ v. not (is_wait_on ino v)) (λ y. inl (first_among w l (λ v. not (is_wait_on ino v)) (ap not (ne_eqb w.ino ino (λ q. ne (sym q)))) y)) x
  removed a l m dir name g ino is b e (inl q) x =
      inr (Removed m (ap received_of is) (
        dir,
        (
          name,
          (
            g,
            (
              b,
              sym (ap (λ z. names.lookup z dir name) (ap (λ (z : Stable). z.names) (left n.config n.authority.wait 0 now n known).stable)) ∙ e ∙ ap (λ z. Ok z) q,
            ),
          ),
        ),
      ))

  ends_edit : (t u : ServerTurn) → Edit n now i t u → Ends t → Ends u
  unfolding steal_from suspect_client keep_and_reply reply tell locks.drop_waits
  ends_edit t u (TakesTimers _ z) x = inl (subst (λ (v : ServerTurn). IsFirst w v.state.locks) (sym z) first)
  ends_edit t u (Steals _ c s h e) x = forgot t.state.authority t.state.locks c (not_over c h) x
  ends_edit t u (Suspects _ c z f y) x = go (same_or_not c.0 w.client.0)
    where
      go : (c.0 ≡ w.client.0) ⊎ (c.0 ≢ w.client.0) → EndsAt (authority.suspect t.state.authority c now) (locks.drop_waits t.state.locks c)
      go (inl e) = inr (Suspected (subst (λ n. is_some (suspect_of (authority.suspect t.state.authority c now) (client n)) ≡ true) e (now_suspect t.state.authority c now f)))
      go (inr ne) =
          carried t.state.authority (authority.suspect t.state.authority c now) t.state.locks (locks.drop_waits t.state.locks c)
          (λ y. inl (first_among w t.state.locks (λ v. not (is_wait_by c v)) (other_client w c ne) y)) (granted_among w t.state.locks (λ v. not (is_wait_by c v)))
          (suspect_stays t.state.authority c now w.client) x
  ends_edit t u (DropsWaits _ m s is b e f) x = greeted t.state.authority t.state.locks m s is b e f (same_or_not m.header.from w.client.0) x
  ends_edit t u (Reasserts _ m rows is y gr f) x =
      carried t.state.authority t.state.authority t.state.locks (with_rows t.state.locks (sender m.header) (life_in m.header) rows)
      (λ z. inl (first_installed w t.state.locks (sender m.header) (life_in m.header) rows z)) (granted_installed w t.state.locks (sender m.header) (life_in m.header) rows) (λ s. s) x
  ends_edit t u (Sees _ m ino gr is fi b) x = inl (first_seen w t.state.locks (sender m.header) ino gr (behind t fi))
  ends_edit t u (Acquires _ m ino mode v b y is fi by hs hl ok kb a) x = asked _ t.state.authority t.state.locks m ino mode v y is by (ap (λ (z : ServerTurn). sessions.session_of z.state.sessions (sender m.header)) (sym fi) ∙ hs) hl a (behind t fi)
  ends_edit t u (Releases _ m ino gr to r is fi b e f) x = inl (first_released w t.state.locks (sender m.header) ino to (behind t fi))
  ends_edit t u (DropsFile _ m dir nm gr ino is b e) x = removed t.state.authority t.state.locks m dir nm gr ino is b e (same_or_not ino w.ino) x
  ends_edit t u (Grants _ v off h e f) x =
      carried t.state.authority t.state.authority t.state.locks (grant t.state.locks v.client v.life v.ino v.mode) (granted t.state.authority t.state.locks v e) (granted_besides w t.state.locks v h) (λ s. s) x
  ends_edit t u (Demands _ r y to e d) x = carried t.state.authority t.state.authority t.state.locks (with_demand r y t.state.locks) (λ z. inl z) (granted_demanded w t.state.locks r y) (λ s. s) x
  ends_edit t u other x = x

  pub step_ends : WishInput i → GoesOnOrEnds w (received_of i) n.stable.names (server_step n now i).state.authority (server_step n now i).state.locks
  step_ends wish = walk n now i Ends ends_edit wish (inl first)
