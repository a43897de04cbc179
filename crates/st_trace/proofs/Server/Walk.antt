-- The rules of the server, walked once: what every change of a step keeps, the step keeps.
use Rattle.st_lemmas.proofs.Words
use Words.{◌≡◌, ℕ, zero, suc, Bool, true, false, List, [], ◌∷◌, ◌++◌, ◌==◌, refl, sym, ap, ◌∙◌, subst, inl, inr, ◌⊎◌, cond, not, find, filter, map, length}
use Words.{Option, Some, None, list_any, eqb-true, ClientId, GrantNo, Life, Stamp, Config, Mode, ServerInput, LockRow, RowDemand, Waiter}
use Words.bodies as bd
use Words.serving.{Tick, Control}
use Words.Authority as authority
use Words.Grace as grace
use Words.Keys.{client, rising}
use Words.Locks as locks
use Words.Locks.{Locks, Granting, Demanding, row_of, stands_against, grantable, next_waiter, grant_waiter, grant_and, grant_file, grant_files, next_grants}
use Words.Locks.{demand_now, demand_with, demand_row, demand_clients, demand_for, demand_files, demands_due, grant, to_demand, with_demand}
use Words.Server as sv
use Words.Server.{ServerState, ServerTurn, turn, with_locks, tell, thefts, suspect_client, tell_granted, tell_demanded, server_step}
use Words.Lists.{Has}
use Words.Tables.{cond_either, and_true, found_at, has_map, has_filter}
use Rattle.st_lemmas.proofs.Keys.{rising_has}
use Rattle.st_trace.specs.Server.Edits.{NoSends, Phase, AtThefts, AtInput, AtSuspicion, AtGrants, AtDemands, EditOf, Edit, Suspects, Grants, Demands}
use Rattle.st_trace.specs.Server.Steps.{step_of, take_of}
use Rattle.st_trace.proofs.Server.Input.{thefts_begun, no_sends_note, walk_of_thefts_of, walk_of_thefts, input_once_of, input_once}

-- The input, from a fact that holds after the thefts to another.
module _ (n : ServerState) (now : Stamp) (i : ServerInput) (P Q : ServerTurn → Type 0) (becomes : (t : ServerTurn) → P t → Q t)
    (keeps : (t u : ServerTurn) → Edit n now i AtInput t u → P t → Q u) where
  pub walk_of_input : P (thefts (turn n []) now) → Q (sv.take_input (thefts (turn n []) now) now i)
  walk_of_input p = go (input_once n now i)
    where
      go : (sv.take_input (thefts (turn n []) now) now i ≡ thefts (turn n []) now) ⊎
          Edit n now i AtInput (thefts (turn n []) now) (sv.take_input (thefts (turn n []) now) now i) → Q (sv.take_input (thefts (turn n []) now) now i)
      go (inl e) = subst Q (sym e) (becomes _ p)
      go (inr x) = keeps _ _ x p

-- a wait that is found on a file is found on its own
own_wait : (ws : List Waiter) (w : Waiter) (ino : ℕ) → find (locks.is_wait_on ino) ws ≡ Some w → find (locks.is_wait_on w.ino) ws ≡ Some w
own_wait ws w ino e = subst (λ f. find (locks.is_wait_on f) ws ≡ Some w) (sym (eqb-true w.ino ino (found_at (locks.is_wait_on ino) ws w e).0)) e

-- Suspicion.
module _ (is_client : ℕ → Bool) (n : ServerState) (now : Stamp) (i : ServerInput) (P : ServerTurn → Type 0)
    (keeps : (t u : ServerTurn) → EditOf is_client n now i AtSuspicion t u → P t → P u) where
  -- what suspicion leaves: the settings, the rows, and that nothing was sent
  record Suspecting (k : Config) (rows : List LockRow) (t : ServerTurn) : Type 0 where
    holds : P t
    config_stays : t.state.config ≡ k
    rows_stay : t.state.locks.rows ≡ rows
    quiet : NoSends t.out

  suspected : (k : Config) (rows : List LockRow) (t : ServerTurn) (c : ClientId) → i ≡ Tick → (r : LockRow) → Has r rows → r.client ≡ c →
      locks.is_overdue k now r ≡ true →
      authority.may_ack t.state.authority c ≡ true → Suspecting k rows t → Suspecting k rows (suspect_client t now c)
  unfolding suspect_client locks.drop_waits
  suspected k rows t c is r has e late f s =
      record {
        holds = keeps t _ (Suspects t c r is s.quiet f (subst (Has r) (sym s.rows_stay) has) e
            (subst (λ k. locks.is_overdue k now r ≡ true) (sym s.config_stays) late)) s.holds;
        config_stays = s.config_stays;
        rows_stay = s.rows_stay;
        quiet = no_sends_note t.out _ s.quiet tt;
      }

  walk_of_suspects : (k : Config) (rows : List LockRow) (cs : List ClientId) (t : ServerTurn) → i ≡ Tick →
      ((c : ClientId) → Has c cs → (r : LockRow) × Has r rows × (r.client ≡ c) × (locks.is_overdue k now r ≡ true)) → Suspecting k rows t →
      Suspecting k rows (sv.suspect_each now cs t)
  unfolding sv.suspect_each sv.suspect_unless
  walk_of_suspects k rows [] t is f s = s
  walk_of_suspects k rows (c ∷ cs) t is f s =
      walk_of_suspects k rows cs _ is (λ d j. f d (inr j))
      (cond_either (Suspecting k rows) (authority.may_ack t.state.authority c) (suspect_client t now c) t (λ q. let z = f c (inl refl) in
      suspected k rows t c is z.0 z.1 z.2 z.3 q s) (λ q. s))

  pub walk_of_suspecting_of : (t : ServerTurn) → i ≡ Tick → NoSends t.out → P t → P (sv.suspecting t now)
  unfolding sv.suspecting locks.unanswered
  walk_of_suspecting_of t is q p =
      (walk_of_suspects t.state.config t.state.locks.rows _ t is
      (λ c k. let a = has_map client (rising (map locks.client_of_row (filter (locks.is_overdue t.state.config now) t.state.locks.rows))) c k in
      let b = has_map locks.client_of_row (filter (locks.is_overdue t.state.config now) t.state.locks.rows) a.0 (rising_has _ a.0 a.1) in
      let f = has_filter (locks.is_overdue t.state.config now) t.state.locks.rows b.0 b.1 in
      (b.0, f.0, sym (a.2 ∙ ap client b.2), f.1))
      (record { holds = p; config_stays = refl; rows_stay = refl; quiet = q })).holds

pub walk_of_suspecting : (n : ServerState) (now : Stamp) (i : ServerInput) (P : ServerTurn → Type 0) →
    ((t u : ServerTurn) → Edit n now i AtSuspicion t u → P t → P u) → (t : ServerTurn) → i ≡ Tick → NoSends t.out → P t → P (sv.suspecting t now)
walk_of_suspecting = walk_of_suspecting_of sv.is_client_node

-- Granting: each grant with its message.
module _ (is_client : ℕ → Bool) (n : ServerState) (now : Stamp) (i : ServerInput) (P : ServerTurn → Type 0)
    (keeps : (t u : ServerTurn) → EditOf is_client n now i AtGrants t u → P t → P u) where
  waiter_free : (l : Locks) (o : Option Waiter) (w : Waiter) → grantable l o ≡ Some w → list_any (stands_against w.client w.ino w.mode) l.rows ≡ false
  waiter_free l None w e = cc
  waiter_free l (Some v) w e = go (list_any (stands_against v.client v.ino v.mode) l.rows) refl e
    where
      some_is : (x y : Waiter) → ◌≡◌ {A = Option Waiter} (Some x) (Some y) → x ≡ y
      some_is x y e = cc

      go : (b : Bool) → list_any (stands_against v.client v.ino v.mode) l.rows ≡ b → cond b None (Some v) ≡ Some w →
          list_any (stands_against w.client w.ino w.mode) l.rows ≡ false
      go true f e = cc
      go false f e = subst (λ (w : Waiter). list_any (stands_against w.client w.ino w.mode) l.rows ≡ false) (some_is v w e) f

  waiter_is : (l : Locks) (o : Option Waiter) (w : Waiter) → grantable l o ≡ Some w → o ≡ Some w
  waiter_is l None w e = e
  waiter_is l (Some v) w e = go (list_any (stands_against v.client v.ino v.mode) l.rows) e
    where
      go : (b : Bool) → cond b None (Some v) ≡ Some w → ◌≡◌ {A = Option Waiter} (Some v) (Some w)
      go true e = cc
      go false e = e

  -- what was granted so far is sent
  abbrev GrantsTold : ServerTurn → Granting → ServerTurn
  GrantsTold t p = tell_granted p.granted (with_locks p.locks t)

  -- one grant more, at the end
  granted_more : (t : ServerTurn) (l k : Locks) (xs : List (ClientId × Life × ℕ × GrantNo × Mode)) (x : ClientId × Life × ℕ × GrantNo × Mode) →
      tell_granted (xs ++ x ∷ []) (with_locks k t) ≡ tell (with_locks k (tell_granted xs (with_locks l t))) x.0 x.1 (bd.Granted x.2 x.3 x.4)
  unfolding tell_granted tell
  granted_more t l k [] x = refl
  granted_more t l k (y ∷ ys) x = granted_more (tell t y.0 y.1 (bd.Granted y.2 y.3 y.4)) l k ys x

  -- telling leaves the state
  granted_state : (xs : List (ClientId × Life × ℕ × GrantNo × Mode)) (t : ServerTurn) → (tell_granted xs t).state ≡ t.state
  unfolding tell_granted tell
  granted_state [] t = refl
  granted_state (x ∷ xs) t = granted_state xs _

  -- a grant, if the table is this one
  abbrev GrantAt : ServerTurn → Waiter → Locks → Type 0
  GrantAt u w l =
      grace.is_on u.state.grace now ≡ false → Has w l.waiters → find (locks.is_wait_on w.ino) l.waiters ≡ Some w →
      list_any (stands_against w.client w.ino w.mode) l.rows ≡ false → P u →
      P (tell (with_locks (grant l w.client w.life w.ino w.mode) u) w.client w.life (bd.Granted w.ino (locks.next_grant l) w.mode))

  grant_at : (u : ServerTurn) (w : Waiter) (l : Locks) → u.state.locks ≡ l → GrantAt u w l
  grant_at u w l e = subst (GrantAt u w) e (λ off has first free q. keeps u _ (Grants u w off has first free) q)

  walk_of_grant : (t : ServerTurn) (p : Granting) (w : Waiter) → grace.is_on t.state.grace now ≡ false → Has w p.locks.waiters →
      find (locks.is_wait_on w.ino) p.locks.waiters ≡ Some w →
      list_any (stands_against w.client w.ino w.mode) p.locks.rows ≡ false → P (GrantsTold t p) → P (GrantsTold t (grant_waiter p w))
  unfolding grant_waiter
  walk_of_grant t p w off has first free q =
      let e = granted_state p.granted (with_locks p.locks t) in
      subst P (sym (granted_more t p.locks (grant p.locks w.client w.life w.ino w.mode) p.granted (w.client, w.life, w.ino, locks.next_grant p.locks, w.mode)))
      (grant_at (GrantsTold t p) w p.locks (ap (λ (s : ServerState). s.locks) e) (ap (λ (s : ServerState). grace.is_on s.grace now) e ∙ off) has first free q)

  walk_of_file : (t : ServerTurn) (ino k : ℕ) (p : Granting) → grace.is_on t.state.grace now ≡ false → P (GrantsTold t p) →
      P (GrantsTold t (grant_file ino k p))
  unfolding grant_file
  walk_of_file t ino zero p off q = q
  walk_of_file t ino (suc k) p off q = go (next_waiter p.locks ino) refl (λ r s. walk_of_file t ino k r off s)
    where
      go : (o : Option Waiter) → next_waiter p.locks ino ≡ o → ((r : Granting) → P (GrantsTold t r) → P (GrantsTold t (grant_file ino k r))) →
          P (GrantsTold t (grant_and (grant_file ino k) p o))
      go None e r = q
      go (Some w) e r =
          let f = waiter_is p.locks (find (locks.is_wait_on ino) p.locks.waiters) w e in
          r (grant_waiter p w)
          (walk_of_grant t p w off (found_at (locks.is_wait_on ino) p.locks.waiters w f).1 (own_wait p.locks.waiters w ino f)
          (waiter_free p.locks (find (locks.is_wait_on ino) p.locks.waiters) w e) q)

  walk_of_files : (t : ServerTurn) (inos : List ℕ) (p : Granting) → grace.is_on t.state.grace now ≡ false → P (GrantsTold t p) →
      P (GrantsTold t (grant_files inos p))
  unfolding grant_files
  walk_of_files t [] p off q = q
  walk_of_files t (ino ∷ inos) p off q = walk_of_files t inos _ off (walk_of_file t ino (length p.locks.waiters) p off q)

  pub walk_of_granting_of : (t : ServerTurn) → P t → P (sv.granting t now)
  unfolding sv.granting sv.grant_waiting sv.grant_by next_grants tell_granted
  walk_of_granting_of t p = cond_either P (sv.in_grace t now) t _ (λ e. p)
      (λ e. walk_of_files t (locks.waited_files t.state.locks) (locks.nothing_granted t.state.locks) e p)

pub walk_of_granting : (n : ServerState) (now : Stamp) (i : ServerInput) (P : ServerTurn → Type 0) →
    ((t u : ServerTurn) → Edit n now i AtGrants t u → P t → P u) → (t : ServerTurn) → P t → P (sv.granting t now)
walk_of_granting = walk_of_granting_of sv.is_client_node

-- what a change of each member leaves of those that a test picks
picked_stay : {A B : Type 0} (f : A → A) (test : A → Bool) (read : A → B) → ((x : A) → test (f x) ≡ test x) → ((x : A) → read (f x) ≡ read x) → (xs : List A) →
    map read (filter test (map f xs)) ≡ map read (filter test xs)
picked_stay f test read tested read_same [] = refl
picked_stay {A} {B} f test read tested read_same (x ∷ xs) =
    ap (λ b. map read (cond b (f x ∷ filter test (map f xs)) (filter test (map f xs)))) (tested x) ∙ go (test x) (picked_stay f test read tested read_same xs)
  where
    go : (b : Bool) → map read (filter test (map f xs)) ≡ map read (filter test xs) →
        map read (cond b (f x ∷ filter test (map f xs)) (filter test (map f xs))) ≡ map read (cond b (x ∷ filter test xs) (filter test xs))
    go true e = ap (λ (y : B). y ∷ map read (filter test (map f xs))) (read_same x) ∙ ap (λ (ys : List B). read x ∷ ys) e
    go false e = e

-- a demand on a row leaves what must be demanded for a wait
to_demand_stays : (l : Locks) (suspects : List ClientId) (w : Waiter) (r : LockRow) (x : RowDemand) →
    to_demand (with_demand r x l) suspects w ≡ to_demand l suspects w
unfolding locks.demanded
to_demand_stays l suspects w r x =
    ap (λ (cs : List ℕ). filter (λ c. not (locks.is_among suspects c)) (map client (rising cs)))
    (picked_stay (locks.demand_of r.client r.ino x) (stands_against w.client w.ino w.mode) locks.client_of_row
    (λ y. tested y (locks.is_row_of r.client r.ino y)) (λ y. named y (locks.is_row_of r.client r.ino y)) l.rows)
  where
    tested : (y : LockRow) (b : Bool) →
        stands_against w.client w.ino w.mode (cond b (locks.demanded x y) y) ≡ stands_against w.client w.ino w.mode y
    tested y true = refl
    tested y false = refl

    named : (y : LockRow) (b : Bool) → locks.client_of_row (cond b (locks.demanded x y) y) ≡ locks.client_of_row y
    named y true = refl
    named y false = refl

-- Demanding: each demand with its message.
module _ (is_client : ℕ → Bool) (n : ServerState) (now : Stamp) (i : ServerInput) (P : ServerTurn → Type 0)
    (keeps : (t u : ServerTurn) → EditOf is_client n now i AtDemands t u → P t → P u) where
  abbrev DemandsTold : ServerTurn → Demanding → ServerTurn
  DemandsTold t p = tell_demanded p.due (with_locks p.locks t)

  -- one demand more, at the end
  demanded_more : (t : ServerTurn) (l k : Locks) (xs : List (ClientId × Life × ℕ × GrantNo × Mode)) (x : ClientId × Life × ℕ × GrantNo × Mode) →
      tell_demanded (xs ++ x ∷ []) (with_locks k t) ≡ tell (with_locks k (tell_demanded xs (with_locks l t))) x.0 x.1 (bd.Demand x.2 x.3 x.4)
  unfolding tell_demanded tell
  demanded_more t l k [] x = refl
  demanded_more t l k (y ∷ ys) x = demanded_more (tell t y.0 y.1 (bd.Demand y.2 y.3 y.4)) l k ys x

  demanded_state : (xs : List (ClientId × Life × ℕ × GrantNo × Mode)) (t : ServerTurn) → (tell_demanded xs t).state ≡ t.state
  unfolding tell_demanded tell
  demanded_state [] t = refl
  demanded_state (x ∷ xs) t = demanded_state xs _

  abbrev suspects_in : ServerTurn → List ClientId
  suspects_in t = authority.suspects_of t.state.authority

  -- the row that a client has of a file
  record IsRowOf (l : Locks) (c : ClientId) (ino : ℕ) (r : LockRow) : Type 0 where
    own : row_of l r.client r.ino ≡ Some r
    of_file : r.ino ≡ ino
    of_client : r.client ≡ c

  is_row : (l : Locks) (c : ClientId) (ino : ℕ) (r : LockRow) → row_of l c ino ≡ Some r → IsRowOf l c ino r
  is_row l c ino r e =
      let z = and_true (r.client.0 == c.0) (r.ino == ino) (found_at (locks.is_row_of c ino) l.rows r e).0 in
      let of_client : r.client ≡ c = ap (λ n. client n) (eqb-true r.client.0 c.0 z.0) in
      let of_file = eqb-true r.ino ino z.1 in
      record {
        own = subst (λ (d : ClientId). row_of l d r.ino ≡ Some r) (sym of_client) (subst (λ f. row_of l c f ≡ Some r) (sym of_file) e);
        of_file = of_file;
        of_client = of_client;
      }

  -- a demand, if the table is this one
  abbrev DemandAt : ServerTurn → Waiter → LockRow → RowDemand → Locks → Type 0
  DemandAt u w r x l =
      find (locks.is_wait_on w.ino) l.waiters ≡ Some w → Has r.client (to_demand l (suspects_in u) w) → r.ino ≡ w.ino → row_of l r.client r.ino ≡ Some r →
      demand_now u.state.config now (sv.is_tick i) (locks.wish w.mode) r.demand ≡ Some x → P u →
      P (tell (with_locks (with_demand r x l) u) r.client r.life (bd.Demand r.ino r.g x.to))

  demand_at : (u : ServerTurn) (w : Waiter) (r : LockRow) (x : RowDemand) (l : Locks) → u.state.locks ≡ l → DemandAt u w r x l
  demand_at u w r x l e = subst (DemandAt u w r x) e (λ first in_the_way on row due. keeps u _ (Demands u w r x first in_the_way on row due))

  -- a wait is the first one of its file, and these are the clients of which its lock is demanded; demands keep both facts
  record Demanded (t : ServerTurn) (w : Waiter) (cs : List ClientId) (p : Demanding) : Type 0 where
    holds : P (DemandsTold t p)
    first : find (locks.is_wait_on w.ino) p.locks.waiters ≡ Some w
    clients : to_demand p.locks (suspects_in t) w ≡ cs

  walk_of_with : (t : ServerTurn) (w : Waiter) (cs : List ClientId) (p : Demanding) (r : LockRow) (x : Option RowDemand) → IsRowOf p.locks r.client w.ino r →
      Has r.client cs → demand_now t.state.config now (sv.is_tick i) (locks.wish w.mode) r.demand ≡ x →
      Demanded t w cs p → Demanded t w cs (demand_with p r x)
  unfolding demand_with
  walk_of_with t w cs p r None z h d q = q
  walk_of_with t w cs p r (Some x) z h d q =
      let e = demanded_state p.due (with_locks p.locks t) in
      record {
        holds = subst P (sym (demanded_more t p.locks (with_demand r x p.locks) p.due (r.client, r.life, r.ino, r.g, x.to)))
            (demand_at (DemandsTold t p) w r x p.locks (ap (λ (s : ServerState). s.locks) e) q.first
            (subst (λ (s : ServerState). Has r.client (to_demand p.locks (authority.suspects_of s.authority) w)) (sym e)
            (subst (Has r.client) (sym q.clients) h))
            z.of_file z.own (ap (λ (s : ServerState). demand_now s.config now (sv.is_tick i) (locks.wish w.mode) r.demand) e ∙ d) q.holds);
        first = q.first;
        clients = to_demand_stays p.locks (suspects_in t) w r x ∙ q.clients;
      }

  walk_of_row : (t : ServerTurn) (w : Waiter) (cs : List ClientId) (c : ClientId) (o : Option LockRow) (p : Demanding) → row_of p.locks c w.ino ≡ o → Has c cs →
      Demanded t w cs p → Demanded t w cs (demand_row t.state.config now (sv.is_tick i) (locks.wish w.mode) o p)
  unfolding demand_row
  walk_of_row t w cs c None p e h q = q
  walk_of_row t w cs c (Some r) p e h q =
      let z = is_row p.locks c w.ino r e in
      walk_of_with t w cs p r _ (record { own = z.own; of_file = z.of_file; of_client = refl }) (subst (λ (d : ClientId). Has d cs) (sym z.of_client) h) refl q

  walk_of_clients : (t : ServerTurn) (w : Waiter) (cs ds : List ClientId) (p : Demanding) → ((c : ClientId) → Has c ds → Has c cs) → Demanded t w cs p →
      Demanded t w cs (demand_clients t.state.config now (sv.is_tick i) w.ino (locks.wish w.mode) ds p)
  unfolding demand_clients
  walk_of_clients t w cs [] p h q = q
  walk_of_clients t w cs (c ∷ ds) p h q = walk_of_clients t w cs ds _ (λ d k. h d (inr k))
      (walk_of_row t w cs c (row_of p.locks c w.ino) p refl (h c (inl refl)) q)

  walk_of_for : (t : ServerTurn) (ino : ℕ) (o : Option Waiter) (p : Demanding) → find (locks.is_wait_on ino) p.locks.waiters ≡ o → P (DemandsTold t p) →
      P (DemandsTold t (demand_for t.state.config now (sv.is_tick i) (suspects_in t) o p))
  unfolding demand_for
  walk_of_for t ino None p e q = q
  walk_of_for t ino (Some w) p e q =
      (walk_of_clients t w _ _ p (λ c h. h) (record { holds = q; first = own_wait p.locks.waiters w ino e; clients = refl })).holds

  walk_of_demand_files : (t : ServerTurn) (inos : List ℕ) (p : Demanding) → P (DemandsTold t p) →
      P (DemandsTold t (demand_files t.state.config now (sv.is_tick i) (suspects_in t) inos p))
  unfolding demand_files
  walk_of_demand_files t [] p q = q
  walk_of_demand_files t (ino ∷ inos) p q = walk_of_demand_files t inos _ (walk_of_for t ino (find (locks.is_wait_on ino) p.locks.waiters) p refl q)

  pub walk_of_demanding_of : (t : ServerTurn) → P t → P (sv.demanding t now i)
  unfolding sv.demanding sv.demand_by demands_due tell_demanded
  walk_of_demanding_of t p = walk_of_demand_files t (locks.waited_files t.state.locks) (locks.nothing_demanded t.state.locks) p

pub walk_of_demanding : (n : ServerState) (now : Stamp) (i : ServerInput) (P : ServerTurn → Type 0) →
    ((t u : ServerTurn) → Edit n now i AtDemands t u → P t → P u) → (t : ServerTurn) → P t → P (sv.demanding t now i)
walk_of_demanding = walk_of_demanding_of sv.is_client_node

-- The step after its thefts.
pub walk_after_thefts : (n : ServerState) (now : Stamp) (i : ServerInput) (P : ServerTurn → Type 0) →
    ((t u : ServerTurn) → Edit n now i AtInput t u → P t → P u) →
    ((t u : ServerTurn) → Edit n now i AtSuspicion t u → P t → P u) → ((t u : ServerTurn) → Edit n now i AtGrants t u → P t → P u) →
    ((t u : ServerTurn) → Edit n now i AtDemands t u → P t → P u) → P (thefts (turn n []) now) → P (server_step n now i)
unfolding server_step sv.take_input sv.suspecting_on
walk_after_thefts n now Tick P takes suspects grants demands p =
    walk_of_demanding n now Tick P demands _ (walk_of_granting n now Tick P grants _
    (walk_of_suspecting n now Tick P suspects (thefts (turn n []) now) refl (thefts_begun n now).quiet p))
walk_after_thefts n now (Control m) P takes suspects grants demands p =
    walk_of_demanding n now (Control m) P demands _ (walk_of_granting n now (Control m) P grants _ (walk_of_input n now (Control m) P P (λ t q. q) takes p))

-- The whole step: what holds through the thefts, and then what it becomes by the input and holds through the passes.
pub walk_in_two : (n : ServerState) (now : Stamp) (i : ServerInput) (P Q : ServerTurn → Type 0) → ((t u : ServerTurn) → Edit n now i AtThefts t u → P t → P u) →
    ((t : ServerTurn) → P t → Q t) → ((t u : ServerTurn) → Edit n now i AtInput t u → P t → Q u) →
    ((t u : ServerTurn) → Edit n now i AtSuspicion t u → Q t → Q u) →
    ((t u : ServerTurn) → Edit n now i AtGrants t u → Q t → Q u) → ((t u : ServerTurn) → Edit n now i AtDemands t u → Q t → Q u) →
    P (turn n []) → Q (server_step n now i)
unfolding server_step sv.take_input sv.suspecting_on
walk_in_two n now Tick P Q steals becomes takes suspects grants demands p =
    walk_of_demanding n now Tick Q demands _ (walk_of_granting n now Tick Q grants _
    (walk_of_suspecting n now Tick Q suspects (thefts (turn n []) now) refl (thefts_begun n now).quiet (becomes _ (walk_of_thefts n now Tick P steals p))))
walk_in_two n now (Control m) P Q steals becomes takes suspects grants demands p =
    walk_of_demanding n now (Control m) Q demands _ (walk_of_granting n now (Control m) Q grants _
    (walk_of_input n now (Control m) P Q becomes takes (walk_of_thefts n now (Control m) P steals p)))

-- with one fact for all changes
pub walk_on : (n : ServerState) (now : Stamp) (i : ServerInput) (P : ServerTurn → Type 0) → ((a : Phase) (t u : ServerTurn) → Edit n now i a t u → P t → P u) →
    P (thefts (turn n []) now) → P (server_step n now i)
walk_on n now i P k p = walk_after_thefts n now i P (k AtInput) (k AtSuspicion) (k AtGrants) (k AtDemands) p

-- what holds at its beginning, and is kept by each change, holds at its end
pub walk : (n : ServerState) (now : Stamp) (i : ServerInput) (P : ServerTurn → Type 0) → ((a : Phase) (t u : ServerTurn) → Edit n now i a t u → P t → P u) →
    P (turn n []) → P (server_step n now i)
walk n now i P k p = walk_on n now i P k (walk_of_thefts n now i P (k AtThefts) p)

-- the same of a step that hears other nodes
pub walk_of : (is_client : ℕ → Bool) (n : ServerState) (now : Stamp) (i : ServerInput) (P : ServerTurn → Type 0) →
    ((a : Phase) (t u : ServerTurn) → EditOf is_client n now i a t u → P t → P u) → P (turn n []) → P (step_of is_client n now i)
unfolding sv.suspecting_on
walk_of is_client n now Tick P k p =
    walk_of_demanding_of is_client n now Tick P (k AtDemands) _ (walk_of_granting_of is_client n now Tick P (k AtGrants) _
    (walk_of_suspecting_of is_client n now Tick P (k AtSuspicion) (thefts (turn n []) now) refl (thefts_begun n now).quiet
    (walk_of_thefts_of is_client n now Tick P (k AtThefts) p)))
walk_of is_client n now (Control m) P k p =
    walk_of_demanding_of is_client n now (Control m) P (k AtDemands) _ (walk_of_granting_of is_client n now (Control m) P (k AtGrants) _
    (go (input_once_of is_client n now (Control m))))
  where
    t0 : ServerTurn
    t0 = thefts (turn n []) now

    began : P t0
    began = walk_of_thefts_of is_client n now (Control m) P (k AtThefts) p

    go : (take_of is_client t0 now (Control m) ≡ t0) ⊎ EditOf is_client n now (Control m) AtInput t0 (take_of is_client t0 now (Control m)) →
        P (take_of is_client t0 now (Control m))
    go (inl e) = subst P (sym e) began
    go (inr x) = k AtInput t0 _ x began
