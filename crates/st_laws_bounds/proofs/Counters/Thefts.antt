-- The clients of which a server has locks, waits and timers are sixteen at most, and no rule but thefts notes a theft.
use Rattle.st_lemmas.proofs.Words
use Words.{◌≡◌, ◌≢◌, ◌⊎◌, ℕ, ◌+◌, ◌≤◌, ◌<◌, ◌==◌, Bool, true, false, List, [], ◌∷◌, ◌++◌, length, refl, sym, ap, ◌∙◌, subst, inl, inr, arith, leb-true}
use Words.{if◌then◌else◌, ◌&&◌, not, filter, find, map, nat_le, nat_lt, is_some, Option, Some, None, eq-eqb, ltb-true, ltb-false, Config, ClientId, GrantNo}
use Words.{Life, Stamp, Mode, Body, Header, Output, Suspect, ServerInput, LockRow, RowDemand, Waiter, Session}
use Words.modes
use Words.bodies
use Words.notes
use Words.outputs
use Words.serving.{Tick, Control}
use Words.Authority as authority
use Words.Authority.{Authority}
use Words.Keys.{page_no}
use Words.Locks as locks
use Words.Locks.{Locks}
use Words.Sessions as sessions
use Words.Server as sv
use Words.Server.{ServerState, ServerTurn}
use Words.Lists.{Has}
use Words.Tables.{and_true, has_append, has_filter, has_map, not_true}
use Words.Lengths.{length_map}
use Words.Serving.{has_suspect}
use Words.Tests.{filtered_no_longer}
use Rattle.st_lemmas.proofs.Puts.{has_put}
use Rattle.st_laws_bounds.proofs.Counters.Weights.{weigh, weigh_both}
use Rattle.st_laws_bounds.proofs.Counters.Clients.{of_theft}
use Rattle.st_trace.specs.Server.Edits as edits
use Rattle.st_trace.specs.Server.Edits.{AtInput, AtSuspicion, AtGrants, AtDemands, AtOnce, InTurn, Ruled, Edit, Welcomes, Begins, Replaces, PutsOff, Sees}
use Rattle.st_trace.specs.Server.Edits.{Reasserts, Serves, Repeats, Refuses, Suspects, Grants, Demands}
use Rattle.st_trace.proofs.Server.Input.{thefts_begun}
use Rattle.st_trace.proofs.Server.Walk.{walk_of_demanding, walk_of_granting, walk_of_input, walk_of_suspecting}

-- a client's number
pub record InRange (n : ℕ) : Type 0 where
  pub least : 1 ≤ n
  pub most : n ≤ 16

-- timers are in rising order of clients
abbrev pub Rising : List Suspect → Type 0
Rising [] = Unit {0}
Rising (x ∷ xs) = record { first : (y : Suspect) → Has y xs → x.client.0 < y.client.0; rest : Rising xs }

-- What holds of a server's locks: each row and each wait is of one of sixteen clients.
pub record FewLocks (l : Locks) : Type 0 where
  pub rows : (r : LockRow) → Has r l.rows → InRange r.client.0
  pub waits : (w : Waiter) → Has w l.waiters → InRange w.client.0

-- And of its timers: each is of one of sixteen clients, and no two are of one.
pub record FewTimers (a : Authority) : Type 0 where
  pub timers : (x : Suspect) → Has x a.suspects → InRange x.client.0
  pub rising : Rising a.suspects

-- What a rule keeps: what holds of both, and how many thefts were noted.
pub record Safe (l : Locks) (a : Authority) (out : List Output) (l2 : Locks) (a2 : Authority) (out2 : List Output) : Type 0 where
  pub locks : FewLocks l → FewLocks l2
  pub timers : FewLocks l → FewTimers a → FewTimers a2
  pub thefts : weigh of_theft out2 ≡ weigh of_theft out

abbrev pub G : ServerTurn → ServerTurn → Type 0
G t u = Safe t.state.locks t.state.authority t.out u.state.locks u.state.authority u.out

few_thefts_in_nothing : (t : ServerTurn) → G t t
few_thefts_in_nothing t = record { locks = λ h. h; timers = λ g h. h; thefts = refl }

few_thefts_in_sequence : (t u v : ServerTurn) → G t u → G u v → G t v
few_thefts_in_sequence t u v x y =
    record { locks = λ h. y.locks (x.locks h); timers = λ g h. y.timers (x.locks g) (x.timers g h); thefts = y.thefts ∙ x.thefts }

-- more is said, and no theft
few_thefts_in_says : (t : ServerTurn) (os : List Output) → weigh of_theft os ≡ 0 → G t (record t { out = t.out ++ os })
few_thefts_in_says t os e = let z = weigh_both of_theft t.out os in record { locks = λ h. h; timers = λ g h. h; thefts = omega (arith, z, e) }

-- a message is sent
few_thefts_in_reply : (t : ServerTurn) (h : Header) (b : Body) → G t (sv.reply t h b)
unfolding sv.reply
few_thefts_in_reply t h b = few_thefts_in_says t (_ ∷ []) refl

few_thefts_in_tell : (t : ServerTurn) (c : ClientId) (life : Life) (b : Body) → G t (sv.tell t c life b)
unfolding sv.tell
few_thefts_in_tell t c life b = few_thefts_in_says t (_ ∷ []) refl

-- other locks
few_thefts_in_locks : (t : ServerTurn) (l : Locks) → (FewLocks t.state.locks → FewLocks l) → G t (sv.with_locks l t)
few_thefts_in_locks t l f = record { locks = f; timers = λ g h. h; thefts = refl }

-- Changes of the locks.
fewer_locks : (l : Locks) (p : LockRow → Bool) (q : Waiter → Bool) → FewLocks l → FewLocks (record l { rows = filter p l.rows; waiters = filter q l.waiters })
fewer_locks l p q h = record { rows = λ r i. h.rows r (has_filter p l.rows r i).0; waits = λ w i. h.waits w (has_filter q l.waiters w i).0 }

fewer_rows : (l : Locks) (p : LockRow → Bool) → FewLocks l → FewLocks (record l { rows = filter p l.rows })
fewer_rows l p h = record { rows = λ r i. h.rows r (has_filter p l.rows r i).0; waits = h.waits }

fewer_waits : (l : Locks) (q : Waiter → Bool) → FewLocks l → FewLocks (record l { waiters = filter q l.waiters })
fewer_waits l q h = record { rows = h.rows; waits = λ w i. h.waits w (has_filter q l.waiters w i).0 }

same_rows : (l : Locks) (f : LockRow → LockRow) → ((r : LockRow) → (f r).client ≡ r.client) → FewLocks l → FewLocks (record l { rows = map f l.rows })
same_rows l f s h =
    record {
      rows = λ r i. let z = has_map f l.rows r i in subst (λ (c : ClientId). InRange c.0) (sym (ap (λ (y : LockRow). y.client) z.2 ∙ s z.0)) (h.rows z.0 z.1);
      waits = h.waits;
    }

granted_few : (l : Locks) (c : ClientId) (life : Life) (ino : ℕ) (mode : Mode) → InRange c.0 → FewLocks l → FewLocks (locks.grant l c life ino mode)
unfolding locks.grant
granted_few l c life ino mode n h =
    record {
      rows = λ r i. row r (has_put (locks.is_row_of c ino) (locks.new_row l c life ino mode) l.rows r i);
      waits = λ w i. h.waits w (has_filter (λ w. not (locks.is_wait_of c ino w)) l.waiters w i).0;
    }
  where
    row : (r : LockRow) → (r ≡ locks.new_row l c life ino mode) ⊎ Has r l.rows → InRange r.client.0
    row r (inl e) = subst (λ (y : LockRow). InRange y.client.0) (sym e) n
    row r (inr i) = h.rows r i

queued_few : (l : Locks) (c : ClientId) (life : Life) (ino : ℕ) (mode : Mode) → InRange c.0 → FewLocks l → FewLocks (locks.queue l c life ino mode)
unfolding locks.queue locks.queue_at locks.wait_for
queued_few l c life ino mode n h = go (locks.wait_of l c ino)
  where
    last : (w : Waiter) → Has w l.waiters ⊎ Has w (locks.new_wait c life ino mode ∷ []) → InRange w.client.0
    last w (inl i) = h.waits w i
    last w (inr (inl e)) = subst (λ (y : Waiter). InRange y.client.0) (sym e) n
    last w (inr (inr i)) = absurd i

    raised : (w : Waiter) (b : Bool) → (if b then locks.wait_for mode w else w).client ≡ w.client
    raised w true = refl
    raised w false = refl

    go : (o : Option Waiter) → FewLocks (locks.queue_at l c life ino mode o)
    go None = record { rows = h.rows; waits = λ w i. last w (has_append l.waiters (locks.new_wait c life ino mode ∷ []) w i) }
    go (Some x) =
        record {
          rows = h.rows;
          waits = λ w i. let z = has_map (locks.raise c ino mode) l.waiters w i in
              subst (λ (d : ClientId). InRange d.0) (sym (ap (λ (y : Waiter). y.client) z.2 ∙ raised z.0 (locks.is_wait_of c ino z.0))) (h.waits z.0 z.1);
        }

released_few : (l : Locks) (c : ClientId) (ino : ℕ) (to : Mode) → FewLocks l → FewLocks (locks.release_to l c ino to)
unfolding locks.release_to locks.lowered
released_few l c ino to h = to_mode to
  where
    shared : (r : LockRow) (b : Bool) → (if b then locks.lowered r else r).client ≡ r.client
    shared r true = refl
    shared r false = refl

    to_mode : (m : Mode) → FewLocks (locks.release_to l c ino m)
    to_mode modes.None = fewer_rows l (λ r. not (locks.is_row_of c ino r)) h
    to_mode modes.S = same_rows l (locks.lower c ino) (λ r. shared r (locks.is_row_of c ino r)) h
    to_mode modes.X = same_rows l (locks.lower c ino) (λ r. shared r (locks.is_row_of c ino r)) h

-- what an accepted reassertion leaves
installed_few : (l : Locks) (c : ClientId) (life : Life) (rows : List (ℕ × GrantNo × Mode)) → InRange c.0 → FewLocks l →
    FewLocks (locks.with_rows l c life rows)
unfolding locks.with_rows
installed_few l c life rows n h =
    record { rows = λ r i. both r (has_append l.rows (map (locks.installed c life) rows) r i); waits = h.waits }
  where
    one : (r : LockRow) → (x : ℕ × GrantNo × Mode) × Has x rows × (r ≡ locks.installed c life x) → InRange r.client.0
    one r (x, i, e) = subst (λ (y : LockRow). InRange y.client.0) (sym e) n

    both : (r : LockRow) → Has r l.rows ⊎ Has r (map (locks.installed c life) rows) → InRange r.client.0
    both r (inl i) = h.rows r i
    both r (inr i) = one r (has_map (locks.installed c life) rows r i)

rising_with : (s : Suspect) (xs : List Suspect) → ((y : Suspect) → Has y xs → y.client.0 ≢ s.client.0) → Rising xs → Rising (authority.with_suspect s xs)
unfolding authority.with_suspect authority.suspect_placed
rising_with s [] d r = record { first = λ y i. absurd i; rest = tt }
rising_with s (x ∷ xs) d r = go (nat_lt s.client.0 x.client.0) refl (rising_with s xs (λ y i. d y (inr i)) r.rest)
  where
    low : nat_lt s.client.0 x.client.0 ≡ true → (y : Suspect) → Has y (x ∷ xs) → s.client.0 < y.client.0
    low e y (inl q) = subst (λ (z : Suspect). s.client.0 < z.client.0) (sym q) (ltb-true s.client.0 x.client.0 e)
    low e y (inr i) = let a = ltb-true s.client.0 x.client.0 e in let b = r.first y i in omega (arith, a, b)

    high : nat_lt s.client.0 x.client.0 ≡ false → (y : Suspect) → (y ≡ s) ⊎ Has y xs → x.client.0 < y.client.0
    high e y (inl q) = subst (λ (z : Suspect). x.client.0 < z.client.0) (sym q) (let a = ltb-false s.client.0 x.client.0 e in
        let b = d x (inl refl) in omega (arith, a, b))
    high e y (inr i) = r.first y i

    go : (b : Bool) → nat_lt s.client.0 x.client.0 ≡ b → Rising (authority.with_suspect s xs) →
        Rising (if b then s ∷ (x ∷ xs) else x ∷ authority.with_suspect s xs)
    go true e f = record { first = low e; rest = r }
    go false e f = record { first = λ y i. high e y (has_suspect s xs y i); rest = f }

rising_filter : (p : Suspect → Bool) (xs : List Suspect) → Rising xs → Rising (filter p xs)
rising_filter p [] r = tt
rising_filter p (x ∷ xs) r = go (p x) (rising_filter p xs r.rest)
  where
    go : (b : Bool) → Rising (filter p xs) → Rising (if b then x ∷ filter p xs else filter p xs)
    go true h = record { first = λ y i. r.first y (has_filter p xs y i).0; rest = h }
    go false h = h

-- sixteen at most
few_rising : (n : ℕ) (xs : List Suspect) → n ≤ 16 → ((x : Suspect) → Has x xs → n < x.client.0) → ((x : Suspect) → Has x xs → x.client.0 ≤ 16) →
    Rising xs → length xs + n ≤ 16
few_rising n [] l f g r = omega (arith, l)
few_rising n (x ∷ xs) l f g r =
    let a = few_rising x.client.0 xs (g x (inl refl)) r.first (λ y i. g y (inr i)) r.rest in let b = f x (inl refl) in omega (arith, a, b)

pub few_timers : (a : Authority) → FewTimers a → length a.suspects ≤ 16
few_timers a h = let z = few_rising 0 a.suspects (omega arith) (λ x i. let b = (h.timers x i).least in
    omega (arith, b)) (λ x i. (h.timers x i).most) h.rising in omega (arith, z)

no_other : (c : ClientId) (xs : List Suspect) → is_some (find (authority.is_suspect c) xs) ≡ false → (y : Suspect) → Has y xs → y.client.0 ≢ c.0
no_other c [] e y i = absurd i
no_other c (x ∷ xs) e y i = go (x.client.0 == c.0) refl e i (λ g j. no_other c xs g y j)
  where
    go : (b : Bool) → (x.client.0 == c.0) ≡ b → is_some (if b then Some x else find (authority.is_suspect c) xs) ≡ false → Has y (x ∷ xs) →
        (is_some (find (authority.is_suspect c) xs) ≡ false → Has y xs → y.client.0 ≢ c.0) → y.client.0 ≢ c.0
    go true f g j k = cc
    go false f g (inl q) k = λ r. clash (sym f ∙ eq-eqb x.client.0 c.0 (ap (λ (z : Suspect). z.client.0) (sym q) ∙ r))
      where
        clash : false ≡ true → ⊥
        clash z = cc
    go false f g (inr j) k = k g j

-- Suspicion.
few_thefts_in_suspect : (t : ServerTurn) (now : Stamp) (c : ClientId) → (FewLocks t.state.locks → InRange c.0) → G t (sv.suspect_client t now c)
unfolding sv.suspect_client authority.suspect authority.start_timer locks.drop_waits
few_thefts_in_suspect t now c n =
    record {
      locks = λ h. fewer_waits t.state.locks (λ w. not (locks.is_wait_by c w)) h;
      timers = λ g h. go (n g) (authority.may_ack t.state.authority c) refl h;
      thefts = let z = weigh_both of_theft t.out (outputs.Note (notes.Suspected c now) ∷ []) in omega (arith, z);
    }
  where
    s : Suspect
    s = authority.new_suspect c now

    one : InRange c.0 → FewTimers t.state.authority → (x : Suspect) → (x ≡ s) ⊎ Has x t.state.authority.suspects → InRange x.client.0
    one k h x (inl e) = subst (λ (y : Suspect). InRange y.client.0) (sym e) k
    one k h x (inr i) = h.timers x i

    go : InRange c.0 → (b : Bool) → authority.may_ack t.state.authority c ≡ b → FewTimers t.state.authority →
        FewTimers (if b then authority.start_timer t.state.authority c now else t.state.authority)
    go k true e h =
        record {
          timers = λ x i. one k h x (has_suspect s t.state.authority.suspects x i);
          rising = rising_with s t.state.authority.suspects (no_other c t.state.authority.suspects
              (not_true (is_some (authority.suspect_of t.state.authority c)) e)) h.rising;
        }
    go k false e h = h

-- Seen demands.
seen_same : (c : ClientId) (ino : ℕ) (g : GrantNo) (r : LockRow) → (locks.observe c ino g r).client ≡ r.client
unfolding locks.answered_row
seen_same c ino g r = go (locks.is_row_of c ino r) (r.g.0 == g.0)
  where
    go : (a b : Bool) → (if a && b then locks.answered_row r else r).client ≡ r.client
    go true true = refl
    go true false = refl
    go false b = refl

few_thefts_in_seen : (t : ServerTurn) (c : ClientId) (ino : ℕ) (g : GrantNo) → G t (sv.with_locks (locks.demand_seen t.state.locks c ino g) t)
unfolding locks.demand_seen
few_thefts_in_seen t c ino g = few_thefts_in_locks t _ (same_rows t.state.locks (locks.observe c ino g) (seen_same c ino g))

-- Demands.
demand_few : (r : LockRow) (d : RowDemand) (l : Locks) → FewLocks l → FewLocks (locks.with_demand r d l)
unfolding locks.demanded
demand_few r d l h = same_rows l (locks.demand_of r.client r.ino d) (λ x. one x (locks.is_row_of r.client r.ino x)) h
  where
    one : (x : LockRow) (b : Bool) → (if b then locks.demanded d x else x).client ≡ x.client
    one x true = refl
    one x false = refl

demand_row_few : (k : Config) (now : Stamp) (tick : Bool) (to : Mode) (o : Option LockRow) (p : locks.Demanding) → FewLocks p.locks →
    FewLocks (locks.demand_row k now tick to o p).locks
unfolding locks.demand_row locks.demand_with
demand_row_few k now tick to None p h = h
demand_row_few k now tick to (Some r) p h = go (locks.demand_now k now tick to r.demand)
  where
    go : (o : Option RowDemand) → FewLocks (locks.demand_with p r o).locks
    go None = h
    go (Some d) = demand_few r d p.locks h

pub demand_clients_few : (k : Config) (now : Stamp) (tick : Bool) (ino : ℕ) (to : Mode) (cs : List ClientId) (p : locks.Demanding) →
    FewLocks p.locks → FewLocks (locks.demand_clients k now tick ino to cs p).locks
unfolding locks.demand_clients
demand_clients_few k now tick ino to [] p h = h
demand_clients_few k now tick ino to (c ∷ cs) p h = demand_clients_few k now tick ino to cs
    (locks.demand_row k now tick to (locks.row_of p.locks c ino) p) (demand_row_few k now tick to (locks.row_of p.locks c ino) p h)

pub demand_for_few : (k : Config) (now : Stamp) (tick : Bool) (ss : List ClientId) (o : Option Waiter) (p : locks.Demanding) → FewLocks p.locks →
    FewLocks (locks.demand_for k now tick ss o p).locks
unfolding locks.demand_for
demand_for_few k now tick ss None p h = h
demand_for_few k now tick ss (Some w) p h = demand_clients_few k now tick w.ino (locks.wish w.mode) (locks.to_demand p.locks ss w) p h

-- What each change of a step keeps, after the thefts.
in_range : (node : ℕ) → sv.is_client_node node ≡ true → InRange node
in_range node e = let z = and_true (nat_le 1 node) (nat_le node 16) e in record { least = leb-true 1 node z.0; most = leb-true node 16 z.1 }

few_thefts_in_ruled : (now : Stamp) (t : ServerTurn) (h : Header) (b : Body) (u : ServerTurn) (r : Body) → InRange h.from → Ruled now t h b u r → G t u
unfolding sv.cut_pages sv.cut_whole locks.drop_file_waits
few_thefts_in_ruled now t h b u r n (edits.Tells _ _ x) = few_thefts_in_nothing t
few_thefts_in_ruled now t h b u r n (edits.Acquires ino mode a f k (AtOnce g x y)) =
    few_thefts_in_locks t _ (granted_few t.state.locks (sv.sender h) (sv.life_in h) ino mode n)
few_thefts_in_ruled now t h b u r n (edits.Acquires ino mode a f k (InTurn g)) =
    few_thefts_in_locks t _ (queued_few t.state.locks (sv.sender h) (sv.life_in h) ino mode n)
few_thefts_in_ruled now t h b u r n (edits.Releases ino g to x e f) = few_thefts_in_locks t _ (released_few t.state.locks (sv.sender h) ino to)
few_thefts_in_ruled now t h b u r n (edits.Allocates ino g p count x f q e) = record { locks = λ h. h; timers = λ g h. h; thefts = refl }
few_thefts_in_ruled now t h b u r n (edits.Cuts ino g p f q) = let z = few_thefts_in_says t (_ ∷ []) refl in
    record { locks = z.locks; timers = z.timers; thefts = z.thefts }
few_thefts_in_ruled now t h b u r n (edits.Creates dir x d e) = record { locks = λ h. h; timers = λ g h. h; thefts = refl }
few_thefts_in_ruled now t h b u r n (edits.MakesDir dir x d e) = record { locks = λ h. h; timers = λ g h. h; thefts = refl }
few_thefts_in_ruled now t h b u r n (edits.Renames dir x dir2 x2 d e) = record { locks = λ h. h; timers = λ g h. h; thefts = refl }
few_thefts_in_ruled now t h b u r n (edits.RemovesDir dir x g ino d l f z e q) = record { locks = λ h. h; timers = λ g h. h; thefts = refl }
few_thefts_in_ruled now t h b u r n (edits.RemovesFile dir x g ino d l f z e q) =
    let w = few_thefts_in_says t (outputs.Note (notes.CutDone (sv.file t d.ino) (page_no 0)) ∷ []) refl in
    record { locks = λ h. fewer_waits t.state.locks (λ w. not (locks.is_wait_on d.ino w)) h; timers = λ g h. h; thefts = w.thefts }

module _ (s : ServerState) (now : Stamp) (i : ServerInput) where
  few_thefts_in_takes : (t u : ServerTurn) → Edit s now i AtInput t u → G t u
  unfolding sv.keep_and_reply locks.drop_waits
  few_thefts_in_takes t u (Welcomes _ m y g e a f) = few_thefts_in_reply t m.header _
  few_thefts_in_takes t u (Begins _ m g f) =
      let v = sv.with_sessions (sessions.with_new_session (sv.sender m.header) (sv.life_in m.header) t.state.sessions) t in
      let z = few_thefts_in_reply v m.header bodies.Welcome in record { locks = z.locks; timers = z.timers; thefts = z.thefts }
  few_thefts_in_takes t u (Replaces _ m y g e a f r) =
      let v = sv.with_locks (locks.drop_waits t.state.locks (sv.sender m.header))
      (sv.with_sessions (sessions.with_new_session (sv.sender m.header) (sv.life_in m.header) t.state.sessions) t) in
      few_thefts_in_sequence t v (sv.reply v m.header bodies.Welcome)
      (record { locks = λ h. fewer_waits t.state.locks (λ w. not (locks.is_wait_by (sv.sender m.header) w)) h; timers = λ g h. h; thefts = refl })
      (few_thefts_in_reply v m.header bodies.Welcome)
  few_thefts_in_takes t u (PutsOff _ m y g e a f r) =
      let v = sv.suspect_client t now (sv.sender m.header) in
      few_thefts_in_sequence t v u (few_thefts_in_suspect t now (sv.sender m.header) (λ h. in_range m.header.from g.heard.came.from))
      (few_thefts_in_reply v m.header _)
  few_thefts_in_takes t u (Sees _ m ino g h b e) = few_thefts_in_seen t (sv.sender m.header) ino g
  few_thefts_in_takes t u (Reasserts _ m rows r on f) =
      let v = sv.with_sessions (sessions.reasserted t.state.sessions (sv.sender m.header) (sv.life_in m.header))
      (sv.with_locks (locks.with_rows t.state.locks (sv.sender m.header) (sv.life_in m.header) rows) t) in
      few_thefts_in_sequence t v u
      (record {
        locks = λ h. installed_few t.state.locks (sv.sender m.header) (sv.life_in m.header) rows (in_range m.header.from r.asked.heard.came.from) h;
        timers = λ g h. h;
        thefts = refl;
      }) (few_thefts_in_reply v m.header bodies.Reasserted)
  few_thefts_in_takes t u (Serves _ m v b y e r) =
      let w = sv.with_sessions (sessions.store v.state.sessions (sv.sender m.header) m.header.number b) v in
      let z = few_thefts_in_reply w m.header b in
      few_thefts_in_sequence t v u (few_thefts_in_ruled now t m.header m.body v b (in_range m.header.from y.asked.heard.came.from) r)
      (record { locks = z.locks; timers = z.timers; thefts = z.thefts })
  few_thefts_in_takes t u (Repeats _ m y b a e f g k) = few_thefts_in_reply t m.header b
  few_thefts_in_takes t u (Refuses _ m b r) = few_thefts_in_reply t m.header b

  few_thefts_in_suspects : (t u : ServerTurn) → Edit s now i AtSuspicion t u → G t u
  few_thefts_in_suspects t u (Suspects _ c r is q f h e o) = few_thefts_in_suspect t now c (λ k. subst (λ (d : ClientId). InRange d.0) e (k.rows r h))

  few_thefts_in_grants : (t u : ServerTurn) → Edit s now i AtGrants t u → G t u
  few_thefts_in_grants t u (Grants _ w off h e f) =
      let v = sv.with_locks (locks.grant t.state.locks w.client w.life w.ino w.mode) t in
      few_thefts_in_sequence t v u (few_thefts_in_locks t _ (λ k. granted_few t.state.locks w.client w.life w.ino w.mode (k.waits w h) k))
      (few_thefts_in_tell v w.client w.life _)

  few_thefts_in_demands : (t u : ServerTurn) → Edit s now i AtDemands t u → G t u
  few_thefts_in_demands t u (Demands _ w r x e h f o d) =
      let v = sv.with_locks (locks.with_demand r x t.state.locks) t in
      few_thefts_in_sequence t v u (few_thefts_in_locks t _ (demand_few r x t.state.locks)) (few_thefts_in_tell v r.client r.life _)

-- The step, from the thefts to the demands.
module _ (s : ServerState) (now : Stamp) where
  abbrev begun : ServerTurn
  begun = sv.thefts (sv.turn s []) now

  pub before_demands : (i : ServerInput) → G begun (sv.granting (sv.suspecting_on (sv.take_input begun now i) now i) now)
  unfolding sv.take_input sv.suspecting_on
  before_demands Tick =
      walk_of_granting s now Tick (G begun) (λ t u e g. few_thefts_in_sequence begun t u g (few_thefts_in_grants s now Tick t u e)) _
      (walk_of_suspecting s now Tick (G begun) (λ t u e g. few_thefts_in_sequence begun t u g (few_thefts_in_suspects s now Tick t u e)) begun refl
      (thefts_begun s now).quiet (few_thefts_in_nothing begun))
  before_demands (Control m) =
      walk_of_granting s now (Control m) (G begun) (λ t u e g. few_thefts_in_sequence begun t u g (few_thefts_in_grants s now (Control m) t u e)) _
      (walk_of_input s now (Control m) (G begun) (G begun) (λ t g. g)
      (λ t u e g. few_thefts_in_sequence begun t u g (few_thefts_in_takes s now (Control m) t u e)) (few_thefts_in_nothing begun))

-- Thefts: one for each timer that is over.
pub record Stolen (n : ℕ) (t u : ServerTurn) : Type 0 where
  pub locks : FewLocks t.state.locks → FewLocks u.state.locks
  pub timers : u.state.authority ≡ t.state.authority
  pub thefts : weigh of_theft u.out ≤ n + weigh of_theft t.out

stolen_one : (t : ServerTurn) (c : ClientId) (o : Option Session) → Stolen 1 t (sv.steal_at t c o)
unfolding sv.steal_at sv.steal_from locks.forget
stolen_one t c None = record { locks = λ h. h; timers = refl; thefts = omega arith }
stolen_one t c (Some s) =
    record {
      locks = λ h. fewer_locks t.state.locks (λ r. not (locks.is_row_by c r)) (λ w. not (locks.is_wait_by c w)) h;
      timers = refl;
      thefts = let z = weigh_both of_theft t.out (outputs.Note (notes.Stolen c s.life) ∷ []) in omega (arith, z);
    }

pub stolen_each : (cs : List ClientId) (t : ServerTurn) → Stolen (length cs) t (sv.steal_each cs t)
unfolding sv.steal_each sv.steal
stolen_each [] t = record { locks = λ h. h; timers = refl; thefts = omega arith }
stolen_each (c ∷ cs) t =
    let x = stolen_one t c (sessions.session_of t.state.sessions c) in
    let y = stolen_each cs (sv.steal t c) in
    let a = x.thefts in let b = y.thefts in
    record { locks = λ h. y.locks (x.locks h); timers = y.timers ∙ x.timers; thefts = omega (arith, a, b) }

-- What holds of a server.
pub record FewClients (s : ServerState) : Type 0 where
  pub locks : FewLocks s.locks
  pub timers : FewTimers s.authority

-- a whole step: it holds again, and at most sixteen thefts were noted
pub record StepsFew (s : ServerState) (u : ServerTurn) : Type 0 where
  pub clients : FewClients u.state
  pub thefts : weigh of_theft u.out ≤ 16

pub step_few : (s : ServerState) (now : Stamp) (i : ServerInput) → FewClients s → StepsFew s (sv.server_step s now i)
unfolding sv.server_step sv.thefts authority.over authority.still_running
step_few s now i h =
    record {
      clients = record { locks = passes.locks locks_a; timers = passes.timers locks_a timers_a };
      thefts =
          let a = stolen.thefts in let d = passes.thefts in
          let e = filtered_no_longer (authority.is_over s.authority.wait now) s.authority.suspects in
          let f = length_map authority.client_of_suspect (filter (authority.is_over s.authority.wait now) s.authority.suspects) in
          let g = few_timers s.authority h.timers in
          omega (arith, a, d, e, f, g);
    }
  where
    start : ServerTurn
    start = sv.with_authority (authority.still_running s.authority now) (sv.turn s [])

    a : ServerTurn
    a = sv.thefts (sv.turn s []) now

    stolen : Stolen (length (authority.over s.authority now)) start a
    stolen = stolen_each (authority.over s.authority now) start

    locks_a : FewLocks a.state.locks
    locks_a = stolen.locks h.locks

    timers_a : FewTimers a.state.authority
    timers_a =
        subst FewTimers (sym stolen.timers)
        (record {
          timers = λ x j. h.timers.timers x (has_filter (λ s. not (authority.is_over h_wait now s)) s.authority.suspects x j).0;
          rising = rising_filter (λ s. not (authority.is_over h_wait now s)) s.authority.suspects h.timers.rising;
        })
      where
        h_wait : ℕ
        h_wait = s.authority.wait

    passes : G a (sv.demanding (sv.granting (sv.suspecting_on (sv.take_input a now i) now i) now) now i)
    passes = walk_of_demanding s now i (G a) (λ t u e g. few_thefts_in_sequence a t u g (few_thefts_in_demands s now i t u e)) _ (before_demands s now i)
