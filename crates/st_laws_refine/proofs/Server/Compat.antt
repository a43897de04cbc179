-- Rows of one file are compatible, through a whole step of a server.
use Rattle.st_lemmas.proofs.Words
use Words.{◌≡◌, ◌≢◌, ℕ, ◌≤◌, ◌⊎◌, Bool, true, false, ◌&&◌, List, [], ◌∷◌, ◌==◌, refl, sym, ap, ◌∙◌, subst, inl, inr, arith, not, find, filter, map, Option}
use Words.{Some, None, option_map, list_any, ne_eqb, eqb-true, ClientId, GrantNo, Life, Stamp, Mode, ServerInput, LockRow, RowDemand, Waiter}
use Words.modes
use Words.Keys.{client}
use Words.Locks as locks
use Words.Locks.{Locks, is_row_of, row_of, is_wait_by, is_wait_on, stands_against, client_of_row, grant, new_row, queue, wait_of, wait_for, lowered, release_to}
use Words.Locks.{observe, answered_row, demanded, demand_of, with_demand, installed, with_rows, holder_against, conflict_or, first_conflict}
use Words.Server.{ServerState, server_step}
use Words.Lists.{Has}
use Words.Tables.{same_or_not, and_true, and_both, cond_either, find_map, find_own, find_gone, found_at, has_filter, has_filter_in, has_map, has_map_in}
use Words.Tables.{none_passes}
use Words.Serving.{released_waits}
use Rattle.std.specs.Option.{option_or}
use Rattle.std.proofs.lemmas.List.Folds.{find-append}
use Rattle.st_base.specs.Mode.{number_of, conflicts}
use Rattle.st_laws_refine.proofs.Server.Changes.{forget_row, forget_own, forget_wait, grant_other, grant_elsewhere, grant_own, grant_wait}
use Rattle.st_laws_refine.proofs.Server.Reasserting.{least_none}
use Rattle.st_laws_refine.proofs.Server.Locking.{QueuedWait, Old, New, Raised, queue_rows, queue_waits, raised_mode, released_other, released_elsewhere}
use Rattle.st_laws_refine.specs.Server.Invariants.{Compat}
use Rattle.st_laws_refine.specs.Server.Edits.{AllSome, WishInput}
use Rattle.st_laws_refine.proofs.Server.Table.{Wanted, Closed, step_locks}

turned : (m n : Mode) → conflicts m n ≡ conflicts n m
turned modes.None modes.None = refl
turned modes.None modes.S = refl
turned modes.None modes.X = refl
turned modes.S modes.None = refl
turned modes.S modes.S = refl
turned modes.S modes.X = refl
turned modes.X modes.None = refl
turned modes.X modes.S = refl
turned modes.X modes.X = refl

-- a mode that is the same, or shared
abbrev Below : Mode → Mode → Type 0
Below m n = (m ≡ n) ⊎ (m ≡ modes.S)

shared_fits : (m n : Mode) → 1 ≤ number_of m → 1 ≤ number_of n → conflicts m n ≡ false → conflicts modes.S n ≡ false
shared_fits modes.None n a b e = absurd (omega arith)
shared_fits modes.S n a b e = e
shared_fits modes.X modes.None a b e = refl
shared_fits modes.X modes.S a b e = refl
shared_fits modes.X modes.X a b e = cc

below_fits : (m2 m n : Mode) → Below m2 m → 1 ≤ number_of m → 1 ≤ number_of n → conflicts m n ≡ false → conflicts m2 n ≡ false
below_fits m2 m n (inl e) a b f = ap (λ x. conflicts x n) e ∙ f
below_fits m2 m n (inr e) a b f = ap (λ x. conflicts x n) e ∙ shared_fits m n a b f

below_some : (m2 m : Mode) → Below m2 m → 1 ≤ number_of m → 1 ≤ number_of m2
below_some m2 m (inl e) a = subst (λ x. 1 ≤ number_of x) (sym e) a
below_some m2 m (inr e) a = subst (λ x. 1 ≤ number_of x) (sym e) (omega arith)

-- a table whose rows were there, in these modes or shared
abbrev FromOld : Locks → Locks → Type 0
FromOld l v = (c : ClientId) (i : ℕ) (r : LockRow) → row_of v c i ≡ Some r → (q : LockRow) × (row_of l c i ≡ Some q) × Below r.mode q.mode

smaller : (l v : Locks) → FromOld l v → ((w : Waiter) → Has w v.waiters → 1 ≤ number_of w.mode) → Compat l → Compat v
smaller l v f ws k =
    record {
      rows = λ c i r e. let o = f c i r e in below_some r.mode o.0.mode o.2 (k.rows c i o.0 o.1);
      waits = ws;
      fits = λ c d i r q ne e g.
          let o = f c i r e in let p = f d i q g in
          let a = k.rows c i o.0 o.1 in let b = k.rows d i p.0 p.1 in
          let x = below_fits r.mode o.0.mode p.0.mode o.2 a b (k.fits c d i o.0 p.0 ne o.1 p.1) in
          let y = below_fits q.mode p.0.mode r.mode p.2 b (below_some r.mode o.0.mode o.2 a) (turned p.0.mode r.mode ∙ x) in turned r.mode q.mode ∙ y;
    }

mapped : (f : LockRow → LockRow) (o : Option LockRow) (r : LockRow) → option_map f o ≡ Some r → (q : LockRow) × (o ≡ Some q) × (f q ≡ r)
mapped f None r e = cc
mapped f (Some q) r e = (q, refl, some_is (f q) r e)
  where
    some_is : (x y : LockRow) → ◌≡◌ {A = Option LockRow} (Some x) (Some y) → x ≡ y
    some_is x y e = ap value e
      where
        value : Option LockRow → LockRow
        value None = x
        value (Some z) = z

same_rows : (l v : Locks) → v.rows ≡ l.rows → FromOld l v
same_rows l v e c i r f = (r, ap (find (is_row_of c i)) (sym e) ∙ f, inl refl)

compatible_after_forget : (l : Locks) (c : ClientId) → Compat l → Compat (locks.forget l c)
compatible_after_forget l c k = smaller l (locks.forget l c) (λ d i r e. go d i r e (same_or_not c.0 d.0)) (λ w h. k.waits w (forget_wait l c w h).0) k
  where
    go : (d : ClientId) (i : ℕ) (r : LockRow) → row_of (locks.forget l c) d i ≡ Some r → (c.0 ≡ d.0) ⊎ (c.0 ≢ d.0) → (q : LockRow) × (row_of l d i ≡ Some q) × Below r.mode q.mode
    go d i r e (inl f) = let z = forget_own l c d.0 i f in cc
    go d i r e (inr ne) = (r, sym (forget_row l c d.0 i ne) ∙ e, inl refl)

compatible_after_seen : (l : Locks) (c : ClientId) (ino : ℕ) (g : GrantNo) → Compat l → Compat (locks.demand_seen l c ino g)
unfolding locks.demand_seen answered_row
compatible_after_seen l c ino g k =
    smaller l (locks.demand_seen l c ino g)
    (λ d i r e. let m = mapped (observe c ino g) (row_of l d i) r (sym (find_map (is_row_of d i) (observe c ino g) (λ x. cond_either (λ z. is_row_of d i z ≡ is_row_of d i x) (is_row_of c ino x && (x.g.0 == g.0)) (answered_row x) x (λ e. refl) (λ e. refl)) l.rows) ∙ e) in
    (m.0, m.1, inl (ap (λ (r : LockRow). r.mode) (sym m.2) ∙ same m.0))) k.waits k
  where
    same : (x : LockRow) → (observe c ino g x).mode ≡ x.mode
    same x = cond_either (λ (z : LockRow). z.mode ≡ x.mode) (is_row_of c ino x && (x.g.0 == g.0)) (answered_row x) x (λ e. refl) (λ e. refl)

compatible_after_demanded : (l : Locks) (r : LockRow) (x : RowDemand) → Compat l → Compat (with_demand r x l)
unfolding demanded
compatible_after_demanded l r0 x k =
    smaller l (with_demand r0 x l)
    (λ d i r e. let m = mapped (demand_of r0.client r0.ino x) (row_of l d i) r (sym (find_map (is_row_of d i) (demand_of r0.client r0.ino x) (λ y. cond_either (λ z. is_row_of d i z ≡ is_row_of d i y) (is_row_of r0.client r0.ino y) (demanded x y) y (λ e. refl) (λ e. refl)) l.rows) ∙ e) in
    (m.0, m.1, inl (ap (λ (r : LockRow). r.mode) (sym m.2) ∙ same m.0))) k.waits k
  where
    same : (y : LockRow) → (demand_of r0.client r0.ino x y).mode ≡ y.mode
    same y = cond_either (λ (z : LockRow). z.mode ≡ y.mode) (is_row_of r0.client r0.ino y) (demanded x y) y (λ e. refl) (λ e. refl)

compatible_after_queued : (l : Locks) (c : ClientId) (life : Life) (ino : ℕ) (mode : Mode) → 1 ≤ number_of mode → Compat l → Compat (queue l c life ino mode)
unfolding queue wait_for
compatible_after_queued l c life ino mode some k =
    smaller l (queue l c life ino mode) (same_rows l (queue l c life ino mode) (queue_rows l c life ino mode (wait_of l c ino))) (λ w h. go w (queue_waits l c life ino mode (wait_of l c ino) w h)) k
  where
    go : (w : Waiter) → QueuedWait l c life ino mode w → 1 ≤ number_of w.mode
    go w (Old i) = k.waits w i
    go w (New e) = subst (λ (w : Waiter). 1 ≤ number_of w.mode) (sym e) some
    go w (Raised v i f e) = subst (λ (w : Waiter). 1 ≤ number_of w.mode) (sym e) (let a = k.waits v i in let b = raised_mode v.mode mode in omega arith)

released_row : (l : Locks) (c : ClientId) (ino : ℕ) (to : Mode) (r : LockRow) → row_of (release_to l c ino to) c ino ≡ Some r → (q : LockRow) × (row_of l c ino ≡ Some q) × Below r.mode q.mode
unfolding release_to lowered
released_row l c ino modes.None r e = let z = find_gone (is_row_of c ino) (λ r. not (is_row_of c ino r)) (λ r h. ap not h) l.rows in cc
released_row l c ino modes.S r e = let m = mapped lowered (row_of l c ino) r (sym (find_own (is_row_of c ino) (is_row_of c ino) lowered (λ r. refl) (λ r h. h) l.rows) ∙ e) in (m.0, m.1, inr (ap (λ (r : LockRow). r.mode) (sym m.2)))
released_row l c ino modes.X r e = let m = mapped lowered (row_of l c ino) r (sym (find_own (is_row_of c ino) (is_row_of c ino) lowered (λ r. refl) (λ r h. h) l.rows) ∙ e) in (m.0, m.1, inr (ap (λ (r : LockRow). r.mode) (sym m.2)))

compatible_after_released : (l : Locks) (c : ClientId) (ino : ℕ) (to : Mode) → Compat l → Compat (release_to l c ino to)
compatible_after_released l c ino to k = smaller l (release_to l c ino to) (λ d i r e. go d i r e (same_or_not c.0 d.0) (same_or_not i ino)) (λ w h. k.waits w (subst (λ ws. Has w ws) (released_waits l c ino to) h)) k
  where
    T : ClientId → ℕ → LockRow → Type 0
    T d i r = row_of (release_to l c ino to) d i ≡ Some r → (q : LockRow) × (row_of l d i ≡ Some q) × Below r.mode q.mode

    go : (d : ClientId) (i : ℕ) (r : LockRow) → row_of (release_to l c ino to) d i ≡ Some r → (c.0 ≡ d.0) ⊎ (c.0 ≢ d.0) → (i ≡ ino) ⊎ (i ≢ ino) → (q : LockRow) × (row_of l d i ≡ Some q) × Below r.mode q.mode
    go d i r e (inr ne) x = (r, sym (released_other l c ino to d.0 i ne) ∙ e, inl refl)
    go d i r e (inl f) (inl g) = subst (λ n. T (client n) i r) f (subst (λ i. T c i r) (sym g) (λ e. released_row l c ino to r e)) e
    go d i r e (inl f) (inr ne) = subst (λ n. T (client n) i r) f (λ e. (r, sym (released_elsewhere l c ino to i ne) ∙ e, inl refl)) e

-- a grant that nobody's row conflicts with
compatible_after_granted : (l : Locks) (c : ClientId) (life : Life) (ino : ℕ) (mode : Mode) → Wanted l mode → list_any (stands_against c ino mode) l.rows ≡ false → Compat l → Compat (grant l c life ino mode)
compatible_after_granted l c life ino mode want free k =
    record {
      rows = λ d i r e. row_some d i r e (place d i);
      waits = λ w h. k.waits w (grant_wait l c life ino mode w h).0;
      fits = λ d e i r q ne x y. both d e i r q ne x y (place d i) (place e i);
    }
  where
    v : Locks
    v = grant l c life ino mode

    some : 1 ≤ number_of mode
    some = wanted want
      where
        wanted : Wanted l mode → 1 ≤ number_of mode
        wanted (inl h) = h
        wanted (inr h) = subst (λ m. 1 ≤ number_of m) h.2 (k.waits h.0 h.1)

    -- the new row, or another
    place : (d : ClientId) (i : ℕ) → ((row_of v d i ≡ Some (new_row l c life ino mode)) × (c.0 ≡ d.0) × (i ≡ ino)) ⊎ (row_of v d i ≡ row_of l d i)
    place d i = go (same_or_not c.0 d.0) (same_or_not i ino)
      where
        go : (c.0 ≡ d.0) ⊎ (c.0 ≢ d.0) → (i ≡ ino) ⊎ (i ≢ ino) → ((row_of v d i ≡ Some (new_row l c life ino mode)) × (c.0 ≡ d.0) × (i ≡ ino)) ⊎ (row_of v d i ≡ row_of l d i)
        go (inr ne) x = inr (grant_other l c life ino mode d.0 i ne)
        go (inl f) (inr ne) = inr (grant_elsewhere l c life ino mode d.0 i ne)
        go (inl f) (inl g) = inl (subst (λ n. row_of v (client n) i ≡ Some (new_row l c life ino mode)) f (subst (λ i. row_of v c i ≡ Some (new_row l c life ino mode)) (sym g) (grant_own l c life ino mode)), f, g)

    some_is : (x y : LockRow) → ◌≡◌ {A = Option LockRow} (Some x) (Some y) → x ≡ y
    some_is x y e = ap value e
      where
        value : Option LockRow → LockRow
        value None = x
        value (Some z) = z

    mode_is : (d : ClientId) (i : ℕ) (r : LockRow) → row_of v d i ≡ Some r → row_of v d i ≡ Some (new_row l c life ino mode) → r.mode ≡ mode
    mode_is d i r e f = ap (λ (r : LockRow). r.mode) (some_is r (new_row l c life ino mode) (sym e ∙ f))

    row_some : (d : ClientId) (i : ℕ) (r : LockRow) → row_of v d i ≡ Some r → ((row_of v d i ≡ Some (new_row l c life ino mode)) × (c.0 ≡ d.0) × (i ≡ ino)) ⊎ (row_of v d i ≡ row_of l d i) → 1 ≤ number_of r.mode
    row_some d i r e (inl f) = subst (λ m. 1 ≤ number_of m) (sym (mode_is d i r e f.0)) some
    row_some d i r e (inr f) = k.rows d i r (sym f ∙ e)

    -- an old row of another client on that file
    against : (d : ClientId) (r : LockRow) → c.0 ≢ d.0 → row_of l d ino ≡ Some r → conflicts r.mode mode ≡ false
    against d r ne e =
        let p = found_at (is_row_of d ino) l.rows r e in let q = and_true (r.client.0 == d.0) _ p.0 in
        let z = none_passes (stands_against c ino mode) l.rows free r p.1 in
        go (conflicts r.mode mode) refl q.1 (ne_eqb r.client.0 c.0 (λ f. ne (sym f ∙ eqb-true r.client.0 d.0 q.0))) z
      where
        go : (b : Bool) → conflicts r.mode mode ≡ b → (r.ino == ino) ≡ true → (r.client.0 == c.0) ≡ false → ((r.ino == ino) && (not (r.client.0 == c.0) && conflicts r.mode mode)) ≡ false → conflicts r.mode mode ≡ false
        go false f x y z = f
        go true f x y z = let w = and_both (r.ino == ino) (not (r.client.0 == c.0) && conflicts r.mode mode) x (and_both (not (r.client.0 == c.0)) (conflicts r.mode mode) (ap not y) f) in cc

    both : (d e : ClientId) (i : ℕ) (r q : LockRow) → d.0 ≢ e.0 → row_of v d i ≡ Some r → row_of v e i ≡ Some q → ((row_of v d i ≡ Some (new_row l c life ino mode)) × (c.0 ≡ d.0) × (i ≡ ino)) ⊎ (row_of v d i ≡ row_of l d i) →
        ((row_of v e i ≡ Some (new_row l c life ino mode)) × (c.0 ≡ e.0) × (i ≡ ino)) ⊎ (row_of v e i ≡ row_of l e i) → conflicts r.mode q.mode ≡ false
    both d e i r q ne x y (inl f) (inl g) = absurd (ne (sym f.1 ∙ g.1))
    both d e i r q ne x y (inl f) (inr g) =
        ap (λ m. conflicts m q.mode) (mode_is d i r x f.0) ∙ turned mode q.mode ∙ against e q (λ z. ne (sym f.1 ∙ z)) (subst (λ i. row_of l e i ≡ Some q) f.2 (sym g ∙ y))
    both d e i r q ne x y (inr f) (inl g) =
        ap (λ m. conflicts r.mode m) (mode_is e i q y g.0) ∙ against d r (λ z. ne (sym z ∙ g.1)) (subst (λ i. row_of l d i ≡ Some r) g.2 (sym f ∙ x))
    both d e i r q ne x y (inr f) (inr g) = k.fits d e i r q ne (sym f ∙ x) (sym g ∙ y)

-- rows that are installed if none conflicts
none_first : (l : Locks) (c : ClientId) (rest : Option (ℕ × ClientId)) (ino : ℕ) (o : Option ClientId) → conflict_or rest ino o ≡ None → (rest ≡ None) × (o ≡ None)
unfolding conflict_or
none_first l c rest ino None e = (e, refl)
none_first l c rest ino (Some x) e = cc

none_against : (l : Locks) (c : ClientId) (rs : List (ℕ × GrantNo × Mode)) → first_conflict l c rs ≡ None → (x : ℕ × GrantNo × Mode) → Has x rs → holder_against l c x.0 x.2 ≡ None
unfolding first_conflict
none_against l c [] e x h = elim h [ ]
none_against l c (y ∷ rs) e x (inl f) = subst (λ (y : ℕ × GrantNo × Mode). holder_against l c y.0 y.2 ≡ None) (sym f) (none_first l c (first_conflict l c rs) y.0 (holder_against l c y.0 y.2) e).1
none_against l c (y ∷ rs) e x (inr i) = none_against l c rs (none_first l c (first_conflict l c rs) y.0 (holder_against l c y.0 y.2) e).0 x i

no_client : (o : Option ℕ) → option_map client o ≡ None → o ≡ None
no_client None e = refl
no_client (Some x) e = cc

compatible_after_installed : (l : Locks) (c : ClientId) (life : Life) (rs : List (ℕ × GrantNo × Mode)) → AllSome rs → first_conflict l c rs ≡ None → Compat l → Compat (with_rows l c life rs)
unfolding with_rows
compatible_after_installed l c life rs some free k =
    record {
      rows = λ d i r e. row_some d i r (place d i r e);
      waits = k.waits;
      fits = λ d e i r q ne x y. both d e i r q ne (place d i r x) (place e i q y);
    }
  where
    NewRow : ClientId → ℕ → LockRow → Type 0
    NewRow d i r = (c.0 ≡ d.0) × (x : ℕ × GrantNo × Mode) × Has x rs × (r ≡ installed c life x) × (x.0 ≡ i)

    place : (d : ClientId) (i : ℕ) (r : LockRow) → row_of (with_rows l c life rs) d i ≡ Some r → (row_of l d i ≡ Some r) ⊎ NewRow d i r
    place d i r e = go (row_of l d i) refl (sym (find-append (is_row_of d i) l.rows (map (installed c life) rs)) ∙ e)
      where
        go : (o : Option LockRow) → row_of l d i ≡ o → option_or (find (is_row_of d i) l.rows) (find (is_row_of d i) (map (installed c life) rs)) ≡ Some r → (row_of l d i ≡ Some r) ⊎ NewRow d i r
        go (Some q) f g = inl (f ∙ (sym (ap (λ o. option_or o (find (is_row_of d i) (map (installed c life) rs))) f) ∙ g))
        go None f g =
            let p = found_at (is_row_of d i) (map (installed c life) rs) r (sym (ap (λ o. option_or o (find (is_row_of d i) (map (installed c life) rs))) f) ∙ g) in
            let m = has_map (installed c life) rs r p.1 in
            let q = and_true (r.client.0 == d.0) _ p.0 in
            inr (ap (λ (r : LockRow). r.client.0) (sym m.2) ∙ eqb-true r.client.0 d.0 q.0, m.0, m.1, m.2, ap (λ (r : LockRow). r.ino) (sym m.2) ∙ eqb-true r.ino i q.1)

    row_some : (d : ClientId) (i : ℕ) (r : LockRow) → (row_of l d i ≡ Some r) ⊎ NewRow d i r → 1 ≤ number_of r.mode
    row_some d i r (inl e) = k.rows d i r e
    row_some d i r (inr n) = subst (λ (r : LockRow). 1 ≤ number_of r.mode) (sym n.3) (some n.1 n.2)

    -- an old row of another client on the file of a new one
    against : (d : ClientId) (x : ℕ × GrantNo × Mode) (q : LockRow) → Has x rs → c.0 ≢ d.0 → row_of l d x.0 ≡ Some q → conflicts q.mode x.2 ≡ false
    against d x q h ne e =
        let p = found_at (is_row_of d x.0) l.rows q e in let b = and_true (q.client.0 == d.0) _ p.0 in
        go (conflicts q.mode x.2) refl p.1 b.1 (ne_eqb q.client.0 c.0 (λ f. ne (sym f ∙ eqb-true q.client.0 d.0 b.0)))
      where
        go : (b : Bool) → conflicts q.mode x.2 ≡ b → Has q l.rows → (q.ino == x.0) ≡ true → (q.client.0 == c.0) ≡ false → conflicts q.mode x.2 ≡ false
        go false f i y z = f
        go true f i y z =
            absurd (least_none (map client_of_row (filter (stands_against c x.0 x.2) l.rows)) (no_client _ (none_against l c rs free x h)) q.client.0
            (has_map_in client_of_row (filter (stands_against c x.0 x.2) l.rows) q (has_filter_in (stands_against c x.0 x.2) l.rows q i (and_both _ _ y (and_both _ _ (ap not z) f)))))

    both : (d e : ClientId) (i : ℕ) (r q : LockRow) → d.0 ≢ e.0 → (row_of l d i ≡ Some r) ⊎ NewRow d i r → (row_of l e i ≡ Some q) ⊎ NewRow e i q → conflicts r.mode q.mode ≡ false
    both d e i r q ne (inl x) (inl y) = k.fits d e i r q ne x y
    both d e i r q ne (inr x) (inr y) = absurd (ne (sym x.0 ∙ y.0))
    both d e i r q ne (inr x) (inl y) =
        ap (λ (r : LockRow). conflicts r.mode q.mode) x.3 ∙ turned x.1.2 q.mode ∙ against e x.1 q x.2 (λ z. ne (sym x.0 ∙ z)) (subst (λ i. row_of l e i ≡ Some q) (sym x.4) y)
    both d e i r q ne (inl x) (inr y) =
        ap (λ (q : LockRow). conflicts r.mode q.mode) y.3 ∙ against d y.1 r y.2 (λ z. ne (sym z ∙ y.0)) (subst (λ i. row_of l d i ≡ Some r) (sym y.4) x)

compatible_after_drop : (l : Locks) (c : ClientId) → Compat l → Compat (locks.drop_waits l c)
unfolding locks.drop_waits
compatible_after_drop l c k = record { rows = k.rows; waits = λ w h. k.waits w (has_filter (λ w. not (is_wait_by c w)) l.waiters w h).0; fits = k.fits }

compatible_after_file : (l : Locks) (ino : ℕ) → Compat l → Compat (locks.drop_file_waits l ino)
unfolding locks.drop_file_waits
compatible_after_file l ino k = record { rows = k.rows; waits = λ w h. k.waits w (has_filter (λ w. not (is_wait_on ino w)) l.waiters w h).0; fits = k.fits }

compat_closed : Closed Compat
compat_closed = record { forget = compatible_after_forget; drop = compatible_after_drop; drop_file = compatible_after_file; seen = compatible_after_seen; install = compatible_after_installed; granted = compatible_after_granted; queued = compatible_after_queued; released = compatible_after_released; demanded = compatible_after_demanded }

-- a whole step keeps rows compatible
pub compat_step : (n : ServerState) (now : Stamp) (i : ServerInput) → WishInput i → Compat n.locks → Compat (server_step n now i).state.locks
compat_step n now i w k = step_locks Compat compat_closed n now i w k
