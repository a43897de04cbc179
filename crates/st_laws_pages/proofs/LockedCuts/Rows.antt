-- The lock table: nobody waits for a file of which it has an exclusive row, through each change of the table; and an exclusive row stays
-- while locks are granted and demanded.
use Rattle.st_lemmas.proofs.Words
use Words.{◌≡◌, ℕ, ◌⊎◌, Bool, true, false, not, ◌&&◌, List, [], ◌∷◌, ◌++◌, ◌==◌, Option, Some, None, refl, sym, ap, ◌∙◌, subst, inl, inr, if◌then◌else◌, find}
use Words.{filter, map, option_map, eqb-true, eq-eqb, ClientId, GrantNo, Life, Mode, LockRow, RowDemand, Waiter}
use Words.modes
use Words.Keys.{same_client}
use Words.Locks as locks
use Words.Locks.{Locks, is_row_of, is_wait_of, row_of}
use Words.Lists.{Has}
use Words.Lookups.{some_is}
use Words.Tables.{and_true, and_both, not_true, has_filter, has_append, has_map, find_kept, find_gone, find_map}
use Words.Truth.{not_both}
use Rattle.st_lemmas.proofs.Puts.{find_put_other}
use Rattle.st_laws_pages.specs.LockedCuts.CutLocks.{WaitsApart, IsHeld}

-- Two keys: a client and a file.
abbrev is_key : ClientId → ℕ → ClientId → ℕ → Bool
is_key c i d j = same_client c d && (i == j)

key_is : (c : ClientId) (i : ℕ) (d : ClientId) (j : ℕ) → is_key c i d j ≡ true → (c ≡ d) × (i ≡ j)
key_is c i d j e = let z = and_true (same_client c d) (i == j) e in (ap (λ n. record { 0 = n }) (eqb-true c.0 d.0 z.0), eqb-true i j z.1)

key_self : (c : ClientId) (i : ℕ) → is_key c i c i ≡ true
key_self c i = and_both (same_client c c) (i == i) (eq-eqb c.0 c.0 refl) (eq-eqb i i refl)

-- one that is of a key is of no other
key_other : (c : ClientId) (i : ℕ) (d : ClientId) (j : ℕ) → is_key c i d j ≡ false → (r : LockRow) → is_row_of c i r ≡ true → is_row_of d j r ≡ false
key_other c i d j n r e = go (is_row_of d j r) refl
  where
    go : (b : Bool) → is_row_of d j r ≡ b → b ≡ false
    go false q = refl
    go true q =
        let x = key_is r.client r.ino c i e in
        let y = key_is r.client r.ino d j q in
        absurd (not_both (is_key c i d j) (subst (λ z. is_key z i d j ≡ true) x.0 (subst (λ z. is_key r.client z d j ≡ true) x.1 q)) n)

key_turned : (c : ClientId) (i : ℕ) (d : ClientId) (j : ℕ) → is_key c i d j ≡ false → is_key d j c i ≡ false
key_turned c i d j n = go (is_key d j c i) refl
  where
    go : (b : Bool) → is_key d j c i ≡ b → b ≡ false
    go false q = refl
    go true q = let x = key_is d j c i q in
        absurd (not_both (is_key c i d j) (subst (λ z. is_key z i d j ≡ true) x.0 (subst (λ z. is_key d z d j ≡ true) x.1 (key_self d j))) n)

-- Fewer waits.
waits_fewer : (l : Locks) (ws : List Waiter) → ((w : Waiter) → Has w ws → Has w l.waiters) → WaitsApart l → WaitsApart (record l { waiters = ws })
waits_fewer l ws f h = λ w i r e x. h w (f w i) r e x

pub drop_apart : (l : Locks) (c : ClientId) → WaitsApart l → WaitsApart (locks.drop_waits l c)
unfolding locks.drop_waits
drop_apart l c h = waits_fewer l _ (λ w i. (has_filter (λ x. not (locks.is_wait_by c x)) l.waiters w i).0) h

pub file_apart : (l : Locks) (ino : ℕ) → WaitsApart l → WaitsApart (locks.drop_file_waits l ino)
unfolding locks.drop_file_waits
file_apart l ino h = waits_fewer l _ (λ w i. (has_filter (λ x. not (locks.is_wait_on ino x)) l.waiters w i).0) h

-- A client is forgotten.
pub forget_apart : (l : Locks) (c : ClientId) → WaitsApart l → WaitsApart (locks.forget l c)
unfolding locks.forget
forget_apart l c h = λ w i r e x. let z = has_filter (λ y. not (locks.is_wait_by c y)) l.waiters w i in
    h w z.0 r (sym (kept w (not_true (same_client w.client c) z.1)) ∙ e) x
  where
    kept : (w : Waiter) → same_client w.client c ≡ false →
        find (is_row_of w.client w.ino) (filter (λ y. not (locks.is_row_by c y)) l.rows) ≡ find (is_row_of w.client w.ino) l.rows
    kept w n = find_kept (is_row_of w.client w.ino) (λ y. not (locks.is_row_by c y)) (λ y q. ap not
        (ap (λ d. same_client d c) (key_is y.client y.ino w.client w.ino q).0 ∙ n)) l.rows

-- Rows that change, each of the same client and file, and exclusive only if it was.
record SameKeys (f : LockRow → LockRow) : Type 0 where
  pub client : (r : LockRow) → (f r).client ≡ r.client
  pub ino : (r : LockRow) → (f r).ino ≡ r.ino
  pub exclusive : (r : LockRow) → (f r).mode ≡ modes.X → r.mode ≡ modes.X

map_found : (f : LockRow → LockRow) → SameKeys f → (c : ClientId) (i : ℕ) (rows : List LockRow) →
    find (is_row_of c i) (map f rows) ≡ option_map f (find (is_row_of c i) rows)
map_found f k c i rows =
    find_map (is_row_of c i) f (λ r. ap (λ d. same_client d c && ((f r).ino == i)) (k.client r) ∙ ap (λ n. same_client r.client c && (n == i)) (k.ino r)) rows

map_apart : (l : Locks) (f : LockRow → LockRow) → SameKeys f → WaitsApart l → WaitsApart (record l { rows = map f l.rows })
map_apart l f k h = λ w i r e x. go w i r x (row_of l w.client w.ino) refl (sym (map_found f k w.client w.ino l.rows) ∙ e)
  where
    go : (w : Waiter) → Has w l.waiters → (r : LockRow) → r.mode ≡ modes.X → (o : Option LockRow) → row_of l w.client w.ino ≡ o → option_map f o ≡ Some r → ⊥
    go w i r x None q e = cc
    go w i r x (Some y) q e = h w i y q (k.exclusive y (ap (λ (z : LockRow). z.mode) (some_is e) ∙ x))

map_held : (ino : ℕ) (l : Locks) (f : LockRow → LockRow) → SameKeys f → ((r : LockRow) → (f r).mode ≡ r.mode) → IsHeld ino l →
    IsHeld ino (record l { rows = map f l.rows })
map_held ino l f k m h = record {
  client = h.client;
  row = f h.row;
  is = map_found f k h.client ino l.rows ∙ ap (option_map f) h.is;
  exclusive = m h.row ∙ h.exclusive;
}

-- a demand that is seen
observe_keys : (c : ClientId) (ino : ℕ) (g : GrantNo) → SameKeys (locks.observe c ino g)
unfolding locks.answered_row
observe_keys c ino g = record {
  client = λ r. client r (is_row_of c ino r && (r.g.0 == g.0));
  ino = λ r. number r (is_row_of c ino r && (r.g.0 == g.0));
  exclusive = λ r. mode r (is_row_of c ino r && (r.g.0 == g.0));
}
  where
    client : (r : LockRow) (b : Bool) → (if b then locks.answered_row r else r).client ≡ r.client
    client r true = refl
    client r false = refl

    number : (r : LockRow) (b : Bool) → (if b then locks.answered_row r else r).ino ≡ r.ino
    number r true = refl
    number r false = refl

    mode : (r : LockRow) (b : Bool) → (if b then locks.answered_row r else r).mode ≡ modes.X → r.mode ≡ modes.X
    mode r true x = x
    mode r false x = x

pub seen_apart : (l : Locks) (c : ClientId) (ino : ℕ) (g : GrantNo) → WaitsApart l → WaitsApart (locks.demand_seen l c ino g)
unfolding locks.demand_seen
seen_apart l c ino g h = map_apart l (locks.observe c ino g) (observe_keys c ino g) h

-- A release.
lower_keys : (c : ClientId) (ino : ℕ) → SameKeys (locks.lower c ino)
unfolding locks.lowered
lower_keys c ino = record { client = λ r. client r (is_row_of c ino r); ino = λ r. number r (is_row_of c ino r); exclusive = λ r. mode r (is_row_of c ino r) }
  where
    client : (r : LockRow) (b : Bool) → (if b then locks.lowered r else r).client ≡ r.client
    client r true = refl
    client r false = refl

    number : (r : LockRow) (b : Bool) → (if b then locks.lowered r else r).ino ≡ r.ino
    number r true = refl
    number r false = refl

    mode : (r : LockRow) (b : Bool) → (if b then locks.lowered r else r).mode ≡ modes.X → r.mode ≡ modes.X
    mode r true x = cc x
    mode r false x = x

row_goes : (l : Locks) (c : ClientId) (ino : ℕ) → WaitsApart l → WaitsApart (record l { rows = locks.without_row c ino l.rows })
row_goes l c ino h = λ w i r e x. go w i r e x (is_key w.client w.ino c ino) refl
  where
    go : (w : Waiter) → Has w l.waiters → (r : LockRow) → find (is_row_of w.client w.ino) (locks.without_row c ino l.rows) ≡ Some r →
        r.mode ≡ modes.X → (b : Bool) → is_key w.client w.ino c ino ≡ b → ⊥
    go w i r e x true q =
        let z = key_is w.client w.ino c ino q in
        no (sym (find_gone (is_row_of w.client w.ino) (λ y. not (is_row_of c ino y)) (λ y t. ap not
        (subst (λ d. is_row_of d ino y ≡ true) z.0 (subst (λ n. is_row_of w.client n y ≡ true) z.1 t))) l.rows) ∙ e)
      where
        no : ◌≡◌ {A = Option LockRow} None (Some r) → ⊥
        no y = cc
    go w i r e x false q =
        h w i r (sym (find_kept (is_row_of w.client w.ino) (λ y. not (is_row_of c ino y)) (λ y t. ap not (key_other w.client w.ino c ino q y t)) l.rows) ∙ e) x

pub release_apart : (l : Locks) (c : ClientId) (ino : ℕ) (to : Mode) → WaitsApart l → WaitsApart (locks.release_to l c ino to)
unfolding locks.release_to
release_apart l c ino modes.None h = row_goes l c ino h
release_apart l c ino modes.S h = map_apart l (locks.lower c ino) (lower_keys c ino) h
release_apart l c ino modes.X h = map_apart l (locks.lower c ino) (lower_keys c ino) h

-- A grant: the client's wait goes, and nobody else's row changes.
granted_other : (l : Locks) (c : ClientId) (life : Life) (ino : ℕ) (mode : Mode) (d : ClientId) (i : ℕ) → is_key d i c ino ≡ false →
    row_of (locks.grant l c life ino mode) d i ≡ row_of l d i
unfolding locks.grant
granted_other l c life ino mode d i n = find_put_other (is_row_of d i) (is_row_of c ino) (locks.new_row l c life ino mode) l.rows
    (key_turned d i c ino n) (λ y q. key_other d i c ino n y q)

pub grant_apart : (l : Locks) (c : ClientId) (life : Life) (ino : ℕ) (mode : Mode) → WaitsApart l → WaitsApart (locks.grant l c life ino mode)
unfolding locks.grant
grant_apart l c life ino mode h = λ w i r e x.
    let z = has_filter (λ y. not (is_wait_of c ino y)) l.waiters w i in
    h w z.0 r (sym (granted_other l c life ino mode w.client w.ino (not_true (is_wait_of c ino w) z.1)) ∙ e) x

pub grant_held : (i : ℕ) (l : Locks) (w : Waiter) → Has w l.waiters → WaitsApart l → IsHeld i l → IsHeld i (locks.grant l w.client w.life w.ino w.mode)
grant_held i l w j h g = go (is_key g.client i w.client w.ino) refl
  where
    go : (b : Bool) → is_key g.client i w.client w.ino ≡ b → IsHeld i (locks.grant l w.client w.life w.ino w.mode)
    go true q =
        let z = key_is g.client i w.client w.ino q in
        absurd (h w j g.row (subst (λ d. row_of l d w.ino ≡ Some g.row) z.0 (subst (λ n. row_of l g.client n ≡ Some g.row) z.1 g.is)) g.exclusive)
    go false q = record { client = g.client; row = g.row; is = granted_other l w.client w.life w.ino w.mode g.client i q ∙ g.is; exclusive = g.exclusive }

-- A wait: of a client that has no exclusive row of the file.
pub queue_apart : (l : Locks) (c : ClientId) (life : Life) (ino : ℕ) (mode : Mode) → ((r : LockRow) → row_of l c ino ≡ Some r → r.mode ≡ modes.X →
    ⊥) → WaitsApart l → WaitsApart (locks.queue l c life ino mode)
unfolding locks.queue locks.queue_at locks.wait_for
queue_apart l c life ino mode n h = go (locks.wait_of l c ino)
  where
    old_or_new : (w : Waiter) → Has w l.waiters ⊎ Has w (locks.new_wait c life ino mode ∷ []) → (r : LockRow) → row_of l w.client w.ino ≡ Some r →
        r.mode ≡ modes.X → ⊥
    old_or_new w (inl i) r e x = h w i r e x
    old_or_new w (inr (inl q)) r e x = n r (subst (λ (y : Waiter). row_of l y.client y.ino ≡ Some r) q e) x
    old_or_new w (inr (inr q)) r e x = absurd q

    raised : (w : Waiter) → (y : Waiter) × Has y l.waiters × (w ≡ locks.raise c ino mode y) → (r : LockRow) → row_of l w.client w.ino ≡ Some r →
        r.mode ≡ modes.X → ⊥
    raised w (y, i, q) r e x = h y i r (key y (is_wait_of c ino y) (subst (λ (z : Waiter). row_of l z.client z.ino ≡ Some r) q e)) x
      where
        key : (y : Waiter) (b : Bool) →
            row_of l (if b then locks.wait_for mode y else y).client (if b then locks.wait_for mode y else y).ino ≡ Some r → row_of l y.client y.ino ≡ Some r
        key y true z = z
        key y false z = z

    go : (o : Option Waiter) → WaitsApart (locks.queue_at l c life ino mode o)
    go None = λ w i r e x. old_or_new w (has_append l.waiters (locks.new_wait c life ino mode ∷ []) w i) r e x
    go (Some v) = λ w i r e x. raised w (has_map (locks.raise c ino mode) l.waiters w i) r e x

-- Rows that are installed: of a client that waits for nothing.
pub install_apart : (l : Locks) (c : ClientId) (life : Life) (rows : List (ℕ × GrantNo × Mode)) → ((w : Waiter) → Has w l.waiters → w.client ≡ c → ⊥) →
    WaitsApart l → WaitsApart (locks.with_rows l c life rows)
unfolding locks.with_rows
install_apart l c life rows n h = λ w i r q x. by w i r x (front w.client w.ino l.rows rows r q)
  where
    front : (d : ClientId) (i : ℕ) (xs : List LockRow) (rs : List (ℕ × GrantNo × Mode)) (r : LockRow) →
        find (is_row_of d i) (xs ++ map (locks.installed c life) rs) ≡ Some r → (find (is_row_of d i) xs ≡ Some r) ⊎ (c ≡ d)
    front d i [] [] r z = cc
    front d i [] (y ∷ rs) r z = at (is_key c y.0 d i) refl z (front d i [] rs r)
      where
        at : (b : Bool) → is_key c y.0 d i ≡ b →
            (if b then Some (locks.installed c life y) else find (is_row_of d i) (map (locks.installed c life) rs)) ≡ Some r →
            (find (is_row_of d i) (map (locks.installed c life) rs) ≡ Some r → (find (is_row_of d i) [] ≡ Some r) ⊎ (c ≡ d)) →
            (find (is_row_of d i) [] ≡ Some r) ⊎ (c ≡ d)
        at true q z f = inr (key_is c y.0 d i q).0
        at false q z f = f z
    front d i (x ∷ xs) rs r z = at (is_row_of d i x) z (front d i xs rs r)
      where
        at : (b : Bool) → (if b then Some x else find (is_row_of d i) (xs ++ map (locks.installed c life) rs)) ≡ Some r →
            (find (is_row_of d i) (xs ++ map (locks.installed c life) rs) ≡ Some r → (find (is_row_of d i) xs ≡ Some r) ⊎ (c ≡ d)) →
            ((if b then Some x else find (is_row_of d i) xs) ≡ Some r) ⊎ (c ≡ d)
        at true z f = inl z
        at false z f = f z

    by : (w : Waiter) → Has w l.waiters → (r : LockRow) → r.mode ≡ modes.X → (row_of l w.client w.ino ≡ Some r) ⊎ (c ≡ w.client) → ⊥
    by w i r x (inl q) = h w i r q x
    by w i r x (inr q) = n w i (sym q)

-- a row that is demanded
demand_keys : (c : ClientId) (ino : ℕ) (d : RowDemand) → SameKeys (locks.demand_of c ino d)
unfolding locks.demanded
demand_keys c ino d = record {
  client = λ r. client r (is_row_of c ino r);
  ino = λ r. number r (is_row_of c ino r);
  exclusive = λ r x. sym (mode r (is_row_of c ino r)) ∙ x;
}
  where
    client : (r : LockRow) (b : Bool) → (if b then locks.demanded d r else r).client ≡ r.client
    client r true = refl
    client r false = refl

    number : (r : LockRow) (b : Bool) → (if b then locks.demanded d r else r).ino ≡ r.ino
    number r true = refl
    number r false = refl

    mode : (r : LockRow) (b : Bool) → (if b then locks.demanded d r else r).mode ≡ r.mode
    mode r true = refl
    mode r false = refl

demand_mode : (c : ClientId) (ino : ℕ) (d : RowDemand) (r : LockRow) → (locks.demand_of c ino d r).mode ≡ r.mode
unfolding locks.demanded
demand_mode c ino d r = go (is_row_of c ino r)
  where
    go : (b : Bool) → (if b then locks.demanded d r else r).mode ≡ r.mode
    go true = refl
    go false = refl

pub demand_apart : (l : Locks) (r : LockRow) (d : RowDemand) → WaitsApart l → WaitsApart (locks.with_demand r d l)
demand_apart l r d h = map_apart l (locks.demand_of r.client r.ino d) (demand_keys r.client r.ino d) h

pub demand_held : (i : ℕ) (l : Locks) (r : LockRow) (d : RowDemand) → IsHeld i l → IsHeld i (locks.with_demand r d l)
demand_held i l r d g = map_held i l (locks.demand_of r.client r.ino d) (demand_keys r.client r.ino d) (demand_mode r.client r.ino d) g
