-- The files of which a client has a row or a wait, and what becomes of them as a table of locks changes.
use Rattle.st_lemmas.proofs.Words
use Words.{◌≡◌, ◌≢◌, ◌≤◌, ◌+◌, ◌⊎◌, ℕ, ◌==◌, ◌&&◌, ◌||◌, Bool, true, false, not, List, [], ◌∷◌, length, filter, map, Option, Some, None, is_some, nat_lt, refl, sym, ap, ◌∙◌, subst, inl, inr, arith, eqb-true, eq-eqb, ltb-true, length-map}
use Words.{ClientId, GrantNo, Life, LockRow, Mode, Waiter}
use Words.Lists.{Has}
use Words.Locks as locks
use Words.Locks.{Locks, files_of}
use Words.Tables.{cond_either, found_at, has_append, has_filter, has_filter_in, has_map, has_map_in, same_or_not}
use Rattle.st_lemmas.proofs.Keys.{rising_has, rising_has_in, rising_rises}
use Rattle.st_lemmas.proofs.Puts.{has_put}
use Rattle.st_laws_third.proofs.Chains.{left_has, right_has}
use Rattle.st_laws_limits.proofs.RisingLists.{no_longer}

-- the client has a row of the file, or a wait for it
pub data HasFile (l : Locks) (c : ClientId) (ino : ℕ) : Type 0 where
  ByRow : (r : LockRow) → Has r l.rows → r.client.0 ≡ c.0 → r.ino ≡ ino → HasFile l c ino
  ByWait : (w : Waiter) → Has w l.waiters → w.client.0 ≡ c.0 → w.ino ≡ ino → HasFile l c ino

files_have : (l : Locks) (c : ClientId) (ino : ℕ) → Has ino (files_of l c) → HasFile l c ino
files_have l c ino h =
    go (has_append (map locks.ino_of_row (filter (locks.is_row_by c) l.rows)) (map locks.ino_of_wait (filter (locks.is_wait_by c) l.waiters)) ino
    (rising_has _ ino h))
  where
    go : Has ino (map locks.ino_of_row (filter (locks.is_row_by c) l.rows)) ⊎ Has ino (map locks.ino_of_wait (filter (locks.is_wait_by c) l.waiters)) →
        HasFile l c ino
    go (inl i) =
        let z = has_map locks.ino_of_row (filter (locks.is_row_by c) l.rows) ino i in
        let y = has_filter (locks.is_row_by c) l.rows z.0 z.1 in ByRow z.0 y.0 (eqb-true z.0.client.0 c.0 y.1) (sym z.2)
    go (inr i) =
        let z = has_map locks.ino_of_wait (filter (locks.is_wait_by c) l.waiters) ino i in
        let y = has_filter (locks.is_wait_by c) l.waiters z.0 z.1 in ByWait z.0 y.0 (eqb-true z.0.client.0 c.0 y.1) (sym z.2)

among_files : (l : Locks) (c : ClientId) (ino : ℕ) → HasFile l c ino → Has ino (files_of l c)
among_files l c ino (ByRow r h e q) =
    subst (λ i. Has i (files_of l c)) q
    (rising_has_in _ r.ino
    (left_has _ _ r.ino
    (has_map_in locks.ino_of_row (filter (locks.is_row_by c) l.rows) r
    (has_filter_in (locks.is_row_by c) l.rows r h (eq-eqb r.client.0 c.0 e)))))
among_files l c ino (ByWait w h e q) =
    subst (λ i. Has i (files_of l c)) q
    (rising_has_in _ w.ino
    (right_has (map locks.ino_of_row (filter (locks.is_row_by c) l.rows)) _ w.ino
    (has_map_in locks.ino_of_wait (filter (locks.is_wait_by c) l.waiters) w
    (has_filter_in (locks.is_wait_by c) l.waiters w h (eq-eqb w.client.0 c.0 e)))))

-- no more files than a list has numbers, if each is one of them
pub fewer_than : (l : Locks) (c : ClientId) (xs : List ℕ) → ((i : ℕ) → HasFile l c i → Has i xs) → length (files_of l c) ≤ length xs
fewer_than l c xs f = no_longer (files_of l c) xs (rising_rises _) (λ i h. f i (files_have l c i h))

-- no client has more files than may be, by the table's limit
pub record FilesFew (n : ℕ) (l : Locks) : Type 0 where
  pub limit : l.limit ≡ n
  pub few : (c : ClientId) → length (files_of l c) ≤ n

pub few_fewer : (n : ℕ) (l v : Locks) → v.limit ≡ l.limit → ((c : ClientId) (i : ℕ) → HasFile v c i → HasFile l c i) → FilesFew n l → FilesFew n v
few_fewer n l v e f h =
    record {
      limit = e ∙ h.limit;
      few = λ c. let a = fewer_than v c (files_of l c) (λ i z. among_files l c i (f c i z)) in let b = h.few c in omega (arith, a, b);
    }

-- one client has one file more
few_more : (n : ℕ) (l v : Locks) (c : ClientId) (ino : ℕ) → v.limit ≡ l.limit →
    ((d : ClientId) (i : ℕ) → HasFile v d i → (HasFile l d i) ⊎ ((d.0 ≡ c.0) × (i ≡ ino))) →
    (HasFile l c ino) ⊎ (length (files_of l c) + 1 ≤ n) → FilesFew n l → FilesFew n v
few_more n l v c ino e f (inl there) h = few_fewer n l v e (λ d i z. go d i (f d i z)) h
  where
    same : (d : ClientId) (i : ℕ) → d.0 ≡ c.0 → i ≡ ino → HasFile l c ino → HasFile l d i
    same d i p q (ByRow r x y z) = ByRow r x (y ∙ sym p) (z ∙ sym q)
    same d i p q (ByWait w x y z) = ByWait w x (y ∙ sym p) (z ∙ sym q)

    go : (d : ClientId) (i : ℕ) → (HasFile l d i) ⊎ ((d.0 ≡ c.0) × (i ≡ ino)) → HasFile l d i
    go d i (inl x) = x
    go d i (inr x) = same d i x.0 x.1 there
few_more n l v c ino e f (inr place) h = record { limit = e ∙ h.limit; few = λ d. at d (same_or_not d.0 c.0) }
  where
    at : (d : ClientId) → (d.0 ≡ c.0) ⊎ (d.0 ≢ c.0) → length (files_of v d) ≤ n
    at d (inl p) =
        let a = fewer_than v d (ino ∷ files_of l c) (λ i z. go i (f d i z)) in omega (arith, a, place)
      where
        moved : (i : ℕ) → HasFile l d i → HasFile l c i
        moved i (ByRow r x y z) = ByRow r x (y ∙ p) z
        moved i (ByWait w x y z) = ByWait w x (y ∙ p) z

        go : (i : ℕ) → (HasFile l d i) ⊎ ((d.0 ≡ c.0) × (i ≡ ino)) → Has i (ino ∷ files_of l c)
        go i (inl x) = inr (among_files l c i (moved i x))
        go i (inr x) = inl x.1
    at d (inr ne) =
        let a = fewer_than v d (files_of l d) (λ i z. among_files l d i (go i (f d i z))) in let b = h.few d in omega (arith, a, b)
      where
        go : (i : ℕ) → (HasFile l d i) ⊎ ((d.0 ≡ c.0) × (i ≡ ino)) → HasFile l d i
        go i (inl x) = x
        go i (inr x) = absurd (ne x.0)

-- Changes of a table.

-- the client and the file of each row stay
pub mapped_file : (l : Locks) (f : LockRow → LockRow) → ((r : LockRow) → ((f r).client ≡ r.client) × ((f r).ino ≡ r.ino)) → (c : ClientId) (i : ℕ) →
    HasFile (record l { rows = map f l.rows }) c i → HasFile l c i
mapped_file l f same c i (ByRow r h e q) =
    let z = has_map f l.rows r h in
    ByRow z.0 z.1 (ap (λ (d : ClientId). d.0) (sym (same z.0).0) ∙ ap (λ (y : LockRow). y.client.0) (sym z.2) ∙ e)
    (sym (same z.0).1 ∙ ap (λ (y : LockRow). y.ino) (sym z.2) ∙ q)
mapped_file l f same c i (ByWait w h e q) = ByWait w h e q

pub fewer_rows : (l : Locks) (p : LockRow → Bool) (c : ClientId) (i : ℕ) → HasFile (record l { rows = filter p l.rows }) c i → HasFile l c i
fewer_rows l p c i (ByRow r h e q) = ByRow r (has_filter p l.rows r h).0 e q
fewer_rows l p c i (ByWait w h e q) = ByWait w h e q

pub fewer_waits : (l : Locks) (p : Waiter → Bool) (c : ClientId) (i : ℕ) → HasFile (record l { waiters = filter p l.waiters }) c i → HasFile l c i
fewer_waits l p c i (ByRow r h e q) = ByRow r h e q
fewer_waits l p c i (ByWait w h e q) = ByWait w (has_filter p l.waiters w h).0 e q

-- the locks of a client are forgotten
pub forgotten_file : (l : Locks) (c d : ClientId) (i : ℕ) → HasFile (locks.forget l c) d i → (HasFile l d i) × (d.0 ≡ c.0 → ⊥)
unfolding locks.forget
forgotten_file l c d i (ByRow r h e q) =
    let z = has_filter (λ y. not (locks.is_row_by c y)) l.rows r h in (ByRow r z.0 e q, λ k. other (r.client.0 == c.0) z.1 (eq-eqb r.client.0 c.0 (e ∙ k)))
  where
    other : (b : Bool) → not b ≡ true → b ≡ true → ⊥
    other true x y = cc x
    other false x y = cc y
forgotten_file l c d i (ByWait w h e q) =
    let z = has_filter (λ y. not (locks.is_wait_by c y)) l.waiters w h in (ByWait w z.0 e q, λ k. other (w.client.0 == c.0) z.1 (eq-eqb w.client.0 c.0 (e ∙ k)))
  where
    other : (b : Bool) → not b ≡ true → b ≡ true → ⊥
    other true x y = cc x
    other false x y = cc y

granted_file : (l : Locks) (c : ClientId) (life : Life) (ino : ℕ) (mode : Mode) (d : ClientId) (i : ℕ) → HasFile (locks.grant l c life ino mode) d i →
    (HasFile l d i) ⊎ ((d.0 ≡ c.0) × (i ≡ ino))
unfolding locks.grant
granted_file l c life ino mode d i (ByRow r h e q) = go (has_put (locks.is_row_of c ino) (locks.new_row l c life ino mode) l.rows r h)
  where
    go : (r ≡ locks.new_row l c life ino mode) ⊎ Has r l.rows → (HasFile l d i) ⊎ ((d.0 ≡ c.0) × (i ≡ ino))
    go (inl x) = inr (sym e ∙ ap (λ (y : LockRow). y.client.0) x, sym q ∙ ap (λ (y : LockRow). y.ino) x)
    go (inr x) = inl (ByRow r x e q)
granted_file l c life ino mode d i (ByWait w h e q) = inl (ByWait w (has_filter (λ y. not (locks.is_wait_of c ino y)) l.waiters w h).0 e q)

queued_file : (l : Locks) (c : ClientId) (life : Life) (ino : ℕ) (mode : Mode) (d : ClientId) (i : ℕ) → HasFile (locks.queue l c life ino mode) d i →
    (HasFile l d i) ⊎ ((d.0 ≡ c.0) × (i ≡ ino))
unfolding locks.queue locks.queue_at locks.wait_for
queued_file l c life ino mode d i = go (locks.wait_of l c ino)
  where
    go : (o : Option Waiter) → HasFile (locks.queue_at l c life ino mode o) d i → (HasFile l d i) ⊎ ((d.0 ≡ c.0) × (i ≡ ino))
    go None (ByRow r h e q) = inl (ByRow r h e q)
    go (Some v) (ByRow r h e q) = inl (ByRow r h e q)
    go None (ByWait w h e q) = at (has_append l.waiters (locks.new_wait c life ino mode ∷ []) w h)
      where
        at : Has w l.waiters ⊎ Has w (locks.new_wait c life ino mode ∷ []) → (HasFile l d i) ⊎ ((d.0 ≡ c.0) × (i ≡ ino))
        at (inl x) = inl (ByWait w x e q)
        at (inr (inl x)) = inr (sym e ∙ ap (λ (y : Waiter). y.client.0) x, sym q ∙ ap (λ (y : Waiter). y.ino) x)
        at (inr (inr x)) = absurd x
    go (Some v) (ByWait w h e q) =
        let z = has_map (locks.raise c ino mode) l.waiters w h in
        let y = same z.0 in
        inl (ByWait z.0 z.1 (ap (λ (x : ClientId). x.0) (sym y.0) ∙ ap (λ (x : Waiter). x.client.0) (sym z.2) ∙ e)
        (sym y.1 ∙ ap (λ (x : Waiter). x.ino) (sym z.2) ∙ q))
      where
        same : (x : Waiter) → ((locks.raise c ino mode x).client ≡ x.client) × ((locks.raise c ino mode x).ino ≡ x.ino)
        same x =
            cond_either (λ (y : Waiter). (y.client ≡ x.client) × (y.ino ≡ x.ino)) (locks.is_wait_of c ino x) (locks.wait_for mode x) x
            (λ e. (refl, refl)) (λ e. (refl, refl))

queued_limit : (l : Locks) (c : ClientId) (life : Life) (ino : ℕ) (mode : Mode) → (locks.queue l c life ino mode).limit ≡ l.limit
unfolding locks.queue locks.queue_at
queued_limit l c life ino mode = go (locks.wait_of l c ino)
  where
    go : (o : Option Waiter) → (locks.queue_at l c life ino mode o).limit ≡ l.limit
    go None = refl
    go (Some w) = refl

pub granted_few : (n : ℕ) (l : Locks) (c : ClientId) (life : Life) (ino : ℕ) (mode : Mode) → (HasFile l c ino) ⊎ (length (files_of l c) + 1 ≤ n) → FilesFew n l →
    FilesFew n (locks.grant l c life ino mode)
unfolding locks.grant
granted_few n l c life ino mode p h = few_more n l (locks.grant l c life ino mode) c ino refl (granted_file l c life ino mode) p h

pub queued_few : (n : ℕ) (l : Locks) (c : ClientId) (life : Life) (ino : ℕ) (mode : Mode) → (HasFile l c ino) ⊎ (length (files_of l c) + 1 ≤ n) → FilesFew n l →
    FilesFew n (locks.queue l c life ino mode)
queued_few n l c life ino mode p h =
    few_more n l (locks.queue l c life ino mode) c ino (queued_limit l c life ino mode) (queued_file l c life ino mode) p h

-- a client that has a row of the file, or place for it
pub has_place : (n : ℕ) (l : Locks) (c : ClientId) (ino : ℕ) → (locks.row_of l c ino ≡ None → locks.has_place l c ino ≡ true) → FilesFew n l →
    (HasFile l c ino) ⊎ (length (files_of l c) + 1 ≤ n)
has_place n l c ino p h = go (locks.row_of l c ino) refl
  where
    both : (a b : Bool) → (a && b) ≡ true → (a ≡ true) × (b ≡ true)
    both true true e = (refl, refl)
    both true false e = cc e
    both false b e = cc e

    waits : (o : Option Waiter) → locks.wait_of l c ino ≡ o → (is_some o || nat_lt (length (files_of l c)) l.limit) ≡ true →
        (HasFile l c ino) ⊎ (length (files_of l c) + 1 ≤ n)
    waits (Some w) e q =
        let z = found_at (locks.is_wait_of c ino) l.waiters w e in
        let y = both (w.client.0 == c.0) (w.ino == ino) z.0 in inl (ByWait w z.1 (eqb-true w.client.0 c.0 y.0) (eqb-true w.ino ino y.1))
    waits None e q = let a = ltb-true (length (files_of l c)) l.limit q in let b = h.limit in inr (omega (arith, a, b))

    go : (o : Option LockRow) → locks.row_of l c ino ≡ o → (HasFile l c ino) ⊎ (length (files_of l c) + 1 ≤ n)
    go (Some r) e =
        let z = found_at (locks.is_row_of c ino) l.rows r e in
        let y = both (r.client.0 == c.0) (r.ino == ino) z.0 in inl (ByRow r z.1 (eqb-true r.client.0 c.0 y.0) (eqb-true r.ino ino y.1))
    go None e = waits (locks.wait_of l c ino) refl (p e)

-- A client that has none gets these rows.
pub rows_few : (n : ℕ) (l : Locks) (c : ClientId) (life : Life) (rows : List (ℕ × GrantNo × Mode)) → ((i : ℕ) → HasFile l c i → ⊥) → length rows ≤ n →
    FilesFew n l → FilesFew n (locks.with_rows l c life rows)
unfolding locks.with_rows
rows_few n l c life rows none few h = record { limit = h.limit; few = λ d. at d (same_or_not d.0 c.0) }
  where
    v : Locks
    v = locks.with_rows l c life rows

    split : (d : ClientId) (i : ℕ) → HasFile v d i → (HasFile l d i) ⊎ ((d.0 ≡ c.0) × Has i (map (λ (r : ℕ × GrantNo × Mode). r.0) rows))
    split d i (ByWait w x e q) = inl (ByWait w x e q)
    split d i (ByRow r x e q) = go (has_append l.rows (map (locks.installed c life) rows) r x)
      where
        go : Has r l.rows ⊎ Has r (map (locks.installed c life) rows) → (HasFile l d i) ⊎ ((d.0 ≡ c.0) × Has i (map (λ (y : ℕ × GrantNo × Mode). y.0) rows))
        go (inl y) = inl (ByRow r y e q)
        go (inr y) =
            let z = has_map (locks.installed c life) rows r y in
            inr (
              sym e ∙ ap (λ (g : LockRow). g.client.0) z.2,
              subst (λ j. Has j (map (λ (g : ℕ × GrantNo × Mode). g.0) rows)) (ap (λ (g : LockRow). g.ino) (sym z.2) ∙ q)
                  (has_map_in (λ (g : ℕ × GrantNo × Mode). g.0) rows z.0 z.1),
            )

    at : (d : ClientId) → (d.0 ≡ c.0) ⊎ (d.0 ≢ c.0) → length (files_of v d) ≤ n
    at d (inl p) =
        let a = fewer_than v d (map (λ (r : ℕ × GrantNo × Mode). r.0) rows) (λ i z. go i (split d i z)) in
        let b = length-map rows (λ (r : ℕ × GrantNo × Mode). r.0) in omega (arith, a, b, few)
      where
        moved : (i : ℕ) → HasFile l d i → HasFile l c i
        moved i (ByRow r x y z) = ByRow r x (y ∙ p) z
        moved i (ByWait w x y z) = ByWait w x (y ∙ p) z

        go : (i : ℕ) → (HasFile l d i) ⊎ ((d.0 ≡ c.0) × Has i (map (λ (r : ℕ × GrantNo × Mode). r.0) rows)) → Has i (map (λ (r : ℕ × GrantNo × Mode). r.0) rows)
        go i (inl x) = absurd (none i (moved i x))
        go i (inr x) = x.1
    at d (inr ne) =
        let a = fewer_than v d (files_of l d) (λ i z. among_files l d i (go i (split d i z))) in let b = h.few d in omega (arith, a, b)
      where
        go : (i : ℕ) → (HasFile l d i) ⊎ ((d.0 ≡ c.0) × Has i (map (λ (r : ℕ × GrantNo × Mode). r.0) rows)) → HasFile l d i
        go i (inl x) = x
        go i (inr x) = absurd (ne x.0)
