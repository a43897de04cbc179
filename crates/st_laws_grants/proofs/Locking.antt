-- The lock table: changes that leave the numbers of its rows, and grants, which give the next number an owner.
use Rattle.st_lemmas.proofs.Words
use Words.{◌≡◌, ◌≢◌, ℕ, ◌+◌, ◌≤◌, ◌<◌, ◌⊎◌, ◌==◌, ◌&&◌, List, Option, Some, None, refl, sym, ap, ◌∙◌, subst, inl, inr, arith, if◌then◌else◌, map, eq-eqb}
use Words.{ne_eqb, ClientId, GrantNo, Life, Mode, LockRow, RowDemand, Waiter}
use Words.modes
use Words.Locks as locks
use Words.Locks.{Locks}
use Words.Lists.{Has}
use Words.Lookups.{some_is}
use Words.Tables.{has_append, has_filter, has_map, same_or_not}
use Words.Truth.{if_either}
use Rattle.st_lemmas.proofs.Puts.{has_put}
use Rattle.st_laws_grants.specs.Owners.{Grows, LocksOk, Owner}

-- Changes that give nothing.

-- a row of the client, the file and the number of one that was there
pub record From (l : Locks) (r : LockRow) : Type 0 where
  pub row : LockRow
  pub among : Has row l.rows
  pub client : r.client ≡ row.client
  pub ino : r.ino ≡ row.ino
  pub g : r.g ≡ row.g

-- no more grants, and each row is from one that was there
pub record Part (l m : Locks) : Type 0 where
  pub epoch : m.epoch ≡ l.epoch
  pub grants : m.grants ≡ l.grants
  pub rows : (r : LockRow) → Has r m.rows → From l r

pub from_has : (l : Locks) (r : LockRow) → Has r l.rows → From l r
from_has l r h = record { row = r; among = h; client = refl; ino = refl; g = refl }

-- a change of a row that leaves these
pub record Same (x r : LockRow) : Type 0 where
  pub client : x.client ≡ r.client
  pub ino : x.ino ≡ r.ino
  pub g : x.g ≡ r.g

same_self : (r : LockRow) → Same r r
same_self r = record { client = refl; ino = refl; g = refl }

from_map : (l : Locks) (f : LockRow → LockRow) → ((r : LockRow) → Same (f r) r) → (r : LockRow) → Has r (map f l.rows) → From l r
from_map l f k r h = let z = has_map f l.rows r h in
    record {
      row = z.0;
      among = z.1;
      client = ap (λ (x : LockRow). x.client) z.2 ∙ (k z.0).client;
      ino = ap (λ (x : LockRow). x.ino) z.2 ∙ (k z.0).ino;
      g = ap (λ (x : LockRow). x.g) z.2 ∙ (k z.0).g;
    }

pub owned_from : (o : Owner) (l : Locks) → LocksOk o l → (r : LockRow) → From l r → o r.g.0 ≡ Some (r.client.0, r.ino)
owned_from o l k r f =
    ap (λ (g : GrantNo). o g.0) f.g ∙ k.rows f.row f.among ∙ ap (λ (c : ClientId). Some (c.0, f.row.ino)) (sym f.client)
    ∙ ap (λ (n : ℕ). Some (r.client.0, n)) (sym f.ino)

pub part_ok : (o : Owner) (l m : Locks) → Part l m → LocksOk o l → LocksOk o m
part_ok o l m p k = record {
  low = λ g y e. let z = k.low g y e in
      subst (λ n. g ≤ locks.first_after m.epoch + n) (sym p.grants) (subst (λ x. g ≤ locks.first_after x + l.grants) (sym p.epoch) z);
  rows = λ r h. owned_from o l k r (p.rows r h);
}

pub part_forget : (l : Locks) (c : ClientId) → Part l (locks.forget l c)
unfolding locks.forget
part_forget l c = record { epoch = refl; grants = refl; rows = λ r h. from_has l r (has_filter _ l.rows r h).0 }

pub part_waits : (l : Locks) (c : ClientId) → Part l (locks.drop_waits l c)
unfolding locks.drop_waits
part_waits l c = record { epoch = refl; grants = refl; rows = λ r h. from_has l r h }

pub part_file_waits : (l : Locks) (ino : ℕ) → Part l (locks.drop_file_waits l ino)
unfolding locks.drop_file_waits
part_file_waits l ino = record { epoch = refl; grants = refl; rows = λ r h. from_has l r h }

pub part_seen : (l : Locks) (c : ClientId) (ino : ℕ) (g : GrantNo) → Part l (locks.demand_seen l c ino g)
unfolding locks.demand_seen locks.answered_row
part_seen l c ino g = record { epoch = refl; grants = refl; rows = λ r h. from_map l (locks.observe c ino g) one r h }
  where
    one : (r : LockRow) → Same (locks.observe c ino g r) r
    one r = if_either (λ x. Same x r) (locks.is_row_of c ino r && (r.g.0 == g.0)) _ _ (record { client = refl; ino = refl; g = refl }) (same_self r)

pub part_to : (l : Locks) (c : ClientId) (ino : ℕ) (to : Mode) → Part l (locks.release_to l c ino to)
unfolding locks.release_to locks.lowered
part_to l c ino to = go to
  where
    lower : (r : LockRow) → Same (locks.lower c ino r) r
    lower r = if_either (λ x. Same x r) (locks.is_row_of c ino r) _ _ (record { client = refl; ino = refl; g = refl }) (same_self r)

    go : (to : Mode) → Part l (locks.release_to l c ino to)
    go modes.None = record { epoch = refl; grants = refl; rows = λ r h. from_has l r (has_filter _ l.rows r h).0 }
    go modes.S = record { epoch = refl; grants = refl; rows = λ r h. from_map l (locks.lower c ino) lower r h }
    go modes.X = record { epoch = refl; grants = refl; rows = λ r h. from_map l (locks.lower c ino) lower r h }

pub part_queue : (l : Locks) (c : ClientId) (life : Life) (ino : ℕ) (mode : Mode) → Part l (locks.queue l c life ino mode)
unfolding locks.queue locks.queue_at
part_queue l c life ino mode = go (locks.wait_of l c ino)
  where
    go : (o : Option Waiter) → Part l (locks.queue_at l c life ino mode o)
    go None = record { epoch = refl; grants = refl; rows = λ r h. from_has l r h }
    go (Some w) = record { epoch = refl; grants = refl; rows = λ r h. from_has l r h }

pub part_up : (l m : Locks) (n : ℕ) → Part l m → n ≤ locks.first_after l.epoch + l.grants → n ≤ locks.first_after m.epoch + m.grants
part_up l m n p h = subst (λ x. n ≤ locks.first_after m.epoch + x) (sym p.grants) (subst (λ x. n ≤ locks.first_after x + l.grants) (sym p.epoch) h)

-- Rows that are installed have their numbers already.
pub installed_ok : (o : Owner) (l : Locks) (c : ClientId) (life : Life) (rows : List (ℕ × GrantNo × Mode)) →
    ((r : ℕ × GrantNo × Mode) → Has r rows → o r.1.0 ≡ Some (c.0, r.0)) → LocksOk o l → LocksOk o (locks.with_rows l c life rows)
unfolding locks.with_rows
installed_ok o l c life rows f k = record { low = k.low; rows = λ r h. go r (has_append l.rows (map (locks.installed c life) rows) r h) }
  where
    go : (r : LockRow) → Has r l.rows ⊎ Has r (map (locks.installed c life) rows) → o r.g.0 ≡ Some (r.client.0, r.ino)
    go r (inl h) = k.rows r h
    go r (inr h) = let z = has_map (locks.installed c life) rows r h in subst (λ (x : LockRow). o x.g.0 ≡ Some (x.client.0, x.ino)) (sym z.2) (f z.0 z.1)

-- Grants.

-- a number with this owner
abbrev pub extend : Owner → ℕ → ℕ × ℕ → Owner
extend o n y = λ g. if g == n then Some y else o g

pub extend_own : (o : Owner) (n : ℕ) (y : ℕ × ℕ) → extend o n y n ≡ Some y
extend_own o n y = ap (λ b. if b then Some y else o n) (eq-eqb n n refl)

extend_other : (o : Owner) (n : ℕ) (y : ℕ × ℕ) (g : ℕ) → g ≢ n → extend o n y g ≡ o g
extend_other o n y g ne = ap (λ b. if b then Some y else o g) (ne_eqb g n ne)

pub extend_from : (o : Owner) (n : ℕ) (y : ℕ × ℕ) (g : ℕ) (z : ℕ × ℕ) → extend o n y g ≡ Some z → (o g ≡ Some z) ⊎ ((g ≡ n) × (z ≡ y))
extend_from o n y g z e = go (same_or_not g n)
  where
    go : (g ≡ n) ⊎ (g ≢ n) → (o g ≡ Some z) ⊎ ((g ≡ n) × (z ≡ y))
    go (inl q) = inr (q, some_is (sym e ∙ ap (extend o n y) q ∙ extend_own o n y))
    go (inr ne) = inl (sym (extend_other o n y g ne) ∙ e)

-- the last number that was given
abbrev pub top : Locks → ℕ
top l = locks.first_after l.epoch + l.grants

pub over_top : (f n g : ℕ) → g ≡ f + n + 1 → f + n < g
over_top f n g e = omega (arith, e)

pub more_top : (f n m : ℕ) → m ≤ f + n → m ≤ f + (n + 1)
more_top f n m h = omega (arith, h)

above : (f n g : ℕ) → g ≤ f + n → g ≢ f + n + 1
above f n g l = λ e. omega (arith, e, l)

pub grows_grant : (o : Owner) (l : Locks) (y : ℕ × ℕ) → LocksOk o l → Grows o (extend o (locks.next_grant l).0 y)
grows_grant o l y k = λ g z e. extend_other o (locks.next_grant l).0 y g (above (locks.first_after l.epoch) l.grants g (k.low g z e)) ∙ e

pub grant_ok : (o : Owner) (l : Locks) (c : ClientId) (life : Life) (ino : ℕ) (mode : Mode) → LocksOk o l →
    LocksOk (extend o (locks.next_grant l).0 (c.0, ino)) (locks.grant l c life ino mode)
unfolding locks.grant
grant_ok o l c life ino mode k = record { low = low; rows = λ r h. row r (has_put _ (locks.new_row l c life ino mode) l.rows r h) }
  where
    most : (f n g : ℕ) → g ≤ f + n → g ≤ f + (n + 1)
    most f n g h = omega (arith, h)

    last : (f n g : ℕ) → g ≡ f + n + 1 → g ≤ f + (n + 1)
    last f n g h = omega (arith, h)

    low : (g : ℕ) (y : ℕ × ℕ) → extend o (locks.next_grant l).0 (c.0, ino) g ≡ Some y → g ≤ locks.first_after l.epoch + (l.grants + 1)
    low g y e = go (same_or_not g (locks.next_grant l).0)
      where
        go : (g ≡ (locks.next_grant l).0) ⊎ (g ≢ (locks.next_grant l).0) → g ≤ locks.first_after l.epoch + (l.grants + 1)
        go (inl q) = last (locks.first_after l.epoch) l.grants g q
        go (inr n) = most (locks.first_after l.epoch) l.grants g (k.low g y (sym (extend_other o (locks.next_grant l).0 (c.0, ino) g n) ∙ e))

    row : (r : LockRow) → (r ≡ locks.new_row l c life ino mode) ⊎ Has r l.rows → extend o (locks.next_grant l).0 (c.0, ino) r.g.0 ≡ Some (r.client.0, r.ino)
    row r (inl q) = subst (λ (x : LockRow). extend o (locks.next_grant l).0 (c.0, ino) x.g.0 ≡ Some (x.client.0, x.ino)) (sym q)
        (extend_own o (locks.next_grant l).0 (c.0, ino))
    row r (inr h) = grows_grant o l (c.0, ino) k r.g.0 (r.client.0, r.ino) (k.rows r h)

-- Demands.
pub part_demand : (r : LockRow) (d : RowDemand) (l : Locks) → Part l (locks.with_demand r d l)
unfolding locks.demanded
part_demand r d l = record { epoch = refl; grants = refl; rows = λ x h. from_map l (locks.demand_of r.client r.ino d) one x h }
  where
    one : (x : LockRow) → Same (locks.demand_of r.client r.ino d x) x
    one x = if_either (λ y. Same y x) (locks.is_row_of r.client r.ino x) _ _ (record { client = refl; ino = refl; g = refl }) (same_self x)
