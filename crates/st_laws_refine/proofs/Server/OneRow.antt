-- A client has one row on a file, through every change of a lock table.
use Rattle.st_lemmas.proofs.Words
use Words.{◌≡◌, ℕ, Bool, true, false, ◌&&◌, List, [], ◌∷◌, ◌==◌, refl, sym, ap, ◌∙◌, not, find, map, Some, None, eq-eqb, eqb-true, ClientId, GrantNo, Life}
use Words.{Mode, LockRow, RowDemand}
use Words.modes
use Words.Locks as locks
use Words.Locks.{Locks, is_row_of, is_row_by, row_of, new_row, grant, queue, wait_of, lowered, lower, release_to, observe, answered_row, demanded, demand_of}
use Words.Locks.{with_demand, installed, with_rows}
use Words.ServerInvariants.{are_once, same_row}
use Words.Lists.{Has}
use Words.Tables.{and_true, and_both, and_right, cond_either, none_has, has_map}
use Words.Truth.{eqb_turned}
use Rattle.st_laws_refine.specs.Views.Messages.{is_row_on, on_same_file}
use Rattle.st_lemmas.proofs.Once.{once_none, once_filter, once_map, once_put, once_append, once_first, once_rest, once_both, found_once}
use Rattle.st_laws_refine.proofs.Server.Locking.{queue_rows}
use Rattle.st_laws_refine.specs.Server.Edits.{Acquired, AtOnce, InTurn}

-- a client has one row on a file
abbrev pub OnceEach : Locks → Type 0
OnceEach l = are_once same_row l.rows ≡ true

-- two rows of one key
own_row : (r : LockRow) → same_row r r ≡ true
own_row r = and_both _ _ (eq-eqb r.client.0 r.client.0 refl) (eq-eqb r.ino r.ino refl)

row_flip : (r q : LockRow) → same_row r q ≡ same_row q r
row_flip r q = ap (λ a. a && (q.ino == r.ino)) (eqb_turned q.client.0 r.client.0) ∙ ap (λ b. (r.client.0 == q.client.0) && b) (eqb_turned q.ino r.ino)

-- so it is found by client and file
pub row_found : (l : Locks) → OnceEach l → (r : LockRow) → Has r l.rows → row_of l r.client r.ino ≡ Some r
row_found l e r h = found_once same_row own_row row_flip l.rows e r h

-- so is a row of a reassertion
pub alone : (rows : List (ℕ × GrantNo × Mode)) → are_once on_same_file rows ≡ true → (r : ℕ × GrantNo × Mode) → Has r rows → find (is_row_on r.0) rows ≡ Some r
alone rows e r h = found_once on_same_file (λ x. eq-eqb x.0 x.0 refl) (λ x y. eqb_turned y.0 x.0) rows e r h

-- a change of rows that leaves client and file
record Keyed (f : LockRow → LockRow) : Type 0 where
  client : (r : LockRow) → (f r).client ≡ r.client
  ino : (r : LockRow) → (f r).ino ≡ r.ino

keyed_once : (f : LockRow → LockRow) (l v : Locks) → v.rows ≡ map f l.rows → Keyed f → OnceEach l → OnceEach v
keyed_once f l v e k o =
    ap (are_once same_row) e
    ∙ once_map same_row f (λ x y. ap (λ c. same_row (record x { client = c; ino = (f x).ino }) (f y)) (k.client x) ∙ same x y) l.rows o
  where
    same : (x y : LockRow) → same_row (record x { ino = (f x).ino }) (f y) ≡ same_row x y
    same x y = ap (λ i. same_row (record x { ino = i }) (f y)) (k.ino x) ∙ ap (λ c. (c.0 == x.client.0) && ((f y).ino == x.ino)) (k.client y) ∙ ap (λ i. (y.client.0 == x.client.0) && (i == x.ino)) (k.ino y)

rows_once : (l v : Locks) → v.rows ≡ l.rows → OnceEach l → OnceEach v
rows_once l v e o = ap (are_once same_row) e ∙ o

pub forget_once : (l : Locks) (c : ClientId) → OnceEach l → OnceEach (locks.forget l c)
unfolding locks.forget
forget_once l c o = once_filter same_row (λ r. not (is_row_by c r)) l.rows o

pub drop_once : (l : Locks) (c : ClientId) → OnceEach l → OnceEach (locks.drop_waits l c)
unfolding locks.drop_waits
drop_once l c o = o

pub file_once : (l : Locks) (ino : ℕ) → OnceEach l → OnceEach (locks.drop_file_waits l ino)
unfolding locks.drop_file_waits
file_once l ino o = o

pub seen_once : (l : Locks) (c : ClientId) (ino : ℕ) (g : GrantNo) → OnceEach l → OnceEach (locks.demand_seen l c ino g)
unfolding locks.demand_seen answered_row
seen_once l c ino g o =
    keyed_once (observe c ino g) l (locks.demand_seen l c ino g) refl
    (record {
      client = λ r. cond_either (λ (x : LockRow). x.client ≡ r.client) (is_row_of c ino r && (r.g.0 == g.0)) (answered_row r) r (λ e. refl) (λ e. refl);
      ino = λ r. cond_either (λ (x : LockRow). x.ino ≡ r.ino) (is_row_of c ino r && (r.g.0 == g.0)) (answered_row r) r (λ e. refl) (λ e. refl);
    }) o

pub demanded_once : (l : Locks) (y : LockRow) (x : RowDemand) → OnceEach l → OnceEach (with_demand y x l)
unfolding demanded
demanded_once l y x o =
    keyed_once (demand_of y.client y.ino x) l (with_demand y x l) refl
    (record {
      client = λ r. cond_either (λ (z : LockRow). z.client ≡ r.client) (is_row_of y.client y.ino r) (demanded x r) r (λ e. refl) (λ e. refl);
      ino = λ r. cond_either (λ (z : LockRow). z.ino ≡ r.ino) (is_row_of y.client y.ino r) (demanded x r) r (λ e. refl) (λ e. refl);
    }) o

pub queued_once : (l : Locks) (c : ClientId) (life : Life) (ino : ℕ) (mode : Mode) → OnceEach l → OnceEach (queue l c life ino mode)
unfolding queue
queued_once l c life ino mode o = rows_once l (queue l c life ino mode) (queue_rows l c life ino mode (wait_of l c ino)) o

lower_keyed : (c : ClientId) (ino : ℕ) → Keyed (lower c ino)
unfolding lowered
lower_keyed c ino =
    record {
      client = λ r. cond_either (λ (z : LockRow). z.client ≡ r.client) (is_row_of c ino r) (lowered r) r (λ e. refl) (λ e. refl);
      ino = λ r. cond_either (λ (z : LockRow). z.ino ≡ r.ino) (is_row_of c ino r) (lowered r) r (λ e. refl) (λ e. refl);
    }

pub released_once : (l : Locks) (c : ClientId) (ino : ℕ) (to : Mode) → OnceEach l → OnceEach (release_to l c ino to)
unfolding release_to
released_once l c ino modes.None o = once_filter same_row (λ r. not (is_row_of c ino r)) l.rows o
released_once l c ino modes.S o = keyed_once (lower c ino) l (release_to l c ino modes.S) refl (lower_keyed c ino) o
released_once l c ino modes.X o = keyed_once (lower c ino) l (release_to l c ino modes.X) refl (lower_keyed c ino) o

-- a grant takes the place of the client's row of the file
pub granted_once : (l : Locks) (c : ClientId) (life : Life) (ino : ℕ) (mode : Mode) → OnceEach l → OnceEach (grant l c life ino mode)
unfolding grant
granted_once l c life ino mode o = once_put same_row (is_row_of c ino) (new_row l c life ino mode) in_place (λ y e. row_flip y (new_row l c life ino mode) ∙ e) l.rows o
  where
    in_place : (y z : LockRow) → is_row_of c ino y ≡ true → same_row (new_row l c life ino mode) z ≡ same_row y z
    in_place y z e =
        let p = and_true _ _ e in
        ap (λ n. (z.client.0 == n) && (z.ino == ino)) (sym (eqb-true y.client.0 c.0 p.0)) ∙ ap (λ i. (z.client.0 == y.client.0) && (z.ino == i)) (sym (eqb-true y.ino ino p.1))

pub acquired_once : (g : Bool) (l : Locks) (c : ClientId) (life : Life) (ino : ℕ) (mode : Mode) (v : Locks) → Acquired g l c life ino mode v → OnceEach l → OnceEach v
acquired_once g l c life ino mode v (AtOnce off w f nobody) o = granted_once l c life ino mode o
acquired_once g l c life ino mode v (InTurn w) o = queued_once l c life ino mode o

-- rows that are installed if the client had none, each file once
installed_rows : (c : ClientId) (life : Life) (rs : List (ℕ × GrantNo × Mode)) → are_once on_same_file rs ≡ true → are_once same_row (map (installed c life) rs) ≡ true
installed_rows c life [] e = once_none same_row
installed_rows c life (r ∷ rs) e =
    once_both same_row (installed c life r) (map (installed c life) rs)
    (λ y h. let m = has_map (installed c life) rs y h in
    ap (same_row (installed c life r)) m.2 ∙ and_right (c.0 == c.0) (m.0.0 == r.0) (once_first on_same_file r rs e m.0 m.1))
    (installed_rows c life rs (once_rest on_same_file r rs e))

pub installed_once : (l : Locks) (c : ClientId) (life : Life) (rs : List (ℕ × GrantNo × Mode)) → ((ino : ℕ) → row_of l c ino ≡ None) → are_once on_same_file rs ≡ true → OnceEach l → OnceEach (with_rows l c life rs)
unfolding with_rows
installed_once l c life rs none e o = once_append same_row l.rows (map (installed c life) rs) o (installed_rows c life rs e) apart
  where
    apart : (x y : LockRow) → Has x l.rows → Has y (map (installed c life) rs) → same_row x y ≡ false
    apart x y h i =
        let m = has_map (installed c life) rs y i in
        ap (same_row x) m.2 ∙ row_flip x (installed c life m.0) ∙ none_has (is_row_of c m.0.0) l.rows (none m.0.0) x h
