-- What the changes of the tables are for this client: those of other clients' rows, and of its own.
use Rattle.st_lemmas.proofs.Words
use Words.{◌≡◌, ◌≢◌, ℕ, Bool, true, false, List, [], ◌∷◌, ◌==◌, refl, sym, ap, ◌∙◌, subst, not, cond, nat_lt, find, Option, Some, None}
use Words.{option_map, eq-eqb, ne_eqb, eqb-true, ClientId, Life, LockRow, Mode, RowDemand, Waiter, Session, Suspect}
use Words.Keys.{client}
use Words.Locks.{Locks, is_row_by, is_row_of, is_wait_by, is_wait_of, row_of, forget, drop_waits, grant, new_row, demanded, demand_of, with_demand}
use Words.Sessions.{Sessions, is_session_of, session_of, with_session, ended, end}
use Words.Authority.{is_suspect, with_suspect, suspect_placed}
use Words.Lists.{Has}
use Words.Tables.{and_true, and_both, and_left, and_right, not_true, cond_false, cond_either, find_map, find_kept, find_gone, find_first, find_next, has_filter}
use Words.Tables.{find_other, find_own}
use Rattle.st_laws_refine.specs.Views.Halves.{row_view}
use Rattle.st_lemmas.proofs.Puts.{find_put, find_put_by, find_put_other}

-- tests of one client fail at another's rows
pub is_not : (c d x : ℕ) → c ≢ d → (x == d) ≡ true → (x == c) ≡ false
is_not c d x ne e = ne_eqb x c (λ z. ne (sym z ∙ eqb-true x d e))

pub row_not : (c : ClientId) (d i ino : ℕ) → c.0 ≢ d → (r : LockRow) → is_row_of (client d) i r ≡ true → is_row_of c ino r ≡ false
row_not c d i ino ne r e = and_left _ _ (is_not c.0 d r.client.0 ne (and_true (r.client.0 == d) _ e).0)

pub row_not_ino : (c : ClientId) (d i ino : ℕ) → i ≢ ino → (r : LockRow) → is_row_of (client d) i r ≡ true → is_row_of c ino r ≡ false
row_not_ino c d i ino ne r e = and_right (r.client.0 == c.0) _ (ne_eqb r.ino ino (λ z. ne (sym (eqb-true r.ino i (and_true (r.client.0 == d) _ e).1) ∙ z)))

-- locks of other clients
pub forget_row : (l : Locks) (c : ClientId) (d i : ℕ) → c.0 ≢ d → row_of (forget l c) (client d) i ≡ row_of l (client d) i
unfolding forget
forget_row l c d i ne = find_kept (is_row_of (client d) i) (λ r. not (is_row_by c r)) (λ r e. ap not (is_not c.0 d r.client.0 ne (and_true (r.client.0 == d) _ e).0)) l.rows

pub forget_own : (l : Locks) (c : ClientId) (d i : ℕ) → c.0 ≡ d → row_of (forget l c) (client d) i ≡ None
unfolding forget
forget_own l c d i e = find_gone (is_row_of (client d) i) (λ r. not (is_row_by c r)) (λ r h. ap not (subst (λ x. (r.client.0 == x) ≡ true) (sym e) (and_true (r.client.0 == d) _ h).0)) l.rows

pub forget_wait : (l : Locks) (c : ClientId) (w : Waiter) → Has w (forget l c).waiters → Has w l.waiters × (w.client.0 ≢ c.0)
unfolding forget
forget_wait l c w h = let r = has_filter (λ w. not (is_wait_by c w)) l.waiters w h in (r.0, λ e. let z = not_true _ r.1 in let y = eq-eqb w.client.0 c.0 e in cc)

pub drop_wait : (l : Locks) (c : ClientId) (w : Waiter) → Has w (drop_waits l c).waiters → Has w l.waiters × (w.client.0 ≢ c.0)
unfolding drop_waits
drop_wait l c w h = let r = has_filter (λ w. not (is_wait_by c w)) l.waiters w h in (r.0, λ e. let z = not_true _ r.1 in let y = eq-eqb w.client.0 c.0 e in cc)

-- sessions
pub end_other : (t : Sessions) (c : ClientId) (d : ℕ) → c.0 ≢ d → session_of (end t c) (client d) ≡ session_of t (client d)
unfolding end ended
end_other t c d ne = find_other (is_session_of (client d)) (is_session_of c) ended (λ s. refl) (λ s e. is_not c.0 d s.client.0 ne e) t.rows

pub end_own : (t : Sessions) (c : ClientId) (d : ℕ) → c.0 ≡ d → session_of (end t c) (client d) ≡ option_map ended (session_of t (client d))
unfolding end ended
end_own t c d e = find_own (is_session_of (client d)) (is_session_of c) ended (λ s. refl) (λ s h. subst (λ x. (s.client.0 == x) ≡ true) (sym e) h) t.rows

pub session_other : (t : Sessions) (s : Session) (d : ℕ) → s.client.0 ≢ d → session_of (with_session s t) (client d) ≡ session_of t (client d)
session_other t s d ne = find_put_other (is_session_of (client d)) (is_session_of s.client) s t.rows (ne_eqb s.client.0 d ne) (λ r e. is_not s.client.0 d r.client.0 ne e)

pub session_own : (t : Sessions) (s : Session) (d : ℕ) → s.client.0 ≡ d → session_of (with_session s t) (client d) ≡ Some s
session_own t s d e = find_put_by (is_session_of (client d)) (is_session_of s.client) s t.rows (eq-eqb s.client.0 d e) (λ r h. subst (λ x. (r.client.0 == x) ≡ true) (sym e) h)

-- timers
pub suspect_other : (s : Suspect) (d : ℕ) → s.client.0 ≢ d → (xs : List Suspect) → find (is_suspect (client d)) (with_suspect s xs) ≡ find (is_suspect (client d)) xs
unfolding with_suspect suspect_placed
suspect_other s d ne [] = find_next (is_suspect (client d)) s [] (ne_eqb s.client.0 d ne)
suspect_other s d ne (x ∷ xs) =
    cond_either (λ ys. find (is_suspect (client d)) ys ≡ find (is_suspect (client d)) (x ∷ xs)) (nat_lt s.client.0 x.client.0) (s ∷ (x ∷ xs)) (x ∷ with_suspect s xs)
    (λ e. find_next (is_suspect (client d)) s (x ∷ xs) (ne_eqb s.client.0 d ne))
    (λ e. ap (cond (is_suspect (client d) x) (Some x)) (suspect_other s d ne xs))

pub suspect_own : (s : Suspect) (d : ℕ) → s.client.0 ≡ d → (xs : List Suspect) → find (is_suspect (client d)) xs ≡ None → find (is_suspect (client d)) (with_suspect s xs) ≡ Some s
unfolding with_suspect suspect_placed
suspect_own s d e [] h = find_first (is_suspect (client d)) s [] (eq-eqb s.client.0 d e)
suspect_own s d e (x ∷ xs) h =
    cond_either (λ ys. find (is_suspect (client d)) ys ≡ Some s) (nat_lt s.client.0 x.client.0) (s ∷ (x ∷ xs)) (x ∷ with_suspect s xs)
    (λ f. find_first (is_suspect (client d)) s (x ∷ xs) (eq-eqb s.client.0 d e))
    (λ f. go (is_suspect (client d) x) refl h (λ z. suspect_own s d e xs z))
  where
    go : (b : Bool) → is_suspect (client d) x ≡ b → cond b (Some x) (find (is_suspect (client d)) xs) ≡ None → (find (is_suspect (client d)) xs ≡ None → find (is_suspect (client d)) (with_suspect s xs) ≡ Some s) →
        cond (is_suspect (client d) x) (Some x) (find (is_suspect (client d)) (with_suspect s xs)) ≡ Some s
    go true g h i = cc
    go false g h i = cond_false _ _ _ g ∙ i h

-- a grant
pub grant_other : (l : Locks) (c : ClientId) (life : Life) (ino : ℕ) (mode : Mode) (d i : ℕ) → c.0 ≢ d → row_of (grant l c life ino mode) (client d) i ≡ row_of l (client d) i
unfolding grant
grant_other l c life ino mode d i ne = find_put_other (is_row_of (client d) i) (is_row_of c ino) (new_row l c life ino mode) l.rows (and_left _ _ (ne_eqb c.0 d ne)) (λ r e. row_not c d i ino ne r e)

pub grant_elsewhere : (l : Locks) (c : ClientId) (life : Life) (ino : ℕ) (mode : Mode) (d i : ℕ) → i ≢ ino → row_of (grant l c life ino mode) (client d) i ≡ row_of l (client d) i
unfolding grant
grant_elsewhere l c life ino mode d i ne = find_put_other (is_row_of (client d) i) (is_row_of c ino) (new_row l c life ino mode) l.rows (and_right (c.0 == d) _ (ne_eqb ino i (λ e. ne (sym e)))) (λ r e. row_not_ino c d i ino ne r e)

pub grant_own : (l : Locks) (c : ClientId) (life : Life) (ino : ℕ) (mode : Mode) → row_of (grant l c life ino mode) c ino ≡ Some (new_row l c life ino mode)
unfolding grant
grant_own l c life ino mode = find_put (is_row_of c ino) (new_row l c life ino mode) l.rows (and_both _ _ (eq-eqb c.0 c.0 refl) (eq-eqb ino ino refl))

pub grant_wait : (l : Locks) (c : ClientId) (life : Life) (ino : ℕ) (mode : Mode) (w : Waiter) → Has w (grant l c life ino mode).waiters → Has w l.waiters × (w.client.0 ≡ c.0 → w.ino ≢ ino)
unfolding grant
grant_wait l c life ino mode w h =
    let r = has_filter (λ w. not (is_wait_of c ino w)) l.waiters w h in
    (r.0, λ e f. let z = not_true _ r.1 in let y = and_both _ _ (eq-eqb w.client.0 c.0 e) (eq-eqb w.ino ino f) in cc)

-- a demand changes nothing that a client sees
view_demanded : (c : ClientId) (ino : ℕ) (x : RowDemand) (o : Option LockRow) → row_view (option_map (demand_of c ino x) o) ≡ row_view o
unfolding demanded
view_demanded c ino x None = refl
view_demanded c ino x (Some r) = cond_either (λ y. row_view (Some y) ≡ row_view (Some r)) (is_row_of c ino r) (demanded x r) r (λ e. refl) (λ e. refl)

pub demand_view : (l : Locks) (r : LockRow) (x : RowDemand) (d i : ℕ) → row_view (row_of (with_demand r x l) (client d) i) ≡ row_view (row_of l (client d) i)
unfolding demanded
demand_view l r x d i =
    ap row_view (find_map (is_row_of (client d) i) (demand_of r.client r.ino x)
    (λ y. cond_either (λ z. is_row_of (client d) i z ≡ is_row_of (client d) i y) (is_row_of r.client r.ino y) (demanded x y) y (λ e. refl) (λ e. refl)) l.rows)
    ∙ view_demanded r.client r.ino x (row_of l (client d) i)
