-- After a granting pass each first waiter has a row of another client in its way: each grant takes a waiter, so the pass has as many turns as there are
-- waiters, and a grant leaves the other files as they are.
use Rattle.st_lemmas.proofs.Words
use Words.{◌≡◌, ◌≢◌, ℕ, zero, suc, ◌≤◌, ◌<◌, ◌⊎◌, Bool, true, false, not, List, [], ◌∷◌, ◌==◌, refl, sym, ap, ◌∙◌, subst, inl, inr, arith, cond, find, filter}
use Words.{length, map, Option, Some, None, list_any, eqb-true, ne_eqb, ClientId, GrantNo, Life, Mode, LockRow, Waiter}
use Words.Locks as locks
use Words.Locks.{Granting, Locks, grant, grant_and, grant_file, grant_files, grant_waiter, grantable, is_row_of, is_wait_of, is_wait_on, new_row, next_grants}
use Words.Locks.{next_waiter, stands_against, waited_files}
use Words.Server.{ServerTurn, grant_by, grant_waiting, tell, tell_granted, with_locks}
use Words.Lists.{Has}
use Words.Tables.{and_right, and_true, cond_either, find_kept, found_at, has_map_in, same_or_not, some_passes}
use Words.Members.{some_member_passes}
use Words.Serving.{own_wait}
use Words.Tests.{filtered_no_longer}
use Words.Truth.{not_both}
use Rattle.st_lemmas.proofs.Keys.{rising_has_in}
use Rattle.st_lemmas.proofs.Puts.{has_put_other}
use Rattle.st_laws_waits.specs.Bounds.{AllBlocked}

-- the first waiter of this file has a row in its way
abbrev pub BlockedOn : ℕ → Locks → Type 0
BlockedOn ino l = (w : Waiter) → find (is_wait_on ino) l.waiters ≡ Some w → list_any (stands_against w.client w.ino w.mode) l.rows ≡ true

one_less : {A : Type 0} (q : A → Bool) (x : A) (xs : List A) → Has x xs → q x ≡ false → length (filter q xs) < length xs
one_less q x [] h e = elim h [ ]
one_less {A} q x (y ∷ ys) h e = cond_either (λ zs. length zs < suc (length ys)) (q y) (y ∷ filter q ys) (filter q ys) (λ f. by f h (λ i. one_less q x ys i e)) (λ f. let r = filtered_no_longer q ys in omega (arith, r))
  where
    by : q y ≡ true → (x ≡ y) ⊎ Has x ys → (Has x ys → length (filter q ys) < length ys) → length (y ∷ filter q ys) < suc (length ys)
    by f (inl g) r = absurd (not_both (q y) f (sym (ap q g) ∙ e))
    by f (inr i) r = let z = r i in omega (arith, z)

granted_less : (l : Locks) (w : Waiter) → Has w l.waiters → length (grant l w.client w.life w.ino w.mode).waiters < length l.waiters
unfolding grant
granted_less l w h = one_less (λ v. not (is_wait_of w.client w.ino v)) w l.waiters h (ap not (own_wait w))

-- what is found as the next waiter is the first one, and nothing is in its way
next_is : (l : Locks) (ino : ℕ) (w : Waiter) → next_waiter l ino ≡ Some w → find (is_wait_on ino) l.waiters ≡ Some w
next_is l ino w e = go (find (is_wait_on ino) l.waiters) e
  where
    by : (v : Waiter) (b : Bool) → cond b None (Some v) ≡ Some w → ◌≡◌ {A = Option Waiter} (Some v) (Some w)
    by v true e = cc
    by v false e = e

    go : (o : Option Waiter) → grantable l o ≡ Some w → o ≡ Some w
    go None e = cc
    go (Some v) e = by v (list_any (stands_against v.client v.ino v.mode) l.rows) e

none_next : (l : Locks) (ino : ℕ) → next_waiter l ino ≡ None → BlockedOn ino l
none_next l ino e w f = go (list_any (stands_against w.client w.ino w.mode) l.rows) refl (sym (ap (grantable l) f) ∙ e)
  where
    go : (b : Bool) → list_any (stands_against w.client w.ino w.mode) l.rows ≡ b → cond b None (Some w) ≡ None → b ≡ true
    go true q e = refl
    go false q e = cc

empty : {A : Type 0} (xs : List A) → length xs ≤ 0 → xs ≡ []
empty [] l = refl
empty (x ∷ xs) l = absurd (omega arith)

-- nobody waits
none_waits : (ino : ℕ) (l : Locks) → length l.waiters ≤ 0 → BlockedOn ino l
none_waits ino l z w e = no (sym (ap (find (is_wait_on ino)) (empty l.waiters z)) ∙ e)
  where
    no : ◌≡◌ {A = Option Waiter} None (Some w) → list_any (stands_against w.client w.ino w.mode) l.rows ≡ true
    no z = cc

-- grants of one file
file_blocked : (ino k : ℕ) (p : Granting) → length p.locks.waiters ≤ k → BlockedOn ino (grant_file ino k p).locks
unfolding grant_file grant_waiter
file_blocked ino zero p l = none_waits ino p.locks l
file_blocked ino (suc k) p l = go (next_waiter p.locks ino) refl (λ q m. file_blocked ino k q m)
  where
    go : (o : Option Waiter) → next_waiter p.locks ino ≡ o → ((q : Granting) → length q.locks.waiters ≤ k → BlockedOn ino (grant_file ino k q).locks) →
        BlockedOn ino (grant_and (grant_file ino k) p o).locks
    go None e r = none_next p.locks ino e
    go (Some w) e r = r (grant_waiter p w) (let z = granted_less p.locks w (found_at (is_wait_on ino) p.locks.waiters w (next_is p.locks ino w e)).1 in omega (arith, z, l))

-- a grant on one file leaves the waiters of another blocked
elsewhere : (l : Locks) (c : ClientId) (life : Life) (ino j : ℕ) (mode : Mode) → j ≢ ino → BlockedOn j l → BlockedOn j (grant l c life ino mode)
unfolding grant
elsewhere l c life ino j mode ne b w e =
    some_passes (stands_against w.client w.ino w.mode) _ z.0
    (has_put_other (is_row_of c ino) (new_row l c life ino mode) l.rows z.0 z.1 (and_right (z.0.client.0 == c.0) (z.0.ino == ino) (ne_eqb z.0.ino ino (λ y. ne (sym file ∙ y))))) z.2
  where
    same : find (is_wait_on j) (locks.without_wait c ino l.waiters) ≡ find (is_wait_on j) l.waiters
    same = find_kept (is_wait_on j) (λ v. not (is_wait_of c ino v)) (λ v h. ap not (and_right (v.client.0 == c.0) (v.ino == ino) (ne_eqb v.ino ino (λ y. ne (sym (eqb-true v.ino j h) ∙ y))))) l.waiters

    first : find (is_wait_on j) l.waiters ≡ Some w
    first = sym same ∙ e

    z : (x : LockRow) × Has x l.rows × (stands_against w.client w.ino w.mode x ≡ true)
    z = some_member_passes (stands_against w.client w.ino w.mode) l.rows (b w first)

    file : z.0.ino ≡ j
    file = eqb-true z.0.ino w.ino (and_true (z.0.ino == w.ino) _ z.2).0 ∙ eqb-true w.ino j (found_at (is_wait_on j) l.waiters w first).0

file_elsewhere : (ino j k : ℕ) (p : Granting) → j ≢ ino → BlockedOn j p.locks → BlockedOn j (grant_file ino k p).locks
unfolding grant_file grant_waiter
file_elsewhere ino j zero p ne b = b
file_elsewhere ino j (suc k) p ne b = go (next_waiter p.locks ino) refl (λ q m. file_elsewhere ino j k q ne m)
  where
    go : (o : Option Waiter) → next_waiter p.locks ino ≡ o → ((q : Granting) → BlockedOn j q.locks → BlockedOn j (grant_file ino k q).locks) →
        BlockedOn j (grant_and (grant_file ino k) p o).locks
    go None e r = b
    go (Some w) e r =
        let f = eqb-true w.ino ino (found_at (is_wait_on ino) p.locks.waiters w (next_is p.locks ino w e)).0 in
        r (grant_waiter p w) (elsewhere p.locks w.client w.life w.ino j w.mode (λ y. ne (y ∙ f)) b)

files_blocked : (inos : List ℕ) (p : Granting) → ((j : ℕ) → (Has j inos → ⊥) → BlockedOn j p.locks) → (j : ℕ) → BlockedOn j (grant_files inos p).locks
unfolding grant_files
files_blocked [] p b j = b j (λ h. elim h [ ])
files_blocked (ino ∷ inos) p b j = files_blocked inos (grant_file ino (length p.locks.waiters) p) (λ i out. go i out (same_or_not i ino)) j
  where
    not_in : (i : ℕ) → (Has i inos → ⊥) → i ≢ ino → (i ≡ ino) ⊎ Has i inos → ⊥
    not_in i out ne (inl e) = ne e
    not_in i out ne (inr h) = out h

    go : (i : ℕ) → (Has i inos → ⊥) → (i ≡ ino) ⊎ (i ≢ ino) → BlockedOn i (grant_file ino (length p.locks.waiters) p).locks
    go i out (inl e) = subst (λ f. BlockedOn f (grant_file ino (length p.locks.waiters) p).locks) (sym e) (file_blocked ino (length p.locks.waiters) p (omega arith))
    go i out (inr ne) = file_elsewhere ino i (length p.locks.waiters) p ne (b i (not_in i out ne))

pub grants_blocked : (l : Locks) → AllBlocked (next_grants l).locks
unfolding next_grants
grants_blocked l = files_blocked (waited_files l) (locks.nothing_granted l) (λ j out w e. absurd (out (waited j w e)))
  where
    waited : (j : ℕ) (w : Waiter) → find (is_wait_on j) l.waiters ≡ Some w → Has j (waited_files l)
    waited j w e =
        let z = found_at (is_wait_on j) l.waiters w e in
        rising_has_in _ j (subst (λ f. Has f (map locks.ino_of_wait l.waiters)) (eqb-true w.ino j z.0) (has_map_in locks.ino_of_wait l.waiters w z.1))

-- what is reported about grants changes no state
pub granted_told : (rs : List (ClientId × Life × ℕ × GrantNo × Mode)) (t : ServerTurn) → (tell_granted rs t).state ≡ t.state
unfolding tell_granted tell
granted_told [] t = refl
granted_told (r ∷ rs) t = granted_told rs (tell t r.0 r.1 (Rattle.st_messages.specs.declared.message.Body.TheVariants.Granted r.2 r.3 r.4))

pub waiting_blocked : (t : ServerTurn) → AllBlocked (grant_waiting t).state.locks
unfolding grant_waiting grant_by
waiting_blocked t = subst (λ (s : Rattle.st_rules.specs.Server.ServerState). AllBlocked s.locks) (sym (granted_told (next_grants t.state.locks).granted (with_locks (next_grants t.state.locks).locks t))) (grants_blocked t.state.locks)
