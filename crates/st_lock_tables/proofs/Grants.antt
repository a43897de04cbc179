-- Grants to those who wait.
use Rattle.std.proofs.Common.{◌≡◌, ℕ, suc, ◌+◌, ◌<◌, ◌≤◌, Bool, true, cond, if◌then◌else◌, List, [], ◌∷◌, length, refl, sym, ap, subst, ◌∙◌, ⊎_elim, arith, eq-eqb}
use Rattle.std.specs.Prelude.{filter, find, not, Option, Some, None}
use Rattle.std.specs.List.{list_any}
use Rattle.std.proofs.lemmas.Bool.{cases_Bool}
use Rattle.st_base.specs.declared.ids.ClientId.{ClientId}
use Rattle.st_base.specs.declared.ids.Life.{Life}
use Rattle.st_base.specs.declared.ids.GrantNo.{GrantNo}
use Rattle.st_base.specs.declared.mode.Mode.{Mode}
use Rattle.st_rules.specs.declared.locks.Waiter.{Waiter}
use Rattle.st_rules.specs.Locks.{Locks, is_wait_of, is_wait_on, stands_against, grantable, next_waiter, grant_waiter, grant, without_wait, grant_file, grant_and}
use Rattle.st_lock_tables.specs.Calls.{granting}

length_kept : {X : Type 0} (p : X → Bool) (xs : List X) → length (filter p xs) ≤ length xs
length_kept p [] = omega arith
length_kept p (x ∷ xs) =
    let rest = length_kept p xs in
    ⊎_elim
    (λ q. subst (λ b. length (cond b (x ∷ filter p xs) (filter p xs)) ≤ length (x ∷ xs)) (sym q) (omega (arith, rest)))
    (λ q. subst (λ b. length (cond b (x ∷ filter p xs) (filter p xs)) ≤ length (x ∷ xs)) (sym q) (omega (arith, rest)))
    (cases_Bool (p x))

pub length_without : {X : Type 0} (p q : X → Bool) (w : X) (xs : List X) → find p xs ≡ Some w → q w ≡ true → length (filter (λ x. not (q x)) xs) + 1 ≤ length xs
length_without p q w [] e t = cc
length_without p q w (x ∷ xs) e t =
    ⊎_elim
    (λ a.
    let e' : Some x ≡ Some w = rw a at e in
    let s : x ≡ w = cc in
    let u : q x ≡ true = ap q s ∙ t in
    let k = length_kept (λ y. not (q y)) xs in
    subst (λ b. length (cond (not b) (x ∷ filter (λ y. not (q y)) xs) (filter (λ y. not (q y)) xs)) + 1 ≤ length (x ∷ xs)) (sym u) (omega (arith, k)))
    (λ a.
    let e' : find p xs ≡ Some w = rw a at e in
    let rest = length_without p q w xs e' t in
    ⊎_elim
    (λ u. subst (λ b. length (cond (not b) (x ∷ filter (λ y. not (q y)) xs) (filter (λ y. not (q y)) xs)) + 1 ≤ length (x ∷ xs)) (sym u) (omega (arith, rest)))
    (λ u. subst (λ b. length (cond (not b) (x ∷ filter (λ y. not (q y)) xs) (filter (λ y. not (q y)) xs)) + 1 ≤ length (x ∷ xs)) (sym u) (omega (arith, rest)))
    (cases_Bool (q x)))
    (cases_Bool (p x))

pub same_wait : (w : Waiter) → is_wait_of w.client w.ino w ≡ true
same_wait w = rw (eq-eqb w.client.0 w.client.0 refl, eq-eqb w.ino w.ino refl) refl

pub grantable_found : (l : Locks) (o : Option Waiter) (w : Waiter) → Some w ≡ grantable l o → o ≡ Some w
grantable_found l None w e = cc
grantable_found l (Some v) w e =
    ⊎_elim
    (λ q. let e' : Some w ≡ None = e ∙ ap (λ b. if b then None else Some v) q in cc)
    (λ q. let e' : Some w ≡ Some v = e ∙ ap (λ b. if b then None else Some v) q in sym e')
    (cases_Bool (list_any (stands_against v.client v.ino v.mode) l.rows))

-- a grant leaves as many grants and waits, or fewer
pub room_after : (old new : Locks) (gs hs : List (ClientId × Life × ℕ × GrantNo × Mode)) (w : Waiter) (ino n : ℕ) → granting new hs ≡ grant_waiter (granting old gs) w → Some w ≡ next_waiter old ino → old.grants + length old.waiters < n → new.grants + length new.waiters < n
unfolding grant_waiter grant
room_after old new gs hs w ino n e next h =
    let s : new ≡ (grant_waiter (granting old gs) w).locks = ap (λ p. p.locks) e in
    let a : new.grants ≡ old.grants + 1 = ap (λ l. l.grants) s in
    let b : length new.waiters ≡ length (without_wait w.client w.ino old.waiters) = ap (λ l. length l.waiters) s in
    let c : length (without_wait w.client w.ino old.waiters) + 1 ≤ length old.waiters = length_without (is_wait_on ino) (is_wait_of w.client w.ino) w old.waiters (grantable_found old (find (is_wait_on ino) old.waiters) w next) (same_wait w) in
    omega (arith, a, b, c, h)

-- one more waiter of a file is granted
pub grants_on : (old new : Locks) (gs hs : List (ClientId × Life × ℕ × GrantNo × Mode)) (w : Waiter) (ino n : ℕ) → granting new hs ≡ grant_waiter (granting old gs) w → Some w ≡ next_waiter old ino → grant_file ino n (granting new hs) ≡ grant_file ino (suc n) (granting old gs)
unfolding grant_file
grants_on old new gs hs w ino n e next = ap (grant_file ino n) e ∙ ap (grant_and (grant_file ino n) (granting old gs)) next
